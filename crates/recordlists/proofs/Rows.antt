-- The tests of rows: each entry is above the one before it.
use Rattle.std.proofs.Common.{ℕ, List, map, None, refl, sym, ap}
use Rattle.std.specs.Ordering.{nat_cmp, is_lt}
use Rattle.std.specs.Cmp.{nat_cmp_is}
use Rattle.std.specs.List.Sorted.{IsStrictlyIncreasing}
use Rattle.std.specs.declared.cmp.Ordering.TheVariants.{Less}
use Rattle.std.proofs.lemmas.Bool.{lt-ltb, ltb-true}
use Rattle.std.proofs.lemmas.Cmp.{nat_cmp_total}
use Rattle.std.proofs.lemmas.Map.Keys.{IsStrictlyIncreasing-from_sorted, sorted_from_strictly_increasing}
use Rattle.lists.proofs.Rising.{Row, Tests, less-from_cmp, less-from_is_lt, sorted-from_row, row-from_sorted}
use Rattle.names.specs.Slots.{slot_cmp}
use Rattle.names.proofs.CompareLaws.{slot_total}
use Rattle.recordlists.specs.Entries.{is_above}
use Rattle.recordparts.specs.Slots.{is_slot_above}

pub number_tests : Tests is_above nat_cmp
number_tests = record {
  first = λ k. refl;
  to_less = λ b k h. sym (nat_cmp_is b k Less (ltb-true b k h));
  from_less = λ b k h. lt-ltb b k (less-from_cmp b k h);
  trans = nat_cmp_total.trans;
}

pub slot_tests : Tests is_slot_above slot_cmp
slot_tests = record {
  first = λ k. refl;
  to_less = λ b k h. less-from_is_lt (slot_cmp b k) h;
  from_less = λ b k h. ap is_lt h;
  trans = slot_total.trans;
}

-- the same of numbers, in the words of a line
pub numbers-from_row : {X : Type 0} (key : X → ℕ) (xs : List X) → Row is_above key None xs → IsStrictlyIncreasing (map key xs)
numbers-from_row key xs row = IsStrictlyIncreasing-from_sorted (map key xs) (sorted-from_row is_above nat_cmp number_tests key None xs row)

pub row-from_numbers : {X : Type 0} (key : X → ℕ) (xs : List X) → IsStrictlyIncreasing (map key xs) → Row is_above key None xs
row-from_numbers key xs up = row-from_sorted is_above nat_cmp number_tests key xs (sorted_from_strictly_increasing (map key xs) up)
