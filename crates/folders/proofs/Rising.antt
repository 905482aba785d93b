-- Paths that rise, one above the one before it.
use Rattle.std.proofs.Common.{List, Option, None, refl, ap}
use Rattle.std.specs.List.Sorted.{IsStrictlySortedBy}
use Rattle.std.specs.Map.{keys_of}
use Rattle.std.specs.Ordering.{is_lt}
use Rattle.std.specs.Cmp.Lexicographic.{nat_list_cmp_total}
use Rattle.std.proofs.Common.{ℕ}
use Rattle.lists.proofs.Rising.{Row, Tests, less-from_is_lt, sorted-from_row, row-from_sorted}
use Rattle.folders.specs.Files.{Files, path_cmp}
use Rattle.folders.specs.Reading.{is_above}

abbrev path_of : List ℕ × List ℕ → List ℕ
path_of file = file.0

-- each path is above the one before it, and the first above this one, if there is one
abbrev pub RiseFrom : Option (List ℕ) → Files → Type 0
RiseFrom last files = Row is_above path_of last files

path_tests : Tests is_above path_cmp
path_tests = record {
  first = λ k. refl;
  to_less = λ b k h. less-from_is_lt (path_cmp b k) h;
  from_less = λ b k h. ap is_lt h;
  trans = nat_list_cmp_total.trans;
}

pub sorted_from_rise : (last : Option (List ℕ)) (files : Files) → RiseFrom last files → IsStrictlySortedBy path_cmp (keys_of files)
sorted_from_rise last files rise = sorted-from_row is_above path_cmp path_tests path_of last files rise

pub rise_from_sorted : (files : Files) → IsStrictlySortedBy path_cmp (keys_of files) → RiseFrom None files
rise_from_sorted files sorted = row-from_sorted is_above path_cmp path_tests path_of files sorted
