-- Lines that rise, by the test and by the order.
use Rattle.std.proofs.Common.{◌≡◌, ℕ, Bool, true, ◌&&◌, List, [], ◌∷◌, Option, Some, None, refl, ap, ◌∙◌}
use Rattle.std.specs.Ordering.{is_lt}
use Rattle.std.specs.Cmp.Lexicographic.{nat_list_cmp_total}
use Rattle.lists.proofs.Rising.{Row, Tests, less-from_is_lt, sorted-from_row, row-from_sorted}
use Rattle.merging.specs.Listings.{Listing, path_cmp, IsListing, is_above, rises}
use Rattle.merging.proofs.MergeLaws.{both_true}

abbrev path_of : List ℕ × List ℕ → List ℕ
path_of line = line.0

path_tests : Tests is_above path_cmp
path_tests = record {
  first = λ k. refl;
  to_less = λ b k h. less-from_is_lt (path_cmp b k) h;
  from_less = λ b k h. ap is_lt h;
  trans = nat_list_cmp_total.trans;
}

row_from : (last : Option (List ℕ)) (lines : Listing) → rises last lines ≡ true → Row is_above path_of last lines
row_from last [] h = tt
row_from last (line ∷ lines) h = (let parts = both_true (is_above last line.0) (rises (Some line.0) lines) h in (parts.0, row_from (Some line.0) lines parts.1))

rises_from : (last : Option (List ℕ)) (lines : Listing) → Row is_above path_of last lines → rises last lines ≡ true
rises_from last [] h = refl
rises_from last (line ∷ lines) h = ap (λ (b : Bool). b && rises (Some line.0) lines) h.0 ∙ rises_from (Some line.0) lines h.1

pub listing_from_rises : (lines : Listing) → rises None lines ≡ true → IsListing lines
listing_from_rises lines h = sorted-from_row is_above path_cmp path_tests path_of None lines (row_from None lines h)

pub rises_from_listing : (lines : Listing) → IsListing lines → rises None lines ≡ true
rises_from_listing lines up = rises_from None lines (row-from_sorted is_above path_cmp path_tests path_of lines up)
