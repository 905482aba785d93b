-- Deciding rows from the last to the first, as the loop does.
use Rattle.std.proofs.Common.{◌≡◌, ℕ, Bool, true, false, cond, List, [], ◌∷◌, ◌++◌, map, reverse, Option, Some, None, refl, sym, ap, ◌∙◌, append_assoc}
use Rattle.std.proofs.lemmas.List.{append-nil, reverse-append}
use mathlib.Core.List.{reverse_aux}
use Rattle.merging.specs.declared.rule.Rule.{Rule}
use Rattle.merging.specs.declared.side.Side.{Side}
use Rattle.merging.specs.Choices.{Three, of, chosen, is_conflict}
use Rattle.merging.specs.Listings.{Place}
use Rattle.merging.specs.Rows.{Side_by_side, line_if, next_taken, next_with, has_below, row_side, row_lines, row_conflicts, lines_in, conflicts_in}

abbrev pub Lines : Type 0
Lines = List (List ℕ × (List ℕ × Side))

-- what the rows behind those that are left were decided to, in reverse
pub record IsDecided (rule : Rule) (total rows : Side_by_side) (next : Option (List ℕ)) (lines : Lines) (conflicts : List (List ℕ)) : Type 0 where
  pub done : Side_by_side
  pub parts : rows ++ done ≡ total
  pub next_is : next ≡ next_taken rule done
  pub lines_are : reverse lines ≡ lines_in rule done
  pub conflicts_are : reverse conflicts ≡ conflicts_in rule done

pub begins : (rule : Rule) (total : Side_by_side) → IsDecided rule total total None [] []
begins rule total = record { done = []; parts = append-nil total; next_is = refl; lines_are = refl; conflicts_are = refl }

reverse_line : (path : List ℕ) (side : Side) (place : Place) → reverse (line_if path side place) ≡ line_if path side place
reverse_line path side None = refl
reverse_line path side (Some entry) = refl

reverse_if : (b : Bool) (path : List ℕ) → reverse (let xs : List (List ℕ) = cond b (path ∷ []) [] in xs) ≡ cond b (path ∷ []) []
reverse_if true path = refl
reverse_if false path = refl

pub steps : (rule : Rule) (total rows rows' : Side_by_side) (row : List ℕ × Three) (next next' : Option (List ℕ)) (lines lines' : Lines) (conflicts conflicts' : List (List ℕ))
    → IsDecided rule total rows next lines conflicts → rows ≡ rows' ++ row ∷ [] → next' ≡ next_with rule row next
    → lines' ≡ lines ++ row_lines rule next row → conflicts' ≡ conflicts ++ row_conflicts rule next row
    → IsDecided rule total rows' next' lines' conflicts'
steps rule total rows rows' row next next' lines lines' conflicts conflicts' was cut next_is lines_are conflicts_are = record {
  done = row ∷ was.done;
  parts = sym (append_assoc rows' (row ∷ []) was.done) ∙ ap (λ (z : Side_by_side). z ++ was.done) (sym cut) ∙ was.parts;
  next_is = next_is ∙ ap (next_with rule row) was.next_is;
  lines_are = ap reverse lines_are ∙ reverse-append lines (row_lines rule next row)
      ∙ ap (λ (z : Lines). z ++ reverse lines) (reverse_line row.0 (row_side rule next row) (of (row_side rule next row) row.1))
      ∙ ap (λ (z : Lines). row_lines rule next row ++ z) was.lines_are
      ∙ ap (λ (n : Option (List ℕ)). row_lines rule n row ++ lines_in rule was.done) was.next_is;
  conflicts_are = ap reverse conflicts_are ∙ reverse-append conflicts (row_conflicts rule next row)
      ∙ ap (λ (z : List (List ℕ)). z ++ reverse conflicts) (reverse_if (is_conflict (has_below row.0 next) (chosen rule row.1) row.1) row.0)
      ∙ ap (λ (z : List (List ℕ)). row_conflicts rule next row ++ z) was.conflicts_are
      ∙ ap (λ (n : Option (List ℕ)). row_conflicts rule n row ++ conflicts_in rule was.done) was.next_is;
}

pub ends : (rule : Rule) (total rows : Side_by_side) (next : Option (List ℕ)) (lines : Lines) (conflicts : List (List ℕ)) → IsDecided rule total rows next lines conflicts → rows ≡ []
    → (reverse lines ≡ lines_in rule total) × (reverse conflicts ≡ conflicts_in rule total)
ends rule total rows next lines conflicts was none =
    let all : was.done ≡ total = ap (λ (z : Side_by_side). z ++ was.done) (sym none) ∙ was.parts in
    (was.lines_are ∙ ap (lines_in rule) all, was.conflicts_are ∙ ap (conflicts_in rule) all)

map-onto : {X Y : Type 0} (f : X → Y) (xs ys : List X) → map f (reverse_aux xs ys) ≡ reverse_aux (map f xs) (map f ys)
map-onto f [] ys = refl
map-onto f (x ∷ xs) ys = map-onto f xs (x ∷ ys)

pub map-reverse : {X Y : Type 0} (f : X → Y) (xs : List X) → map f (reverse xs) ≡ reverse (map f xs)
map-reverse f xs = map-onto f xs []
