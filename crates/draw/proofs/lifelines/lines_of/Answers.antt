use Rattle.std.proofs.Common.{rules, ◌≡◌, ℕ, ◌+◌, ◌-◌, Bool, true, false, cond, List, [], ◌∷◌, ◌++◌, filter, ap, sym, ◌∙◌, append_assoc}
use Rattle.std.specs.List.{range_with_len, list_any}
use Rattle.draw.specs.Lifelines.{is_in}
use Rattle.draw.proofs.NextNumbers.{next_range}
use Rattle.draw.proofs.lifelines.lines_of.Goals.{then-is_in_any+in_ok-push, else-is_in_any}
use Rattle.draw.proofs.lifelines.lines_of.Goals as goal

pub loop-place-preserved : goal.loop-place-preserved
loop-place-preserved c =
    let place = c.loop-place.place in
    let p : ℕ → Bool = λ n. list_any (is_in n) c.args.frames.now in
    let rest : List ℕ = filter p (range_with_len (place + 1 + 1) (c.args.nodes - (place + 1))) in
    let next : filter p (range_with_len (place + 1) (c.args.nodes - place)) ≡ cond (p (place + 1)) ((place + 1) ∷ rest) rest
    = ap (filter p) (next_range place c.args.nodes c.loop-place-test.true) in
    elim c.if-is_in_any.branch [
      | then-is_in_any+in_ok-push w ↦
          let yes : p (place + 1) ≡ true = search rules in
          let pushed : c.if-is_in_any.lines.items ≡ c.loop-place.lines.items ++ (place + 1) ∷ [] = search rules in
          let chosen = next ∙ ap (λ (b : Bool). cond b ((place + 1) ∷ rest) rest) yes in
          ap (λ (ls : List ℕ). ls ++ rest) pushed ∙ append_assoc c.loop-place.lines.items ((place + 1) ∷ []) rest
          ∙ ap (λ (t : List ℕ). c.loop-place.lines.items ++ t) (sym chosen) ∙ c.loop-place.invariant
      | else-is_in_any w ↦
          let no : p (place + 1) ≡ false = search rules in
          let kept : c.if-is_in_any.lines.items ≡ c.loop-place.lines.items = search rules in
          let left = next ∙ ap (λ (b : Bool). cond b ((place + 1) ∷ rest) rest) no in
          ap (λ (ls : List ℕ). ls ++ rest) kept ∙ ap (λ (t : List ℕ). c.loop-place.lines.items ++ t) (sym left) ∙ c.loop-place.invariant
    ]
