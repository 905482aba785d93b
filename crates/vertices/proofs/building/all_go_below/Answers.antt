use Rattle.std.proofs.Common.{◌≡◌, ℕ, ◌<◌, Some, sym, ap, ◌∙◌, refl, subst, List, below_more, arith}
use Rattle.std.specs.List.{All, slice_get}
use Rattle.std.proofs.lemmas.Option.{slice_get-get_or}
use Rattle.vertices.proofs.GraphLemmas.{goes_within, row_below}
use Rattle.vertices.proofs.building.all_go_below.Goals as goal

pub loop-number-preserved : goal.loop-number-preserved
loop-number-preserved c =
    let edges = c.args.edges.now in
    let k = c.loop-number.number in
    let x = c.index-edges-number.result in
    let at : slice_get edges k ≡ Some x = slice_get-get_or edges k x c.loop-number-test.true ∙ ap (λ (es : List (ℕ × ℕ)). Some es) (sym c.index-edges-number.is) in
    below_more _ _ c.loop-number.invariant
    (row_below edges k x at (subst (All (λ (edge : ℕ × ℕ). edge.0 < k)) c.as_slice.ensures (c.if-not-go_below.ensures.0 refl)))

pub returns : goal.returns
returns c = λ _ number other goes. let within = goes_within c.args.edges.now number other goes in c.loop-number.invariant number (omega arith) other goes
