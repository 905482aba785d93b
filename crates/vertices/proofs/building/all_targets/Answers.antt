use Rattle.std.proofs.Common.{◌≡◌, ℕ, List, [], ◌∷◌, ◌++◌, Some, take, subst, sym, ap, ◌∙◌, arith}
use Rattle.std.specs.List.{slice_get}
use Rattle.std.specs.declared.vec.Vec.{Vec}
use Rattle.std.specs.declared.alloc.Global.{Global}
use Rattle.std.proofs.lemmas.List.{take_all}
use Rattle.std.proofs.lemmas.Option.{slice_get-get_or}
use Rattle.lists.proofs.Places.{take_push, AllZip-push}
use Rattle.vertices.specs.Edges.{targets}
use Rattle.vertices.specs.Numbered.{HasTargets}
use Rattle.vertices.proofs.building.all_targets.Goals as goal

pub loop-some-preserved : goal.loop-some-preserved
loop-some-preserved c =
    let k = c.loop-some.some-index in
    let edges = c.args.edges.now in
    let x = c.some-item.result in
    let at : slice_get edges k ≡ Some x = slice_get-get_or edges k x c.loop-some-test.true ∙ ap (λ (es : List (ℕ × ℕ)). Some es) (sym c.some-item.is) in
    subst (λ (es : List (List (ℕ × ℕ))). HasTargets es c.push.new.self.items) (sym (take_push edges k x at))
    (subst (HasTargets (take k edges ++ x ∷ [])) (sym c.in_ok-push.ensures.items)
    (AllZip-push (λ es (row : Vec ℕ Global). row.items ≡ targets es) (take k edges) c.loop-some.rows.items x c.in_ok-targets_of.field-0 c.loop-some.invariant
    (c.in_ok-targets_of.ensures ∙ ap targets c.as_slice.ensures)))

pub returns : goal.returns
returns c = subst (λ (es : List (List (ℕ × ℕ))). HasTargets es c.loop-some.rows.items) (take_all c.loop-some.some-index c.args.edges.now (omega arith)) c.loop-some.invariant
