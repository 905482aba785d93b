use Rattle.std.proofs.Common.{Some, List, [], ◌∷◌, ◌++◌, sym, ap, ◌∙◌, take, subst}
use Rattle.std.specs.List.{AllZip}
use Rattle.std.proofs.lemmas.Option.{slice_get-get_or}
use Rattle.opsproto.specs.declared.input.Input.{Input}
use Rattle.opsproto.specs.Scalars.{Text}
use Rattle.lists.proofs.Places.{take_push, AllZip-push}
use Rattle.vertices.specs.declared.unresolved.Named.{Named}
use Rattle.vertices.specs.Asked.{NamesAs}
use Rattle.vertices.proofs.unresolved.all_named.Goals as goal

pub loop-input-preserved : goal.loop-input-preserved
loop-input-preserved c =
    let k = c.loop-input.input-index in
    let inputs = c.args.inputs.now in
    let x = c.input-item.result in
    let at = slice_get-get_or inputs k x c.loop-input-test.true ∙ ap (λ (m : Input Text). Some m) (sym c.input-item.is) in
    subst (λ (xs : List (Input Text)). AllZip NamesAs xs c.push.new.self.items) (sym (take_push inputs k x at))
    (subst (λ (ns : List Named). AllZip NamesAs (take k inputs ++ x ∷ []) ns) (sym c.in_ok-push.ensures.ok)
    (AllZip-push NamesAs (take k inputs) c.loop-input.all.items x c.of_lent.result c.loop-input.invariant c.of_lent.ensures))
