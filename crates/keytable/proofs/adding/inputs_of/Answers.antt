use Rattle.std.proofs.Common.{ℕ, List, take, get_or, subst, sym, []}
use Rattle.std.proofs.lemmas.Option.{slice_get-get_or}
use Rattle.names.specs.declared.digest.Key.{Key}
use Rattle.solverkeys.specs.GraphKeys.{TakesKeys}
use Rattle.solverkeys.proofs.KeyLemmas.{takes_more}
use Rattle.lists.proofs.Places.{take_push}
use Rattle.keytable.proofs.adding.inputs_of.Goals as goal

pub loop-number-preserved : goal.loop-number-preserved
loop-number-preserved c =
    let edges = c.args.edges.now in
    let keys = c.args.keys.now in
    let k = c.loop-number.number-index in
    let edge = get_or edges k (0, 0) in
    let none : Key = record { 0 = record { 0 = [] } } in
    let at = slice_get-get_or edges k (0, 0) c.loop-number-test.true in
    subst (λ (es : List (ℕ × ℕ)). TakesKeys keys es c.push.new.self.items) (sym (take_push edges k edge at))
    (subst (TakesKeys keys _) (sym c.in_ok-push.ensures.items)
    (takes_more keys (take k edges) c.loop-number.inputs.items edge (get_or keys edge.0 none) c.loop-number.invariant
    (slice_get-get_or keys edge.0 none (c.requires k (0, 0) c.loop-number-test.true))))
