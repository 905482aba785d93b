use Rattle.std.proofs.Common.{◌∙◌, ◌++◌, ◌∷◌, [], true, List, ℕ, length, set, refl, ap, rules}
use Rattle.vertices.proofs.GraphLemmas.{list_at-get}
use Rattle.keytable.proofs.ReachLemmas.{reach_start, reach_end, looked_at, popped_within, edges_flags, nothing_left}
use Rattle.keytable.proofs.reaching.flag_from_result.Goals as goal

pub loop-number-init : goal.loop-number-init
loop-number-init c =
    let g = c.args.graph.now in
    let r = c.result-result.ensures.value in
    reach_start g (length g.vertices) c.args.flags.now _ c.push.new.self.items refl
    (search rules) c.requires.flags (ap (λ (x : ℕ × ℕ). set c.args.flags.now x.0 true) r)
    (c.in_ok-push.ensures.items ∙ ap (λ (xs : List ℕ). xs ++ c.result-result.result.0 ∷ []) c.requires.todo ∙ ap (λ (x : ℕ × ℕ). x.0 ∷ []) r)

pub inputs_of-requires : goal.inputs_of-requires
inputs_of-requires c = popped_within c.args.graph.now c.loop-number.flags c.loop-number.todo.items c.pop.new.self.items c.in-Some.number c.loop-number.invariant c.in-Some.ensures.items

pub flag_inputs-requires : goal.flag_inputs-requires
flag_inputs-requires c = edges_flags c.args.graph.now c.loop-number.flags c.loop-number.flags c.in-Some.number c.inputs_of.result.now c.requires.graph c.inputs_of.ensures refl c.loop-number.invariant.count

pub loop-number-preserved : goal.loop-number-preserved
loop-number-preserved c =
    let g = c.args.graph.now in
    looked_at g c.loop-number.flags c.pop.new.self.items c.loop-number.todo.items c.in-Some.number c.inputs_of.result.now c.flag_inputs.new.flags c.flag_inputs.new.todo.items c.loop-number.invariant c.in-Some.ensures.items
    (list_at-get g.edges c.in-Some.number c.inputs_of.result.now c.inputs_of.ensures) c.in_ok-flag_inputs.ensures.flagged

pub returns : goal.returns
returns c = reach_end c.args.graph.now c.loop-number.flags c.loop-number.todo.items c.loop-number.invariant (nothing_left c.loop-number.todo.items c.pop.new.self.items c.in_default.ensures.items (search rules))
