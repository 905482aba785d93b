use Rattle.std.proofs.Common.{ℕ, ◌<◌, List, subst, sym, ap, ◌∙◌}
use Rattle.std.specs.List.{All}
use Rattle.names.specs.declared.digest.Digest.{Digest}
use Rattle.lists.proofs.Places.{at_place}
use Rattle.vertices.proofs.GraphLemmas.{list_at-get}
use Rattle.solverkeys.specs.Keys.{solver_key}
use Rattle.solverkeys.specs.GraphKeys.{TakesKeys}
use Rattle.solverkeys.proofs.KeyLemmas.{edges_within}
use Rattle.solverkeys.proofs.graph.key_at.Goals as goal

pub inputs_of-requires-2 : goal.inputs_of-requires-2
inputs_of-requires-2 c =
    subst (λ (n : ℕ). All (λ (edge : ℕ × ℕ). edge.0 < n) c.inputs_of.result.now) (sym c.requires.keys)
    (edges_within c.args.graph.now c.args.number c.inputs_of.result.now c.requires.graph c.inputs_of.ensures)

pub returns : goal.returns
returns c =
    let vertex = at_place c.args.graph.now.vertices c.args.number c.requires.number in
    record {
      own = vertex.0;
      inputs = c.in_ok-inputs.inputs.items;
      there = vertex.1;
      taken = subst (λ (es : List (ℕ × ℕ)). TakesKeys c.args.keys.now es c.in_ok-inputs.inputs.items)
          (sym (list_at-get c.args.graph.now.edges c.args.number c.inputs_of.result.now c.inputs_of.ensures)) c.in_ok-inputs.ensures;
      key_is = c.key_from.ensures vertex.0.op.stripped (ap (λ (d : Digest). d.0) (c.stripped_digest-stripped.ensures vertex.0 vertex.1))
          ∙ ap (solver_key vertex.0.op.stripped) c.as_slice.ensures.value;
    }
