use Rattle.std.proofs.Common.{Bool, ◌||◌, Some, eqb, ◌∙◌, ap}
use Rattle.leaseindex.proofs.TakenLemmas.{taken-add}
use Rattle.leaseindex.proofs.taken_instances.TakenInstances.add.Goals as goal

pub returns-clause-taken : goal.returns-clause-taken
returns-clause-taken c f i to =
    taken-add c.args.self.now.by_folder c.insert-2.new.self c.args.folder f (Some c.insert.new.self) c.args.instance i c.in-Ok.ensures.updates.0
    (c.insert.ensures i to ∙ ap (λ (b : Bool). eqb c.args.instance i || b) (c.of-instances.ensures i))
