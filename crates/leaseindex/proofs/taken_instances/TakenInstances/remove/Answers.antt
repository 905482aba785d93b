use Rattle.std.proofs.Common.{Bool, ◌&&◌, not, Some, None, eqb, refl, sym, ◌∙◌, ap, rules}
use Rattle.leaseindex.specs.Instances.{has_of, instances_of}
use Rattle.leaseindex.proofs.TakenLemmas.{taken-remove, taken-missing}
use Rattle.leaseindex.proofs.taken_instances.TakenInstances.remove.Goals as goal

pub returns-then-is_empty-clause-free : goal.returns-then-is_empty-clause-free
returns-then-is_empty-clause-free c f i to =
    taken-remove c.args.self.now.by_folder c.swap_remove.new.self c.args.folder.now f None c.args.instance i c.swap_remove.ensures.updates.0
    (sym (c.if-is_empty.ensures.0 refl i) ∙ c.remove.ensures i to ∙ ap (λ (b : Bool). not (eqb c.args.instance i) && b) (c.of-instances.ensures i))

pub returns-in-Some-clause-free : goal.returns-in-Some-clause-free
returns-in-Some-clause-free c f i to =
    taken-remove c.args.self.now.by_folder (c.get_mut.follows.lender c.remove.new.self) c.args.folder.now f (Some c.remove.new.self) c.args.instance i
    ((c.get_mut.follows.holds c.remove.new.self).3 (search rules)).0
    (c.remove.ensures i to ∙ ap (λ (b : Bool). not (eqb c.args.instance i) && b) (c.of-instances.ensures i))

pub returns-in_default-clause-free : goal.returns-in_default-clause-free
returns-in_default-clause-free c f i to =
    ap (λ m. has_of (instances_of m f) i) c.get_mut.follows.holds-at-none
    ∙ taken-missing c.args.self.now.by_folder c.args.folder.now f c.args.instance i (sym c.in_default.ensures.value)
