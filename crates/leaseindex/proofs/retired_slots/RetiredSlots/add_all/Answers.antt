use Rattle.std.proofs.Common.{◌≡◌, ◌++◌, ◌&&◌, ◌||◌, ℕ, List, eqb, ap, subst, sym, ◌∙◌}
use Rattle.std.specs.List.{list_any}
use Rattle.names.specs.Folders.{folder_eq}
use Rattle.protocol.specs.Names.{FolderName}
use Rattle.leaseindex.specs.Instances.{AreRetired, is_taken}
use Rattle.leaseindex.proofs.TakenLemmas.{retired-append}
use Rattle.leaseindex.proofs.retired_slots.RetiredSlots.add_all.Goals as goal

pub invariant_of-self : goal.invariant_of-self
invariant_of-self c =
    let items : c.append.new.self.items ≡ c.self.inside.slots.items ++ c.args.slots.items = rw c.unwrap.ensures at c.append.ensures.items in
    subst (AreRetired (is_taken c.add_all.new.self)) (sym items)
    (retired-append (is_taken c.self.inside.taken) (is_taken c.add_all.new.self) c.self.inside.slots.items c.args.slots.items c.self.invariant
    (λ f i to. c.add_all.ensures f i to ∙ ap (λ (names : List (FolderName × ℕ)). list_any (λ (e : FolderName × ℕ). folder_eq e.0 f && eqb e.1 i) names || is_taken c.self.inside.taken f i) c.requires.names))
