use Rattle.std.proofs.Common.{◌&&◌, ◌||◌, ℕ, List, [], eqb, ap, ◌∙◌}
use Rattle.std.specs.List.{list_any}
use Rattle.names.specs.Folders.{folder_eq}
use Rattle.protocol.specs.Names.{FolderName}
use Rattle.leaseindex.specs.Instances.{is_taken, slot_names}
use Rattle.leaseindex.proofs.TakenLemmas.{retired-append}
use Rattle.leaseindex.proofs.retired_slots.RetiredSlots.of.Goals as goal

pub invariant_of-result : goal.invariant_of-result
invariant_of-result c =
    retired-append (is_taken c.reserve.new.self) (is_taken c.add_all.new.self) [] c.args.slots.items (λ f i to. c.reserve.ensures.same f i ∙ c.new-taken.ensures f i)
    (λ f i to. c.add_all.ensures f i to ∙ ap (λ (names : List (FolderName × ℕ)). list_any (λ (e : FolderName × ℕ). folder_eq e.0 f && eqb e.1 i) names || is_taken c.reserve.new.self f i) (c.in_ok-names.ensures ∙ ap slot_names c.as_slice.ensures.value))
