use Rattle.std.proofs.Common.{◌≡◌, true, ap, sym, ◌∙◌, subst}
use Rattle.protocol.specs.Lists.{In}
use Rattle.protocol.specs.Names.{FolderName, Slot, slot_eq}
use Rattle.protocol.proofs.Base.{from_any, slot_eq_is}
use Rattle.leases.specs.Changes.{changed}
use Rattle.leases.specs.Leases.{Table}
use Rattle.leases.specs.Table.{is_free}
use Rattle.effects.specs.Spent.{is_private_spent}
use Rattle.holdings.specs.Leases.{among}
use Rattle.effects.proofs.SpentWords.{noted-changed, among-itself}
use Rattle.effects.proofs.change.Change.spent.Goals as goal

pub returns : goal.returns
returns c = λ p known.
    let seen : (f : FolderName) → is_private_spent (is_free (changed c.args.base.now.table c.args.self.now.table)) f ≡ true → is_private_spent (is_free c.over-table.result) f ≡ true = λ f spent.
    subst (λ (t : Table). is_private_spent (is_free t) f ≡ true) (sym c.over-table.ensures) spent in
    noted-changed c.args.base.now.spent.folders.items c.note_slots.new.self.folders.items c.args.base.now.table c.args.self.now.table p
    (λ f i spent. c.note_slots.ensures.kept f (c.note_leases.ensures.kept f (c.in_ok-note_folders.ensures.noted f (subst (In f) (sym c.as_slice.ensures) i) (seen f spent))))
    (λ g i x j spent. c.note_slots.ensures.kept x.0.folder (c.in_ok-note_leases.ensures.noted g (subst (In g) (sym c.added.ensures.leases) i) x j (seen x.0.folder spent)))
    (λ s i spent.
    (let there : among c.in_ok-retired.retired.items s ≡ true = ap (λ f. f s) c.in_ok-retired.ensures.same ∙ among-itself s c.args.self.now.table.retired i in
    let r = from_any (λ (x : Slot). slot_eq x s) c.in_ok-retired.retired.items there in
    c.in_ok-note_slots.ensures.noted s (subst (λ x. In x c.as_slice-2.result.now) (slot_eq_is r.0 s r.2) (subst (In r.0) (sym c.as_slice-2.ensures.value) r.1)) (seen s.folder spent)))
    known
