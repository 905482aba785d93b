use Rattle.std.proofs.Common.{◌≡◌, ◌-◌, ℕ, List, true, get_or, ap, sym, ◌∙◌, subst, inl, inr, arith}
use Rattle.std.proofs.lemmas.Bool.{cases_lt}
use Rattle.protocol.specs.Names.{FolderName, Slot}
use Rattle.leases.specs.Table.{is_free}
use Rattle.parked.specs.Noted.{is_noted}
use Rattle.effects.specs.Spent.{is_private_spent}
use Rattle.effects.specs.declared.spent_folders.SpentFolders.{SpentFolders}
use Rattle.parked.proofs.PassedWords.{other_default}
use Rattle.parked.proofs.NotedWords.{each_in}
use Rattle.effects.proofs.spent_folders.SpentFolders.note_slots.Goals.{then-not-is_repeated+in_ok-note, else-not-is_repeated}
use Rattle.effects.proofs.spent_folders.SpentFolders.note_slots.Goals as goal

pub loop-place-preserved : goal.loop-place-preserved
loop-place-preserved c =
    let place : ℕ = c.loop-place.place in
    let slots : List Slot = c.args.slots.now in
    let Spent : FolderName → Type 0 = λ f. is_private_spent (is_free c.args.table.now) f ≡ true in
    let old = c.loop-place.invariant in
    let inside = c.loop-place-test.true in
    elim c.if-not-is_repeated.branch [
      | then-not-is_repeated+in_ok-note w ↦ record {
        noted = λ k d less spent. subst (λ (s : SpentFolders). is_noted s.folders.items (get_or slots k d).folder ≡ true) (sym w.self-is) (elim (cases_lt k place) [
          | inl lt ↦ w.note.ensures.kept (get_or slots k d).folder (old.noted k d lt spent)
          | inr ge ↦ (
              let is : k ≡ place = omega arith in
              let item : get_or slots k d ≡ w.index-slots-place.result =
              ap (λ (n : ℕ). get_or slots n d) is ∙ other_default slots place d w.index-slots-place.result inside ∙ sym w.index-slots-place.is in
              let folder : w.folder.result.now ≡ (get_or slots k d).folder = w.folder.ensures ∙ ap (λ (s : Slot). s.folder) (sym item) in
              subst (λ (f : FolderName). is_noted w.note.new.self.folders.items f ≡ true) folder (w.in_ok-note.ensures.noted (subst Spent (sym folder) spent)))
        ]);
        kept = λ f was. subst (λ (s : SpentFolders). is_noted s.folders.items f ≡ true) (sym w.self-is) (w.note.ensures.kept f (old.kept f was));
        inside = omega arith;
      }
      | else-not-is_repeated w ↦ record {
        noted = λ k d less spent. subst (λ (s : SpentFolders). is_noted s.folders.items (get_or slots k d).folder ≡ true) (sym w.self-is) (elim (cases_lt k place) [
          | inl lt ↦ old.noted k d lt spent
          | inr ge ↦ (
              let is : k ≡ place = omega arith in
              let b = c.is_repeated.ensures w.if-not-is_repeated.false d in
              let some = b.0 in
              let folder : (get_or slots (place - 1) d).folder ≡ (get_or slots k d).folder = b.1 ∙ ap (λ (n : ℕ). (get_or slots n d).folder) (sym is) in
              subst (λ (f : FolderName). is_noted c.loop-place.self.folders.items f ≡ true) folder (old.noted (place - 1) d (omega arith) (subst Spent (sym folder) spent)))
        ]);
        kept = λ f was. subst (λ (s : SpentFolders). is_noted s.folders.items f ≡ true) (sym w.self-is) (old.kept f was);
        inside = omega arith;
      }
    ]

pub returns-clause-noted : goal.returns-clause-noted
returns-clause-noted c s i =
    each_in (λ (y : Slot). is_private_spent (is_free c.args.table.now) y.folder ≡ true → is_noted c.loop-place.self.folders.items y.folder ≡ true) c.args.slots.now
    (λ k d inside. c.loop-place.invariant.noted k d (omega (arith, c.loop-place-test.false))) s i
