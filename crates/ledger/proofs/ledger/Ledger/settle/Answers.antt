use Rattle.std.proofs.Common.{◌≡◌, true, false, Result, Ok, Err, inl, inr, refl, sym, ap, ◌∙◌, subst}
use Rattle.holdings.specs.Leases.{among}
use Rattle.protocol.specs.Ledger.{Ledger, Work, saves}
use Rattle.events.specs.declared.answer.CoordRefusal.{CoordRefusal}
use Rattle.events.specs.declared.answer.CoordRefusal.TheVariants.{SaveFault, OutOfMemory}
use Rattle.saverecord.specs.Logs.{Holds}
use Rattle.effects.specs.declared.state.State.{State}
use Rattle.effects.specs.declared.effects.Effects.{Effects}
use Rattle.effects.specs.declared.spent_folders.SpentFolders.{SpentFolders}
use Rattle.effects.specs.Held.{Held, line_at, ledger}
use Rattle.effects.specs.Keeps.{held, IsKeepable}
use Rattle.ledger.specs.Seen.{IsKeeping}
use Rattle.ledger.specs.Settling.{Answers, OnlyGrow, is_save_fault}
use Rattle.effects.specs.Shown.{LineOf, after, work_of, lines_with}
use Rattle.effects.specs.Sound.{IsRightful}
use Rattle.effects.specs.Spent.{AreNoted}
use Rattle.ledger.proofs.Growing.{grows, stays}
use Rattle.ledger.proofs.Keeping.{holds_after, saved_ok, saved_not}
use Rattle.ledger.proofs.ledger.Ledger.settle.Goals as goal

-- in places of their own, since a search at a goal below would read all that is known there

err_is : {A : Type 0} (x y : Result A CoordRefusal) (a b : CoordRefusal) → x ≡ Err a → y ≡ Err b → x ≡ y → a ≡ b
err_is x y a b is also e = cc (is, also, e)

not_memory : {P : Type 0} → SaveFault ≡ OutOfMemory → P
not_memory e = absurd (cc e)

not_down : {P : Type 0} → true ≡ false → P
not_down e = absurd (cc e)

-- a state whose ledger and noted folders are as they were
rekept : (s t : State) → ledger (held t) ≡ ledger (held s) → t.spent ≡ s.spent → IsKeepable s → IsKeepable t
rekept s t same spent was = record {
  rightful = subst IsRightful (sym same) was.rightful;
  noted = subst (λ (x : SpentFolders). AreNoted x.folders.items (ledger (held t))) (sym spent) (subst (AreNoted s.spent.folders.items) (sym same) was.noted);
}

pub invariant_of-self : goal.invariant_of-self
invariant_of-self g c =
    let s : State = c.self.inside.state in
    rekept s c.make_room.new.state (ap ledger c.make_room.ensures.held) c.make_room.ensures.spent c.self.invariant

pub invariant_of-self-in_default-take_table : goal.invariant_of-self-in_default-take_table
invariant_of-self-in_default-take_table g c =
    let s : State = c.self.inside.state in
    let t : State = c.make_room.new.state in
    let table : c.take_table.new.place ≡ t.table = c.in_default-take_table.ensures.err in
    rekept s _ ((λ j. record (ledger (held t)) { live = (table j).live; retired = among (table j).retired }) ∙ ap ledger c.in-Ok-make_room.ensures.held) c.in-Ok-make_room.ensures.spent c.self.invariant

pub invariant_of-self-in-Err-save : goal.invariant_of-self-in-Err-save
invariant_of-self-in-Err-save g c =
    let s : State = c.self.inside.state in
    let t : State = c.make_room.new.state in
    let table : c.put_back.new.place ≡ t.table = c.put_back.ensures ∙ c.in-Ok-take_table.ensures.table in
    rekept s _ ((λ j. record (ledger (held t)) { live = (table j).live; retired = among (table j).retired }) ∙ ap ledger c.in-Ok-make_room.ensures.held) c.in-Ok-make_room.ensures.spent c.self.invariant

pub invariant_of-self-in-Ok-save : goal.invariant_of-self-in-Ok-save
invariant_of-self-in-Ok-save g c =
    let s : State = c.self.inside.state in
    let h : Held = c.args.self.now in
    let effects : Effects = c.args.prepared.effects.value in
    let t : State = c.make_room.new.state in
    let table : c.in-Ok-take_table.table.table ≡ t.table = c.in-Ok-take_table.ensures.table in
    let room : held c.make_room.new.state ≡ held s = c.in-Ok-make_room.ensures.held in
    let was : held s ≡ h = c.self.view_is in
    let base : record (held t) { live = c.in-Ok-take_table.table.table.live; retired = c.in-Ok-take_table.table.table.retired } ≡ h =
    (λ j. record (held t) { live = (table j).live; retired = (table j).retired }) ∙ room ∙ was in
    let ledger_is : ledger (held c.apply.new.state) ≡ (work_of h effects).ledger =
    c.apply.ensures.ledger ∙ ap (λ (x : Held). (work_of x effects).ledger) base in
    let line : LineOf = lines_with h.lines effects.added in
    let noted : AreNoted c.in-Ok-spent_after.spent.folders.items (after line (held s) effects.change) =
    subst (λ (e : Effects). AreNoted c.in-Ok-spent_after.spent.folders.items (after line (held s) e.change)) c.deref.ensures (c.in-Ok-spent_after.ensures line) in
    record {
      rightful = subst IsRightful (sym ledger_is) c.requires.prepared.rightful;
      noted = subst (λ (x : SpentFolders). AreNoted x.folders.items (ledger (held c.apply.new.state))) (sym c.apply.ensures.spent)
          (subst (AreNoted c.in-Ok-spent_after.spent.folders.items) (sym ledger_is)
          (subst (λ (x : Held). AreNoted c.in-Ok-spent_after.spent.folders.items (after line x effects.change)) was noted));
    }

pub returns-in-Ok-save-clause-answer : goal.returns-in-Ok-save-clause-answer
returns-in-Ok-save-clause-answer g c =
    let s : State = c.self.inside.state in
    let h : Held = c.args.self.now in
    let effects : Effects = c.args.prepared.effects.value in
    let t : State = c.make_room.new.state in
    let table : c.in-Ok-take_table.table.table ≡ t.table = c.in-Ok-take_table.ensures.table in
    let room : held c.make_room.new.state ≡ held s = c.in-Ok-make_room.ensures.held in
    let was : held s ≡ h = c.self.view_is in
    let base : record (held t) { live = c.in-Ok-take_table.table.table.live; retired = c.in-Ok-take_table.table.table.retired } ≡ h =
    (λ j. record (held t) { live = (table j).live; retired = (table j).retired }) ∙ room ∙ was in
    let ledger_is : ledger (held c.apply.new.state) ≡ (work_of h effects).ledger =
    c.apply.ensures.ledger ∙ ap (λ (x : Held). (work_of x effects).ledger) base in
    let before : Holds (g.K.Keeper.kept c.args.keeper.now) (saves (ledger h)) = subst (Holds (g.K.Keeper.kept c.args.keeper.now)) (c.requires.keeping.up refl) c.requires.keeping.holds in
    record {
      saved = saved_ok g.K.Keeper.saving c.in-Ok.to_save c.args.prepared.effects.value.changed (saves (ledger h)) (saves ((work_of h effects).ledger)) (g.K.Keeper.kept c.args.keeper.now) c.args.keeper.now c.save.new.keeper
          c.in-Ok.ensures.changed c.in-Ok.ensures.text before c.in-Ok-save.ensures.exact (λ e. cc e) (λ e. (c.in-Ok-save.ensures.nothing e).1);
      ledger = ledger_is;
      up = refl;
      sends = c.apply.ensures.sends;
      note = c.apply.ensures.note;
    }

pub returns-in-Ok-save-clause-keeping : goal.returns-in-Ok-save-clause-keeping
returns-in-Ok-save-clause-keeping g c =
    let s : State = c.self.inside.state in
    let h : Held = c.args.self.now in
    let effects : Effects = c.args.prepared.effects.value in
    let t : State = c.make_room.new.state in
    let table : c.in-Ok-take_table.table.table ≡ t.table = c.in-Ok-take_table.ensures.table in
    let room : held c.make_room.new.state ≡ held s = c.in-Ok-make_room.ensures.held in
    let was : held s ≡ h = c.self.view_is in
    let base : record (held t) { live = c.in-Ok-take_table.table.table.live; retired = c.in-Ok-take_table.table.table.retired } ≡ h =
    (λ j. record (held t) { live = (table j).live; retired = (table j).retired }) ∙ room ∙ was in
    let ledger_is : ledger (held c.apply.new.state) ≡ (work_of h effects).ledger =
    c.apply.ensures.ledger ∙ ap (λ (x : Held). (work_of x effects).ledger) base in
    let before : Holds (g.K.Keeper.kept c.args.keeper.now) (saves (ledger h)) = subst (Holds (g.K.Keeper.kept c.args.keeper.now)) (c.requires.keeping.up refl) c.requires.keeping.holds in
    let now : Ledger = (work_of h effects).ledger in
    record {
      saved = saves now;
      holds = holds_after c.in-Ok.to_save c.args.prepared.effects.value.changed (saves (ledger h)) (saves now) (g.K.Keeper.kept c.args.keeper.now) (g.K.Keeper.kept c.save.new.keeper)
          c.in-Ok.ensures.changed c.in-Ok.ensures.text c.requires.prepared.told before c.in-Ok-save.ensures.ok;
      up = λ d. ap saves (sym ledger_is);
    }

pub returns-in-Ok-save-clause-grow : goal.returns-in-Ok-save-clause-grow
returns-in-Ok-save-clause-grow g c =
    let lines : line_at c.apply.new.state.lines ≡ lines_with c.args.self.now.lines c.args.prepared.effects.value.added =
    c.apply.ensures.lines ∙ ap (λ (x : Held). lines_with x.lines c.args.prepared.effects.value.added) (c.in-Ok-make_room.ensures.held ∙ c.self.view_is) in
    subst (λ (f : LineOf). OnlyGrow (line_at c.args.self.now.lines) f) (sym lines) (grows c.args.self.now.lines c.args.prepared.effects.value.added)

pub returns-in-Err-clause-answer : goal.returns-in-Err-clause-answer
returns-in-Err-clause-answer g c =
    let s : State = c.self.inside.state in
    let h : Held = c.args.self.now in
    let effects : Effects = c.args.prepared.effects.value in
    let t : State = c.make_room.new.state in
    let table : c.put_back.new.place ≡ t.table = c.put_back.ensures ∙ c.in-Ok-take_table.ensures.table in
    let room : held c.make_room.new.state ≡ held s = c.in-Ok-make_room.ensures.held in
    let was : held s ≡ h = c.self.view_is in
    let now : Held = record (held t) { live = c.put_back.new.place.live; retired = c.put_back.new.place.retired } in
    let same : now ≡ h = (λ j. record (held t) { live = (table j).live; retired = (table j).retired }) ∙ room ∙ was in
    let before : Holds (g.K.Keeper.kept c.args.keeper.now) (saves (ledger h)) = subst (Holds (g.K.Keeper.kept c.args.keeper.now)) (c.requires.keeping.up refl) c.requires.keeping.holds in
    let w : Work = work_of h effects in
    let P : CoordRefusal → Type 0 = λ r. Answers g.K.Keeper.saving (Ok w) (record { held = h; keeper = c.args.keeper.now; down = false }) (record { held = now; keeper = c.save.new.keeper; down = is_save_fault (Err r) }) (Err r) in
    elim c.in-Err.ensures.refusals [
      | inl e ↦ subst P (sym e)
          (let failed = saved_not g.K.Keeper.saving c.in-Ok.to_save c.args.prepared.effects.value.changed (saves (ledger h)) (saves w.ledger) (g.K.Keeper.kept c.args.keeper.now) c.args.keeper.now c.save.new.keeper
          c.in-Ok.ensures.changed c.in-Ok.ensures.text before c.in-Err.ensures.exact (λ f. not_memory (sym e ∙ err_is _ _ _ _ refl refl f)) (λ f. (c.in-Err.ensures.nothing f).0) in
          record { changed = failed.0; saved = failed.1; held = same; down = refl })
      | inr e ↦ subst P (sym e) (refl, (let stays = c.in-Err.ensures.same (ap (λ r. Err r) e) in λ j. record { held = same j; keeper = stays j; down = false }))
    ]

pub returns-in-Err-clause-keeping : goal.returns-in-Err-clause-keeping
returns-in-Err-clause-keeping g c =
    let s : State = c.self.inside.state in
    let h : Held = c.args.self.now in
    let effects : Effects = c.args.prepared.effects.value in
    let t : State = c.make_room.new.state in
    let table : c.put_back.new.place ≡ t.table = c.put_back.ensures ∙ c.in-Ok-take_table.ensures.table in
    let room : held c.make_room.new.state ≡ held s = c.in-Ok-make_room.ensures.held in
    let was : held s ≡ h = c.self.view_is in
    let now : Held = record (held t) { live = c.put_back.new.place.live; retired = c.put_back.new.place.retired } in
    let same : now ≡ h = (λ j. record (held t) { live = (table j).live; retired = (table j).retired }) ∙ room ∙ was in
    let before : Holds (g.K.Keeper.kept c.args.keeper.now) (saves (ledger h)) = subst (Holds (g.K.Keeper.kept c.args.keeper.now)) (c.requires.keeping.up refl) c.requires.keeping.holds in
    let w : Work = work_of h effects in
    let P : CoordRefusal → Type 0 = λ r. IsKeeping (g.K.Keeper.kept c.save.new.keeper) now (is_save_fault (Err r)) in
    elim c.in-Err.ensures.refusals [
      | inl e ↦ subst P (sym e) (elim c.in-Err.ensures.fault [
        | inl old ↦ record { saved = c.requires.keeping.saved; holds = subst (λ t. Holds t c.requires.keeping.saved) (sym old) c.requires.keeping.holds; up = λ d. not_down d }
        | inr new ↦ record {
          saved = saves w.ledger;
          holds = holds_after c.in-Ok.to_save c.args.prepared.effects.value.changed (saves (ledger h)) (saves w.ledger) (g.K.Keeper.kept c.args.keeper.now) (g.K.Keeper.kept c.save.new.keeper)
              c.in-Ok.ensures.changed c.in-Ok.ensures.text c.requires.prepared.told before new;
          up = λ d. not_down d;
        }
      ])
      | inr e ↦ subst P (sym e)
          (let stays = c.in-Err.ensures.same (ap (λ r. Err r) e) in
          subst (λ k. IsKeeping (g.K.Keeper.kept k) now false) (sym stays) (subst (λ (x : Held). IsKeeping (g.K.Keeper.kept c.args.keeper.now) x false) (sym same) c.requires.keeping))
    ]

pub returns-in-Err-clause-grow : goal.returns-in-Err-clause-grow
returns-in-Err-clause-grow g c =
    let t : State = c.make_room.new.state in
    subst (λ (x : Held). OnlyGrow (line_at x.lines) (line_at t.lines)) (c.in-Ok-make_room.ensures.held ∙ c.self.view_is) (stays (line_at t.lines))
