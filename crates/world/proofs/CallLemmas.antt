-- What a call of the coordinator does in the farm.
use Rattle.std.proofs.Common.{◌≡◌, ℕ, ◌≤◌, ◌++◌, Bool, true, false, List, [], length, map, Option, None, Some, Result, Ok, Err, refl, sym, ap, ◌∙◌, subst}
use Rattle.std.specs.Prelude.{not, is_some}
use Rattle.protocol.specs.Machine.{Message, FromCoord, Told}
use Rattle.protocol.specs.Ledger.{Work, saves, reads}
use Rattle.protocol.specs.Replay.{Farm, Turn, coordinated, settled, refused, done}
use Rattle.events.specs.declared.answer.Kept.{Kept}
use Rattle.events.specs.declared.answer.Kept.TheVariants.{Old, New}
use Rattle.events.specs.declared.answer.CoordRefusal.{CoordRefusal}
use Rattle.events.specs.declared.answer.CoordRefusal.TheVariants as coord
use Rattle.events.specs.declared.answer.EventNote.TheVariants as note
use Rattle.events.specs.declared.answer.EventRefusal.TheVariants as refusal
use Rattle.events.specs.declared.answer.Outcome.{Outcome}
use Rattle.saverecord.specs.Keepers.{Memory, saved_by, MemorySaves, MemoryLoads}
use Rattle.saverecord.specs.Logs.{saved_in}
use Rattle.saverecord.specs.Texts.{Texts}
use Rattle.coordinator.specs.Settling.{Handled, Settles, SettlesWhile, Restarts, Answers, SavesIf, Does, Fails}
use Rattle.coordinator.specs.Held.{ledger}
use Rattle.coordinator.specs.Seen.{Seen}
use Rattle.coordinator.proofs.Records.{held_in}
use Rattle.world.specs.Turns.{Came, first_number, from_coordinator}
use Rattle.world.specs.Parts.{with_coordinator}
use Rattle.world.proofs.TurnLemmas.{worked_as}

-- ---- what is done

unarmed : (a : Option Kept) → true ≡ not (is_some a) → a ≡ None
unarmed None h = refl
unarmed (Some k) h = absurd (cc)

module _ (s : Farm) (old new : Seen Memory) (before after : List Message) (h : Handled) (o : Outcome)
    (sent : after ≡ before ++ map Told h.sends)
    (told : o ≡ record { note = note.Coord h.note; first = first_number (length before) (length h.sends); sent = length h.sends }) where
  then_pool : (w : Work) → Does MemorySaves w old new h → after ≡ before ++ map Told w.sends
  then_pool w does = sent ∙ ap (λ (ys : List FromCoord). before ++ map Told ys) does.sends

  saved_as : (w : Work) (b : Bool) → old.down ≡ false → SavesIf MemorySaves b (saves w.ledger) old.keeper new.keeper → Does MemorySaves w old new h
      → settled b old.keeper.armed w (with_coordinator s old before) ≡ record { farm = with_coordinator s new after; outcome = Ok o }
  saved_as w false up same does =
      worked_as (with_coordinator s old before) (with_coordinator s new after) w (saved_in old.keeper.texts) h.sends h.note o does.sends does.note
      (λ j. record s { ledger = does.ledger j; saved = saved_in (same j).texts; down = (does.up ∙ sym up) j; armed = (same j).armed; pool = then_pool w does j }) told
  saved_as w true up save does =
      let free : old.keeper.armed ≡ None = unarmed old.keeper.armed save.left.succeeds in
      let kept : new.keeper ≡ saved_by None old.keeper save.texts = save.left.left ∙ ap (λ (a : Option Kept). saved_by a old.keeper save.texts) free in
      let holds : saved_in new.keeper.texts ≡ saves w.ledger = ap (λ (m : Memory). saved_in m.texts) kept ∙ held_in save.texts (saves w.ledger) save.holds in
      ap (λ (a : Option Kept). settled true a w (with_coordinator s old before)) free
      ∙ worked_as (with_coordinator s old before) (with_coordinator s new after) w (saves w.ledger) h.sends h.note o does.sends does.note
      (λ j. record s { ledger = does.ledger j; saved = holds j; down = (does.up ∙ sym up) j; armed = (kept j).armed; pool = then_pool w does j }) told

  worked : (r : Result Work CoordRefusal) → old.down ≡ false → Answers MemorySaves r old new (Ok h)
      → coordinated false r (with_coordinator s old before) ≡ record { farm = with_coordinator s new after; outcome = Ok o }
  worked (Ok w) up does = saved_as w w.changed up does.saved does
  worked (Err e) up a = (let bad : ◌≡◌ {A = Result Handled CoordRefusal} (Ok h) (Err e) = a.0 in absurd (cc bad))

  worked_while : (r : Result Work CoordRefusal) (d : Bool) → old.down ≡ d → SettlesWhile d MemorySaves r old new (Ok h)
      → coordinated d r (with_coordinator s old before) ≡ record { farm = with_coordinator s new after; outcome = Ok o }
  worked_while r true up a = (let bad : ◌≡◌ {A = Result Handled CoordRefusal} (Ok h) (Err coord.Down) = a.0 in absurd (cc bad))
  worked_while r false up a = worked r up a

  -- the event is done
  pub call_done : (r : Result Work CoordRefusal) → Settles MemorySaves r old new (Ok h)
      → coordinated old.down r (with_coordinator s old before) ≡ record { farm = with_coordinator s new after; outcome = Ok o }
  call_done r a = worked_while r old.down refl a

-- what it sends has room
module _ (old new : Seen Memory) (h : Handled) (n : ℕ) where
  few_worked : (r : Result Work CoordRefusal) → Answers MemorySaves r old new (Ok h) → ((w : Work) → r ≡ Ok w → length w.sends ≤ n) → length h.sends ≤ n
  few_worked (Ok w) does bound = subst (λ sends. length sends ≤ n) (sym does.sends) (bound w refl)
  few_worked (Err e) a bound = (let bad : ◌≡◌ {A = Result Handled CoordRefusal} (Ok h) (Err e) = a.0 in absurd (cc bad))

  few_while : (r : Result Work CoordRefusal) (d : Bool) → SettlesWhile d MemorySaves r old new (Ok h) → ((w : Work) → r ≡ Ok w → length w.sends ≤ n) → length h.sends ≤ n
  few_while r true a bound = (let bad : ◌≡◌ {A = Result Handled CoordRefusal} (Ok h) (Err coord.Down) = a.0 in absurd (cc bad))
  few_while r false a bound = few_worked r a bound

  pub sends_fit : (r : Result Work CoordRefusal) → Settles MemorySaves r old new (Ok h) → ((w : Work) → r ≡ Ok w → length w.sends ≤ n) → length h.sends ≤ n
  sends_fit r a bound = few_while r old.down a bound

-- ---- what is refused

refused_for : (s t : Farm) (e : CoordRefusal) → t ≡ s → ◌≡◌ {A = Turn} (refused (refusal.Coord e) s) (record { farm = t; outcome = Err (refusal.Coord e) })
refused_for s t e same = λ j. record { farm = sym same j; outcome = Err (refusal.Coord e) }

refused_as : (s t : Farm) (e : CoordRefusal) → t ≡ s → Came (refused (refusal.Coord e) s) s t (Err (from_coordinator e))
refused_as s t coord.Down same = refused_for s t coord.Down same
refused_as s t coord.SaveFault same = refused_for s t coord.SaveFault same
refused_as s t coord.BadRecord same = refused_for s t coord.BadRecord same
refused_as s t coord.NotLive same = refused_for s t coord.NotLive same
refused_as s t coord.SlotLeased same = refused_for s t coord.SlotLeased same
refused_as s t coord.NoSuchSlot same = refused_for s t coord.NoSuchSlot same
refused_as s t coord.TicketsSpent same = refused_for s t coord.TicketsSpent same
refused_as s t coord.OutOfMemory same = same
refused_as s t coord.LoadFault same = refused_for s t coord.LoadFault same
refused_as s t coord.Tenure same = refused_for s t coord.Tenure same
refused_as s t coord.TenureHeld same = refused_for s t coord.TenureHeld same
refused_as s t coord.NodeRetired same = refused_for s t coord.NodeRetired same

same_refusal : (e x : CoordRefusal) → ◌≡◌ {A = Result Handled CoordRefusal} (Err e) (Err x) → e ≡ x
same_refusal e x h = cc

module _ (s : Farm) (old new : Seen Memory) (pool : List Message) where
  -- the farm before the call
  abbrev pub start_farm : Farm
  start_farm = with_coordinator s old pool

  -- the farm after it
  abbrev pub end_farm : Farm
  end_farm = with_coordinator s new pool

  stays : new ≡ old → end_farm ≡ start_farm
  stays same = ap (λ (c : Seen Memory). with_coordinator s c pool) same

  fault_as : (w : Work) (texts : Texts) (a : Option Kept) → false ≡ not (is_some a) → new.keeper ≡ saved_by a old.keeper texts → saved_in texts ≡ saves w.ledger → new.held ≡ old.held → new.down ≡ true
      → settled true a w start_farm ≡ record { farm = end_farm; outcome = Err (refusal.Coord coord.SaveFault) }
  fault_as w texts None fails kept holds held down = absurd (cc)
  fault_as w texts (Some Old) fails kept holds held down =
      sym (λ j. record { farm = record s { ledger = ledger (held j); saved = saved_in (kept j).texts; down = down j; armed = (kept j).armed; pool = pool }; outcome = Err (refusal.Coord coord.SaveFault) })
  fault_as w texts (Some New) fails kept holds held down =
      let saved : saved_in new.keeper.texts ≡ saves w.ledger = ap (λ (m : Memory). saved_in m.texts) kept ∙ holds in
      sym (λ j. record { farm = record s { ledger = ledger (held j); saved = saved j; down = down j; armed = (kept j).armed; pool = pool }; outcome = Err (refusal.Coord coord.SaveFault) })

  fault : (w : Work) → Fails MemorySaves w old new → settled w.changed old.keeper.armed w start_farm ≡ record { farm = end_farm; outcome = Err (refusal.Coord coord.SaveFault) }
  fault w fails =
      ap (λ (b : Bool). settled b old.keeper.armed w start_farm) fails.changed
      ∙ fault_as w fails.saved.texts old.keeper.armed fails.saved.left.succeeds fails.saved.left.left (held_in fails.saved.texts (saves w.ledger) fails.saved.holds) fails.held fails.down

  unworked : (w : Work) (e : CoordRefusal) → Answers MemorySaves (Ok w) old new (Err e) → Came (coordinated false (Ok w) start_farm) start_farm end_farm (Err (from_coordinator e))
  unworked w coord.SaveFault a = fault w a
  unworked w coord.OutOfMemory a = stays a.1
  unworked w coord.Down a = absurd (cc a.0)
  unworked w coord.BadRecord a = absurd (cc a.0)
  unworked w coord.NotLive a = absurd (cc a.0)
  unworked w coord.SlotLeased a = absurd (cc a.0)
  unworked w coord.NoSuchSlot a = absurd (cc a.0)
  unworked w coord.TicketsSpent a = absurd (cc a.0)
  unworked w coord.LoadFault a = absurd (cc a.0)
  unworked w coord.Tenure a = absurd (cc a.0)
  unworked w coord.TenureHeld a = absurd (cc a.0)
  unworked w coord.NodeRetired a = absurd (cc a.0)

  refused_while : (r : Result Work CoordRefusal) (e : CoordRefusal) (d : Bool) → SettlesWhile d MemorySaves r old new (Err e) → Came (coordinated d r start_farm) start_farm end_farm (Err (from_coordinator e))
  refused_while r e true a = subst (λ x. Came (coordinated true r start_farm) start_farm end_farm (Err (from_coordinator x))) (sym (same_refusal e coord.Down a.0)) (refused_as start_farm end_farm coord.Down (stays a.1))
  refused_while (Ok w) e false a = unworked w e a
  refused_while (Err x) e false a = subst (λ y. Came (coordinated false (Err y) start_farm) start_farm end_farm (Err (from_coordinator e))) (same_refusal e x a.0) (refused_as start_farm end_farm e (stays a.1))

  -- the event is refused, or memory ran out
  pub call_refused : (r : Result Work CoordRefusal) (e : CoordRefusal) → Settles MemorySaves r old new (Err e) → Came (coordinated old.down r start_farm) start_farm end_farm (Err (from_coordinator e))
  call_refused r e a = refused_while r e old.down a

  -- ---- a restart of the coordinator

  pub restart_done : Restarts MemoryLoads old.keeper.texts old new (Ok tt)
      → done note.Restarted [] start_farm (record start_farm { ledger = reads start_farm.saved; down = false }) ≡ record { farm = end_farm; outcome = Ok (record { note = note.Restarted; first = 0; sent = 0 }) }
  restart_done takes =
      let kept : new.keeper ≡ old.keeper = takes.loaded.same in
      sym (λ j. record {
        farm = record s { ledger = takes.ledger j; saved = saved_in (kept j).texts; down = takes.up j; armed = (kept j).armed; pool = pool };
        outcome = Ok (record { note = note.Restarted; first = 0; sent = 0 });
      })

  pub restart_refused : (e : CoordRefusal) (turn : Turn) → Restarts MemoryLoads old.keeper.texts old new (Err e) → Came turn start_farm end_farm (Err (from_coordinator e))
  restart_refused coord.OutOfMemory turn a =
      let kept : new.keeper ≡ old.keeper = a.0.1.same in
      λ j. record s { ledger = ledger (a.1 j); saved = saved_in (kept j).texts; down = a.2 j; armed = (kept j).armed; pool = pool }
  restart_refused coord.LoadFault turn a = absurd (a.0.never refl)
  restart_refused coord.Down turn a = absurd a
  restart_refused coord.SaveFault turn a = absurd a
  restart_refused coord.BadRecord turn a = absurd a
  restart_refused coord.NotLive turn a = absurd a
  restart_refused coord.SlotLeased turn a = absurd a
  restart_refused coord.NoSuchSlot turn a = absurd a
  restart_refused coord.TicketsSpent turn a = absurd a
  restart_refused coord.Tenure turn a = absurd a
  restart_refused coord.TenureHeld turn a = absurd a
  restart_refused coord.NodeRetired turn a = absurd a
