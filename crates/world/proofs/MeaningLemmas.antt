-- The result of an event is what it means.
use Rattle.std.proofs.Common.{◌≡◌, ℕ, Bool, true, false, List, ◌++◌, map, Option, Some, None, Result, Ok, Err, refl, sym, ap, ◌∙◌, subst}
use Rattle.std.specs.Prelude.{nat_lt}
use Rattle.names.specs.Contents.{content_digest}
use Rattle.protocol.specs.Farm.{farm_limits}
use Rattle.farm_base.specs.declared.message.Request.TheVariants.{Acquire}
use Rattle.farm_base.specs.declared.message.FromCoord.TheVariants as told
use Rattle.protocol.specs.Lists.{In, nth}
use Rattle.protocol.specs.Machine.{Grant, Message, Said, Told, ToCoord, Parked, acquire}
use Rattle.protocol.specs.Ledger.{Ledger, Work, begin_work, handled}
use Rattle.protocol.specs.World as protocol
use Rattle.protocol.specs.World.{Moves, Still, start}
use Rattle.protocol.specs.Replay.{Farm, Turn, step, run, opening, delivered, coordinated, settled}
use Rattle.protocol.specs.Follows.{Shows, EveryEventIsMoves, MayBeGranted, after_life}
use Rattle.protocol.specs.Chronicle.{AsksAreAnswered, EveryAskIsAnswered, FittingMessageIsGranted, NoParkedAskCouldBeGranted}
use Rattle.protocol.specs.Meaning.{Means}
use Rattle.protocol.specs.Reasons.{Fair}
use Rattle.events.specs.declared.answer.Kept.{Kept}
use Rattle.events.specs.declared.answer.CoordNote.{CoordNote}
use Rattle.events.specs.declared.answer.CoordNote.TheVariants as coord
use Rattle.events.specs.declared.answer.EventNote.TheVariants as note
use Rattle.events.specs.declared.answer.EventRefusal.{EventRefusal}
use Rattle.events.specs.declared.answer.EventRefusal.TheVariants as refusal
use Rattle.events.specs.declared.answer.Outcome.{Outcome}
use Rattle.events.specs.declared.event.Event.{Event}
use Rattle.events.specs.declared.event.Event.TheVariants.{Deliver}
use Rattle.protocol.proofs.Base.{in_map, in_right, nth_in}
use Rattle.protocol.proofs.Refusals.{nothing_done}
use Rattle.coordinator.specs.Promises.{granted}
use Rattle.world.specs.Turns.{Came}
use Rattle.world.specs.Meanings.{MeansAsTold, Grants, GrantsAtOnce, IsTold, AnswersAsks, NoneWaitsIdly}
use Rattle.world.proofs.LimitLemmas.{is_farm}

module _ (old : Farm) (e : Event) (r : Result Outcome EventRefusal) (new : Farm) where
  -- what the law says of an event, from each world that the farm was in
  abbrev Law : Type 0
  Law = (u : protocol.World) → Moves content_digest (start content_digest) u → Shows content_digest u old
      → (v : protocol.World) × Moves content_digest u v × Shows content_digest v new × Means content_digest farm_limits old.size u e r v × Fair farm_limits u old e r

by_turn : EveryEventIsMoves → (old : Farm) (e : Event) (turn : Turn) → step content_digest farm_limits old e ≡ turn → Law old e turn.outcome turn.farm
by_turn law old e turn is u moves shows =
    subst (λ (t : Turn). (v : protocol.World) × Moves content_digest u v × Shows content_digest v t.farm × Means content_digest farm_limits old.size u e t.outcome v × Fair farm_limits u old e t.outcome) is (law content_digest farm_limits is_farm u moves old shows e)

pub means_as_told : EveryEventIsMoves → (old new : Farm) (e : Event) (r : Result Outcome EventRefusal) → Came (step content_digest farm_limits old e) old new r → MeansAsTold old e r new
means_as_told law old new e (Ok o) came = by_turn law old e (record { farm = new; outcome = Ok o }) came
means_as_told law old new e (Err refusal.OutOfMemory) came = λ u moves shows. (u, Still u, subst (Shows content_digest u) (sym came) shows, nothing_done content_digest farm_limits old.size u e refusal.OutOfMemory, tt)
means_as_told law old new e (Err refusal.NoSuchMessage) came = by_turn law old e (record { farm = new; outcome = Err refusal.NoSuchMessage }) came
means_as_told law old new e (Err refusal.NoSuchNode) came = by_turn law old e (record { farm = new; outcome = Err refusal.NoSuchNode }) came
means_as_told law old new e (Err (refusal.Node x)) came = by_turn law old e (record { farm = new; outcome = Err (refusal.Node x) }) came
means_as_told law old new e (Err (refusal.Coord x)) came = by_turn law old e (record { farm = new; outcome = Err (refusal.Coord x) }) came

-- the turn sends all that the work does, and tells its note
record Tells (s : Farm) (w : Work) (turn : Turn) : Type 0 where
  outcome : Outcome
  is : turn.outcome ≡ Ok outcome
  note : outcome.note ≡ note.Coord w.note
  pool : turn.farm.pool ≡ s.pool ++ map Told w.sends

settled_tells : (b : Bool) (w : Work) (s : Farm) → Tells s w (settled b None w s)
settled_tells true w s = record { outcome = _; is = refl; note = refl; pool = refl }
settled_tells false w s = record { outcome = _; is = refl; note = refl; pool = refl }

delivery_tells : (s : Farm) (number : ℕ) (y : ToCoord) → s.down ≡ false → s.armed ≡ None → nth s.pool number ≡ Some (Said y)
    → Tells s (handled farm_limits y (begin_work s.ledger)) (step content_digest farm_limits s (Deliver number))
unfolding step
delivery_tells s number y up safe here =
    let w : Work = handled farm_limits y (begin_work s.ledger) in
    let is : step content_digest farm_limits s (Deliver number) ≡ settled w.changed None w s =
    ap (λ (m : Option Message). delivered content_digest farm_limits m s) here ∙ ap (λ (d : Bool). coordinated d (Ok w) s) up ∙ ap (λ (a : Option Kept). settled w.changed a w s) safe in
    subst (Tells s w) (sym is) (settled_tells w.changed w s)

ok_is : (o p : Outcome) → ◌≡◌ {A = Result Outcome EventRefusal} (Ok o) (Ok p) → o ≡ p
ok_is o p e = cc

no_ok : {P : Type 0} (e : EventRefusal) (o : Outcome) → ◌≡◌ {A = Result Outcome EventRefusal} (Err e) (Ok o) → P
no_ok e o h = cc

grants : (old new : Farm) (w : Work) (turn : Turn) (g : Grant) (r : Result Outcome EventRefusal) → Tells old w turn → w.note ≡ coord.Granted g → In (told.Granted g) w.sends → Came turn old new r → Grants g r new
grants old new w turn g (Ok o) t n i came =
    let same : o ≡ t.outcome = ok_is o t.outcome (sym (ap (λ (x : Turn). x.outcome) came) ∙ t.is) in
    record {
      done = tt;
      note = ap (λ (x : Outcome). x.note) same ∙ t.note ∙ ap note.Coord n;
      sent = subst (In (Told (told.Granted g))) (sym t.pool ∙ ap (λ (x : Turn). x.farm.pool) came) (in_right (Told (told.Granted g)) old.pool (map Told w.sends) (in_map Told (told.Granted g) w.sends i));
    }
grants old new w turn g (Err refusal.OutOfMemory) t n i came = record { done = refl; note = tt; sent = tt }
grants old new w turn g (Err refusal.NoSuchMessage) t n i came = no_ok refusal.NoSuchMessage t.outcome (sym (ap (λ (x : Turn). x.outcome) came) ∙ t.is)
grants old new w turn g (Err refusal.NoSuchNode) t n i came = no_ok refusal.NoSuchNode t.outcome (sym (ap (λ (x : Turn). x.outcome) came) ∙ t.is)
grants old new w turn g (Err (refusal.Node x)) t n i came = no_ok (refusal.Node x) t.outcome (sym (ap (λ (x : Turn). x.outcome) came) ∙ t.is)
grants old new w turn g (Err (refusal.Coord x)) t n i came = no_ok (refusal.Coord x) t.outcome (sym (ap (λ (x : Turn). x.outcome) came) ∙ t.is)

-- in this farm the Acquire is granted
abbrev IsGranted : ℕ → Parked → Farm → Type 0
IsGranted number p s =
    let y : ToCoord = record { node = p.node; life = p.life; request = Acquire p.ask p.wants p.tenure } in
    let w : Work = handled farm_limits y (begin_work s.ledger) in
    let after : Ledger = (after_life farm_limits p.node p.life (begin_work s.ledger)).ledger in
    nth s.pool number ≡ Some (Said y) → s.ledger.gone p.node.0 ≡ false → nat_lt p.life.0 (s.ledger.lives p.node.0) ≡ false → MayBeGranted farm_limits after p
    → (w.note ≡ coord.Granted (granted after p)) × In (told.Granted (granted after p)) w.sends

pub grants_at_once : FittingMessageIsGranted → (old new : Farm) (e : Event) (r : Result Outcome EventRefusal) → Came (step content_digest farm_limits old e) old new r → GrantsAtOnce old e r new
grants_at_once law old new e r came size events is up safe number p at sent here current may =
    let y : ToCoord = record { node = p.node; life = p.life; request = Acquire p.ask p.wants p.tenure } in
    let w : Work = handled farm_limits y (begin_work old.ledger) in
    let grant : Grant = granted (after_life farm_limits p.node p.life (begin_work old.ledger)).ledger p in
    let found : (w.note ≡ coord.Granted grant) × In (told.Granted grant) w.sends = subst (IsGranted number p) (sym is) (law content_digest farm_limits is_farm size events number p) sent here current may in
    grants old new w (step content_digest farm_limits old (Deliver number)) grant r (delivery_tells old number y up safe sent) found.0 found.1
    (subst (λ (x : Event). Came (step content_digest farm_limits old x) old new r) at came)

is_told : (IsOne : CoordNote → Type 0) (old new : Farm) (w : Work) (turn : Turn) (r : Result Outcome EventRefusal) → Tells old w turn → IsOne w.note → Came turn old new r → IsTold IsOne r
is_told IsOne old new w turn (Ok o) t one came =
    let same : o ≡ t.outcome = ok_is o t.outcome (sym (ap (λ (x : Turn). x.outcome) came) ∙ t.is) in
    (w.note, ap (λ (x : Outcome). x.note) same ∙ t.note, one)
is_told IsOne old new w turn (Err refusal.OutOfMemory) t one came = refl
is_told IsOne old new w turn (Err refusal.NoSuchMessage) t one came = no_ok refusal.NoSuchMessage t.outcome (sym (ap (λ (x : Turn). x.outcome) came) ∙ t.is)
is_told IsOne old new w turn (Err refusal.NoSuchNode) t one came = no_ok refusal.NoSuchNode t.outcome (sym (ap (λ (x : Turn). x.outcome) came) ∙ t.is)
is_told IsOne old new w turn (Err (refusal.Node x)) t one came = no_ok (refusal.Node x) t.outcome (sym (ap (λ (x : Turn). x.outcome) came) ∙ t.is)
is_told IsOne old new w turn (Err (refusal.Coord x)) t one came = no_ok (refusal.Coord x) t.outcome (sym (ap (λ (x : Turn). x.outcome) came) ∙ t.is)

pub answers_asks : EveryAskIsAnswered → (old new : Farm) (e : Event) (r : Result Outcome EventRefusal) → Came (step content_digest farm_limits old e) old new r → AnswersAsks old e r
answers_asks law old new e r came size events is up safe number p at sent here u moves shows =
    let y : ToCoord = record { node = p.node; life = p.life; request = Acquire p.ask p.wants p.tenure } in
    let asked : In (acquire p.node p.life p.ask p.wants p.tenure) u.pool = subst (In (acquire p.node p.life p.ask p.wants p.tenure)) (sym shows.pool) (nth_in old.pool number (acquire p.node p.life p.ask p.wants p.tenure) sent) in
    let open_node : u.machine.gone p.node.0 ≡ false = ap (λ (f : ℕ → Bool). f p.node.0) (sym shows.now.gone) ∙ here in
    let one : AsksAreAnswered farm_limits u.machine p (handled farm_limits y (begin_work old.ledger)).note =
    subst (λ (s : Farm). AsksAreAnswered farm_limits u.machine p (handled farm_limits y (begin_work s.ledger)).note) (sym is)
    (law content_digest farm_limits is_farm size events u moves (subst (Shows content_digest u) is shows) p asked open_node) in
    is_told (AsksAreAnswered farm_limits u.machine p) old new (handled farm_limits y (begin_work old.ledger)) (step content_digest farm_limits old (Deliver number)) r (delivery_tells old number y up safe sent) one
    (subst (λ (x : Event). Came (step content_digest farm_limits old x) old new r) at came)

pub none_waits_idly : NoParkedAskCouldBeGranted → (size : ℕ) (events : List Event) (s : Farm) → s ≡ run content_digest farm_limits events (opening content_digest size) → NoneWaitsIdly s
none_waits_idly law size events s is u shows = law content_digest farm_limits is_farm size events u (subst (Shows content_digest u) is shows)
