-- What an event leaves of a failure that is armed.
use Rattle.std.proofs.Common.{◌≡◌, ◌≢◌, ℕ, ◌+◌, List, Bool, true, false, ◌&&◌, ◌||◌, Option, Some, None, Result, Ok, Err, refl, sym, ap, subst, inl, inr}
use Rattle.std.proofs.lemmas.Bool.{cases_Bool}
use Rattle.std.specs.List.{list_any}
use Rattle.std.specs.Prelude.{⊤, nat_lt, if◌then◌else◌}
use Rattle.protocol.specs.Lists.{nth, is_nil}
use Rattle.protocol.specs.Names.{Slot, NodeId, Digest}
use Rattle.protocol.specs.Machine.{Message}
use Rattle.farm_base.specs.declared.message.Message.TheVariants as to
use Rattle.events.specs.declared.answer.CoordNote.TheVariants as note
use Rattle.events.specs.declared.answer.CoordRefusal.{CoordRefusal}
use Rattle.events.specs.declared.answer.CoordRefusal.TheVariants as coord
use Rattle.events.specs.declared.answer.NodeRefusal.TheVariants as node_refusal
use Rattle.protocol.specs.World.{Node}
use Rattle.protocol.proofs.Base.{put_same}
use Rattle.events.specs.declared.answer.EventRefusal.{EventRefusal}
use Rattle.events.specs.declared.answer.EventRefusal.TheVariants as refusal
use Rattle.events.specs.declared.answer.Kept.{Kept}
use Rattle.events.specs.declared.answer.Kept.TheVariants.{Old, New}
use Rattle.protocol.specs.Ledger.{Limits, Lease, Work, begin_work, notes, prunes, saves, handled, withdrawing, withdrawn, lease_under, retired, pruned, nudged, is_at, is_home, is_leased}
use Rattle.protocol.specs.Nodes.{NodeAnswer, may_restart}
use Rattle.protocol.specs.Replay.{Event, Tenure, Deliver, Begin, Finish, Abort, Resend, Nudge, Withdraw, Prune, Retire, RestartNode, RestartCoordinator, Forge, Forget, FailSave, Farm, Turn, settled, coordinated, is_node, at_node, restarts, delivered, step}
use Rattle.protocol.specs.Replay as replay
use Rattle.protocol.specs.Reasons.{message_decision, decision_at}
use Rattle.protocol.specs.Chronicle.{HoldsAfter, LeavesArmed}

abbrev Fault : EventRefusal
Fault = refusal.Coord coord.SaveFault

pub armed_now : (sha : List ℕ → Digest) (k : Limits) (s : Farm) (kept : Kept) → (step sha k s (FailSave kept)).farm ≡ record s { armed = Some kept }
unfolding step
armed_now sha k s kept = refl

-- a call is refused, but not for its save
abbrev NoFault : Result Work CoordRefusal → Type 0
NoFault (Ok w) = ⊤
NoFault (Err e) = e ≢ coord.SaveFault

no_fault_if : (b : Bool) (e : CoordRefusal) (r : Result Work CoordRefusal) → e ≢ coord.SaveFault → NoFault r → NoFault (if b then Err e else r)
no_fault_if true e r h n = h
no_fault_if false e r h n = n

coord_is : (a b : CoordRefusal) → refusal.Coord a ≡ refusal.Coord b → a ≡ b
coord_is a b e = cc

module _ (k : Limits) (s : Farm) (e : Event) where
  quietly : (t : Turn) → (t.outcome ≡ Err Fault → ⊥) → t.farm.armed ≡ s.armed → LeavesArmed k s e t
  quietly t no_fault same = record { failed = λ f. absurd (no_fault f); stays = λ f. same }

  settled_armed : (changed : Bool) (armed : Option Kept) (w : Work) → s.armed ≡ armed → decision_at k s e ≡ Some (Ok w) → LeavesArmed k s e (settled changed armed w s)
  settled_armed false armed w at decided = quietly (settled false armed w s) (λ f. (let bad : (settled false armed w s).outcome ≡ Err Fault = f in cc)) refl
  settled_armed true None w at decided = quietly (settled true None w s) (λ f. (let bad : (settled true None w s).outcome ≡ Err Fault = f in cc)) refl
  settled_armed true (Some Old) w at decided = record {
    failed = λ f. record { down = refl; saved = held at; armed = refl; ledger = refl };
    stays = λ f. absurd (f refl);
  }
    where
      held : s.armed ≡ Some Old → HoldsAfter k s e s.armed s.saved
      held at = subst (λ a. HoldsAfter k s e a s.saved) (sym at) refl
  settled_armed true (Some New) w at decided = record {
    failed = λ f. record { down = refl; saved = subst (λ a. HoldsAfter k s e a (saves w.ledger)) (sym at) (w, decided, refl); armed = refl; ledger = refl };
    stays = λ f. absurd (f refl);
  }

  coordinated_armed : (d : Bool) (r : Result Work CoordRefusal) → decision_at k s e ≡ Some r → NoFault r → LeavesArmed k s e (coordinated d r s)
  coordinated_armed true r decided n = quietly (coordinated true r s) (λ f. (let bad : (coordinated true r s).outcome ≡ Err Fault = f in cc)) refl
  coordinated_armed false (Err x) decided n = quietly (coordinated false (Err x) s) (λ f. n (coord_is x coord.SaveFault (by x f))) refl
    where
      by : (x : CoordRefusal) → (coordinated false (Err x) s).outcome ≡ Err Fault → refusal.Coord x ≡ Fault
      by x f = cc
  coordinated_armed false (Ok w) decided n = settled_armed w.changed s.armed w refl decided

  at_node_armed : (b : Bool) (n : NodeId) (a : NodeAnswer) → LeavesArmed k s e (at_node b n a s)
  at_node_armed true n (Ok w) = quietly (at_node true n (Ok w) s) (λ f. (let bad : (at_node true n (Ok w) s).outcome ≡ Err Fault = f in cc)) refl
  at_node_armed true n (Err x) = quietly (at_node true n (Err x) s) (λ f. (let bad : (at_node true n (Err x) s).outcome ≡ Err Fault = f in cc)) refl
  at_node_armed false n a = quietly (at_node false n a s) (λ f. (let bad : (at_node false n a s).outcome ≡ Err Fault = f in cc)) refl

  restarts_armed : (n : NodeId) → LeavesArmed k s e (restarts k n s)
  restarts_armed n = elim (cases_Bool (may_restart k (s.nodes n.0))) [
    | inl t ↦ rw t (quietly _ (λ f. cc) refl)
    | inr t ↦ rw t (quietly _ (λ f. cc) refl)
  ]

withdrawing_plain : (k : Limits) (o : Option Lease) (w : Work) → NoFault (withdrawing k o w)
withdrawing_plain k None w = λ e. cc
withdrawing_plain k (Some g) w = no_fault_if g.tenure coord.Tenure _ (λ e. cc) tt

retired_plain : (k : Limits) (n : NodeId) (w : Work) → NoFault (retired k n w)
retired_plain k n w = no_fault_if (w.ledger.gone n.0) coord.NodeRetired _ (λ e. cc) (no_fault_if (list_any (λ (g : Lease). is_at n g && g.tenure) w.ledger.live || is_home n w.ledger.old_home) coord.TenureHeld _ (λ e. cc) tt)

pruned_plain : (k : Limits) (s : Slot) (w : Work) → NoFault (pruned k s w)
pruned_plain k s w = no_fault_if (is_leased w.ledger s) coord.SlotLeased _ (λ e. cc) (no_fault_if (is_nil (w.ledger.line s)) coord.NoSuchSlot _ (λ e. cc) (by (nat_lt w.ledger.last k.greatest)))
  where
    by : (b : Bool) → NoFault (if b then Ok (notes (note.Pruned (record { 0 = w.ledger.last + 1 })) (prunes k s w)) else Err coord.TicketsSpent)
    by true = tt
    by false = λ e. cc

pub leaves_armed : (sha : List ℕ → Digest) (k : Limits) (s : Farm) (e : Event) → ((kept : Kept) → e ≢ FailSave kept) → LeavesArmed k s e (step sha k s e)
unfolding step
leaves_armed sha k s (replay.Ask n wants) other = at_node_armed k s _ (is_node s n) n _
leaves_armed sha k s (Tenure n f) other = at_node_armed k s _ (is_node s n) n _
leaves_armed sha k s (Deliver number) other = by (nth s.pool number) refl
  where
    by : (o : Option Message) → nth s.pool number ≡ o → LeavesArmed k s (Deliver number) (delivered sha k o s)
    by None at = quietly k s (Deliver number) _ (λ f. (let bad : (delivered sha k None s).outcome ≡ Err Fault = f in cc)) refl
    by (Some (to.ToCoord y)) at = coordinated_armed k s (Deliver number) s.down (Ok (handled k y (begin_work s.ledger))) (ap (message_decision k s) at) tt
    by (Some (to.ToNode y)) at = at_node_armed k s (Deliver number) (is_node s (replay.receiver y)) (replay.receiver y) _
leaves_armed sha k s (Begin n t) other = at_node_armed k s _ (is_node s n) n _
leaves_armed sha k s (Finish n t lefts) other = at_node_armed k s _ (is_node s n) n _
leaves_armed sha k s (Abort n t) other = at_node_armed k s _ (is_node s n) n _
leaves_armed sha k s (Resend n) other = at_node_armed k s _ (is_node s n) n _
leaves_armed sha k s Nudge other = coordinated_armed k s Nudge s.down (Ok (nudged k (begin_work s.ledger))) refl tt
leaves_armed sha k s (Withdraw t) other = coordinated_armed k s (Withdraw t) s.down (withdrawn k t (begin_work s.ledger)) refl (withdrawing_plain k (lease_under s.ledger.live t) (begin_work s.ledger))
leaves_armed sha k s (Prune slot) other = coordinated_armed k s (Prune slot) s.down (pruned k slot (begin_work s.ledger)) refl (pruned_plain k slot (begin_work s.ledger))
leaves_armed sha k s (Retire n) other = elim (cases_Bool (is_node s n)) [
  | inl t ↦ rw t (coordinated_armed k s (Retire n) s.down (retired k n (begin_work s.ledger)) refl (retired_plain k n (begin_work s.ledger)))
  | inr t ↦ rw t (quietly k s (Retire n) _ (λ f. cc) refl)
]
leaves_armed sha k s (RestartNode n) other = elim (cases_Bool (is_node s n)) [
  | inl t ↦ rw t (restarts_armed k s (RestartNode n) n)
  | inr t ↦ rw t (quietly k s (RestartNode n) _ (λ f. cc) refl)
]
leaves_armed sha k s RestartCoordinator other = quietly k s RestartCoordinator _ (λ f. cc) refl
leaves_armed sha k s (Forge n c) other = at_node_armed k s _ (is_node s n) n _
leaves_armed sha k s (Forget n d) other = at_node_armed k s _ (is_node s n) n _
leaves_armed sha k s (FailSave kept) other = absurd (other kept refl)

-- a node whose last life is over is down for good
pub spent_down : (sha : List ℕ → Digest) (k : Limits) (s : Farm) (n : NodeId) → (step sha k s (RestartNode n)).outcome ≡ Err (refusal.Node node_refusal.LivesSpent) → ((step sha k s (RestartNode n)).farm.nodes n.0).spent ≡ true
unfolding step
spent_down sha k s n = elim (cases_Bool (is_node s n)) [
  | inl here ↦ rw here (elim (cases_Bool (may_restart k (s.nodes n.0))) [
    | inl t ↦ rw t (λ e. cc)
    | inr t ↦ rw t (λ e. ap (λ (x : Node). x.spent) (put_same n.0 (record (s.nodes n.0) { spent = true }) s.nodes))
  ])
  | inr away ↦ rw away (λ e. cc)
]
