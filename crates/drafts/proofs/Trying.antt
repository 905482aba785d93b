-- Trying an ask, by what is decided of it.
use Rattle.std.proofs.Common.{◌≡◌, ℕ, List, [], ◌∷◌, ◌<◌, ◌≤◌, Bool, true, false, ◌||◌, Option, Some, None, refl, sym, ◌∙◌, ap, inl, inr, arith}
use Rattle.std.proofs.lemmas.Bool.{cases_Bool, eqb-true}
use Rattle.std.specs.Prelude.{is_some, nat_lt}
use Rattle.std.specs.List.{list_any}
use Rattle.std.proofs.lemmas.Bool.Decides.{nat_tests}
use Rattle.protocol.specs.Names.{NodeId, Life, Ticket}
use Rattle.events.specs.declared.answer.CoordNote.TheVariants as note
use Rattle.protocol.specs.Machine.{Parked, ToCoord}
use Rattle.protocol.specs.Ledger.{Limits, Work, decision, carried_out, waits, tried, stays, try_all, waiting, retried, parks, gives, notes, Lease, acquiring, decided, is_older, is_home, newer_life, sees, may_release, released, ends, lease_under, has_ticket, without, answering, handled}
use Rattle.events.specs.declared.answer.Decision.{Decision}
use Rattle.events.specs.declared.answer.Decision.TheVariants.{Give, Deny, Wait}
use Rattle.drafts.specs.Shown.{ended, saved_under}

pub tried-is : (k : Limits) (p : Parked) (w : Work) (d : Decision) → decision k w.ledger p ≡ d → tried k p w ≡ carried_out k d p w
unfolding tried
tried-is k p w d e = ap (λ x. carried_out k x p w) e

pub stays-is : (k : Limits) (p : Parked) (w : Work) (d : Decision) → decision k w.ledger p ≡ d → stays k p w ≡ waits d
unfolding stays
stays-is k p w d e = ap waits e

-- what waits has no say in what is decided
decision-parks : (k : Limits) (p : Parked) (w : Work) (ps : List Parked) → decision k (parks ps w).ledger p ≡ decision k w.ledger p
unfolding decision
decision-parks k p w ps = refl

carried_out-parks : (d : Decision) (k : Limits) (p : Parked) (w : Work) (ps : List Parked) → carried_out k d p (parks ps w) ≡ parks ps (carried_out k d p w)
unfolding gives
carried_out-parks Give k p w ps = refl
carried_out-parks (Deny why) k p w ps = refl
carried_out-parks Wait k p w ps = refl

tried-parks : (k : Limits) (p : Parked) (w : Work) (ps : List Parked) → tried k p (parks ps w) ≡ parks ps (tried k p w)
tried-parks k p w ps =
    tried-is k p (parks ps w) (decision k w.ledger p) (decision-parks k p w ps) ∙ carried_out-parks (decision k w.ledger p) k p w ps ∙ ap (parks ps) (sym (tried-is k p w (decision k w.ledger p) refl))

stays-parks : (k : Limits) (p : Parked) (w : Work) (ps : List Parked) → stays k p (parks ps w) ≡ stays k p w
stays-parks k p w ps = stays-is k p (parks ps w) (decision k w.ledger p) (decision-parks k p w ps) ∙ sym (stays-is k p w (decision k w.ledger p) refl)

pub try_all-parks : (k : Limits) (qs : List Parked) (w : Work) (ps : List Parked) → try_all k qs (parks ps w) ≡ parks ps (try_all k qs w)
try_all-parks k [] w ps = refl
try_all-parks k (q ∷ qs) w ps = ap (try_all k qs) (tried-parks k q w ps) ∙ try_all-parks k qs (tried k q w) ps

pub waiting-parks : (k : Limits) (qs : List Parked) (w : Work) (ps : List Parked) → waiting k qs (parks ps w) ≡ waiting k qs w
waiting-parks k [] w ps = refl
waiting-parks k (q ∷ qs) w ps =
    let same = stays-parks k q w ps in
    let next : waiting k qs (tried k q (parks ps w)) ≡ waiting k qs (tried k q w) = ap (waiting k qs) (tried-parks k q w ps) ∙ waiting-parks k qs (tried k q w) ps in
    rw (same, next) refl

pub retried-is : (k : Limits) (w : Work) → retried k w ≡ parks (waiting k w.ledger.parked w) (try_all k w.ledger.parked w)
unfolding retried
retried-is k w = refl

-- an ask that was not granted or parked before is decided
pub acquiring-decides : (k : Limits) (o : Option Lease) (b : Bool) (p : Parked) (w : Work) → is_some o ≡ false → b ≡ false → acquiring k o b p w ≡ decided k (decision k w.ledger p) p w
acquiring-decides k (Some g) b p w h e = (let bad : true ≡ false = h in absurd (cc bad))
acquiring-decides k None true p w h e = (let bad : true ≡ false = e in absurd (cc bad))
acquiring-decides k None false p w h e = refl

-- where the old home was cleared
pub newer_life-home : (k : Limits) (n : NodeId) (l : Life) (w : Work) → is_home n w.ledger.old_home ≡ true → newer_life k n l w ≡ retried k (sees n l w)
unfolding newer_life
newer_life-home k n l w e = rw e (elim (cases_Bool (list_any (is_older n l) w.ledger.live)) [ inl t ↦ rw t refl | inr f ↦ rw f refl ])

-- where a lease ended
pub newer_life-leases : (k : Limits) (n : NodeId) (l : Life) (w : Work) → list_any (is_older n l) w.ledger.live ≡ true → newer_life k n l w ≡ retried k (sees n l w)
unfolding newer_life
newer_life-leases k n l w e = rw e refl

-- where neither was
pub newer_life-sees : (k : Limits) (n : NodeId) (l : Life) (w : Work) → list_any (is_older n l) w.ledger.live ≡ false → is_home n w.ledger.old_home ≡ false → newer_life k n l w ≡ sees n l w
unfolding newer_life
newer_life-sees k n l w e f = rw (e, f) refl

-- what is released was leased
pub may_release-some : (n : NodeId) (l : Life) (o : Option Lease) → may_release n l o ≡ true → (g : Lease) × (o ≡ Some g)
may_release-some n l None h = (let bad : false ≡ true = h in absurd (cc bad))
may_release-some n l (Some g) h = (g, refl)

pub released-is : (k : Limits) (b : Bool) (t : Ticket) (o : Option Lease) (g : Lease) (w : Work) → b ≡ true → o ≡ Some g → released k b t o w ≡ notes (note.Released t) (retried k (ends g w))
released-is k b t o g w e h = ap (λ (x : Bool). released k x t o w) e ∙ ap (λ (x : Option Lease). released k true t x w) h

pub released-not : (k : Limits) (b : Bool) (t : Ticket) (o : Option Lease) (w : Work) → b ≡ false → released k b t o w ≡ w
released-not k true t o w e = (let bad : true ≡ false = e in absurd (cc bad))
released-not k false t None w e = refl
released-not k false t (Some g) w e = refl

-- the lease that is found has the ticket
pub ticket-found : (t : Ticket) (live : List Lease) (g : Lease) → lease_under live t ≡ Some g → g.ticket ≡ t
ticket-found t [] g e = absurd (cc e)
ticket-found t (x ∷ live) g e = elim (cases_Bool (has_ticket t x)) [
  | inl h ↦ (let at : Some x ≡ Some g = rw h at e in let same : x ≡ g = cc at in let is : x.ticket.0 ≡ t.0 = eqb-true x.ticket.0 t.0 h in
      sym (ap (λ (z : Lease). z.ticket) same) ∙ (λ i. record { 0 = is i }))
  | inr h ↦ ticket-found t live g (rw h at e)
]

-- the lease of a ticket ends
pub ended-is : (t : Ticket) (w : Work) (g : Lease) → lease_under w.ledger.live t ≡ Some g → ended t w ≡ ends g w
ended-is t w g e =
    let by : (Option Lease → Ticket → Work) = λ o u. record w { ledger = record w.ledger { live = without u w.ledger.live }; changed = w.changed || saved_under o } in
    ap (λ (o : Option Lease). by o t) e ∙ ap (by (Some g)) (sym (ticket-found t w.ledger.live g e))

-- ---- a message, by its node and life

below : (a b : ℕ) → a < b → nat_lt a b ≡ true
below a b h = grind (arith, nat_tests)

not_below : (a b : ℕ) → b ≤ a → nat_lt a b ≡ false
not_below a b h = grind (arith, nat_tests)

pub handled-gone : (k : Limits) (y : ToCoord) (w : Work) → w.ledger.gone y.node.0 ≡ true → handled k y w ≡ notes note.NodeRetired w
unfolding handled
handled-gone k y w e = rw e refl

pub handled-old : (k : Limits) (y : ToCoord) (w : Work) → w.ledger.gone y.node.0 ≡ false → y.life.0 < w.ledger.lives y.node.0 → handled k y w ≡ notes note.OldLife w
unfolding handled
handled-old k y w e h = (let f = below _ _ h in rw (e, f) refl)

pub handled-new : (k : Limits) (y : ToCoord) (w : Work) → w.ledger.gone y.node.0 ≡ false → w.ledger.lives y.node.0 < y.life.0 → handled k y w ≡ answering k y.node y.life y.request (newer_life k y.node y.life w)
unfolding handled
handled-new k y w e h = (let f : nat_lt y.life.0 (w.ledger.lives y.node.0) ≡ false = not_below _ _ (omega arith) in let g = below _ _ h in rw (e, f, g) refl)

pub handled-same : (k : Limits) (y : ToCoord) (w : Work) → w.ledger.gone y.node.0 ≡ false → w.ledger.lives y.node.0 ≤ y.life.0 → y.life.0 ≤ w.ledger.lives y.node.0 → handled k y w ≡ answering k y.node y.life y.request w
unfolding handled
handled-same k y w e h i = (let f = not_below _ _ h in let g = not_below _ _ i in rw (e, f, g) refl)
