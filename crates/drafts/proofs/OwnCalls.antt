-- The operator's calls, by what they are accepted for.
use Rattle.std.proofs.Common.{◌≡◌, Bool, true, false, not, ◌||◌, ◌&&◌, eqb, cond, Option, Some, None, Result, Ok, Err, refl, sym, ◌∙◌, ap}
use Rattle.std.specs.List.{list_any}
use Rattle.std.specs.Result.{result_err}
use Rattle.std.proofs.lemmas.List.Elements.{All-filter}
use Rattle.farm_base.specs.Wanted.{IsWants}
use Rattle.leases.specs.Table.{retires_some}
use Rattle.protocol.specs.Names.{NodeId, Ticket}
use Rattle.events.specs.declared.answer.CoordNote.TheVariants as note
use Rattle.events.specs.declared.answer.CoordRefusal.{CoordRefusal}
use Rattle.events.specs.declared.answer.CoordRefusal.TheVariants as refusal
use Rattle.protocol.specs.Ledger.{Limits, Lease, Work, without, lease_under, has_ticket, retried, notes, withdraws, withdrawing, withdrawn, is_at, is_home, goes, retired}
use Rattle.drafts.specs.Shown.{saved_under, withdraws_under}
use Rattle.effects.specs.Sound.{IsSound}
use Rattle.drafts.proofs.Trying.{ticket-found}
use Rattle.drafts.proofs.SoundWords.{sound-fewer, sound-retried}

-- ---- withdraw

-- what a withdrawal takes back, and its result
pub record Withdrawal (k : Limits) (t : Ticket) (w : Work) : Type 0 where
  pub lease : Lease
  pub found : lease_under w.ledger.live t ≡ Some lease
  pub work : withdrawn k t w ≡ Ok (notes (note.Withdrawn t) (retried k (withdraws lease w)))

allowed : (k : Limits) (t : Ticket) (w : Work) (g : Lease) (b : Bool) → lease_under w.ledger.live t ≡ Some g → g.tenure ≡ b → result_err (withdrawn k t w) ≡ None → Withdrawal k t w
allowed k t w g true e f h =
    let no : withdrawn k t w ≡ Err refusal.Tenure = ap (λ (o : Option Lease). withdrawing k o w) e ∙ ap (λ (b : Bool). cond b (Err refusal.Tenure) (Ok (notes (note.Withdrawn g.ticket) (retried k (withdraws g w))))) f in
    let bad : Some refusal.Tenure ≡ None = sym (ap (λ (r : Result Work CoordRefusal). result_err r) no) ∙ h in
    absurd (cc bad)
allowed k t w g false e f h = record {
  lease = g;
  found = e;
  work = ap (λ (o : Option Lease). withdrawing k o w) e ∙ ap (λ (b : Bool). cond b (Err refusal.Tenure) (Ok (notes (note.Withdrawn g.ticket) (retried k (withdraws g w))))) f
      ∙ ap (λ (u : Ticket). Ok (notes (note.Withdrawn u) (retried k (withdraws g w)))) (ticket-found t w.ledger.live g e);
}

pub withdrawal : (k : Limits) (t : Ticket) (w : Work) → result_err (withdrawn k t w) ≡ None → Withdrawal k t w
withdrawal k t w h = by (lease_under w.ledger.live t) refl
  where
    by : (o : Option Lease) → lease_under w.ledger.live t ≡ o → Withdrawal k t w
    by None e =
        let no : withdrawn k t w ≡ Err refusal.NotLive = ap (λ (o : Option Lease). withdrawing k o w) e in
        let bad : Some refusal.NotLive ≡ None = sym (ap (λ (r : Result Work CoordRefusal). result_err r) no) ∙ h in
        absurd (cc bad)
    by (Some g) e = allowed k t w g g.tenure e refl h

-- the lease of the ticket is withdrawn
pub withdraws-is : (t : Ticket) (w : Work) (g : Lease) → lease_under w.ledger.live t ≡ Some g → withdraws_under t w ≡ withdraws g w
withdraws-is t w g e =
    let by : (Option Lease → Ticket → Work) = λ o u. record w { ledger = record w.ledger { live = without u w.ledger.live; retired = retires_some o w.ledger.retired }; changed = w.changed || saved_under o } in
    ap (λ (o : Option Lease). by o t) e ∙ ap (by (Some g)) (sym (ticket-found t w.ledger.live g e))

pub sound-withdraws : (g : Lease) (w : Work) → IsSound w.ledger → IsSound (withdraws g w).ledger
sound-withdraws g w s =
    let fewer = sound-fewer (λ h. not (has_ticket g.ticket h)) w.ledger s in
    record { leases = fewer.leases; given = fewer.given; past = s.past; ahead = fewer.ahead; asks = s.asks }

-- ---- retire

-- what passes two tests
passed : (a b : Bool) (x y : CoordRefusal) (r : Work) → result_err (cond a (Err x) (cond b (Err y) (Ok r))) ≡ None → (a ≡ false) × (b ≡ false)
passed true b x y r h = absurd (cc)
passed false true x y r h = absurd (cc)
passed false false x y r h = (refl, refl)

pub retirement : (k : Limits) (n : NodeId) (w : Work) → result_err (retired k n w) ≡ None
    → retired k n w ≡ Ok (notes (note.Retired n) (cond (list_any (is_at n) w.ledger.live) (retried k (goes n w)) (goes n w)))
retirement k n w h =
    let done : Work = notes (note.Retired n) (cond (list_any (is_at n) w.ledger.live) (retried k (goes n w)) (goes n w)) in
    let p = passed (w.ledger.gone n.0) (list_any (λ g. is_at n g && g.tenure) w.ledger.live || is_home n w.ledger.old_home) refusal.NodeRetired refusal.TenureHeld done h in
    (λ j. cond (p.0 j) (Err refusal.NodeRetired) (cond (p.1 j) (Err refusal.TenureHeld) (Ok done)))

pub sound-goes : (n : NodeId) (w : Work) → IsSound w.ledger → IsSound (goes n w).ledger
sound-goes n w s =
    let fewer = sound-fewer (λ g. not (is_at n g)) w.ledger s in
    record { leases = fewer.leases; given = fewer.given; past = s.past; ahead = fewer.ahead; asks = All-filter (λ p. not (eqb p.node.0 n.0)) (λ p. IsWants p.wants) w.ledger.parked s.asks }

-- the parked asks are tried, where they are to be
pub sound-tries : (b : Bool) (k : Limits) (w : Work) → IsSound w.ledger → IsSound (cond b (retried k w) w).ledger
sound-tries true k w s = sound-retried k w s
sound-tries false k w s = s
