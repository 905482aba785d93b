-- Withdrawals answer each parked ask that is for no tenure.
use Rattle.std.proofs.Common.{◌≡◌, ℕ, zero, suc, ◌+◌, ◌≤◌, List, [], ◌∷◌, ◌++◌, length, map, Bool, true, false, not, Option, Some, None, Result, Ok, refl, sym, ◌∙◌, ap, subst, inl, inr, arith, append_assoc}
use Rattle.std.proofs.lemmas.Bool.{and_parts, cases_Bool, not-true}
use Rattle.protocol.specs.Lists.{In}
use Rattle.protocol.specs.Names.{Slot, slot_eq, is_shared, wants_shared, only_slot, Ticket, Digest, Want, leased_wants}
use Rattle.protocol.specs.Machine.{Told, Message, Parked}
use Rattle.farm_base.specs.declared.message.FromCoord.TheVariants as told
use Rattle.events.specs.declared.answer.CoordNote.TheVariants as note
use Rattle.protocol.specs.Ledger.{Limits, Ledger, Lease, Work, begin_work, has_slot, retried, has_ticket, lease_under, without, withdraws, withdrawing, withdrawn, notes}
use Rattle.protocol.specs.Replay.{Withdraw, Farm, opening, settled, coordinated, step, run, scheduled}
use Rattle.protocol.specs.Meaning.{IsAnswered}
use Rattle.protocol.specs.Lawful.{IsLawful, IsLawfulFarm, EveryFarmStaysLawful, EveryOpeningIsLawful, want_of}
use Rattle.protocol.proofs.Base.{in_right, in_map, from_any, from_filter, true_false, eqb_same, slot_eq_is}
use Rattle.progress.specs.Progress.{size_of, withdrawals, Frees, EveryParkedAskCanBeFreed}
use Rattle.progress.proofs.Progressing.{filter_less, some_in, AreHeldUp, waits_for, retried_size, retried_served, served_is, under_it, step_held, run_held, run_lawful}

-- ---- who holds what a lease waits for

-- a want of a tenure's lease is SHARED
pub tenure_shared : (wants : List Want) (w : Want) → In w (leased_wants true wants) → wants_shared w ≡ true
tenure_shared wants w i = (from_filter wants_shared w wants i).1

pub other_shared : (wants : List Want) (w : Want) → In w (leased_wants false wants) → wants_shared w ≡ false
other_shared wants w i = not-true (wants_shared w) (from_filter (λ (w : Want). not (wants_shared w)) w wants i).1

-- a lease that has a slot of another folder is no tenure
pub no_tenure : (h : Lease) (wants : List Want) (w : Want) → map want_of h.slots ≡ leased_wants h.tenure wants → has_slot h.slots (only_slot w.folder) ≡ true → wants_shared w ≡ false → h.tenure ≡ false
no_tenure h wants w same has other = elim (cases_Bool h.tenure) [
  | inr f ↦ f
  | inl t ↦
      let x = from_any (λ (pair : Slot × Bool). slot_eq pair.0 (only_slot w.folder)) h.slots has in
      let on : In (want_of x.0) (leased_wants true wants) = subst (λ b. In (want_of x.0) (leased_wants b wants)) t (subst (In (want_of x.0)) same (in_map want_of x.0 h.slots x.1)) in
      let shared : is_shared x.0.0.folder.mode ≡ true = tenure_shared wants (want_of x.0) on in
      let slot : x.0.0 ≡ only_slot w.folder = slot_eq_is x.0.0 (only_slot w.folder) x.2 in
      true_false (is_shared w.folder.mode) (subst (λ (s : Slot). is_shared s.folder.mode ≡ true) slot shared) other
]

module _ (k : Limits) (sha : List ℕ → Digest) (top : ℕ) where
  -- ---- a withdrawal

  abbrev gone : Lease → Ledger → Work
  gone h q = notes (note.Withdrawn h.ticket) (retried k (withdraws h (begin_work q)))

  withdrawing_is : (h : Lease) (o : Option Lease) (w : Work) → o ≡ Some h → h.tenure ≡ false → withdrawing k o w ≡ Ok (notes (note.Withdrawn h.ticket) (retried k (withdraws h w)))
  withdrawing_is h o w e f = rw (e, f) refl

  -- the farm that the work leaves
  pub record IsAfter (s : Farm) (w : Work) (later : Farm) : Type 0 where
    pub ledger : later.ledger ≡ w.ledger
    pub pool : later.pool ≡ s.pool ++ map Told w.sends
    pub down : later.down ≡ false
    pub armed : later.armed ≡ None

  pub settles : (changed : Bool) (w : Work) (s : Farm) → s.down ≡ false → s.armed ≡ None → IsAfter s w (settled changed None w s).farm
  settles false w s up safe = record { ledger = refl; pool = refl; down = up; armed = safe }
  settles true w s up safe = record { ledger = refl; pool = refl; down = up; armed = safe }

  withdrawal_is : (h : Lease) (s : Farm) → IsLawful top s.ledger → In h s.ledger.live → h.tenure ≡ false → s.down ≡ false → s.armed ≡ None → IsAfter s (gone h s.ledger) (step sha k s (Withdraw h.ticket)).farm
  unfolding step
  withdrawal_is h s lawful i free up safe =
      let w : Work = gone h s.ledger in
      let found : lease_under s.ledger.live h.ticket ≡ Some h = under_it k s.ledger.live h lawful.core.apart i in
      let same : withdrawn k h.ticket (begin_work s.ledger) ≡ Ok w = withdrawing_is h (lease_under s.ledger.live h.ticket) (begin_work s.ledger) found free in
      subst (λ (r : Result Work _). IsAfter s w (coordinated s.down r s).farm) (sym same)
      (subst (λ b. IsAfter s w (coordinated b (Ok w) s).farm) (sym up)
      (subst (λ o. IsAfter s w (settled w.changed o w s).farm) (sym safe) (settles w.changed w s up safe)))

  -- ---- one after another

  pub more_pool : (xs ys zs : List Message) (a b : List Message) → ys ≡ xs ++ a → zs ≡ ys ++ b → zs ≡ xs ++ (a ++ b)
  more_pool xs ys zs a b e f = f ∙ ap (λ l. l ++ b) e ∙ append_assoc xs a b

  pub answered_right : (p : Parked) (xs ys : List Message) → IsAnswered p ys → IsAnswered p (xs ++ ys)
  answered_right p xs ys (inl (g, i, n, l, a)) = inl (g, in_right (Told (told.Granted g)) xs ys i, n, l, a)
  answered_right p xs ys (inr (why, i)) = inr (why, in_right (Told (told.Denied p.node p.life p.ask why)) xs ys i)

  module _ (law : EveryFarmStaysLawful) where
    free_it : (fuel : ℕ) (s : Farm) → IsLawfulFarm top s → AreHeldUp s.ledger → s.down ≡ false → s.armed ≡ None → (p : Parked) → In p s.ledger.parked → p.tenure ≡ false → size_of s.ledger ≤ fuel → (tickets : List Ticket) × Frees sha k s p tickets
    free_it zero s lawful held up safe p i free le = (let one : 1 ≤ length s.ledger.parked = some_in s.ledger.parked p i in absurd (omega arith))
    free_it (suc fuel) s lawful held up safe p i free le = elim (waits_for s.ledger p (held p i)) [
      | inl away ↦ (let b = and_parts p.tenure _ away in true_false p.tenure b.0 free)
      | inr (h, j, holds) ↦
          let q : Ledger = s.ledger in
          let x = from_any (λ (w : Want). has_slot h.slots (only_slot w.folder)) (leased_wants p.tenure p.wants) holds in
          let other : wants_shared x.0 ≡ false = other_shared p.wants x.0 (subst (λ b. In x.0 (leased_wants b p.wants)) free x.1) in
          let its = (lawful.ledger.core.holders h j).wants in
          let plain : h.tenure ≡ false = no_tenure h its.0 x.0 its.2 x.2 other in
          let w : Work = gone h q in
          let later : Farm = (step sha k s (Withdraw h.ticket)).farm in
          let is : IsAfter s w later = withdrawal_is h s lawful.ledger j plain up safe in
          let less : size_of w.ledger + 1 ≤ size_of q =
          (let a : size_of w.ledger ≤ length (without h.ticket q.live) + length q.parked = retried_size k (withdraws h (begin_work q)) in
          let b : length (without h.ticket q.live) + 1 ≤ length q.live = filter_less (λ (g : Lease). not (has_ticket h.ticket g)) q.live h j (ap not (eqb_same h.ticket.0)) in
          omega arith) in
          elim (retried_served k (withdraws h (begin_work q)) p i) [
            | inr s1 ↦ (h.ticket ∷ [], record { sent = map Told w.sends; sends = is.pool; answered = served_is k p w.sends s1; few = (let one : 1 ≤ length q.live = some_in q.live h j in omega arith) })
            | inl still ↦
                let size : size_of later.ledger ≤ fuel = subst (λ (l : Ledger). size_of l ≤ fuel) (sym is.ledger) (omega arith) in
                let r = free_it fuel later (law sha k top s (Withdraw h.ticket) tt lawful) (step_held k sha s (Withdraw h.ticket) held) is.down is.armed p (subst (λ (l : Ledger). In p l.parked) (sym is.ledger) still) free size in
                let few : length r.0 ≤ size_of w.ledger = subst (λ (l : Ledger). length r.0 ≤ size_of l) is.ledger r.1.few in (
                  h.ticket ∷ r.0,
                  record {
                    sent = map Told w.sends ++ r.1.sent;
                    sends = more_pool s.pool later.pool (run sha k (withdrawals r.0) later).pool (map Told w.sends) r.1.sent is.pool r.1.sends;
                    answered = answered_right p (map Told w.sends) r.1.sent r.1.answered;
                    few = omega arith;
                  },
                )
          ]
    ]

pub every_parked_ask_can_be_freed : EveryOpeningIsLawful → EveryFarmStaysLawful → EveryParkedAskCanBeFreed
every_parked_ask_can_be_freed opens farms sha k size events are up safe p i free =
    let s : Farm = scheduled sha k size events in
    free_it k sha size farms (size_of s.ledger) s (run_lawful k farms sha size events (opening sha size) are (opens sha size size (omega arith)))
    (run_held k sha events (opening sha size) (λ p i. absurd i)) up safe p i free (omega arith)
