-- The tickets of leases that end, of those that the record has.
use Rattle.std.proofs.Common.{◌≡◌, ◌∷◌, [], List, Bool, true, false, ◌&&◌, ◌||◌, map, refl, sym, ap, inl, inr, arith}
use Rattle.std.proofs.lemmas.Bool.{cases_Bool}
use Rattle.std.proofs.lemmas.List.Elements.{All-tail}
use Rattle.std.specs.Prelude.{All, AllPairs}
use Rattle.farm_base.specs.declared.lease.Lease.{Lease}
use Rattle.protocol.specs.Names.{Ticket}
use Rattle.protocol.specs.Ledger.{has_ticket, is_saved, lease_under}
use Rattle.holdings.specs.declared.ending.Ending.{Ending}
use Rattle.holdings.specs.declared.ending.Ending.TheVariants as ending
use Rattle.holdings.specs.Endings.{ends_lease, has_ended}
use Rattle.leases.specs.Changes.{saved_tickets, ticket_of_saved}
use Rattle.leaseindex.specs.Counts.{AreLast}
use Rattle.holdings.specs.Leases.{IsBefore}
use Rattle.leaseindex.proofs.FindLemmas.{ticket_once}
use Rattle.leaseindex.proofs.LastLemmas.{last-filter, last-weaker}
use Rattle.holdings.proofs.LeaseLemmas.{AllPairs-head, AllPairs-tail}

-- nothing ends
pub saved_tickets-none : (live : List Lease) → [] ≡ saved_tickets [] live
saved_tickets-none [] = refl
saved_tickets-none (g ∷ live) = saved_tickets-none live

-- no lease has the ticket
saved_tickets-absent : (t : Ticket) (live : List Lease) → All (λ g. has_ticket t g ≡ false) live → saved_tickets (ending.Ticket t ∷ []) live ≡ []
saved_tickets-absent t [] none = refl
saved_tickets-absent t (g ∷ live) none =
    let here : has_ticket t g ≡ false = none 0 g (omega arith) in
    rw here (saved_tickets-absent t live (All-tail (λ h. has_ticket t h ≡ false) g live none))

-- a lease ends by its ticket
pub saved_tickets-one : (t : Ticket) (live : List Lease) → AllPairs IsBefore live → ticket_of_saved (lease_under live t) ≡ saved_tickets (ending.Ticket t ∷ []) live
saved_tickets-one t [] up = refl
saved_tickets-one t (g ∷ live) up = elim (cases_Bool (has_ticket t g)) [
  | inl e ↦
      let none = saved_tickets-absent t live (λ k d inside. AllPairs-head (λ x y. has_ticket t x ≡ true → has_ticket t y ≡ false) g live (ticket_once t (g ∷ live) up) k d inside e) in
      elim (cases_Bool (is_saved g)) [ inl s ↦ rw (e, s) (ap (λ (ts : List Ticket). g.ticket ∷ ts) (sym none)) | inr s ↦ rw (e, s) (sym none) ]
  | inr e ↦ rw e (saved_tickets-one t live (AllPairs-tail IsBefore g live up))
]

-- what one ending ends is among the last leases
pub saved_tickets-last : (e : Ending) (last live : List Lease) → AreLast (ends_lease e) last live → saved_tickets (e ∷ []) last ≡ saved_tickets (e ∷ []) live
saved_tickets-last e last live h =
    let test : Lease → Bool = λ g. has_ended (e ∷ []) g && is_saved g in
    ap (map (λ (g : Lease). g.ticket)) (last-filter test last live (last-weaker (ends_lease e) test last live (λ g x. ap (λ (b : Bool). (b || false) && is_saved g) x) h))
