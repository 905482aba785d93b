-- What is found among leases: by a ticket, and among those that are kept.
use Rattle.std.proofs.Common.{◌≡◌, List, [], ◌∷◌, ◌++◌, Bool, true, false, not, get_or, filter, Option, Some, None, is_some, Bor, refl, sym, ◌∙◌, ap, inl, inr, arith}
use Rattle.std.proofs.lemmas.Bool.{cases_Bool, ne_eqb, eqb-true}
use Rattle.std.proofs.lemmas.List.Elements.{All-tail}
use Rattle.std.proofs.lemmas.List.Folds.{find-append}
use Rattle.std.specs.Prelude.{if◌then◌else◌, All, AllPairs}
use Rattle.std.specs.List.{find}
use Rattle.std.specs.Option.{option_copied, option_or}
use Rattle.farm_base.specs.declared.lease.Lease.{Lease}
use Rattle.protocol.specs.Names.{Ticket}
use Rattle.protocol.specs.Ledger.{has_ticket}
use Rattle.holdings.specs.declared.ending.Ending.{Ending}
use Rattle.holdings.specs.Endings.{has_ended, standing}
use Rattle.holdings.specs.Leases.{IsBefore}
use Rattle.holdings.proofs.LeaseLemmas.{AllPairs-head, AllPairs-tail}

-- ---- among those that are kept

-- at most one of them passes the test
abbrev pub PassesOnce : (Lease → Bool) → List Lease → Type 0
PassesOnce test live = AllPairs (λ g h. test g ≡ true → test h ≡ false) live

-- the lease, if it passes the test
abbrev pub only_if : (Lease → Bool) → Option Lease → Option Lease
only_if test None = None
only_if test (Some g) = if test g then Some g else None

pub none_found : (test keep : Lease → Bool) (live : List Lease) → All (λ g. test g ≡ false) live → find test (filter keep live) ≡ None
none_found test keep [] none = refl
none_found test keep (g ∷ live) none =
    let here : test g ≡ false = none 0 g (omega arith) in
    let rest = none_found test keep live (All-tail (λ g. test g ≡ false) g live none) in
    elim (cases_Bool (keep g)) [ inl e ↦ rw (e, here) rest | inr e ↦ rw e rest ]

found_kept : (test keep : Lease → Bool) (live : List Lease) → PassesOnce test live → only_if keep (find test live) ≡ find test (filter keep live)
found_kept test keep [] once = refl
found_kept test keep (g ∷ live) once =
    let rest = found_kept test keep live (AllPairs-tail (λ g h. test g ≡ true → test h ≡ false) g live once) in
    elim (cases_Bool (test g)) [
      | inl t ↦
          let none = none_found test keep live (λ k d inside. AllPairs-head (λ g h. test g ≡ true → test h ≡ false) g live once k d inside t) in
          elim (cases_Bool (keep g)) [ inl e ↦ rw (t, e, t) refl | inr e ↦ rw (t, e) (sym none) ]
      | inr t ↦ elim (cases_Bool (keep g)) [ inl e ↦ rw (t, e, t) rest | inr e ↦ rw (t, e) rest ]
    ]

standing-kept : (ended : List Ending) (o : Option Lease) → standing ended o ≡ only_if (λ g. not (has_ended ended g)) o
standing-kept ended None = refl
standing-kept ended (Some g) = elim (cases_Bool (has_ended ended g)) [ inl e ↦ rw e refl | inr e ↦ rw e refl ]

-- what at most one of these leases passes, unless it has ended
pub found_standing : (test : Lease → Bool) (ended : List Ending) (live : List Lease) → PassesOnce test live → standing ended (find test live) ≡ find test (filter (λ g. not (has_ended ended g)) live)
found_standing test ended live once = standing-kept ended (find test live) ∙ found_kept test (λ g. not (has_ended ended g)) live once

-- the same, looked up in the table with changes
pub found_over : (test : Lease → Bool) (ended : List Ending) (live granted : List Lease) → PassesOnce test live
    → option_or (standing ended (find test live)) (find test granted) ≡ find test (filter (λ g. not (has_ended ended g)) live ++ granted)
found_over test ended live granted once =
    ap (λ (o : Option Lease). option_or o (find test granted)) (found_standing test ended live once)
    ∙ sym (find-append test (filter (λ g. not (has_ended ended g)) live) granted)

pub copied_or : (a b : Option (Bor Lease)) → option_copied (option_or a b) ≡ option_or (option_copied a) (option_copied b)
copied_or None b = refl
copied_or (Some x) b = refl

pub is_some-copied : (o : Option (Bor Lease)) → is_some o ≡ is_some (option_copied o)
is_some-copied None = refl
is_some-copied (Some x) = refl

-- ---- by a ticket

-- at most one lease has the ticket
pub ticket_once : (t : Ticket) (live : List Lease) → AllPairs IsBefore live → PassesOnce (has_ticket t) live
ticket_once t live up i j d lt inside has =
    let rises = up i j d lt inside in
    let same = eqb-true (get_or live i d).ticket.0 t.0 has in
    ne_eqb (get_or live j d).ticket.0 t.0 (λ e. omega arith)
