-- Lists of leases by their tickets, and the wants of which a lease takes slots.
use Rattle.std.proofs.Common.{◌≡◌, ℕ, zero, suc, ◌+◌, ◌<◌, List, [], ◌∷◌, Bool, true, false, eqb, eq-eqb, length, get_or, map, filter, Some, None, Result, Ok, Err, refl, sym, ◌∙◌, ap, subst, inl, inr, arith}
use Rattle.std.proofs.lemmas.Bool.{cases_Bool, ne_eqb, eqb-true}
use Rattle.std.proofs.lemmas.List.{get_or-map, length-map}
use Rattle.std.proofs.lemmas.List.Elements.{All-tail}
use Rattle.std.specs.Prelude.{All, AllPairs, MatchResult}
use Rattle.std.specs.List.{find, position_from, remove, AllByRecursion}
use Rattle.std.specs.List.Sorted.{IsStrictlyIncreasing, IsStrictlySortedBy}
use Rattle.std.specs.Result.{result_ok}
use Rattle.std.specs.declared.cmp.Ordering.TheVariants.{Less}
use Rattle.names.specs.Folders.{folder_cmp}
use Rattle.farm_base.specs.Wanted.{folders}
use Rattle.farm_base.specs.declared.lease.Lease.{Lease}
use Rattle.protocol.specs.Names.{FolderName, Ticket, Want, leased_wants}
use Rattle.protocol.specs.Ledger.{has_ticket, without}
use Rattle.holdings.specs.Leases.{IsBefore, takes}
use Rattle.holdings.specs.Places.{IsPlace, IsGap}
use Rattle.holdings.proofs.PlaceLemmas.{NoneBelow, none_below_place, none_in_gap}

-- ---- the wants of which a lease takes slots

pub leased-filter : (tenure : Bool) (wants : List Want) → leased_wants tenure wants ≡ filter (takes tenure) wants
leased-filter true wants = refl
leased-filter false wants = refl

below_filter : (p : Want → Bool) (f : FolderName) (ws : List Want) → AllByRecursion (λ g. folder_cmp f g ≡ Less) (folders ws) → AllByRecursion (λ g. folder_cmp f g ≡ Less) (folders (filter p ws))
below_filter p f [] h = tt
below_filter p f (w ∷ ws) h = elim (cases_Bool (p w)) [
  | inl e ↦ rw e (h.0, below_filter p f ws h.1)
  | inr e ↦ rw e (below_filter p f ws h.1)
]

pub wants_filter : (p : Want → Bool) (ws : List Want) → IsStrictlySortedBy folder_cmp (folders ws) → IsStrictlySortedBy folder_cmp (folders (filter p ws))
unfolding IsStrictlySortedBy
wants_filter p [] h = tt
wants_filter p (w ∷ ws) h = elim (cases_Bool (p w)) [
  | inl e ↦ rw e (below_filter p w.folder ws h.0, wants_filter p ws h.1)
  | inr e ↦ rw e (wants_filter p ws h.1)
]

-- ---- the lease of a ticket

pub AllPairs-tail : {A : Type 0} (R : A → A → Type 0) (x : A) (xs : List A) → AllPairs R (x ∷ xs) → AllPairs R xs
AllPairs-tail R x xs h i j d lt inside = h (suc i) (suc j) d (omega arith) (omega arith)

pub AllPairs-head : {A : Type 0} (R : A → A → Type 0) (x : A) (xs : List A) → AllPairs R (x ∷ xs) → All (R x) xs
AllPairs-head R x xs h k d inside = h 0 (suc k) d (omega arith) (omega arith)

-- no later lease has the ticket
later : (t : Ticket) (g : Lease) (live : List Lease) → g.ticket.0 ≡ t.0 → All (IsBefore g) live → without t live ≡ live
later t g [] e above = refl
later t g (h ∷ live) e above =
    let higher : g.ticket.0 < h.ticket.0 = above 0 h (omega arith) in
    let other : eqb h.ticket.0 t.0 ≡ false = ne_eqb h.ticket.0 t.0 (λ same. omega arith) in
    rw other (ap (λ xs. h ∷ xs) (later t g live e (All-tail (IsBefore g) h live above)))

-- where the lease of a ticket stands
pub record StandsAt (t : Ticket) (live : List Lease) (k : ℕ) : Type 0 where
  pub inside : k < length live
  pub found : (d : Lease) → find (has_ticket t) live ≡ Some (get_or live k d)
  pub rest : AllPairs IsBefore live → remove live k ≡ without t live

placed : (t : Ticket) (live : List Lease) (from n : ℕ) → position_from (has_ticket t) from live ≡ Some n → (k : ℕ) × (n ≡ from + k) × StandsAt t live k
placed t [] from n e = absurd (cc e)
placed t (g ∷ live) from n e = elim (cases_Bool (eqb g.ticket.0 t.0)) [
  | inl same ↦ (
      let at : Some from ≡ Some n = rw same at e in
      let here : n ≡ from + 0 = (let same : from ≡ n = cc at in omega arith) in (
        0,
        here,
        record {
          inside = omega arith;
          found = λ d. rw same refl;
          rest = λ up. sym (rw same (later t g live (eqb-true g.ticket.0 t.0 same) (AllPairs-head IsBefore g live up)));
        },
      ))
  | inr other ↦ (
      let r = placed t live (from + 1) n (rw other at e) in
      let s = r.2 in
      let at : n ≡ from + suc r.0 = (let at = r.1 in omega arith) in (
        suc r.0,
        at,
        record {
          inside = omega (arith, s.inside);
          found = λ d. rw other (s.found d);
          rest = λ up. rw other (ap (λ xs. g ∷ xs) (s.rest (AllPairs-tail IsBefore g live up)));
        },
      ))
]

pub stands : (t : Ticket) (live : List Lease) (n : ℕ) → position_from (has_ticket t) 0 live ≡ Some n → StandsAt t live n
stands t live n e =
    let r = placed t live 0 n e in
    let P : ℕ → Type 0 = λ k. StandsAt t live k in
    let same : r.0 ≡ n = (let at = r.1 in omega arith) in
    subst P same r.2

pub missing : (t : Ticket) (live : List Lease) (from : ℕ) → position_from (has_ticket t) from live ≡ None → (find (has_ticket t) live ≡ None) × (without t live ≡ live)
missing t [] from e = (refl, refl)
missing t (g ∷ live) from e = elim (cases_Bool (eqb g.ticket.0 t.0)) [
  | inl same ↦ (let bad : Some from ≡ None = rw same at e in absurd (cc bad))
  | inr other ↦ (let r = missing t live (from + 1) (rw other at e) in (rw other r.0, rw other (ap (λ xs. g ∷ xs) r.1)))
]

abbrev pub tickets : List Lease → List ℕ
tickets live = map (λ g. g.ticket.0) live

pub tickets_rise : (live : List Lease) → AllPairs IsBefore live → IsStrictlyIncreasing (tickets live)
tickets_rise [] up k inside = absurd (omega arith)
tickets_rise (g ∷ live) up k inside =
    let len = length-map (g ∷ live) (λ (h : Lease). h.ticket.0) in
    let this = get_or-map (λ (h : Lease). h.ticket.0) (g ∷ live) k g 0 (omega arith) in
    let next = get_or-map (λ (h : Lease). h.ticket.0) (g ∷ live) (k + 1) g 0 (omega arith) in
    let rises = up k (k + 1) g (omega arith) (omega arith) in
    rw (this, next) rises

position_at : (t : Ticket) (live : List Lease) (from k n : ℕ) → n ≡ from + k → NoneBelow t.0 (tickets live) k → k < length live → get_or (tickets live) k 0 ≡ t.0 → position_from (has_ticket t) from live ≡ Some n
position_at t [] from k n is none inside at = absurd (omega arith)
position_at t (g ∷ live) from zero n is none inside at =
    let here : eqb g.ticket.0 t.0 ≡ true = eq-eqb g.ticket.0 t.0 at in
    let same : from ≡ n = omega arith in
    rw here (ap (λ (m : ℕ). Some m) same)
position_at t (g ∷ live) from (suc k) n is none inside at =
    let other : eqb g.ticket.0 t.0 ≡ false = ne_eqb g.ticket.0 t.0 (none 0 (omega arith)) in
    rw other (position_at t live (from + 1) k n (omega arith) (λ i lt. none (suc i) (omega arith)) (omega arith) at)

no_position : (t : Ticket) (live : List Lease) (from : ℕ) → NoneBelow t.0 (tickets live) (length (tickets live)) → position_from (has_ticket t) from live ≡ None
no_position t [] from none = refl
no_position t (g ∷ live) from none =
    let other : eqb g.ticket.0 t.0 ≡ false = ne_eqb g.ticket.0 t.0 (none 0 (omega arith)) in
    rw other (no_position t live (from + 1) (λ i lt. none (suc i) (omega arith)))

-- what a search for a ticket says
pub position_searched : (t : Ticket) (live : List Lease) (r : Result ℕ ℕ) → AllPairs IsBefore live → MatchResult r (IsPlace t.0 (tickets live)) (IsGap t.0 (tickets live))
    → result_ok r ≡ position_from (has_ticket t) 0 live
position_searched t live (Ok k) up place =
    let len = length-map live (λ (g : Lease). g.ticket.0) in
    let inside = place.inside in
    sym (position_at t live 0 k k (omega arith) (none_below_place t.0 (tickets live) k (tickets_rise live up) place) (omega arith) place.number)
position_searched t live (Err k) up gap = sym (no_position t live 0 (none_in_gap t.0 (tickets live) k gap))
