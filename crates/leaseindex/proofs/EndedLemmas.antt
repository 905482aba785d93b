-- Leases without those that have ended.
use Rattle.std.proofs.Common.{◌≡◌, ℕ, ◌+◌, ◌<◌, ◌≤◌, List, [], ◌∷◌, Bool, true, false, not, ◌||◌, filter, length, get_or, drop, refl, sym, ◌∙◌, ap, inl, inr}
use Rattle.std.proofs.Math.ListN.{drop_of_length-le}
use Rattle.std.proofs.lemmas.Bool.{cases_Bool}
use Rattle.std.proofs.lemmas.List.Elements.{All-filter}
use Rattle.std.proofs.lemmas.List.Kept.{AllPairs-filter}
use Rattle.farm_base.specs.declared.lease.Lease.{Lease}
use Rattle.holdings.specs.Leases.{AreLeases, AreApart, IsBefore, Rises}
use Rattle.holdings.specs.declared.ending.Ending.{Ending}
use Rattle.holdings.specs.Endings.{ends_lease, has_ended}
use Rattle.holdings.proofs.PlaceLemmas.{drop-item}

-- what passes neither of two tests
pub filter_twice : {A : Type 0} (p q r : A → Bool) → ((x : A) → r x ≡ (p x || q x)) → (xs : List A) → filter (λ x. not (r x)) xs ≡ filter (λ x. not (q x)) (filter (λ x. not (p x)) xs)
filter_twice p q r h [] = refl
filter_twice p q r h (x ∷ xs) = elim (cases_Bool (p x)) [
  | inl e ↦ (let both : r x ≡ true = h x ∙ ap (λ (b : Bool). b || q x) e in rw (both, e) (filter_twice p q r h xs))
  | inr e ↦ (let both : r x ≡ q x = h x ∙ ap (λ (b : Bool). b || q x) e in elim (cases_Bool (q x)) [
    | inl f ↦ (let here : r x ≡ true = both ∙ f in rw (here, e, f) (filter_twice p q r h xs))
    | inr f ↦ (let here : r x ≡ false = both ∙ f in rw (here, e, f) (ap (λ ys. x ∷ ys) (filter_twice p q r h xs)))
  ])
]

-- those that pass a test may be live together
pub leases-filter : (p : Lease → Bool) (live : List Lease) → AreLeases live → AreLeases (filter p live)
leases-filter p live h = record {
  tickets = AllPairs-filter IsBefore p live h.tickets;
  apart = AllPairs-filter AreApart p live h.apart;
  slots = All-filter p Rises live h.slots;
}

-- none has ended
pub none_ended : (live : List Lease) → filter (λ g. not (has_ended [] g)) live ≡ live
none_ended [] = refl
none_ended (g ∷ live) = ap (λ (gs : List Lease). g ∷ gs) (none_ended live)

-- ---- endings in turn

-- after one of the endings
pub ended_next : (ended : List Ending) (i : ℕ) (e d : Ending) (live now : List Lease) → i < length ended → e ≡ get_or ended i d → now ≡ filter (λ g. not (ends_lease e g)) live
    → filter (λ g. not (has_ended (drop (i + 1) ended) g)) now ≡ filter (λ g. not (has_ended (drop i ended) g)) live
ended_next ended i e d live now inside is left =
    let first : drop i ended ≡ e ∷ drop (i + 1) ended = drop-item ended i d inside ∙ ap (λ (f : Ending). f ∷ drop (i + 1) ended) (sym is) in
    ap (filter (λ g. not (has_ended (drop (i + 1) ended) g))) left
    ∙ sym (filter_twice (ends_lease e) (has_ended (drop (i + 1) ended)) (has_ended (drop i ended)) (λ g. ap (λ (es : List Ending). has_ended es g) first) live)

-- after all of them
pub ended_all : (ended : List Ending) (i : ℕ) (live left : List Lease) → length ended ≤ i → filter (λ g. not (has_ended (drop i ended) g)) live ≡ left → live ≡ left
ended_all ended i live left past h = sym (none_ended live) ∙ ap (λ (es : List Ending). filter (λ g. not (has_ended es g)) live) (sym (drop_of_length-le ended past)) ∙ h
