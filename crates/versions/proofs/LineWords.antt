-- Versions on lines: the last one, and that of a ticket.
use Rattle.std.proofs.Common.{◌≡◌, ◌≢◌, ℕ, suc, ◌+◌, List, [], ◌∷◌, ◌++◌, true, false, eqb, length, map, Option, Some, None, refl, sym, ◌∙◌, ap, subst, inl, inr, arith, append-nil}
use Rattle.std.proofs.lemmas.Bool.{cases_Bool, ne_eqb}
use Rattle.std.specs.Prelude.{slice_get, unwrap_or}
use Rattle.std.specs.List.{position_from}
use Rattle.names.specs.declared.digest.Digest.{Digest}
use Rattle.protocol.specs.Names.{Slot, Ticket}
use Rattle.protocol.specs.Machine.{LineVersion, digest_for}
use Rattle.protocol.specs.Ledger.{last_digest, place_on_line}
use Rattle.protocol.proofs.Base.{eqb_same}
use Rattle.versions.specs.Line.{number_in, digest_in}
use Rattle.versions.specs.declared.lines.Added.{Added}
use Rattle.versions.specs.declared.lines.SlotLine.{SlotLine}
use Rattle.versions.specs.Lines.{line_at, lines_with, news_of}

-- the digest of the last version
pub last_digest-at : (e : Digest) (xs : List LineVersion) → unwrap_or (digest_in xs (length xs)) e ≡ last_digest e xs
last_digest-at e [] = refl
last_digest-at e (v ∷ []) = refl
last_digest-at e (v ∷ x ∷ xs) = last_digest-at e (x ∷ xs)

pub last_digest-push : (e : Digest) (xs : List LineVersion) (v : LineVersion) → last_digest e (xs ++ v ∷ []) ≡ v.digest
last_digest-push e [] v = refl
last_digest-push e (x ∷ []) v = refl
last_digest-push e (x ∷ y ∷ xs) v = last_digest-push e (y ∷ xs) v

-- a ticket that is not on the line has no place
pub place-none : (t : Ticket) (xs : List LineVersion) (k : ℕ) → position_from (λ v. eqb v.ticket.0 t.0) (k + 1) xs ≡ None → place_on_line t xs k ≡ None
place-none t [] k h = refl
place-none t (v ∷ xs) k h = elim (cases_Bool (eqb v.ticket.0 t.0)) [
  | inl e ↦ (let bad : Some (k + 1) ≡ None = rw e at h in absurd (cc bad))
  | inr e ↦ rw e (place-none t xs (k + 1) (rw e at h))
]

place_some : (t : Ticket) (xs : List LineVersion) (k n : ℕ) → position_from (λ v. eqb v.ticket.0 t.0) (k + 1) xs ≡ Some n
    → (j : ℕ) × (v : LineVersion) × (n ≡ k + 1 + j) × (slice_get xs j ≡ Some v) × (place_on_line t xs k ≡ Some (n, v.digest))
place_some t [] k n h = absurd (cc h)
place_some t (v ∷ xs) k n h = elim (cases_Bool (eqb v.ticket.0 t.0)) [
  | inl e ↦ (let at : Some (k + 1) ≡ Some n = rw e at h in let same : k + 1 ≡ n = cc at in (0, v, omega arith, refl, rw e (ap (λ (m : ℕ). Some (m, v.digest)) same)))
  | inr e ↦ (let r = place_some t xs (k + 1) n (rw e at h) in let at : n ≡ k + 1 + 1 + r.0 = r.2 in (suc r.0, r.1, omega arith, r.3, rw e r.4))
]

-- the place of a ticket is its number with its digest
pub place-number : (t : Ticket) (xs : List LineVersion) (n : ℕ) (d : Digest) → number_in xs t ≡ Some n → digest_in xs n ≡ Some d → place_on_line t xs 0 ≡ Some (n, d)
place-number t xs n d h e =
    let r = place_some t xs 0 n h in
    let at : n ≡ suc r.0 = (let at : n ≡ 0 + 1 + r.0 = r.2 in omega arith) in
    let here : digest_in xs n ≡ Some r.1.digest = ap (digest_in xs) at ∙ ap (λ (o : Option LineVersion). by o) r.3 in
    let same : Some r.1.digest ≡ Some d = sym here ∙ e in
    let digests : r.1.digest ≡ d = cc same in
    r.4 ∙ ap (λ (x : Digest). Some (n, x)) digests
  where
    by : Option LineVersion → Option Digest
    by None = None
    by (Some v) = Some v.digest

place-append : (t : Ticket) (xs ys : List LineVersion) (k : ℕ) (r : ℕ × Digest) → place_on_line t xs k ≡ Some r → place_on_line t (xs ++ ys) k ≡ Some r
place-append t [] ys k r h = absurd (cc h)
place-append t (v ∷ xs) ys k r h = elim (cases_Bool (eqb v.ticket.0 t.0)) [
  | inl e ↦ rw e (rw e at h)
  | inr e ↦ rw e (place-append t xs ys (k + 1) r (rw e at h))
]

place-end : (t : Ticket) (xs : List LineVersion) (v : LineVersion) (k : ℕ) → place_on_line t xs k ≡ None → v.ticket.0 ≡ t.0 → place_on_line t (xs ++ v ∷ []) k ≡ Some (k + length xs + 1, v.digest)
place-end t [] v k h e = (let same : eqb v.ticket.0 t.0 ≡ true = subst (λ (z : ℕ). eqb v.ticket.0 z ≡ true) e (eqb_same v.ticket.0) in rw same (ap (λ (n : ℕ). Some (n, v.digest)) (omega arith)))
place-end t (x ∷ xs) v k h e = elim (cases_Bool (eqb x.ticket.0 t.0)) [
  | inl f ↦ (let bad : Some (k + 1, x.digest) ≡ None = rw f at h in absurd (cc bad))
  | inr f ↦ rw f (place-end t xs v (k + 1) (rw f at h) e ∙ ap (λ (n : ℕ). Some (n, v.digest)) (omega arith))
]

place-other : (t : Ticket) (xs : List LineVersion) (v : LineVersion) (k : ℕ) → place_on_line t xs k ≡ None → v.ticket.0 ≢ t.0 → place_on_line t (xs ++ v ∷ []) k ≡ None
place-other t [] v k h e = (let other : eqb v.ticket.0 t.0 ≡ false = ne_eqb v.ticket.0 t.0 e in rw other refl)
place-other t (x ∷ xs) v k h e = elim (cases_Bool (eqb x.ticket.0 t.0)) [
  | inl f ↦ (let bad : Some (k + 1, x.digest) ≡ None = rw f at h in absurd (cc bad))
  | inr f ↦ rw f (place-other t xs v (k + 1) (rw f at h) e)
]

-- a commit leaves the place of a ticket that is on the line as it was
pub place-with : (lines : List SlotLine) (o : Option Added) (s : Slot) (t : Ticket) (r : ℕ × Digest) → place_on_line t (line_at lines s) 0 ≡ Some r → place_on_line t (lines_with lines o s) 0 ≡ Some r
place-with lines None s t r h = h
place-with lines (Some a) s t r h = place-append t (line_at lines s) _ 0 r h

-- the version that the commit adds
pub place-added : (lines : List SlotLine) (a : Added) (s : Slot) (t : Ticket) (d : Digest) → place_on_line t (line_at lines s) 0 ≡ None → a.ticket.0 ≡ t.0 → digest_for s (map news_of a.additions.items) ≡ Some d
    → place_on_line t (lines_with lines (Some a) s) 0 ≡ Some (length (line_at lines s) + 1, d)
place-added lines a s t d none e h = rw h (place-end t (line_at lines s) (record { ticket = a.ticket; digest = d }) 0 none e ∙ ap (λ (n : ℕ). Some (n, d)) (omega arith))

-- a ticket other than the commit's
pub place-apart : (lines : List SlotLine) (a : Added) (s : Slot) (t : Ticket) → place_on_line t (line_at lines s) 0 ≡ None → a.ticket.0 ≢ t.0 → place_on_line t (lines_with lines (Some a) s) 0 ≡ None
place-apart lines a s t none e = by (digest_for s (map news_of a.additions.items)) refl
  where
    by : (o : Option Digest) → digest_for s (map news_of a.additions.items) ≡ o → place_on_line t (lines_with lines (Some a) s) 0 ≡ None
    by None h = rw h (ap (λ (xs : List LineVersion). place_on_line t xs 0) (append-nil (line_at lines s)) ∙ none)
    by (Some d) h = rw h (place-other t (line_at lines s) (record { ticket = a.ticket; digest = d }) 0 none e)

-- after a commit, the last digest is the one that it adds
pub last_digest-with : (e : Digest) (lines : List SlotLine) (a : Added) (s : Slot) (d : Digest) → digest_for s (map news_of a.additions.items) ≡ Some d → last_digest e (lines_with lines (Some a) s) ≡ d
last_digest-with e lines a s d h = rw h (last_digest-push e (line_at lines s) (record { ticket = a.ticket; digest = d }))
