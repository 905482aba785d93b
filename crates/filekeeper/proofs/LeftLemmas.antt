-- What a crash leaves of texts of which the last entries are gathered only.
use Rattle.std.proofs.Common.{◌≡◌, ◌⊎◌, ℕ, ◌+◌, List, [], ◌∷◌, ◌++◌, length, inl, inr, refl, sym, ap, ◌∙◌, length-append, arith}
use Rattle.std.proofs.lemmas.List.{append-nil}
use Rattle.filekeeper.specs.Keepers.{IsLeft}
use Rattle.saverecord.specs.Texts.{Texts, with_text, with_texts}

-- the last of some entries and one more is that one, or there is none
last_of : (xs ys rest : List (List ℕ)) (e : List ℕ) → xs ++ e ∷ [] ≡ ys ++ rest → (rest ≡ []) ⊎ ((more : List (List ℕ)) × (xs ≡ ys ++ more))
last_of xs [] rest e h = inr (xs, refl)
last_of [] (y ∷ ys) rest e h = inl (none_after ys rest (tail_is (y ∷ ys ++ rest) e h))
  where
    tail_of : List (List ℕ) → List (List ℕ)
    tail_of [] = []
    tail_of (x ∷ xs) = xs

    tail_is : (zs : List (List ℕ)) (e : List ℕ) → e ∷ [] ≡ zs → tail_of zs ≡ []
    tail_is zs e h = ap tail_of (sym h)

    none_after : (ys rest : List (List ℕ)) → ys ++ rest ≡ [] → rest ≡ []
    none_after [] rest h = h
    none_after (y ∷ ys) rest h = (let bad : y ∷ (ys ++ rest) ≡ [] = h in absurd (cc bad))
last_of (x ∷ xs) (y ∷ ys) rest e h =
    elim (last_of xs ys rest e (cc h)) [
      | inl none ↦ inl none
      | inr more ↦ inr (more.0, (let same : x ≡ y = cc h in ap (λ z. z ∷ xs) same ∙ ap (λ zs. y ∷ zs) more.1))
    ]

none_left : (xs first rest : List (List ℕ)) → xs ≡ (xs ++ first) ++ rest → rest ≡ []
none_left xs first [] h = refl
none_left xs first (r ∷ rest) h =
    let len : length xs ≡ length xs + length first + length (r ∷ rest) = ap length h ∙ length-append (xs ++ first) (r ∷ rest) ∙ ap (λ n. n + length (r ∷ rest)) (length-append xs first) in
    absurd (omega (arith, len))

-- with no more entries these are the texts
pub nothing_more : (kept left : Texts) (rest : List (List ℕ)) → kept ≡ with_texts rest left → rest ≡ [] → left ≡ kept
nothing_more kept left rest h none =
    sym (h ∙ ap (λ more. with_texts more left) none ∙ ap (λ (entries : List (List ℕ)). record left { entries = entries }) (append-nil left.entries))

-- where all that is kept lasts, a crash leaves that
pub all_left : (lasting kept left : Texts) → lasting ≡ kept → IsLeft lasting kept left → left ≡ kept
all_left lasting kept left all h =
    let entries : kept.entries ≡ (kept.entries ++ h.first) ++ h.rest =
    ap (λ (t : Texts). t.entries) h.kept_is ∙ ap (λ (t : Texts). t.entries ++ h.rest) h.left_is ∙ ap (λ (t : Texts). (t.entries ++ h.first) ++ h.rest) all in
    nothing_more kept left h.rest h.kept_is (none_left kept.entries h.first h.rest entries)

-- where an entry more was gathered, a crash leaves that too, or what it left before
pub left_before : (old_kept old_lasting new_kept new_lasting left : Texts) (entry : List ℕ) → new_kept ≡ with_text entry old_kept → new_lasting ≡ old_lasting → IsLeft new_lasting new_kept left
    → (left ≡ new_kept) ⊎ IsLeft old_lasting old_kept left
left_before old_kept old_lasting new_kept new_lasting left entry adds lasts h =
    let same : with_text entry old_kept ≡ with_texts h.rest left = sym adds ∙ h.kept_is in
    elim (last_of old_kept.entries left.entries h.rest entry (ap (λ (t : Texts). t.entries) same)) [
      | inl none ↦ inl (nothing_more new_kept left h.rest h.kept_is none)
      | inr more ↦ inr (record {
        first = h.first;
        rest = more.0;
        left_is = h.left_is ∙ ap (λ (t : Texts). with_texts h.first t) lasts;
        kept_is = λ i. record { whole = (ap (λ (t : Texts). t.whole) same) i; entries = more.1 i };
      })
    ]
