use Rattle.std.proofs.Common.{◌≡◌, ◌++◌, ◌∙◌, ℕ, List, [], ◌∷◌, refl, ap, length, slice_index_or, append-nil}
use Rattle.filekeeper.proofs.framing.head_of.Goals as goal

-- eight bytes, one by one
eight : (xs ys : List ℕ) → length xs ≡ 8 → (slice_index_or xs 0 0 ∷ slice_index_or xs 1 0 ∷ slice_index_or xs 2 0 ∷ slice_index_or xs 3 0 ∷ slice_index_or xs 4 0 ∷ slice_index_or xs 5 0 ∷ slice_index_or xs 6 0 ∷ slice_index_or xs 7 0 ∷ ys) ≡ xs ++ ys
eight [] ys z = absurd (cc)
eight (a ∷ []) ys z = absurd (cc)
eight (a ∷ b ∷ []) ys z = absurd (cc)
eight (a ∷ b ∷ c ∷ []) ys z = absurd (cc)
eight (a ∷ b ∷ c ∷ d ∷ []) ys z = absurd (cc)
eight (a ∷ b ∷ c ∷ d ∷ e ∷ []) ys z = absurd (cc)
eight (a ∷ b ∷ c ∷ d ∷ e ∷ f ∷ []) ys z = absurd (cc)
eight (a ∷ b ∷ c ∷ d ∷ e ∷ f ∷ g ∷ []) ys z = absurd (cc)
eight (a ∷ b ∷ c ∷ d ∷ e ∷ f ∷ g ∷ h ∷ []) ys z = refl
eight (a ∷ b ∷ c ∷ d ∷ e ∷ f ∷ g ∷ h ∷ x ∷ xs) ys z = absurd (cc)

pub returns : goal.returns
returns c =
    let n = c.name_of-name.result in
    let l = c.to_be_bytes-len.result in
    let k = c.check_of-check.result in
    eight n _ (search)
    ∙ ap (λ (ys : List ℕ). n ++ ys) (eight l _ (search) ∙ ap (λ (ys : List ℕ). l ++ ys) (eight k [] (search) ∙ append-nil k))
    ∙ rw (c.check_of-check.ensures, c.name_of-name.ensures, c.to_be_bytes-len.ensures) refl
