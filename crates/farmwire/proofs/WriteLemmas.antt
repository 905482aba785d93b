-- Words, each behind a space.
use Rattle.std.proofs.Common.{◌≡◌, ℕ, List, [], ◌∷◌, ◌++◌, map, take, get_or, ◌+◌, ◌<◌, length, refl, sym, ap, ◌∙◌, append_assoc}
use Rattle.std.specs.List.{join_with_byte}
use Rattle.std.proofs.lemmas.List.{take_more, map-append, append-nil}
use Rattle.farmwire.specs.Words.{spaced, line_of, joined}

pub spaced-append : (xs ys : List (List ℕ)) → spaced (xs ++ ys) ≡ spaced xs ++ spaced ys
spaced-append [] ys = refl
spaced-append (x ∷ xs) ys = ap (λ rest. 32 ∷ x ++ rest) (spaced-append xs ys) ∙ sym (append_assoc (32 ∷ x) (spaced xs) (spaced ys))

-- the words of one more value
pub spaced-more : {X : Type 0} (spelling : X → List ℕ) (front text : List ℕ) (xs : List X) (i : ℕ) (d : X) → i < length xs
    → text ≡ front ++ spaced (map spelling (take i xs))
    → text ++ spaced (spelling (get_or xs i d) ∷ []) ≡ front ++ spaced (map spelling (take (i + 1) xs))
spaced-more spelling front text xs i d lt so_far =
    let more = ap (λ ys. spaced (map spelling ys)) (take_more xs i d lt) in
    let split = ap spaced (map-append spelling (take i xs) (get_or xs i d ∷ [])) in
    let parts = spaced-append (map spelling (take i xs)) (spelling (get_or xs i d) ∷ []) in
    ap (λ t. t ++ spaced (spelling (get_or xs i d) ∷ [])) so_far
    ∙ append_assoc front (spaced (map spelling (take i xs))) (spaced (spelling (get_or xs i d) ∷ []))
    ∙ ap (λ t. front ++ t) (sym (more ∙ split ∙ parts))

-- a space, and then a word
pub spaced_word : (text word : List ℕ) → (text ++ 32 ∷ []) ++ word ≡ text ++ spaced (word ∷ [])
spaced_word text word = append_assoc text (32 ∷ []) word ∙ ap (λ w. text ++ w) (sym (append-nil (32 ∷ word)))

-- words behind a line's
pub line-then : (verb : List ℕ) (xs ys : List (List ℕ)) → line_of verb xs ++ spaced ys ≡ line_of verb (xs ++ ys)
line-then verb xs ys = append_assoc verb (spaced xs) (spaced ys) ∙ ap (λ t. verb ++ t) (sym (spaced-append xs ys))

-- the words of a message are parted by spaces
pub joined-is : (ws : List (List ℕ)) → joined ws ≡ join_with_byte 32 ws
joined-is [] = refl
joined-is (w ∷ []) = append-nil w
joined-is (w ∷ v ∷ ws) = ap (λ rest. w ++ 32 ∷ rest) (joined-is (v ∷ ws))
