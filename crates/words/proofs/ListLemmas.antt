-- Words and values, one value for each word.
use Rattle.std.proofs.Common.{Bor, ◌≡◌, ℕ, zero, suc, ◌+◌, ◌-◌, ◌<◌, List, [], ◌∷◌, ◌++◌, Option, Some, map, take, drop, length, get_or, refl, sym, ◌∙◌, ap, arith}
use Rattle.std.specs.List.{All}
use Rattle.std.proofs.lemmas.List.{take_more, map-append}
use Rattle.std.proofs.Math.Seq.{take-length}
use Rattle.std.proofs.lemmas.List.Elements.{All-head, All-tail}
use Rattle.words.specs.Words.{texts}

-- one more word and value
pub spelled_more : {X : Type 0} (text : X → List ℕ) (ws : List (Bor (List ℕ))) (xs : List X) (i : ℕ) (d : Bor (List ℕ)) (x : X)
    → i < length ws → texts (take i ws) ≡ map text xs → (get_or ws i d).now ≡ text x → texts (take (i + 1) ws) ≡ map text (xs ++ x ∷ [])
spelled_more text ws xs i d x lt so_far this =
    let more = ap texts (take_more ws i d lt) in
    let front = map-append (λ (w : Bor (List ℕ)). w.now) (take i ws) (get_or ws i d ∷ []) in
    let back = map-append text xs (x ∷ []) in
    cc (more, front, back, so_far, this)

-- a word that is not the text of a value is not among the words of values
pub stuck_at : {X : Type 0} (text : X → List ℕ) (P : X → Type 0) (ws : List (Bor (List ℕ))) (xs : List X) (i : ℕ) (d : Bor (List ℕ))
    → i < length ws → ((x : X) → P x → (get_or ws i d).now ≡ text x → ⊥) → All P xs → texts ws ≡ map text xs → ⊥
stuck_at text P [] xs i d lt none each e = absurd (omega arith)
stuck_at text P (w ∷ ws) [] i d lt none each e = cc e
stuck_at text P (w ∷ ws) (x ∷ xs) zero d lt none each e = none x (All-head P x xs each) (cc e)
stuck_at text P (w ∷ ws) (x ∷ xs) (suc i) d lt none each e =
    stuck_at text P ws xs i d (omega arith) none (All-tail P x xs each) (cc e)

-- a text that is read back determines its value
pub read_back-injective : {X : Type 0} (text : X → List ℕ) (read : List ℕ → Option X) → ((x : X) → read (text x) ≡ Some x)
    → (x y : X) → text x ≡ text y → x ≡ y
read_back-injective text read back x y e = let both : Some x ≡ Some y = sym (back x) ∙ ap read e ∙ back y in cc both

-- if no two values have the same text, the texts determine the values
pub map-injective : {X : Type 0} (text : X → List ℕ) (P : X → Type 0) → ((x y : X) → P x → P y → text x ≡ text y → x ≡ y)
    → (xs ys : List X) → All P xs → All P ys → map text xs ≡ map text ys → xs ≡ ys
map-injective text P one [] [] hx hy e = refl
map-injective text P one [] (y ∷ ys) hx hy e = cc e
map-injective text P one (x ∷ xs) [] hx hy e = cc e
map-injective text P one (x ∷ xs) (y ∷ ys) hx hy e =
    let this = one x y (All-head P x xs hx) (All-head P y ys hy) (cc e) in
    let rest = map-injective text P one xs ys (All-tail P x xs hx) (All-tail P y ys hy) (cc e) in
    cc (this, rest)

-- the words after the first
pub texts_behind : (ws : List (Bor (List ℕ))) (first : List ℕ) (others : List (List ℕ)) → texts ws ≡ first ∷ others
    → texts (take (length ws - 1) (drop 1 ws)) ≡ others
texts_behind [] first others e = cc e
texts_behind (w ∷ ws) first others e =
    let len : length (w ∷ ws) - 1 ≡ length ws = omega arith in
    rw (len, take-length ws) (cc e)
