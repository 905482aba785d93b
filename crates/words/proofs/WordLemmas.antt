-- Words and their parts.
use Rattle.std.proofs.Common.{Bor, ◌≡◌, ℕ, ◌+◌, ◌<◌, ◌≤◌, List, [], ◌∷◌, ◌++◌, take, drop, length, Option, Some, None, Result, Ok, Err, refl, sym, ◌∙◌, subst}
use Rattle.std.specs.Prelude.{IfSome, IfNone, IsErrAnd, MatchOption}
use Rattle.std.proofs.lemmas.List.{take-append-drop}
use Rattle.std.specs.Str.Pattern.{RFindsChar}
use Rattle.std.proofs.lemmas.Str.Pattern.{NoCharPasses-char, drop_at_char}
use Rattle.names.specs.Decimals.{Lacks}
use Rattle.names.proofs.TextLemmas.{Lacks-middle, heads}
use Rattle.words.specs.declared.refusal.ReadRefusal.{ReadRefusal}

-- ---- exits by `?`

-- the refusal that is passed on
pub passed_on : {X : Type 0} (r : Result X ReadRefusal) (d e : ReadRefusal) → IsErrAnd r (λ y. y ≡ d) → r ≡ Err e → d ≡ e
passed_on (Ok x) d e h is = absurd (cc is)
passed_on (Err y) d e h is = cc (h, is)

-- ---- the last of some bytes

-- the clause of `rsplit_once` at a character
abbrev pub IsLastSplit : ℕ → List ℕ → Option (Bor (List ℕ) × Bor (List ℕ)) → Type 0
IsLastSplit c bs r = MatchOption r (RFindsChar c bs None) (λ x. (i : ℕ) × (j : ℕ) × RFindsChar c bs (Some (i, j)) × (x.0.now ≡ take i bs) × (x.1.now ≡ drop j bs) × (i ≤ j) × (length x.0.now ≡ i) × (length x.1.now + j ≡ length bs))

pub last_found : (c : ℕ) (bs : List ℕ) (r : Option (Bor (List ℕ) × Bor (List ℕ))) → IsLastSplit c bs r → c < 128
    → IfSome r (λ x. (bs ≡ x.0.now ++ c ∷ x.1.now) × Lacks c x.1.now)
last_found c bs None h low = tt
last_found c bs (Some x) h low =
    let cut = drop_at_char c bs h.0 h.1 h.2.1 low in
    let whole : bs ≡ x.0.now ++ c ∷ x.1.now = sym (take-append-drop h.0 bs) ∙ cc (h.3, h.4, cut) in
    let after : Lacks c (drop h.1 bs) = λ i lt. NoCharPasses-char c (drop h.1 bs) i h.2.0 low lt in
    (whole, rw h.4 after)

pub last_only : (c : ℕ) (bs : List ℕ) (r : Option (Bor (List ℕ) × Bor (List ℕ))) → IsLastSplit c bs r → c < 128
    → IfNone r (Lacks c bs)
last_only c bs None h low = λ i lt. NoCharPasses-char c bs i h low lt
last_only c bs (Some x) h low = tt

-- the parts around the last of these bytes
pub last_same : (c : ℕ) (a b x y : List ℕ) → a ++ c ∷ x ≡ b ++ c ∷ y → Lacks c x → Lacks c y → (a ≡ b) × (x ≡ y)
last_same c [] [] x y e lx ly = (refl, (heads c c x y e).1)
last_same c [] (w ∷ b) x y e lx ly = absurd (Lacks-middle c b y (subst (Lacks c) (heads c w x (b ++ c ∷ y) e).1 lx))
last_same c (v ∷ a) [] x y e lx ly = absurd (Lacks-middle c a x (subst (Lacks c) (sym (heads v c (a ++ c ∷ x) y e).1) ly))
last_same c (v ∷ a) (w ∷ b) x y e lx ly =
    let h = heads v w (a ++ c ∷ x) (b ++ c ∷ y) e in
    let rest = last_same c a b x y h.1 lx ly in
    (cc (h.0, rest.0), rest.1)
