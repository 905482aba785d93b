-- A number between two texts.
use Rattle.std.proofs.Common.{◌≡◌, ℕ, ◌<◌, ◌^◌, List, ◌∷◌, ◌++◌, sym, ◌∙◌, subst}
use Rattle.std.specs.Prelude.{decimal}
use Rattle.std.proofs.lemmas.List.{append_cancel_left}
use Rattle.std.proofs.lemmas.Fmt.{decimal_injective}
use Rattle.names.proofs.TextLemmas.{Lacks-middle, split_same, decimal-lacks}
use Rattle.names.specs.Decimals.{Lacks}

-- where the text behind the front lacks the byte, it is no number before it
pub no_mark : (front behind text rest : List ℕ) (at n : ℕ) → text ≡ front ++ behind → Lacks at behind → text ≡ front ++ (decimal n ++ at ∷ rest) → ⊥
no_mark front behind text rest at n is lacks e =
    Lacks-middle at (decimal n) rest
    (subst (λ (t : List ℕ). Lacks at t) (append_cancel_left front behind (decimal n ++ at ∷ rest) (sym is ∙ e)) lacks)

-- the digits before the first such byte are those of the number
pub same_digits : (front digits behind more text rest : List ℕ) (at n : ℕ) → at < 48 → n < 2 ^ 64 → text ≡ front ++ behind → behind ≡ digits ++ at ∷ more → Lacks at digits
    → text ≡ front ++ (decimal n ++ at ∷ rest) → digits ≡ decimal n
same_digits front digits behind more text rest at n low lt is parts lacks e =
    (split_same at digits (decimal n) more rest (sym parts ∙ append_cancel_left front behind (decimal n ++ at ∷ rest) (sym is ∙ e)) lacks (decimal-lacks at n lt low)).0

-- the number and what is behind it are determined
pub same_number : (front x y text : List ℕ) (at a b : ℕ) → at < 48 → a < 2 ^ 64 → b < 2 ^ 64 → text ≡ front ++ (decimal a ++ at ∷ x) → text ≡ front ++ (decimal b ++ at ∷ y)
    → (a ≡ b) × (x ≡ y)
same_number front x y text at a b low la lb p q =
    let e = append_cancel_left front (decimal a ++ at ∷ x) (decimal b ++ at ∷ y) (sym p ∙ q) in
    let s = split_same at (decimal a) (decimal b) x y e (decimal-lacks at a la low) (decimal-lacks at b lb low) in
    (decimal_injective a b la lb s.0, s.1)
