-- Lines as the coordinator lends them, and versions that are given their numbers.
use Rattle.std.proofs.Common.{◌≡◌, ℕ, zero, suc, List, [], ◌∷◌, ◌++◌, map, take, drop, set, Option, Some, None, slice_get, refl, ap, sym, ◌∙◌}
use Rattle.protocol.specs.Names.{Ticket}
use Rattle.protocol.specs.Machine.{LineVersion}
use Rattle.versions.specs.Line.{number_in}
use Rattle.versions.specs.Lines.{line_shown}

-- what is left undone of a list, each element of whose front was changed
pub changed_front : {A : Type 0} (f : A → A) (xs : List A) (i : ℕ) (x : A) → slice_get xs i ≡ Some x → set (map f (take i xs) ++ drop i xs) i (f x) ≡ map f (take (suc i) xs) ++ drop (suc i) xs
changed_front f [] i x h = absurd (cc)
changed_front f (y ∷ ys) zero x h = (let same : y ≡ x = cc in ap (λ z. f z ∷ ys) (sym same))
changed_front f (y ∷ ys) (suc i) x h = ap (λ zs. f y ∷ zs) (changed_front f ys i x h)

-- the number on a line, as the coordinator lends it
pub number_shown : (line : List LineVersion) (t : Ticket) (o : Option (List LineVersion)) → o ≡ line_shown line → o ≡ None → number_in line t ≡ None
number_shown [] t o is none = refl
number_shown (v ∷ vs) t o is none = (let bad : Some (v ∷ vs) ≡ None = sym is ∙ none in cc)

pub line_lent : (line got : List LineVersion) (o : Option (List LineVersion)) → o ≡ line_shown line → o ≡ Some got → got ≡ line
line_lent [] got o is some = (let bad : ◌≡◌ {A = Option (List LineVersion)} None (Some got) = sym is ∙ some in cc)
line_lent (v ∷ vs) got o is some = (let same : Some (v ∷ vs) ≡ Some got = sym is ∙ some in let eq : v ∷ vs ≡ got = cc in sym eq)

-- the element that is next to be changed
pub front_same : {A : Type 0} (f : A → A) (xs : List A) (i : ℕ) → slice_get (map f (take i xs) ++ drop i xs) i ≡ slice_get xs i
front_same f [] zero = refl
front_same f [] (suc i) = refl
front_same f (y ∷ ys) zero = refl
front_same f (y ∷ ys) (suc i) = front_same f ys i
