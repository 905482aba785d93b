-- Messages by their numbers.
use Rattle.std.proofs.Common.{◌≡◌, ℕ, suc, zero, ◌+◌, ◌<◌, List, length, get_or, Option, Some, None, refl, sym, ap, ◌∙◌, add-one, arith}
use Rattle.std.proofs.lemmas.Option.{slice_get_read, slice_get_past}
use Rattle.protocol.specs.Lists.{nth}
use Rattle.farm_base.specs.declared.message.Message.{Message}

pub number_at : (pool : List Message) (n i : ℕ) (x : Message) → n ≡ i + 1 → i < length pool → x ≡ get_or pool i x → Some x ≡ nth pool n
number_at pool n i x e h is = sym (ap (nth pool) e ∙ rw add-one (slice_get_read pool (length pool) i x refl h is))

pub number_zero : (pool : List Message) (n : ℕ) → n < 1 → None ≡ nth pool n
number_zero pool zero h = refl
number_zero pool (suc n) h = absurd (omega (arith, h))

pub number_past : (pool : List Message) (n : ℕ) → length pool < n → None ≡ nth pool n
number_past pool zero h = refl
number_past pool (suc n) h = sym (slice_get_past pool n (omega (arith, h)))

some_is : (x y : Message) → ◌≡◌ {A = Option Message} (Some x) (Some y) → x ≡ y
some_is x y e = cc

-- two readings of one place
pub same_read : (pool : List Message) (i : ℕ) (x y : Message) → i < length pool → x ≡ get_or pool i x → y ≡ get_or pool i y → x ≡ y
same_read pool i x y h e f = some_is x y (sym (slice_get_read pool (length pool) i x refl h e) ∙ slice_get_read pool (length pool) i y refl h f)

-- the message that stands there
pub found_at : (pool kept : List Message) (n i : ℕ) (x y : Message) → kept ≡ pool → n ≡ i + 1 → i < length pool → x ≡ get_or kept i x → x ≡ y → nth pool n ≡ Some y
found_at pool kept n i x y same e h is it = sym (number_at pool n i x e h (is ∙ ap (λ (l : List Message). get_or l i x) same)) ∙ ap (λ (z : Message). Some z) it
