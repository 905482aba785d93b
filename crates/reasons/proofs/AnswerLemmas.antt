-- Answers that have their reasons.
use Rattle.std.proofs.Common.{◌≡◌, ℕ, ◌+◌, List, take, Some, slice_get}
use Rattle.std.specs.List.{AllZip}
use Rattle.lists.proofs.Places.{take_push, AllZip-push}

-- pairs that match up to one place more
pub zip_at : {A B : Type 0} (R : A → B → Type 0) (xs : List A) (ys : List B) (k : ℕ) (x : A) (y : B) → slice_get xs k ≡ Some x → slice_get ys k ≡ Some y
    → AllZip R (take k xs) (take k ys) → R x y → AllZip R (take (k + 1) xs) (take (k + 1) ys)
zip_at R xs ys k x y at_x at_y all one = rw (take_push xs k x at_x, take_push ys k y at_y) (AllZip-push R (take k xs) (take k ys) x y all one)
