-- Texts that are UTF-8, one after the other.
use Rattle.std.proofs.Common.{◌≡◌, ℕ, ◌+◌, ◌<◌, ◌≤◌, List, [], ◌∷◌, ◌++◌, length, get_or, drop, Result, Ok, Err, refl, sym, ap, ◌∙◌, append_assoc}
use Rattle.std.specs.Str.{IsUtf8, is_utf8}
use Rattle.std.proofs.lemmas.Str.{IsUtf8-from_is_utf8, is_utf8-from_IsUtf8}
use Rattle.std.proofs.lemmas.Bool.{false_from_ne_true}
use Rattle.std.proofs.lemmas.List.{drop_more, drop_all, append-nil}
use Rattle.codec.specs.Steps.{◌>>=◌}
use Rattle.opsproto.specs.declared.refusal.OpRefusal.{OpRefusal}
use Rattle.opsproto.specs.declared.refusal.OpRefusal.TheVariants.{NotUtf8}
use Rattle.opsproto.specs.Texts.{text_checked, each_checked, with_front}

pub text_passes : (number : ℕ) (text : List ℕ) → IsUtf8 text → text_checked number text ≡ Ok text
text_passes number text h = rw (is_utf8-from_IsUtf8 text h) refl

pub text_fails : (number : ℕ) (text : List ℕ) → (IsUtf8 text → ⊥) → text_checked number text ≡ Err (NotUtf8 number)
text_fails number text no-text = rw (false_from_ne_true (is_utf8 text) (λ e. no-text (IsUtf8-from_is_utf8 text e))) refl

pub no_front : {X : Type 0} (front : List X) (read : Result (List X) OpRefusal) → front ≡ [] → with_front front read ≡ read
no_front front (Ok xs) none = ap (λ (zs : List _). Ok (zs ++ xs)) none
no_front front (Err e) none = refl

module _ {X : Type 0} (check : X → Result X OpRefusal) where
  regroup : (front : List X) (y : X) (read : Result (List X) OpRefusal) → with_front front (read >>= λ ys. Ok (y ∷ ys)) ≡ with_front (front ++ y ∷ []) read
  regroup front y (Ok ys) = ap (λ (x : List X). Ok x) (simp append_assoc)
  regroup front y (Err e) = refl

  next_is : (all : List X) (n : ℕ) (x : X) → n < length all → x ≡ get_or all n x → drop n all ≡ x ∷ drop (n + 1) all
  next_is all n x lt e = drop_more all n x lt ∙ ap (λ (y : X). y ∷ drop (n + 1) all) (sym e)

  pub goes_on : (front : List X) (all : List X) (n : ℕ) (x y : X) (total : Result (List X) OpRefusal) → n < length all → x ≡ get_or all n x → check x ≡ Ok y
      → with_front front (each_checked check (drop n all)) ≡ total → with_front (front ++ y ∷ []) (each_checked check (drop (n + 1) all)) ≡ total
  goes_on front all n x y total lt item passed so_far =
      let one : with_front front (each_checked check (drop n all)) ≡ with_front (front ++ y ∷ []) (each_checked check (drop (n + 1) all)) =
      rw (next_is all n x lt item, passed) (regroup front y (each_checked check (drop (n + 1) all))) in
      sym one ∙ so_far

  pub stops : (front : List X) (all : List X) (n : ℕ) (x : X) (e : OpRefusal) (total : Result (List X) OpRefusal) → n < length all → x ≡ get_or all n x → check x ≡ Err e
      → with_front front (each_checked check (drop n all)) ≡ total → total ≡ Err e
  stops front all n x e total lt item failed so_far =
      let one : with_front front (each_checked check (drop n all)) ≡ Err e = rw (next_is all n x lt item, failed) refl in
      sym so_far ∙ one

  pub is_done : (front : List X) (all : List X) (n : ℕ) (total : Result (List X) OpRefusal) → length all ≤ n
      → with_front front (each_checked check (drop n all)) ≡ total → total ≡ Ok front
  is_done front all n total past so_far =
      let one : with_front front (each_checked check (drop n all)) ≡ Ok front = rw (drop_all n all past) (ap (λ (x : List X). Ok x) (append-nil front)) in
      sym so_far ∙ one
