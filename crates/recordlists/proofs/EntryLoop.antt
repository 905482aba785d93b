-- Reading entries one after the other, as a loop does.
use Rattle.std.proofs.Common.{◌≡◌, ◌⊎◌, ℕ, suc, ◌-◌, ◌+◌, ◌≤◌, ◌<◌, List, [], ◌∷◌, ◌++◌, length, Option, Some, None, Ok, Err, refl, sym, ap, ◌∙◌, append_assoc, arith, inl, inr}
use Rattle.std.proofs.Math.Seq.{get_or-append_seam}
use Rattle.std.proofs.lemmas.List.{append-nil, length_push}
use Rattle.std.proofs.lemmas.Option.{slice_get-get_or}
use Rattle.std.specs.List.{slice_get}
use Rattle.recordparts.specs.declared.layout.Layout.{Layout}
use Rattle.recordparts.specs.declared.refusal.RecordRefusal.{RecordRefusal}
use Rattle.recordparts.specs.declared.refusal.RecordRefusal.TheVariants.{OutOfMemory}
use Rattle.codec.specs.Steps.{◌>>=◌}
use Rattle.recordparts.specs.Parts.{Part}
use Rattle.recordlists.specs.Entries.{Reader, each_at}

-- the entries that were read so far, followed by those that are left to read
abbrev pub with_front : {X : Type 0} → List X → Part (List X) → Part (List X)
with_front front read = read >>= λ x. Ok (front ++ x.0, x.1)

-- the entry that was read last
abbrev pub last_of : {X : Type 0} → List X → Option X
last_of xs = slice_get xs (length xs - 1)

last-push : {X : Type 0} (xs : List X) (x : X) → last_of (xs ++ x ∷ []) ≡ Some x
last-push xs x =
    let len = length_push xs x in
    let place : length (xs ++ x ∷ []) - 1 ≡ length xs = omega (arith, len) in
    rw place (slice_get-get_or (xs ++ x ∷ []) (length xs) x (omega (arith, len)) ∙ ap (λ y. Some y) (get_or-append_seam xs x [] x))

module _ {X : Type 0} (read : Reader X) (layout : Layout) where
  regroup : (front : List X) (x : X) (others : Part (List X)) → with_front front (others >>= λ xs. Ok (x ∷ xs.0, xs.1)) ≡ with_front (front ++ x ∷ []) others
  regroup front x (Ok xs) = ap (λ (ys : List X). Ok (ys, xs.1)) (simp append_assoc)
  regroup front x (Err e) = refl

  pub goes_on : (front : List X) (count i : ℕ) (bytes : List ℕ) (x : X) (after : List ℕ) (total : Part (List X)) → i < count → read layout (last_of front) bytes ≡ Ok (x, after)
      → with_front front (each_at read layout (last_of front) (count - i) bytes) ≡ total
      → with_front (front ++ x ∷ []) (each_at read layout (last_of (front ++ x ∷ [])) (count - (i + 1)) after) ≡ total
  unfolding each_at
  goes_on front count i bytes x after total lt h so_far =
      let k : count - i ≡ suc (count - (i + 1)) = omega arith in
      let one : with_front front (each_at read layout (last_of front) (count - i) bytes) ≡ with_front (front ++ x ∷ []) (each_at read layout (Some x) (count - (i + 1)) after) =
      rw (k, h) (regroup front x (each_at read layout (Some x) (count - (i + 1)) after)) in
      rw (last-push front x) (sym one ∙ so_far)

  pub ends : (e : RecordRefusal) (front : List X) (count i : ℕ) (bytes : List ℕ) (total : Part (List X)) → i < count → (e ≡ OutOfMemory) ⊎ (read layout (last_of front) bytes ≡ Err e)
      → with_front front (each_at read layout (last_of front) (count - i) bytes) ≡ total → (e ≡ OutOfMemory) ⊎ (total ≡ Err e)
  unfolding each_at
  ends e front count i bytes total lt (inl h) so_far = inl h
  ends e front count i bytes total lt (inr h) so_far =
      let k : count - i ≡ suc (count - (i + 1)) = omega arith in
      let one : with_front front (each_at read layout (last_of front) (count - i) bytes) ≡ Err e = rw (k, h) refl in
      inr (sym so_far ∙ one)

  pub is_done : (front : List X) (count i : ℕ) (bytes : List ℕ) (total : Part (List X)) → count ≤ i → with_front front (each_at read layout (last_of front) (count - i) bytes) ≡ total
      → total ≡ Ok (front, bytes)
  unfolding each_at
  is_done front count i bytes total le so_far =
      let k : count - i ≡ 0 = omega arith in
      let one : with_front front (each_at read layout (last_of front) (count - i) bytes) ≡ Ok (front, bytes) = rw k (ap (λ (xs : List X). Ok (xs, bytes)) (append-nil front)) in
      sym so_far ∙ one

  pub starts : (count : ℕ) (bytes : List ℕ) → with_front [] (each_at read layout None count bytes) ≡ each_at read layout None count bytes
  starts count bytes = of_part (each_at read layout None count bytes)
    where
      of_part : (p : Part (List X)) → with_front [] p ≡ p
      of_part (Ok x) = refl
      of_part (Err e) = refl
