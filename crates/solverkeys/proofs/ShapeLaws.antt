-- Two shapes with one key are one shape, or show a collision.
use Rattle.std.proofs.Common.{◌≡◌, ◌≢◌, ℕ, ◌<◌, ◌^◌, ◌⊎◌, inl, inr, List, [], ◌∷◌, ◌++◌, length, refl, sym, ap, ◌∙◌, arith, length-append}
use Rattle.std.specs.List.{flat_map}
use Rattle.std.specs.Int.{w64, to_be_bytes, from_be_bytes}
use Rattle.std.proofs.lemmas.Nat.{from_be_bytes-to_be_bytes_8}
use Rattle.sha2.specs.Sha256.{sha256}
use Rattle.sha2.proofs.Facts256.{length-sha256}
use Rattle.lists.proofs.Places.{cases_list}
use Rattle.names.specs.declared.digest.Key.{Key}
use Rattle.solverkeys.specs.Keys.{input_bytes, key_message}
use Rattle.vertices.specs.declared.vertex.Vertex.{Vertex}
use Rattle.vertices.specs.Edges.{list_at}
use Rattle.vertices.specs.Loading.{GraphParts}
use Rattle.solverkeys.specs.GraphKeys.{IsShapeOf, AreShapesOf}
use Rattle.solverkeys.specs.Shapes.{Shape, vertex, Inputs, no_inputs, input, shape_key, input_keys, HasIndexes, InputsHaveIndexes, Hashes, InputsHash, ShowCollision}

-- lists of one length in front: both parts are the same
pub parts_same : (a b x y : List ℕ) → length a ≡ length b → a ++ x ≡ b ++ y → (a ≡ b) × (x ≡ y)
parts_same [] [] x y e same = (refl, same)
parts_same [] (c ∷ b) x y e same = absurd (omega arith)
parts_same (c ∷ a) [] x y e same = absurd (omega arith)
parts_same (c ∷ a) (d ∷ b) x y e same =
    let heads : c ≡ d = cc in
    let tails : a ++ x ≡ b ++ y = cc in
    let shorter : length a ≡ length b = omega arith in
    let r = parts_same a b x y shorter tails in
    let front = r.0 in
    (cc, r.1)

-- the eight bytes of an index give it back
index_same : (m n : ℕ) → m < 2 ^ 64 → n < 2 ^ 64 → to_be_bytes w64 m ≡ to_be_bytes w64 n → m ≡ n
index_same m n h k e =
    sym (from_be_bytes-to_be_bytes_8 m h) ∙ ap (from_be_bytes w64) e ∙ from_be_bytes-to_be_bytes_8 n k

-- eight bytes of an index
length-index : (n : ℕ) → length (to_be_bytes w64 n) ≡ 8
length-index n = refl

-- the collision of two byte strings of two shapes, where they differ
shown : (one other : Shape) (x y : List ℕ) → Hashes one x → Hashes other y → x ≢ y → sha256 x ≡ sha256 y → ShowCollision one other
shown one other x y h k d s =
    record { first = x; second = y; first_hashed = h; second_hashed = k; different = d; same = s }

-- what the inputs of two shapes show
record InputsCollide (one other : Inputs) : Type 0 where
  first : List ℕ
  second : List ℕ
  first_hashed : InputsHash one first
  second_hashed : InputsHash other second
  different : first ≢ second
  same : sha256 first ≡ sha256 second

-- a key has 32 bytes
length-key : (a : Shape) → length (shape_key a).0.0 ≡ 32
unfolding shape_key
length-key (vertex s i) = length-sha256 _

-- two inputs with the same bytes in front of the others
input_parts : (k l x y : List ℕ) (m n : ℕ) → length k ≡ 32 → length l ≡ 32 → m < 2 ^ 64 → n < 2 ^ 64
    → (k ++ to_be_bytes w64 m) ++ x ≡ (l ++ to_be_bytes w64 n) ++ y → (k ≡ l) × (m ≡ n) × (x ≡ y)
input_parts k l x y m n lk ll hm hn e =
    let whole = parts_same (k ++ to_be_bytes w64 m) (l ++ to_be_bytes w64 n) x y
    (omega (arith, length-append k (to_be_bytes w64 m), length-append l (to_be_bytes w64 n), length-index m, length-index n)) e in
    let front = parts_same k l (to_be_bytes w64 m) (to_be_bytes w64 n) (omega arith) whole.0 in
    (front.0, index_same m n hm hn front.1, whole.1)

mutual
  unfolding shape_key HasIndexes Hashes

  -- two shapes with one key are one, or show a collision
  pub one_or_collision : (a b : Shape) → HasIndexes a → HasIndexes b → (shape_key a).0.0 ≡ (shape_key b).0.0
      → (a ≡ b) ⊎ ShowCollision a b
  one_or_collision (vertex s i) (vertex t j) h k e =
      elim (cases_list (key_message s (input_keys i)) (key_message t (input_keys j))) [
        | inr d ↦ inr (shown (vertex s i) (vertex t j) _ _ (inr (inl refl)) (inr (inl refl)) d e)
        | inl m ↦
            let tails : sha256 s ++ flat_map input_bytes (input_keys i) ≡ sha256 t ++ flat_map input_bytes (input_keys j) = cc in
            let parts = parts_same (sha256 s) (sha256 t) _ _ (length-sha256 s ∙ sym (length-sha256 t)) tails in
            elim (cases_list s t) [
              | inr d ↦ inr (shown (vertex s i) (vertex t j) s t (inl refl) (inl refl) d parts.0)
              | inl st ↦ elim (inputs_one_or_collision i j h k parts.1) [
                | inl ij ↦ inl cc
                | inr c ↦ inr (shown (vertex s i) (vertex t j) c.first c.second (inr (inr c.first_hashed)) (inr (inr c.second_hashed)) c.different c.same)
              ]
            ]
      ]

  -- the same of their inputs, by the bytes that these add to the message
  inputs_one_or_collision : (ones others : Inputs) → InputsHaveIndexes ones → InputsHaveIndexes others
      → flat_map input_bytes (input_keys ones) ≡ flat_map input_bytes (input_keys others) → (ones ≡ others) ⊎ InputsCollide ones others
  inputs_one_or_collision no_inputs no_inputs h k e = inl refl
  inputs_one_or_collision no_inputs (input b n others) h k e =
      absurd (omega (arith, ap length e, length-append (input_bytes (shape_key b, n)) (flat_map input_bytes (input_keys others)), length-append (shape_key b).0.0 (to_be_bytes w64 n), length-key b))
  inputs_one_or_collision (input a m ones) no_inputs h k e =
      absurd (omega (arith, ap length e, length-append (input_bytes (shape_key a, m)) (flat_map input_bytes (input_keys ones)), length-append (shape_key a).0.0 (to_be_bytes w64 m), length-key a))
  inputs_one_or_collision (input a m ones) (input b n others) h k e =
      let parts = input_parts (shape_key a).0.0 (shape_key b).0.0 _ _ m n (length-key a) (length-key b) h.0 k.0 e in
      elim (one_or_collision a b h.1 k.1 parts.0) [
        | inr c ↦ inr (record { first = c.first; second = c.second; first_hashed = inl c.first_hashed; second_hashed = inl c.second_hashed; different = c.different; same = c.same })
        | inl ab ↦ elim (inputs_one_or_collision ones others h.2 k.2 parts.2) [
          | inr c ↦ inr (record { first = c.first; second = c.second; first_hashed = inr c.first_hashed; second_hashed = inr c.second_hashed; different = c.different; same = c.same })
          | inl rest_same ↦ let mn = parts.1 in inl cc
        ]
      ]

-- two different shapes with one key show a collision
pub collision : (a b : Shape) → HasIndexes a → HasIndexes b → a ≢ b → shape_key a ≡ shape_key b → ShowCollision a b
collision a b h k d e =
    elim (one_or_collision a b h k (ap (λ (key : Key). key.0.0) e)) [ inl same ↦ absurd (d same) | inr c ↦ c ]

mutual
  unfolding IsShapeOf

  -- a vertex has one shape
  pub one_shape : (g : GraphParts) (a b : Shape) (number : ℕ) → IsShapeOf g a number → IsShapeOf g b number → a ≡ b
  one_shape g (vertex s i) (vertex t j) number h k =
      let same : h.0 ≡ k.0 = let x = h.1 in let y = k.1 in cc (x, y) in
      let stripped : s ≡ t = h.2 ∙ ap (λ (v : Vertex). v.op.stripped) same ∙ sym k.2 in
      let inputs : i ≡ j = same_shapes g i j (list_at g.edges number) h.3 k.3 in
      cc (stripped, inputs)

  -- its inputs have one shape each
  same_shapes : (g : GraphParts) (i j : Inputs) (edges : List (ℕ × ℕ)) → AreShapesOf g i edges → AreShapesOf g j edges → i ≡ j
  same_shapes g no_inputs no_inputs edges h k = refl
  same_shapes g no_inputs (input b n bs) [] h k = absurd k
  same_shapes g no_inputs (input b n bs) (e ∷ edges) h k = absurd (cc h)
  same_shapes g (input a m ones) no_inputs [] h k = absurd h
  same_shapes g (input a m ones) no_inputs (e ∷ edges) h k = absurd (cc k)
  same_shapes g (input a m ones) (input b n bs) [] h k = absurd h
  same_shapes g (input a m ones) (input b n bs) (e ∷ edges) h k =
      let first : a ≡ b = one_shape g a b e.0 h.0 k.0 in
      let index : m ≡ n = h.1 ∙ sym k.1 in
      let rest : ones ≡ bs = same_shapes g ones bs edges h.2 k.2 in
      cc (first, index, rest)
