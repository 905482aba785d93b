-- The keys of the vertices of a graph are those of their shapes.
use Rattle.std.proofs.Common.{◌≡◌, ℕ, suc, ◌+◌, ◌<◌, inl, inr, List, [], ◌∷◌, ◌++◌, length, take, set, get_or, ◌^◌, Some, refl, sym, ap, ◌∙◌, subst, arith}
use Rattle.std.specs.List.{Contains, slice_get, All}
use Rattle.std.proofs.lemmas.Bool.{cases_eq}
use Rattle.std.proofs.lemmas.List.{length-set, get_or-set_same, get_or-set_other}
use Rattle.std.proofs.lemmas.List.Elements.{Contains-push_cases, All-weaker, All-contains_itself}
use Rattle.std.proofs.lemmas.Option.{slice_get-get_or, slice_get_within, get_or_from_slice_get}
use Rattle.names.specs.declared.digest.Key.{Key}
use Rattle.lists.proofs.Places.{take_push, at_Contains}
use Rattle.vertices.specs.Edges.{IsEdge, AreEdges, list_at}
use Rattle.vertices.specs.Loading.{GraphParts, IsGraph}
use Rattle.vertices.proofs.GraphLemmas.{edge_target, list_at-get}
use Rattle.vertices.proofs.ZipLemmas.{all_zip_length, all_zip_back}
use Rattle.solverkeys.specs.Keys.{solver_key}
use Rattle.solverkeys.specs.Shapes.{Shape, vertex, Inputs, no_inputs, input, shape_key, input_keys, HasIndexes, InputsHaveIndexes}
use Rattle.solverkeys.specs.GraphKeys.{IsShapeOf, AreShapesOf, HasKey, TakesKeys, FollowsKeys}

-- a graph has edges for each vertex
pub edges_count : (g : GraphParts) → IsGraph g → length g.vertices ≡ length g.edges
edges_count g is = all_zip_length (λ v es. AreEdges g.vertices v.op.inputs es) g.vertices g.edges is.edges

-- they go to vertices
pub edges_within : (g : GraphParts) (number : ℕ) (edges : List (ℕ × ℕ)) → IsGraph g → slice_get g.edges number ≡ Some edges
    → All (λ edge. edge.0 < length g.vertices) edges
edges_within g number edges is at =
    let v = all_zip_back (λ v es. AreEdges g.vertices v.op.inputs es) g.vertices g.edges number edges is.edges at in
    All-weaker (Contains edges) (λ edge. edge.0 < length g.vertices)
    (λ edge c.
    let there = at_Contains edges edge c in
    let i = all_zip_back (IsEdge g.vertices) v.0.op.inputs edges there.0 edge v.2 there.1 in
    slice_get_within g.vertices edge.0 i.2.vertex i.2.there)
    edges (All-contains_itself edges)

-- they take outputs of 64 bits
edges_fit : (g : GraphParts) (number : ℕ) (edge : ℕ × ℕ) → IsGraph g → number < length g.vertices → Contains (list_at g.edges number) edge → edge.1 < 2 ^ 64
edges_fit g number edge is less c =
    let count = edges_count g is in
    let edges = get_or g.edges number [] in
    let at : slice_get g.edges number ≡ Some edges = slice_get-get_or g.edges number [] (omega arith) in
    let v = all_zip_back (λ v es. AreEdges g.vertices v.op.inputs es) g.vertices g.edges number edges is.edges at in
    let there = at_Contains edges edge (subst (λ (es : List (ℕ × ℕ)). Contains es edge) (list_at-get g.edges number edges at) c) in
    let i = all_zip_back (IsEdge g.vertices) v.0.op.inputs edges there.0 edge v.2 there.1 in
    omega (arith, i.2.small)

mutual
  unfolding IsShapeOf HasIndexes

  -- the indexes of the shape of a vertex
  pub shape_indexes : (g : GraphParts) (shape : Shape) (number : ℕ) → IsGraph g → IsShapeOf g shape number → HasIndexes shape
  shape_indexes g (vertex stripped inputs) number is h =
      inputs_indexes g inputs (list_at g.edges number) is (λ edge c. edges_fit g number edge is (slice_get_within g.vertices number h.0 h.1) c) h.3

  -- those of the shapes of its inputs
  inputs_indexes : (g : GraphParts) (inputs : Inputs) (edges : List (ℕ × ℕ)) → IsGraph g → ((edge : ℕ × ℕ) → Contains edges edge → edge.1 < 2 ^ 64)
      → AreShapesOf g inputs edges → InputsHaveIndexes inputs
  inputs_indexes g no_inputs edges is fit h = tt
  inputs_indexes g (input shape index others) [] is fit h = absurd h
  inputs_indexes g (input shape index others) (e ∷ edges) is fit h = (
    subst (λ (n : ℕ). n < 2 ^ 64) (sym h.1) (fit e (0, omega arith, refl)),
    shape_indexes g shape e.0 is h.0,
    inputs_indexes g others edges is (λ edge c. fit edge (suc c.0, omega (arith, c.1), c.2)) h.2,
  )

-- shapes for edges, where those that they go to have theirs
shapes_of : (g : GraphParts) (keys : List Key) (edges : List (ℕ × ℕ)) (inputs : List (Key × ℕ)) → TakesKeys keys edges inputs
    → ((edge : ℕ × ℕ) → Contains edges edge → HasKey g keys edge.0) → (shapes : Inputs) × AreShapesOf g shapes edges × (input_keys shapes ≡ inputs)
unfolding IsShapeOf shape_key
shapes_of g keys [] [] h known = (no_inputs, refl, refl)
shapes_of g keys [] (i ∷ inputs) h known = absurd h
shapes_of g keys (e ∷ edges) [] h known = absurd h
shapes_of g keys (e ∷ edges) (i ∷ inputs) h known =
    let first = known e (0, omega arith, refl) in
    let rest = shapes_of g keys edges inputs h.1 (λ edge c. known edge (suc c.0, omega (arith, c.1), c.2)) in
    let same : shape_key first.shape ≡ i.0 = let a = first.key in let b = h.0.0 in cc (a, b) in
    let index : e.1 ≡ i.1 = sym h.0.1 in
    let head : (shape_key first.shape, e.1) ≡ i = ap (λ (k : Key). (k, e.1)) same ∙ ap (λ (n : ℕ). (i.0, n)) index in (
      input first.shape e.1 rest.0,
      (first.is_shape, refl, rest.1),
      ap (λ (k : Key × ℕ). k ∷ input_keys rest.0) head ∙ ap (λ (ks : List (Key × ℕ)). i ∷ ks) rest.2,
    )

-- the key that follows from the keys of the inputs is that of a shape
pub follows_shape : (g : GraphParts) (keys : List Key) (number : ℕ) (key : Key) → FollowsKeys g keys number key
    → ((edge : ℕ × ℕ) → Contains (list_at g.edges number) edge → HasKey g keys edge.0) → (shape : Shape) × IsShapeOf g shape number × (key ≡ shape_key shape)
unfolding IsShapeOf shape_key
follows_shape g keys number key h known =
    let s = shapes_of g keys (list_at g.edges number) h.inputs h.taken known in
    (vertex h.own.op.stripped s.0, (h.own, h.there, refl, s.1), h.key_is ∙ ap (solver_key h.own.op.stripped) (sym s.2))

-- one more key, at the next number of the order
pub keys_more : (g : GraphParts) (keys : List Key) (k number : ℕ) (key : Key) → IsGraph g → slice_get g.order k ≡ Some number
    → length keys ≡ length g.vertices → FollowsKeys g keys number key
    → ((n : ℕ) → Contains (take k g.order) n → HasKey g keys n) → (n : ℕ) → Contains (take (k + 1) g.order) n → HasKey g (set keys number key) n
keys_more g keys k number key is at len follows known n c =
    let lowest = is.order.lowest k number at in
    let own = slice_get_within g.vertices number follows.own follows.there in
    let shape = follows_shape g keys number key follows (λ edge there.
    known edge.0 (lowest.ready.inputs edge.0 (let t = at_Contains (list_at g.edges number) edge there in edge_target (list_at g.edges number) t.0 edge t.1))) in
    elim (cases_eq n number) [
      | inl same ↦ record {
        shape = shape.0;
        is_shape = subst (IsShapeOf g shape.0) (sym same) shape.1;
        key = ap (slice_get (set keys number key)) same
            ∙ slice_get-get_or (set keys number key) number key (omega (arith, length-set keys number key))
            ∙ ap (λ (x : Key). Some x) (get_or-set_same keys number key key (omega arith) ∙ shape.2);
      }
      | inr apart ↦ elim (Contains-push_cases (take k g.order) number n (subst (λ (ns : List ℕ). Contains ns n) (take_push g.order k number at) c)) [
        | inr same ↦ absurd (apart (sym same))
        | inl old ↦
            let h = known n old in
            let within = slice_get_within keys n (shape_key h.shape) h.key in
            record {
              shape = h.shape;
              is_shape = h.is_shape;
              key = slice_get-get_or (set keys number key) n key (omega (arith, length-set keys number key))
                  ∙ ap (λ (x : Key). Some x) (get_or-set_other keys number n key key apart ∙ get_or_from_slice_get keys n (shape_key h.shape) key h.key);
            }
      ]
    ]

-- the numbers of the order are those of the vertices
pub order_number : (g : GraphParts) (k number : ℕ) → IsGraph g → slice_get g.order k ≡ Some number → number < length g.vertices
order_number g k number is at = (is.order.lowest k number at).ready.vertex

-- a key that is taken, at the end
pub takes_more : (keys : List Key) (edges : List (ℕ × ℕ)) (inputs : List (Key × ℕ)) (edge : ℕ × ℕ) (key : Key) → TakesKeys keys edges inputs
    → slice_get keys edge.0 ≡ Some key → TakesKeys keys (edges ++ edge ∷ []) (inputs ++ (key, edge.1) ∷ [])
takes_more keys [] [] edge key h is = ((is, refl), tt)
takes_more keys [] (i ∷ inputs) edge key h is = absurd h
takes_more keys (e ∷ edges) [] edge key h is = absurd h
takes_more keys (e ∷ edges) (i ∷ inputs) edge key h is = (h.0, takes_more keys edges inputs edge key h.1 is)
