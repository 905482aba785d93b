-- The edges of vertices as a graph of their numbers.
use Rattle.std.proofs.Common.{◌≡◌, ℕ, zero, suc, ◌+◌, ◌<◌, ◌⊎◌, inl, inr, List, [], ◌∷◌, ◌++◌, length, get_or, take, ◌≤◌, Option, Some, None, refl, sym, ap, ◌∙◌, subst, arith}
use Rattle.std.specs.List.{All, AllByRecursion, Contains, slice_get, AllZip}
use Rattle.std.specs.declared.vec.Vec.{Vec}
use Rattle.std.specs.declared.alloc.Global.{Global}
use Rattle.std.proofs.lemmas.List.{get_or-map, get_or-take, length-map, length_push, length-take-le, get_or_default}
use Rattle.std.proofs.lemmas.List.Elements.{All-contains}
use Rattle.std.proofs.lemmas.Bool.{cases_lt}
use Rattle.std.proofs.lemmas.Option.{slice_get-get_or, slice_get_within, get_or_from_slice_get}
use Rattle.names.specs.declared.digest.Digest.{Digest}
use Rattle.opsproto.specs.Scalars.{Text}
use Rattle.opsproto.specs.declared.input.Input.{Input}
use Rattle.names.proofs.NameLaws.{digest_text-injective}
use Rattle.lists.proofs.Places.{at_place, at_Contains, Contains-at, get_push_cases}
use Rattle.ordering.specs.declared.table.Table.{Table}
use Rattle.ordering.specs.Firsts.{number_in}
use Rattle.ordering.specs.Rows.{row_at, HasInput, AreRows}
use Rattle.ordering.specs.Orders.{IsOrder}
use Rattle.ordering.proofs.EntryLemmas.{order_same}
use Rattle.vertices.specs.declared.vertex.Vertex.{Vertex}
use Rattle.vertices.specs.declared.refusal.LoadRefusal.{LoadRefusal}
use Rattle.vertices.specs.declared.refusal.LoadRefusal.TheVariants.{OutOfMemory}
use Rattle.vertices.specs.Outcomes.{Each}
use Rattle.vertices.specs.Edges.{InputCheck, IsEdge, AreEdges, Numbers, list_at, targets, GoesTo}
use Rattle.vertices.specs.Numbered.{AreNumbers, GoBelow, HasTargets}
use Rattle.vertices.specs.Loading.{HasEdge, ResultCheck, VertexCheck, GraphCheck, IsRunnable}
use Rattle.vertices.proofs.ZipLemmas.{all_zip_length, all_zip_at, all_zip_back}

-- ---- lists of lists

pub list_at-get : {X : Type 0} (lists : List (List X)) (k : ℕ) (xs : List X) → slice_get lists k ≡ Some xs → list_at lists k ≡ xs
list_at-get [] zero xs e = absurd (cc e)
list_at-get [] (suc k) xs e = absurd (cc e)
list_at-get (ys ∷ lists) zero xs e = cc e
list_at-get (ys ∷ lists) (suc k) xs e = list_at-get lists k xs e

pub list_within : {X : Type 0} (lists : List (List X)) (k : ℕ) (x : X) → Contains (list_at lists k) x → k < length lists
list_within [] k x (i, lt, is) = absurd (omega arith)
list_within (xs ∷ lists) zero x h = omega arith
list_within (xs ∷ lists) (suc k) x h = let less = list_within lists k x h in omega arith

-- a target is that of an edge
target_edge : (edges : List (ℕ × ℕ)) (m : ℕ) → Contains (targets edges) m → (k : ℕ) × (e : ℕ × ℕ) × (slice_get edges k ≡ Some e) × (e.0 ≡ m)
target_edge edges m (k, lt, is) =
    let d : ℕ × ℕ = (m, 0) in
    let within : k < length edges = omega (arith, length-map edges (λ (edge : ℕ × ℕ). edge.0)) in
    let e = get_or edges k d in
    (k, e, slice_get-get_or edges k d within, sym (get_or-map (λ (edge : ℕ × ℕ). edge.0) edges k d m within) ∙ is)

pub edge_target : (edges : List (ℕ × ℕ)) (k : ℕ) (e : ℕ × ℕ) → slice_get edges k ≡ Some e → Contains (targets edges) e.0
edge_target edges k e at =
    let within = slice_get_within edges k e at in (
      k,
      omega (arith, length-map edges (λ (edge : ℕ × ℕ). edge.0)),
      get_or-map (λ (edge : ℕ × ℕ). edge.0) edges k e e.0 within ∙ ap (λ (edge : ℕ × ℕ). edge.0) (get_or_from_slice_get edges k e e at),
    )

-- what has an edge is in the list
pub goes_within : (edges : List (List (ℕ × ℕ))) (a b : ℕ) → GoesTo edges a b → a < length edges
goes_within edges a b (k, lt, is) =
    let within : k < length (list_at edges a) = omega (arith, length-map (list_at edges a) (λ (edge : ℕ × ℕ). edge.0)) in
    list_within edges a (get_or (list_at edges a) k (0, 0)) (k, within, get_or_default (list_at edges a) k (get_or (list_at edges a) k (0, 0)) (0, 0) within)

-- edges that all go below a vertex
pub row_below : (edges : List (List (ℕ × ℕ))) (k : ℕ) (es : List (ℕ × ℕ)) → slice_get edges k ≡ Some es → All (λ (edge : ℕ × ℕ). edge.0 < k) es
    → (other : ℕ) → GoesTo edges k other → other < k
row_below edges k es at all other goes =
    let t = target_edge es other (subst (λ (xs : List (ℕ × ℕ)). Contains (targets xs) other) (list_at-get edges k es at) goes) in
    subst (λ (x : ℕ). x < k) t.3 (All-contains (λ (edge : ℕ × ℕ). edge.0 < k) es t.1 all (Contains-at es t.0 t.1 t.2))

-- ---- edges of vertices

module _ (digests : List Digest) (vertices : List Vertex) (table : Table) (n : Numbers digests vertices table)
    (edges : List (List (ℕ × ℕ))) (are : AllZip (λ v es. AreEdges vertices v.op.inputs es) vertices edges) where
  -- what an edge goes to is named by an input
  pub edge_named : (a b : ℕ) → GoesTo edges a b → HasEdge vertices a b
  edge_named a b goes =
      let less = goes_within edges a b goes in
      let es = list_at edges a in
      let at_es : slice_get edges a ≡ Some es = slice_get-get_or edges a [] less ∙ ap (λ (xs : List (ℕ × ℕ)). Some xs) (sym (list_at-get edges a (get_or edges a []) (slice_get-get_or edges a [] less))) in
      let v = all_zip_back (λ v es. AreEdges vertices v.op.inputs es) vertices edges a es are at_es in
      let t = target_edge es b goes in
      let i = all_zip_back (IsEdge vertices) v.0.op.inputs es t.0 t.1 v.2 t.2 in
      record {
        vertex = v.0;
        input = i.0;
        target = i.2.vertex;
        from = v.1;
        has = Contains-at v.0.op.inputs t.0 i.0 i.1;
        to = ap (slice_get vertices) (sym t.3) ∙ i.2.there;
        named = i.2.named;
      }

  -- what an input names an edge goes to
  pub named_edge : (a b : ℕ) → HasEdge vertices a b → GoesTo edges a b
  named_edge a b h =
      let es = all_zip_at (λ v es. AreEdges vertices v.op.inputs es) vertices edges a h.vertex are h.from in
      let i = at_Contains h.vertex.op.inputs h.input h.has in
      let e = all_zip_at (IsEdge vertices) h.vertex.op.inputs es.0 i.0 h.input es.2 i.1 in
      let there = n.numbered e.0.0 e.2.vertex e.2.there in
      let here = n.numbered b h.target h.to in
      let da = n.are_digests e.2.vertex.digest (n.listed e.2.vertex.digest e.0.0 there) in
      let db = n.are_digests h.target.digest (n.listed h.target.digest b here) in
      let same : e.2.vertex.digest ≡ h.target.digest = digest_text-injective e.2.vertex.digest h.target.digest da db (sym e.2.named ∙ h.named) in
      let number : e.0.0 ≡ b = let f : number_in table e.2.vertex.digest ≡ number_in table h.target.digest = ap (number_in table) same in cc (f, there, here) in
      subst (λ (m : ℕ). GoesTo edges a m) number
      (subst (λ (xs : List (ℕ × ℕ)). Contains (targets xs) e.0.0) (sym (list_at-get edges a es.0 es.1)) (edge_target es.0 i.0 e.0 e.1))

  -- it goes to a vertex
  pub edge_within : (a b : ℕ) → GoesTo edges a b → b < length edges
  edge_within a b goes =
      let h = edge_named a b goes in
      let less = slice_get_within vertices b h.target h.to in
      let len = all_zip_length (λ v es. AreEdges vertices v.op.inputs es) vertices edges are in
      omega arith

  -- the order of the edges is that of the vertices
  pub vertex_order : (order : List ℕ) → IsOrder (λ a. a < length edges) (GoesTo edges) order → IsOrder (λ a. a < length vertices) (GoesTo edges) order
  vertex_order order is =
      let len = all_zip_length (λ v es. AreEdges vertices v.op.inputs es) vertices edges are in
      order_same (λ a. a < length edges) (λ a. a < length vertices) (GoesTo edges) (GoesTo edges)
      (λ a h. omega arith) (λ a h. omega arith) (λ a b h. h) (λ a b h. h) order is

-- ---- the table of numbers

-- the numbers below one more
pub numbers_more : (numbers : List ℕ) (k : ℕ) → AreNumbers numbers k → AreNumbers (numbers ++ k ∷ []) (k + 1)
numbers_more numbers k h = record {
  counted = let len = length_push numbers k in let was = h.counted in omega arith;
  placed = λ p x at. elim (get_push_cases numbers k p x at) [
    | inl old ↦ h.placed p x old.1
    | inr end ↦ let was = h.counted in let here = end.0 in let same = end.1 in omega arith
  ];
}

pub numbers_below : (numbers : List ℕ) (count : ℕ) → AreNumbers numbers count → (x : ℕ) → Contains numbers x → x < count
numbers_below numbers count h x c =
    let at = at_Contains numbers x c in
    let same = h.placed at.0 x at.1 in
    let within = slice_get_within numbers at.0 x at.1 in
    let len = h.counted in
    omega arith

pub numbers_whole : (numbers : List ℕ) (count : ℕ) → AreNumbers numbers count → (x : ℕ) → x < count → Contains numbers x
numbers_whole numbers count h x less =
    let len = h.counted in
    let at = at_place numbers x (omega arith) in
    subst (Contains numbers) (h.placed x at.0 at.1) (Contains-at numbers x at.0 at.1)

-- the first of them are those below a lower count
numbers_front : (numbers : List ℕ) (count k : ℕ) → AreNumbers numbers count → k ≤ count → AreNumbers (take k numbers) k
numbers_front numbers count k h less =
    let was = h.counted in
    let len : length (take k numbers) ≡ k = length-take-le k numbers (omega arith) in
    record {
      counted = len;
      placed = λ p x at.
          let within : p < length (take k numbers) = slice_get_within (take k numbers) p x at in
          let below : p < k = omega arith in
          let here : p < length numbers = omega arith in
          h.placed p x (slice_get-get_or numbers p x here
          ∙ ap (λ (y : ℕ). Some y) (sym (get_or-take k numbers p x below) ∙ get_or_from_slice_get (take k numbers) p x x at));
    }

-- where each edge goes to a lower number, the numbers as they rise are the order
pub numbers_order : (edges : List (List (ℕ × ℕ))) (numbers : List ℕ) → AreNumbers numbers (length edges) → GoBelow edges
    → IsOrder (λ number. number < length edges) (GoesTo edges) numbers
numbers_order edges numbers h below = record {
  whole = numbers_whole numbers (length edges) h;
  lowest = λ k place at.
      let same : place ≡ k = h.placed k place at in
      let within = slice_get_within numbers k place at in
      let len = h.counted in
      let front = numbers_front numbers (length edges) k h (omega arith) in
      record {
        ready = record {
          vertex = omega arith;
          new = λ c. let less = numbers_below (take k numbers) k front place c in absurd (omega arith);
          inputs = λ input goes. let less = below place input goes in numbers_whole (take k numbers) k front input (omega arith);
        };
        lowest = λ other ready. elim (cases_lt other k) [
          | inl less ↦ absurd (ready.new (numbers_whole (take k numbers) k front other less))
          | inr more ↦ omega arith
        ];
      };
}

-- a row has the targets of its edges
row_targets : (edges : List (List (ℕ × ℕ))) (rows : List (Vec ℕ Global)) (a : ℕ) → HasTargets edges rows → row_at rows a ≡ targets (list_at edges a)
row_targets [] [] a h = refl
row_targets [] (r ∷ rows) a h = absurd h
row_targets (e ∷ edges) [] a h = absurd h
row_targets (e ∷ edges) (r ∷ rows) zero h = h.0
row_targets (e ∷ edges) (r ∷ rows) (suc a) h = row_targets edges rows a h.1

pub row_goes : (edges : List (List (ℕ × ℕ))) (rows : List (Vec ℕ Global)) → HasTargets edges rows → (a b : ℕ) → HasInput rows a b → GoesTo edges a b
row_goes edges rows h a b e = subst (λ (xs : List ℕ). Contains xs b) (row_targets edges rows a h) e

pub goes_row : (edges : List (List (ℕ × ℕ))) (rows : List (Vec ℕ Global)) → HasTargets edges rows → (a b : ℕ) → GoesTo edges a b → HasInput rows a b
goes_row edges rows h a b e = subst (λ (xs : List ℕ). Contains xs b) (sym (row_targets edges rows a h)) e

pub target_rows : (edges : List (List (ℕ × ℕ))) (rows : List (Vec ℕ Global)) (numbers : List ℕ) → HasTargets edges rows → AreNumbers numbers (length edges)
    → ((a b : ℕ) → GoesTo edges a b → b < length edges) → AreRows numbers rows
target_rows edges rows numbers h is within =
    let len = all_zip_length (λ es (row : Vec ℕ Global). row.items ≡ targets es) edges rows h in
    record {
      within = λ p c. let less = numbers_below numbers (length edges) is p c in omega arith;
      inputs = λ p q e. numbers_whole numbers (length edges) is q (within p q (row_goes edges rows h p q e));
    }

-- ---- the checks of a graph

-- the first input of the last entry
pub result_check : (digests : List Digest) (place : ℕ) (last : List (Input Text)) (x : Input Text) (given : Option LoadRefusal) → slice_get last 0 ≡ Some x
    → InputCheck digests place x given → ResultCheck digests place last given
result_check digests place [] x given e h = absurd (cc e)
result_check digests place (y ∷ last) x given e h = let same : x ≡ y = cc e in subst (λ (z : Input Text). InputCheck digests place z given) same h

-- what the edges of the vertices answer
pub edges_answer : (digests : List Digest) (place : ℕ) (vertices : List Vertex) (last : List (Input Text)) (e : LoadRefusal)
    → ResultCheck digests place last None → (e ≡ OutOfMemory) ⊎ Each (VertexCheck digests) vertices (Some e)
    → (e ≡ OutOfMemory) ⊎ GraphCheck digests place vertices last (Some e)
edges_answer digests place vertices last e h c = elim c [ inl memory ↦ inl memory | inr check ↦ inr (inr (h, inl check)) ]

-- vertices that pass their checks can be run
pub all_runnable : (digests : List Digest) (vertices : List Vertex) → Each (VertexCheck digests) vertices None → AllByRecursion IsRunnable vertices
all_runnable digests [] h = tt
all_runnable digests (v ∷ vertices) h = (h.0.1, all_runnable digests vertices h.1)
