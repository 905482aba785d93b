-- The mounts of a vertex of a graph, and the outputs that its inputs take.
use Rattle.std.proofs.Common.{◌≡◌, ℕ, zero, suc, ◌≤◌, List, [], ◌∷◌, length, Some, None, refl, sym, ap, ◌∙◌, subst, arith}
use Rattle.std.specs.List.{AllByRecursion, All, slice_get}
use Rattle.std.proofs.lemmas.List.Elements.{All-cons, All-nil}
use Rattle.names.specs.declared.digest.Key.{Key}
use Rattle.names.specs.declared.folder.Base.{Base}
use Rattle.opsproto.specs.Scalars.{Text}
use Rattle.opsproto.specs.declared.exec.Mount.{Mount}
use Rattle.opsproto.specs.declared.input.Input.{Input}
use Rattle.opsproto.specs.Mounts.{mounts_in}
use Rattle.opsproto.specs.declared.op.Kind.{Kind}
use Rattle.opsproto.specs.declared.op.Kind.TheVariants.{Exec, Opaque, Bare}
use Rattle.vertices.specs.declared.vertex.Vertex.{Vertex}
use Rattle.vertices.specs.Edges.{IsEdge, AreEdges, list_at}
use Rattle.vertices.specs.Loading.{GraphParts, IsGraph, IsRunnable}
use Rattle.vertices.specs.OpChecks.{MountCheck, KindCheck, cache_count}
use Rattle.vertices.specs.Outcomes.{Each}
use Rattle.vertices.proofs.GraphLemmas.{list_at-get}
use Rattle.vertices.proofs.ZipLemmas.{all_zip_length, all_zip_at}
use Rattle.cachemounts.specs.CacheFolders.{TakesOutput, TakesOutputs}
use Rattle.cachemounts.specs.CacheWants.{HasMounts}
use Rattle.cachemounts.specs.Checked.{IsChecked}

-- ---- checks

all_at : {X : Type 0} (P : X → Type 0) (xs : List X) (k : ℕ) (x : X) → AllByRecursion P xs → slice_get xs k ≡ Some x → P x
all_at P [] zero x h e = absurd (cc e)
all_at P [] (suc k) x h e = absurd (cc e)
all_at P (y ∷ xs) zero x h e = let same : y ≡ x = cc e in subst P same h.0
all_at P (y ∷ xs) (suc k) x h e = all_at P xs k x h.1 e

each_checked : (place inputs : ℕ) (mounts : List (Mount Text)) → Each (MountCheck place inputs) mounts None → All (IsChecked inputs) mounts
each_checked place inputs [] h = All-nil (IsChecked inputs)
each_checked place inputs (m ∷ mounts) h = All-cons (IsChecked inputs) m mounts (place, h.0) (each_checked place inputs mounts h.1)

-- the mounts of an op that passed its checks passed theirs
kind_checked : (place inputs : ℕ) (kind : Kind Text) → KindCheck place inputs kind None → All (IsChecked inputs) (mounts_in kind)
kind_checked place inputs (Exec exec) h = each_checked place inputs exec.mounts h.1.1.1.1.0
kind_checked place inputs (Opaque number) h = All-nil (IsChecked inputs)
kind_checked place inputs Bare h = All-nil (IsChecked inputs)

kind_few : (place inputs : ℕ) (kind : Kind Text) → KindCheck place inputs kind None → cache_count (mounts_in kind) ≤ 16
kind_few place inputs (Exec exec) h = h.1.1.1.1.1
kind_few place inputs (Opaque number) h = omega arith
kind_few place inputs Bare h = omega arith

-- ---- of a graph

module _ (g : GraphParts) (is : IsGraph g) (number : ℕ) (vertex : Vertex) (there : slice_get g.vertices number ≡ Some vertex)
    (edges : List (ℕ × ℕ)) (edges_there : slice_get g.edges number ≡ Some edges) where
  -- the edges are those of the vertex's inputs
  pub vertex_edges : AreEdges g.vertices vertex.op.inputs edges
  vertex_edges =
      let found = all_zip_at (λ v es. AreEdges g.vertices v.op.inputs es) g.vertices g.edges number vertex is.edges there in
      let same : found.0 ≡ edges = let a = found.1 in cc (a, edges_there) in
      subst (AreEdges g.vertices vertex.op.inputs) same found.2

  pub outputs_count : (keys : List Key) (outputs : List Base) → TakesOutputs keys edges outputs → length outputs ≡ length vertex.op.inputs
  outputs_count keys outputs taken =
      sym (all_zip_length (TakesOutput keys) edges outputs taken) ∙ sym (all_zip_length (IsEdge g.vertices) vertex.op.inputs edges vertex_edges)

  -- its mounts passed their checks
  pub mounts_checked : (inputs : ℕ) → inputs ≡ length vertex.op.inputs → All (IsChecked inputs) (mounts_in vertex.op.kind)
  mounts_checked inputs same =
      subst (λ (n : ℕ). All (IsChecked n) (mounts_in vertex.op.kind)) (sym same)
      (kind_checked vertex.place (length vertex.op.inputs) vertex.op.kind (all_at IsRunnable g.vertices number vertex is.runnable there))

  pub mounts_few : cache_count (mounts_in vertex.op.kind) ≤ 16
  mounts_few = kind_few vertex.place (length vertex.op.inputs) vertex.op.kind (all_at IsRunnable g.vertices number vertex is.runnable there)

  pub has_mounts : (keys : List Key) (outputs : List Base) → TakesOutputs keys edges outputs → HasMounts g keys number outputs (mounts_in vertex.op.kind)
  has_mounts keys outputs taken = record {
    vertex = vertex;
    there = there;
    mounts_are = refl;
    outputs_are = subst (λ (es : List (ℕ × ℕ)). TakesOutputs keys es outputs) (sym (list_at-get g.edges number edges edges_there)) taken;
  }

-- ---- one of each

one_output : (keys : List Key) (edge : ℕ × ℕ) (one other : Base) → TakesOutput keys edge one → TakesOutput keys edge other → one ≡ other
one_output keys edge one other h k =
    let key : one.key ≡ other.key = let a = h.key in let b = k.key in cc (a, b) in
    let index : one.index ≡ other.index = h.index ∙ sym k.index in
    λ j. record { key = key j; index = index j }

same_outputs : (keys : List Key) (edges : List (ℕ × ℕ)) (one other : List Base) → TakesOutputs keys edges one → TakesOutputs keys edges other → one ≡ other
same_outputs keys [] [] [] h k = refl
same_outputs keys [] [] (b ∷ other) h k = absurd k
same_outputs keys [] (a ∷ one) other h k = absurd h
same_outputs keys (e ∷ edges) [] other h k = absurd h
same_outputs keys (e ∷ edges) (a ∷ one) [] h k = absurd k
same_outputs keys (e ∷ edges) (a ∷ one) (b ∷ other) h k =
    ap (λ (x : Base). x ∷ one) (one_output keys e a b h.0 k.0) ∙ ap (λ (xs : List Base). b ∷ xs) (same_outputs keys edges one other h.1 k.1)

-- a vertex has one list of outputs and one of mounts
pub one_has : (g : GraphParts) (keys : List Key) (number : ℕ) (outputs others : List Base) (mounts more : List (Mount Text))
    → HasMounts g keys number outputs mounts → HasMounts g keys number others more → (outputs ≡ others) × (mounts ≡ more)
one_has g keys number outputs others mounts more h k =
    let same : h.vertex ≡ k.vertex = let a = h.there in let b = k.there in cc (a, b) in (
      same_outputs keys (list_at g.edges number) outputs others h.outputs_are k.outputs_are,
      h.mounts_are ∙ ap (λ (v : Vertex). mounts_in v.op.kind) same ∙ sym k.mounts_are,
    )
