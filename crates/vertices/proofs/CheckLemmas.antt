-- Checks of lists.
use Rattle.std.proofs.Common.{◌≡◌, ℕ, zero, suc, ◌+◌, ◌⊎◌, inl, inr, List, [], ◌∷◌, ◌++◌, take, Option, Some, None, sym, subst}
use Rattle.std.specs.List.{slice_get}
use Rattle.opsproto.specs.Scalars.{Text}
use Rattle.opsproto.specs.declared.input.Input.{Input}
use Rattle.lists.proofs.Places.{take_push, AllZip-push}
use Rattle.vertices.specs.declared.vertex.Vertex.{Vertex}
use Rattle.vertices.specs.Edges.{IsEdge, AreEdges}
use Rattle.vertices.specs.declared.refusal.LoadRefusal.{LoadRefusal}
use Rattle.vertices.specs.declared.refusal.LoadRefusal.TheVariants.{OutOfMemory}
use Rattle.vertices.specs.Outcomes.{Each}

module _ {X : Type 0} (C : X → Option LoadRefusal → Type 0) where
  -- one more that passes
  pub each_push : (xs : List X) (x : X) → Each C xs None → C x None → Each C (xs ++ x ∷ []) None
  each_push [] x h c = (c, tt)
  each_push (y ∷ xs) x h c = (h.0, each_push xs x h.1 c)

  pub each_more : (xs : List X) (k : ℕ) (x : X) → slice_get xs k ≡ Some x → Each C (take k xs) None → C x None → Each C (take (k + 1) xs) None
  each_more xs k x at h c = subst (λ (ys : List X). Each C ys None) (sym (take_push xs k x at)) (each_push (take k xs) x h c)

  -- one that is refused, where those before it pass
  pub each_fails : (xs : List X) (k : ℕ) (x : X) (e : LoadRefusal) → slice_get xs k ≡ Some x → Each C (take k xs) None → C x (Some e) → Each C xs (Some e)
  each_fails [] zero x e at h c = absurd (cc at)
  each_fails [] (suc k) x e at h c = absurd (cc at)
  each_fails (y ∷ xs) zero x e at h c = let same : x ≡ y = cc at in inl (subst (λ (z : X). C z (Some e)) same c)
  each_fails (y ∷ xs) (suc k) x e at h c = inr (h.0, each_fails xs k x e at h.1 c)

-- the edges of one more input
pub edges_more : (vertices : List Vertex) (inputs : List (Input Text)) (k : ℕ) (x : Input Text) (edges : List (ℕ × ℕ)) (edge : ℕ × ℕ)
    → slice_get inputs k ≡ Some x → AreEdges vertices (take k inputs) edges → IsEdge vertices x edge
    → AreEdges vertices (take (k + 1) inputs) (edges ++ edge ∷ [])
edges_more vertices inputs k x edges edge at h is =
    subst (λ (ys : List (Input Text)). AreEdges vertices ys (edges ++ edge ∷ [])) (sym (take_push inputs k x at))
    (AllZip-push (IsEdge vertices) (take k inputs) edges x edge h is)

-- one that is refused answers for all of them
pub each_answers : {X : Type 0} (C : X → Option LoadRefusal → Type 0) (xs : List X) (k : ℕ) (x : X) (e : LoadRefusal) → slice_get xs k ≡ Some x
    → Each C (take k xs) None → (e ≡ OutOfMemory) ⊎ C x (Some e) → (e ≡ OutOfMemory) ⊎ Each C xs (Some e)
each_answers C xs k x e at h c = elim c [ inl memory ↦ inl memory | inr check ↦ inr (each_fails C xs k x e at h check) ]
