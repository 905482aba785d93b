-- Lists of texts and of vertices, with one more at the end.
use Rattle.std.specs.List.{flat_map, enumerate_from}
use Rattle.std.proofs.lemmas.List.{take_all}
use Rattle.std.proofs.lemmas.List.FromFn.{length-enumerate_from}
use Rattle.std.proofs.Common.{◌≡◌, ℕ, suc, zero, ◌+◌, List, [], ◌∷◌, ◌++◌, take, slice_get, Some, ap, ◌∙◌, sym, append_assoc, append-nil, arith, ◌≤◌, length}
use Rattle.names.specs.declared.digest.Digest.{Digest}
use Rattle.names.specs.declared.digest.Key.{Key}
use Rattle.vertices.specs.declared.vertex.Vertex.{Vertex}
use Rattle.answers.specs.Answers.{key_line, vertex_digests, keys_text}

pub keys_text-more : (ds : List Digest) (ks : List Key) (n : ℕ) (d : Digest) (k : Key) → slice_get ds n ≡ Some d → slice_get ks n ≡ Some k
    → keys_text (take (suc n) ds) (take (suc n) ks) ≡ keys_text (take n ds) (take n ks) ++ key_line d k
keys_text-more [] ks n d k e f = cc
keys_text-more (x ∷ ds) [] n d k e f = cc
keys_text-more (x ∷ ds) (y ∷ ks) zero d k e f =
    let a : x ≡ d = (let s : Some x ≡ Some d = e in cc) in
    let b : y ≡ k = (let s : Some y ≡ Some k = f in cc) in
    append-nil (key_line x y) ∙ ap (λ (z : Digest). key_line z y) a ∙ ap (key_line d) b
keys_text-more (x ∷ ds) (y ∷ ks) (suc n) d k e f =
    ap (λ t. key_line x y ++ t) (keys_text-more ds ks n d k e f) ∙ sym (append_assoc (key_line x y) (keys_text (take n ds) (take n ks)) (key_line d k))

-- the next place as the loop counts it
pub keys_text-next : (ds : List Digest) (ks : List Key) (n : ℕ) (d : Digest) (k : Key) → slice_get ds n ≡ Some d → slice_get ks n ≡ Some k
    → keys_text (take (n + 1) ds) (take (n + 1) ks) ≡ keys_text (take n ds) (take n ks) ++ key_line d k
keys_text-next ds ks n d k e f = let next : n + 1 ≡ suc n = search arith in ap (λ m. keys_text (take m ds) (take m ks)) next ∙ keys_text-more ds ks n d k e f

-- the digests of vertices, with one more at the end
pub vertex_digests-more : (vs : List Vertex) (n : ℕ) (v : Vertex) → slice_get vs n ≡ Some v → vertex_digests (take (suc n) vs) ≡ vertex_digests (take n vs) ++ v.digest ∷ []
vertex_digests-more [] n v e = cc
vertex_digests-more (x ∷ vs) zero v e = let a : x ≡ v = (let s : Some x ≡ Some v = e in cc) in ap (λ (z : Vertex). z.digest ∷ []) a
vertex_digests-more (x ∷ vs) (suc n) v e = ap (λ t. x.digest ∷ t) (vertex_digests-more vs n v e)

-- the same, as the loop counts it
pub vertex_digests-next : (vs : List Vertex) (n : ℕ) (v : Vertex) → slice_get vs n ≡ Some v → vertex_digests (take (n + 1) vs) ≡ vertex_digests (take n vs) ++ v.digest ∷ []
vertex_digests-next vs n v e = let next : n + 1 ≡ suc n = search arith in ap (λ m. vertex_digests (take m vs)) next ∙ vertex_digests-more vs n v e

-- texts one after another, with one more at the end
pub texts-push : (ts : List (List ℕ)) (t : List ℕ) → flat_map (λ (x : List ℕ). x) (ts ++ t ∷ []) ≡ flat_map (λ (x : List ℕ). x) ts ++ t
texts-push [] t = append-nil t
texts-push (x ∷ ts) t = ap (λ (text : List ℕ). x ++ text) (texts-push ts t) ∙ sym (append_assoc x (flat_map (λ (x : List ℕ). x) ts) t)

-- the vertices with their numbers, with one more at the end
numbered-more : (vs : List Vertex) (from n : ℕ) (v : Vertex) → slice_get vs n ≡ Some v
    → take (suc n) (enumerate_from from vs) ≡ take n (enumerate_from from vs) ++ (from + n, v) ∷ []
numbered-more [] from n v e = cc
numbered-more (x ∷ vs) from zero v e =
    let here : x ≡ v = (let s : Some x ≡ Some v = e in cc) in
    let place : from ≡ from + 0 = search arith in
    ap (λ (y : Vertex). (from, y) ∷ []) here ∙ ap (λ (k : ℕ). (k, v) ∷ []) place
numbered-more (x ∷ vs) from (suc n) v e =
    let place : from + 1 + n ≡ from + suc n = search arith in
    ap (λ (rest : List (ℕ × Vertex)). (from, x) ∷ rest) (numbered-more vs (from + 1) n v e)
    ∙ ap (λ (k : ℕ). (from, x) ∷ (take n (enumerate_from (from + 1) vs) ++ (k, v) ∷ [])) place

-- the same, from 0 and as the loop counts it
pub numbered-next : (vs : List Vertex) (n : ℕ) (v : Vertex) → slice_get vs n ≡ Some v
    → take (n + 1) (enumerate_from 0 vs) ≡ take n (enumerate_from 0 vs) ++ (n, v) ∷ []
numbered-next vs n v e =
    let next : n + 1 ≡ suc n = search arith in
    let place : 0 + n ≡ n = search arith in
    ap (λ m. take m (enumerate_from 0 vs)) next ∙ numbered-more vs 0 n v e ∙ ap (λ (k : ℕ). take n (enumerate_from 0 vs) ++ (k, v) ∷ []) place

-- all of them
pub numbered-all : (vs : List Vertex) (n : ℕ) → length vs ≤ n → take n (enumerate_from 0 vs) ≡ enumerate_from 0 vs
numbered-all vs n h = take_all n (enumerate_from 0 vs) (rw (length-enumerate_from 0 vs) h)
