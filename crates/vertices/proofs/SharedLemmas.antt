-- The op of a vertex by the entry that it comes from.
use Rattle.std.proofs.Common.{◌≡◌, ℕ, ◌<◌, List, [], length, map, get_or, Option, Some, Result, Ok, Err, IfSome, IfOk, sym, ap, subst, ◌∙◌, arith}
use Rattle.std.specs.List.{slice_get, slice_range}
use Rattle.std.proofs.lemmas.List.{get_or-map, length-map}
use Rattle.std.proofs.lemmas.Option.{slice_get-get_or, get_or_from_slice_get}
use Rattle.std.specs.Result.{result_unwrap_or}
use Rattle.opsproto.specs.declared.op.Kind.TheVariants.{Bare}
use Rattle.opsproto.specs.declared.refusal.OpRefusal.{OpRefusal}
use Rattle.opsproto.specs.Ops.{OpParts, op_at, op_in, StandsAt}
use Rattle.vertices.specs.declared.vertex.Source.{Source}
use Rattle.vertices.specs.declared.vertex.Vertex.{Vertex}
use Rattle.vertices.specs.Sources.{vertex_of}

-- the vertex of a number has the op of its entry
pub op_of_source : (entries : List (List ℕ)) (sources : List Source) (number : ℕ) (source : Source) (vertex : Vertex) (entry : List ℕ) → number < length sources
    → source ≡ get_or sources number source → slice_get entries source.place ≡ Some entry → slice_get (map (vertex_of entries) sources) number ≡ Some vertex
    → op_in entry ≡ vertex.op
op_of_source entries sources number source vertex entry less is there at =
    let len = length-map sources (vertex_of entries) in
    let here : slice_get (map (vertex_of entries) sources) number ≡ Some (vertex_of entries source) =
    slice_get-get_or (map (vertex_of entries) sources) number (vertex_of entries source) (omega (arith, len))
    ∙ ap (λ (v : Vertex). Some v) (get_or-map (vertex_of entries) sources number source (vertex_of entries source) less ∙ ap (vertex_of entries) (sym is)) in
    let own : get_or entries source.place [] ≡ entry = get_or_from_slice_get entries source.place entry [] there in
    let same : vertex_of entries source ≡ vertex = cc (here, at) in
    ap op_in (sym own) ∙ ap (λ (v : Vertex). v.op) same

-- the op that an entry spells
pub read_is : (entry : List ℕ) (op : OpParts) → op_at entry ≡ Ok op → op ≡ op_in entry
read_is entry op reads = ap (λ (r : Result OpParts OpRefusal). result_unwrap_or r (record { inputs = []; kind = Bare; stripped = [] })) (sym reads)

-- a part of an entry
pub part_is : {E : Type 0} (r : Result (List ℕ) E) (found : Option (List ℕ)) (entry stripped : List ℕ) (start end : ℕ) → found ≡ Some entry
    → IfOk r (λ bytes. IfSome found (λ body. bytes ≡ slice_range body start end)) → StandsAt entry stripped start end → IfOk r (λ bytes. bytes ≡ stripped)
part_is (Ok bytes) found entry stripped start end there h stands = subst (λ (f : Option (List ℕ)). IfSome f (λ body. bytes ≡ slice_range body start end)) there h ∙ stands.is
part_is (Err e) found entry stripped start end there h stands = tt
