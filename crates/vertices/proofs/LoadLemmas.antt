-- Reading the entries of a definition.
use Rattle.std.proofs.Common.{◌≡◌, ℕ, zero, suc, ◌+◌, ◌-◌, ◌<◌, ◌≤◌, ◌⊎◌, inl, inr, List, [], ◌∷◌, ◌++◌, length, map, take, drop, get_or, Option, Some, None, Result, Ok, Err, refl, sym, ap, ◌∙◌, subst, arith}
use Rattle.std.specs.List.{AllByRecursion, AllZip, Contains, slice_get}
use Rattle.std.specs.Option.{IfSome}
use Rattle.std.specs.Result.{result_unwrap_or, IsOk, IfOk}
use Rattle.std.proofs.lemmas.List.{take_at, take_all, drop_more, length-drop, get_or_push, length_push, map_push, get_or-map, length-map, length-take-le, length-take, get_or-take}
use Rattle.std.proofs.lemmas.List.Elements.{Contains-push_cases}
use Rattle.std.proofs.lemmas.Option.{slice_get-get_or, slice_get_within, get_or_from_slice_get}
use Rattle.names.specs.declared.digest.Digest.{Digest}
use Rattle.names.specs.Digests.{IsDigest}
use Rattle.opsproto.specs.Ops.{OpParts, op_at, op_in}
use Rattle.opsproto.specs.declared.op.Kind.TheVariants.{Bare}
use Rattle.lists.proofs.Places.{take_push, Contains-at, at_Contains, get_push_end, AllZip-push}
use Rattle.ordering.specs.declared.table.Table.{Table}
use Rattle.ordering.specs.Firsts.{IsTable, number_in, places_in}
use Rattle.ordering.proofs.TableLemmas.{first_once}
use Rattle.vertices.specs.declared.vertex.Vertex.{Vertex}
use Rattle.vertices.specs.declared.refusal.LoadRefusal.{LoadRefusal}
use Rattle.vertices.specs.declared.refusal.LoadRefusal.TheVariants.{OutOfMemory}
use Rattle.vertices.specs.declared.unresolved.Asked.{Asked}
use Rattle.vertices.specs.declared.vertex.Source.{Source}
use Rattle.vertices.specs.Asked.{Asks}
use Rattle.vertices.specs.Sources.{IsSource, vertex_of}
use Rattle.vertices.specs.declared.loading.Loading.{Loading}
use Rattle.vertices.specs.Outcomes.{Meets}
use Rattle.vertices.specs.Edges.{Numbers, IsEdge}
use Rattle.opsproto.specs.declared.refusal.OpRefusal.{OpRefusal}
use Rattle.opsproto.specs.declared.input.Input.{Input}
use Rattle.opsproto.specs.Scalars.{Text}
use Rattle.vertices.specs.Loading.{GraphParts, IsGraph, IsGraphOf, front, last_of, GraphCheck, VerticesCheck, DefinitionCheck, digest_in, digests_in, vertex_at, AreVertices, ReadCheck, ReadChecks}
use Rattle.vertices.specs.Loaded.{IsLoaded, IsReadTo, vertices_in}

-- ---- checks of entries by place

reads_push : (place : ℕ) (entries : List (List ℕ)) (x : List ℕ) → ReadChecks place entries None → ReadCheck (place + length entries) x None
    → ReadChecks place (entries ++ x ∷ []) None
reads_push place [] x h c = (subst (λ (p : ℕ). ReadCheck p x None) (let same : place + 0 ≡ place = omega arith in same) c, tt)
reads_push place (e ∷ entries) x h c =
    (h.0, reads_push (place + 1) entries x h.1 (subst (λ (p : ℕ). ReadCheck p x None) (let same : place + suc (length entries) ≡ place + 1 + length entries = omega arith in same) c))

-- one more that is read
pub reads_more : (entries : List (List ℕ)) (k : ℕ) (x : List ℕ) → slice_get entries k ≡ Some x → ReadChecks 0 (take k entries) None → ReadCheck k x None
    → ReadChecks 0 (take (k + 1) entries) None
reads_more entries k x at h c =
    let len : length (take k entries) ≡ k = length-take-le k entries (let w = slice_get_within entries k x at in omega arith) in
    subst (λ (ys : List (List ℕ)). ReadChecks 0 ys None) (sym (take_push entries k x at))
    (reads_push 0 (take k entries) x h (subst (λ (p : ℕ). ReadCheck p x None) (let same : k ≡ 0 + length (take k entries) = omega arith in same) c))

reads_fails_from : (place : ℕ) (entries : List (List ℕ)) (k : ℕ) (x : List ℕ) (e : LoadRefusal) → slice_get entries k ≡ Some x
    → ReadChecks place (take k entries) None → ReadCheck (place + k) x (Some e) → ReadChecks place entries (Some e)
reads_fails_from place [] zero x e at h c = absurd (cc at)
reads_fails_from place [] (suc k) x e at h c = absurd (cc at)
reads_fails_from place (y ∷ entries) zero x e at h c =
    let same : x ≡ y = cc at in
    inl (subst (λ (z : List ℕ). ReadCheck place z (Some e)) same (subst (λ (p : ℕ). ReadCheck p x (Some e)) (let here : place + 0 ≡ place = omega arith in here) c))
reads_fails_from place (y ∷ entries) (suc k) x e at h c =
    inr (h.0, reads_fails_from (place + 1) entries k x e at h.1 (subst (λ (p : ℕ). ReadCheck p x (Some e)) (let here : place + suc k ≡ place + 1 + k = omega arith in here) c))

-- one that isn't, where those before it are
pub reads_fails : (entries : List (List ℕ)) (k : ℕ) (x : List ℕ) (e : LoadRefusal) → slice_get entries k ≡ Some x
    → ReadChecks 0 (take k entries) None → ReadCheck k x (Some e) → ReadChecks 0 entries (Some e)
reads_fails entries k x e at h c = reads_fails_from 0 entries k x e at h (subst (λ (p : ℕ). ReadCheck p x (Some e)) (let same : k ≡ 0 + k = omega arith in same) c)

-- ---- vertices

-- the digests of some more entries
pub digests_in-more : (entries : List (List ℕ)) (k : ℕ) (x : List ℕ) → slice_get entries k ≡ Some x
    → digests_in (take (k + 1) entries) ≡ digests_in (take k entries) ++ digest_in x ∷ []
digests_in-more entries k x at = ap digests_in (take_push entries k x at) ∙ map_push digest_in (take k entries) x

-- the op of an entry
pub op_of_entry : (entries : List (List ℕ)) (k : ℕ) (x : List ℕ) (op : OpParts) → slice_get entries k ≡ Some x → op_at x ≡ Ok op → op_in (get_or entries k []) ≡ op
op_of_entry entries k x op at is =
    ap op_in (get_or_from_slice_get entries k x [] at) ∙ ap (λ (r : Result OpParts _). result_unwrap_or r (record { inputs = []; kind = Bare; stripped = [] })) is

-- one more vertex, where its digest is new
pub vertices_more : (entries : List (List ℕ)) (k : ℕ) (x : List ℕ) (digest stripped : Digest) (places : List ℕ) (sources : List Source)
    → slice_get entries k ≡ Some x → digest ≡ digest_in x → map (vertex_of entries) sources ≡ map (vertex_at entries) places
    → map (vertex_of entries) (sources ++ (record { place = k; digest = digest; stripped = stripped }) ∷ []) ≡ map (vertex_at entries) (places ++ k ∷ [])
vertices_more entries k x digest stripped places sources at is h =
    let source : Source = record { place = k; digest = digest; stripped = stripped } in
    let own : digest ≡ digest_in (get_or entries k []) = is ∙ ap digest_in (sym (get_or_from_slice_get entries k x [] at)) in
    let same : vertex_of entries source ≡ vertex_at entries k
    = ap (λ (d : Digest). let v : Vertex = record { place = k; digest = d; op = op_in (get_or entries k []) } in v) own in
    map_push (vertex_of entries) sources source
    ∙ ap (λ (vs : List Vertex). vs ++ vertex_of entries source ∷ []) h
    ∙ ap (λ (v : Vertex). map (vertex_at entries) places ++ v ∷ []) same
    ∙ sym (map_push (vertex_at entries) places k)

all_push : {X : Type 0} (P : X → Type 0) (xs : List X) (x : X) → AllByRecursion P xs → P x → AllByRecursion P (xs ++ x ∷ [])
all_push P [] x h p = (p, tt)
all_push P (y ∷ xs) x h p = (h.0, all_push P xs x h.1 p)

pub sources_more : (entries : List (List ℕ)) (k : ℕ) (x : List ℕ) (digest stripped : Digest) (op : OpParts) (sources : List Source)
    → slice_get entries k ≡ Some x → op_at x ≡ Ok op → stripped ≡ digest_in op.stripped → AllByRecursion (IsSource entries) sources
    → AllByRecursion (IsSource entries) (sources ++ (record { place = k; digest = digest; stripped = stripped }) ∷ [])
sources_more entries k x digest stripped op sources at is own h =
    all_push (IsSource entries) sources (record { place = k; digest = digest; stripped = stripped }) h (record {
      within = slice_get_within entries k x at;
      is_op = subst (λ (b : List ℕ). IsOk (op_at b)) (sym (get_or_from_slice_get entries k x [] at)) (subst (λ (r : Result OpParts _). IsOk r) (sym is) refl);
      stripped = own ∙ ap (λ (o : OpParts). digest_in o.stripped) (sym (op_of_entry entries k x op at is));
    })

pub asked_more : (entries : List (List ℕ)) (k : ℕ) (x : List ℕ) (digest stripped : Digest) (op : OpParts) (sources : List Source) (asked : List Asked) (one : Asked)
    → slice_get entries k ≡ Some x → op_at x ≡ Ok op → AllZip Asks (map (vertex_of entries) sources) asked
    → ((vertex : Vertex) → vertex.place ≡ k → vertex.op ≡ op → Asks vertex one)
    → AllZip Asks (map (vertex_of entries) (sources ++ (record { place = k; digest = digest; stripped = stripped }) ∷ [])) (asked ++ one ∷ [])
asked_more entries k x digest stripped op sources asked one at is h asks =
    let source : Source = record { place = k; digest = digest; stripped = stripped } in
    subst (λ (vs : List Vertex). AllZip Asks vs (asked ++ one ∷ [])) (sym (map_push (vertex_of entries) sources source))
    (AllZip-push Asks (map (vertex_of entries) sources) asked (vertex_of entries source) one h (asks (vertex_of entries source) refl (op_of_entry entries k x op at is)))

-- the last entry, and those in front of it
pub last_split : (def : List (List ℕ)) (place : ℕ) (x : List ℕ) → 1 ≤ length def → place ≡ length def - 1 → slice_get def place ≡ Some x
    → (def ≡ take place def ++ x ∷ []) × (length (take place def) ≡ place)
last_split def place x some is at =
    (sym (take_all (place + 1) def (omega arith)) ∙ take_push def place x at, length-take-le place def (omega arith))

pub has_last : (def : List (List ℕ)) (place : ℕ) → 1 ≤ length def → place ≡ length def - 1 → slice_get def place ≡ Some (get_or def place [])
has_last def place some is = slice_get-get_or def place [] (omega arith)

-- ---- the entries in front

pub in_front : {X : Type 0} (xs : List X) (count k : ℕ) (x : X) → slice_get xs k ≡ Some x → k < count → slice_get (take count xs) k ≡ Some x
in_front [] count k x e less = absurd (cc e)
in_front (y ∷ xs) zero k x e less = absurd (omega arith)
in_front (y ∷ xs) (suc count) zero x e less = e
in_front (y ∷ xs) (suc count) (suc k) x e less = in_front xs count k x e (omega arith)

map_same : {X : Type 0} (f g : ℕ → X) (ps : List ℕ) → ((n p : ℕ) → slice_get ps n ≡ Some p → f p ≡ g p) → map f ps ≡ map g ps
map_same f g [] h = refl
map_same f g (p ∷ ps) h = ap (λ (x : _). x ∷ map f ps) (h 0 p refl) ∙ ap (λ (xs : List _). g p ∷ xs) (map_same f g ps (λ n q e. h (suc n) q e))

-- the vertices of the entries in front
pub vertices_front : (entries : List (List ℕ)) (count : ℕ) (table : Table) → IsTable (digests_in (take count entries)) table
    → map (vertex_at entries) (places_in table) ≡ map (vertex_at (take count entries)) (places_in table)
vertices_front entries count table h =
    map_same (vertex_at entries) (vertex_at (take count entries)) (places_in table) (λ n p e.
    let f = h.vertex n p e in
    let within = slice_get_within (digests_in (take count entries)) p f.0 f.1.there in
    let len = length-map (take count entries) digest_in in
    let most = length-take count entries in
    let less : p < count = omega (arith, within, len, most) in
    ap (λ (b : List ℕ). let v : Vertex = record { place = p; digest = digest_in b; op = op_in b } in v) (sym (get_or-take count entries p [] less)))

-- what the entries in front of a place leave, if no more are to be read
pub loaded_of : (place : ℕ) (loading : Loading) → IsReadTo place loading → IsLoaded (take place loading.entries) loading
loaded_of place loading h = record {
  table = h.table;
  vertices = h.vertices ∙ vertices_front loading.entries place loading.table h.table;
  digests = h.digests;
  sources = h.sources;
  asked = h.asked;
}

-- the digests are digests
pub digests_more : (digests : List Digest) (x : Digest) → ((d : Digest) → Contains digests d → IsDigest d) → IsDigest x
    → (d : Digest) → Contains (digests ++ x ∷ []) d → IsDigest d
digests_more digests x all is d c = elim (Contains-push_cases digests x d c) [ inl old ↦ all d old | inr same ↦ subst IsDigest same is ]

-- the vertex of a number
vertex_of_number : (entries : List (List ℕ)) (loading : Loading) (number place : ℕ) → IsLoaded entries loading
    → slice_get (places_in loading.table) number ≡ Some place → slice_get (vertices_in loading) number ≡ Some (vertex_at entries place)
vertex_of_number entries loading number place h at =
    let within = slice_get_within (places_in loading.table) number place at in
    let value = get_or_from_slice_get (places_in loading.table) number place place at in
    ap (λ (vs : List Vertex). slice_get vs number) h.vertices
    ∙ slice_get-get_or (map (vertex_at entries) (places_in loading.table)) number (vertex_at entries place) (omega (arith, length-map (places_in loading.table) (vertex_at entries)))
    ∙ ap (λ (v : Vertex). Some v) (get_or-map (vertex_at entries) (places_in loading.table) number place (vertex_at entries place) within ∙ ap (vertex_at entries) value)

-- the digest at a place
digest_at_place : (entries : List (List ℕ)) (place : ℕ) (d : Digest) → slice_get (digests_in entries) place ≡ Some d → (vertex_at entries place).digest ≡ d
digest_at_place [] zero d e = absurd (cc e)
digest_at_place [] (suc place) d e = absurd (cc e)
digest_at_place (x ∷ entries) zero d e = cc e
digest_at_place (x ∷ entries) (suc place) d e = digest_at_place entries place d e

-- the table finds the numbers of the vertices
pub loaded_numbers : (entries : List (List ℕ)) (loading : Loading) → IsLoaded entries loading → Numbers (digests_in entries) (vertices_in loading) loading.table
loaded_numbers entries loading h = record {
  found = λ d n e.
      let f = h.table.found d n e in
      (vertex_at entries f.0, vertex_of_number entries loading n f.0 h f.1, digest_at_place entries f.0 d f.2.there);
  listed = λ d n e. let f = h.table.found d n e in Contains-at (digests_in entries) f.0 d f.2.there;
  missing = λ d none c. let there = at_Contains (digests_in entries) d c in h.table.missing d there.0 none there.1;
  are_digests = h.digests;
  numbered = λ n v at.
      let len : length (vertices_in loading) ≡ length (places_in loading.table) = ap length h.vertices ∙ length-map (places_in loading.table) (vertex_at entries) in
      let within = slice_get_within (vertices_in loading) n v at in
      let p = get_or (places_in loading.table) n 0 in
      let here : slice_get (places_in loading.table) n ≡ Some p = slice_get-get_or (places_in loading.table) n 0 (omega arith) in
      let f = h.table.vertex n p here in
      let same : vertex_at entries p ≡ v = let a = vertex_of_number entries loading n p h here in cc (a, at) in
      ap (number_in loading.table) (ap (λ (x : Vertex). x.digest) (sym same) ∙ digest_at_place entries p f.0 f.1.there) ∙ f.2;
}

-- they are the vertices of the entries
pub loaded_vertices : (entries : List (List ℕ)) (loading : Loading) → IsLoaded entries loading → AreVertices entries (vertices_in loading)
loaded_vertices entries loading h = record {
  places = places_in loading.table;
  firsts = record {
    first = λ p c. let there = at_Contains (places_in loading.table) p c in let f = h.table.vertex there.0 p there.1 in (f.0, f.1);
    whole = λ p d first.
        let case : (n : Option ℕ) → number_in loading.table d ≡ n → Contains (places_in loading.table) p
        = λ n. elim n as (λ m. number_in loading.table d ≡ m → Contains (places_in loading.table) p) [
          | None ↦ λ e. absurd (h.table.missing d p e first.there)
          | Some number ↦ λ e.
              let f = h.table.found d number e in
              subst (Contains (places_in loading.table)) (first_once (digests_in entries) f.0 p d f.2 first) (Contains-at (places_in loading.table) number f.0 f.1)
        ] in
        case (number_in loading.table d) refl;
    rising = h.table.rising;
  };
  vertices_are = h.vertices;
}

-- an entry that isn't read answers for all of them
pub entry_answers : (entries : List (List ℕ)) (k : ℕ) (x : List ℕ) (e : LoadRefusal) → slice_get entries k ≡ Some x
    → ReadChecks 0 (take k entries) None → (e ≡ OutOfMemory) ⊎ ReadCheck k x (Some e) → (e ≡ OutOfMemory) ⊎ ReadChecks 0 entries (Some e)
entry_answers entries k x e at h c = elim c [ inl memory ↦ inl memory | inr check ↦ inr (reads_fails entries k x e at h check) ]

-- ---- a definition: entries, and the last

front-push : (entries : List (List ℕ)) (last : List ℕ) → front (entries ++ last ∷ []) ≡ entries
front-push entries last =
    let len = length_push entries last in
    let n : length (entries ++ last ∷ []) - 1 ≡ length entries = omega arith in
    ap (λ (k : ℕ). take k (entries ++ last ∷ [])) n ∙ take_at entries (last ∷ []) (length entries) refl

last_of-push : (entries : List (List ℕ)) (last : List ℕ) → last_of (entries ++ last ∷ []) ≡ last
last_of-push entries last =
    let len = length_push entries last in
    get_or_push entries last [] (length (entries ++ last ∷ []) - 1) (omega arith)

-- one that isn't read, among some entries
reads_fail_left : (place : ℕ) (entries : List (List ℕ)) (last : List ℕ) (e : LoadRefusal) → ReadChecks place entries (Some e) → ReadChecks place (entries ++ last ∷ []) (Some e)
reads_fail_left place [] last e h = absurd h
reads_fail_left place (x ∷ entries) last e h = elim h [ inl here ↦ inl here | inr (c, rest) ↦ inr (c, reads_fail_left (place + 1) entries last e rest) ]

has_entry : (entries : List (List ℕ)) (last : List ℕ) → 0 < length (entries ++ last ∷ [])
has_entry entries last = let len = length_push entries last in omega arith

-- the definition, where an entry but the last isn't read
pub entries_refused : (entries : List (List ℕ)) (last : List ℕ) (def : List (List ℕ)) (e : LoadRefusal) → def ≡ entries ++ last ∷ []
    → (e ≡ OutOfMemory) ⊎ ReadChecks 0 entries (Some e) → (e ≡ OutOfMemory) ⊎ DefinitionCheck def (Some e)
entries_refused entries last def e is h =
    subst (λ (d : List (List ℕ)). (e ≡ OutOfMemory) ⊎ DefinitionCheck d (Some e)) (sym is) (elim h [
      | inl memory ↦ inl memory
      | inr check ↦ inr (inr (has_entry entries last, inl (reads_fail_left 0 entries last e check)))
    ])

-- where the last isn't
pub last_refused : (entries : List (List ℕ)) (last : List ℕ) (def : List (List ℕ)) (e : LoadRefusal) → def ≡ entries ++ last ∷ []
    → ReadChecks 0 entries None → (e ≡ OutOfMemory) ⊎ ReadCheck (length entries) last (Some e) → (e ≡ OutOfMemory) ⊎ DefinitionCheck def (Some e)
last_refused entries last def e is reads h =
    subst (λ (d : List (List ℕ)). (e ≡ OutOfMemory) ⊎ DefinitionCheck d (Some e)) (sym is) (elim h [
      | inl memory ↦ inl memory
      | inr check ↦ inr (inr (
        has_entry entries last,
        inl (reads_fails (entries ++ last ∷ []) (length entries) last e (get_push_end entries last)
            (subst (λ (es : List (List ℕ)). ReadChecks 0 es None) (sym (take_at entries (last ∷ []) (length entries) refl)) reads) check),
      ))
    ])

-- the vertices of a definition
pub definition_vertices : (entries : List (List ℕ)) (last : List ℕ) (def : List (List ℕ)) (vertices : List Vertex) → def ≡ entries ++ last ∷ []
    → AreVertices entries vertices → AreVertices (front def) vertices
definition_vertices entries last def vertices is h = subst (λ (es : List (List ℕ)). AreVertices es vertices) (sym (ap front is ∙ front-push entries last)) h

-- the inputs of its last entry
pub definition_last : (entries : List (List ℕ)) (last : List ℕ) (def : List (List ℕ)) (op : OpParts) → def ≡ entries ++ last ∷ [] → op_at last ≡ Ok op
    → (op_in (last_of def)).inputs ≡ op.inputs
definition_last entries last def op is reads =
    ap (λ (bytes : List ℕ). (op_in bytes).inputs) (ap last_of is ∙ last_of-push entries last)
    ∙ ap (λ (r : Result OpParts OpRefusal). (result_unwrap_or r (record { inputs = []; kind = Bare; stripped = [] })).inputs) reads

-- the last check of a definition
then_last : (given : Option LoadRefusal) (def : List (List ℕ)) → 0 < length def → ReadChecks 0 def None → VerticesCheck def given → DefinitionCheck def given
then_last None def some all h = (some, (all, h))
then_last (Some e) def some all h = inr (some, inr (all, h))

-- what the graph of the vertices answers, the definition does
pub graph_answers : (entries : List (List ℕ)) (last : List ℕ) (def : List (List ℕ)) (op : OpParts) (vertices : List Vertex) (given : Option LoadRefusal)
    → def ≡ entries ++ last ∷ [] → ReadChecks 0 entries None → op_at last ≡ Ok op → AreVertices entries vertices
    → GraphCheck (digests_in entries) (length entries) vertices op.inputs given → DefinitionCheck def given
graph_answers entries last def op vertices given is reads read are h =
    let all : ReadChecks 0 def None = subst (λ (d : List (List ℕ)). ReadChecks 0 d None) (sym is)
    (reads_push 0 entries last reads (subst (λ (r : Result OpParts OpRefusal). IsOk r) (sym read) refl)) in
    let some : 0 < length def = subst (λ (d : List (List ℕ)). 0 < length d) (sym is) (has_entry entries last) in
    let front_is : front def ≡ entries = ap front is ∙ front-push entries last in
    let checked : GraphCheck (digests_in (front def)) (length (front def)) vertices (op_in (last_of def)).inputs given
    = subst (λ (es : List (List ℕ)). GraphCheck (digests_in es) (length es) vertices (op_in (last_of def)).inputs given) (sym front_is)
    (subst (λ (inputs : List (Input Text)). GraphCheck (digests_in entries) (length entries) vertices inputs given) (sym (definition_last entries last def op is read)) h) in
    then_last given def some all (vertices, definition_vertices entries last def vertices is are, checked)

-- what a call answers to one check it answers to one that follows from it
pub answers_weaker : {X : Type 0} (C D : Option LoadRefusal → Type 0) (r : Result X LoadRefusal) → ((given : Option LoadRefusal) → C given → D given) → Meets C r → Meets D r
answers_weaker C D (Ok x) f h = f None h
answers_weaker C D (Err e) f h = elim h [ inl memory ↦ inl memory | inr check ↦ inr (f (Some e) check) ]

-- the graph of a definition
pub graph_is : (def : List (List ℕ)) (vertices : List Vertex) (inputs : List (Input Text)) (r : Result GraphParts LoadRefusal)
    → AreVertices (front def) vertices → (op_in (last_of def)).inputs ≡ inputs → IfOk r (λ g. g.vertices ≡ vertices) → IfOk r IsGraph
    → IfOk r (λ g. IfSome (slice_get inputs 0) (λ input. IsEdge vertices input g.result)) → IfOk r (IsGraphOf def)
graph_is def vertices inputs (Ok g) are last is graph result = record {
  graph = graph;
  vertices = subst (AreVertices (front def)) (sym is) are;
  result = subst (λ (xs : List (Input Text)). IfSome (slice_get xs 0) (λ input. IsEdge g.vertices input g.result)) (sym last)
      (subst (λ (vs : List Vertex). IfSome (slice_get inputs 0) (λ input. IsEdge vs input g.result)) (sym is) result);
}
graph_is def vertices inputs (Err e) are last is graph result = tt

-- ---- entries that are left

-- the first of those left, and those behind it
pub first_left : (xs : List (List ℕ)) (k : ℕ) (x : List ℕ) (ys : List (List ℕ)) → drop k xs ≡ x ∷ ys
    → (slice_get xs k ≡ Some x) × (drop (k + 1) xs ≡ ys) × (k < length xs)
first_left xs k x ys e =
    let len = ap length e in
    let count = length-drop k xs in
    let less : k < length xs = omega arith in
    let both = drop_more xs k x less in
    let first : get_or xs k x ≡ x = cc (e, both) in
    let others : drop (k + 1) xs ≡ ys = cc (e, both) in
    (slice_get-get_or xs k x less ∙ ap (λ (y : List ℕ). Some y) first, others, less)

-- none is left
pub none_left : (xs : List (List ℕ)) (k : ℕ) → drop k xs ≡ [] → take k xs ≡ xs
none_left xs k e =
    let len = ap length e in
    let count = length-drop k xs in
    take_all k xs (omega arith)
