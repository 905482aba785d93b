use Rattle.std.proofs.Common.{◌≡◌, ℕ, ◌+◌, Bool, Option, Some, List, [], ◌∷◌, ◌++◌, length, map, take, get_or, sym, ap, ◌∙◌, subst, arith, if◌then◌else◌}
use Rattle.std.specs.List.{AllByRecursion, AllZip, slice_get, Contains}
use Rattle.std.specs.Option.{IfSome}
use Rattle.std.proofs.lemmas.List.{length-map, length-take-le}
use Rattle.std.proofs.lemmas.Option.{slice_get-get_or}
use Rattle.names.specs.declared.digest.Digest.{Digest}
use Rattle.names.specs.Digests.{IsDigest}
use Rattle.ordering.specs.Firsts.{IsTable, places_in}
use Rattle.vertices.specs.declared.vertex.Source.{Source}
use Rattle.vertices.specs.Asked.{Asks}
use Rattle.vertices.specs.Sources.{IsSource, vertex_of}
use Rattle.vertices.specs.Taken.{IsEntry}
use Rattle.vertices.specs.Loading.{digest_in, digests_in, vertex_at}
use Rattle.vertices.proofs.LoadLemmas.{digests_in-more, vertices_more, sources_more, asked_more, digests_more}
use Rattle.vertices.proofs.loading.Loading.add.Goals as goal

pub returns-in_ok-push-2-clause-read : goal.returns-in_ok-push-2-clause-read
returns-in_ok-push-2-clause-read c =
    let loading = c.args.self.now in
    let entries = loading.entries in
    let k = c.args.place in
    let x = get_or entries k [] in
    let read = c.requires.read in
    let at : slice_get entries k ≡ Some x = slice_get-get_or entries k [] (omega (arith, c.requires.place)) in
    let kept : IsEntry k x c.args.entry = subst (λ (o : Option (List ℕ)). IfSome o (λ bytes. IsEntry k bytes c.args.entry)) at c.requires.entry in
    let more = digests_in-more entries k x at in
    let len : length (digests_in (take k entries)) ≡ k = length-map (take k entries) digest_in ∙ length-take-le k entries (omega (arith, c.requires.place)) in
    let table : IsTable (digests_in (take (k + 1) entries)) c.add.new.self =
    subst (λ (ds : List Digest). IsTable ds c.add.new.self) (ap (λ (d : Digest). digests_in (take k entries) ++ d ∷ []) kept.digest ∙ sym more)
    (c.in_ok-add.ensures.table (digests_in (take k entries)) len read.table) in
    let digests : (d : Digest) → Contains (digests_in (take (k + 1) entries)) d → IsDigest d =
    subst (λ (ds : List Digest). (d : Digest) → Contains ds d → IsDigest d) (sym more)
    (digests_more (digests_in (take k entries)) (digest_in x) read.digests (subst IsDigest kept.digest kept.digits)) in
    let places_if : Bool → List ℕ = λ b. if b then places_in loading.table ++ k ∷ [] else places_in loading.table in
    let places : places_in c.add.new.self ≡ places_in loading.table ++ k ∷ [] = c.in_ok-add.ensures.places ∙ ap places_if c.if-branch.true in
    record {
      table = table;
      vertices = ap (map (vertex_of entries)) c.in_ok-push.ensures.items
          ∙ vertices_more entries k x c.args.entry.digest c.args.entry.stripped (places_in loading.table) loading.sources.items at kept.digest read.vertices
          ∙ ap (map (vertex_at entries)) (sym places);
      digests = digests;
      sources = subst (AllByRecursion (IsSource entries)) (sym c.in_ok-push.ensures.items)
          (sources_more entries k x c.args.entry.digest c.args.entry.stripped kept.op loading.sources.items at kept.spelled kept.stripped read.sources);
      asked = subst (λ (ss : List Source). AllZip Asks (map (vertex_of entries) ss) c.push-then-branch.new.self.items) (sym c.in_ok-push.ensures.items)
          (subst (AllZip Asks (map (vertex_of entries) (loading.sources.items ++ (record { place = k; digest = c.args.entry.digest; stripped = c.args.entry.stripped }) ∷ [])))
          (sym c.in_ok-push-2.ensures.items)
          (asked_more entries k x c.args.entry.digest c.args.entry.stripped kept.op loading.sources.items loading.asked.items _ at kept.spelled read.asked kept.asked));
    }

pub returns-else-branch-clause-read : goal.returns-else-branch-clause-read
returns-else-branch-clause-read c =
    let loading = c.args.self.now in
    let entries = loading.entries in
    let k = c.args.place in
    let x = get_or entries k [] in
    let read = c.requires.read in
    let at : slice_get entries k ≡ Some x = slice_get-get_or entries k [] (omega (arith, c.requires.place)) in
    let kept : IsEntry k x c.args.entry = subst (λ (o : Option (List ℕ)). IfSome o (λ bytes. IsEntry k bytes c.args.entry)) at c.requires.entry in
    let more = digests_in-more entries k x at in
    let len : length (digests_in (take k entries)) ≡ k = length-map (take k entries) digest_in ∙ length-take-le k entries (omega (arith, c.requires.place)) in
    let table : IsTable (digests_in (take (k + 1) entries)) c.add.new.self =
    subst (λ (ds : List Digest). IsTable ds c.add.new.self) (ap (λ (d : Digest). digests_in (take k entries) ++ d ∷ []) kept.digest ∙ sym more)
    (c.in_ok-add.ensures.table (digests_in (take k entries)) len read.table) in
    let digests : (d : Digest) → Contains (digests_in (take (k + 1) entries)) d → IsDigest d =
    subst (λ (ds : List Digest). (d : Digest) → Contains ds d → IsDigest d) (sym more)
    (digests_more (digests_in (take k entries)) (digest_in x) read.digests (subst IsDigest kept.digest kept.digits)) in
    let places_if : Bool → List ℕ = λ b. if b then places_in loading.table ++ k ∷ [] else places_in loading.table in
    let places : places_in c.add.new.self ≡ places_in loading.table = c.in_ok-add.ensures.places ∙ ap places_if c.if-branch.false in
    record {
      table = table;
      vertices = read.vertices ∙ ap (map (vertex_at entries)) (sym places);
      digests = digests;
      sources = read.sources;
      asked = read.asked;
    }
