-- What the table of the digests says of entries.
use Rattle.std.proofs.Common.{◌≡◌, ℕ, zero, suc, ◌+◌, ◌<◌, inl, inr, List, [], ◌∷◌, ◌++◌, length, take, get_or, Option, Some, None, Result, Ok, Err, refl, sym, ap, ◌∙◌, subst, arith}
use Rattle.std.specs.Option.{IfSome, IfNone}
use Rattle.std.specs.Result.{IfOk}
use Rattle.std.specs.List.{Contains, slice_get}
use Rattle.std.specs.declared.vec.Vec.{Vec}
use Rattle.std.specs.declared.alloc.Global.{Global}
use Rattle.std.proofs.lemmas.Bool.{cases_lt}
use Rattle.std.proofs.lemmas.List.{map_push, length_push}
use Rattle.std.proofs.lemmas.Option.{slice_get-get_or, slice_get_within, get_or_from_slice_get}
use Rattle.names.specs.declared.digest.Digest.{Digest}
use Rattle.lists.proofs.Places.{Contains-at, at_Contains, take_push, get_push_cases, get_push_left, get_push_end}
use Rattle.ordering.specs.Rows.{row_at, AreRows, HasInput}
use Rattle.ordering.specs.Orders.{IsReady, IsOrder, Walk, IsCyclic}
use Rattle.ordering.specs.declared.table.Table.{Table}
use Rattle.ordering.specs.Firsts.{IsFirstAt, IsTable, number_in}
use Rattle.ordering.specs.Entries.{Entry, digests_of, named_at, IsVertex, NamesInput, LacksInput, AreResolved, HasUnknown, IsRowOf, AreRowsOf}
use Rattle.ordering.proofs.RowLemmas.{row_within}
use Rattle.ordering.proofs.TableLemmas.{first_once}

-- the digest of an entry
pub digest_at : (entries : List Entry) (place : ℕ) (entry : Entry) → slice_get entries place ≡ Some entry → slice_get (digests_of entries) place ≡ Some entry.0
digest_at [] zero entry e = absurd (cc e)
digest_at [] (suc place) entry e = absurd (cc e)
digest_at (x ∷ entries) zero entry e = let same : x ≡ entry = cc e in ap (λ (y : Entry). Some y.0) same
digest_at (x ∷ entries) (suc place) entry e = digest_at entries place entry e

-- what it names
pub named_of : (entries : List Entry) (place : ℕ) (entry : Entry) → slice_get entries place ≡ Some entry → named_at entries place ≡ entry.1.items
named_of [] zero entry e = absurd (cc e)
named_of [] (suc place) entry e = absurd (cc e)
named_of (x ∷ entries) zero entry e = let same : x ≡ entry = cc e in ap (λ (y : Entry). y.1.items) same
named_of (x ∷ entries) (suc place) entry e = named_of entries place entry e

-- the digests of some more entries
pub digests_more : (entries : List Entry) (k : ℕ) (entry : Entry) → slice_get entries k ≡ Some entry
    → digests_of (take (k + 1) entries) ≡ digests_of (take k entries) ++ entry.0 ∷ []
digests_more entries k entry e = ap digests_of (take_push entries k entry e) ∙ map_push (λ (x : Entry). x.0) (take k entries) entry

pub length-digests_of : (entries : List Entry) → length (digests_of entries) ≡ length entries
length-digests_of [] = refl
length-digests_of (x ∷ entries) = ap suc (length-digests_of entries)

-- ---- inputs that are resolved

-- one more input
pub resolved_more : (digests inputs : List Digest) (row : List ℕ) (k place : ℕ) (digest : Digest) → slice_get inputs k ≡ Some digest
    → IsFirstAt digests place digest → AreResolved digests (take k inputs) row → AreResolved digests (take (k + 1) inputs) (row ++ place ∷ [])
resolved_more digests inputs row k place digest at first h =
    let within = slice_get_within inputs k digest at in
    let more = take_push inputs k digest at in
    let a = length_push row place in
    let b = length_push (take k inputs) digest in
    let c = h.count in
    subst (λ (xs : List Digest). AreResolved digests xs (row ++ place ∷ [])) (sym more) (record {
      count = a ∙ ap (λ (n : ℕ). n + 1) c ∙ sym b;
      each = λ j d e. elim (get_push_cases (take k inputs) digest j d e) [
        | inl old ↦ let f = h.each j d old.1 in (f.0, get_push_left row place j f.0 f.1, f.2)
        | inr end ↦
            let at_end : slice_get (row ++ place ∷ []) j ≡ Some place
            = ap (λ (n : ℕ). slice_get (row ++ place ∷ []) n) (end.0 ∙ sym c) ∙ get_push_end row place in
            (place, at_end, subst (λ (x : Digest). IsFirstAt digests place x) end.1 first)
      ];
    })

-- the row of a vertex has exactly the inputs that it names
pub resolved_row : (entries : List Entry) (place : ℕ) (entry : Entry) (row : List ℕ) → slice_get entries place ≡ Some entry
    → IsFirstAt (digests_of entries) place entry.0 → AreResolved (digests_of entries) entry.1.items row → IsRowOf entries place row
resolved_row entries place entry row at first h =
    let names = named_of entries place entry at in
    let vertex : IsVertex entries place = record { digest = entry.0; first = first } in
    record {
      sound = λ input (k, lt, is).
          let within : k < length entry.1.items = let c = h.count in omega arith in
          let d = get_or entry.1.items k entry.0 in
          let at_k : slice_get entry.1.items k ≡ Some d = slice_get-get_or entry.1.items k entry.0 within in
          let f = h.each k d at_k in
          let same : f.0 ≡ input = sym (get_or_from_slice_get row k f.0 input f.1) ∙ is in
          record {
            vertex = vertex;
            digest = d;
            named = subst (λ (xs : List Digest). Contains xs d) (sym names) (Contains-at entry.1.items k d at_k);
            first = subst (λ (q : ℕ). IsFirstAt (digests_of entries) q d) same f.2;
          };
      whole = λ input n.
          let there = at_Contains entry.1.items n.digest (subst (λ (xs : List Digest). Contains xs n.digest) names n.named) in
          let f = h.each there.0 n.digest there.1 in
          subst (λ (q : ℕ). Contains row q) (first_once (digests_of entries) f.0 input n.digest f.2 n.first) (Contains-at row there.0 f.0 f.1);
    }

-- an entry that isn't the first with its digest is not a vertex
pub no_vertex : (entries : List Entry) (place first : ℕ) (entry : Entry) → slice_get entries place ≡ Some entry
    → IsFirstAt (digests_of entries) first entry.0 → (first ≡ place → ⊥) → IsVertex entries place → ⊥
no_vertex entries place first entry at is apart vertex =
    let same : vertex.digest ≡ entry.0 = let a = vertex.first.there in let b = digest_at entries place entry at in cc in
    apart (first_once (digests_of entries) first place entry.0 is (subst (λ (d : Digest). IsFirstAt (digests_of entries) place d) same vertex.first))

-- so it names nothing
pub no_row : (entries : List Entry) (place : ℕ) → (IsVertex entries place → ⊥) → IsRowOf entries place []
no_row entries place none = record {
  sound = λ input (k, lt, is). absurd (omega arith);
  whole = λ input n. absurd (none n.vertex);
}

-- a vertex with an unknown input
pub lacks : (entries : List Entry) (place : ℕ) (entry : Entry) → slice_get entries place ≡ Some entry
    → IsFirstAt (digests_of entries) place entry.0 → HasUnknown (digests_of entries) entry.1.items → LacksInput entries place
lacks entries place entry at first h = record {
  vertex = record { digest = entry.0; first = first };
  digest = h.digest;
  named = subst (λ (xs : List Digest). Contains xs h.digest) (sym (named_of entries place entry at)) h.named;
  missing = h.missing;
}

-- where all inputs are resolved none is unknown
pub resolved_known : (entries : List Entry) (place : ℕ) → LacksInput entries place → (row : List ℕ) → AreResolved (digests_of entries) (named_at entries place) row → ⊥
resolved_known entries place l row h =
    let there = at_Contains (named_at entries place) l.digest l.named in
    let f = h.each there.0 l.digest there.1 in
    l.missing f.0 f.2.there

-- ---- the rows of all entries

row_at-push_left : (rows : List (Vec ℕ Global)) (row : Vec ℕ Global) (place : ℕ) → place < length rows → row_at (rows ++ row ∷ []) place ≡ row_at rows place
row_at-push_left [] row place h = absurd (omega arith)
row_at-push_left (r ∷ rows) row zero h = refl
row_at-push_left (r ∷ rows) row (suc place) h = row_at-push_left rows row place (omega arith)

row_at-push_end : (rows : List (Vec ℕ Global)) (row : Vec ℕ Global) → row_at (rows ++ row ∷ []) (length rows) ≡ row.items
row_at-push_end [] row = refl
row_at-push_end (r ∷ rows) row = row_at-push_end rows row

-- one more row
pub rows_more : (entries : List Entry) (place : ℕ) (rows new : List (Vec ℕ Global)) (row : Vec ℕ Global) → new ≡ rows ++ row ∷ []
    → IsRowOf entries place row.items → (LacksInput entries place → ⊥) → AreRowsOf entries place rows → AreRowsOf entries (place + 1) new
rows_more entries place rows new row is fits known h =
    let len = h.length_is in
    let both = length_push rows row in
    record {
      length_is = ap length is ∙ both ∙ ap (λ (n : ℕ). n + 1) len;
      each = λ p less. elim (cases_lt p place) [
        | inl old ↦
            let same : row_at new p ≡ row_at rows p = ap (λ (xs : List (Vec ℕ Global)). row_at xs p) is ∙ row_at-push_left rows row p (omega arith) in
            subst (IsRowOf entries p) (sym same) (h.each p old)
        | inr more ↦
            let here : p ≡ place = omega arith in
            let end : p ≡ length rows = omega arith in
            let same : row_at new p ≡ row.items = ap (λ (xs : List (Vec ℕ Global)). row_at xs p) is ∙ ap (row_at (rows ++ row ∷ [])) end ∙ row_at-push_end rows row in
            subst (IsRowOf entries p) (sym same) (subst (λ (q : ℕ). IsRowOf entries q row.items) (sym here) fits)
      ];
      none_lacks = λ p less l. elim (cases_lt p place) [
        | inl old ↦ h.none_lacks p old l
        | inr more ↦ let here : p ≡ place = omega arith in known (subst (LacksInput entries) here l)
      ];
    }

-- a vertex is an entry
vertex_within : (entries : List Entry) (place : ℕ) → IsVertex entries place → place < length entries
vertex_within entries place v = let h = slice_get_within (digests_of entries) place v.digest v.first.there in let e = length-digests_of entries in omega arith

-- the vertices are the places of the table
pub vertex_in_table : (entries : List Entry) (table : Table) → IsTable (digests_of entries) table → (place : ℕ) → IsVertex entries place → Contains table.places.items place
vertex_in_table entries table is place v =
    let case : (n : Option ℕ) → number_in table v.digest ≡ n → Contains table.places.items place
    = λ n. elim n as (λ m. number_in table v.digest ≡ m → Contains table.places.items place) [
      | None ↦ λ e. absurd (is.missing v.digest place e v.first.there)
      | Some number ↦ λ e.
          let f = is.found v.digest number e in
          subst (Contains table.places.items) (first_once (digests_of entries) f.0 place v.digest f.2 v.first) (Contains-at table.places.items number f.0 f.1)
    ] in
    case (number_in table v.digest) refl

pub table_has_vertex : (entries : List Entry) (table : Table) → IsTable (digests_of entries) table → (place : ℕ) → Contains table.places.items place → IsVertex entries place
table_has_vertex entries table is place c =
    let there = at_Contains table.places.items place c in
    let f = is.vertex there.0 place there.1 in
    record { digest = f.0; first = f.1 }

-- the table of the rows
pub rows_are : (entries : List Entry) (table : Table) (rows : List (Vec ℕ Global)) → IsTable (digests_of entries) table
    → AreRowsOf entries (length entries) rows → AreRows table.places.items rows
rows_are entries table rows is h = record {
  within = λ place c. let less = vertex_within entries place (table_has_vertex entries table is place c) in let len = h.length_is in omega arith;
  inputs = λ place input edge.
      let less = row_within rows place input edge in
      let n = (h.each place (let len = h.length_is in omega arith)).sound input edge in
      vertex_in_table entries table is input (record { digest = n.digest; first = n.first });
}

-- none of the entries lacks an input
pub none_lacking : (entries : List Entry) (rows : List (Vec ℕ Global)) → AreRowsOf entries (length entries) rows → (place : ℕ) → LacksInput entries place → ⊥
none_lacking entries rows h place l = h.none_lacks place (vertex_within entries place l.vertex) l

-- an input of the rows is a named one
pub row_named : (entries : List Entry) (rows : List (Vec ℕ Global)) → AreRowsOf entries (length entries) rows
    → (place input : ℕ) → HasInput rows place input → NamesInput entries place input
row_named entries rows h place input edge =
    let less = row_within rows place input edge in
    (h.each place (let len = h.length_is in omega arith)).sound input edge

pub named_row : (entries : List Entry) (rows : List (Vec ℕ Global)) → AreRowsOf entries (length entries) rows
    → (place input : ℕ) → NamesInput entries place input → HasInput rows place input
named_row entries rows h place input n = (h.each place (vertex_within entries place n.vertex)).whole input n

-- ---- an order and a walk in other words

module _ (V W : ℕ → Type 0) (I J : ℕ → ℕ → Type 0) (to : (p : ℕ) → V p → W p) (back : (p : ℕ) → W p → V p)
    (edge : (p q : ℕ) → I p q → J p q) (edge_back : (p q : ℕ) → J p q → I p q) where
  ready_same : (before : List ℕ) (p : ℕ) → IsReady V I before p → IsReady W J before p
  ready_same before p h = record { vertex = to p h.vertex; new = h.new; inputs = λ q j. h.inputs q (edge_back p q j) }

  ready_back : (before : List ℕ) (p : ℕ) → IsReady W J before p → IsReady V I before p
  ready_back before p h = record { vertex = back p h.vertex; new = h.new; inputs = λ q i. h.inputs q (edge p q i) }

  -- the same order
  pub order_same : (places : List ℕ) → IsOrder V I places → IsOrder W J places
  order_same places h = record {
    whole = λ p w. h.whole p (back p w);
    lowest = λ k p at.
        let l = h.lowest k p at in
        record {
          ready = ready_same (take k places) p l.ready;
          lowest = λ q r. l.lowest q (ready_back (take k places) q r);
        };
  }

-- the same walk
pub walk_same : (I J : ℕ → ℕ → Type 0) → ((p q : ℕ) → I p q → J p q) → (from to n : ℕ) → Walk I from to n → Walk J from to n
walk_same I J edge from to zero same = same
walk_same I J edge from to (suc n) (q, i, rest) = (q, edge from q i, walk_same I J edge q to n rest)

pub cycle_same : (I J : ℕ → ℕ → Type 0) → ((p q : ℕ) → I p q → J p q) → IsCyclic I → IsCyclic J
cycle_same I J edge (p, n, walk) = (p, n, walk_same I J edge p p (suc n) walk)

-- ---- answers

-- what holds of an answer holds of it in other words
pub if_ok_some : {X E : Type 0} (r : Result (Option X) E) (P Q : X → Type 0) → ((x : X) → P x → Q x) → IfOk r (λ a. IfSome a P) → IfOk r (λ a. IfSome a Q)
if_ok_some (Ok (Some x)) P Q f h = f x h
if_ok_some (Ok None) P Q f h = tt
if_ok_some (Err e) P Q f h = tt

pub if_ok_none : {X E : Type 0} (r : Result (Option X) E) (P Q : Type 0) → (P → Q) → IfOk r (λ a. IfNone a P) → IfOk r (λ a. IfNone a Q)
if_ok_none (Ok (Some x)) P Q f h = tt
if_ok_none (Ok None) P Q f h = f h
if_ok_none (Err e) P Q f h = tt

-- what holds of the value that is there, or where there is none
pub at_some : {X : Type 0} (o : Option X) (P : X → Type 0) (x : X) → IfSome o P → o ≡ Some x → P x
at_some None P x h e = absurd (cc e)
at_some (Some y) P x h e = let same : y ≡ x = cc e in subst P same h

pub at_none : {X : Type 0} (o : Option X) (P : Type 0) → IfNone o P → o ≡ None → P
at_none None P h e = h
at_none (Some y) P h e = absurd (cc e)
