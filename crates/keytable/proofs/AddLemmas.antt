-- What a graph adds to the submitted keys.
use Rattle.std.proofs.Common.{◌≡◌, ℕ, zero, suc, ◌+◌, ◌<◌, ◌⊎◌, inl, inr, Bool, false, List, [], ◌∷◌, ◌++◌, map, length, get_or, Some, slice_get, refl, ap, sym, ◌∙◌, subst, arith, append-nil, append_assoc, if◌then◌else◌}
use Rattle.std.specs.List.{list_any, All, Contains}
use Rattle.std.proofs.lemmas.Bool.{cases_Bool, cases_eq}
use Rattle.std.proofs.lemmas.List.Elements.{Contains-append_left, Contains-push, Contains-push_cases}
use Rattle.std.proofs.lemmas.Option.{slice_get_within, slice_get-get_or, get_or_from_slice_get}
use Rattle.indexmap.specs.IndexSet.{insert_key}
use Rattle.names.specs.declared.digest.Key.{Key}
use Rattle.lists.proofs.Places.{AllZip-push, get_push_left, get_push_end, at_Contains, some_is}
use Rattle.lists.proofs.Rising.{rising_push}
use Rattle.vertices.specs.Edges.{list_at}
use Rattle.vertices.specs.Loading.{GraphParts, IsGraph}
use Rattle.vertices.proofs.ZipLemmas.{all_zip_back}
use Rattle.vertices.proofs.GraphLemmas.{list_at-get, edge_target}
use Rattle.solverkeys.proofs.KeyLemmas.{edges_within}
use Rattle.solverkeys.specs.GraphKeys.{TakesKeys}
use Rattle.keytable.specs.declared.entry.Entry.{Entry}
use Rattle.keytable.specs.declared.entry.Progress.TheVariants.{Waiting}
use Rattle.keytable.specs.declared.table.Table.{Table}
use Rattle.keytable.specs.Adding.{IsFront, IsEntryOf, IsKnown, IsNew, AreAdded, AddsKey, known, adds, IsAdding}
use Rattle.keytable.specs.Reaching.{IsNeeded}
use Rattle.keytable.specs.Tables.{key_eq, key_of, IsTable}
use Rattle.keytable.specs.Users.{IsClosed}
use Rattle.keytable.proofs.ReachLemmas.{walk_more}
use Rattle.keytable.proofs.TableLemmas.{key_same}

-- ---- one key

none_any : (es : List Entry) (key : Key) → ((number : ℕ) (entry : Entry) → slice_get es number ≡ Some entry → entry.key ≡ key → ⊥) → list_any (key_eq key) (map key_of es) ≡ false
none_any [] key none = refl
none_any (x ∷ es) key none = elim (cases_Bool (key_eq key x.key)) [
  | inl met ↦ absurd (none 0 x refl (sym (key_same key x.key met)))
  | inr unmet ↦ rw unmet (none_any es key (λ n e at. none (suc n) e at))
]

-- a new key goes last
pub key_last : (t : Table) → IsTable t → (key : Key) → ((number : ℕ) (entry : Entry) → slice_get t.entries.items number ≡ Some entry → entry.key ≡ key → ⊥)
    → insert_key key_eq t.numbers.keys key ≡ t.numbers.keys ++ key ∷ []
key_last t h key none =
    let ks = t.numbers.keys in
    let unmet : list_any (key_eq key) ks ≡ false = ap (list_any (key_eq key)) h.listed ∙ none_any t.entries.items key none in
    ap (λ (b : Bool). if b then ks else ks ++ key ∷ []) unmet

pub keys_push : (es : List Entry) (e : Entry) → map key_of (es ++ e ∷ []) ≡ map key_of es ++ e.key ∷ []
keys_push [] e = refl
keys_push (x ∷ es) e = ap (λ (ks : List Key). x.key ∷ ks) (keys_push es e)

-- edges go to vertices that have keys
pub edges_keys : (g : GraphParts) (keys : List Key) (n : ℕ) (edges : List (ℕ × ℕ)) → IsGraph g → slice_get g.edges n ≡ Some edges → length keys ≡ length g.vertices → All (λ edge. edge.0 < length keys) edges
edges_keys g keys n edges h at count = subst (λ (size : ℕ). All (λ (edge : ℕ × ℕ). edge.0 < size) edges) (sym count) (edges_within g n edges h at)

module _ (g : GraphParts) (keys : List Key) (number : ℕ) (key : Key) (d : Key) (within : number < length keys) (is : key ≡ get_or keys number d) where
  key_there : slice_get keys number ≡ Some key
  key_there = slice_get-get_or keys number d within ∙ ap (λ (z : _). Some z) (sym is)

  pub key_known : (es : List Entry) → (n : ℕ) (e : Entry) → slice_get es n ≡ Some e → e.key ≡ key → AddsKey g keys number es es
  key_known es n e at named = known (record { place = n; entry = e; at = at; key = key_there ∙ ap (λ (z : Key). Some z) (sym named) }) refl

  pub key_added : (es new : List Entry) (edges : List (ℕ × ℕ)) (inputs : List (Key × ℕ)) → slice_get g.edges number ≡ Some edges → TakesKeys keys edges inputs
      → ((n : ℕ) (e : Entry) → slice_get es n ≡ Some e → e.key ≡ key → ⊥) → new ≡ es ++ record { key = key; inputs = inputs; progress = Waiting } ∷ [] → AddsKey g keys number es new
  key_added es new edges inputs at takes none new_is = adds (record { key = key; inputs = inputs; progress = Waiting })
      (record { key = key_there; inputs = subst (λ (xs : List (ℕ × ℕ)). TakesKeys keys xs inputs) (sym (list_at-get g.edges number edges at)) takes; waiting = refl })
      (λ k. none k.place k.entry k.at (some_is k.entry.key key (sym k.key ∙ key_there)))
      new_is

-- ---- all of them

pub get_left : (xs ys : List Entry) (n : ℕ) (y : Entry) → slice_get xs n ≡ Some y → slice_get (xs ++ ys) n ≡ Some y
get_left [] ys n y e = absurd (cc)
get_left (x ∷ xs) ys zero y e = e
get_left (x ∷ xs) ys (suc n) y e = get_left xs ys n y e

pub append_cases : (xs ys : List Entry) (n : ℕ) (y : Entry) → slice_get (xs ++ ys) n ≡ Some y → (slice_get xs n ≡ Some y) ⊎ ((m : ℕ) × (slice_get ys m ≡ Some y))
append_cases [] ys n y e = inr (n, e)
append_cases (x ∷ xs) ys zero y e = inl e
append_cases (x ∷ xs) ys (suc n) y e = append_cases xs ys n y e

module _ (g : GraphParts) (keys : List Key) (old : List Entry) where
  pub adding_start : (new : List Entry) → new ≡ old → IsAdding g keys old 0 new
  adding_start new same = record {
    numbers = [];
    added = [];
    rising = λ k within. absurd (omega (arith, within));
    below = λ n c. absurd (omega (arith, c.1));
    only = λ n c. absurd (omega (arith, c.1));
    whole = λ n less. absurd (omega (arith, less));
    covered = λ n less. absurd (omega (arith, less));
    entries = tt;
    new_is = same ∙ sym (append-nil old);
  }

  -- a vertex that isn't needed adds nothing
  pub adding_skips : (n : ℕ) (new now : List Entry) → IsAdding g keys old n new → (IsNeeded g n → ⊥) → now ≡ new → IsAdding g keys old (n + 1) now
  adding_skips n new now h never same = rw same (record {
    numbers = h.numbers;
    added = h.added;
    rising = h.rising;
    below = λ m c. let less = h.below m c in omega (arith, less);
    only = h.only;
    whole = λ m less is. elim (cases_eq m n) [
      | inl here ↦ absurd (never (subst (IsNeeded g) here is.needed))
      | inr apart ↦ h.whole m (omega (arith, less, apart)) is
    ];
    covered = λ m less needed. elim (cases_eq m n) [
      | inl here ↦ absurd (never (subst (IsNeeded g) here needed))
      | inr apart ↦ h.covered m (omega (arith, less, apart)) needed
    ];
    entries = h.entries;
    new_is = h.new_is;
  })

  -- a key that is known already is not among the new ones
  not_new : (n : ℕ) (new : List Entry) → IsAdding g keys old n new → IsKnown g keys new n → IsNew g keys old n → ⊥
  not_new n new h k is = elim (append_cases old h.added k.place k.entry (ap (λ (xs : List Entry). slice_get xs k.place) (sym h.new_is) ∙ k.at)) [
    | inl before ↦ is.unknown (record { place = k.place; entry = k.entry; at = before; key = k.key })
    | inr (m, at) ↦ (let z = all_zip_back (IsEntryOf g keys) h.numbers h.added m k.entry h.entries at in
        let c : Contains h.numbers z.0 = (m, slice_get_within h.numbers m z.0 z.1, get_or_from_slice_get h.numbers m z.0 z.0 z.1) in
        is.first z.0 (h.below z.0 c) (h.only z.0 c).needed (z.2.key ∙ sym k.key))
  ]

  known_more : (new : List Entry) (e : Entry) (n : ℕ) → IsKnown g keys new n → IsKnown g keys (new ++ e ∷ []) n
  known_more new e n k = record { place = k.place; entry = k.entry; at = get_push_left new e k.place k.entry k.at; key = k.key }

  -- a vertex that is needed adds its key where it is new
  pub adding_adds : (n : ℕ) (new now : List Entry) → IsAdding g keys old n new → IsNeeded g n → AddsKey g keys n new now → IsAdding g keys old (n + 1) now
  adding_adds n new now h needed (known k same) = rw same (record {
    numbers = h.numbers;
    added = h.added;
    rising = h.rising;
    below = λ m c. let less = h.below m c in omega (arith, less);
    only = h.only;
    whole = λ m less is. elim (cases_eq m n) [
      | inl here ↦ absurd (not_new n new h k (subst (IsNew g keys old) here is))
      | inr apart ↦ h.whole m (omega (arith, less, apart)) is
    ];
    covered = λ m less need. elim (cases_eq m n) [
      | inl here ↦ subst (IsKnown g keys new) (sym here) k
      | inr apart ↦ h.covered m (omega (arith, less, apart)) need
    ];
    entries = h.entries;
    new_is = h.new_is;
  })
  adding_adds n new now h needed (adds entry is unknown now_is) =
      let in_new : IsKnown g keys (new ++ entry ∷ []) n = record { place = length new; entry = entry; at = get_push_end new entry; key = is.key } in
      let fresh : IsNew g keys old n = record {
        needed = needed;
        unknown = λ k. unknown (record { place = k.place; entry = k.entry; at = ap (λ (xs : List Entry). slice_get xs k.place) h.new_is ∙ get_left old h.added k.place k.entry k.at; key = k.key });
        first = λ lower less need same. let k = h.covered lower less need in unknown (record { place = k.place; entry = k.entry; at = k.at; key = sym same ∙ k.key });
      } in
      rw now_is (record {
        numbers = h.numbers ++ n ∷ [];
        added = h.added ++ entry ∷ [];
        rising = rising_push h.numbers n h.rising h.below;
        below = λ m c. elim (Contains-push_cases h.numbers n m c) [ inl before ↦ (let less = h.below m before in omega (arith, less)) | inr last ↦ omega (arith, last) ];
        only = λ m c. elim (Contains-push_cases h.numbers n m c) [ inl before ↦ h.only m before | inr last ↦ subst (IsNew g keys old) last fresh ];
        whole = λ m less new_one. elim (cases_eq m n) [
          | inl here ↦ subst (Contains (h.numbers ++ n ∷ [])) (sym here) (Contains-push h.numbers n)
          | inr apart ↦ Contains-append_left h.numbers (n ∷ []) m (h.whole m (omega (arith, less, apart)) new_one)
        ];
        covered = λ m less need. elim (cases_eq m n) [
          | inl here ↦ subst (IsKnown g keys (new ++ entry ∷ [])) (sym here) in_new
          | inr apart ↦ known_more new entry m (h.covered m (omega (arith, less, apart)) need)
        ];
        entries = AllZip-push (IsEntryOf g keys) h.numbers h.added n entry h.entries is;
        new_is = ap (λ (xs : List Entry). xs ++ entry ∷ []) h.new_is ∙ append_assoc old h.added (entry ∷ []);
      })

  -- at the end
  pub adding_end : (n : ℕ) (new : List Entry) → IsAdding g keys old n new → length g.vertices < n + 1 → ((m : ℕ) → IsNeeded g m → m < length g.vertices) → AreAdded g keys old new
  adding_end n new h past within = record {
    numbers = h.numbers;
    added = h.added;
    rising = h.rising;
    only = h.only;
    whole = λ m is. h.whole m (let less = within m is.needed in omega (arith, less, past)) is;
    entries = h.entries;
    new_is = h.new_is;
  }

-- each input's key is known at the end
pub adding_closed : (g : GraphParts) (keys : List Key) (old : List Entry) (n : ℕ) (new : List Entry) → IsAdding g keys old n new → length g.vertices < n + 1 → ((m : ℕ) → IsNeeded g m → m < length g.vertices) → IsClosed old → IsClosed new
adding_closed g keys old n new h past within closed m e input at has = elim (append_cases old h.added m e (ap (λ (xs : List Entry). slice_get xs m) (sym h.new_is) ∙ at)) [
  | inl before ↦ (let s = closed m e input before has in
      (s.0, record { number = s.1.number; at = ap (λ (xs : List Entry). slice_get xs s.1.number) h.new_is ∙ get_left old h.added s.1.number s.0 s.1.at; named = s.1.named }))
  | inr (k, there) ↦ (let z = all_zip_back (IsEntryOf g keys) h.numbers h.added k e h.entries there in
      let c : Contains h.numbers z.0 = (k, slice_get_within h.numbers k z.0 z.1, get_or_from_slice_get h.numbers k z.0 z.0 z.1) in
      let i = at_Contains e.inputs input has in
      let t = all_zip_back (λ (edge : ℕ × ℕ) (taken : Key × ℕ). (slice_get keys edge.0 ≡ Some taken.0) × (taken.1 ≡ edge.1)) (list_at g.edges z.0) e.inputs i.0 input z.2.inputs i.1 in
      let needed = walk_more g z.0 t.0.0 (h.only z.0 c).needed (edge_target (list_at g.edges z.0) i.0 t.0 t.1) in
      let known = h.covered t.0.0 (let less = within t.0.0 needed in omega (arith, less, past)) needed in
      (known.entry, record { number = known.place; at = known.at; named = some_is known.entry.key input.0 (sym known.key ∙ t.2.0) }))
]

-- ---- fronts

pub front_join : (one two three : Table) → IsFront one two → IsFront two three → IsFront one three
front_join one two three h k = record {
  keys = (h.keys.0 ++ k.keys.0, k.keys.1 ∙ ap (λ (xs : List Key). xs ++ k.keys.0) h.keys.1 ∙ append_assoc one.numbers.keys h.keys.0 k.keys.0);
  entries = (h.entries.0 ++ k.entries.0, k.entries.1 ∙ ap (λ (xs : List Entry). xs ++ k.entries.0) h.entries.1 ∙ append_assoc one.entries.items h.entries.0 k.entries.0);
}

pub front_same : (t : Table) → IsFront t t
front_same t = record { keys = ([], sym (append-nil t.numbers.keys)); entries = ([], sym (append-nil t.entries.items)) }
