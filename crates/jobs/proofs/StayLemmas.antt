-- Which keys stay ready, and what the list of the ready keys stays.
use Rattle.std.proofs.Common.{◌≡◌, ℕ, zero, suc, ◌+◌, ◌<◌, inl, inr, List, [], ◌∷◌, ◌++◌, map, length, take, drop, set, Some, None, slice_get, refl, ap, sym, ◌∙◌, subst, arith}
use Rattle.std.specs.List.{Contains, AllZip, IsDistinct}
use Rattle.std.specs.List.Sorted.{IsStrictlyIncreasing}
use Rattle.std.specs.Prelude.{nat_eq}
use Rattle.std.proofs.lemmas.Bool.{cases_eq}
use Rattle.std.proofs.lemmas.List.{length-set}
use Rattle.std.proofs.lemmas.List.Elements.{Contains-push_cases}
use Rattle.std.proofs.lemmas.Map.Keys.{below_from_sorted, sorted_from_strictly_increasing}
use Rattle.std.proofs.lemmas.Option.{slice_get_within}
use Rattle.names.specs.declared.digest.Digest.{Digest}
use Rattle.names.specs.declared.digest.Key.{Key}
use Rattle.lists.proofs.Places.{get-set_same, get-set_other, get_set_cases, some_is, Contains-cases, Contains-head, Contains-tail, take_push}
use Rattle.lists.proofs.Rising.{tail_rises}
use Rattle.keytable.specs.declared.entry.Entry.{Entry}
use Rattle.keytable.specs.declared.entry.Fault.{Fault}
use Rattle.keytable.specs.declared.entry.Progress.{Progress}
use Rattle.keytable.specs.declared.entry.Progress.TheVariants.{Waiting, Out, Done, Failed}
use Rattle.jobs.specs.declared.ready_list.ReadyList.{ReadyList}
use Rattle.keytable.specs.Failing.{HasOutput, Fails, called, input_fails, input_lacks, AreThere, IsReady}
use Rattle.jobs.specs.History.{History, IsFirstReady, Moves, TakesFirst}
use Rattle.jobs.specs.Kept.{history}
use Rattle.jobs.specs.ReadyLists.{IsReadyAt, IsHandedAt, IsKeyAt, AreReadyKeys, AreHandedRight, IsList, IsSameList, ListsAll, HasRoom, listed, taken}
use Rattle.keytable.specs.Tables.{key_eq, key_of}
use Rattle.keytable.proofs.MarkLemmas.{one_entry}
use Rattle.keytable.proofs.ProgressLemmas.{Grows, has_grows, fails_grows, moved_grows}

-- ---- ready is waiting with all inputs there

-- what has its inputs there fails only where it was called failed
pub no_fail : (es : List Entry) → IsDistinct key_eq (map key_of es) → AreHandedRight es → (key : Key) → Fails es key → (n : ℕ) (e : Entry) → slice_get es n ≡ Some e → e.key ≡ key → AreThere es e.inputs
    → ((fault : Fault) → e.progress ≡ Failed fault → ⊥) → ⊥
no_fail es unique right key (called _ entry fault s failed) n e at named there never =
    let same = one_entry es unique s.number n entry e s.at at (s.named ∙ sym named) in
    never fault (ap (λ (x : Entry). x.progress) (sym same) ∙ failed)
no_fail es unique right key (input_fails _ entry input s has f) n e at named there never =
    let same = one_entry es unique s.number n entry e s.at at (s.named ∙ sym named) in
    let out = there input (subst (λ (x : Entry). Contains x.inputs input) same has) in
    let done = out.1.done in
    no_fail es unique right input.0 f done.submitted.number done.entry done.submitted.at done.submitted.named
    (right done.submitted.number (record { entry = done.entry; at = done.submitted.at; handed = λ waits. (let d = done.done in cc (waits, d)) }))
    (λ fault failed. (let d = done.done in cc (failed, d)))
no_fail es unique right key (input_lacks _ entry input s has l) n e at named there never =
    let same = one_entry es unique s.number n entry e s.at at (s.named ∙ sym named) in
    let out = there input (subst (λ (x : Entry). Contains x.inputs input) same has) in
    let done = out.1.done in
    let one = one_entry es unique l.done.submitted.number done.submitted.number l.done.entry done.entry l.done.submitted.at done.submitted.at (l.done.submitted.named ∙ sym done.submitted.named) in
    let both : Done l.outputs ≡ Done out.1.outputs = sym l.done.done ∙ ap (λ (x : Entry). x.progress) one ∙ done.done in
    let lists : l.outputs ≡ out.1.outputs = cc in
    let bad : None ≡ Some out.0 = sym l.missing ∙ ap (λ (xs : List Digest). slice_get xs input.1) lists ∙ out.1.there in
    cc bad

pub ready_from : (es : List Entry) → IsDistinct key_eq (map key_of es) → AreHandedRight es → (n : ℕ) (e : Entry) → slice_get es n ≡ Some e → e.progress ≡ Waiting → AreThere es e.inputs → IsReadyAt es n
ready_from es unique right n e at waiting there = record {
  entry = e;
  at = at;
  ready = record {
    waiting = waiting;
    not_failing = λ f. no_fail es unique right e.key f n e at refl there (λ fault failed. cc (waiting, failed));
    inputs = there;
  };
}

pub there_grows : (old new : List Entry) → Grows old new → (inputs : List (Key × ℕ)) → AreThere old inputs → AreThere new inputs
there_grows old new grows inputs there input has = let out = there input has in (out.0, has_grows old new grows input out.0 out.1)

-- a ready key stays ready where it isn't touched
pub ready_stays : (old new : List Entry) → Grows old new → IsDistinct key_eq (map key_of new) → AreHandedRight new → (n : ℕ) (r : IsReadyAt old n) → slice_get new n ≡ Some r.entry → IsReadyAt new n
ready_stays old new grows unique right n r at = ready_from new unique right n r.entry at r.ready.waiting (there_grows old new grows r.entry.inputs r.ready.inputs)

-- what follows of each pair follows of all
pub zip_weaker : {A B : Type 0} (R S : A → B → Type 0) (xs : List A) (ys : List B) → ((x : A) (y : B) → R x y → S x y) → AllZip R xs ys → AllZip S xs ys
zip_weaker R S [] [] more all = tt
zip_weaker R S [] (y ∷ ys) more all = absurd all
zip_weaker R S (x ∷ xs) [] more all = absurd all
zip_weaker R S (x ∷ xs) (y ∷ ys) more all = (more x y all.0, zip_weaker R S xs ys more all.1)

zip_drop : {A B : Type 0} (R : A → B → Type 0) (n : ℕ) (xs : List A) (ys : List B) → AllZip R xs ys → AllZip R (drop n xs) (drop n ys)
zip_drop R zero xs ys all = all
zip_drop R (suc n) [] [] all = tt
zip_drop R (suc n) [] (y ∷ ys) all = absurd all
zip_drop R (suc n) (x ∷ xs) [] all = absurd all
zip_drop R (suc n) (x ∷ xs) (y ∷ ys) all = zip_drop R n xs ys all.1

-- ---- the list under other entries

-- where each held key stays handed out or ready, the list stays one
pub list_stays : (old new : List Entry) (l : ReadyList) → ((n : ℕ) → IsHandedAt old n → IsHandedAt new n) → ((n : ℕ) → Contains (listed l) n → IsReadyAt old n → IsReadyAt new n)
    → ((n : ℕ) (key : Key) → IsKeyAt old n key → IsKeyAt new n key) → IsList old l → IsList new l
list_stays old new l handed ready named h = record {
  within = h.within;
  handed = λ n c. handed n (h.handed n c);
  ready = λ n c. ready n c (h.ready n c);
  rising = h.rising;
  apart = h.apart;
  named = zip_weaker (IsKeyAt old) (IsKeyAt new) l.numbers.items l.keys.items named h.named;
}

pub list_same : (es : List Entry) (l m : ReadyList) → IsSameList l m → IsList es l → IsList es m
list_same es l m s h =
    let listed_is : listed l ≡ listed m = sym (ap (λ t. drop t m.numbers.items) s.taken ∙ ap (drop l.taken) s.numbers) in
    let taken_is : taken l ≡ taken m = sym (ap (λ t. take t m.numbers.items) s.taken ∙ ap (take l.taken) s.numbers) in
    record {
      within = let w = h.within in let t = s.taken in let n = ap length s.numbers in omega (arith, w, t, n);
      handed = λ n c. h.handed n (subst (λ (zs : List ℕ). Contains zs n) (sym taken_is) c);
      ready = λ n c. h.ready n (subst (λ (zs : List ℕ). Contains zs n) (sym listed_is) c);
      rising = subst IsStrictlyIncreasing listed_is h.rising;
      apart = subst (IsDistinct nat_eq) (sym s.numbers) h.apart;
      named = subst (λ (ks : List Key). AllZip (IsKeyAt es) m.numbers.items ks) (sym s.keys) (subst (λ (ns : List ℕ). AllZip (IsKeyAt es) ns l.keys.items) (sym s.numbers) h.named);
    }

pub all_same : (es : List Entry) (l m : ReadyList) → IsSameList l m → ListsAll es l → ListsAll es m
all_same es l m s h n r =
    let listed_is : listed l ≡ listed m = sym (ap (λ t. drop t m.numbers.items) s.taken ∙ ap (drop l.taken) s.numbers) in
    subst (λ (zs : List ℕ). Contains zs n) listed_is (h n r)

-- what it lends
pub lends_ready : (es : List Entry) (l : ReadyList) (keys : List Key) → IsList es l → ListsAll es l → keys ≡ drop l.taken l.keys.items → AreReadyKeys es keys
lends_ready es l keys h all is = record {
  numbers = listed l;
  rising = h.rising;
  only = h.ready;
  whole = all;
  named = subst (AllZip (IsKeyAt es) (listed l)) (sym is) (zip_drop (IsKeyAt es) l.taken l.numbers.items l.keys.items h.named);
}

-- ---- one key moves on

module _ (es : List Entry) (n : ℕ) (e : Entry) (at : slice_get es n ≡ Some e) (to : Progress) where
  abbrev after : List Entry
  after = set es n (record e { progress = to })

  pub right_moved : Grows es after → AreThere es e.inputs → AreHandedRight es → AreHandedRight after
  right_moved grows there right m handed = elim (get_set_cases es n m (record e { progress = to }) e handed.entry at handed.at) [
    | inl same ↦ subst (λ (x : Entry). AreThere after x.inputs) same.1 (there_grows es after grows e.inputs there)
    | inr other ↦ there_grows es after grows handed.entry.inputs (right m (record { entry = handed.entry; at = other.1; handed = handed.handed }))
  ]

  key_moved : (m : ℕ) (key : Key) → IsKeyAt es m key → IsKeyAt after m key
  key_moved m key k = elim (cases_eq m n) [
    | inl same ↦ record {
      entry = record e { progress = to };
      at = ap (slice_get after) same ∙ get-set_same es n (record e { progress = to }) e at;
      named = ap key_of (some_is e k.entry (sym at ∙ ap (slice_get es) (sym same) ∙ k.at)) ∙ k.named;
    }
    | inr apart ↦ record { entry = k.entry; at = get-set_other es n m (record e { progress = to }) apart ∙ k.at; named = k.named }
  ]

  handed_moved : (to ≡ Waiting → ⊥) → (m : ℕ) → IsHandedAt es m → IsHandedAt after m
  handed_moved goes m h = elim (cases_eq m n) [
    | inl same ↦ record { entry = record e { progress = to }; at = ap (slice_get after) same ∙ get-set_same es n (record e { progress = to }) e at; handed = goes }
    | inr apart ↦ record { entry = h.entry; at = get-set_other es n m (record e { progress = to }) apart ∙ h.at; handed = h.handed }
  ]

  -- the list where a key that was handed out moves on
  pub list_moved : (now : List Entry) (l : ReadyList) → e.progress ≡ Out → (to ≡ Waiting → ⊥) → now ≡ after → IsDistinct key_eq (map key_of now) → AreHandedRight now → IsList es l → IsList now l
  list_moved now l out goes now_is unique right h =
      let grows : Grows es now = subst (Grows es) (sym now_is) (moved_grows es n e at to (λ outputs done. cc (out, done)) (λ fault failed. cc (out, failed))) in
      let untouched : (m : ℕ) (r : IsReadyAt es m) → slice_get now m ≡ Some r.entry = λ m r. elim (cases_eq m n) [
        | inl same ↦ (let is : e ≡ r.entry = some_is e r.entry (sym at ∙ ap (slice_get es) (sym same) ∙ r.at) in
            let waits : Out ≡ Waiting = sym out ∙ ap (λ (x : Entry). x.progress) is ∙ r.ready.waiting in
            absurd (cc waits))
        | inr apart ↦ ap (λ (xs : List Entry). slice_get xs m) now_is ∙ get-set_other es n m (record e { progress = to }) apart ∙ r.at
      ] in
      list_stays es now l
      (λ m x. subst (λ (xs : List Entry). IsHandedAt xs m) (sym now_is) (handed_moved goes m x))
      (λ m c r. ready_stays es now grows unique right m r (untouched m r))
      (λ m key k. subst (λ (xs : List Entry). IsKeyAt xs m key) (sym now_is) (key_moved m key k))
      h

pub finished_right : (es : List Entry) (n : ℕ) (e : Entry) (at : slice_get es n ≡ Some e) (to : Progress) (now : List Entry) → e.progress ≡ Out → now ≡ set es n (record e { progress = to }) → AreHandedRight es → AreHandedRight now
finished_right es n e at to now out now_is right =
    let grows = moved_grows es n e at to (λ outputs done. cc (out, done)) (λ fault failed. cc (out, failed)) in
    let there = right n (record { entry = e; at = at; handed = λ waits. cc (out, waits) }) in
    subst AreHandedRight (sym now_is) (right_moved es n e at to grows there right)

-- ---- the first key is taken

-- the first of rising numbers is the least
pub least_first : (x : ℕ) (xs : List ℕ) (m : ℕ) → IsStrictlyIncreasing (x ∷ xs) → Contains xs m → x < m
least_first x xs m rising (k, less, is) =
    let below = below_from_sorted (x ∷ xs) 0 (suc k) m (sorted_from_strictly_increasing (x ∷ xs) rising) (omega arith) (omega arith) in
    subst (λ y. x < y) is below

-- the listed numbers where there is one
pub listed_cons : (xs : List ℕ) (t n : ℕ) → slice_get xs t ≡ Some n → drop t xs ≡ n ∷ drop (t + 1) xs
listed_cons [] t n h = absurd (cc h)
listed_cons (x ∷ xs) zero n h = (let is : x ≡ n = cc in ap (λ y. y ∷ xs) is)
listed_cons (x ∷ xs) (suc t) n h = listed_cons xs t n h ∙ ap (λ m. n ∷ drop m (x ∷ xs)) (let two : suc (t + 1) ≡ suc t + 1 = omega arith in two)

pub listed_none : (xs : List ℕ) (t : ℕ) → slice_get xs t ≡ None → drop t xs ≡ []
listed_none [] zero h = refl
listed_none [] (suc t) h = refl
listed_none (x ∷ xs) zero h = absurd (cc h)
listed_none (x ∷ xs) (suc t) h = listed_none xs t h

module _ (es : List Entry) (l : ReadyList) (h : IsList es l) (all : ListsAll es l) where
  -- nothing is listed
  pub none_ready : slice_get l.numbers.items l.taken ≡ None → (number : ℕ) (entry : Entry) → slice_get es number ≡ Some entry → IsReady es entry → ⊥
  none_ready none number entry at ready =
      let c = all number (record { entry = entry; at = at; ready = ready }) in
      let bad = subst (λ (zs : List ℕ). Contains zs number) (listed_none l.numbers.items l.taken none) c in
      omega (arith, bad.1)

  module _ (n : ℕ) (first : slice_get l.numbers.items l.taken ≡ Some n) where
    listed_is : listed l ≡ n ∷ drop (l.taken + 1) l.numbers.items
    listed_is = listed_cons l.numbers.items l.taken n first

    pub first_is_ready : IsReadyAt es n
    first_is_ready = h.ready n (subst (λ (zs : List ℕ). Contains zs n) (sym listed_is) (Contains-head n (drop (l.taken + 1) l.numbers.items)))

    pub first_is_first : IsFirstReady es n first_is_ready.entry
    first_is_first = record {
      at = first_is_ready.at;
      ready = first_is_ready.ready;
      first = λ before other less at ready.
          let c = subst (λ (zs : List ℕ). Contains zs before) listed_is (all before (record { entry = other; at = at; ready = ready })) in
          elim (Contains-cases n (drop (l.taken + 1) l.numbers.items) before c) [
            | inl same ↦ omega (arith, less, same)
            | inr behind ↦ (let more = least_first n (drop (l.taken + 1) l.numbers.items) before (subst IsStrictlyIncreasing listed_is h.rising) behind in omega (arith, less, more))
          ];
    }

    pub first_within : l.taken < length l.numbers.items
    first_within = slice_get_within l.numbers.items l.taken n first

    -- the list and the entries once it is handed out
    module _ (m : ReadyList) (now : List Entry) (unique : IsDistinct key_eq (map key_of now)) (right : AreHandedRight es) (more : m.taken ≡ l.taken + 1) (numbers : m.numbers.items ≡ l.numbers.items) (keys : m.keys.items ≡ l.keys.items)
        (now_is : now ≡ set es n (record first_is_ready.entry { progress = Out })) where
      abbrev e : Entry
      e = first_is_ready.entry

      abbrev at : slice_get es n ≡ Some e
      at = first_is_ready.at

      grows : Grows es now
      grows = (let waiting = first_is_ready.ready.waiting in
          subst (Grows es) (sym now_is) (moved_grows es n e at Out (λ outputs done. cc (waiting, done)) (λ fault failed. cc (waiting, failed))))

      pub right_taken : AreHandedRight now
      right_taken = subst AreHandedRight (sym now_is) (right_moved es n e at Out (subst (Grows es) now_is grows) first_is_ready.ready.inputs right)

      rest_is : listed m ≡ drop (l.taken + 1) l.numbers.items
      rest_is = ap (λ t. drop t m.numbers.items) more ∙ ap (drop (l.taken + 1)) numbers

      taken_is : taken m ≡ taken l ++ n ∷ []
      taken_is = ap (λ t. take t m.numbers.items) more ∙ ap (take (l.taken + 1)) numbers ∙ take_push l.numbers.items l.taken n first

      other : (q : ℕ) → (q ≡ n → ⊥) → slice_get now q ≡ slice_get es q
      other q apart = ap (λ (xs : List Entry). slice_get xs q) now_is ∙ get-set_other es n q (record e { progress = Out }) apart

      pub list_taken : IsList now m
      list_taken = record {
        within = let w = first_within in let len = ap length numbers in omega (arith, w, len, more);
        handed = λ q c. elim (Contains-push_cases (taken l) n q (subst (λ (zs : List ℕ). Contains zs q) taken_is c)) [
          | inl before ↦ subst (λ (xs : List Entry). IsHandedAt xs q) (sym now_is) (handed_moved es n e at Out (λ w. cc w) q (h.handed q before))
          | inr last ↦ subst (IsHandedAt now) last (record {
            entry = record e { progress = Out };
            at = ap (λ (xs : List Entry). slice_get xs n) now_is ∙ get-set_same es n (record e { progress = Out }) e at;
            handed = λ w. cc w;
          })
        ];
        ready = λ q c.
            let behind = subst (λ (zs : List ℕ). Contains zs q) rest_is c in
            let less = least_first n (drop (l.taken + 1) l.numbers.items) q (subst IsStrictlyIncreasing listed_is h.rising) behind in
            let r = h.ready q (subst (λ (zs : List ℕ). Contains zs q) (sym listed_is) (Contains-tail n (drop (l.taken + 1) l.numbers.items) q behind)) in
            ready_stays es now grows unique right_taken q r (other q (λ same. omega (arith, less, same)) ∙ r.at);
        rising = subst IsStrictlyIncreasing (sym rest_is) (tail_rises n (drop (l.taken + 1) l.numbers.items) (subst IsStrictlyIncreasing listed_is h.rising));
        apart = subst (IsDistinct nat_eq) (sym numbers) h.apart;
        named = subst (λ (ks : List Key). AllZip (IsKeyAt now) m.numbers.items ks) (sym keys) (subst (λ (ns : List ℕ). AllZip (IsKeyAt now) ns l.keys.items) (sym numbers)
            (zip_weaker (IsKeyAt es) (IsKeyAt now) l.numbers.items l.keys.items (λ q key k. subst (λ (xs : List Entry). IsKeyAt xs q key) (sym now_is) (key_moved es n e at Out q key k)) h.named));
      }

      -- what has an output then had it before
      output_before : (input : Key × ℕ) (digest : Digest) → HasOutput now input digest → HasOutput es input digest
      output_before input digest o =
          let s = o.done.submitted in
          elim (cases_eq s.number n) [
            | inl same ↦ (let there : slice_get now n ≡ Some (record e { progress = Out }) = ap (λ (xs : List Entry). slice_get xs n) now_is ∙ get-set_same es n (record e { progress = Out }) e at in
                let is = some_is (record e { progress = Out }) o.done.entry (sym there ∙ ap (slice_get now) (sym same) ∙ s.at) in
                let bad : Out ≡ Done o.outputs = ap (λ (x : Entry). x.progress) is ∙ o.done.done in
                absurd (cc bad))
            | inr apart ↦ record {
              outputs = o.outputs;
              done = record { entry = o.done.entry; submitted = record { number = s.number; at = sym (other s.number apart) ∙ s.at; named = s.named }; done = o.done.done };
              there = o.there;
            }
          ]

      pub all_taken : ListsAll now m
      all_taken q r = elim (cases_eq q n) [
        | inl same ↦ (let there : slice_get now n ≡ Some (record e { progress = Out }) = ap (λ (xs : List Entry). slice_get xs n) now_is ∙ get-set_same es n (record e { progress = Out }) e at in
            let is = some_is (record e { progress = Out }) r.entry (sym there ∙ ap (slice_get now) (sym same) ∙ r.at) in
            let bad : Out ≡ Waiting = ap (λ (x : Entry). x.progress) is ∙ r.ready.waiting in
            absurd (cc bad))
        | inr apart ↦ (let was : IsReadyAt es q = record {
          entry = r.entry;
          at = sym (other q apart) ∙ r.at;
          ready = record {
            waiting = r.ready.waiting;
            not_failing = λ f. r.ready.not_failing (fails_grows es now grows r.entry.key f);
            inputs = λ input has. (let o = r.ready.inputs input has in (o.0, output_before input o.0 o.1));
          };
        } in
            elim (Contains-cases n (drop (l.taken + 1) l.numbers.items) q (subst (λ (zs : List ℕ). Contains zs q) listed_is (all q was))) [
              | inl same ↦ absurd (apart (sym same))
              | inr behind ↦ subst (λ (zs : List ℕ). Contains zs q) (sym rest_is) behind
            ])
      ]

pub taken_room : (es : List Entry) (l m : ReadyList) (n : ℕ) (e : Entry) (now : List Entry) → now ≡ set es n (record e { progress = Out }) → ((count : ℕ) → HasRoom count l → HasRoom count m) → HasRoom (length es) l → HasRoom (length now) m
taken_room es l m n e now now_is keeps room = subst (λ k. HasRoom k m) (sym (ap length now_is ∙ length-set es n (record e { progress = Out }))) (keeps (length es) room)

-- what taking it says of the jobs
pub takes_first : (jobs : List (Key × ℕ)) (es now : List Entry) (h : History) (n : ℕ) (e : Entry) (key : Key) (inputs : List Digest) → history jobs es ≡ h → IsFirstReady es n e → e.key ≡ key
    → AllZip (HasOutput es) e.inputs inputs → now ≡ set es n (record e { progress = Out }) → TakesFirst h key inputs (history jobs now)
takes_first jobs es now h n e key inputs view first named there now_is =
    let all : TakesFirst (history jobs es) key inputs (history jobs now) = record {
      number = n;
      entry = e;
      first = first;
      named = named;
      inputs_are = there;
      new_is = ap (history jobs) now_is;
    } in
    subst (λ (x : History). TakesFirst x key inputs (history jobs now)) view all

-- what a key's move says of the jobs
pub moves_shown : (jobs : List (Key × ℕ)) (es now : List Entry) (h : History) (n : ℕ) (e : Entry) (key : Key) (from to : Progress) → history jobs es ≡ h → slice_get es n ≡ Some e → e.key ≡ key → e.progress ≡ from
    → now ≡ set es n (record e { progress = to }) → Moves h key from to (history jobs now)
moves_shown jobs es now h n e key from to view at named was now_is =
    let all : Moves (history jobs es) key from to (history jobs now) = record {
      number = n;
      entry = e;
      at = at;
      named = named;
      was = was;
      new_is = ap (history jobs) now_is;
    } in
    subst (λ (x : History). Moves x key from to (history jobs now)) view all
