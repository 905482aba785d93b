-- The marks and the list of the ready keys where a graph adds keys.
use Rattle.std.proofs.Common.{◌≡◌, ℕ, zero, suc, ◌+◌, ◌-◌, ◌<◌, ◌≤◌, ◌⊎◌, replicate, inl, inr, Bool, true, false, List, [], ◌∷◌, ◌++◌, map, length, take, Some, slice_get, refl, ap, sym, ◌∙◌, subst, arith}
use Rattle.std.specs.Vec.{vec_capacity}
use Rattle.std.specs.List.{Contains, IsDistinct}
use Rattle.std.proofs.lemmas.Bool.{cases_lt}
use Rattle.std.proofs.lemmas.List.{take-append-le, take_all, length-append, length-replicate, length-map}
use Rattle.names.specs.declared.digest.Key.{Key}
use Rattle.lists.proofs.Places.{at_place, some_is}
use Rattle.ordering.specs.Flags.{flag_at}
use Rattle.vertices.specs.Loading.{GraphParts}
use Rattle.vertices.proofs.ZipLemmas.{all_zip_back}
use Rattle.keytable.specs.declared.entry.Entry.{Entry}
use Rattle.keytable.specs.declared.entry.Progress.TheVariants.{Waiting}
use Rattle.jobs.specs.declared.known_keys.KnownKeys.{KnownKeys}
use Rattle.jobs.specs.declared.ready_list.ReadyList.{ReadyList}
use Rattle.keytable.specs.declared.table.Table.{Table}
use Rattle.keytable.specs.declared.users.Users.{Users}
use Rattle.keytable.specs.Adding.{BeginsWith, IsFront, IsEntryOf, AreAdded}
use Rattle.keytable.specs.Tables.{key_eq, key_of}
use Rattle.keytable.specs.Users.{IsClosed, IsUser, AreUsers, IsSameUsers}
use Rattle.indexmap.specs.IndexSet.{IsUnique}
use Rattle.keytable.specs.Failing.{LacksOutput}
use Rattle.keytable.specs.Spreading.{Marking, GetsMark, AreSpread}
use Rattle.keytable.specs.Kept.{AreKept}
use Rattle.jobs.specs.Kept.{AreListed}
use Rattle.keytable.specs.Marks.{MarksFail, MarksCalled, is_marked, is_lacking, AreMarks, KeepsMarks}
use Rattle.keytable.proofs.AddLemmas.{append_cases, get_left}
use Rattle.keytable.proofs.ProgressLemmas.{Grows, fails_grows, called_keeps}
use Rattle.jobs.specs.ReadyLists.{AreCursors, AreHandedRight, IsList, IsSameList, ListsAll, HasRoom}
use Rattle.keytable.proofs.ReachLemmas.{flag_within}
use Rattle.keytable.proofs.SpreadLemmas.{MarksLacking, whole_marks}
use Rattle.jobs.proofs.StayLemmas.{list_stays, list_same, all_same, ready_stays, there_grows}
use Rattle.keytable.proofs.UserLemmas.{users_same}

-- the front that a list began with
pub front_take : {A : Type 0} (old new : List A) → BeginsWith old new → take (length old) new ≡ old
front_take old new (rest, is) = ap (take (length old)) is ∙ take-append-le (length old) old rest (omega arith) ∙ take_all (length old) old (omega arith)

-- ---- marks of what was added

-- an added entry waits
pub added_waits : (g : GraphParts) (keys : List Key) (old new : List Entry) (h : AreAdded g keys old new) (n : ℕ) (e : Entry) → slice_get new n ≡ Some e → (slice_get old n ≡ Some e) ⊎ (e.progress ≡ Waiting)
added_waits g keys old new h n e at = elim (append_cases old h.added n e (ap (λ (xs : List Entry). slice_get xs n) (sym h.new_is) ∙ at)) [
  | inl before ↦ inl before
  | inr (m, there) ↦ inr (all_zip_back (IsEntryOf g keys) h.numbers h.added m e h.entries there).2.waiting
]

stays : (old rest : List Entry) → Grows old (old ++ rest)
stays old rest key entry s = record {
  now = entry;
  submitted = record { number = s.number; at = get_left old rest s.number entry s.at; named = s.named };
  inputs = refl;
  done = λ outputs done. done;
  failed = λ fault failed. failed;
}

old_flag : (marks : List Bool) (n k : ℕ) → flag_at (marks ++ replicate k false) n ≡ true → flag_at marks n ≡ true
old_flag [] n zero met = met
old_flag [] zero (suc k) met = met
old_flag [] (suc n) (suc k) met = absurd (let none = old_flag [] n k met in cc none)
old_flag (m ∷ marks) zero k met = met
old_flag (m ∷ marks) (suc n) k met = old_flag marks n k met

new_flag : (marks rest : List Bool) (n : ℕ) → flag_at marks n ≡ true → flag_at (marks ++ rest) n ≡ true
new_flag [] rest n met = absurd (cc met)
new_flag (m ∷ marks) rest zero met = met
new_flag (m ∷ marks) rest (suc n) met = new_flag marks rest n met

-- the marks before those of the added keys are found
module _ (g : GraphParts) (keys : List Key) (old new : List Entry) (h : AreAdded g keys old new) (marks between : List Bool) (was : AreMarks old marks) (is : between ≡ take (length new) marks ++ replicate (length new - length marks) false) where
  longer : length new ≡ length old + length h.added
  longer = ap length h.new_is ∙ length-append old h.added

  between_is : between ≡ marks ++ replicate (length new - length marks) false
  between_is =
      let all : take (length new) marks ≡ marks = take_all (length new) marks (let c = was.count in let l = longer in omega (arith, c, l)) in
      is ∙ ap (λ (xs : List Bool). xs ++ replicate (length new - length marks) false) all

  pub between_size : length between ≡ length new
  between_size =
      let a = ap length between_is in
      let b = length-append marks (replicate (length new - length marks) false) in
      let r = length-replicate (length new - length marks) false in
      let c = was.count in
      let l = longer in
      omega (arith, a, b, r, c, l)

  flag_before : (n : ℕ) → flag_at between n ≡ true → flag_at marks n ≡ true
  flag_before n met = old_flag marks n (length new - length marks) (ap (λ (xs : List Bool). flag_at xs n) (sym between_is) ∙ met)

  flag_kept : (n : ℕ) → flag_at marks n ≡ true → flag_at between n ≡ true
  flag_kept n met = ap (λ (xs : List Bool). flag_at xs n) between_is ∙ new_flag marks (replicate (length new - length marks) false) n met

  -- an old key, by its number
  old_at : (n : ℕ) (e : Entry) → n < length old → slice_get new n ≡ Some e → slice_get old n ≡ Some e
  old_at n e less at =
      let o = at_place old n less in
      let one : o.0 ≡ e = some_is o.0 e (sym (get_left old h.added n o.0 o.1) ∙ ap (λ (xs : List Entry). slice_get xs n) (sym h.new_is) ∙ at) in
      o.1 ∙ ap (λ (z : Entry). Some z) one

  marked_old : (n : ℕ) → flag_at marks n ≡ true → n < length old
  marked_old n met = (let within = flag_within marks n met in let c = was.count in omega (arith, within, c))

  pub between_sound : MarksFail new between
  between_sound n e at met =
      let f = flag_before n met in
      fails_grows old new (subst (Grows old) (sym h.new_is) (stays old h.added)) e.key (was.fail n e (old_at n e (marked_old n f) at) f)

  pub between_called : MarksCalled new between
  between_called n e fault at failed = elim (added_waits g keys old new h n e at) [
    | inl before ↦ flag_kept n (was.called n e fault before failed)
    | inr waits ↦ absurd (cc (waits, failed))
  ]

  -- an input that lacks its output did so before
  lacked : (input : Key × ℕ) → LacksOutput new input → LacksOutput old input
  lacked input l =
      let s = l.done.submitted in
      elim (added_waits g keys old new h s.number l.done.entry s.at) [
        | inl before ↦ record { outputs = l.outputs; done = record { entry = l.done.entry; submitted = record { number = s.number; at = before; named = s.named }; done = l.done.done }; missing = l.missing }
        | inr waits ↦ absurd (let d = l.done.done in cc (waits, d))
      ]

  pub added_lacking : (mid : List Bool) (count : ℕ) → count ≡ length old → KeepsMarks between mid
      → ((n : ℕ) (e : Entry) (input : Key × ℕ) → count ≤ n → slice_get new n ≡ Some e → Contains e.inputs input → LacksOutput new input → flag_at mid n ≡ true) → MarksLacking new mid
  added_lacking mid count count_is keeps fresh n e input at has l = elim (cases_lt n count) [
    | inr past ↦ fresh n e input past at has l
    | inl less ↦ keeps n (flag_kept n (was.lost n e (old_at n e (omega (arith, less, count_is)) at) (record { input = input; has = has; lost = is_lacking (lacked input l) })))
  ]

  pub added_users : (mid : List Bool) (todo more : List ℕ) (count : ℕ) → count ≡ length old → Marking between todo mid more
      → ((user source : ℕ) → count ≤ user → IsUser new user source → flag_at mid source ≡ true → flag_at mid user ≡ true ⊎ Contains more source)
      → (user source : ℕ) → IsUser new user source → flag_at mid source ≡ true → flag_at mid user ≡ true ⊎ Contains more source
  added_users mid todo more count count_is m fresh user source i met = elim (cases_lt user count) [
    | inr past ↦ fresh user source past i met
    | inl less ↦ elim (m.listed source met) [
      | inr now ↦ inr now
      | inl before ↦ (let f = flag_before source before in
          inl (m.kept user (flag_kept user (was.lost user i.entry (old_at user i.entry (omega (arith, less, count_is)) i.at)
          (record { input = i.input; has = i.has; lost = is_marked (record { number = source; entry = i.of; at = old_at source i.of (marked_old source f) i.of_at; named = i.named; marked = f }) })))))
    ]
  ]

  -- the marks once they have spread
  pub added_marks : (u : Users) → AreUsers new u → length u.lasts.items ≡ length new → (mid after : List Bool) (count : ℕ) → count ≡ length old → KeepsMarks between mid → (MarksFail new between → MarksFail new mid)
      → ((n : ℕ) (e : Entry) (input : Key × ℕ) → count ≤ n → slice_get new n ≡ Some e → Contains e.inputs input → LacksOutput new input → flag_at mid n ≡ true)
      → KeepsMarks mid after → ((n : ℕ) → flag_at after n ≡ true → GetsMark u.links.items mid n) → AreSpread u.links.items after [] → length after ≡ length between → AreMarks new after
  added_marks u users lasts mid after count count_is keeps fail fresh kept only all size =
      whole_marks new u users mid (fail between_sound) after lasts (called_keeps new between mid keeps between_called) (added_lacking mid count count_is keeps fresh) kept only all (size ∙ between_size)

-- what was taken back leaves the old table
pub taken_back : (old grown now : Table) (marks : List Bool) → AreKept old marks → IsFront old grown → now.numbers.keys ≡ take (length old.entries.items) grown.numbers.keys → IsUnique key_eq now.numbers
    → now.entries.items ≡ take (length old.entries.items) grown.entries.items → AreKept now marks
taken_back old grown now marks h front ks unique es =
    let same : now.entries.items ≡ old.entries.items = es ∙ front_take old.entries.items grown.entries.items front.entries in
    let len : length old.numbers.keys ≡ length old.entries.items = ap length h.numbered.listed ∙ length-map old.entries.items key_of in
    let same_keys : now.numbers.keys ≡ old.numbers.keys = ks ∙ ap (λ n. take n grown.numbers.keys) (sym len) ∙ front_take old.numbers.keys grown.numbers.keys front.keys in
    record {
      numbered = record { listed = same_keys ∙ h.numbered.listed ∙ ap (map key_of) (sym same); unique = unique };
      marked = subst (λ (xs : List Entry). AreMarks xs marks) (sym same) h.marked;
    }

pub listed_back : (old grown : KnownKeys) (now : Table) (count : ℕ) → AreListed old → grown.todo.items ≡ old.todo.items → vec_capacity old.todo ≤ vec_capacity grown.todo → grown.marks.items ≡ old.marks.items → IsSameUsers old.users grown.users → IsSameList old.ready grown.ready
    → grown.ready.cursors.items ≡ old.ready.cursors.items → IsFront old.table grown.table → count ≡ length old.table.entries.items → now.numbers.keys ≡ take count grown.table.numbers.keys → IsUnique key_eq now.numbers
    → now.entries.items ≡ take count grown.table.entries.items → AreListed (record grown { table = now })
listed_back old grown now count h idle more unmarked still same cursors front is ks unique es =
    let entries = old.table.entries.items in
    let es_is : now.entries.items ≡ take (length entries) grown.table.entries.items = es ∙ ap (λ n. take n grown.table.entries.items) is in
    let back : now.entries.items ≡ entries = es_is ∙ front_take entries grown.table.entries.items front.entries in
    record {
      kept = subst (AreKept now) (sym unmarked) (taken_back old.table grown.table now old.marks.items h.kept front (ks ∙ ap (λ n. take n grown.table.numbers.keys) is) unique es_is);
      closed = subst IsClosed (sym back) h.closed;
      used = subst (λ (xs : List Entry). AreUsers xs grown.users) (sym back) (users_same entries old.users grown.users still h.used);
      count = ap length still.lasts ∙ h.count ∙ sym (ap length back);
      idle = idle ∙ h.idle;
      todo_room = let r = h.todo_room in let n = ap length back in omega (arith, r, n, more);
      right = subst AreHandedRight (sym back) h.right;
      list = subst (λ (xs : List Entry). IsList xs grown.ready) (sym back) (list_same entries old.ready grown.ready same h.list);
      all = subst (λ (xs : List Entry). ListsAll xs grown.ready) (sym back) (all_same entries old.ready grown.ready same h.all);
      room = subst (λ (n : ℕ). HasRoom n grown.ready) (sym (ap length back)) (same.room (length entries) h.room);
      cursors = subst (AreCursors now.entries.items) (sym cursors) (subst (λ (xs : List Entry). AreCursors xs old.ready.cursors.items) (sym back) h.cursors);
    }

-- ---- the list where keys are added

module _ (g : GraphParts) (keys : List Key) (old new : List Entry) (h : AreAdded g keys old new) where
  pub added_grows : Grows old new
  added_grows = subst (Grows old) (sym h.new_is) (stays old h.added)

  pub added_left : (n : ℕ) (e : Entry) → slice_get old n ≡ Some e → slice_get new n ≡ Some e
  added_left n e at = ap (λ (xs : List Entry). slice_get xs n) h.new_is ∙ get_left old h.added n e at

  pub added_right : AreHandedRight old → AreHandedRight new
  added_right right n handed = elim (added_waits g keys old new h n handed.entry handed.at) [
    | inl before ↦ there_grows old new added_grows handed.entry.inputs (right n (record { entry = handed.entry; at = before; handed = handed.handed }))
    | inr waits ↦ absurd (handed.handed waits)
  ]

  pub added_list : (l : ReadyList) → IsDistinct key_eq (map key_of new) → AreHandedRight old → IsList old l → IsList new l
  added_list l unique right is = list_stays old new l
      (λ n x. record { entry = x.entry; at = added_left n x.entry x.at; handed = x.handed })
      (λ n c r. ready_stays old new added_grows unique (added_right right) n r (added_left n r.entry r.at))
      (λ n key k. record { entry = k.entry; at = added_left n k.entry k.at; named = k.named })
      is
