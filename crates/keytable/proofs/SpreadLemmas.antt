-- Marks that spread from a key to its users.
use Rattle.std.proofs.Common.{◌≡◌, ◌≢◌, ℕ, ◌+◌, ◌<◌, ◌≤◌, ◌⊎◌, inl, inr, Bool, true, false, not, List, [], ◌∷◌, ◌++◌, length, set, get_or, Option, Some, None, slice_get, is_some, Bor, refl, ap, sym, ◌∙◌, subst, arith}
use Rattle.std.specs.Option.{option_copied}
use Rattle.std.specs.List.{Contains}
use Rattle.std.proofs.lemmas.Bool.{cases_eq}
use Rattle.std.proofs.lemmas.List.{length-set, get_or-set_same, get_or-set_other}
use Rattle.std.proofs.lemmas.List.Elements.{Contains-append_left, Contains-push, Contains-push_cases}
use Rattle.names.specs.declared.digest.Digest.{Digest}
use Rattle.names.specs.declared.digest.Key.{Key}
use Rattle.lists.proofs.Places.{some_is, get-set_same, get_set_cases}
use Rattle.ordering.specs.Flags.{flag_at}
use Rattle.keytable.specs.declared.entry.Entry.{Entry}
use Rattle.keytable.specs.declared.entry.Fault.{Fault}
use Rattle.keytable.specs.declared.entry.Progress.{Progress}
use Rattle.keytable.specs.declared.entry.Progress.TheVariants.{Out, Done, Failed}
use Rattle.keytable.specs.declared.users.Link.{Link}
use Rattle.keytable.specs.declared.users.Users.{Users}
use Rattle.keytable.specs.Failing.{LacksOutput, Fails, called, input_fails, input_lacks}
use Rattle.keytable.specs.Marks.{IsLost, is_marked, is_lacking, HasLost, MarksFail, MarksCalled, AreMarks, KeepsMarks}
use Rattle.keytable.specs.Spreading.{GetsMark, marked, takes, Lacks, Marking, AreSpread}
use Rattle.keytable.specs.Users.{IsUser, AreUsers}
use Rattle.keytable.proofs.MarkLemmas.{lost_fails, read_at}
use Rattle.keytable.proofs.ProgressLemmas.{moved_grows, moved_fail, called_keeps}
use Rattle.keytable.proofs.UserLemmas.{user_done}

-- ---- more marks

pub marking_none : (marks : List Bool) (todo : List ℕ) → Marking marks todo marks todo
marking_none marks todo = record { count = refl; kept = λ n f. f; listed = λ n f. inl f; todo_kept = λ n c. c; todo_marked = λ n c. inl c }

pub marking_join : (a b c : List Bool) (s t u : List ℕ) → Marking a s b t → Marking b t c u → Marking a s c u
marking_join a b c s t u h k = record {
  count = k.count ∙ h.count;
  kept = λ n f. k.kept n (h.kept n f);
  listed = λ n f. elim (k.listed n f) [
    | inr now ↦ inr now
    | inl before ↦ elim (h.listed n before) [ inl was ↦ inl was | inr there ↦ inr (k.todo_kept n there) ]
  ];
  todo_kept = λ n x. k.todo_kept n (h.todo_kept n x);
  todo_marked = λ n x. elim (k.todo_marked n x) [
    | inr now ↦ inr now
    | inl before ↦ elim (h.todo_marked n before) [ inl was ↦ inl was | inr there ↦ inr (k.kept n there) ]
  ];
}

module _ (marks : List Bool) (todo : List ℕ) (n : ℕ) (within : n < length marks) where
  set_flag : flag_at (set marks n true) n ≡ true
  set_flag = get_or-set_same marks n true false within

  pub set_only : (m : ℕ) → flag_at (set marks n true) m ≡ true → flag_at marks m ≡ true ⊎ (n ≡ m)
  set_only m f = elim (cases_eq m n) [ inl same ↦ inr (sym same) | inr apart ↦ inl (sym (get_or-set_other marks n m true false apart) ∙ f) ]

  pub marking_one : Marking marks todo (set marks n true) (todo ++ n ∷ [])
  marking_one = record {
    count = length-set marks n true;
    kept = λ m f. elim (cases_eq m n) [ inl same ↦ ap (flag_at (set marks n true)) same ∙ set_flag | inr apart ↦ get_or-set_other marks n m true false apart ∙ f ];
    listed = λ m f. elim (set_only m f) [ inl was ↦ inl was | inr here ↦ inr (subst (Contains (todo ++ n ∷ [])) here (Contains-push todo n)) ];
    todo_kept = λ m c. Contains-append_left todo (n ∷ []) m c;
    todo_marked = λ m c. elim (Contains-push_cases todo n m c) [ inl before ↦ inl before | inr last ↦ inr (subst (λ k. flag_at (set marks n true) k ≡ true) last set_flag) ];
  }

-- what a look-up among outputs says
pub output_missing : {T : Type 0} (r : Option (Bor T)) (b : Bool) (x : Option T) → is_some r ≡ not b → b ≡ true → option_copied r ≡ x → x ≡ None
output_missing None b x is met copied = sym copied
output_missing (Some r) b x is met copied = absurd (cc (is, met))

pub output_there : {T : Type 0} (r : Option (Bor T)) (b : Bool) (x : Option T) → is_some r ≡ not b → b ≡ false → option_copied r ≡ x → x ≡ None → ⊥
output_there None b x is unmet copied none = cc (is, unmet)
output_there (Some r) b x is unmet copied none = (let bad : Some r.now ≡ None = copied ∙ none in cc bad)

-- ---- the marked keys are looked at, one by one

module _ (links : List Link) (first old new : List Bool) (todo rest more : List ℕ) (n : ℕ) (popped : todo ≡ rest ++ n ∷ []) (h : Marking old rest new more) where
  in_todo : Contains todo n
  in_todo = subst (λ (xs : List ℕ). Contains xs n) (sym popped) (Contains-push rest n)

  pub spread_step : ((user : ℕ) → Lacks links n [] user → flag_at new user ≡ true) → AreSpread links old todo → AreSpread links new more
  spread_step all others place link at f = elim (h.listed link.source f) [
    | inr now ↦ inr now
    | inl before ↦ elim (others place link at before) [
      | inl user ↦ inl (h.kept link.user user)
      | inr there ↦ elim (Contains-push_cases rest n link.source (subst (λ (xs : List ℕ). Contains xs link.source) popped there)) [
        | inl left ↦ inr (h.todo_kept link.source left)
        | inr here ↦ inl (all link.user (record { place = place; link = link; at = at; from = sym here; takes = refl; missing = refl }))
      ]
    ]
  ]

  pub spread_marked : ((m : ℕ) → Contains todo m → flag_at old m ≡ true) → (m : ℕ) → Contains more m → flag_at new m ≡ true
  spread_marked was m c = elim (h.todo_marked m c) [
    | inl left ↦ h.kept m (was m (subst (λ (xs : List ℕ). Contains xs m) (sym popped) (Contains-append_left rest (n ∷ []) m left)))
    | inr here ↦ here
  ]

  pub spread_only : ((m : ℕ) → Contains todo m → flag_at old m ≡ true) → ((m : ℕ) → flag_at new m ≡ true → flag_at old m ≡ true ⊎ Lacks links n [] m)
      → ((m : ℕ) → flag_at old m ≡ true → GetsMark links first m) → (m : ℕ) → flag_at new m ≡ true → GetsMark links first m
  spread_only was only gets m f = elim (only m f) [
    | inl before ↦ gets m before
    | inr l ↦ takes m l.place l.link l.at l.takes (subst (GetsMark links first) (sym l.from) (gets n (was n in_todo)))
  ]

  pub popped_marked : ((m : ℕ) → Contains todo m → flag_at old m ≡ true) → flag_at old n ≡ true
  popped_marked was = was n in_todo

-- ---- all that fails is marked at the end

-- each key with an input that is done without the named output is marked
abbrev pub MarksLacking : List Entry → List Bool → Type 0
MarksLacking es marks = (m : ℕ) (x : Entry) (input : Key × ℕ) → slice_get es m ≡ Some x → Contains x.inputs input → LacksOutput es input → flag_at marks m ≡ true

module _ (es : List Entry) (u : Users) (users : AreUsers es u) (mid : List Bool) (sound : MarksFail es mid) where
  gets_fails : (m : ℕ) → GetsMark u.links.items mid m → (x : Entry) → slice_get es m ≡ Some x → Fails es x.key
  gets_fails m (marked _ f) x at = sound m x at f
  gets_fails m (takes _ place link there is g) x at =
      let i = (users.inputs place link there).user in
      let one : i.entry ≡ x = some_is i.entry x (sym i.at ∙ ap (slice_get es) is ∙ at) in
      input_fails x.key x i.input (record { number = m; at = at; named = refl }) (subst (λ (y : Entry). Contains y.inputs i.input) one i.has)
      (subst (Fails es) i.named (gets_fails link.source g i.of i.of_at))

  pub whole_marks : (new : List Bool) → length u.lasts.items ≡ length es → MarksCalled es mid → MarksLacking es mid → KeepsMarks mid new → ((m : ℕ) → flag_at new m ≡ true → GetsMark u.links.items mid m) → AreSpread u.links.items new []
      → length new ≡ length es → AreMarks es new
  whole_marks new count noted lacking keeps only spread size = record {
    count = size;
    fail = λ m x at f. gets_fails m (only m f) x at;
    called = called_keeps es mid new keeps noted;
    lost = λ m x at h. lost_marked m x at h.input h.has h.lost;
  }
    where
      lost_marked : (m : ℕ) (x : Entry) → slice_get es m ≡ Some x → (input : Key × ℕ) → Contains x.inputs input → IsLost es new input → flag_at new m ≡ true
      lost_marked m x at input has (is_lacking l) = keeps m (lacking m x input at has l)
      lost_marked m x at input has (is_marked k) =
          user_done es u m k.number (λ (link : Link). flag_at new link.user ≡ true) users count (record { entry = x; at = at; of = k.entry; of_at = k.at; input = input; has = has; named = k.named })
          (λ p link there from. elim (spread p link there (ap (flag_at new) from ∙ k.marked)) [ inl user ↦ user | inr none ↦ absurd (omega (arith, none.1)) ])

-- ---- a key is done or failed

module _ (es : List Entry) (n : ℕ) (e : Entry) (at : slice_get es n ≡ Some e) (to : Progress) (now : List Entry) (now_is : now ≡ set es n (record e { progress = to })) (out : e.progress ≡ Out) (old mid : List Bool) (h : AreMarks es old) (keeps : KeepsMarks old mid) where
  here : slice_get now n ≡ Some (record e { progress = to })
  here = ap (λ (xs : List Entry). slice_get xs n) now_is ∙ get-set_same es n (record e { progress = to }) e at

  still : MarksFail now old
  still = subst (λ (xs : List Entry). MarksFail xs old) (sym now_is) (moved_fail es n e at to (moved_grows es n e at to (λ outputs done. cc (out, done)) (λ fault failed. cc (out, failed))) old h.fail)

  there_cases : (m : ℕ) (f : Entry) → slice_get now m ≡ Some f → ((m ≡ n) × (record e { progress = to } ≡ f)) ⊎ ((m ≢ n) × (slice_get es m ≡ Some f))
  there_cases m f there = get_set_cases es n m (record e { progress = to }) e f at (ap (λ (xs : List Entry). slice_get xs m) (sym now_is) ∙ there)

  -- an input that lacks its output did so before, or its key is this one
  lacks_cases : (input : Key × ℕ) (l : LacksOutput now input) → LacksOutput es input ⊎ ((e.key ≡ input.0) × (to ≡ Done l.outputs))
  lacks_cases input l =
      let s = l.done.submitted in
      elim (there_cases s.number l.done.entry s.at) [
        | inl same ↦ inr (ap (λ (x : Entry). x.key) same.1 ∙ s.named, ap (λ (x : Entry). x.progress) same.1 ∙ l.done.done)
        | inr other ↦ inl (record { outputs = l.outputs; done = record { entry = l.done.entry; submitted = record { number = s.number; at = other.1; named = s.named }; done = l.done.done }; missing = l.missing })
      ]

  old_lacking : (m : ℕ) (x : Entry) (input : Key × ℕ) → slice_get now m ≡ Some x → Contains x.inputs input → LacksOutput es input → flag_at mid m ≡ true
  old_lacking m x input there has l = elim (there_cases m x there) [
    | inl same ↦ keeps m (ap (flag_at old) same.0 ∙ h.lost n e at (record { input = input; has = subst (λ (y : Entry). Contains y.inputs input) (sym same.1) has; lost = is_lacking l }))
    | inr other ↦ keeps m (h.lost m x other.1 (record { input = input; has = has; lost = is_lacking l }))
  ]

  noted : ((fault : Fault) → to ≡ Failed fault → flag_at mid n ≡ true) → MarksCalled now mid
  noted now_failed m f fault there failed = elim (there_cases m f there) [
    | inl same ↦ ap (flag_at mid) same.0 ∙ now_failed fault (ap (λ (x : Entry). x.progress) same.1 ∙ failed)
    | inr other ↦ keeps m (h.called m f fault other.1 failed)
  ]

  -- where it failed it is marked
  pub failed_fail : (fault : Fault) → to ≡ Failed fault → ((m : ℕ) → flag_at mid m ≡ true → flag_at old m ≡ true ⊎ (n ≡ m)) → MarksFail now mid
  failed_fail fault is only m f there met = elim (only m met) [
    | inl before ↦ still m f there before
    | inr same ↦ (let one = some_is (record e { progress = to }) f (sym here ∙ ap (slice_get now) same ∙ there) in
        called f.key f fault (record { number = m; at = there; named = refl }) (ap (λ (x : Entry). x.progress) (sym one) ∙ is))
  ]

  pub failed_called : flag_at mid n ≡ true → MarksCalled now mid
  failed_called met = noted (λ fault is. met)

  pub failed_lacking : (fault : Fault) → to ≡ Failed fault → MarksLacking now mid
  failed_lacking fault is m x input there has l = elim (lacks_cases input l) [
    | inl before ↦ old_lacking m x input there has before
    | inr done ↦ absurd (let d = done.1 in cc (is, d))
  ]

  -- where it is done, the users that lack their output are
  module _ (u : Users) (users : AreUsers now u) (count : length u.lasts.items ≡ length now) (outputs : List Digest) (is : to ≡ Done outputs) where
    pub done_fail : ((m : ℕ) → flag_at mid m ≡ true → flag_at old m ≡ true ⊎ Lacks u.links.items n outputs m) → MarksFail now mid
    done_fail only m f there met = elim (only m met) [
      | inl before ↦ still m f there before
      | inr l ↦ (let i = users.inputs l.place l.link l.at in
          let x = i.user in
          let user_is : x.entry ≡ f = some_is x.entry f (sym x.at ∙ ap (slice_get now) l.takes ∙ there) in
          let source_is : record e { progress = to } ≡ x.of = some_is (record e { progress = to }) x.of (sym here ∙ ap (slice_get now) (sym l.from) ∙ x.of_at) in
          input_lacks f.key f x.input (record { number = m; at = there; named = refl }) (subst (λ (y : Entry). Contains y.inputs x.input) user_is x.has) (record {
            outputs = outputs;
            done = record { entry = record e { progress = to }; submitted = record { number = n; at = here; named = ap (λ (y : Entry). y.key) source_is ∙ x.named }; done = is };
            missing = ap (slice_get outputs) i.index ∙ l.missing;
          }))
    ]

    pub done_called : MarksCalled now mid
    done_called = noted (λ fault failed. absurd (cc (is, failed)))

    pub done_lacking : ((m : ℕ) → Lacks u.links.items n outputs m → flag_at mid m ≡ true) → MarksLacking now mid
    done_lacking all m x input there has l = elim (lacks_cases input l) [
      | inl before ↦ old_lacking m x input there has before
      | inr done ↦ (let both : Done outputs ≡ Done l.outputs = sym is ∙ done.1 in
          let one : outputs ≡ l.outputs = cc both in
          user_done now u m n (λ (link : Link). slice_get outputs link.index ≡ None → flag_at mid link.user ≡ true) users count
          (record { entry = x; at = there; of = record e { progress = to }; of_at = here; input = input; has = has; named = done.0 })
          (λ p link at_link from missing. all link.user (record { place = p; link = link; at = at_link; from = from; takes = refl; missing = missing }))
          (ap (λ (xs : List Digest). slice_get xs input.1) one ∙ l.missing))
    ]

-- ---- the new keys are looked at

module _ (es : List Entry) (old new : List Bool) (todo more : List ℕ) (n : ℕ) (e : Entry) (at : slice_get es n ≡ Some e) (h : Marking old todo new more) where
  pub new_fail : HasLost es old e.inputs → ((m : ℕ) → flag_at new m ≡ true → flag_at old m ≡ true ⊎ (n ≡ m)) → MarksFail es old → MarksFail es new
  new_fail lost only sound m f there met = elim (only m met) [
    | inl before ↦ sound m f there before
    | inr same ↦ subst (λ (x : Entry). Fails es x.key) (some_is e f (sym at ∙ ap (slice_get es) same ∙ there)) (lost_fails es old sound n e at lost)
  ]

  -- one more key was looked at: it is marked, or has no such input
  module _ (from : ℕ) (looked : flag_at new n ≡ true ⊎ ((HasLost es old e.inputs → ⊥) × (new ≡ old))) where
    pub new_lacking : ((m : ℕ) (x : Entry) (input : Key × ℕ) → from ≤ m → m < n → slice_get es m ≡ Some x → Contains x.inputs input → LacksOutput es input → flag_at old m ≡ true)
        → (m : ℕ) (x : Entry) (input : Key × ℕ) → from ≤ m → m < n + 1 → slice_get es m ≡ Some x → Contains x.inputs input → LacksOutput es input → flag_at new m ≡ true
    new_lacking before m x input past less there has l = elim (cases_eq m n) [
      | inr apart ↦ h.kept m (before m x input past (omega (arith, less, apart)) there has l)
      | inl same ↦ elim looked [
        | inl met ↦ ap (flag_at new) same ∙ met
        | inr none ↦ (let one = some_is x e (sym there ∙ ap (slice_get es) same ∙ at) in
            absurd (none.0 (record { input = input; has = subst (λ (y : Entry). Contains y.inputs input) one has; lost = is_lacking l })))
      ]
    ]

    pub new_users : ((user source : ℕ) → from ≤ user → user < n → IsUser es user source → flag_at old source ≡ true → flag_at old user ≡ true ⊎ Contains todo source)
        → (user source : ℕ) → from ≤ user → user < n + 1 → IsUser es user source → flag_at new source ≡ true → flag_at new user ≡ true ⊎ Contains more source
    new_users before user source past less i met = elim (h.listed source met) [
      | inr now ↦ inr now
      | inl was ↦ elim (cases_eq user n) [
        | inr apart ↦ elim (before user source past (omega (arith, less, apart)) i was) [ inl f ↦ inl (h.kept user f) | inr c ↦ inr (h.todo_kept source c) ]
        | inl same ↦ elim looked [
          | inl f ↦ inl (ap (flag_at new) same ∙ f)
          | inr none ↦ (let one = some_is i.entry e (sym i.at ∙ ap (slice_get es) same ∙ at) in
              absurd (none.0 (record {
                input = i.input;
                has = subst (λ (y : Entry). Contains y.inputs i.input) one i.has;
                lost = is_marked (record { number = source; entry = i.of; at = i.of_at; named = i.named; marked = was });
              })))
        ]
      ]
    ]

-- ---- the marks before they spread

pub record BeforeSpread (es : List Entry) (u : Users) (mid : List Bool) (todo : List ℕ) : Type 0 where
  pub sound : MarksFail es mid
  pub noted : MarksCalled es mid
  pub lacking : MarksLacking es mid
  pub spread : AreSpread u.links.items mid todo

module _ (es : List Entry) (n : ℕ) (e : Entry) (at : slice_get es n ≡ Some e) (to : Progress) (now : List Entry) (now_is : now ≡ set es n (record e { progress = to })) (out : e.progress ≡ Out) (old : List Bool) (h : AreMarks es old)
    (u : Users) (before : AreUsers es u) (mid : List Bool) (todo : List ℕ) (m : Marking old [] mid todo) where
  -- the progress that was set
  pub progress_is : (x : Entry) → x ≡ get_or now n x → to ≡ x.progress
  progress_is x read = ap (λ (y : Entry). y.progress) (read_at now n (record e { progress = to }) x (here es n e at to now now_is out old mid h m.kept) read)

  mid_spread : AreSpread u.links.items mid todo
  mid_spread place link there f = elim (m.listed link.source f) [
    | inr now_listed ↦ inr now_listed
    | inl was ↦ (let i = (before.inputs place link there).user in
        inl (m.kept link.user (h.lost link.user i.entry i.at
        (record { input = i.input; has = i.has; lost = is_marked (record { number = link.source; entry = i.of; at = i.of_at; named = i.named; marked = was }) }))))
  ]

  pub before_failed : (fault : Fault) → to ≡ Failed fault → flag_at mid n ≡ true → ((k : ℕ) → flag_at mid k ≡ true → flag_at old k ≡ true ⊎ (n ≡ k)) → BeforeSpread now u mid todo
  before_failed fault is met only = record {
    sound = failed_fail es n e at to now now_is out old mid h m.kept fault is only;
    noted = failed_called es n e at to now now_is out old mid h m.kept met;
    lacking = failed_lacking es n e at to now now_is out old mid h m.kept fault is;
    spread = mid_spread;
  }

  pub before_done : (outputs : List Digest) → to ≡ Done outputs → AreUsers now u → length u.lasts.items ≡ length now → ((k : ℕ) → Lacks u.links.items n outputs k → flag_at mid k ≡ true)
      → ((k : ℕ) → flag_at mid k ≡ true → flag_at old k ≡ true ⊎ Lacks u.links.items n outputs k) → BeforeSpread now u mid todo
  before_done outputs is users count all only = record {
    sound = done_fail es n e at to now now_is out old mid h m.kept u users count outputs is only;
    noted = done_called es n e at to now now_is out old mid h m.kept u users count outputs is;
    lacking = done_lacking es n e at to now now_is out old mid h m.kept u users count outputs is all;
    spread = mid_spread;
  }

  pub before_other : ((fault : Fault) → to ≡ Failed fault → ⊥) → ((outputs : List Digest) → to ≡ Done outputs → ⊥) → ((k : ℕ) → flag_at mid k ≡ true → flag_at old k ≡ true) → BeforeSpread now u mid todo
  before_other not_failed not_done only = record {
    sound = λ k f there met. still es n e at to now now_is out old mid h m.kept k f there (only k met);
    noted = noted es n e at to now now_is out old mid h m.kept (λ fault is. absurd (not_failed fault is));
    lacking = λ k x input there has l. elim (lacks_cases es n e at to now now_is out old mid h m.kept input l) [
      | inl was ↦ old_lacking es n e at to now now_is out old mid h m.kept k x input there has was
      | inr done ↦ absurd (not_done l.outputs done.1)
    ];
    spread = mid_spread;
  }
