-- Why a key fails.
use Rattle.std.proofs.Common.{◌≡◌, ℕ, ◌+◌, ◌<◌, ◌⊎◌, inl, inr, Bool, true, false, List, [], map, length, slice_get, Some, refl, ap, sym, ◌∙◌, subst, arith}
use Rattle.std.specs.Bool.{MatchBool}
use Rattle.std.specs.List.{Contains, IsDistinct}
use Rattle.std.proofs.lemmas.Bool.{cases_eq}
use Rattle.std.proofs.lemmas.Option.{slice_get_within}
use Rattle.names.specs.declared.digest.Key.{Key}
use Rattle.lists.proofs.Places.{some_is}
use Rattle.ordering.specs.Flags.{flag_at}
use Rattle.keytable.specs.declared.cause.Cause.{Cause}
use Rattle.keytable.specs.declared.entry.Entry.{Entry}
use Rattle.keytable.specs.declared.entry.Fault.{Fault}
use Rattle.keytable.specs.declared.entry.Progress.TheVariants.{Failed}
use Rattle.keytable.specs.declared.table.Table.{Table}
use Rattle.keytable.specs.declared.users.Link.{Link}
use Rattle.keytable.specs.declared.users.Users.{Users}
use Rattle.keytable.specs.Causes.{DependsOn, itself, by_input, FailsItself, is_called, has_lacking, IsOwnCause, IsFirstCause}
use Rattle.keytable.specs.Failing.{LacksOutput, Fails, called, input_fails, input_lacks}
use Rattle.keytable.specs.Kept.{AreKept}
use Rattle.keytable.specs.Marks.{IsMarked, IsLost, is_marked, is_lacking}
use Rattle.keytable.specs.Searching.{IsLooking}
use Rattle.keytable.specs.Spreading.{AreSpread, Follows, is_source, takes_from, GetsMark, marked, takes}
use Rattle.keytable.specs.Tables.{key_eq, key_of}
use Rattle.keytable.specs.Users.{AreUsers}
use Rattle.keytable.proofs.MarkLemmas.{all_marked, distinct}
use Rattle.keytable.proofs.TableLemmas.{one_number}
use Rattle.keytable.proofs.UserLemmas.{user_done}

-- where nothing is marked, an input that never comes lacks its output
pub match_lacks : (es : List Entry) (input : Key × ℕ) (b : Bool) → MatchBool b (IsLost es [] input) (IsLost es [] input → ⊥) → MatchBool b (LacksOutput es input) (LacksOutput es input → ⊥)
match_lacks es input true h = lacks_of h
  where
    lacks_of : IsLost es [] input → LacksOutput es input
    lacks_of (is_marked m) = absurd (let bad = m.marked in cc bad)
    lacks_of (is_lacking l) = l
match_lacks es input false h = λ l. h (is_lacking l)

-- it was neither called failed nor lacks an input's output
pub never_itself : (es : List Entry) (e x : Entry) (inputs : List (Key × ℕ)) → e ≡ x → inputs ≡ x.inputs → ((fault : Fault) → x.progress ≡ Failed fault → ⊥)
    → ((input : Key × ℕ) → Contains inputs input → LacksOutput es input → ⊥) → FailsItself es e → ⊥
never_itself es e x inputs same inputs_are not_failed none (is_called fault failed) = not_failed fault (ap (λ (y : Entry). y.progress) (sym same) ∙ failed)
never_itself es e x inputs same inputs_are not_failed none (has_lacking input has l) =
    none input (subst (λ (xs : List (Key × ℕ)). Contains xs input) (ap (λ (y : Entry). y.inputs) same ∙ sym inputs_are) has) l

-- a key that fails itself, on which a key depends
pub record FailsBelow (es : List Entry) (key : Key) : Type 0 where
  pub number : ℕ
  pub entry : Entry
  pub at : slice_get es number ≡ Some entry
  pub depends : DependsOn es key entry.key
  pub fails : FailsItself es entry

-- what fails depends on such a key
pub fails_below : (es : List Entry) (key : Key) → Fails es key → FailsBelow es key
fails_below es key (called _ entry fault s failed) =
    record { number = s.number; entry = entry; at = s.at; depends = subst (DependsOn es key) (sym s.named) (itself key); fails = is_called fault failed }
fails_below es key (input_fails _ entry input s has f) =
    let b = fails_below es input.0 f in
    record { number = b.number; entry = b.entry; at = b.at; depends = by_input key b.entry.key entry input s has b.depends; fails = b.fails }
fails_below es key (input_lacks _ entry input s has l) =
    record { number = s.number; entry = entry; at = s.at; depends = subst (DependsOn es key) (sym s.named) (itself key); fails = has_lacking input has l }

-- a key whose entry isn't marked doesn't fail
pub unmarked_stands : (t : Table) (marks : List Bool) → AreKept t marks → (key : Key) (n : ℕ) (e : Entry) → slice_get t.entries.items n ≡ Some e → e.key ≡ key → flag_at marks n ≡ false → Fails t.entries.items key → ⊥
unmarked_stands t marks h key n e at named unmet f =
    let m = all_marked t.entries.items marks h.marked key f in
    let same = one_number t.entries.items (distinct t h.numbered) m.number n m.entry e m.at at (m.named ∙ sym named) in
    let met : flag_at marks n ≡ true = ap (flag_at marks) (sym same) ∙ m.marked in
    cc (met, unmet)

-- ---- flags that spread from a key

-- what follows the key, or was flagged before
pub gets_follows : (links : List Link) (old mid : List Bool) (n : ℕ) → AreSpread links old [] → ((m : ℕ) → flag_at mid m ≡ true → flag_at old m ≡ true ⊎ (n ≡ m)) → (m : ℕ) → GetsMark links mid m → flag_at old m ≡ true ⊎ Follows links n m
gets_follows links old mid n closed only m (marked _ f) = elim (only m f) [ inl was ↦ inl was | inr here ↦ inr (is_source m (sym here)) ]
gets_follows links old mid n closed only m (takes _ place link at is g) = elim (gets_follows links old mid n closed only link.source g) [
  | inl was ↦ elim (closed place link at was) [ inl user ↦ inl (ap (flag_at old) (sym is) ∙ user) | inr none ↦ absurd (omega (arith, none.1)) ]
  | inr follows ↦ inr (takes_from m place link at is follows)
]

module _ (es : List Entry) (u : Users) (users : AreUsers es u) where
  -- a key that follows another depends on it
  pub follows_depends : (n : ℕ) (e : Entry) → slice_get es n ≡ Some e → (m : ℕ) → Follows u.links.items n m → (x : Entry) → slice_get es m ≡ Some x → DependsOn es x.key e.key
  follows_depends n e at m (is_source _ same) x there =
      let one = some_is x e (sym there ∙ ap (slice_get es) same ∙ at) in
      subst (λ (y : Entry). DependsOn es x.key y.key) one (itself x.key)
  follows_depends n e at m (takes_from _ place link linked is f) x there =
      let i = (users.inputs place link linked).user in
      let one : i.entry ≡ x = some_is i.entry x (sym i.at ∙ ap (slice_get es) is ∙ there) in
      by_input x.key e.key x i.input (record { number = m; at = there; named = refl }) (subst (λ (y : Entry). Contains y.inputs i.input) one i.has)
      (subst (λ (k : Key). DependsOn es k e.key) i.named (follows_depends n e at link.source f i.of i.of_at))

  -- what depends on a flagged key is flagged
  pub depends_flagged : length u.lasts.items ≡ length es → (flags : List Bool) → AreSpread u.links.items flags [] → (one other : Key) → DependsOn es one other → IsMarked es flags other → IsMarked es flags one
  depends_flagged count flags closed one other (itself _) m = m
  depends_flagged count flags closed one other (by_input _ _ entry input s has d) m =
      let k = depends_flagged count flags closed input.0 other d m in
      record {
        number = s.number;
        entry = entry;
        at = s.at;
        named = s.named;
        marked = user_done es u s.number k.number (λ (link : Link). flag_at flags link.user ≡ true) users count (record { entry = entry; at = s.at; of = k.entry; of_at = k.at; input = input; has = has; named = k.named })
            (λ p link there from. elim (closed p link there (ap (flag_at flags) from ∙ k.marked)) [ inl user ↦ user | inr none ↦ absurd (omega (arith, none.1)) ]);
      }

  module _ (unique : IsDistinct key_eq (map key_of es)) (count : length u.lasts.items ≡ length es) (wanted : ℕ) (w : Entry) (wanted_at : slice_get es wanted ≡ Some w) where
    -- no key below depends-on is looked at and fails itself
    pub none_before : (n : ℕ) (flags : List Bool) (h : IsLooking es u.links.items wanted n flags) → (lower : ℕ) (other : Entry) → lower < n → slice_get es lower ≡ Some other → DependsOn es w.key other.key → FailsItself es other → ⊥
    none_before n flags h lower other less at depends fails =
        let m = depends_flagged count flags h.closed w.key other.key depends (record { number = lower; entry = other; at = at; named = refl; marked = h.covered lower other less at fails }) in
        let same = one_number es unique m.number wanted m.entry w m.at wanted_at m.named in
        let met : flag_at flags wanted ≡ true = ap (flag_at flags) (sym same) ∙ m.marked in
        let missed = h.missed in
        cc (met, missed)

    -- the first cause was found
    pub found_first : (n : ℕ) (e : Entry) (cause : Cause) (old new : List Bool) → slice_get es n ≡ Some e → IsOwnCause es e cause → IsLooking es u.links.items wanted n old
        → ((m : ℕ) → flag_at new m ≡ true → flag_at old m ≡ true ⊎ Follows u.links.items n m) → flag_at new wanted ≡ true → IsFirstCause es w.key cause
    found_first n e cause old new at own h only met = record {
      number = n;
      entry = e;
      at = at;
      needed = elim (only wanted met) [
        | inl was ↦ absurd (let missed = h.missed in cc (was, missed))
        | inr follows ↦ follows_depends n e at wanted follows w wanted_at
      ];
      own = own;
      first = none_before n old h;
    }

    -- where all keys were looked at, it would have been found
    pub never_last : (n : ℕ) (flags : List Bool) → length es ≡ n → IsLooking es u.links.items wanted n flags → Fails es w.key → ⊥
    never_last n flags all h f =
        let b = fails_below es w.key f in
        let within = slice_get_within es b.number b.entry b.at in
        none_before n flags h b.number b.entry (omega (arith, within, all)) b.at b.depends b.fails

  -- one more key was looked at
  pub look_next : (wanted n : ℕ) (e : Entry) (old new : List Bool) → slice_get es n ≡ Some e → IsLooking es u.links.items wanted n old → length new ≡ length old → AreSpread u.links.items new []
      → ((m : ℕ) → flag_at old m ≡ true → flag_at new m ≡ true) → (FailsItself es e → flag_at new n ≡ true) → flag_at new wanted ≡ false → IsLooking es u.links.items wanted (n + 1) new
  look_next wanted n e old new at h size closed keeps here missed = record {
    size = size ∙ h.size;
    closed = closed;
    covered = λ m x less there fails. elim (cases_eq m n) [
      | inl same ↦ (let one = some_is x e (sym there ∙ ap (slice_get es) same ∙ at) in ap (flag_at new) same ∙ here (subst (FailsItself es) one fails))
      | inr apart ↦ keeps m (h.covered m x (omega (arith, less, apart)) there fails)
    ];
    missed = missed;
  }
