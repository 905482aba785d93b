-- Which keys are ready.
use Rattle.std.proofs.Common.{◌≡◌, ℕ, ◌+◌, ◌<◌, ◌≤◌, inl, inr, Bool, true, false, not, List, length, set, get_or, Option, Some, is_some, IfSome, IfNone, slice_get, ap, sym, ◌∙◌, subst, arith}
use Rattle.std.specs.Bool.{MatchBool}
use Rattle.std.specs.List.{Contains}
use Rattle.std.proofs.lemmas.Bool.{cases_eq}
use Rattle.std.proofs.lemmas.List.{length-set}
use Rattle.std.proofs.lemmas.Option.{slice_get_within}
use Rattle.names.specs.declared.digest.Digest.{Digest}
use Rattle.names.specs.declared.digest.Key.{Key}
use Rattle.lists.proofs.Places.{Contains-at, at_Contains, at_place, some_is, get_set_cases}
use Rattle.ordering.specs.Flags.{flag_at}
use Rattle.keytable.specs.declared.entry.Entry.{Entry}
use Rattle.keytable.specs.declared.entry.Progress.TheVariants.{Waiting, Out, Done}
use Rattle.keytable.specs.declared.table.Table.{Table}
use Rattle.keytable.specs.Failing.{HasOutput, AreThere, IsReady}
use Rattle.keytable.specs.Kept.{AreKept}
use Rattle.jobs.specs.ReadyLists.{AreThereBefore, IsReadyAt}
use Rattle.keytable.specs.Marks.{IsLost, is_marked, is_lacking, MarksLost, AreMarks}
use Rattle.keytable.specs.Tables.{key_of}
use Rattle.keytable.proofs.MarkLemmas.{all_marked, distinct, read_at}
use Rattle.keytable.proofs.ProgressLemmas.{moved_grows, moved_fail, moved_called}
use Rattle.keytable.proofs.TableLemmas.{if_none, if_some, one_number}

-- ---- all inputs

module _ (es : List Entry) (inputs : List (Key × ℕ)) where
  -- one that isn't there
  pub one_missing : (k : ℕ) (input : Key × ℕ) (r : Option Digest) (b : Bool) → slice_get inputs k ≡ Some input → is_some r ≡ not b → b ≡ true
      → IfNone r ((digest : Digest) → HasOutput es input digest → ⊥) → AreThere es inputs → ⊥
  one_missing k input r b at is met none all =
      let has = all input (Contains-at inputs k input at) in
      if_none r b is met none has.0 has.1

  -- one more that is there
  pub one_more : (k : ℕ) (input : Key × ℕ) (r : Option Digest) (b : Bool) → AreThereBefore es k inputs → slice_get inputs k ≡ Some input → is_some r ≡ not b → b ≡ false → IfSome r (HasOutput es input) → AreThereBefore es (k + 1) inputs
  one_more k input r b before at is unmet some j other lt e = elim (cases_eq j k) [
    | inl same ↦ (let has = if_some {P = HasOutput es input} r b is unmet some in
        let one : input ≡ other = some_is input other (sym at ∙ ap (slice_get inputs) (sym same) ∙ e) in
        (has.0, subst (λ (i : Key × ℕ). HasOutput es i has.0) one has.1))
    | inr apart ↦ before j other (omega (arith, lt, apart)) e
  ]

  -- all of them
  pub all_there : (k : ℕ) → length inputs ≤ k → AreThereBefore es k inputs → AreThere es inputs
  all_there k past before input has =
      let a = at_Contains inputs input has in
      before a.0 input (let within = slice_get_within inputs a.0 input a.1 in omega (arith, within, past)) a.1

-- ---- one key

-- a waiting key that isn't marked is ready where its inputs are there
pub ready_there : (t : Table) (marks : List Bool) → AreKept t marks → (n : ℕ) (e x : Entry) (inputs : List (Key × ℕ)) → slice_get t.entries.items n ≡ Some e → x ≡ get_or t.entries.items n x
    → x.progress ≡ Waiting → flag_at marks n ≡ false → inputs ≡ x.inputs → (r : Bool) → MatchBool r (AreThere t.entries.items inputs) (AreThere t.entries.items inputs → ⊥)
    → MatchBool r (IsReady t.entries.items e) (IsReady t.entries.items e → ⊥)
ready_there t marks h n e x inputs at read waiting unmarked same true all =
    let is = read_at t.entries.items n e x at read in
    let inputs_are : inputs ≡ e.inputs = same ∙ ap (λ (y : Entry). y.inputs) (sym is) in
    record {
      waiting = ap (λ (y : Entry). y.progress) is ∙ waiting;
      not_failing = λ f.
          let m = all_marked t.entries.items marks h.marked e.key f in
          let one = one_number t.entries.items (distinct t h.numbered) m.number n m.entry e m.at at m.named in
          let met : flag_at marks n ≡ true = ap (flag_at marks) (sym one) ∙ m.marked in
          cc (met, unmarked);
      inputs = subst (AreThere t.entries.items) inputs_are all;
    }
ready_there t marks h n e x inputs at read waiting unmarked same false none = λ r.
    let is = read_at t.entries.items n e x at read in
    let inputs_are : inputs ≡ e.inputs = same ∙ ap (λ (y : Entry). y.inputs) (sym is) in
    none (subst (AreThere t.entries.items) (sym inputs_are) r.inputs)

-- a key that isn't waiting is not
pub not_waiting : (es : List Entry) (n : ℕ) (e x : Entry) → slice_get es n ≡ Some e → x ≡ get_or es n x → (x.progress ≡ Waiting → ⊥) → IsReady es e → ⊥
not_waiting es n e x at read never r = never (ap (λ (y : Entry). y.progress) (sym (read_at es n e x at read)) ∙ r.waiting)

-- ---- what a test of one key says

on_true : (P Q : Type 0) (b : Bool) → b ≡ true → MatchBool b P Q → P
on_true P Q true e h = h
on_true P Q false e h = absurd (cc e)

on_false : (P Q : Type 0) (b : Bool) → b ≡ false → MatchBool b P Q → Q
on_false P Q true e h = absurd (cc e)
on_false P Q false e h = h

pub ready_met : (es : List Entry) (n : ℕ) (b : Bool) → n < length es → b ≡ true → ((entry : Entry) → slice_get es n ≡ Some entry → MatchBool b (IsReady es entry) (IsReady es entry → ⊥)) → IsReadyAt es n
ready_met es n b within met is =
    let e = at_place es n within in
    record { entry = e.0; at = e.1; ready = on_true (IsReady es e.0) (IsReady es e.0 → ⊥) b met (is e.0 e.1) }

pub ready_unmet : (es : List Entry) (n : ℕ) (b : Bool) → b ≡ false → ((entry : Entry) → slice_get es n ≡ Some entry → MatchBool b (IsReady es entry) (IsReady es entry → ⊥)) → IsReadyAt es n → ⊥
ready_unmet es n b unmet is r = on_false (IsReady es r.entry) (IsReady es r.entry → ⊥) b unmet (is r.entry r.at) r.ready

-- ---- a key is handed out

module _ (es : List Entry) (marks : List Bool) (n : ℕ) (e : Entry) (at : slice_get es n ≡ Some e) where
  abbrev after : List Entry
  after = set es n (record e { progress = Out })

  -- an input that never comes then didn't before
  lost_before : (input : Key × ℕ) → IsLost after marks input → IsLost es marks input
  lost_before input (is_marked m) = elim (get_set_cases es n m.number (record e { progress = Out }) e m.entry at m.at) [
    | inl same ↦ is_marked (record { number = n; entry = e; at = at; named = ap key_of same.1 ∙ m.named; marked = ap (flag_at marks) (sym same.0) ∙ m.marked })
    | inr other ↦ is_marked (record { number = m.number; entry = m.entry; at = other.1; named = m.named; marked = m.marked })
  ]
  lost_before input (is_lacking l) =
      let s = l.done.submitted in
      elim (get_set_cases es n s.number (record e { progress = Out }) e l.done.entry at s.at) [
        | inl same ↦ (let bad : Out ≡ Done l.outputs = ap (λ (y : Entry). y.progress) same.1 ∙ l.done.done in absurd (cc bad))
        | inr other ↦ is_lacking (record {
          outputs = l.outputs;
          done = record { entry = l.done.entry; submitted = record { number = s.number; at = other.1; named = s.named }; done = l.done.done };
          missing = l.missing;
        })
      ]

  marked_before : MarksLost es marks → MarksLost after marks
  marked_before h m f there lost = elim (get_set_cases es n m (record e { progress = Out }) e f at there) [
    | inl same ↦ (let inputs : f.inputs ≡ e.inputs = ap (λ (y : Entry). y.inputs) (sym same.1) in
        ap (flag_at marks) same.0 ∙ h n e at
        (record { input = lost.input; has = subst (λ (xs : List (Key × ℕ)). Contains xs lost.input) inputs lost.has; lost = lost_before lost.input lost.lost }))
    | inr other ↦ h m f other.1 (record { input = lost.input; has = lost.has; lost = lost_before lost.input lost.lost })
  ]

  -- the marks stay right where a waiting key goes out
  pub marks_out : (now : List Entry) → e.progress ≡ Waiting → now ≡ set es n (record e { progress = Out }) → AreMarks es marks → AreMarks now marks
  marks_out now waiting now_is h =
      let grows = moved_grows es n e at Out (λ outputs done. cc (waiting, done)) (λ fault failed. cc (waiting, failed)) in
      let all : AreMarks after marks = record {
        count = h.count ∙ sym (length-set es n (record e { progress = Out }));
        fail = moved_fail es n e at Out grows marks h.fail;
        called = moved_called es n e at Out marks h.called (λ fault is. absurd (cc is));
        lost = marked_before h.lost;
      } in
      rw now_is all
