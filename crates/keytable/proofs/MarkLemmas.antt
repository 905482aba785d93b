-- Marks on keys that fail.
use Rattle.std.proofs.Common.{◌≡◌, ℕ, ◌<◌, Bool, true, false, not, List, map, length, get_or, Option, Some, None, slice_get, refl, ap, sym, ◌∙◌, subst, is_some, Bor}
use Rattle.std.specs.Option.{option_copied}
use Rattle.std.specs.Bool.{MatchBool}
use Rattle.std.specs.List.{Contains, IsDistinct}
use Rattle.std.proofs.lemmas.Option.{get_or_from_slice_get, slice_get_read}
use Rattle.lists.proofs.Places.{some_is}
use Rattle.names.specs.declared.digest.Digest.{Digest}
use Rattle.names.specs.declared.digest.Key.{Key}
use Rattle.ordering.specs.Flags.{flag_at}
use Rattle.keytable.specs.declared.entry.Entry.{Entry}
use Rattle.keytable.specs.declared.entry.Progress.TheVariants.{Out, Done}
use Rattle.keytable.specs.declared.table.Table.{Table}
use Rattle.keytable.specs.Failing.{IsSubmitted, LacksOutput, Fails, called, input_fails, input_lacks}
use Rattle.keytable.specs.Marks.{IsMarked, IsLost, is_marked, is_lacking, HasLost, MarksFail, AreMarks}
use Rattle.keytable.specs.Tables.{key_eq, key_of, IsTable}
use Rattle.keytable.proofs.TableLemmas.{one_number}

-- ---- the entry of a key

-- an entry that was read at its number
pub read_at : (es : List Entry) (n : ℕ) (e x : Entry) → slice_get es n ≡ Some e → x ≡ get_or es n x → e ≡ x
read_at es n e x at read = sym (read ∙ get_or_from_slice_get es n e x at)

-- a key has one entry
pub one_entry : (es : List Entry) → IsDistinct key_eq (map key_of es) → (n m : ℕ) (e f : Entry) → slice_get es n ≡ Some e → slice_get es m ≡ Some f → e.key ≡ f.key → e ≡ f
one_entry es unique n m e f at on same =
    let is = one_number es unique n m e f at on same in
    some_is e f (sym at ∙ ap (slice_get es) is ∙ on)

-- the keys of a table are distinct
pub distinct : (t : Table) → IsTable t → IsDistinct key_eq (map key_of t.entries.items)
distinct t h = subst (IsDistinct key_eq) h.listed h.unique

-- ---- inputs that never come

module _ (es : List Entry) (marks : List Bool) (unique : IsDistinct key_eq (map key_of es)) (input : Key × ℕ) (n : ℕ) (e : Entry) (at : slice_get es n ≡ Some e) (named : e.key ≡ input.0) where
  -- by the mark of its key
  pub marked_lost : flag_at marks n ≡ true → IsLost es marks input
  marked_lost flag = is_marked (record { number = n; entry = e; at = at; named = named; marked = flag })

  -- its key isn't marked, so it has to lack the output
  unmarked : flag_at marks n ≡ false → IsLost es marks input → LacksOutput es input
  unmarked flag (is_marked m) =
      let same = one_number es unique m.number n m.entry e m.at at (m.named ∙ sym named) in
      let met : flag_at marks n ≡ true = ap (flag_at marks) (sym same) ∙ m.marked in
      absurd (cc (met, flag))
  unmarked flag (is_lacking l) = l

  -- where its key isn't done, it may still come
  pub not_done : flag_at marks n ≡ false → ((outputs : List Digest) → e.progress ≡ Done outputs → ⊥) → IsLost es marks input → ⊥
  not_done flag never h =
      let l = unmarked flag h in
      let s = l.done.submitted in
      let same = one_entry es unique s.number n l.done.entry e s.at at (s.named ∙ sym named) in
      never l.outputs (ap (λ (x : Entry). x.progress) (sym same) ∙ l.done.done)

  -- where it is done, its outputs tell
  outputs_tell : flag_at marks n ≡ false → (outputs : List Digest) → e.progress ≡ Done outputs → (d : Digest) → slice_get outputs input.1 ≡ Some d → IsLost es marks input → ⊥
  outputs_tell flag outputs done d there h =
      let l = unmarked flag h in
      let s = l.done.submitted in
      let same = one_entry es unique s.number n l.done.entry e s.at at (s.named ∙ sym named) in
      let both : Done outputs ≡ Done l.outputs = sym done ∙ ap (λ (x : Entry). x.progress) (sym same) ∙ l.done.done in
      let one : outputs ≡ l.outputs = cc in
      let none = l.missing in
      let bad : Some d ≡ None = sym there ∙ ap (λ (xs : List Digest). slice_get xs input.1) one ∙ none in
      absurd (cc bad)

  by_outputs : (r : Option Digest) (b : Bool) → is_some r ≡ not b → flag_at marks n ≡ false → (outputs : List Digest) → e.progress ≡ Done outputs → slice_get outputs input.1 ≡ r
      → MatchBool b (IsLost es marks input) (IsLost es marks input → ⊥)
  by_outputs None true is flag outputs done there =
      is_lacking (record { outputs = outputs; done = record { entry = e; submitted = record { number = n; at = at; named = named }; done = done }; missing = there })
  by_outputs None false is flag outputs done there = absurd (cc is)
  by_outputs (Some d) true is flag outputs done there = absurd (cc is)
  by_outputs (Some d) false is flag outputs done there = outputs_tell flag outputs done d there

  pub by_output : (r : Option Digest) (b : Bool) → is_some r ≡ not b → flag_at marks n ≡ false → (outputs list : List Digest) → e.progress ≡ Done outputs → list ≡ outputs → r ≡ slice_get list input.1
      → MatchBool b (IsLost es marks input) (IsLost es marks input → ⊥)
  by_output r b is flag outputs list done same there = by_outputs r b is flag outputs done (ap (λ (xs : List Digest). slice_get xs input.1) (sym same) ∙ sym there)

-- ---- all that fails is marked

pub all_marked : (es : List Entry) (marks : List Bool) → AreMarks es marks → (key : Key) → Fails es key → IsMarked es marks key
all_marked es marks h key (called _ entry fault s failed) =
    record { number = s.number; entry = entry; at = s.at; named = s.named; marked = h.called s.number entry fault s.at failed }
all_marked es marks h key (input_fails _ entry input s has f) =
    let m = all_marked es marks h input.0 f in
    record { number = s.number; entry = entry; at = s.at; named = s.named; marked = h.lost s.number entry s.at (record { input = input; has = has; lost = is_marked m }) }
all_marked es marks h key (input_lacks _ entry input s has l) =
    record { number = s.number; entry = entry; at = s.at; named = s.named; marked = h.lost s.number entry s.at (record { input = input; has = has; lost = is_lacking l }) }

-- ---- a key with such an input fails

-- an entry with an input that never comes fails
pub lost_fails : (es : List Entry) (marks : List Bool) → MarksFail es marks → (n : ℕ) (e : Entry) → slice_get es n ≡ Some e → HasLost es marks e.inputs → Fails es e.key
lost_fails es marks fail n e at h = lost_input h.input h.has h.lost
  where
    lost_input : (input : Key × ℕ) → Contains e.inputs input → IsLost es marks input → Fails es e.key
    lost_input input has (is_marked m) = input_fails e.key e input (record { number = n; at = at; named = refl }) has
        (subst (Fails es) m.named (fail m.number m.entry m.at m.marked))
    lost_input input has (is_lacking l) = input_lacks e.key e input (record { number = n; at = at; named = refl }) has l

-- there is a referent where there is a reference
pub is_some_copied : {T : Type 0} (r : Option (Bor T)) (b : Bool) → is_some r ≡ not b → is_some (option_copied r) ≡ not b
is_some_copied None b h = h
is_some_copied (Some x) b h = h

-- an entry that was read
pub entry_at : (es : List Entry) (n : ℕ) (x : Entry) → n < length es → x ≡ get_or es n x → slice_get es n ≡ Some x
entry_at es n x within read = slice_get_read es (length es) n x refl within read

-- its inputs, as a slice
pub of_slice : (es : List Entry) (marks : List Bool) (e : Entry) (inputs : List (Key × ℕ)) → inputs ≡ e.inputs → HasLost es marks e.inputs → HasLost es marks inputs
of_slice es marks e inputs same h = subst (HasLost es marks) (sym same) h

pub to_slice : (es : List Entry) (marks : List Bool) (e : Entry) (inputs : List (Key × ℕ)) → inputs ≡ e.inputs → HasLost es marks inputs → HasLost es marks e.inputs
to_slice es marks e inputs same h = subst (HasLost es marks) same h

-- an entry that isn't being solved is not the entry of a key that is
pub not_out : (t : Table) → IsTable t → (key : Key) (n : ℕ) (e x : Entry) → slice_get t.entries.items n ≡ Some e → e.key ≡ key → x ≡ get_or t.entries.items n x → (x.progress ≡ Out → ⊥)
    → (entry : Entry) → IsSubmitted t.entries.items key entry → entry.progress ≡ Out → ⊥
not_out t h key n e x at named read never entry s out =
    let same = one_entry t.entries.items (distinct t h) s.number n entry e s.at at (s.named ∙ sym named) in
    let is = read_at t.entries.items n e x at read in
    never (ap (λ (y : Entry). y.progress) (sym is ∙ sym same) ∙ out)
