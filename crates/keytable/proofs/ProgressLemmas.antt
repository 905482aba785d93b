-- What a key's progress changes.
use Rattle.std.proofs.Common.{◌≡◌, ℕ, zero, suc, inl, inr, Bool, true, List, [], ◌∷◌, ◌++◌, map, length, take, drop, set, Some, slice_get, refl, ap, sym, ◌∙◌, subst, arith}
use Rattle.std.specs.List.{Contains}
use Rattle.std.proofs.lemmas.Bool.{cases_eq}
use Rattle.std.proofs.lemmas.List.{take-append-le, take_all}
use Rattle.lists.proofs.Places.{get-set_same, get-set_other, get_set_cases, some_is}
use Rattle.names.specs.declared.digest.Digest.{Digest}
use Rattle.names.specs.declared.digest.Key.{Key}
use Rattle.ordering.specs.Flags.{flag_at}
use Rattle.keytable.specs.declared.entry.Entry.{Entry}
use Rattle.keytable.specs.declared.entry.Fault.{Fault}
use Rattle.keytable.specs.declared.entry.Progress.{Progress}
use Rattle.keytable.specs.declared.entry.Progress.TheVariants.{Done, Failed}
use Rattle.keytable.specs.Failing.{IsSubmitted, IsDone, LacksOutput, HasOutput, Fails, called, input_fails, input_lacks}
use Rattle.keytable.specs.Marks.{MarksFail, MarksCalled, KeepsMarks}
use Rattle.keytable.specs.Tables.{key_of}

-- the keys stay where one entry keeps its key
pub keys_set : (es : List Entry) (n : ℕ) (e x : Entry) → slice_get es n ≡ Some e → x.key ≡ e.key → map key_of (set es n x) ≡ map key_of es
keys_set [] n e x at same = refl
keys_set (y ∷ es) zero e x at same = (let is : y ≡ e = cc in ap (λ (k : Key). k ∷ map key_of es) (same ∙ sym (ap key_of is)))
keys_set (y ∷ es) (suc n) e x at same = ap (λ (ks : List Key). y.key ∷ ks) (keys_set es n e x at same)

-- a whole slice, written back
pub whole : (xs ys : List Bool) (n : ℕ) → n ≡ length xs → length ys ≡ length xs → take n (ys ++ drop (length ys) xs) ≡ ys
whole xs ys n is same = ap (λ k. take k (ys ++ drop (length ys) xs)) (is ∙ sym same) ∙ take-append-le (length ys) ys (drop (length ys) xs) (omega arith) ∙ take_all (length ys) ys (omega arith)

-- ---- keys that grow

-- a submitted entry later: its inputs stay, and once it is done or failed it stays so
pub record Stays (es : List Entry) (key : Key) (entry : Entry) : Type 0 where
  pub now : Entry
  pub submitted : IsSubmitted es key now
  pub inputs : entry.inputs ≡ now.inputs
  pub done : (outputs : List Digest) → entry.progress ≡ Done outputs → now.progress ≡ Done outputs
  pub failed : (fault : Fault) → entry.progress ≡ Failed fault → now.progress ≡ Failed fault

-- each entry stays
abbrev pub Grows : List Entry → List Entry → Type 0
Grows old new = (key : Key) (entry : Entry) → IsSubmitted old key entry → Stays new key entry

pub done_grows : (old new : List Entry) → Grows old new → (key : Key) (outputs : List Digest) → IsDone old key outputs → IsDone new key outputs
done_grows old new grows key outputs d =
    let s = grows key d.entry d.submitted in
    record { entry = s.now; submitted = s.submitted; done = s.done outputs d.done }

pub lacks_grows : (old new : List Entry) → Grows old new → (input : Key × ℕ) → LacksOutput old input → LacksOutput new input
lacks_grows old new grows input l = record { outputs = l.outputs; done = done_grows old new grows input.0 l.outputs l.done; missing = l.missing }

pub has_grows : (old new : List Entry) → Grows old new → (input : Key × ℕ) (digest : Digest) → HasOutput old input digest → HasOutput new input digest
has_grows old new grows input digest h = record { outputs = h.outputs; done = done_grows old new grows input.0 h.outputs h.done; there = h.there }

-- what fails still does
pub fails_grows : (old new : List Entry) → Grows old new → (key : Key) → Fails old key → Fails new key
fails_grows old new grows key (called _ entry fault s failed) =
    let t = grows key entry s in
    called key t.now fault t.submitted (t.failed fault failed)
fails_grows old new grows key (input_fails _ entry input s has f) =
    let t = grows key entry s in
    input_fails key t.now input t.submitted (subst (λ (xs : List (Key × ℕ)). Contains xs input) t.inputs has) (fails_grows old new grows input.0 f)
fails_grows old new grows key (input_lacks _ entry input s has l) =
    let t = grows key entry s in
    input_lacks key t.now input t.submitted (subst (λ (xs : List (Key × ℕ)). Contains xs input) t.inputs has) (lacks_grows old new grows input l)

-- ---- one key's progress

module _ (es : List Entry) (n : ℕ) (e : Entry) (at : slice_get es n ≡ Some e) (to : Progress) where
  abbrev pub moved : List Entry
  moved = set es n (record e { progress = to })

  pub moved_keys : map key_of moved ≡ map key_of es
  moved_keys = keys_set es n e (record e { progress = to }) at refl

  -- entries grow where one that is neither done nor failed moves on
  pub moved_grows : ((outputs : List Digest) → e.progress ≡ Done outputs → ⊥) → ((fault : Fault) → e.progress ≡ Failed fault → ⊥) → Grows es moved
  moved_grows not_done not_failed key entry s = elim (cases_eq s.number n) [
    | inl same ↦ (let is : e ≡ entry = some_is e entry (sym at ∙ ap (slice_get es) (sym same) ∙ s.at) in
        record {
          now = record e { progress = to };
          submitted = record { number = n; at = get-set_same es n (record e { progress = to }) e at; named = ap key_of is ∙ s.named };
          inputs = ap (λ (x : Entry). x.inputs) (sym is);
          done = λ outputs done. absurd (not_done outputs (ap (λ (x : Entry). x.progress) is ∙ done));
          failed = λ fault failed. absurd (not_failed fault (ap (λ (x : Entry). x.progress) is ∙ failed));
        })
    | inr apart ↦ record {
      now = entry;
      submitted = record { number = s.number; at = get-set_other es n s.number (record e { progress = to }) apart ∙ s.at; named = s.named };
      inputs = refl;
      done = λ outputs done. done;
      failed = λ fault failed. failed;
    }
  ]

  -- the marks that there were still fail
  pub moved_fail : Grows es moved → (marks : List Bool) → MarksFail es marks → MarksFail moved marks
  moved_fail grows marks fail m f there met = elim (get_set_cases es n m (record e { progress = to }) e f at there) [
    | inl same ↦ subst (λ (x : Entry). Fails moved x.key) same.1 (fails_grows es moved grows e.key (fail n e at (ap (flag_at marks) (sym same.0) ∙ met)))
    | inr other ↦ fails_grows es moved grows f.key (fail m f other.1 met)
  ]

  -- each other key that was called failed is marked
  pub moved_called : (marks : List Bool) → MarksCalled es marks → ((fault : Fault) → to ≡ Failed fault → flag_at marks n ≡ true) → MarksCalled moved marks
  moved_called marks called_before here m f fault there failed = elim (get_set_cases es n m (record e { progress = to }) e f at there) [
    | inl same ↦ ap (flag_at marks) same.0 ∙ here fault (ap (λ (x : Entry). x.progress) same.1 ∙ failed)
    | inr other ↦ called_before m f fault other.1 failed
  ]

-- what is called failed stays marked where marks stay
pub called_keeps : (es : List Entry) (old new : List Bool) → KeepsMarks old new → MarksCalled es old → MarksCalled es new
called_keeps es old new keeps before m f fault there failed = keeps m (before m f fault there failed)
