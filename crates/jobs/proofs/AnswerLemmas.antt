-- The answer of a job, by the entry of its result's key.
use Rattle.std.proofs.Common.{◌≡◌, ℕ, Bool, true, false, List, get_or, length, ◌+◌, ◌<◌, arith, Option, Some, None, Result, Ok, Err, slice_get, refl, ap, sym, ◌∙◌, subst}
use Rattle.std.proofs.lemmas.Option.{slice_get_within}
use Rattle.names.specs.declared.digest.Digest.{Digest}
use Rattle.names.specs.declared.digest.Key.{Key}
use Rattle.ordering.specs.Flags.{flag_at}
use Rattle.jobs.specs.declared.answer.Answer.TheVariants as answers
use Rattle.jobs.specs.declared.answer.JobsRefusal.TheVariants.{NoOutput}
use Rattle.keytable.specs.declared.entry.Entry.{Entry}
use Rattle.keytable.specs.declared.entry.Progress.TheVariants.{Done}
use Rattle.keytable.specs.declared.table.Table.{Table}
use Rattle.keytable.specs.Failing.{IsSubmitted, IsDone, Fails}
use Rattle.jobs.specs.declared.answer.Answer.{Answer}
use Rattle.jobs.specs.declared.answer.JobsRefusal.{JobsRefusal}
use Rattle.jobs.specs.History.{History, IsAnswer, output, lacks, fails, waits}
use Rattle.keytable.specs.Kept.{AreKept}
use Rattle.jobs.specs.Kept.{history}
use Rattle.keytable.proofs.MarkLemmas.{all_marked, distinct, one_entry, read_at}
use Rattle.keytable.proofs.TableLemmas.{one_number}

module _ (t : Table) (marks : List Bool) (h : AreKept t marks) (wanted : Key × ℕ) where
  abbrev es : List Entry
  es = t.entries.items

  -- no entry has the key
  pub waits_missing : ((number : ℕ) (entry : Entry) → slice_get es number ≡ Some entry → entry.key ≡ wanted.0 → ⊥) → IsAnswer es wanted (Ok answers.Waiting)
  waits_missing none = waits
      (λ outputs d. none d.submitted.number d.entry d.submitted.at d.submitted.named)
      (λ f. let m = all_marked es marks h.marked wanted.0 f in none m.number m.entry m.at m.named)
      refl

  module _ (n : ℕ) (e x : Entry) (at : slice_get es n ≡ Some e) (named : e.key ≡ wanted.0) (read : x ≡ get_or es n x) where
    submitted : IsSubmitted es wanted.0 e
    submitted = record { number = n; at = at; named = named }

    done : (outputs : List Digest) → x.progress ≡ Done outputs → IsDone es wanted.0 outputs
    done outputs is = record { entry = e; submitted = submitted; done = ap (λ (y : Entry). y.progress) (read_at es n e x at read) ∙ is }

    -- its outputs tell
    pub output_given : (outputs list : List Digest) → x.progress ≡ Done outputs → list ≡ outputs → (d : Digest) → Some d ≡ slice_get list wanted.1 → IsAnswer es wanted (Ok (answers.Output d))
    output_given outputs list is same d there = output d
        (record { outputs = outputs; done = done outputs is; there = ap (λ (xs : List Digest). slice_get xs wanted.1) (sym same) ∙ sym there }) refl

    pub output_lacks : (outputs list : List Digest) → x.progress ≡ Done outputs → list ≡ outputs → None ≡ slice_get list wanted.1 → IsAnswer es wanted (Err (NoOutput wanted.1))
    output_lacks outputs list is same there = lacks
        (record { outputs = outputs; done = done outputs is; missing = ap (λ (xs : List Digest). slice_get xs wanted.1) (sym same) ∙ sym there }) refl

    -- it is marked
    pub marked_fails : flag_at marks n ≡ true → IsAnswer es wanted (Ok answers.Failed)
    marked_fails met = fails (subst (Fails es) named (h.marked.fail n e at met)) refl

    -- it is neither done nor marked
    pub waits_unmarked : ((outputs : List Digest) → x.progress ≡ Done outputs → ⊥) → flag_at marks n ≡ false → IsAnswer es wanted (Ok answers.Waiting)
    waits_unmarked never unmet = waits
        (λ outputs d.
        let s = d.submitted in
        let same = one_entry es (distinct t h.numbered) s.number n d.entry e s.at at (s.named ∙ sym named) in
        let is = read_at es n e x at read in
        never outputs (ap (λ (y : Entry). y.progress) (sym is ∙ sym same) ∙ d.done))
        (λ f.
        let m = all_marked es marks h.marked wanted.0 f in
        let same = one_number es (distinct t h.numbered) m.number n m.entry e m.at at (m.named ∙ sym named) in
        let met : flag_at marks n ≡ true = ap (flag_at marks) (sym same) ∙ m.marked in
        cc (met, unmet))
        refl

-- the answer of what a table of jobs is seen as
pub shown_answer : (results list : List (Key × ℕ)) (keys : List Entry) (h : History) (job : ℕ) (x : Key × ℕ) (given : Result Answer JobsRefusal) → history results keys ≡ h → list ≡ results → slice_get list job ≡ Some x
    → IsAnswer keys x given → (wanted : Key × ℕ) → slice_get h.jobs job ≡ Some wanted → IsAnswer h.keys wanted given
shown_answer results list keys h job x given view same there answer wanted is =
    let both : ◌≡◌ {A = Option (Key × ℕ)} (Some x) (Some wanted) = sym there ∙ ap (λ (xs : List (Key × ℕ)). slice_get xs job) same ∙ ap (λ (y : History). slice_get y.jobs job) view ∙ is in
    let one : x ≡ wanted = cc in
    subst (λ (w : Key × ℕ). IsAnswer h.keys w given) one (subst (λ (y : History). IsAnswer y.keys x given) view answer)

-- where there is no such job, none has an answer
pub no_job : (results list : List (Key × ℕ)) (keys : List Entry) (h : History) (job : ℕ) (given : Result Answer JobsRefusal) → history results keys ≡ h → list ≡ results → length list < job + 1
    → (wanted : Key × ℕ) → slice_get h.jobs job ≡ Some wanted → IsAnswer h.keys wanted given
no_job results list keys h job given view same past wanted is =
    let within = slice_get_within h.jobs job wanted is in
    let len = ap length same ∙ ap (λ (y : History). length y.jobs) view in
    absurd (omega (arith, within, len, past))

-- the job at a place of what a table of jobs is seen as
pub shown_at : (results list : List (Key × ℕ)) (keys : List Entry) (h : History) (job : ℕ) (x : Key × ℕ) → history results keys ≡ h → list ≡ results → slice_get list job ≡ Some x → slice_get h.jobs job ≡ Some x
shown_at results list keys h job x view same there = sym (ap (λ (y : History). slice_get y.jobs job) view) ∙ ap (λ (xs : List (Key × ℕ)). slice_get xs job) (sym same) ∙ there
