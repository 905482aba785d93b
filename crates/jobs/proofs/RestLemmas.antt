-- Where nothing is left to do, no job waits.
use Rattle.std.proofs.Common.{◌≡◌, ℕ, zero, suc, ◌<◌, List, Option, Some, None, Result, Ok, slice_get, refl, ap, subst, arith}
use Rattle.std.specs.List.{Contains}
use Rattle.names.specs.declared.digest.Digest.{Digest}
use Rattle.names.specs.declared.digest.Key.{Key}
use Rattle.jobs.specs.declared.answer.Answer.{Answer}
use Rattle.jobs.specs.declared.answer.Answer.TheVariants as answers
use Rattle.jobs.specs.declared.answer.JobsRefusal.{JobsRefusal}
use Rattle.keytable.specs.declared.entry.Entry.{Entry}
use Rattle.keytable.specs.declared.entry.Progress.{Progress}
use Rattle.keytable.specs.declared.entry.Progress.TheVariants.{Waiting, Out, Done, Failed}
use Rattle.keytable.specs.Failing.{IsSubmitted, IsDone, HasOutput, Fails, called, input_fails, input_lacks}
use Rattle.jobs.specs.History.{History, IsAnswer, output, lacks, fails, waits}
use Rattle.jobs.specs.Rests.{IsWhole, IsRanked, IsAtRest}

module _ (h : History) (rank : Key → ℕ) (whole : IsWhole h) (ranked : IsRanked h rank) (rest : IsAtRest h) where
  -- what is taken of an input's key that is done
  taken : (key : Key) (e : Entry) (input : Key × ℕ) → IsSubmitted h.keys key e → Contains e.inputs input → (Fails h.keys key → ⊥) → (outputs : List Digest) → IsDone h.keys input.0 outputs
      → (o : Option Digest) → slice_get outputs input.1 ≡ o → (digest : Digest) × HasOutput h.keys input digest
  taken key e input s has never outputs done None there = absurd (never (input_lacks key e input s has (record { outputs = outputs; done = done; missing = there })))
  taken key e input s has never outputs done (Some digest) there = (digest, record { outputs = outputs; done = done; there = there })

  -- no key of a rank below a bound waits, unless it fails
  abbrev NoneWaits : ℕ → Type 0
  NoneWaits bound = (key : Key) (e : Entry) → rank key < bound → IsSubmitted h.keys key e → (Fails h.keys key → ⊥) → e.progress ≡ Waiting → ⊥

  -- an input whose key has such a rank
  there : (bound : ℕ) → NoneWaits bound → (key : Key) (e : Entry) (input : Key × ℕ) → IsSubmitted h.keys key e → Contains e.inputs input → (Fails h.keys key → ⊥) → (x : Entry) → IsSubmitted h.keys input.0 x → rank input.0 < bound
      → (p : Progress) → x.progress ≡ p → (digest : Digest) × HasOutput h.keys input digest
  there bound lower key e input s has never x of less Waiting is = absurd (lower input.0 x less of (λ f. never (input_fails key e input s has f)) is)
  there bound lower key e input s has never x of less Out is = absurd (rest.none_out of.number x of.at is)
  there bound lower key e input s has never x of less (Done outputs) is = taken key e input s has never outputs (record { entry = x; submitted = of; done = is }) (slice_get outputs input.1) refl
  there bound lower key e input s has never x of less (Failed fault) is = absurd (never (input_fails key e input s has (called input.0 x fault of is)))

  not_waiting : (bound : ℕ) → NoneWaits bound
  not_waiting zero key e below s never waiting = absurd (omega (arith, below))
  not_waiting (suc bound) key e below s never waiting = rest.none_ready s.number e s.at (record {
    waiting = waiting;
    not_failing = λ f. never (subst (Fails h.keys) s.named f);
    inputs = λ input has.
        let of = whole.inputs s.number e input s.at has in
        let less : rank input.0 < bound = (let r = ranked s.number e input s.at has in let same = ap rank s.named in omega (arith, r, same, below)) in
        there bound (not_waiting bound) key e input s has never of.0 of.1 less of.0.progress refl;
  })

  -- a submitted key is done or fails
  not_open : (key : Key) (e : Entry) → IsSubmitted h.keys key e → ((outputs : List Digest) → IsDone h.keys key outputs → ⊥) → (Fails h.keys key → ⊥) → (p : Progress) → e.progress ≡ p → ⊥
  not_open key e s undone never Waiting is = not_waiting (suc (rank key)) key e (omega arith) s never is
  not_open key e s undone never Out is = rest.none_out s.number e s.at is
  not_open key e s undone never (Done outputs) is = undone outputs (record { entry = e; submitted = s; done = is })
  not_open key e s undone never (Failed fault) is = never (called key e fault s is)

  answered : (job : ℕ) (wanted : Key × ℕ) (given : Result Answer JobsRefusal) → slice_get h.jobs job ≡ Some wanted → IsAnswer h.keys wanted given → given ≡ Ok answers.Waiting → ⊥
  answered job wanted given at (output digest has is) waiting = cc (is, waiting)
  answered job wanted given at (lacks l is) waiting = cc (is, waiting)
  answered job wanted given at (fails f is) waiting = cc (is, waiting)
  answered job wanted given at (waits undone never is) waiting = (let of = whole.jobs job wanted at in not_open wanted.0 of.0 of.1 undone never of.0.progress refl)

pub no_job_waits : (h : History) (rank : Key → ℕ) (job : ℕ) (wanted : Key × ℕ) (given : Result Answer JobsRefusal) → IsWhole h → IsRanked h rank → IsAtRest h
    → slice_get h.jobs job ≡ Some wanted → IsAnswer h.keys wanted given → given ≡ Ok answers.Waiting → ⊥
no_job_waits h rank job wanted given whole ranked rest at answer = answered h rank whole ranked rest job wanted given at answer
