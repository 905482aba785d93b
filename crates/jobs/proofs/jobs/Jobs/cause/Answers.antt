use Rattle.std.proofs.Common.{◌≡◌, ◌<◌, ◌∙◌, ℕ, Option, Some, None, length, refl, sym, subst, arith}
use Rattle.std.proofs.lemmas.Bool.Decides.{nat_tests}
use Rattle.std.proofs.lemmas.Option.{slice_get_read}
use Rattle.names.specs.declared.digest.Key.{Key}
use Rattle.lists.proofs.Places.{some_is}
use Rattle.keytable.specs.Causes.{IsCause}
use Rattle.jobs.specs.History.{History}
use Rattle.jobs.proofs.AnswerLemmas.{shown_at}
use Rattle.jobs.proofs.jobs.Jobs.cause.Goals as goal

pub returns-clause-cause : goal.returns-clause-cause
returns-clause-cause c = λ wanted is.
    let list = c.deref.result.now in
    let job = c.args.job.0 in
    let x = c.in-Some.wanted.now in
    let look = c.in-Some.ensures.lookup in
    let within : job < length list = (let test = look.0 in grind (arith, nat_tests)) in
    let there = shown_at c.self.inside.results.items list c.self.inside.known.table.entries.items c.args.self.now job x c.self.view_is c.deref.ensures.value (slice_get_read list (length list) job x refl within look.1) in
    subst (λ (w : Key × ℕ). IsCause c.args.self.now.keys w c.in_ok-cause.cause) (some_is x wanted (sym there ∙ is))
    (subst (λ (h : History). IsCause h.keys x c.in_ok-cause.cause) c.self.view_is c.in_ok-cause.ensures)

pub returns-clause-missing : goal.returns-clause-missing
returns-clause-missing c = λ none.
    let list = c.deref.result.now in
    let job = c.args.job.0 in
    let x = c.in-Some.wanted.now in
    let look = c.in-Some.ensures.lookup in
    let within : job < length list = (let test = look.0 in grind (arith, nat_tests)) in
    let there = shown_at c.self.inside.results.items list c.self.inside.known.table.entries.items c.args.self.now job x c.self.view_is c.deref.ensures.value (slice_get_read list (length list) job x refl within look.1) in
    let bad : ◌≡◌ {A = Option (Key × ℕ)} (Some x) None = sym there ∙ none in
    absurd (cc bad)
