use Rattle.std.proofs.Common.{rules, ◌≡◌, IfOk, ℕ, length, subst}
use Rattle.solving.proofs.one.solve_on_one.Goals as goal

pub returns-clause-count : goal.returns-clause-count
returns-clause-count g c =
    let same : c.len-count.result ≡ length c.args.jobs.items = search rules in
    subst (λ (n : ℕ). IfOk c.end_of.result (λ end. length end.answers.items ≡ n)) same c.end_of.ensures.count
