use Rattle.std.proofs.Common.{◌≤◌, ◌∙◌, ℕ, List, IsSomeAnd, ap, subst}
use Rattle.names.specs.declared.digest.Key.{Key}
use Rattle.jobs.specs.History.{History}
use Rattle.jobs.specs.Kept.{history}
use Rattle.keytable.specs.Needs.{NeedsOutput}
use Rattle.jobs.proofs.jobs.Jobs.last_output_needed.Goals as goal

pub returns-clause-greatest : goal.returns-clause-greatest
returns-clause-greatest c =
    subst (λ (h : History). (index : ℕ) → NeedsOutput h.jobs h.keys c.args.key.now index → IsSomeAnd c.last_needed.result (λ last. index ≤ last))
    (ap (λ (xs : List (Key × ℕ)). history xs c.self.inside.known.table.entries.items) c.as_slice.ensures.value ∙ c.self.view_is) c.last_needed.ensures.greatest
