use Rattle.std.proofs.Common.{◌≡◌, subst}
use Rattle.keytable.specs.declared.entry.Entry.{Entry}
use Rattle.keytable.specs.declared.entry.Progress.TheVariants.{Out}
use Rattle.keytable.specs.Failing.{IsSubmitted}
use Rattle.jobs.specs.History.{History}
use Rattle.jobs.proofs.StayLemmas.{moves_shown}
use Rattle.jobs.proofs.jobs.Jobs.end.Goals as goal

pub returns-in_default-clause-only : goal.returns-in_default-clause-only
returns-in_default-clause-only c = subst (λ (h : History). (entry : Entry) → IsSubmitted h.keys c.args.key.now entry → entry.progress ≡ Out → ⊥) c.self.view_is c.in_default.ensures.none

pub returns-clause-ok : goal.returns-clause-ok
returns-clause-ok c =
    let found = c.in-Some.ensures.found in
    moves_shown c.self.inside.results.items c.self.inside.known.table.entries.items c.finish.new.known.table.entries.items c.args.self.now c.in-Some.number found.0 c.args.key.now Out c.args.progress c.self.view_is found.1 found.2 found.3 (c.finish.ensures.entries found.0 found.1)

pub finish-requires-clause-out : goal.finish-requires-clause-out
finish-requires-clause-out c = let found = c.in-Some.ensures.found in (found.0, found.1, found.3)
