use Rattle.std.proofs.Common.{ap, ◌∙◌}
use Rattle.versions.specs.Probes.{number_among}
use Rattle.versions.proofs.Searching.{number_on_line, found_on_line, only_on_line}
use Rattle.versions.proofs.line.Line.number_of.Goals as goal

pub returns-clause-value : goal.returns-clause-value
returns-clause-value c =
    c.search.ensures.value ∙ (ap (λ ts. number_among ts c.args.ticket) c.of.ensures.tickets ∙ number_on_line c.args.self.now c.args.ticket)

pub returns-clause-found : goal.returns-clause-found
returns-clause-found c = found_on_line c.args.self.now c.args.ticket c.of.result.tickets c.search.result c.of.ensures.tickets c.search.ensures.found

pub returns-clause-only : goal.returns-clause-only
returns-clause-only c = only_on_line c.args.self.now c.args.ticket c.of.result.tickets c.search.result c.of.ensures.tickets c.search.ensures.only
