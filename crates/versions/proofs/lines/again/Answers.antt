use Rattle.std.proofs.Common.{◌∙◌, ap, map, rules}
use Rattle.versions.specs.Lines.{news_of}
use Rattle.versions.proofs.Again.{ready_again}
use Rattle.versions.proofs.lines.again.Goals as goal

pub returns-clause-ready : goal.returns-clause-ready
returns-clause-ready c =
    ready_again c.args.lines.now c.in-Some.added.ticket c.in-Some.added.additions.items c.in_ok-additions.additions.items
    (c.in_ok-additions.ensures.news ∙ c.as_slice-2.ensures.value ∙ c.in_ok-news.ensures ∙ ap (map news_of) c.as_slice.ensures.value) c.in_ok-additions.ensures.room (search rules)
