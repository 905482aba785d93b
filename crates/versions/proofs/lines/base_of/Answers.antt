use Rattle.std.proofs.Common.{List, Option, map, ap, sym, ◌∙◌}
use Rattle.names.specs.Contents.{empty_digest}
use Rattle.protocol.specs.Machine.{digest_for}
use Rattle.protocol.specs.Ledger.{last_digest}
use Rattle.versions.specs.declared.lines.Addition.{Addition}
use Rattle.versions.specs.declared.lines.Added.{Added}
use Rattle.versions.specs.Lines.{lines_with, news_of}
use Rattle.versions.proofs.LineWords.{last_digest-with}
use Rattle.versions.proofs.lines.base_of.Goals as goal

pub returns-in-Some-added_digest-clause-digest : goal.returns-in-Some-added_digest-clause-digest
returns-in-Some-added_digest-clause-digest c =
    sym (ap (λ (o : Option Added). last_digest empty_digest (lines_with c.args.lines.now o c.args.slot.now)) c.in-Some.is
    ∙ last_digest-with empty_digest c.args.lines.now c.in-Some.added c.args.slot.now c.in-Some-added_digest.digest
    (ap (λ (as' : List Addition). digest_for c.args.slot.now (map news_of as')) (sym c.as_slice.ensures.value) ∙ sym c.added_digest.ensures ∙ c.in-Some-added_digest.is))
