use Rattle.std.proofs.Common.{Option, Some, None, length, ap, sym, ◌≡◌, ◌∙◌}
use Rattle.std.specs.Prelude.{unwrap_or}
use Rattle.names.specs.Contents.{empty_digest}
use Rattle.protocol.specs.Names.{Digest}
use Rattle.versions.specs.Line.{digest_in}
use Rattle.versions.proofs.LineWords.{last_digest-at}
use Rattle.versions.proofs.lines.last_digest.Goals as goal

pub returns-in-Some : goal.returns-in-Some
returns-in-Some c =
    let line = c.args.line.now in
    ap (λ (o : Option Digest). unwrap_or o empty_digest) (sym c.in-Some.is ∙ (c.digest_at.ensures ∙ ap (digest_in line) c.len.ensures.value))
    ∙ last_digest-at empty_digest line

pub returns-in-None : goal.returns-in-None
returns-in-None c =
    let line = c.args.line.now in
    c.empty_digest.ensures
    ∙ (ap (λ (o : Option Digest). unwrap_or o empty_digest) (sym c.in-None.is ∙ (c.digest_at.ensures ∙ ap (digest_in line) c.len.ensures.value))
    ∙ last_digest-at empty_digest line)
