use Rattle.std.proofs.Common.{sym, ◌∙◌, subst}
use Rattle.std.specs.Str.{IsUtf8}
use Rattle.names.proofs.NameLemmas.{id_text-injective}
use Rattle.names.proofs.escape.id_of.Goals as goal

pub returns-clause-only : goal.returns-clause-only
returns-clause-only c = λ same id fits utf8 e.
    let is = id_text-injective id c.in_ok-bytes.bytes.items fits c.in_ok-bytes.ensures.bytes (sym e ∙ sym c.as_bytes.ensures.value ∙ c.in_ok-bytes.ensures.spelled) in
    cc (c.in-Err.ensures.succeeds (subst IsUtf8 is utf8))
