use Rattle.std.proofs.Common.{Err, sym, ap, subst, ◌∙◌}
use Rattle.names.specs.Decimals.{Lacks}
use Rattle.names.proofs.NameLemmas.{Lacks-middle, split_same}
use Rattle.merging.specs.Texts.{path_text}
use Rattle.merging.proofs.TextLaws.{path_lacks_space, passed_on}
use Rattle.merging.proofs.text.line_of.Goals as goal

pub returns-in_default-clause-only : goal.returns-in_default-clause-only
returns-in_default-clause-only c = λ same line fits e. Lacks-middle 32 (path_text line.0) line.1 (subst (Lacks 32) e c.in_default.ensures.only)

pub returns-in_err-path-clause-only : goal.returns-in_err-path-clause-only
returns-in_err-path-clause-only c = λ same line fits e.
    let bad = passed_on _ _ _ c.from_residual.ensures.1 same in
    let found = c.in-Some.ensures.found in
    let parts = split_same 32 c.in-Some.path.now (path_text line.0) c.in-Some.entry.now line.1 (sym found.0 ∙ e) found.1 (path_lacks_space line.0 fits) in
    c.in_err-path.ensures.only (ap Err bad) line.0 fits (c.as_bytes.ensures.value ∙ parts.0)
