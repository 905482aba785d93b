use Rattle.std.specs.Prelude.{slice_get}
use Rattle.std.proofs.Common.{length, ◌-◌, sym, ap, ◌∙◌}
use Rattle.versions.specs.Line.{is_above_all}
use Rattle.versions.proofs.LineLemmas.{below_last}
use Rattle.versions.proofs.line.Line.is_below.Goals as goal

pub returns-in-Some : goal.returns-in-Some
returns-in-Some c =
    sym (below_last c.args.ticket c.self.inside.versions.items c.in-Some.last.now c.self.invariant (ap (λ xs. slice_get xs (length xs - 1)) (sym c.deref.ensures.value) ∙ sym c.in-Some.ensures.value)) ∙ ap (is_above_all c.args.ticket) c.self.view_is
