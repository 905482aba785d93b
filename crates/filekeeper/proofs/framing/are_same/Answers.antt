use Rattle.std.proofs.Common.{◌∙◌, sym}
use Rattle.std.proofs.lemmas.Bool.Decides.{Decides-eqb, Decides-like}
use Rattle.std.proofs.lemmas.Slice.Eq.{slice_eq-Decides}
use Rattle.filekeeper.proofs.framing.are_same.Goals as goal

pub returns : goal.returns
returns c = Decides-like c.eq.result (λ e. sym c.as_slice.ensures ∙ e ∙ c.as_slice-2.ensures) (λ e. c.as_slice.ensures ∙ e ∙ sym c.as_slice-2.ensures)
    (slice_eq-Decides Decides-eqb c.as_slice.result.now c.as_slice-2.result.now c.eq.result c.eq.ensures)
