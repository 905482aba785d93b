use Rattle.std.proofs.Common.{ℕ, ◌+◌, get_or, refl, sym, subst}
use Rattle.opsproto.proofs.ReadingLemmas.{no_field}
use Rattle.opsproto.proofs.PieceLemmas.{IsPieceTo, starts, follows}
use Rattle.opsproto.proofs.raw.one_piece.Goals.{then-start-end, else-start-end+else-field-end}
use Rattle.opsproto.proofs.raw.one_piece.Goals as goal

pub loop-field-preserved : goal.loop-field-preserved
loop-field-preserved c = λ text row.
    let fs = c.args.fields.now in
    let k = c.loop-field.field-index in
    let f = get_or fs k no_field in
    let so_far = c.loop-field.invariant text row in
    let less = c.loop-field-test.true in
    let other = c.if-field-eq-INPUTS.false in
    elim c.if-start-end.branch [
      | then-start-end w ↦ subst (λ (from : ℕ). IsPieceTo fs (k + 1) from f.end text) (sym w.start-is)
          (starts fs k c.loop-field.start c.loop-field.end f text less refl other row w.if-start-end.true so_far)
      | else-start-end+else-field-end w ↦ subst (λ (from : ℕ). IsPieceTo fs (k + 1) from f.end text) (sym w.start-is)
          (follows fs k c.loop-field.start c.loop-field.end f text less refl other row w.if-field-end.false so_far)
    ]
