use Rattle.std.proofs.Common.{length, arith}
use Rattle.opsproto.proofs.ReadingLemmas.{no_field, row_within}
use Rattle.opsproto.proofs.raw.copied.Goals as goal

pub slice_bounds-extend_from_slice-count : goal.slice_bounds-extend_from_slice-count
slice_bounds-extend_from_slice-count c =
    (row_within 0 c.args.fields.now (length c.args.message.now) c.loop-field.field-index no_field c.requires c.loop-field-test.true).rises

pub slice_bounds-extend_from_slice-start : goal.slice_bounds-extend_from_slice-start
slice_bounds-extend_from_slice-start c =
    let w = row_within 0 c.args.fields.now (length c.args.message.now) c.loop-field.field-index no_field c.requires c.loop-field-test.true in
    omega (arith, w.rises, w.ends)

pub slice_bounds-extend_from_slice-end : goal.slice_bounds-extend_from_slice-end
slice_bounds-extend_from_slice-end c =
    let w = row_within 0 c.args.fields.now (length c.args.message.now) c.loop-field.field-index no_field c.requires c.loop-field-test.true in
    omega (arith, w.rises, w.ends)
