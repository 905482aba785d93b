use Rattle.std.proofs.Common.{◌≡◌, ◌++◌, get_or, ap, sym, ◌∙◌, refl}
use Rattle.protowire.specs.Lookups.{Member}
use Rattle.protowire.proofs.LookupLoop.{no_field, run_push, member_step, skip_step, joins, begins}
use Rattle.protowire.proofs.lookup.last_member.Goals as goal
use Rattle.protowire.proofs.lookup.last_member.Goals.{then-ne, else-ne}

pub loop-field-preserved-in_default : goal.loop-field-preserved-in_default
loop-field-preserved-in_default c =
    c.loop-field.invariant ∙ sym (skip_step c.args.members.now c.args.fields.now c.loop-field.field-index c.loop-field-test.true (sym c.in_default.ensures))

pub loop-field-preserved : goal.loop-field-preserved
loop-field-preserved c =
    let body = c.in-Some.body.now in
    let f = get_or c.args.fields.now c.loop-field.field-index no_field in
    let m : Member = (f.number, body) in
    let step = member_step c.args.members.now c.args.fields.now c.loop-field.field-index m c.loop-field-test.true (sym c.in-Some.ensures) in
    let whole = step ∙ ap (λ r. run_push r m) (sym c.loop-field.invariant) in
    elim c.if-ne.branch [
      | then-ne w ↦
          let alone : c.if-ne.joined.items ++ body ≡ body = rw (w.joined-is, w.clear.ensures.items) refl in
          rw (c.in_ok-extend_from_slice.ensures.items, alone) (sym (whole ∙ begins c.loop-field.last c.loop-field.joined.items f.number body w.if-ne.ensures))
      | else-ne w ↦
          rw (c.in_ok-extend_from_slice.ensures.items, w.joined-is) (sym (whole ∙ joins c.loop-field.last c.loop-field.joined.items f.number body w.if-ne.ensures))
    ]
