use Rattle.std.proofs.Common.{◌≡◌, ◌-◌, length, true, false, ap, sym, ◌∙◌, arith}
use Rattle.std.proofs.lemmas.List.{at_drop_all}
use Rattle.nodeasks.specs.declared.ask_row.AskRow.{AskRow}
use Rattle.nodeasks.specs.Rows.{is_over, row_endings}
use Rattle.nodeasks.proofs.TableLemmas.{endings_back}
use Rattle.nodeasks.proofs.ask_table.last_endings.Goals as goal

pub loop-first-init : goal.loop-first-init
loop-first-init c = (let none = at_drop_all row_endings c.args.rows.now (length c.args.rows.now) (omega arith) in record { inside = omega arith; many = omega (arith, none) })

pub loop-first-preserved-then-is_over : goal.loop-first-preserved-then-is_over
loop-first-preserved-then-is_over c =
    let over : is_over c.index-rows-first.result.kept ≡ true = ap (λ (r : AskRow). is_over r.kept) c.index-rows-first.is ∙ sym c.is_over.ensures ∙ c.if-is_over.true in
    let more = endings_back c.args.rows.now (c.loop-first.first - 1) c.loop-first.first c.index-rows-first.result true (omega arith) (omega arith) c.index-rows-first.is over in
    record { inside = omega arith; many = omega (arith, more, c.loop-first.invariant.many) }

pub loop-first-preserved : goal.loop-first-preserved
loop-first-preserved c =
    let over : is_over c.index-rows-first.result.kept ≡ false = ap (λ (r : AskRow). is_over r.kept) c.index-rows-first.is ∙ sym c.is_over.ensures ∙ c.if-is_over.false in
    let same = endings_back c.args.rows.now (c.loop-first.first - 1) c.loop-first.first c.index-rows-first.result false (omega arith) (omega arith) c.index-rows-first.is over in
    record { inside = omega arith; many = omega (arith, same, c.loop-first.invariant.many) }
