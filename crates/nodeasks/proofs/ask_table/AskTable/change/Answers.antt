use Rattle.std.proofs.Common.{◌≡◌, ◌<◌, ◌+◌, ℕ, List, length, set, slice_get, Some, refl, ap, sym, subst, ◌∙◌, arith}
use Rattle.std.proofs.Math.ListN.{length-set}
use Rattle.std.proofs.lemmas.Option.{slice_get_read}
use Rattle.protocol.proofs.Base.{some_is}
use Rattle.events.specs.declared.ask.KeptAsk.{KeptAsk}
use Rattle.nodeasks.specs.declared.ask_row.AskRow.{AskRow}
use Rattle.nodeasks.specs.Asks.{changed}
use Rattle.nodeasks.specs.Rows.{row, HaveRows, is_lost}
use Rattle.nodeasks.proofs.CountLemmas.{rows_counted, endings_change}
use Rattle.nodeasks.proofs.RowLemmas.{have_set}
use Rattle.nodeasks.proofs.LostLemmas.{lost_set}
use Rattle.nodeasks.proofs.TableLemmas.{noted_change}
use Rattle.nodeasks.proofs.ask_table.AskTable.change.Goals as goal

pub invariant_of-self : goal.invariant_of-self
invariant_of-self c =
    let all = c.args.self.now.all.asks in
    let rows = c.args.self.now.rows.items in
    let i = c.args.row in
    let old = c.index_mut.result.now in
    let new = c.change.new.ask in
    let inside : i < length rows = omega (arith, c.requires) in
    let get : slice_get rows i ≡ Some old = slice_get_read rows (length rows) i old refl inside c.index_mut.ensures.value in
    let after : c.note.new.self.asks ≡ set all old.place new = noted_change all rows i old new c.index-2.result.now c.from_ref.result.now c.note.new.self.asks c.args.self.now.tied get c.index-2.ensures c.from_ref.ensures.value c.note.ensures in
    let more = endings_change c.args.with rows i c.ends-more.result old c.index.result.now c.index-3.result.now new c.is_over-was_over.result c.is_over.result get c.change.ensures c.index.ensures c.is_over-was_over.ensures c.index-3.ensures c.is_over.ensures c.ends-more.ensures.exact in
    let zero_more : old.place ≡ 0 + old.place = omega arith in
    record {
      counted = c.args.self.now.counted ∙ sym (ap (λ (l : List KeptAsk). length l) after ∙ length-set all old.place new);
      tied = subst (λ (l : List KeptAsk). HaveRows l 0 (set rows i (row old.place new))) (sym after) (have_set all 0 rows i old old.place new c.args.self.now.tied get zero_more);
      over_counted = ap (λ (n : ℕ). n + c.ends-more.result) c.args.self.now.over_counted ∙ sym more;
    }

pub overflow_add-self : goal.overflow_add-self
overflow_add-self c =
    let few = rows_counted c.args.self.now.all.asks 0 c.args.self.now.rows.items c.args.self.now.tied in
    omega (arith, few, c.args.self.now.over_counted, c.ends-more.ensures.few)

pub returns-clause-asks : goal.returns-clause-asks
returns-clause-asks c = λ at got.
    let all = c.args.self.now.all.asks in
    let rows = c.args.self.now.rows.items in
    let i = c.args.row in
    let old = c.index_mut.result.now in
    let new = c.change.new.ask in
    let inside : i < length rows = omega (arith, c.requires) in
    let get : slice_get rows i ≡ Some old = slice_get_read rows (length rows) i old refl inside c.index_mut.ensures.value in
    let same : old ≡ at = some_is old at (sym get ∙ got) in
    noted_change all rows i old new c.index-2.result.now c.from_ref.result.now c.note.new.self.asks c.args.self.now.tied get c.index-2.ensures c.from_ref.ensures.value c.note.ensures
    ∙ ap (λ (n : KeptAsk). set all old.place n) c.change.ensures ∙ ap (λ (r : AskRow). set all r.place (changed c.args.with r.kept)) same

pub returns-clause-told : goal.returns-clause-told
returns-clause-told c =
    let all = c.args.self.now.all.asks in
    let rows = c.args.self.now.rows.items in
    let i = c.args.row in
    let old = c.index_mut.result.now in
    let new = c.change.new.ask in
    let inside : i < length rows = omega (arith, c.requires) in
    let get : slice_get rows i ≡ Some old = slice_get_read rows (length rows) i old refl inside c.index_mut.ensures.value in
    let after : c.note.new.self.asks ≡ set all old.place new = noted_change all rows i old new c.index-2.result.now c.from_ref.result.now c.note.new.self.asks c.args.self.now.tied get c.index-2.ensures c.from_ref.ensures.value c.note.ensures in
    ap (λ (l : List KeptAsk). is_lost l (set rows i (row old.place new))) after ∙ lost_set all rows i old.place old new get
