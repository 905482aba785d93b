use Rattle.std.proofs.Common.{◌≡◌, ◌+◌, ◌++◌, ◌∷◌, [], List, length, ap, sym, subst, ◌∙◌, arith, length-append}
use Rattle.events.specs.declared.ask.KeptAsk.{KeptAsk}
use Rattle.nodeasks.specs.Rows.{HaveRows, is_lost, row_endings}
use Rattle.nodeasks.proofs.CountLemmas.{endings_push}
use Rattle.nodeasks.proofs.RowLemmas.{have_push}
use Rattle.nodeasks.proofs.LostLemmas.{lost_push}
use Rattle.nodeasks.proofs.TableLemmas.{noted_push}
use Rattle.nodeasks.proofs.ask_table.AskTable.push.Goals as goal

pub invariant_of-self-2 : goal.invariant_of-self-2
invariant_of-self-2 c =
    let all = c.args.self.now.all.asks in
    let rows = c.args.self.now.rows.items in
    let made = c.args.self.now.made in
    let pushed = c.in_ok-push.ensures.items in
    let at : c.len-row.result ≡ length rows = omega (arith, c.len-row.ensures) in
    let after : c.note.new.self.asks ≡ all ++ c.args.ask ∷ [] =
    noted_push all rows c.push.new.self.items made c.len-row.result c.args.ask c.index.result.now c.from_ref.result.now c.note.new.self.asks c.args.self.now.counted at pushed c.index.ensures c.from_ref.ensures.value c.note.ensures in
    let counted : made ≡ length all = c.args.self.now.counted in
    let place : made ≡ 0 + length all = omega (arith, counted) in
    record {
      counted = (let more = length-append all (c.args.ask ∷ []) in let is = ap (λ (l : List KeptAsk). length l) after in omega (arith, more, is, counted));
      tied = subst (λ (l : List KeptAsk). HaveRows l 0 c.push.new.self.items) (sym after) (subst (HaveRows (all ++ c.args.ask ∷ []) 0) (sym pushed) (have_push all 0 rows made c.args.ask c.args.self.now.tied place));
      over_counted = c.args.self.now.over_counted ∙ sym (ap row_endings pushed ∙ endings_push rows made c.args.ask c.requires.present);
    }

pub returns-clause-pushed : goal.returns-clause-pushed
returns-clause-pushed c =
    let at : c.len-row.result ≡ length c.args.self.now.rows.items = omega (arith, c.len-row.ensures) in
    noted_push c.args.self.now.all.asks c.args.self.now.rows.items c.push.new.self.items c.args.self.now.made c.len-row.result c.args.ask c.index.result.now c.from_ref.result.now c.note.new.self.asks c.args.self.now.counted at c.in_ok-push.ensures.items c.index.ensures c.from_ref.ensures.value c.note.ensures

pub returns-clause-told : goal.returns-clause-told
returns-clause-told c =
    let all = c.args.self.now.all.asks in
    let rows = c.args.self.now.rows.items in
    let at : c.len-row.result ≡ length rows = omega (arith, c.len-row.ensures) in
    let pushed = c.in_ok-push.ensures.items in
    let after : c.note.new.self.asks ≡ all ++ c.args.ask ∷ [] =
    noted_push all rows c.push.new.self.items c.args.self.now.made c.len-row.result c.args.ask c.index.result.now c.from_ref.result.now c.note.new.self.asks c.args.self.now.counted at pushed c.index.ensures c.from_ref.ensures.value c.note.ensures in
    (λ j. is_lost (after j) (pushed j)) ∙ lost_push all rows c.args.self.now.made c.args.ask c.args.self.now.counted
