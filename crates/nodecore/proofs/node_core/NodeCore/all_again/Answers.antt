use Rattle.std.proofs.Common.{◌≡◌, ◌∷◌, [], ◌++◌, List, length, drop, slice_get, Some, refl, ap, sym, ◌∙◌, append-nil, arith}
use Rattle.std.proofs.lemmas.Option.{slice_get_read, slice_get_within}
use Rattle.protocol.specs.Farm.{farm_limits}
use Rattle.protocol.specs.Machine.{Message, hello}
use Rattle.nodeasks.specs.declared.ask_row.AskRow.{AskRow}
use Rattle.nodecore.specs.Shown.{place, shown}
use Rattle.nodecontents.proofs.MapLemmas.{drop_end}
use Rattle.nodeasks.proofs.RowLemmas.{kept_at}
use Rattle.nodecore.proofs.AgainLemmas.{again_rows, all_again_rows}
use Rattle.nodecore.proofs.node_core.NodeCore.all_again.Goals as goal

pub prove-unreachable-requires : goal.prove-unreachable-requires
prove-unreachable-requires c =
    let all = c.args.self.now.asks.all.asks in
    let rows = c.args.self.now.asks.rows.items in
    let i = c.loop-row.row-index in
    let r = c.row-item.result in
    let seen = c.deref-row-items.result.now in
    let get : slice_get rows i ≡ Some r = ap (λ (l : List AskRow). slice_get l i) (sym c.deref-row-items.ensures.value) ∙ slice_get_read seen (length seen) i r refl c.loop-row-test.true c.row-item.is in
    let inside = slice_get_within all r.place r.kept (kept_at all rows i r c.args.self.now.asks.tied get) in
    let made : c.args.self.now.asks.made ≡ length all = c.args.self.now.asks.counted in
    omega (arith, inside, made)

pub returns : goal.returns
returns c =
    let x = shown c.args.self.now in
    let at = place c.args.self.now in
    let rows = c.args.self.now.asks.rows.items in
    let sent = c.loop-row.sends.items in
    let past = c.loop-row-test.false in
    let none : drop c.loop-row.row-index rows ≡ [] = drop_end rows c.loop-row.row-index (omega (arith, past, c.deref-row-items.ensures.len)) in
    sym (append-nil sent)
    ∙ sym (ap (λ (l : List AskRow). sent ++ again_rows farm_limits at x l) none)
    ∙ c.loop-row.invariant
    ∙ ap (λ (m : List Message). hello c.args.self.now.node c.args.self.now.life ∷ m) (all_again_rows farm_limits at x x.asks 0 rows c.args.self.now.asks.tied)
