use Rattle.std.proofs.Common.{inl, inr, subst, sym, arith}
use Rattle.std.specs.List.{Contains}
use Rattle.std.proofs.lemmas.Bool.{cases_eq}
use Rattle.std.proofs.lemmas.Option.{slice_get_within}
use Rattle.jobs.specs.ReadyLists.{listed, IsReadyAt}
use Rattle.jobs.proofs.ready.list_ready.Goals as goal

pub loop-number-preserved : goal.loop-number-preserved
loop-number-preserved c =
    let es = c.args.table.now.entries.items in
    let n = c.loop-number.number in
    let inv = c.loop-number.invariant in
    let e = c.look_at.ensures in
    record {
      cursors = e.cursors;
      list = e.list;
      room = e.room;
      below = λ m less r. elim (cases_eq m n) [
        | inl same ↦ subst (Contains (listed c.look_at.new.ready)) (sym same) (e.listed (subst (IsReadyAt es) same r))
        | inr apart ↦ e.kept m (inv.below m (omega (arith, less, apart)) r)
      ];
    }

pub returns-clause-all : goal.returns-clause-all
returns-clause-all c n r =
    let less = slice_get_within c.args.table.now.entries.items n r.entry r.at in
    c.loop-number.invariant.below n (let t = c.loop-number-test.false in let len = c.len-number-end.ensures in omega (arith, less, t, len)) r
