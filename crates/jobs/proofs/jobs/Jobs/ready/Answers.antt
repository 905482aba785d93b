use Rattle.std.proofs.Common.{subst, arith}
use Rattle.jobs.specs.History.{History}
use Rattle.jobs.specs.ReadyLists.{AreReadyKeys}
use Rattle.jobs.proofs.ListLemmas.{same_count}
use Rattle.jobs.proofs.StayLemmas.{lends_ready}
use Rattle.jobs.proofs.jobs.Jobs.ready.Goals as goal

pub as_slice-requires : goal.as_slice-requires
as_slice-requires c =
    let h = c.self.invariant.list in
    let n = same_count c.self.inside.known.table.entries.items c.self.inside.known.ready h in
    let w = h.within in
    omega (arith, n, w)

pub returns : goal.returns
returns c = subst (λ (h : History). AreReadyKeys h.keys c.as_slice.result.now) c.self.view_is
    (lends_ready c.self.inside.known.table.entries.items c.self.inside.known.ready c.as_slice.result.now c.self.invariant.list c.self.invariant.all c.as_slice.ensures)
