use Rattle.std.proofs.Common.{refl}
use Rattle.nodelines.specs.declared.order.Call.TheVariants.{Finish}
use Rattle.nodefilter.specs.Filters.Follows.{Calls, Misses}
use Rattle.nodefilter.specs.Filters.IsCallOf.{Left_in}
use Rattle.nodefilter.proofs.filter.finish.Goals as goal

pub returns-in-Ok : goal.returns-in-Ok
returns-in-Ok g c =
    Calls (Finish c.args.ticket c.in-Ok.lefts) (Left_in c.args.ticket c.args.files c.in-Ok.lefts (rw c.as_slice.ensures at c.in-Ok.ensures.lefts)) c.make.ensures

pub returns : goal.returns
returns g c =
    let read = rw c.as_slice.ensures at c.in-Err.ensures.fails in
    Misses (λ none. absurd (cc (read none))) refl c.missed.ensures
