use Rattle.std.proofs.Common.{subst}
use Rattle.std.specs.Option.{option_to_list}
use Rattle.executions.specs.Keeping.{IsKept}
use Rattle.executions.proofs.LiveLemmas.{kept_front}
use Rattle.executions.proofs.live_shared.LiveShared.pop.Goals as goal

pub invariant_of-self-2 : goal.invariant_of-self-2
invariant_of-self-2 c =
    let batches = c.self.inside.batches.items in
    kept_front batches c.pop.new.self.items (option_to_list c.pop.result) (subst (IsKept batches) c.pop.ensures.items c.self.invariant)
