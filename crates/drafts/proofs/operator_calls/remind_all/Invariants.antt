use Rattle.std.proofs.Common.{◌≡◌, drop}
use Rattle.protocol.specs.Farm.{farm_limits}
use Rattle.protocol.specs.Ledger.{begin_work, nudge_all}
use Rattle.effects.specs.Held.{ledger}
use Rattle.effects.specs.Keeps.{held}
use Rattle.drafts.specs.Shown.{having_said}
use Rattle.drafts.proofs.operator_calls.remind_all.Given as goal

abbrev pub invariant-loop-lease : goal.invariant-loop-lease
invariant-loop-lease l = nudge_all farm_limits (drop l.lease-index l.leases) (having_said l.sends.items (ledger (held l.state)))
    ≡ nudge_all farm_limits l.leases (begin_work (ledger (held l.state)))
