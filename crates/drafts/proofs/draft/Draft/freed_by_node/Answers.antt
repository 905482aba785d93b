use Rattle.std.proofs.Common.{◌≡◌, List, Bool, not, ap, sym, ◌∙◌, subst}
use Rattle.protocol.specs.Names.{Slot}
use Rattle.protocol.specs.Ledger.{Ledger}
use Rattle.leases.specs.Changes.{slots_ended}
use Rattle.leases.specs.Leases.{Table}
use Rattle.drafts.specs.Idle.{AreIdle}
use Rattle.drafts.specs.Shown.{work}
use Rattle.parked.specs.Waiting.{ends_ask}
use Rattle.drafts.proofs.IdleWords.{are-idle-ended}
use Rattle.drafts.proofs.draft.Draft.freed_by_node.Goals as goal

pub returns : goal.returns
returns c = λ q live home parked.
    let was : Ledger = (work c.args.self.now).ledger in
    let slots : c.in_ok-slots.slots.items ≡ slots_ended c.args.ending was.live =
    c.in_ok-slots.ensures ∙ ap (λ (t : Table). slots_ended c.args.ending t.live) c.table.ensures in
    subst (λ (f : List (Slot × Bool)). AreIdle f q q.parked) (sym slots) (are-idle-ended c.args.ending was q (λ p. not (ends_ask c.args.ending p)) live home parked c.requires)
