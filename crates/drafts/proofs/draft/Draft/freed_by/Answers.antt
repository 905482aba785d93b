use Rattle.std.proofs.Common.{◌≡◌, List, Bool, ap, sym, ◌∙◌, subst}
use Rattle.std.specs.Prelude.{option_copied}
use Rattle.protocol.specs.Names.{Slot}
use Rattle.protocol.specs.Ledger.{Ledger, lease_under}
use Rattle.leases.specs.Leases.{Table}
use Rattle.drafts.specs.Idle.{slots_under, AreIdle}
use Rattle.drafts.specs.Shown.{work}
use Rattle.drafts.proofs.IdleWords.{are-idle-freed}
use Rattle.drafts.proofs.draft.Draft.freed_by.Goals as goal

pub returns-in_ok-copy-in-Some : goal.returns-in_ok-copy-in-Some
returns-in_ok-copy-in-Some c = λ q live home parked.
    let was : Ledger = (work c.args.self.now).ledger in
    let slots : slots_under (lease_under was.live c.args.ticket) ≡ c.into_vec.result.items =
    ap (λ (t : Table). slots_under (lease_under t.live c.args.ticket)) (sym c.table.ensures)
    ∙ ap slots_under (sym c.lease.ensures ∙ ap option_copied c.in-Some.is) ∙ sym c.in_ok-copy-in-Some.ensures ∙ sym c.into_vec.ensures in
    subst (λ (f : List (Slot × Bool)). AreIdle f q q.parked) slots (are-idle-freed c.args.ticket was q c.requires.sound.leases.tickets live home parked c.requires.held_up)

pub returns-in-None : goal.returns-in-None
returns-in-None c = λ q live home parked.
    let was : Ledger = (work c.args.self.now).ledger in
    let slots : slots_under (lease_under was.live c.args.ticket) ≡ c.new.result.items =
    ap (λ (t : Table). slots_under (lease_under t.live c.args.ticket)) (sym c.table.ensures)
    ∙ ap slots_under (sym c.lease.ensures ∙ ap option_copied c.in-None.is) ∙ sym c.new.ensures.items in
    subst (λ (f : List (Slot × Bool)). AreIdle f q q.parked) slots (are-idle-freed c.args.ticket was q c.requires.sound.leases.tickets live home parked c.requires.held_up)
