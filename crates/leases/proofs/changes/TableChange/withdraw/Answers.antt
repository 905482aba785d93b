use Rattle.std.proofs.Common.{◌≡◌, ◌++◌, List, ap, ◌∙◌}
use Rattle.protocol.specs.Names.{Slot}
use Rattle.protocol.specs.Ledger.{lease_under}
use Rattle.leases.specs.Changes.{changed}
use Rattle.leases.specs.Leases.{Table}
use Rattle.holdings.specs.Leases.{among}
use Rattle.leases.specs.Table.{private_of}
use Rattle.leases.proofs.RetiredLemmas.{retired-one}
use Rattle.leases.proofs.changes.TableChange.withdraw.Goals as goal

pub returns-clause-retired : goal.returns-clause-retired
returns-clause-retired c =
    let seen : Table = changed c.args.table.now c.args.self.now in
    let own : c.in_ok-slots.slots.items ≡ private_of (lease_under seen.live c.args.ticket) = c.in_ok-slots.ensures ∙ ap (λ (t : Table). private_of (lease_under t.live c.args.ticket)) c.over.ensures in
    ap among (c.in_ok-withdraw_all.ensures.retired c.args.table.now ∙ ap (λ (slots : List Slot). seen.retired ++ slots) own) ∙ retired-one (lease_under seen.live c.args.ticket) seen.retired

pub returns-clause-sound : goal.returns-clause-sound
returns-clause-sound c sound = c.in_ok-withdraw_all.ensures.sound c.args.table.now sound
