use Rattle.std.proofs.Common.{◌≡◌, ◌++◌, List, filter, ap, ◌∙◌}
use Rattle.protocol.specs.Names.{Slot}
use Rattle.protocol.specs.Ledger.{is_at}
use Rattle.leases.specs.Changes.{changed}
use Rattle.leases.specs.Leases.{Table}
use Rattle.holdings.specs.Leases.{among}
use Rattle.leases.specs.Table.{all_private}
use Rattle.leases.proofs.RetiredLemmas.{retired-all}
use Rattle.leases.proofs.changes.TableChange.withdraw_all_of.Goals as goal

pub returns-clause-retired : goal.returns-clause-retired
returns-clause-retired c =
    let seen : Table = changed c.args.table.now c.args.self.now in
    let own : c.in_ok-slots.slots.items ≡ all_private (filter (is_at c.args.node) seen.live) = c.in_ok-slots.ensures ∙ ap (λ (t : Table). all_private (filter (is_at c.args.node) t.live)) c.over.ensures in
    ap among (c.in_ok-withdraw_all.ensures.retired c.args.table.now ∙ ap (λ (slots : List Slot). seen.retired ++ slots) own) ∙ retired-all (filter (is_at c.args.node) seen.live) seen.retired

pub returns-clause-sound : goal.returns-clause-sound
returns-clause-sound c sound = c.in_ok-withdraw_all.ensures.sound c.args.table.now sound
