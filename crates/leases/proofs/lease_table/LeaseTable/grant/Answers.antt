use Rattle.std.proofs.Common.{◌++◌, ◌∷◌, [], sym, subst}
use Rattle.leases.specs.Table.{lease_for}
use Rattle.holdings.specs.Leases.{AreLeases}
use Rattle.leases.proofs.TableLemmas.{leases-push, lease_under-push}
use Rattle.leases.proofs.lease_table.LeaseTable.grant.Goals as goal

pub add-requires : goal.add-requires
add-requires c sound =
    subst (λ g. AreLeases (c.args.self.now.live ++ g ∷ [])) (sym c.in_ok-lease.ensures.value)
    (leases-push c.args.self.now c.args.node c.args.life c.args.ask c.args.wants.now c.args.tenure c.args.ticket sound c.in_ok-lease.ensures.sorted c.requires.fits c.requires.above)

pub returns-clause-found : goal.returns-clause-found
returns-clause-found c =
    rw (c.in_ok-add.ensures.ok, c.in_ok-lease.ensures.value) (lease_under-push c.args.self.now.live (lease_for c.args.self.now c.args.node c.args.life c.args.ask c.args.wants.now c.args.tenure c.args.ticket) c.requires.above)
