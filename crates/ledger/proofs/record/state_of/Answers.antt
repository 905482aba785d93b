use Rattle.std.proofs.Common.{sym, ap, ◌∙◌, subst, filter}
use Rattle.holdings.specs.Leases.{AreLeases, among}
use Rattle.holdings.specs.Lives.{life_at, is_among}
use Rattle.leases.specs.Leases.{Table}
use Rattle.protocol.specs.Ledger.{is_saved}
use Rattle.versions.specs.Lines.{line_at}
use Rattle.ledger.proofs.Records.{leases_of}
use Rattle.ledger.proofs.record.state_of.Goals as goal

pub from_parts-requires : goal.from_parts-requires
from_parts-requires c = subst AreLeases (sym (c.keep_saved.ensures ∙ ap (filter is_saved) c.into_vec-leases.ensures)) (leases_of c.args.read c.requires)

pub returns-clause-ledger : goal.returns-clause-ledger
returns-clause-ledger c =
    let live = ap (λ (t : Table). t.live) c.in_ok-table.ensures ∙ c.keep_saved.ensures ∙ ap (filter is_saved) c.into_vec-leases.ensures in
    let retired = ap among (ap (λ (t : Table). t.retired) c.in_ok-table.ensures ∙ c.into_vec.ensures) in
    let lives = ap life_at (c.of.ensures ∙ c.into_vec-2.ensures) in
    let gone = ap is_among (c.of-2.ensures ∙ c.into_vec-3.ensures) in
    let line = ap line_at (c.of-3.ensures ∙ c.into_vec-4.ensures) in
    λ j. record {
      live = live j;
      retired = retired j;
      gone = gone j;
      line = line j;
      last = c.after.ensures.position j;
      ceiling = c.after.ensures.ceiling j;
      old_home = c.args.read.old_home;
      lives = lives j;
      parked = c.new.ensures j;
    }
