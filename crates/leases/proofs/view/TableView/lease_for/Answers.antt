use Rattle.std.proofs.Common.{List, filter, ap, sym, ◌∙◌}
use Rattle.protocol.specs.Names.{Want}
use Rattle.protocol.specs.Ledger.{all_taken}
use Rattle.leases.specs.Table.{is_free}
use Rattle.holdings.specs.Leases.{takes}
use Rattle.holdings.proofs.LeaseLemmas.{leased-filter}
use Rattle.leases.proofs.TableLemmas.{fits_both}
use Rattle.leases.proofs.view.TableView.lease_for.Goals as goal

pub slots_for-requires : goal.slots_for-requires
slots_for-requires c =
    ap (λ (ws : List Want). all_taken 4096 (is_free c.args.self.now) (filter (takes c.args.tenure) ws)) c.as_slice-wants.ensures.same
    ∙ ap (all_taken 4096 (is_free c.args.self.now)) (sym (leased-filter c.args.tenure c.args.wants.now))
    ∙ (fits_both _ _ c.requires).0
