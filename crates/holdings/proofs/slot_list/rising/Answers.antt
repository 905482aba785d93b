use Rattle.std.proofs.Common.{◌∙◌, sym, ap, subst}
use Rattle.std.specs.List.Sorted.{IsStrictlySortedBy}
use Rattle.std.proofs.lemmas.List.Filters.{dedup_is}
use Rattle.names.specs.Slots.{slot_cmp}
use Rattle.protocol.specs.Names.{slot_eq}
use Rattle.holdings.specs.Leases.{among}
use Rattle.holdings.proofs.RisingLemmas.{among-rising, rises-dedup}
use Rattle.holdings.proofs.slot_list.rising.Goals as goal

pub returns-clause-rising : goal.returns-clause-rising
returns-clause-rising c = subst (IsStrictlySortedBy slot_cmp) (sym (dedup_is slot_eq c.sort.new.self.items c.dedup.new.self.items c.dedup.ensures.filtered)) (rises-dedup c.sort.new.self.items c.in_ok-sort.ensures.sorted)

pub returns-clause-same : goal.returns-clause-same
returns-clause-same c =
    ap among (dedup_is slot_eq c.sort.new.self.items c.dedup.new.self.items c.dedup.ensures.filtered)
    ∙ among-rising c.args.slots.items c.sort.new.self.items c.sort.ensures.permutation
