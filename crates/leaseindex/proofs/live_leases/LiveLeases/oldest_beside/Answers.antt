use Rattle.std.proofs.Common.{◌≡◌, ◌+◌, ◌∙◌, not, List, drop, filter, Option, Bor, sym, ap, subst, arith}
use Rattle.std.proofs.lemmas.List.Kept.{AllPairs-filter}
use Rattle.std.specs.Option.{option_copied}
use Rattle.farm_base.specs.declared.lease.Lease.{Lease}
use Rattle.holdings.specs.Endings.{has_ended}
use Rattle.holdings.specs.Leases.{IsBefore}
use Rattle.leaseindex.specs.Live.{older}
use Rattle.leaseindex.proofs.OldestLemmas.{oldest, oldest_next, oldest_past, oldest_end}
use Rattle.leaseindex.proofs.live_leases.LiveLeases.oldest_beside.Goals as goal
use Rattle.leaseindex.proofs.live_leases.LiveLeases.oldest_beside.Goals.{then-takes, else-takes}

pub loop-want-preserved : goal.loop-want-preserved
loop-want-preserved c =
    let live : List Lease = filter (λ g. not (has_ended c.args.ended.now g)) c.args.self.now.leases in
    let k = c.loop-want.want-index in
    let left : Option Lease = oldest c.args.tenure (drop (k + 1) c.args.wants.now) live in
    let all : Option Lease = oldest c.args.tenure c.args.wants.now live in
    elim c.if-takes.branch [
      | then-takes w ↦
          subst (λ (o : Option (Bor Lease)). older (option_copied o) left ≡ all) (sym w.oldest-is)
          (ap (λ (o : Option Lease). older o left) (w.older-oldest.ensures ∙ ap (older (option_copied c.loop-want.oldest)) w.holding_beside.ensures.value)
          ∙ oldest_next c.args.tenure c.args.wants.now k c.want-item.result _ live (option_copied c.loop-want.oldest) all (omega arith) c.want-item.is (AllPairs-filter IsBefore _ c.args.self.now.leases w.holding_beside.ensures.sound.tickets)
          (sym c.takes.ensures ∙ w.if-takes.true) c.loop-want.invariant)
      | else-takes w ↦
          subst (λ (o : Option (Bor Lease)). older (option_copied o) left ≡ all) (sym w.oldest-is)
          (oldest_past c.args.tenure c.args.wants.now k c.want-item.result _ live (option_copied c.loop-want.oldest) all (omega arith) c.want-item.is (sym c.takes.ensures ∙ w.if-takes.false) c.loop-want.invariant)
    ]

pub returns : goal.returns
returns c =
    oldest_end c.args.tenure c.args.wants.now c.loop-want.want-index (filter (λ g. not (has_ended c.args.ended.now g)) c.args.self.now.leases) _ _ (omega arith) c.loop-want.invariant
