use Rattle.std.proofs.Common.{Bool, ap, sym, ◌∙◌}
use Rattle.protocol.specs.Ledger.{recalls, elsewhere}
use Rattle.std.specs.Prelude.{◌&&◌, not}
use Rattle.drafts.specs.Shown.{work}
use Rattle.drafts.proofs.Drafting.{makes-none, makes-as}
use Rattle.drafts.proofs.draft.Draft.recall.Goals as goal

pub returns-then-not-is_awaited : goal.returns-then-not-is_awaited
returns-then-not-is_awaited c =
    makes-none (λ w. recalls (c.args.p.now.tenure && not (elsewhere w.ledger c.args.p.now)) c.args.p.now w) c.args.self.now
    (ap (λ (b : Bool). recalls b c.args.p.now (work c.args.self.now)) (sym (sym c.is_awaited.ensures ∙ c.if-not-is_awaited.true)))

pub returns : goal.returns
returns c =
    makes-as (λ w. recalls (c.args.p.now.tenure && not (elsewhere w.ledger c.args.p.now)) c.args.p.now w) c.in_ok-tell_holder.ensures
    (ap (λ (b : Bool). recalls b c.args.p.now (work c.args.self.now)) (sym (sym c.is_awaited.ensures ∙ c.if-not-is_awaited.false)))
