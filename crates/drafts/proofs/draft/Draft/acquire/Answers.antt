use Rattle.std.proofs.Common.{◌≡◌, false, ap, sym, ◌∙◌}
use Rattle.protocol.specs.Farm.{farm_limits}
use Rattle.protocol.specs.Machine.{Parked}
use Rattle.protocol.specs.Ledger.{Work, decision, decided, lease_of, is_parked}
use Rattle.drafts.specs.Shown.{work}
use Rattle.drafts.proofs.Trying.{acquiring-decides}
use Rattle.drafts.proofs.draft.Draft.acquire.Goals as goal

pub returns : goal.returns
returns c =
    let p : Parked = c.args.p in
    let w : Work = work c.args.self.now in
    let again = c.in_ok-grant_again.ensures.work in
    let same : work c.grant_again.new.self ≡ w = rw c.if-branch.false at again.work in
    let parked : is_parked w.ledger.parked p.node p.life p.ask ≡ false =
    ap (λ (x : Work). is_parked x.ledger.parked p.node p.life p.ask) (sym same) ∙ sym c.is_parked.ensures ∙ c.if-is_parked.false in
    record {
      base = c.in_ok-decide.ensures.base ∙ again.base;
      added = c.in_ok-decide.ensures.added ∙ again.added;
      work = c.in_ok-decide.ensures.work
          ∙ ap (λ (x : Work). decided farm_limits (decision farm_limits x.ledger p) p x) same
          ∙ sym (acquiring-decides farm_limits (lease_of w.ledger.live p.node p.life p.ask) (is_parked w.ledger.parked p.node p.life p.ask) p w (sym c.in_ok-grant_again.ensures.found ∙ c.if-branch.false) parked);
    }
