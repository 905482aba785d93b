use Rattle.std.proofs.Common.{map, ap, ◌∙◌}
use Rattle.names.specs.Contents.{empty_digest}
use Rattle.protocol.specs.Ledger.{granted_slot}
use Rattle.effects.specs.Shown.{lines_with}
use Rattle.drafts.proofs.granting.grant_of.Goals as goal

pub returns : goal.returns
returns c =
    let slots = c.new.ensures ∙ c.in_ok-slots.ensures ∙ ap (map (granted_slot empty_digest (lines_with c.args.lines.now c.args.added.now))) c.as_slice.ensures in
    λ j. record {
      ticket = c.args.lease.now.ticket;
      node = c.args.lease.now.node;
      life = c.args.lease.now.life;
      ask = c.args.lease.now.ask;
      kind = c.of.ensures j;
      slots = slots j;
    }
