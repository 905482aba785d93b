use Rattle.std.proofs.Common.{◌≡◌, Option, ap, sym, ◌∙◌}
use Rattle.std.specs.List.{find}
use Rattle.std.specs.Prelude.{option_copied}
use Rattle.protocol.specs.Ledger.{Lease, holds_wanted, recall}
use Rattle.leases.specs.Leases.{Table}
use Rattle.drafts.specs.Shown.{work}
use Rattle.drafts.proofs.Drafting.{makes-as}
use Rattle.drafts.proofs.draft.Draft.tell_holder.Goals as goal

pub returns-in_ok-send-in-Some : goal.returns-in_ok-send-in-Some
returns-in_ok-send-in-Some c =
    let holder : option_copied c.holder_of.result ≡ find (holds_wanted c.args.p.now) (work c.args.self.now).ledger.live =
    c.holder_of.ensures ∙ ap (λ (t : Table). find (holds_wanted c.args.p.now) t.live) c.table.ensures in
    makes-as (λ w. recall (find (holds_wanted c.args.p.now) w.ledger.live) w) c.in_ok-send-in-Some.ensures
    (ap (λ (o : Option Lease). recall o (work c.args.self.now)) (sym (ap option_copied c.in-Some.is) ∙ holder))
