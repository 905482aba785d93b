use Rattle.std.proofs.Common.{◌≡◌, ◌≤◌, ap, sym, ◌∙◌, subst}
use Rattle.std.specs.Prelude.{All}
use Rattle.names.specs.Contents.{empty_digest}
use Rattle.leases.specs.Table.{fit_of}
use Rattle.leases.specs.declared.lease_table.Fit.{Fit}
use Rattle.protocol.specs.Farm.{farm_limits}
use Rattle.protocol.specs.Ledger.{gives, grant_of, lease_for}
use Rattle.effects.specs.declared.effects.Effects.{Effects}
use Rattle.effects.specs.Keeps.{held}
use Rattle.effects.specs.Shown.{work_of, table_after}
use Rattle.drafts.proofs.draft.Draft.give.Goals as goal

pub give-requires-clause-given : goal.give-requires-clause-given
give-requires-clause-given c = subst (λ (e : Effects). All (λ g. g.ticket.0 ≤ e.change.tickets.position) (table_after (held c.args.self.now.base.now) e.change).live) (sym c.deref_mut.ensures.value) c.requires.given

pub give-requires-clause-fits : goal.give-requires-clause-fits
give-requires-clause-fits c =
    subst (λ (e : Effects). fit_of (table_after (held c.args.self.now.base.now) e.change) c.args.p.now.tenure c.args.p.now.wants ≡ Fit.Fits) (sym c.deref_mut.ensures.value) c.requires.fits

pub give-requires-clause-room : goal.give-requires-clause-room
give-requires-clause-room c = λ x. c.requires.room (sym (ap (λ (e : Effects). e.change.tickets.position) c.deref_mut.ensures.value) ∙ x)

pub returns-clause-work : goal.returns-clause-work
returns-clause-work c =
    let h = held c.args.self.now.base.now in
    record {
      base = λ j. c.args.self.now.base.now;
      added = c.in_ok-grant.ensures.added ∙ ap (λ (e : Effects). e.added) c.deref_mut.ensures.value;
      work = c.in_ok-grant.ensures.work ∙ ap (λ (e : Effects). gives farm_limits c.args.p.now (work_of h e)) c.deref_mut.ensures.value;
    }

pub returns-clause-grant : goal.returns-clause-grant
returns-clause-grant c =
    let h = held c.args.self.now.base.now in
    c.in_ok-grant.ensures.grant
    ∙ ap (λ (e : Effects). grant_of empty_digest (work_of h e).ledger.line (lease_for farm_limits (work_of h e).ledger c.args.p.now)) c.deref_mut.ensures.value
