use Rattle.std.proofs.Common.{◌≡◌, ◌≤◌, ℕ, true, false, refl, ap, sym, ◌∙◌, subst}
use Rattle.protocol.specs.Farm.{farm_limits}
use Rattle.leases.specs.Table.{fit_of}
use Rattle.leases.specs.Leases.{Table}
use Rattle.effects.specs.declared.effects.Effects.{Effects}
use Rattle.effects.specs.Keeps.{held}
use Rattle.effects.specs.Shown.{table_after}
use Rattle.drafts.specs.Shown.{work}
use Rattle.drafts.proofs.StateWords.{decision-elsewhere, decision-instances, decision-busy, decision-give, decision-tickets}
use Rattle.drafts.proofs.draft.Draft.decision.Goals as goal

pub returns-then-is_elsewhere-clause-decision : goal.returns-then-is_elsewhere-clause-decision
returns-then-is_elsewhere-clause-decision c =
    sym (decision-elsewhere farm_limits (work c.args.self.now).ledger c.args.p.now (sym c.is_elsewhere.ensures ∙ c.if-is_elsewhere.true))

pub returns-in-InstancesSpent-clause-decision : goal.returns-in-InstancesSpent-clause-decision
returns-in-InstancesSpent-clause-decision c =
    let fits : c.fits.result ≡ fit_of (table_after (held c.args.self.now.base.now) c.args.self.now.effects.value.change) c.args.p.now.tenure c.args.p.now.wants =
    c.fits.ensures ∙ ap (λ (t : Table). fit_of t c.args.p.now.tenure c.args.p.now.wants) c.table.ensures in
    let here = sym c.is_elsewhere.ensures ∙ c.if-is_elsewhere.false in
    sym (decision-instances farm_limits (work c.args.self.now).ledger c.args.p.now here (sym fits ∙ c.in-InstancesSpent.is))

pub returns-in-Busy-clause-decision : goal.returns-in-Busy-clause-decision
returns-in-Busy-clause-decision c =
    let fits : c.fits.result ≡ fit_of (table_after (held c.args.self.now.base.now) c.args.self.now.effects.value.change) c.args.p.now.tenure c.args.p.now.wants =
    c.fits.ensures ∙ ap (λ (t : Table). fit_of t c.args.p.now.tenure c.args.p.now.wants) c.table.ensures in
    let here = sym c.is_elsewhere.ensures ∙ c.if-is_elsewhere.false in
    sym (decision-busy farm_limits (work c.args.self.now).ledger c.args.p.now here (sym fits ∙ c.in-Busy.is))

pub returns-in-Ok-clause-decision : goal.returns-in-Ok-clause-decision
returns-in-Ok-clause-decision c =
    let fits : c.fits.result ≡ fit_of (table_after (held c.args.self.now.base.now) c.args.self.now.effects.value.change) c.args.p.now.tenure c.args.p.now.wants =
    c.fits.ensures ∙ ap (λ (t : Table). fit_of t c.args.p.now.tenure c.args.p.now.wants) c.table.ensures in
    let here = sym c.is_elsewhere.ensures ∙ c.if-is_elsewhere.false in
    let last = ap (λ (e : Effects). e.change.tickets.position) c.deref.ensures in
    sym (decision-give farm_limits (work c.args.self.now).ledger c.args.p.now here (sym fits ∙ c.in-Fits.is)
    (subst (λ (n : ℕ). n ≤ farm_limits.greatest) last c.in-Ok.ensures.range) (λ e. (let bad : false ≡ true = c.in-Ok.ensures.spent.1 (last ∙ e) in cc bad)))

pub returns-in-Err-clause-decision : goal.returns-in-Err-clause-decision
returns-in-Err-clause-decision c =
    let fits : c.fits.result ≡ fit_of (table_after (held c.args.self.now.base.now) c.args.self.now.effects.value.change) c.args.p.now.tenure c.args.p.now.wants =
    c.fits.ensures ∙ ap (λ (t : Table). fit_of t c.args.p.now.tenure c.args.p.now.wants) c.table.ensures in
    let here = sym c.is_elsewhere.ensures ∙ c.if-is_elsewhere.false in
    let last = ap (λ (e : Effects). e.change.tickets.position) c.deref.ensures in
    sym (decision-tickets farm_limits (work c.args.self.now).ledger c.args.p.now here (sym fits ∙ c.in-Fits.is) (sym last ∙ c.in-Err.ensures.spent.0 refl))

pub returns-in-Ok-clause-fits : goal.returns-in-Ok-clause-fits
returns-in-Ok-clause-fits c = λ _.
    let fits : c.fits.result ≡ fit_of (table_after (held c.args.self.now.base.now) c.args.self.now.effects.value.change) c.args.p.now.tenure c.args.p.now.wants =
    c.fits.ensures ∙ ap (λ (t : Table). fit_of t c.args.p.now.tenure c.args.p.now.wants) c.table.ensures in
    sym fits ∙ c.in-Fits.is
