use Rattle.std.proofs.Common.{◌≡◌, ℕ, ◌+◌, List, Option, true, false, eqb, Some, map, ap, sym, ◌∙◌}
use Rattle.std.proofs.lemmas.Bool.{eqb-true, eqb-false}
use Rattle.protocol.specs.Machine.{digest_for}
use Rattle.protocol.specs.Ledger.{place_on_line}
use Rattle.versions.specs.declared.lines.Addition.{Addition}
use Rattle.versions.specs.declared.lines.Added.{Added}
use Rattle.versions.specs.Lines.{lines_with, news_of}
use Rattle.versions.proofs.LineWords.{place-with, place-added, place-apart}
use Rattle.versions.proofs.lines.place_with.Goals as goal

pub returns-in-Some : goal.returns-in-Some
returns-in-Some c =
    sym (place-with c.args.lines.now c.args.added.now c.args.slot.now c.args.ticket c.in-Some.found (sym c.stands_at.ensures ∙ c.in-Some.is))

pub returns-in_ok-digest-in-Some-added : goal.returns-in_ok-digest-in-Some-added
returns-in_ok-digest-in-Some-added c =
    let a = c.in-Some-added.added in
    ap (λ (n : ℕ). Some (n + 1, c.in_ok-digest-in-Some-added.digest)) c.version_count-number.ensures.value
    ∙ sym (ap (λ (o : Option Added). place_on_line c.args.ticket (lines_with c.args.lines.now o c.args.slot.now) 0) c.in-Some-added.is
    ∙ place-added c.args.lines.now a c.args.slot.now c.args.ticket c.in_ok-digest-in-Some-added.digest (sym c.stands_at.ensures ∙ c.in_default.is) (let same : eqb a.ticket.0 c.args.ticket.0 ≡ true = sym c.eq.ensures ∙ c.if-eq.true in eqb-true a.ticket.0 c.args.ticket.0 same)
    (ap (λ (as' : List Addition). digest_for c.args.slot.now (map news_of as')) (sym c.as_slice.ensures.value) ∙ sym c.added_digest.ensures ∙ c.in_ok-digest-in-Some-added.was))

pub returns-else-eq : goal.returns-else-eq
returns-else-eq c =
    let a = c.in-Some-added.added in
    sym (ap (λ (o : Option Added). place_on_line c.args.ticket (lines_with c.args.lines.now o c.args.slot.now) 0) c.in-Some-added.is
    ∙ place-apart c.args.lines.now a c.args.slot.now c.args.ticket (sym c.stands_at.ensures ∙ c.in_default.is) (λ same. (let bad : eqb a.ticket.0 c.args.ticket.0 ≡ false = sym c.eq.ensures ∙ c.if-eq.false in eqb-false a.ticket.0 c.args.ticket.0 bad same)))
