use Rattle.std.proofs.Common.{◌≡◌, ◌+◌, ◌++◌, ◌∷◌, [], List, true, cond, Option, Some, Ok, ap, sym, ◌∙◌, subst}
use Rattle.names.specs.Contents.{empty_digest}
use Rattle.protocol.specs.Farm.{farm_limits}
use Rattle.holdings.specs.Tickets.{Tickets, advanced}
use Rattle.protocol.specs.Names.{slot_eq, Ticket}
use Rattle.events.specs.declared.answer.CoordNote.TheVariants as note
use Rattle.protocol.specs.Ledger.{Work}
use Rattle.versions.specs.declared.lines.Added.{Added}
use Rattle.versions.specs.declared.lines.SlotLine.{SlotLine}
use Rattle.versions.specs.Lines.{line_at, lines_with}
use Rattle.effects.specs.declared.effects.Effects.{Effects}
use Rattle.effects.specs.Keeps.{held}
use Rattle.effects.specs.Shown.{LineOf, work_of}
use Rattle.drafts.specs.Shown.{work}
use Rattle.effects.specs.Sound.{IsSound}
use Rattle.drafts.proofs.Prunes.{pruning, lines-one, ready-one, above-last, sound-prunes}
use Rattle.drafts.proofs.draft.Draft.prune.Goals as goal

pub returns : goal.returns
returns c =
    let lines : List SlotLine = c.args.self.now.base.now.lines in
    let line : LineOf = line_at lines in
    let w : Work = work c.args.self.now in
    let s = c.args.slot.now in
    let a : Added = record { ticket = c.in-Ok.ticket; additions = c.in_ok-additions.additions } in
    let e : Effects = c.deref_mut-effects.result.now in
    let same : e ≡ c.args.self.now.effects.value = c.deref_mut-effects.ensures.value in
    let line_is : line ≡ w.ledger.line = ap (λ (o : Option Added). lines_with lines o) (sym c.requires.first.added) in
    let by : (Ticket → LineOf → Tickets → Work → Work) = λ t f next v. record v { ledger = record v.ledger { line = f; last = next.position; ceiling = next.ceiling }; changed = true; note = note.Pruned t } in
    let old : Tickets = c.args.self.now.effects.value.change.tickets in
    let with_one : (Ticket → LineOf → LineOf) = λ t f x. cond (slot_eq s x) (f x ++ record { ticket = t; digest = empty_digest } ∷ []) (f x) in
    let first : Ticket = record { 0 = old.position + 1 } in
    let ticket : c.in-Ok.ticket ≡ first = (λ j. record { 0 = (c.in-Ok.ensures.ticket ∙ ap (λ (x : Effects). x.change.tickets.position + 1) same) j }) in
    let r = pruning farm_limits s w c.requires.accepted in
    let done =
    ap (λ (x : Tickets). by c.in-Ok.ticket (lines_with lines (Some a)) x (work_of (held c.args.self.now.base.now) e)) c.in-Ok.ensures.ok
    ∙ ap (λ (x : Effects). by c.in-Ok.ticket (lines_with lines (Some a)) (advanced x.change.tickets) (work_of (held c.args.self.now.base.now) x)) same
    ∙ ap (λ (f : LineOf). by c.in-Ok.ticket f (advanced old) w) (lines-one lines a s empty_digest c.in_ok-additions.ensures.news)
    ∙ ap (λ (f : LineOf). by c.in-Ok.ticket (with_one c.in-Ok.ticket f) (advanced old) w) line_is
    ∙ ap (λ (t : Ticket). by t (with_one t w.ledger.line) (advanced old) w) ticket in
    let P : Work → Type 0 = λ x. IsSound x.ledger in
    record {
      base = λ j. c.args.self.now.base.now;
      ready = ready-one lines c.in-Ok.ticket c.in_ok-additions.additions.items s empty_digest c.in_ok-additions.ensures.news c.in_ok-additions.ensures.room
          (above-last lines w.ledger c.in-Ok.ticket s c.requires.sound (sym line_is) (c.in-Ok.ensures.ticket ∙ ap (λ (x : Effects). x.change.tickets.position + 1) same));
      work = r.work ∙ ap (λ (x : Work). Ok x) (sym done);
      sound = subst P (sym done) (sound-prunes farm_limits s w c.requires.sound r.free);
    }
