use Rattle.std.proofs.Common.{◌≡◌, Bool, false, Ok, sym, ap, ◌∙◌, subst}
use Rattle.protocol.specs.Ledger.{Work}
use Rattle.effects.specs.Held.{Held, line_at}
use Rattle.ledger.specs.Seen.{Seen, IsKeeping}
use Rattle.ledger.specs.Settling.{Answers, OnlyGrow}
use Rattle.ledger.specs.Prepared.{IsPrepared}
use Rattle.effects.specs.Shown.{work_of}
use Rattle.coordinator.proofs.coordinator.Coordinator.settle.Goals as goal

pub settle-result-requires-clause-prepared : goal.settle-result-requires-clause-prepared
settle-result-requires-clause-prepared g c = subst (λ (h : Held). IsPrepared h c.args.prepared) (sym (ap (λ (s : Seen g.row.K.Denot). s.held) c.self.view_is)) c.requires.prepared

pub settle-result-requires-clause-keeping : goal.settle-result-requires-clause-keeping
settle-result-requires-clause-keeping g c =
    let up : c.self.inside.down ≡ false = ap (λ (s : Seen g.row.K.Denot). s.down) c.self.view_is ∙ c.requires.up in
    subst (IsKeeping (g.K.Keeper.kept c.self.inside.keeper) c.self.inside.ledger) up c.self.invariant

pub invariant_of-self : goal.invariant_of-self
invariant_of-self g c =
    subst (IsKeeping (g.K.Keeper.kept c.settle-result.new.keeper) c.settle-result.new.self) (sym c.is_save_fault-self-inside.ensures) c.settle-result.ensures.keeping

pub returns-clause-answer : goal.returns-clause-answer
returns-clause-answer g c =
    let up : c.self.inside.down ≡ false = ap (λ (s : Seen g.row.K.Denot). s.down) c.self.view_is ∙ c.requires.up in
    let w : (Held → Work) = λ h. work_of h c.args.prepared.effects.value in
    let before : (Bool → Seen g.row.K.Denot) = λ b. record { held = c.self.inside.ledger; keeper = c.self.inside.keeper; down = b } in
    let now : (Bool → Seen g.row.K.Denot) = λ b. record { held = c.settle-result.new.self; keeper = c.settle-result.new.keeper; down = b } in
    subst (λ (s : Seen g.row.K.Denot). Answers g.K.Keeper.saving (Ok (w s.held)) s (now c.is_save_fault-self-inside.result) c.settle-result.result) c.self.view_is
    (subst (λ b. Answers g.K.Keeper.saving (Ok (w c.self.inside.ledger)) (before b) (now c.is_save_fault-self-inside.result) c.settle-result.result) (sym up)
    (subst (λ b. Answers g.K.Keeper.saving (Ok (w c.self.inside.ledger)) (before false) (now b) c.settle-result.result) (sym c.is_save_fault-self-inside.ensures) c.settle-result.ensures.answer))

pub returns-clause-grow : goal.returns-clause-grow
returns-clause-grow g c =
    subst (λ (h : Held). OnlyGrow (line_at h.lines) (line_at c.settle-result.new.self.lines)) (ap (λ (s : Seen g.row.K.Denot). s.held) c.self.view_is) c.settle-result.ensures.grow
