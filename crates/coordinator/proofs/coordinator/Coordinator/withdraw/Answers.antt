use Rattle.std.proofs.Common.{◌≡◌, false, Ok, sym, ap, ◌∙◌, subst}
use Rattle.protocol.specs.Farm.{farm_limits}
use Rattle.protocol.specs.Ledger.{Work, begin_work, withdrawn}
use Rattle.effects.specs.Held.{Held, ledger}
use Rattle.effects.specs.Keeps.{held}
use Rattle.ledger.specs.Seen.{Seen}
use Rattle.ledger.specs.Prepared.{IsPrepared}
use Rattle.effects.specs.Shown.{work_of}
use Rattle.coordinator.proofs.Answering.{settled_up}
use Rattle.coordinator.proofs.coordinator.Coordinator.withdraw.Goals as goal

pub settle-requires-clause-prepared : goal.settle-requires-clause-prepared
settle-requires-clause-prepared g c = subst (λ (h : Held). IsPrepared h c.in-Ok.prepared) (c.state-state.ensures.held ∙ ap (λ (s : Seen g.row.K.Denot). s.held) c.self.view_is) c.in-Ok.ensures.prepared

pub returns-clause-answer : goal.returns-clause-answer
returns-clause-answer g c =
    let same : held c.state-state.result.now ≡ c.args.self.now.held = c.state-state.ensures.held ∙ ap (λ (s : Seen g.row.K.Denot). s.held) c.self.view_is in
    let w : (Held → Work) = λ h. work_of h c.in-Ok.prepared.effects.value in
    let work : withdrawn farm_limits c.args.ticket (begin_work (ledger c.args.self.now.held)) ≡ Ok (w c.args.self.now.held) = subst (λ (h : Held). withdrawn farm_limits c.args.ticket (begin_work (ledger h)) ≡ Ok (w h)) same c.in-Ok.ensures.work in
    let up : c.args.self.now.down ≡ false = sym (ap (λ (s : Seen g.row.K.Denot). s.down) c.self.view_is) ∙ c.if-self.false in
    settled_up g.K.Keeper.saving (withdrawn farm_limits c.args.ticket (begin_work (ledger c.args.self.now.held))) (Ok (w c.args.self.now.held)) c.args.self.now c.settle.new.self c.settle.result up (sym work) c.settle.ensures.answer
