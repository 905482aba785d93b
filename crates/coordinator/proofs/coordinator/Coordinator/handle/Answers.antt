use Rattle.std.proofs.Common.{◌≡◌, false, Ok, sym, ap, ◌∙◌, subst}
use Rattle.protocol.specs.Farm.{farm_limits}
use Rattle.protocol.specs.Ledger.{Ledger, Work, begin_work, handled}
use Rattle.effects.specs.Held.{Held, ledger}
use Rattle.effects.specs.Keeps.{held}
use Rattle.ledger.specs.Seen.{Seen}
use Rattle.ledger.specs.Prepared.{IsPrepared}
use Rattle.effects.specs.Shown.{work_of}
use Rattle.effects.specs.Sound.{IsRightful}
use Rattle.coordinator.specs.Promises.{GrantsAtOnce, EndsOnlyItsOwn}
use Rattle.coordinator.proofs.Answering.{settled_up, at_once, own}
use Rattle.coordinator.proofs.Kept.{grants}
use Rattle.coordinator.proofs.Recording.{handled-own}
use Rattle.coordinator.proofs.coordinator.Coordinator.handle.Goals as goal

pub settle-requires-clause-prepared : goal.settle-requires-clause-prepared
settle-requires-clause-prepared g c = subst (λ (h : Held). IsPrepared h c.in-Ok.prepared) (c.state.ensures.held ∙ ap (λ (s : Seen g.row.K.Denot). s.held) c.self.view_is) c.in-Ok.ensures.prepared

pub returns-clause-answer : goal.returns-clause-answer
returns-clause-answer g c =
    let same : held c.state.result.now ≡ c.args.self.now.held = c.state.ensures.held ∙ ap (λ (s : Seen g.row.K.Denot). s.held) c.self.view_is in
    let w : (Held → Work) = λ h. work_of h c.in-Ok.prepared.effects.value in
    let work : w c.args.self.now.held ≡ handled farm_limits c.args.message.now (begin_work (ledger c.args.self.now.held)) = subst (λ (h : Held). w h ≡ handled farm_limits c.args.message.now (begin_work (ledger h))) same c.in-Ok.ensures.work in
    let up : c.args.self.now.down ≡ false = sym (ap (λ (s : Seen g.row.K.Denot). s.down) c.self.view_is) ∙ c.if-self.false in
    settled_up g.K.Keeper.saving (Ok (handled farm_limits c.args.message.now (begin_work (ledger c.args.self.now.held)))) (Ok (w c.args.self.now.held)) c.args.self.now c.settle.new.self c.settle.result up (ap (λ (x : Work). Ok x) work) c.settle.ensures.answer

pub returns-clause-at_once : goal.returns-clause-at_once
returns-clause-at_once g c =
    let same : held c.state.result.now ≡ c.args.self.now.held = c.state.ensures.held ∙ ap (λ (s : Seen g.row.K.Denot). s.held) c.self.view_is in
    let w : (Held → Work) = λ h. work_of h c.in-Ok.prepared.effects.value in
    let work : w c.args.self.now.held ≡ handled farm_limits c.args.message.now (begin_work (ledger c.args.self.now.held)) = subst (λ (h : Held). w h ≡ handled farm_limits c.args.message.now (begin_work (ledger h))) same c.in-Ok.ensures.work in
    let q : Ledger = ledger c.args.self.now.held in
    at_once g.K.Keeper.saving (w c.args.self.now.held) c.args.self.now c.settle.new.self c.settle.result c.args.message.now c.settle.ensures.answer
    (subst (λ (x : Work). GrantsAtOnce q c.args.message.now x.note x.sends) (sym work) (grants q c.args.message.now (subst (λ (h : Held). IsRightful (ledger h)) same c.state.ensures.keepable.rightful).held_up))

pub returns-clause-own : goal.returns-clause-own
returns-clause-own g c =
    let same : held c.state.result.now ≡ c.args.self.now.held = c.state.ensures.held ∙ ap (λ (s : Seen g.row.K.Denot). s.held) c.self.view_is in
    let w : (Held → Work) = λ h. work_of h c.in-Ok.prepared.effects.value in
    let work : w c.args.self.now.held ≡ handled farm_limits c.args.message.now (begin_work (ledger c.args.self.now.held)) = subst (λ (h : Held). w h ≡ handled farm_limits c.args.message.now (begin_work (ledger h))) same c.in-Ok.ensures.work in
    let q : Ledger = ledger c.args.self.now.held in
    own g.K.Keeper.saving (w c.args.self.now.held) c.args.self.now c.settle.new.self c.settle.result c.args.message.now c.settle.ensures.answer
    (subst (λ (x : Work). EndsOnlyItsOwn q c.args.message.now x.ledger) (sym work) (handled-own c.args.message.now q (subst (λ (h : Held). IsRightful (ledger h)) same c.state.ensures.keepable.rightful).sound))
