use Rattle.std.proofs.Common.{◌≡◌, ◌<◌, ◌≤◌, true, false, ap, sym, ◌∙◌, subst, arith}
use Rattle.protocol.specs.Farm.{farm_limits}
use Rattle.protocol.specs.Machine.{ToCoord}
use Rattle.protocol.specs.Ledger.{Work, answering, handled}
use Rattle.effects.specs.Sound.{AreHeldUp}
use Rattle.effects.specs.Keeps.{IsKeepable}
use Rattle.drafts.specs.Shown.{work}
use Rattle.effects.specs.Sound.{IsSound}
use Rattle.drafts.proofs.Drafting.{finishes}
use Rattle.drafts.proofs.Trying.{handled-gone, handled-old, handled-new, handled-same}
use Rattle.drafts.proofs.HeldUp.{newer_life-held}
use Rattle.drafts.proofs.SoundWords.{sound-newer_life}
use Rattle.drafts.proofs.draft.Draft.deliver.Goals as goal

pub returns-then-is_gone : goal.returns-then-is_gone
returns-then-is_gone c =
    let y : ToCoord = c.args.message.now in
    let w : Work = work c.args.self.now in
    let gone : w.ledger.gone y.node.0 ≡ true = sym c.is_gone.ensures ∙ c.if-is_gone.true in
    finishes (handled farm_limits y) c.requires.first.added c.note.ensures (sym (handled-gone farm_limits y w gone))

pub returns-then-message-seen : goal.returns-then-message-seen
returns-then-message-seen c =
    let y : ToCoord = c.args.message.now in
    let w : Work = work c.args.self.now in
    let gone : w.ledger.gone y.node.0 ≡ false = sym c.is_gone.ensures ∙ c.if-is_gone.false in
    let seen : c.greatest_life-seen.result ≡ w.ledger.lives y.node.0 = c.greatest_life-seen.ensures in
    let older : y.life.0 < c.greatest_life-seen.result = c.if-message-seen.true in
    finishes (handled farm_limits y) c.requires.first.added c.note-then-message-seen.ensures (sym (handled-old farm_limits y w gone (omega arith)))

pub answer-requires-clause-sound : goal.answer-requires-clause-sound
answer-requires-clause-sound c =
    let P : Work → Type 0 = λ w. IsSound w.ledger in
    subst P (sym c.in_ok-begin_life.ensures.work) (sound-newer_life farm_limits c.args.message.now.node c.args.message.now.life (work c.args.self.now) c.requires.sound)

pub answer-requires-clause-kept : goal.answer-requires-clause-kept
answer-requires-clause-kept c = subst IsKeepable (sym c.in_ok-begin_life.ensures.base) c.requires.kept

pub answer-requires-clause-held_up : goal.answer-requires-clause-held_up
answer-requires-clause-held_up c =
    let P : Work → Type 0 = λ w. AreHeldUp w.ledger in
    subst P (sym c.in_ok-begin_life.ensures.work) (newer_life-held farm_limits c.args.message.now.node c.args.message.now.life (work c.args.self.now) c.requires.held_up)

pub answer-requires-clause-first : goal.answer-requires-clause-first
answer-requires-clause-first c = c.in_ok-begin_life.ensures.added ∙ c.requires.first.added

pub returns-then-seen-message : goal.returns-then-seen-message
returns-then-seen-message c =
    let y : ToCoord = c.args.message.now in
    let w : Work = work c.args.self.now in
    let gone : w.ledger.gone y.node.0 ≡ false = sym c.is_gone.ensures ∙ c.if-is_gone.false in
    let seen : c.greatest_life-seen.result ≡ w.ledger.lives y.node.0 = c.greatest_life-seen.ensures in
    let newer : c.greatest_life-seen.result < y.life.0 = c.if-seen-message.true in
    let answer = c.in_ok-answer.ensures in
    record {
      base = answer.base ∙ c.in_ok-begin_life.ensures.base;
      ready = answer.ready;
      work = answer.work ∙ ap (answering farm_limits y.node y.life y.request) c.in_ok-begin_life.ensures.work ∙ sym (handled-new farm_limits y w gone (omega arith));
    }

pub returns : goal.returns
returns c =
    let y : ToCoord = c.args.message.now in
    let w : Work = work c.args.self.now in
    let gone : w.ledger.gone y.node.0 ≡ false = sym c.is_gone.ensures ∙ c.if-is_gone.false in
    let seen : c.greatest_life-seen.result ≡ w.ledger.lives y.node.0 = c.greatest_life-seen.ensures in
    let high : c.greatest_life-seen.result ≤ y.life.0 = c.if-message-seen.false in
    let low : y.life.0 ≤ c.greatest_life-seen.result = c.if-seen-message.false in
    let answer = c.in_ok-answer-2.ensures in
    record { base = answer.base; ready = answer.ready; work = answer.work ∙ sym (handled-same farm_limits y w gone (omega arith) (omega arith)) }
