use Rattle.std.proofs.Common.{◌≡◌, ℕ, [], List, drop, ap, sym, ◌∙◌, subst, append-nil, arith}
use Rattle.std.proofs.lemmas.Grind.{common_steps}
use Rattle.names.specs.Contents.{content_digest}
use Rattle.protocol.specs.Farm.{farm_limits}
use Rattle.protocol.specs.Follows.{SafeAfter}
use Rattle.protocol.specs.Chronicle.{Headline}
use Rattle.protocol.specs.Replay.{Farm, opening, run}
use Rattle.events.specs.declared.event.Event.{Event}
use Rattle.world.specs.Shown.{shown}
use Rattle.world.proofs.LimitLemmas.{is_farm}
use Rattle.world.proofs.MeaningLemmas.{none_waits_idly}
use Rattle.world.proofs.replaying.replay.Goals as goal

-- after the last event the farm is that of the schedule
at_end : (s : Farm) (events rest : List Event) (size : ℕ) → rest ≡ [] → run content_digest farm_limits rest s ≡ run content_digest farm_limits events (opening content_digest size) → s ≡ run content_digest farm_limits events (opening content_digest size)
at_end s events rest size none is = ap (λ (l : List Event). run content_digest farm_limits l s) (sym none) ∙ is

pub returns-clause-safe : goal.returns-clause-safe
returns-clause-safe c =
    let none : drop c.loop-place.place c.args.events.now ≡ [] = grind (arith, common_steps) in
    subst (SafeAfter content_digest) (sym (at_end (shown c.loop-place.world) c.args.events.now _ c.args.setup.nodes none c.loop-place.invariant))
    (c.every_schedule_is_safe.ensures.safe content_digest farm_limits is_farm c.args.setup.nodes c.args.events.now)

pub returns-clause-holds : goal.returns-clause-holds
returns-clause-holds c =
    let none : drop c.loop-place.place c.args.events.now ≡ [] = grind (arith, common_steps) in
    subst (Headline content_digest farm_limits) (sym (at_end (shown c.loop-place.world) c.args.events.now _ c.args.setup.nodes none c.loop-place.invariant))
    (c.every_replay_means.ensures.headline c.args.setup.nodes c.args.events.now c.args.events.now [] (sym (append-nil c.args.events.now))).0

pub returns-clause-idle : goal.returns-clause-idle
returns-clause-idle c =
    let none : drop c.loop-place.place c.args.events.now ≡ [] = grind (arith, common_steps) in
    none_waits_idly c.every_ask_is_answered.ensures.ready c.args.setup.nodes c.args.events.now (shown c.loop-place.world)
    (at_end (shown c.loop-place.world) c.args.events.now _ c.args.setup.nodes none c.loop-place.invariant)

pub returns-clause-stays : goal.returns-clause-stays
returns-clause-stays c = λ early late rest e. c.every_schedule_is_safe.ensures.stays content_digest farm_limits is_farm c.args.setup.nodes early late

pub returns-clause-chronicle : goal.returns-clause-chronicle
returns-clause-chronicle c = c.every_replay_means.ensures.chronicle c.args.setup.nodes c.args.events.now

pub returns-clause-headline : goal.returns-clause-headline
returns-clause-headline c = c.every_replay_means.ensures.headline c.args.setup.nodes c.args.events.now
