use Rattle.std.proofs.Common.{◌≡◌, IfOk, Option, inr, option_map, refl, subst}
use Rattle.std.specs.String.{string_bytes}
use Rattle.nodeasks.specs.Asks.{told_unless}
use Rattle.nodecore.specs.Shown.{forgets, shown}
use Rattle.nodeasks.specs.declared.ask_state.AskState.{AskState}
use Rattle.protocol.specs.Lists.{nth}
use Rattle.services.proofs.SentLemmas.{or_lost, lost_text}
use Rattle.nodefilter.specs.Filters.Follows.{Tells}
use Rattle.nodelines.specs.Written.{noted, state_text}
use Rattle.nodefilter.proofs.filter.tell.Goals as goal

pub returns-in_err-state : goal.returns-in_err-state
returns-in_err-state g c = Tells c.args.ask refl refl (inr (lost_text c.from_residual.result _ c.from_residual.ensures.1))

pub returns : goal.returns
returns g c =
    let state = option_map (told_unless (forgets c.args.filter.now.core c.args.ask.0)) (nth (shown c.args.filter.now.core).asks c.args.ask.0) in
    Tells c.args.ask refl refl
    (or_lost (λ text. text ≡ noted (state_text c.args.ask state)) c.print_state.result
    (subst (λ (told : Option AskState). IfOk c.print_state.result (λ text. string_bytes text ≡ noted (state_text c.args.ask told))) c.in_ok-state.ensures c.print_state.ensures))
