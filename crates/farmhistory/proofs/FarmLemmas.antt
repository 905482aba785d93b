-- A history of one event more leads to the step of its farm.
use Rattle.std.proofs.Common.{◌≡◌, List, [], ◌∷◌, ◌++◌, Result, refl, ap, sym, ◌∙◌}
use Rattle.names.specs.Contents.{content_digest}
use Rattle.protocol.specs.Farm.{farm_limits}
use Rattle.protocol.specs.Replay.{Farm, Turn, opening, step, run}
use Rattle.events.specs.declared.event.Event.{Event}
use Rattle.events.specs.declared.answer.EventRefusal.{EventRefusal}
use Rattle.events.specs.declared.answer.Outcome.{Outcome}
use Rattle.farmhistory.specs.History.{History, farm_of, outcome_of, and_then}

run_then : (events : List Event) (e : Event) (s : Farm) → run content_digest farm_limits (events ++ e ∷ []) s ≡ (step content_digest farm_limits (run content_digest farm_limits events s) e).farm
run_then [] e s = refl
run_then (x ∷ xs) e s = run_then xs e (step content_digest farm_limits s x).farm

pub farm_then : (h : History) (e : Event) → farm_of (and_then h e) ≡ (step content_digest farm_limits (farm_of h) e).farm
unfolding farm_of
farm_then h e = run_then h.events e (opening content_digest h.setup.nodes)

-- the farm after the event, and its outcome
pub next_farm : (s t : Farm) (h : History) (e : Event) (r : Result Outcome EventRefusal) → s ≡ farm_of h → step content_digest farm_limits s e ≡ record { farm = t; outcome = r } → t ≡ farm_of (and_then h e)
next_farm s t h e r at came =
    sym (ap (λ (u : Turn). u.farm) came) ∙ ap (λ (u : Farm). (step content_digest farm_limits u e).farm) at ∙ sym (farm_then h e)

pub next_outcome : (s t : Farm) (h : History) (e : Event) (r : Result Outcome EventRefusal) → s ≡ farm_of h → step content_digest farm_limits s e ≡ record { farm = t; outcome = r } → outcome_of h e ≡ r
unfolding outcome_of
next_outcome s t h e r at came = ap (λ (u : Farm). (step content_digest farm_limits u e).outcome) (sym at) ∙ ap (λ (u : Turn). u.outcome) came
