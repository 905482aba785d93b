-- What is said of a board is said of its schedule.
use Rattle.std.proofs.Common.{◌≡◌, ◌+◌, List, refl, sym, ap, ◌∙◌}
use Rattle.events.specs.declared.event.Event.{Event}
use Rattle.schedule.specs.declared.setup.Setup.{Setup}
use Rattle.farmhistory.specs.History.{History, farm_of}
use Rattle.farmhistory.specs.Counts.{counts_of, commits_of}
use Rattle.farmhistory.specs.declared.counts.Counts.{Counts}
use Rattle.farmhistory.specs.Replays.{replayed, farm_after, commits_after}

-- what was skipped doesn't count
pub counts_of-replayed : (h : History) → counts_of (replayed h.setup h.events) ≡ counts_of h
unfolding counts_of
counts_of-replayed h = refl

-- nor does it lead anywhere
pub farm_of-replayed : (h : History) → farm_of (replayed h.setup h.events) ≡ farm_of h
unfolding farm_of
farm_of-replayed h = refl

-- the farm that a board's schedule leads to
pub farm_same : (h : History) (setup : Setup) (events : List Event) → h.setup.nodes ≡ setup.nodes → events ≡ h.events → farm_of h ≡ farm_after setup events
farm_same h setup events nodes same = sym (farm_of-replayed h) ∙ ap (λ (s : Setup). farm_of (replayed s h.events)) (λ j. record { nodes = nodes j }) ∙ ap (λ (es : List Event). farm_of (replayed setup es)) (sym same)

-- and its commits
pub commits_same : (h : History) (setup : Setup) (events : List Event) → h.setup.nodes ≡ setup.nodes → events ≡ h.events → commits_of h ≡ commits_after setup events
commits_same h setup events nodes same =
    ap (λ (c : Counts). c.committed + c.kept)
    (sym (counts_of-replayed h) ∙ ap (λ (s : Setup). counts_of (replayed s h.events)) (λ j. record { nodes = nodes j }) ∙ ap (λ (es : List Event). counts_of (replayed setup es)) (sym same))
