-- Answers that have their reasons.
use Rattle.std.proofs.Common.{◌≡◌, ◌≢◌, List, [], ◌∷◌, subst}
use Rattle.std.specs.List.{All, AllZip}
use Rattle.std.proofs.lemmas.List.Elements.{All-cons, All-nil}
use Rattle.names.specs.declared.number.NodeId.{NodeId}
use Rattle.protocol.specs.Replay.{Farm}
use Rattle.executions.specs.declared.call.Call.{Call}
use Rattle.jobs.specs.declared.answer.Answer.{Answer}
use Rattle.jobs.specs.declared.answer.Answer.TheVariants.{Waiting}
use Rattle.solverkeys.specs.Keyed.{KeyedParts}
use Rattle.reasons.specs.Answers.{AreAnswered}

-- what has a reason doesn't wait
pub none_waits : {J : Type 0} (R : J → Answer → Type 0) (jobs : List J) (answers : List Answer) → ((job : J) → R job Waiting → ⊥) → AllZip R jobs answers → All (λ answer. answer ≢ Waiting) answers
none_waits R [] [] never all = All-nil (λ (answer : Answer). answer ≢ Waiting)
none_waits R [] (a ∷ answers) never all = absurd all
none_waits R (j ∷ jobs) [] never all = absurd all
none_waits R (j ∷ jobs) (a ∷ answers) never all = All-cons (λ (answer : Answer). answer ≢ Waiting) a answers (λ waits. never j (subst (R j) waits all.0)) (none_waits R jobs answers never all.1)

-- answers have their reasons in what is the same
pub answers_same : (s t : Farm) (nodes nodes2 : List NodeId) (hads hads2 ends ends2 : List (List Call)) (jobs : List (NodeId × KeyedParts)) (answers answers2 : List Answer)
    → s ≡ t → nodes ≡ nodes2 → hads ≡ hads2 → ends ≡ ends2 → answers ≡ answers2
    → AreAnswered s nodes hads ends jobs answers
    → AreAnswered t nodes2 hads2 ends2 jobs answers2
answers_same s t nodes nodes2 hads hads2 ends ends2 jobs answers answers2 farm places before after given all =
    subst (λ (told : List Answer). AreAnswered t nodes2 hads2 ends2 jobs told) given
    (subst (λ (es : List (List Call)). AreAnswered t nodes2 hads2 es jobs answers) after
    (subst (λ (hs : List (List Call)). AreAnswered t nodes2 hs ends jobs answers) before
    (subst (λ (ns : List NodeId). AreAnswered t ns hads ends jobs answers) places
    (subst (λ (u : Farm). AreAnswered u nodes hads ends jobs answers) farm all))))
