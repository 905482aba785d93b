-- What is done to a draft, said in other words.
use Rattle.std.proofs.Common.{◌≡◌, None, Ok, Option, Some, Result, List, ◌++◌, sym, ap, true, ◌∙◌, subst}
use Rattle.protocol.specs.Machine.{News, digest_for, version_of}
use Rattle.protocol.specs.Ledger.{Work, commits, without}
use Rattle.events.specs.declared.answer.CoordRefusal.{CoordRefusal}
use Rattle.std.specs.Prelude.{map}
use Rattle.versions.specs.Additions.{IsReady}
use Rattle.versions.specs.Lines.{LineOf, line_at, lines_with, news_of}
use Rattle.versions.specs.declared.lines.Added.{Added}
use Rattle.versions.specs.declared.lines.SlotLine.{SlotLine}
use Rattle.drafts.specs.declared.draft.Draft.{Draft}
use Rattle.effects.specs.declared.effects.Effects.{Effects}
use Rattle.effects.specs.declared.state.State.{State}
use Rattle.effects.specs.Keeps.{held}
use Rattle.effects.specs.Shown.{work_of}
use Rattle.drafts.specs.Shown.{work, Makes, Finishes, Accepts, ended_committed}
use Rattle.effects.specs.Sound.{IsSound}

-- nothing was done
pub makes-none : (g : Work → Work) (a : Draft) → work a ≡ g (work a) → Makes g a a
makes-none g a e = record { base = λ i. a.base.now; added = λ i. a.effects.value.added; work = e }

-- what was done is this, at the work that it began with
pub makes-as : {f : Work → Work} (g : Work → Work) {a b : Draft} → Makes f a b → f (work a) ≡ g (work a) → Makes g a b
makes-as g m e = record { base = m.base; added = m.added; work = m.work ∙ e }

-- first the one and then the other
pub makes-then : {f g : Work → Work} {a b d : Draft} → Makes f a b → Makes g b d → Makes (λ w. g (f w)) a d
makes-then {g = g} m n = record { base = n.base ∙ m.base; added = n.added ∙ m.added; work = n.work ∙ ap g m.work }

none_ready : (d : Draft) → d.effects.value.added ≡ None → IsReady d.base.now.lines d.effects.value.added
none_ready d none = subst (IsReady d.base.now.lines) (sym none) tt

-- where nothing is added there is nothing to be ready for
pub finishes : {f : Work → Work} (g : Work → Work) {a b : Draft} → a.effects.value.added ≡ None → Makes f a b → f (work a) ≡ g (work a) → Finishes g a b
finishes g {b = b} none m e = record { base = m.base; ready = none_ready b (m.added ∙ none); work = m.work ∙ e }

pub accepts : {f : Work → Work} (call : Work → Result Work CoordRefusal) {a b : Draft} → a.effects.value.added ≡ None → Makes f a b → call (work a) ≡ Ok (f (work a)) → IsSound (f (work a)).ledger
    → Accepts call a b
accepts call {b = b} none m e sound = record {
  base = m.base;
  ready = none_ready b (m.added ∙ none);
  work = e ∙ ap (λ (w : Work). Ok w) (sym m.work);
  sound = subst (λ (w : Work). IsSound w.ledger) (sym m.work) sound;
}

-- what holds of a draft's state and effects holds of this state and these effects
pub on-state : (P : State → Effects → Type 0) (s : State) (d : Draft) (e : Effects) → d.base.now ≡ s → e ≡ d.effects.value → P d.base.now d.effects.value → P s e
on-state P s d e base same p = subst (λ (t : State). P t e) base (subst (P d.base.now) (sym same) p)

-- what these effects come to over this state is the draft's work
pub over : (s : State) (d : Draft) (e : Effects) → d.base.now ≡ s → e ≡ d.effects.value → work_of (held s) e ≡ work d
over s d e base same = ap (work_of (held s)) same ∙ ap (λ (t : State). work_of (held t) d.effects.value) (sym base)

-- a lease ended and versions were added to lines to which nothing was added before: so a commit counts
pub committed : (d ended added : Draft) (a : Added) (news : List News) → d.effects.value.added ≡ None → Makes (ended_committed a.ticket) d ended
    → work added ≡ record (work ended) { ledger = record (work ended).ledger { line = lines_with ended.base.now.lines (Some a) } } → map news_of a.additions.items ≡ news
    → work added ≡ commits a.ticket news (work d)
committed d ended added a news none ends adds same =
    let w : Work = work d in
    let lines : List SlotLine = d.base.now.lines in
    let by : (LineOf → List News → Work) = λ f ns. record w { ledger = record w.ledger { live = without a.ticket w.ledger.live; line = λ s. f s ++ version_of a.ticket (digest_for s ns) }; changed = true } in
    adds
    ∙ ap (λ (s : State). record (work ended) { ledger = record (work ended).ledger { line = lines_with s.lines (Some a) } }) ends.base
    ∙ ap (λ (v : Work). record v { ledger = record v.ledger { line = lines_with lines (Some a) } }) ends.work
    ∙ ap (by (line_at lines)) same ∙ ap (λ (o : Option Added). by (lines_with lines o) news) (sym none)
