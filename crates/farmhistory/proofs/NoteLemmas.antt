-- What the note of an accepted event of a node says.
use Rattle.std.proofs.Common.{◌≡◌, ℕ, Bool, true, false, not, List, length, Option, Some, None, Result, Ok, Err, refl, ap, sym, ◌∙◌}
use Rattle.std.specs.List.{list_any}
use Rattle.std.specs.Prelude.{nat_lt}
use Rattle.names.specs.Contents.{content_digest}
use Rattle.protocol.specs.Farm.{farm_limits}
use Rattle.protocol.specs.Names.{NodeId, Ask, Want, FolderName, Shared}
use Rattle.protocol.specs.World.{Node}
use Rattle.protocol.specs.Nodes.{NodeWork, NodeAnswer, guard, next_ask, asked, asked_tenure, at_home, is_tenure_of}
use Rattle.protocol.specs.Replay.{Farm, is_node, at, at_node, step}
use Rattle.events.specs.declared.event.Event.{Event}
use Rattle.events.specs.declared.event.Event.TheVariants as event
use Rattle.events.specs.declared.answer.EventNote.{EventNote}
use Rattle.events.specs.declared.answer.EventNote.TheVariants as note
use Rattle.events.specs.declared.answer.EventRefusal.{EventRefusal}
use Rattle.events.specs.declared.answer.NodeNote.{NodeNote}
use Rattle.events.specs.declared.answer.NodeNote.TheVariants as node_note
use Rattle.events.specs.declared.answer.NodeRefusal.{NodeRefusal}
use Rattle.events.specs.declared.answer.NodeRefusal.TheVariants as refusal
use Rattle.events.specs.declared.answer.Outcome.{Outcome}
use Rattle.farmhistory.specs.History.{History, farm_of, outcome_of, ask_in, IsAskEvent, Took, Did}
use Rattle.world.proofs.FewLemmas.{guarded}

-- the node is there, and accepted the call with this work
pub record Accepted (is : Bool) (a : NodeAnswer) (o : Outcome) : Type 0 where
  pub there : is ≡ true
  pub work : NodeWork
  pub answer : a ≡ Ok work
  pub note : o.note ≡ note.Node work.note

pub note_of : (o p : Outcome) → ◌≡◌ {A = Result Outcome EventRefusal} (Ok p) (Ok o) → o.note ≡ p.note
note_of o p h = (let same : p ≡ o = cc in ap (λ (x : Outcome). x.note) (sym same))

pub accepted : (b : Bool) (n : NodeId) (a : NodeAnswer) (s : Farm) (o : Outcome) → (at_node b n a s).outcome ≡ Ok o → Accepted b a o
accepted false n a s o h = absurd (cc)
accepted true n (Err e) s o h = absurd (cc)
accepted true n (Ok w) s o h = record { there = refl; work = w; answer = refl; note = note_of o _ h }

pub work_note : (v w : NodeWork) → ◌≡◌ {A = NodeAnswer} (Ok v) (Ok w) → w.note ≡ v.note
work_note v w h = (let same : v ≡ w = cc in ap (λ (x : NodeWork). x.note) (sym same))

-- an accepted ask tells its number
pub tells_ask : (h : History) (e : Event) (o : Outcome) → IsAskEvent e → outcome_of h e ≡ Ok o → (a : Ask) × (o.note ≡ note.Node (node_note.Asked a))
unfolding outcome_of step
tells_ask h (event.Ask n wants) o i ok =
    let s : Farm = farm_of h in
    let x : Node = s.nodes n.0 in
    let t = accepted (is_node s n) n (asked farm_limits (at s n) wants x) s o ok in
    let one = guarded x.spent refusal.LivesSpent _ t.work t.answer in
    let two = guarded (not (at_home x.asks wants)) refusal.NotHomeHere _ t.work one in
    let three = guarded (not (nat_lt (length x.asks) farm_limits.greatest)) refusal.AsksSpent _ t.work two in
    (next_ask x, t.note ∙ ap note.Node (work_note _ t.work three))
tells_ask h (event.Tenure n f) o i ok =
    let s : Farm = farm_of h in
    let x : Node = s.nodes n.0 in
    let t = accepted (is_node s n) n (asked_tenure farm_limits (at s n) f x) s o ok in
    let one = guarded x.spent refusal.LivesSpent _ t.work t.answer in
    let two = guarded (list_any (is_tenure_of (record f { mode = Shared })) x.asks) refusal.TenureHere _ t.work one in
    let three = guarded (not (nat_lt (length x.asks) farm_limits.greatest)) refusal.AsksSpent _ t.work two in
    (next_ask x, t.note ∙ ap note.Node (work_note _ t.work three))
tells_ask h (event.Deliver k) o i ok = absurd i
tells_ask h (event.Begin n t) o i ok = absurd i
tells_ask h (event.Finish n t lefts) o i ok = absurd i
tells_ask h (event.Abort n t) o i ok = absurd i
tells_ask h (event.Resend n) o i ok = absurd i
tells_ask h event.Nudge o i ok = absurd i
tells_ask h (event.Withdraw t) o i ok = absurd i
tells_ask h (event.Prune s) o i ok = absurd i
tells_ask h (event.Retire n) o i ok = absurd i
tells_ask h (event.RestartNode n) o i ok = absurd i
tells_ask h event.RestartCoordinator o i ok = absurd i
tells_ask h (event.Forge n c) o i ok = absurd i
tells_ask h (event.Forget n d) o i ok = absurd i
tells_ask h (event.FailSave k) o i ok = absurd i

-- what asks is there
pub asker_there : (h : History) (n : NodeId) (wants : List Want) (o : Outcome) → outcome_of h (event.Ask n wants) ≡ Ok o → is_node (farm_of h) n ≡ true
unfolding outcome_of step
asker_there h n wants o ok = (accepted (is_node (farm_of h) n) n (asked farm_limits (at (farm_of h) n) wants ((farm_of h).nodes n.0)) (farm_of h) o ok).there

pub tenure_asker_there : (h : History) (n : NodeId) (f : FolderName) (o : Outcome) → outcome_of h (event.Tenure n f) ≡ Ok o → is_node (farm_of h) n ≡ true
unfolding outcome_of step
tenure_asker_there h n f o ok = (accepted (is_node (farm_of h) n) n (asked_tenure farm_limits (at (farm_of h) n) f ((farm_of h).nodes n.0)) (farm_of h) o ok).there

module _ (old new : History) (e : Event) (o : Outcome) (is : IsAskEvent e) (took : Took old e new (Ok o)) where
  pub asked_here : (a : Ask) → ask_in o.note ≡ Some a → Did old e new (note.Node (node_note.Asked a))
  asked_here a h =
      let t = tells_ask old e o is took.1 in
      let some : Some t.0 ≡ Some a = sym (ap ask_in t.1) ∙ h in
      let same : t.0 ≡ a = cc in
      (o, t.1 ∙ ap (λ (x : Ask). note.Node (node_note.Asked x)) same, took)

  pub not_unasked : ask_in o.note ≡ None → ⊥
  not_unasked h = (let t = tells_ask old e o is took.1 in let some : Some t.0 ≡ None = sym (ap ask_in t.1) ∙ h in cc)
