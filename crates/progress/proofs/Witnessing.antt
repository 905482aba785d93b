-- What the words of the premises reach.
use Rattle.std.proofs.Common.{length, ◌≡◌, ◌+◌, ◌<◌, ◌≤◌, ◌++◌, List, [], ◌∷◌, Bool, true, false, not, Some, Result, Ok, Err, suc, refl, sym, ◌∙◌, ap, subst, inl, inr, arith}
use Rattle.std.proofs.lemmas.Bool.{cases_Bool}
use Rattle.std.specs.Prelude.{nat_lt}
use Rattle.events.specs.declared.answer.EventNote.TheVariants as event
use Rattle.events.specs.declared.answer.EventRefusal.{EventRefusal}
use Rattle.events.specs.declared.answer.NodeRefusal.{NodeRefusal}
use Rattle.events.specs.declared.answer.NodeRefusal.TheVariants as refusal
use Rattle.events.specs.declared.answer.Outcome.{Outcome}
use Rattle.protocol.specs.Lists.{nth}
use Rattle.protocol.specs.Names.{NodeId}
use Rattle.protocol.specs.World.{KeptAsk, Open, Node}
use Rattle.protocol.specs.Nodes.{NodeWork, NodeAnswer, guard, at_home, opens, next_ask, asked}
use Rattle.protocol.specs.Replay.{Farm, at, at_node, is_node, moved, step, scheduled}
use Rattle.protocol.specs.Replay as replay
use Rattle.protocol.specs.Chronicle.{EveryScheduleMeans}
use Rattle.protocol.proofs.Base.{put_same, nth-push}
use Rattle.progress.specs.Progress.{IsWaiting, YoungNodesAreUp, AnAcceptedAskWaits}

pub young_nodes_are_up : EveryScheduleMeans → YoungNodesAreUp
young_nodes_are_up means sha k is_farm size events young who there here =
    let s : Farm = scheduled sha k size events in
    elim (cases_Bool (s.nodes who.0).spent) [
      | inr f ↦ f
      | inl t ↦ (let a : (s.nodes who.0).life.0 < k.greatest = young who in let b : k.greatest ≤ (s.nodes who.0).life.0 = (means sha k is_farm size events).also.greatest who t in absurd (omega arith))
    ]

abbrev the_answer : NodeWork → NodeAnswer
the_answer w = Ok w

abbrev the_result : Outcome → Result Outcome EventRefusal
the_result o = Ok o

-- an answer that is no refusal passed the test
passed : (b : Bool) (why : NodeRefusal) (r : NodeAnswer) (w : NodeWork) → guard b why r ≡ Ok w → (b ≡ false) × (r ≡ Ok w)
passed true why r w e = absurd (cc e)
passed false why r w e = (refl, e)

ok_outcome : (x y : Outcome) → the_result x ≡ the_result y → x ≡ y
ok_outcome x y e = cc

ok_work : (x y : NodeWork) → the_answer x ≡ the_answer y → x ≡ y
ok_work x y e = cc

-- an accepted event of a node is a work of it
accepted : (s : Farm) (who : NodeId) (b : Bool) (r : NodeAnswer) (o : Outcome) → (at_node b who r s).outcome ≡ Ok o → (w : NodeWork) × (b ≡ true) × (r ≡ Ok w) × (o.note ≡ event.Node w.note)
accepted s who true (Ok w) o e = (w, refl, refl, ap (λ (x : Outcome). x.note) (ok_outcome o _ (sym e)))
accepted s who true (Err why) o e = absurd (cc e)
accepted s who false r o e = absurd (cc e)

pub an_accepted_ask_waits : AnAcceptedAskWaits
unfolding step
an_accepted_ask_waits sha k s who wants o e here =
    let x : Node = s.nodes who.0 in
    let a = accepted s who (is_node s who) (asked k (at s who) wants x) o e in
    let b = passed x.spent refusal.LivesSpent (guard (not (at_home x.asks wants)) refusal.NotHomeHere (guard (not (nat_lt (length x.asks) k.greatest)) refusal.AsksSpent (Ok (opens (at s who) wants false x)))) a.0 a.2 in
    let c = passed (not (at_home x.asks wants)) refusal.NotHomeHere (guard (not (nat_lt (length x.asks) k.greatest)) refusal.AsksSpent (Ok (opens (at s who) wants false x))) a.0 b.1 in
    let d = passed (not (nat_lt (length x.asks) k.greatest)) refusal.AsksSpent (Ok (opens (at s who) wants false x)) a.0 c.1 in
    let is : opens (at s who) wants false x ≡ a.0 = ok_work (opens (at s who) wants false x) a.0 d.1 in
    let done : (step sha k s (replay.Ask who wants)).farm ≡ (moved who (opens (at s who) wants false x) s).farm = ap (λ r. (at_node r who (asked k (at s who) wants x) s).farm) a.1 ∙ ap (λ r. (at_node true who r s).farm) (a.2 ∙ ap (λ (w : NodeWork). the_answer w) (sym is)) in (
      next_ask x,
      a.3 ∙ ap (λ (w : NodeWork). event.Node w.note) (sym is),
      subst (λ (f : Farm). IsWaiting f who (next_ask x) wants false) (sym done) (record {
        there = a.1;
        stays = here;
        runs = ap (λ (z : Node). z.spent) (put_same who.0 (opens (at s who) wants false x).node s.nodes) ∙ b.0;
        asks = ap (λ (z : Node). nth z.asks (next_ask x).0) (put_same who.0 (opens (at s who) wants false x).node s.nodes) ∙ at_end x.asks (Open wants false);
      }),
    )
  where
    at_end : (asks : List KeptAsk) (kept : KeptAsk) → nth (asks ++ kept ∷ []) (length asks + 1) ≡ Some kept
    at_end asks kept = subst (λ z. nth (asks ++ kept ∷ []) z ≡ Some kept) (let e : suc (length asks) ≡ length asks + 1 = omega arith in e) (nth-push asks kept)
