-- What events that give back leave.
use Rattle.std.proofs.Common.{length, ◌<◌, ◌≡◌, ℕ, zero, suc, ◌+◌, ◌≤◌, List, [], ◌∷◌, Bool, true, false, not, ◌&&◌, eqb, Option, Some, None, slice_get, Ok, Err, refl, sym, ◌∙◌, ap, subst, inl, inr, arith}
use Rattle.std.proofs.lemmas.Bool.{cases_Bool}
use Rattle.std.specs.List.{list_any}
use Rattle.std.specs.Prelude.{⊤, slice_set}
use Rattle.farm_base.specs.declared.message.Message.TheVariants as to
use Rattle.farm_base.specs.declared.message.ToNode.{ToNode}
use Rattle.farm_base.specs.declared.message.ToNode.TheVariants as to_node
use Rattle.farm_base.specs.declared.message.FromCoord.TheVariants as told
use Rattle.events.specs.declared.answer.How.TheVariants as how
use Rattle.events.specs.declared.answer.NodeRefusal.TheVariants as refusal
use Rattle.protocol.specs.Lists.{nth, set_nth}
use Rattle.protocol.specs.Names.{NodeId, Life, Ask, Ticket, Digest}
use Rattle.protocol.specs.Machine.{Message, Grant, FromCoord, ToCoord}
use Rattle.protocol.specs.Ledger.{Limits, Ledger, Work, begin_work, handled, nudged}
use Rattle.protocol.specs.World.{KeptAsk, Open, Holding, Running, Finished, Over, Node, keeps}
use Rattle.protocol.specs.Nodes.{NodeWork, NodeAnswer, Place, guard, in_use, becomes, HeldGrant, Sent, first, held_or_running, finished, recallable, aborting, aborted, resent, of_life, granted, gives_back, takes, learned, dropped, denied, recalled, heard, fetched, received, unless_spent, is_stored, is_base}
use Rattle.protocol.specs.Replay.{Event, Deliver, Abort, Resend, Nudge, RestartCoordinator, Farm, at, is_node, at_node, moved, settled, coordinated, delivered, opening, step, run, scheduled}
use Rattle.protocol.specs.Replay as replay
use Rattle.protocol.proofs.Base.{none_some, some_is, put_all}
use Rattle.protocol.proofs.Moving.{found, recallable_is}
use Rattle.progress.specs.Progress.{IsGivingBack}
use Rattle.progress.proofs.Progressing.{nudge_ledger}
use Rattle.progress.proofs.Freeing.{IsAfter, settles}
use Rattle.progress.proofs.Asking.{coordinated_same}

-- ---- what such an event leaves

length_set : {A : Type 0} (xs : List A) (j : ℕ) (x : A) → length (slice_set xs j x) ≡ length xs
length_set [] j x = refl
length_set (y ∷ ys) zero x = refl
length_set (y ∷ ys) (suc j) x = ap suc (length_set ys j x)

length_nth : {A : Type 0} (xs : List A) (a : ℕ) (x : A) → length (set_nth xs a x) ≡ length xs
length_nth xs zero x = refl
length_nth xs (suc j) x = length_set xs j x

-- how far an ask is from its end
abbrev pub weight : KeptAsk → ℕ
weight (Open wants tenure) = 2
weight (Holding wants grant recalled) = 1
weight (Running wants grant recalled) = 1
weight (Finished wants grant news) = 0
weight (Over ending) = 0

-- each ask is as far from its end as before, or nearer
abbrev pub Lighter : List KeptAsk → List KeptAsk → Type 0
Lighter [] [] = ⊤
Lighter [] (y ∷ later) = ⊥
Lighter (x ∷ asks) [] = ⊥
Lighter (x ∷ asks) (y ∷ later) = (weight y ≤ weight x) × Lighter asks later

pub lighter_same : (asks : List KeptAsk) → Lighter asks asks
lighter_same [] = tt
lighter_same (x ∷ asks) = (omega arith, lighter_same asks)

pub lighter_then : (a b c : List KeptAsk) → Lighter a b → Lighter b c → Lighter a c
lighter_then [] [] [] f g = tt
lighter_then [] [] (z ∷ c) f g = absurd g
lighter_then [] (y ∷ b) c f g = absurd f
lighter_then (x ∷ a) [] c f g = absurd f
lighter_then (x ∷ a) (y ∷ b) [] f g = absurd g
lighter_then (x ∷ a) (y ∷ b) (z ∷ c) f g = ((let p : weight y ≤ weight x = f.0 in let q : weight z ≤ weight y = g.0 in omega arith), lighter_then a b c f.1 g.1)

lighter_slice : (asks : List KeptAsk) (j : ℕ) (new : KeptAsk) → ((old : KeptAsk) → slice_get asks j ≡ Some old → weight new ≤ weight old) → Lighter asks (slice_set asks j new)
lighter_slice [] j new less = tt
lighter_slice (x ∷ asks) zero new less = (less x refl, lighter_same asks)
lighter_slice (x ∷ asks) (suc j) new less = (omega arith, lighter_slice asks j new less)

lighter_set : (asks : List KeptAsk) (place : ℕ) (new : KeptAsk) → ((old : KeptAsk) → nth asks place ≡ Some old → weight new ≤ weight old) → Lighter asks (set_nth asks place new)
lighter_set asks zero new less = lighter_same asks
lighter_set asks (suc j) new less = lighter_slice asks j new less

unfoldable pub total : List KeptAsk → ℕ
total [] = 0
total (x ∷ asks) = weight x + total asks

pub total_le : (asks later : List KeptAsk) → Lighter asks later → total later ≤ total asks
unfolding total
total_le [] [] f = omega arith
total_le [] (y ∷ later) f = absurd f
total_le (x ∷ asks) [] f = absurd f
total_le (x ∷ asks) (y ∷ later) f = (let p : weight y ≤ weight x = f.0 in let r = total_le asks later f.1 in omega arith)

total_slice : (asks later : List KeptAsk) (j : ℕ) (old new : KeptAsk) → Lighter asks later → slice_get asks j ≡ Some old → slice_get later j ≡ Some new → weight new < weight old → total later < total asks
unfolding total
total_slice [] later j old new f e g less = none_some old e
total_slice (x ∷ asks) [] j old new f e g less = absurd f
total_slice (x ∷ asks) (y ∷ later) zero old new f e g less = (let p : weight y < weight x = subst (λ z. weight z < weight x) (sym (some_is y new g)) (subst (λ z. weight new < weight z) (sym (some_is x old e)) less) in let r = total_le asks later f.1 in omega arith)
total_slice (x ∷ asks) (y ∷ later) (suc j) old new f e g less = (let p : weight y ≤ weight x = f.0 in let r = total_slice asks later j old new f.1 e g less in omega arith)

-- where one is nearer they are nearer together
pub total_less : (asks later : List KeptAsk) (a : ℕ) (old new : KeptAsk) → Lighter asks later → nth asks a ≡ Some old → nth later a ≡ Some new → weight new < weight old → total later < total asks
total_less asks later zero old new f e g less = none_some old e
total_less asks later (suc j) old new f e g less = total_slice asks later j old new f e g less

-- the node's life goes on, with as many asks, each as near its end
pub record Calm (x y : Node) : Type 0 where
  pub life : y.life ≡ x.life
  pub spent : y.spent ≡ x.spent
  pub asks : length y.asks ≡ length x.asks
  pub lighter : Lighter x.asks y.asks

pub calm_same : (x : Node) → Calm x x
calm_same x = record { life = refl; spent = refl; asks = refl; lighter = lighter_same x.asks }

set_calm : (x y : Node) (place : ℕ) (kept : KeptAsk) → y.life ≡ x.life → y.spent ≡ x.spent → y.asks ≡ set_nth x.asks place kept → ((old : KeptAsk) → nth x.asks place ≡ Some old → weight kept ≤ weight old) → Calm x y
set_calm x y place kept life spent asks less = record { life = life; spent = spent; asks = ap length asks ∙ length_nth x.asks place kept; lighter = subst (Lighter x.asks) (sym asks) (lighter_set x.asks place kept less) }

over_calm : (x : Node) (place : ℕ) (kept : KeptAsk) → weight kept ≡ 0 → Calm x (becomes place kept x)
over_calm x place kept none = set_calm x (becomes place kept x) place kept refl refl refl (λ old e. omega arith)

module _ (k : Limits) (here : Place) (x : Node) where
  back_calm : (g : Grant) (b : Bool) → Calm x (gives_back here g b x).node
  back_calm g true = calm_same x
  back_calm g false = calm_same x

  granted_calm : (g : Grant) (o : Option KeptAsk) → nth x.asks g.ask.0 ≡ o → Calm x (granted k here g x o).node
  granted_calm g None e = calm_same x
  granted_calm g (Some (Open wants tenure)) e = set_calm x (takes k here g wants x).node g.ask.0 (Holding wants g false) refl refl refl (λ old f. subst (λ z. 1 ≤ weight z) (some_is (Open wants tenure) old (sym e ∙ f)) (omega arith))
  granted_calm g (Some (Holding wants other r)) e = back_calm g (keeps (Holding wants other r) g.ticket)
  granted_calm g (Some (Running wants other r)) e = back_calm g (keeps (Running wants other r) g.ticket)
  granted_calm g (Some (Finished wants other news)) e = back_calm g (keeps (Finished wants other news) g.ticket)
  granted_calm g (Some (Over ending)) e = calm_same x

  learned_calm : (t : Ticket) (versions : List _) (o : Option (ℕ × Sent)) → Calm x (learned t versions x o).node
  learned_calm t versions None = calm_same x
  learned_calm t versions (Some (place, sent)) = set_calm x (learned t versions x (Some (place, sent))).node place (Over (how.Committed t versions)) refl refl refl (λ old e. omega arith)

  dropped_calm : (t : Ticket) (o : Option (ℕ × Sent)) → Calm x (dropped t x o).node
  dropped_calm t None = calm_same x
  dropped_calm t (Some (place, sent)) = over_calm x place (Over (how.Fenced t)) refl

  denied_calm : (ask : Ask) (why : _) (o : Option KeptAsk) → Calm x (denied ask why x o).node
  denied_calm ask why None = calm_same x
  denied_calm ask why (Some (Open wants tenure)) = over_calm x ask.0 (Over (how.Denied why)) refl
  denied_calm ask why (Some (Holding wants other r)) = calm_same x
  denied_calm ask why (Some (Running wants other r)) = calm_same x
  denied_calm ask why (Some (Finished wants other news)) = calm_same x
  denied_calm ask why (Some (Over ending)) = calm_same x

  recalled_calm : (t : Ticket) (o : Option (ℕ × KeptAsk)) → first (recallable t) x.asks 0 ≡ o → Calm x (recalled t x o).node
  recalled_calm t None e = calm_same x
  recalled_calm t (Some (place, kept)) e =
      let f = found (recallable t) x.asks (place, kept) e in
      let r = recallable_is t f.0 kept f.2 in
      set_calm x (becomes place kept x) place kept refl refl refl (λ old g. subst (λ z. weight kept ≤ weight z) (some_is f.0 old (sym f.1 ∙ g)) (elim r.3 [
        | inl q ↦ subst (λ z. weight z ≤ weight f.0) (sym q.1) (subst (λ z. 1 ≤ weight z) (sym q.0) (omega arith))
        | inr q ↦ subst (λ z. weight z ≤ weight f.0) (sym q.1) (subst (λ z. 1 ≤ weight z) (sym q.0) (omega arith))
      ]))

  of_life_calm : (l : Life) (w : NodeWork) → Calm x w.node → Calm x (of_life l x w).node
  of_life_calm l w calm = elim (cases_Bool (eqb l.0 x.life.0)) [ inl t ↦ rw t calm | inr t ↦ rw t (calm_same x) ]

  heard_calm : (y : FromCoord) → Calm x (heard k here y x).node
  heard_calm (told.Granted g) = of_life_calm g.life (granted k here g x (nth x.asks g.ask.0)) (granted_calm g (nth x.asks g.ask.0) refl)
  heard_calm (told.Committed n l t versions) = of_life_calm l (learned t versions x (first (finished t) x.asks 0)) (learned_calm t versions (first (finished t) x.asks 0))
  heard_calm (told.Fenced n l t) = of_life_calm l (dropped t x (first (finished t) x.asks 0)) (dropped_calm t (first (finished t) x.asks 0))
  heard_calm (told.Denied n l ask why) = of_life_calm l (denied ask why x (nth x.asks ask.0)) (denied_calm ask why (nth x.asks ask.0))
  heard_calm (told.Recall n l t) = of_life_calm l (recalled t x (first (recallable t) x.asks 0)) (recalled_calm t (first (recallable t) x.asks 0) refl)

  fetched_calm : (from : NodeId) (o : Option (List ℕ)) → Calm x (fetched from x o).node
  fetched_calm from None = calm_same x
  fetched_calm from (Some content) = calm_same x

  received_calm : (sha : List ℕ → Digest) (mail : ToNode) → Calm x (received sha k here mail x).node
  received_calm sha (to_node.FromCoord y) = heard_calm y
  received_calm sha (to_node.Fetch fetch) = fetched_calm fetch.from (x.store fetch.digest)
  received_calm sha (to_node.Blob n content) = elim (cases_Bool (not (is_stored x (sha content)) && list_any (is_base (sha content)) x.asks)) [
    | inl t ↦ rw t (record { life = refl; spent = refl; asks = refl; lighter = lighter_same x.asks })
    | inr t ↦ rw t (calm_same x)
  ]

pub record CalmFarm (s t : Farm) : Type 0 where
  pub down : t.down ≡ false
  pub armed : t.armed ≡ None
  pub size : t.size ≡ s.size
  pub gone : t.ledger.gone ≡ s.ledger.gone
  pub nodes : (n : ℕ) → Calm (s.nodes n) (t.nodes n)

pub calm_then : (s t u : Farm) → CalmFarm s t → CalmFarm t u → CalmFarm s u
calm_then s t u f g = record {
  down = g.down;
  armed = g.armed;
  size = g.size ∙ f.size;
  gone = g.gone ∙ f.gone;
  nodes = λ n. record { life = (g.nodes n).life ∙ (f.nodes n).life; spent = (g.nodes n).spent ∙ (f.nodes n).spent; asks = (g.nodes n).asks ∙ (f.nodes n).asks; lighter = lighter_then (s.nodes n).asks (t.nodes n).asks (u.nodes n).asks (f.nodes n).lighter (g.nodes n).lighter };
}

module _ (sha : List ℕ → Digest) (k : Limits) (s : Farm) (up : s.down ≡ false) (safe : s.armed ≡ None) (gone : (y : ToCoord) → (handled k y (begin_work s.ledger)).ledger.gone ≡ s.ledger.gone) where
  farm_same : CalmFarm s s
  farm_same = record { down = up; armed = safe; size = refl; gone = refl; nodes = λ n. calm_same (s.nodes n) }

  abbrev CalmAnswer : Node → NodeAnswer → Type 0
  CalmAnswer x (Ok w) = Calm x w.node
  CalmAnswer x (Err why) = ⊤

  guard_calm : (x : Node) (b : Bool) (why : _) (r : NodeAnswer) → CalmAnswer x r → CalmAnswer x (guard b why r)
  guard_calm x true why r calm = tt
  guard_calm x false why r calm = calm

  node_calm : (b : Bool) (who : NodeId) (r : NodeAnswer) → CalmAnswer (s.nodes who.0) r → CalmFarm s (at_node b who r s).farm
  node_calm true who (Ok w) calm = record {
    down = up;
    armed = safe;
    size = refl;
    gone = refl;
    nodes = put_all (λ n (z : Node). Calm (s.nodes n) z) who.0 w.node s.nodes calm (λ n other. calm_same (s.nodes n));
  }
  node_calm true who (Err why) calm = farm_same
  node_calm false who r calm = farm_same

  work_calm : (w : Work) → w.ledger.gone ≡ s.ledger.gone → CalmFarm s (coordinated s.down (Ok w) s).farm
  work_calm w same =
      let stays = coordinated_same s.down (Ok w) s in
      let is : IsAfter k sha 0 s w (coordinated s.down (Ok w) s).farm =
      subst (λ b. IsAfter k sha 0 s w (coordinated b (Ok w) s).farm) (sym up) (subst (λ o. IsAfter k sha 0 s w (settled w.changed o w s).farm) (sym safe) (settles k sha 0 w.changed w s up safe)) in
      record {
        down = is.down;
        armed = is.armed;
        size = stays.size;
        gone = ap (λ (q : Ledger). q.gone) is.ledger ∙ same;
        nodes = λ n. subst (λ (f : ℕ → Node). Calm (s.nodes n) (f n)) (sym stays.nodes) (calm_same (s.nodes n));
      }

  aborting_calm : (here : Place) (x : Node) (o : Option (ℕ × HeldGrant)) → CalmAnswer x (aborting here x o)
  aborting_calm here x None = tt
  aborting_calm here x (Some (place, held)) = guard_calm x (in_use x.asks place held.wants held.grant) refusal.TenureInUse _ (over_calm x place (Over (how.Released held.grant.ticket)) refl)

  delivered_calm : (o : Option Message) → CalmFarm s (delivered sha k o s).farm
  delivered_calm None = farm_same
  delivered_calm (Some (to.ToCoord y)) = work_calm (handled k y (begin_work s.ledger)) (gone y)
  delivered_calm (Some (to.ToNode mail)) =
      let who : NodeId = replay.receiver mail in
      node_calm (is_node s who) who (unless_spent (s.nodes who.0) (received sha k (at s who) mail (s.nodes who.0)))
      (guard_calm (s.nodes who.0) (s.nodes who.0).spent refusal.LivesSpent (Ok (received sha k (at s who) mail (s.nodes who.0))) (received_calm k (at s who) (s.nodes who.0) sha mail))

  pub step_calm : (e : Event) → IsGivingBack 0 e → CalmFarm s (step sha k s e).farm
  unfolding step
  step_calm (replay.Ask n wants) i = absurd i
  step_calm (replay.Tenure n f) i = absurd i
  step_calm (Deliver number) i = delivered_calm (nth s.pool number)
  step_calm (replay.Begin n t) i = absurd i
  step_calm (replay.Finish n t lefts) i = absurd i
  step_calm (Abort n t) i = node_calm (is_node s n) n (aborted (at s n) t (s.nodes n.0)) (guard_calm (s.nodes n.0) (s.nodes n.0).spent refusal.LivesSpent _ (aborting_calm (at s n) (s.nodes n.0) (first (held_or_running t) (s.nodes n.0).asks 0)))
  step_calm (Resend n) i = node_calm (is_node s n) n (resent k (at s n) (s.nodes n.0)) (guard_calm (s.nodes n.0) (s.nodes n.0).spent refusal.LivesSpent _ (calm_same (s.nodes n.0)))
  step_calm Nudge i = work_calm (nudged k (begin_work s.ledger)) (ap (λ (q : Ledger). q.gone) (nudge_ledger k s.ledger.live (begin_work s.ledger)))
  step_calm (replay.Withdraw t) i = absurd i
  step_calm (replay.Prune slot) i = absurd i
  step_calm (replay.Retire n) i = absurd i
  step_calm (replay.RestartNode n) i = absurd i
  step_calm RestartCoordinator i = absurd i
  step_calm (replay.Forge n c) i = absurd i
  step_calm (replay.Forget n d) i = absurd i
  step_calm (replay.FailSave kept) i = absurd i
