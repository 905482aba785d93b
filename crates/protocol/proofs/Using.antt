-- Which executions begin and end at a node's messages and calls.
use Rattle.std.proofs.Common.{◌≡◌, ℕ, List, [], ◌∷◌, ◌++◌, ◌⊎◌, Bool, true, false, not, ◌&&◌, eqb, length, Option, Some, None, Ok, Err, refl, sym, ◌∙◌, ap, subst, inl, inr, ◌||◌}
use Rattle.std.proofs.lemmas.Bool.{cases_eq, cases_Bool}
use Rattle.std.specs.List.{list_any}
use Rattle.std.specs.Prelude.{⊤, nat_lt}
use Rattle.protocol.specs.Lists.{nth, set_nth}
use Rattle.protocol.specs.Names.{Shared, slots_eq, NodeId, Life, Ask, Ticket, Digest, Want, FolderName, tenure_wants, digest_eq}
use Rattle.protocol.specs.Machine.{Confirmed, Grant, FromCoord, slots_of, written}
use Rattle.farm_base.specs.declared.message.FromCoord.TheVariants as told
use Rattle.farm_base.specs.declared.message.Why.{Why}
use Rattle.events.specs.declared.answer.How.TheVariants as how
use Rattle.events.specs.declared.answer.NodeRefusal.{NodeRefusal}
use Rattle.events.specs.declared.answer.NodeNote.TheVariants as node_note
use Rattle.protocol.specs.Ledger.{Limits}
use Rattle.protocol.specs.World.{KeptAsk, Open, Holding, Running, Finished, Over, Node, keeps, World}
use Rattle.protocol.specs.Nodes.{NodeWork, NodeAnswer, guard, Place, is_tenure_of, at_home, in_use, HeldGrant, Sent, first, held, running, held_or_running, finished, recallable, is_stored, all_stored, is_base, asked, asked_tenure, beginning, begun, Left, news_of, leaving, finishing, finished_with, aborting, aborted, forgotten, needs, resent, gives_back, granted, learned, dropped, denied, recalled, of_life, heard, fetched, brought, unless_spent}
use Rattle.protocol.proofs.Base.{some_is, nth_set_cases, nth-set_same, nth-set_other, nth-append, nth_push_cases}
use Rattle.protocol.proofs.Acts.{open_not_running, held_not_running}
use Rattle.protocol.proofs.Steps.{same_grant}
use Rattle.protocol.proofs.Invariant.{Its, Inv}
use Rattle.protocol.proofs.Moving.{found, held_is, running_is, either_is, finished_is, recallable_is}

-- the node executes under the grant, for these wants
abbrev pub Runs : List KeptAsk → Grant → List Want → Type 0
Runs asks g ws = (a : ℕ) × (r : Bool) × (nth asks a ≡ Some (Running ws g r))

-- of the executions these may have begun, and these ended
pub record Turned (asks asks' : List KeptAsk) (begins stops : Grant → Type 0) : Type 0 where
  pub began : (g : Grant) (ws : List Want) → Runs asks' g ws → Runs asks g ws ⊎ begins g
  pub stopped : (g : Grant) (ws : List Want) → Runs asks g ws → Runs asks' g ws ⊎ stops g

abbrev pub NoGrant : Grant → Type 0
NoGrant g = ⊥

abbrev pub Quiet : List KeptAsk → List KeptAsk → Type 0
Quiet asks asks' = Turned asks asks' NoGrant NoGrant

pub quiet_same : (asks : List KeptAsk) → Quiet asks asks
quiet_same asks = record { began = λ g ws i. inl i; stopped = λ g ws i. inl i }

abbrev NotRunning : KeptAsk → Type 0
NotRunning s = (ws : List Want) (g : Grant) (r : Bool) → s ≡ Running ws g r → ⊥

quiet_push : (asks : List KeptAsk) (s : KeptAsk) → NotRunning s → Quiet asks (asks ++ s ∷ [])
quiet_push asks s idle = record {
  began = λ g ws i. elim (nth_push_cases asks s i.0 (Running ws g i.1) i.2) [
    | inl old ↦ inl (i.0, i.1, old)
    | inr new ↦ absurd (idle ws g i.1 (sym new.1))
  ];
  stopped = λ g ws i. inl (i.0, i.1, nth-append asks (s ∷ []) i.0 (Running ws g i.1) i.2);
}

-- one ask is set
turned_set : (asks : List KeptAsk) (a : ℕ) (old new : KeptAsk) (begins stops : Grant → Type 0) → nth asks a ≡ Some old
    → ((g : Grant) (ws : List Want) (r : Bool) → new ≡ Running ws g r → ((q : Bool) × (old ≡ Running ws g q)) ⊎ begins g)
    → ((g : Grant) (ws : List Want) (r : Bool) → old ≡ Running ws g r → ((q : Bool) × (new ≡ Running ws g q)) ⊎ stops g)
    → Turned asks (set_nth asks a new) begins stops
turned_set asks a old new begins stops at here gone = record {
  began = λ g ws i. elim (nth_set_cases asks a new old i.0 (Running ws g i.1) at i.2) [
    | inr o ↦ inl (i.0, i.1, o.1)
    | inl n ↦ elim (here g ws i.1 (sym n.1)) [ inl q ↦ inl (a, q.0, at ∙ ap Some q.1) | inr b ↦ inr b ]
  ];
  stopped = λ g ws i. elim (cases_eq i.0 a) [
    | inr ne ↦ inl (i.0, i.1, nth-set_other asks a i.0 new ne ∙ i.2)
    | inl e ↦ (let is : old ≡ Running ws g i.1 = some_is old (Running ws g i.1) (sym at ∙ ap (nth asks) (sym e) ∙ i.2) in
        elim (gone g ws i.1 is) [ inl q ↦ inl (a, q.0, nth-set_same asks a new old at ∙ ap Some q.1) | inr b ↦ inr b ])
  ];
}

quiet_set : (asks : List KeptAsk) (a : ℕ) (old new : KeptAsk) → nth asks a ≡ Some old → NotRunning old → NotRunning new → Quiet asks (set_nth asks a new)
quiet_set asks a old new at p q = turned_set asks a old new NoGrant NoGrant at (λ g ws r e. absurd (q ws g r e)) (λ g ws r e. absurd (p ws g r e))

-- the grant that an ask has
abbrev pub GrantOf : KeptAsk → Grant → Type 0
GrantOf (Open ws b) g = ⊥
GrantOf (Holding ws h r) g = h ≡ g
GrantOf (Running ws h r) g = h ≡ g
GrantOf (Finished ws h news) g = h ≡ g
GrantOf (Over how) g = ⊥

-- no two asks have one ticket
abbrev pub OneEach : List KeptAsk → Type 0
OneEach asks = (a b : ℕ) (s s' : KeptAsk) (g g' : Grant) → nth asks a ≡ Some s → nth asks b ≡ Some s' → GrantOf s g → GrantOf s' g' → g.ticket ≡ g'.ticket → a ≡ b

pub one_each : (sha : List ℕ → Digest) (w : World) (inv : Inv sha w) (n : NodeId) → OneEach (w.nodes n.0).asks
one_each sha w inv n a b s s' g g' e e' h h' t =
    let i = its a s g e h in
    let j = its b s' g' e' h' in
    let same : g ≡ g' = same_grant (sha []) w.machine inv.sound g g' i.0 j.0 (ap (λ (z : Ticket). z.0) t) in
    sym i.3 ∙ ap (λ (z : Grant). z.ask.0) same ∙ j.3
  where
    its_by : (a : ℕ) (s : KeptAsk) (g : Grant) → nth (w.nodes n.0).asks a ≡ Some s → GrantOf s g → Its w.machine n (w.nodes n.0).life a g
    its_by a (Open ws b) g e h = absurd h
    its_by a (Holding ws h r) g e i = subst (Its w.machine n (w.nodes n.0).life a) i ((inv.nodes n).states a (Holding ws h r) e).0
    its_by a (Running ws h r) g e i = subst (Its w.machine n (w.nodes n.0).life a) i ((inv.nodes n).states a (Running ws h r) e).0
    its_by a (Finished ws h news) g e i = subst (Its w.machine n (w.nodes n.0).life a) i ((inv.nodes n).states a (Finished ws h news) e).0
    its_by a (Over how) g e h = absurd h

    its : (a : ℕ) (s : KeptAsk) (g : Grant) → nth (w.nodes n.0).asks a ≡ Some s → GrantOf s g → Its w.machine n (w.nodes n.0).life a g
    its = its_by

module _ (x : Node) (one : OneEach x.asks) where
  abbrev pub OnNode : (NodeWork → Type 0) → NodeAnswer → Type 0
  OnNode P (Ok w) = P w
  OnNode P (Err e) = ⊤

  -- a call that begins and ends no execution
  abbrev pub Still : NodeWork → Type 0
  Still w = Quiet x.asks w.node.asks

  on_guard : (P : NodeWork → Type 0) (b : Bool) (e : NodeRefusal) (r : NodeAnswer) → (b ≡ false → OnNode P r) → OnNode P (guard b e r)
  on_guard P true e r h = tt
  on_guard P false e r h = h refl

  -- ---- calls

  pub asked_use : (k : Limits) (at : Place) (wants : List Want) → OnNode Still (asked k at wants x)
  asked_use k at wants = on_guard Still x.spent _ _ (λ a. on_guard Still (not (at_home x.asks wants)) _ _ (λ b. on_guard Still (not (nat_lt (length x.asks) k.greatest)) _ _ (λ c. quiet_push x.asks (Open wants false) (open_not_running wants false))))

  pub tenure_use : (k : Limits) (at : Place) (f : FolderName) → OnNode Still (asked_tenure k at f x)
  tenure_use k at f = on_guard Still x.spent _ _ (λ a. on_guard Still (list_any (is_tenure_of (record f { mode = Shared })) x.asks) _ _ (λ b. on_guard Still (not (nat_lt (length x.asks) k.greatest)) _ _ (λ c. quiet_push x.asks (Open (tenure_wants f) true) (open_not_running (tenure_wants f) true))))

  -- the execution of the ticket begins
  abbrev pub Begun : Ticket → NodeWork → Type 0
  Begun t w = (w.note ≡ node_note.Begun t) × Turned x.asks w.node.asks (λ g. g.ticket ≡ t) NoGrant × ((g : Grant) × (ws : List Want) × (g.ticket ≡ t) × (Runs x.asks g ws → ⊥) × Runs w.node.asks g ws)

  beginning_use : (t : Ticket) (o : Option (ℕ × HeldGrant)) → first (held t) x.asks 0 ≡ o → OnNode (Begun t) (beginning t x o)
  beginning_use t None e = tt
  beginning_use t (Some r) e =
      let f = found (held t) x.asks r e in
      let h : HeldGrant = r.1 in
      let is = held_is t f.0 h f.2 in
      let at : nth x.asks r.0 ≡ Some (Holding h.wants h.grant h.recalled) = f.1 ∙ ap Some is.0 in
      let new : KeptAsk = Running h.wants h.grant h.recalled in
      on_guard (Begun t) (not (all_stored x h.grant.slots)) _ _ (λ all. (
        refl,
        turned_set x.asks r.0 (Holding h.wants h.grant h.recalled) new (λ g. g.ticket ≡ t) NoGrant at
            (λ g ws q e. (let same : Running h.wants h.grant h.recalled ≡ Running ws g q = e in let one : h.grant ≡ g = cc in inr (ap (λ (z : Grant). z.ticket) (sym one) ∙ is.1)))
            (λ g ws q e. absurd (held_not_running h.wants h.grant h.recalled ws g q e)),
        (
          h.grant,
          h.wants,
          is.1,
          λ i. (let same : r.0 ≡ i.0 = one r.0 i.0 (Holding h.wants h.grant h.recalled) (Running h.wants h.grant i.1) h.grant h.grant at i.2 refl refl refl in
              held_not_running h.wants h.grant h.recalled h.wants h.grant i.1 (some_is (Holding h.wants h.grant h.recalled) (Running h.wants h.grant i.1) (sym at ∙ ap (nth x.asks) same ∙ i.2))),
          (r.0, h.recalled, nth-set_same x.asks r.0 new (Holding h.wants h.grant h.recalled) at),
        ),
      ))

  pub begun_use : (t : Ticket) → OnNode (Begun t) (begun t x)
  begun_use t = on_guard (Begun t) x.spent _ _ (λ up. beginning_use t (first (held t) x.asks 0) refl)

  -- an ask that is over has no execution of its ticket
  none_left : (a : ℕ) (old new : KeptAsk) (h : Grant) (t : Ticket) → nth x.asks a ≡ Some old → GrantOf old h → h.ticket ≡ t → NotRunning new → (g : Grant) (ws : List Want) → g.ticket ≡ t → Runs (set_nth x.asks a new) g ws → ⊥
  none_left a old new h t at its ticket idle g ws e i = elim (nth_set_cases x.asks a new old i.0 (Running ws g i.1) at i.2) [
    | inl n ↦ idle ws g i.1 (sym n.1)
    | inr o ↦ o.0 (one i.0 a (Running ws g i.1) old g h o.1 at refl its (e ∙ sym ticket))
  ]

  ended_turn : (a : ℕ) (new : KeptAsk) (h : HeldGrant) (t : Ticket) → nth x.asks a ≡ Some (Running h.wants h.grant h.recalled) → h.grant.ticket ≡ t → NotRunning new → Turned x.asks (set_nth x.asks a new) NoGrant (λ g. g.ticket ≡ t)
  ended_turn a new h t at ticket idle = turned_set x.asks a (Running h.wants h.grant h.recalled) new NoGrant (λ g. g.ticket ≡ t) at
      (λ g ws q e. absurd (idle ws g q e))
      (λ g ws q e. (let same : Running h.wants h.grant h.recalled ≡ Running ws g q = e in let one : h.grant ≡ g = cc in inr (ap (λ (z : Grant). z.ticket) (sym one) ∙ ticket)))

  -- the execution of the ticket ends
  abbrev EndsIn : Ticket → List KeptAsk → Type 0
  EndsIn t asks' = Turned x.asks asks' NoGrant (λ g. g.ticket ≡ t) × ((g : Grant) × (ws : List Want) × (g.ticket ≡ t) × Runs x.asks g ws × (Runs asks' g ws → ⊥))

  abbrev pub Stops : Ticket → NodeWork → Type 0
  Stops t w = (w.note ≡ node_note.Finished t) × EndsIn t w.node.asks

  end_use : (a : ℕ) (new : KeptAsk) (h : HeldGrant) (t : Ticket) → nth x.asks a ≡ Some (Running h.wants h.grant h.recalled) → h.grant.ticket ≡ t → NotRunning new → EndsIn t (set_nth x.asks a new)
  end_use a new h t at ticket idle = (
    ended_turn a new h t at ticket idle,
    (
      h.grant,
      h.wants,
      ticket,
      (a, h.recalled, at),
      none_left a (Running h.wants h.grant h.recalled) new h.grant t at refl ticket idle h.grant h.wants ticket,
    ),
  )

  finishing_use : (sha : List ℕ → Digest) (at : Place) (t : Ticket) (lefts : List Left) (o : Option (ℕ × HeldGrant)) → first (running t) x.asks 0 ≡ o → OnNode (Stops t) (finishing sha at lefts x o)
  finishing_use sha at t lefts None e = tt
  finishing_use sha at t lefts (Some r) e =
      let f = found (running t) x.asks r e in
      let h : HeldGrant = r.1 in
      let is = running_is t f.0 h f.2 in
      let here : nth x.asks r.0 ≡ Some (Running h.wants h.grant h.recalled) = f.1 ∙ ap Some is.0 in
      on_guard (Stops t) (in_use x.asks r.0 h.wants h.grant) _ _ (λ idle. on_guard (Stops t) (not (slots_eq (slots_of (news_of sha lefts)) (written h.grant.slots))) _ _ (λ slots. by_lefts lefts r.0 h here is.1))
    where
      by_lefts : (ls : List Left) (a : ℕ) (h : HeldGrant) → nth x.asks a ≡ Some (Running h.wants h.grant h.recalled) → h.grant.ticket ≡ t → Stops t (leaving sha at a h ls x)
      by_lefts [] a h here ticket = (ap node_note.Finished ticket, end_use a (Over (how.Released h.grant.ticket)) h t here ticket (λ ws g r e. (let bad : Over (how.Released h.grant.ticket) ≡ Running ws g r = e in cc)))
      by_lefts (l ∷ ls) a h here ticket = (ap node_note.Finished ticket, end_use a (Finished h.wants h.grant (news_of sha (l ∷ ls))) h t here ticket (λ ws g r e. (let bad : Finished h.wants h.grant (news_of sha (l ∷ ls)) ≡ Running ws g r = e in cc)))

  pub finished_use : (sha : List ℕ → Digest) (at : Place) (t : Ticket) (lefts : List Left) → OnNode (Stops t) (finished_with sha at t lefts x)
  finished_use sha at t lefts = on_guard (Stops t) x.spent _ _ (λ up. finishing_use sha at t lefts (first (running t) x.asks 0) refl)

  -- no execution of the ticket is left
  abbrev pub Aborts : Ticket → NodeWork → Type 0
  Aborts t w = (w.note ≡ node_note.Aborted t) × Turned x.asks w.node.asks NoGrant (λ g. g.ticket ≡ t) × ((g : Grant) (ws : List Want) → g.ticket ≡ t → Runs w.node.asks g ws → ⊥)

  aborting_use : (at : Place) (t : Ticket) (o : Option (ℕ × HeldGrant)) → first (held_or_running t) x.asks 0 ≡ o → OnNode (Aborts t) (aborting at x o)
  aborting_use at t None e = tt
  aborting_use at t (Some r) e =
      let f = found (held_or_running t) x.asks r e in
      let h : HeldGrant = r.1 in
      let is = either_is t f.0 h f.2 in
      let over : NotRunning (Over (how.Released h.grant.ticket)) = λ ws g q z. (let bad : Over (how.Released h.grant.ticket) ≡ Running ws g q = z in cc) in
      on_guard (Aborts t) (in_use x.asks r.0 h.wants h.grant) _ _ (λ idle. elim is.0 [
        | inl q ↦ (let here : nth x.asks r.0 ≡ Some (Holding h.wants h.grant h.recalled) = f.1 ∙ ap Some q in (
          ap node_note.Aborted is.1,
          turned_set x.asks r.0 (Holding h.wants h.grant h.recalled) (Over (how.Released h.grant.ticket)) NoGrant (λ g. g.ticket ≡ t) here (λ g ws b z. absurd (over ws g b z)) (λ g ws b z. absurd (held_not_running h.wants h.grant h.recalled ws g b z)),
          none_left r.0 (Holding h.wants h.grant h.recalled) (Over (how.Released h.grant.ticket)) h.grant t here refl is.1 over,
        ))
        | inr q ↦ (let here : nth x.asks r.0 ≡ Some (Running h.wants h.grant h.recalled) = f.1 ∙ ap Some q in (
          ap node_note.Aborted is.1,
          ended_turn r.0 (Over (how.Released h.grant.ticket)) h t here is.1 over,
          none_left r.0 (Running h.wants h.grant h.recalled) (Over (how.Released h.grant.ticket)) h.grant t here refl is.1 over,
        ))
      ])

  pub aborted_use : (at : Place) (t : Ticket) → OnNode (Aborts t) (aborted at t x)
  aborted_use at t = on_guard (Aborts t) x.spent _ _ (λ up. aborting_use at t (first (held_or_running t) x.asks 0) refl)

  pub forgotten_use : (k : Limits) (d : Digest) → OnNode Still (forgotten k d x)
  forgotten_use k d = on_guard Still x.spent _ _ (λ up. on_guard Still (digest_eq d k.empty || not (is_stored x d)) _ _ (λ some. on_guard Still (list_any (needs d) x.asks) _ _ (λ free. quiet_same x.asks)))

  pub resent_use : (k : Limits) (at : Place) → OnNode Still (resent k at x)
  resent_use k at = on_guard Still x.spent _ _ (λ up. quiet_same x.asks)

  -- ---- messages

  abbrev OnWork : NodeWork → Type 0
  OnWork w = Quiet x.asks w.node.asks

  give_back_use : (at : Place) (g : Grant) (b : Bool) → OnWork (gives_back at g b x)
  give_back_use at g true = quiet_same x.asks
  give_back_use at g false = quiet_same x.asks

  granted_use : (k : Limits) (at : Place) (g : Grant) (o : Option KeptAsk) → nth x.asks g.ask.0 ≡ o → OnWork (granted k at g x o)
  granted_use k at g None e = give_back_use at g false
  granted_use k at g (Some (Open wants tenure)) e = quiet_set x.asks g.ask.0 (Open wants tenure) (Holding wants g false) e (open_not_running wants tenure) (held_not_running wants g false)
  granted_use k at g (Some (Holding wants h r)) e = give_back_use at g (keeps (Holding wants h r) g.ticket)
  granted_use k at g (Some (Running wants h r)) e = give_back_use at g (keeps (Running wants h r) g.ticket)
  granted_use k at g (Some (Finished wants h news)) e = give_back_use at g (keeps (Finished wants h news) g.ticket)
  granted_use k at g (Some (Over how)) e = give_back_use at g false

  sent_idle : (h : Sent) → NotRunning (Finished h.wants h.grant h.news)
  sent_idle h ws g r e = (let bad : Finished h.wants h.grant h.news ≡ Running ws g r = e in cc)

  learned_use : (t : Ticket) (versions : List Confirmed) (o : Option (ℕ × Sent)) → first (finished t) x.asks 0 ≡ o → OnWork (learned t versions x o)
  learned_use t versions None e = quiet_same x.asks
  learned_use t versions (Some r) e = (let f = found (finished t) x.asks r e in let is = finished_is t f.0 r.1 f.2 in
      quiet_set x.asks r.0 (Finished r.1.wants r.1.grant r.1.news) (Over (how.Committed t versions)) (f.1 ∙ ap Some is.0) (sent_idle r.1) (λ ws g q z. (let bad : Over (how.Committed t versions) ≡ Running ws g q = z in cc)))

  dropped_use : (t : Ticket) (o : Option (ℕ × Sent)) → first (finished t) x.asks 0 ≡ o → OnWork (dropped t x o)
  dropped_use t None e = quiet_same x.asks
  dropped_use t (Some r) e = (let f = found (finished t) x.asks r e in let is = finished_is t f.0 r.1 f.2 in
      quiet_set x.asks r.0 (Finished r.1.wants r.1.grant r.1.news) (Over (how.Fenced t)) (f.1 ∙ ap Some is.0) (sent_idle r.1) (λ ws g q z. (let bad : Over (how.Fenced t) ≡ Running ws g q = z in cc)))

  denied_use : (a : Ask) (why : Why) (o : Option KeptAsk) → nth x.asks a.0 ≡ o → OnWork (denied a why x o)
  denied_use a why None e = quiet_same x.asks
  denied_use a why (Some (Open wants tenure)) e = quiet_set x.asks a.0 (Open wants tenure) (Over (how.Denied why)) e (open_not_running wants tenure) (λ ws g q z. (let bad : Over (how.Denied why) ≡ Running ws g q = z in cc))
  denied_use a why (Some (Holding wants h r)) e = quiet_same x.asks
  denied_use a why (Some (Running wants h r)) e = quiet_same x.asks
  denied_use a why (Some (Finished wants h news)) e = quiet_same x.asks
  denied_use a why (Some (Over how)) e = quiet_same x.asks

  recalled_use : (t : Ticket) (o : Option (ℕ × KeptAsk)) → first (recallable t) x.asks 0 ≡ o → OnWork (recalled t x o)
  recalled_use t None e = quiet_same x.asks
  recalled_use t (Some r) e =
      let f = found (recallable t) x.asks r e in
      let o = recallable_is t f.0 r.1 f.2 in
      elim o.3 [
        | inl is ↦ subst (λ z. Quiet x.asks (set_nth x.asks r.0 z)) (sym is.1) (quiet_set x.asks r.0 (Holding o.0 o.1 false) (Holding o.0 o.1 true) (f.1 ∙ ap Some is.0) (held_not_running o.0 o.1 false) (held_not_running o.0 o.1 true))
        | inr is ↦ subst (λ z. Quiet x.asks (set_nth x.asks r.0 z)) (sym is.1) (turned_set x.asks r.0 (Running o.0 o.1 false) (Running o.0 o.1 true) NoGrant NoGrant (f.1 ∙ ap Some is.0)
            (λ g ws q z. (let same : Running o.0 o.1 true ≡ Running ws g q = z in let a : o.0 ≡ ws = cc in let b : o.1 ≡ g = cc in inl (false, ap (λ l. Running l o.1 false) a ∙ ap (λ h. Running ws h false) b)))
            (λ g ws q z. (let same : Running o.0 o.1 false ≡ Running ws g q = z in let a : o.0 ≡ ws = cc in let b : o.1 ≡ g = cc in inl (true, ap (λ l. Running l o.1 true) a ∙ ap (λ h. Running ws h true) b))))
      ]

  of_life_use : (l : Life) (w : NodeWork) → OnWork w → OnWork (of_life l x w)
  of_life_use l w h = elim (cases_Bool (eqb l.0 x.life.0)) [ inl t ↦ rw t h | inr t ↦ rw t (quiet_same x.asks) ]

  heard_by : (k : Limits) (at : Place) (y : FromCoord) → OnWork (heard k at y x)
  heard_by k at (told.Granted g) = of_life_use g.life _ (granted_use k at g (nth x.asks g.ask.0) refl)
  heard_by k at (told.Committed n l t versions) = of_life_use l _ (learned_use t versions (first (finished t) x.asks 0) refl)
  heard_by k at (told.Fenced n l t) = of_life_use l _ (dropped_use t (first (finished t) x.asks 0) refl)
  heard_by k at (told.Denied n l a why) = of_life_use l _ (denied_use a why (nth x.asks a.0) refl)
  heard_by k at (told.Recall n l t) = of_life_use l _ (recalled_use t (first (recallable t) x.asks 0) refl)

  spent_use : (w : NodeWork) → OnWork w → OnNode Still (unless_spent x w)
  spent_use w h = on_guard Still x.spent _ _ (λ up. h)

  pub heard_use : (k : Limits) (at : Place) (y : FromCoord) → OnNode Still (unless_spent x (heard k at y x))
  heard_use k at y = spent_use (heard k at y x) (heard_by k at y)

  pub fetched_use : (from : NodeId) (o : Option (List ℕ)) → OnNode Still (unless_spent x (fetched from x o))
  fetched_use from None = spent_use (fetched from x None) (quiet_same x.asks)
  fetched_use from (Some c) = spent_use (fetched from x (Some c)) (quiet_same x.asks)

  pub brought_use : (sha : List ℕ → Digest) (c : List ℕ) → OnNode Still (unless_spent x (brought sha c x))
  brought_use sha c = spent_use (brought sha c x) (elim (cases_Bool (not (is_stored x (sha c)) && list_any (is_base (sha c)) x.asks)) [ inl t ↦ rw t (quiet_same x.asks) | inr t ↦ rw t (quiet_same x.asks) ])
