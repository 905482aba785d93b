-- Each tenure can be given back: first the asks of its node that use its folder are answered and end.
use Rattle.std.proofs.Common.{length, ◌<◌, ◌≡◌, ◌≢◌, ℕ, zero, suc, ◌+◌, ◌≤◌, List, [], ◌∷◌, ◌++◌, ◌⊎◌, Bool, true, false, not, ◌&&◌, eqb, Option, Some, None, slice_get, refl, sym, ◌∙◌, ap, subst, inl, inr, arith, append_assoc, append-nil}
use Rattle.std.proofs.lemmas.Bool.{cases_Bool, cases_eq, and_parts, eqb-true}
use Rattle.std.specs.List.{list_any}
use Rattle.std.specs.Prelude.{nat_le}
use Rattle.farm_base.specs.Kinds.{is_tenure}
use Rattle.events.specs.declared.answer.How.TheVariants as how
use Rattle.events.specs.declared.answer.NodeNote.TheVariants as note
use Rattle.protocol.specs.Lists.{In, nth}
use Rattle.protocol.specs.Names.{NodeId, Life, Ticket, Want, Digest, FolderName}
use Rattle.protocol.specs.Machine.{Grant, Granted, Message}
use Rattle.protocol.specs.Ledger.{Limits, Lease, has_ticket, lease_under}
use Rattle.protocol.specs.World.{KeptAsk, Open, Holding, Running, Finished, Over, Node, start}
use Rattle.protocol.specs.Nodes.{NodeWork, uses, others_use, in_use, HeldGrant, held_or_running, gives_up}
use Rattle.protocol.specs.Replay.{Event, Abort, Farm, at, is_node, moved, opening, step, run, scheduled}
use Rattle.protocol.specs.Follows.{IsFarm, EveryScheduleStaysSafe}
use Rattle.protocol.specs.Chronicle.{EveryScheduleMeans}
use Rattle.protocol.proofs.Base.{true_false, none_some, some_is, cases_option, from_any, put_same, nth-set_same, eqb_same, life_is}
use Rattle.protocol.proofs.Leases.{find_some}
use Rattle.protocol.proofs.Moving.{found, either_is, wants_folder_in}
use Rattle.progress.specs.Progress.{AreEvents, IsGivingBack, NoneIsDown, is_open}
use Rattle.progress.proofs.Progressing.{under_it}
use Rattle.progress.proofs.Reaching.{run_more}
use Rattle.progress.proofs.Keeping.{kept_all, kept_start, StateIs}
use Rattle.progress.proofs.Giving.{Here, wants_at, one_made, granted_is, one_more, lease_there, first_at, abort_is, give_back}
use Rattle.progress.proofs.Calm.{CalmFarm, calm_same, calm_then, step_calm, weight, total, total_less}
use Rattle.progress.proofs.Tenures.{Wanted, Asked, OneTenure, TenureParts, of_parts, wanted_all, wanted_start}
use Rattle.progress.proofs.Ending.{Laws, here_of, less_giving, more_events, both_giving, Givings, every_open_ask_is_answered_by_giving_back}
use Rattle.progress.proofs.Ends.{same_between}
use Rattle.progress.proofs.Going.{pool_later}
use Rattle.progress.proofs.Asking.{length_more}

-- who uses one of the folders, and isn't at this place
record Used (place : ℕ) (wants : List Want) (asks : List KeptAsk) : Type 0 where
  pub where_it_is : ℕ
  pub user : KeptAsk
  pub there : nth asks where_it_is ≡ Some user
  pub other : where_it_is ≢ place
  pub want : Want
  pub wanted : In want wants
  pub uses_it : uses want.folder user ≡ true

user_from : (place : ℕ) (wants : List Want) (asks : List KeptAsk) (before : ℕ) → others_use place wants asks before ≡ true → (j : ℕ) × (st : KeptAsk) × (slice_get asks j ≡ Some st) × (before + 1 + j ≢ place) × (list_any (λ (w : Want). uses w.folder st) wants ≡ true)
user_from place wants [] before e = (let bad : false ≡ true = e in absurd (cc bad))
user_from place wants (x ∷ asks) before e = elim (cases_Bool (not (eqb (before + 1) place) && list_any (λ (w : Want). uses w.folder x) wants)) [
  | inl t ↦ (
      let b = and_parts (not (eqb (before + 1) place)) (list_any (λ (w : Want). uses w.folder x) wants) t in
      (0, x, refl, other (eqb (before + 1) place) refl b.0, b.1))
  | inr f ↦ (
      let r = user_from place wants asks (before + 1) (rw f at e) in
      (suc r.0, r.1, r.2, (λ q. r.3 (let z : before + 1 + 1 + r.0 ≡ before + 1 + suc r.0 = omega arith in z ∙ q)), r.4))
]
  where
    other : (b : Bool) → eqb (before + 1) place ≡ b → not b ≡ true → before + 1 + 0 ≢ place
    other true q t = (let bad : false ≡ true = t in absurd (cc bad))
    other false q t = λ same. true_false (eqb (before + 1) place) (subst (λ z. eqb (before + 1) z ≡ true) (let z : before + 1 ≡ before + 1 + 0 = omega arith in z ∙ same) (eqb_same (before + 1))) q

some_user : (place : ℕ) (wants : List Want) (asks : List KeptAsk) → others_use place wants asks 0 ≡ true → Used place wants asks
some_user place wants asks e =
    let r = user_from place wants asks 0 e in
    let w = from_any (λ (w : Want). uses w.folder r.1) wants r.4 in
    record {
      where_it_is = suc r.0;
      user = r.1;
      there = r.2;
      other = λ q. r.3 (let z : 0 + 1 + r.0 ≡ suc r.0 = omega arith in z ∙ q);
      want = w.0;
      wanted = w.1;
      uses_it = w.2;
    }

total_slice_at : (asks : List KeptAsk) (j : ℕ) (st : KeptAsk) → slice_get asks j ≡ Some st → weight st ≤ total asks
unfolding total
total_slice_at [] j st e = none_some st e
total_slice_at (x ∷ asks) zero st e = subst (λ z. weight z ≤ weight x + total asks) (some_is x st e) (omega arith)
total_slice_at (x ∷ asks) (suc j) st e = (let r = total_slice_at asks j st e in omega arith)

total_at : (asks : List KeptAsk) (a : ℕ) (st : KeptAsk) → nth asks a ≡ Some st → weight st ≤ total asks
total_at asks zero st e = none_some st e
total_at asks (suc j) st e = total_slice_at asks j st e

flag : (b : Bool) → (b ≡ true → ⊥) → b ≡ false
flag b not_so = elim (cases_Bool b) [ inl t ↦ absurd (not_so t) | inr f ↦ f ]

module _ (laws : Laws) (law : EveryScheduleStaysSafe) (means : EveryScheduleMeans) (sha : List ℕ → Digest) (k : Limits) (is_farm : IsFarm sha k) (size : ℕ) where
  abbrev pub S : List Event → Farm
  S events = scheduled sha k size events

  -- a farm of a schedule whose coordinator is up
  pub record Up (events : List Event) : Type 0 where
    pub are : AreEvents events
    pub up : (S events).down ≡ false
    pub safe : (S events).armed ≡ None
    pub none : NoneIsDown (S events)

  pub here : (events : List Event) → Up events → Here size (S events)
  here events u = here_of laws sha k is_farm size events u.are u.up u.safe

  pub calm_more : (events : List Event) → Up events → (before : ℕ) (more : List Event) → Givings before more → CalmFarm (S events) (S (events ++ more))
  calm_more events u before [] own = subst (λ (l : List Event). CalmFarm (S events) (S l)) (sym (append-nil events)) (record { down = u.up; armed = u.safe; size = refl; gone = refl; nodes = λ n. calm_same ((S events).nodes n) })
  calm_more events u before (e ∷ more) own =
      let s : Farm = S events in
      let one : List Event = e ∷ [] in
      let at_next : S (events ++ one) ≡ (step sha k s e).farm = run_more sha k events one (opening sha size) in
      let first : CalmFarm s (S (events ++ one)) = subst (CalmFarm s) (sym at_next) (step_calm sha k s u.up u.safe (λ y. (laws.touches size k s.ledger (here events u).lawful.ledger y).gone) e (less_giving 0 before e (omega arith) (own e (inl refl)))) in
      let own_one : Givings before one = λ v i. own v (elim i [ inl q ↦ inl q | inr q ↦ absurd q ]) in
      let rest = calm_more (events ++ one) (record { are = more_events events one u.are before own_one; up = first.down; safe = first.armed; none = none_later s (S (events ++ one)) first u.none }) before more (λ v i. own v (inr i)) in
      subst (λ (l : List Event). CalmFarm s (S l)) (append_assoc events one more) (calm_then s (S (events ++ one)) (S ((events ++ one) ++ more)) first rest)
    where
      none_later : (s t : Farm) → CalmFarm s t → NoneIsDown s → NoneIsDown t
      none_later s t c none who there gone = (c.nodes who.0).spent ∙ none who (subst (λ (z : ℕ). (nat_le 1 who.0 && nat_le who.0 z) ≡ true) c.size there) (subst (λ (f : ℕ → Bool). f who.0 ≡ false) c.gone gone)

  pub up_more : (events : List Event) → Up events → (before : ℕ) (more : List Event) → Givings before more → Up (events ++ more)
  up_more events u before more own =
      let c = calm_more events u before more own in
      record {
        are = more_events events more u.are before own;
        up = c.down;
        safe = c.armed;
        none = λ who there gone. (c.nodes who.0).spent ∙ u.none who (subst (λ (z : ℕ). (nat_le 1 who.0 && nat_le who.0 z) ≡ true) c.size there) (subst (λ (f : ℕ → Bool). f who.0 ≡ false) c.gone gone);
      }

  pub live_or_not : (events more : List Event) → Up (events ++ more) → (h : Lease) → In h (S events).ledger.live → In h (S (events ++ more)).ledger.live ⊎ (In h (S (events ++ more)).ledger.live → ⊥)
  live_or_not events more u h i =
      let t : Farm = S (events ++ more) in
      elim (cases_option (lease_under t.ledger.live h.ticket)) [
        | inl none ↦ inr (λ j. none_some h (sym none ∙ under_it k t.ledger.live h (here (events ++ more) u).lawful.ledger.core.apart j))
        | inr (g, some) ↦ (
            let f = find_some (has_ticket h.ticket) t.ledger.live g some in
            inl (subst (λ (z : Lease). In z t.ledger.live) (same_between sha (S events) t (law sha k is_farm size events more) h g i f.0 (eqb-true g.ticket.0 h.ticket.0 f.1)) f.0))
      ]

  -- no message that was sent goes
  pub longer : (events more : List Event) (before : ℕ) → before ≤ length (S events).pool → before ≤ length (S (events ++ more)).pool
  longer events more before le =
      let b = law sha k is_farm size events more in
      let p = pool_later sha b.before.world b.after.world b.moves in
      let same : (S (events ++ more)).pool ≡ (S events).pool ++ p.0 = sym b.after.shows.pool ∙ p.1 ∙ ap (λ (l : List Message). l ++ p.0) b.before.shows.pool in
      subst (λ (l : List Message). before ≤ length l) (sym same) (let r = length_more (S events).pool p.0 in omega arith)

  -- ---- what the node's asks are

  abbrev x_of : List Event → NodeId → Node
  x_of events n = (S events).nodes n.0

  -- the ask of a lease was made for a tenure just where the lease is one
  wanted_at : (events : List Event) → (h : Lease) → In h (S events).ledger.live → (x_of events h.node).life ≡ h.life → (st : KeptAsk) → nth (x_of events h.node).asks h.ask.0 ≡ Some st → (ws : List Want) × Wanted st ws h.tenure
  wanted_at events h i life st e =
      let a = laws.safes sha k is_farm size events in
      let live = a.shows.now.live_made h i in
      let kept = kept_start sha in
      let wanted = wanted_all sha (start sha) a.world a.moves kept (wanted_start sha) in
      let made = wanted.made live.0 live.1.0 in
      let asked = wanted.asked live.0.node live.0.life live.0.ask made.0 (is_tenure live.0.kind) made.1 in
      let its = subst (λ (l : Lease). Asked (a.world.nodes l.node.0) l.life l.ask.0 made.0 l.tenure) live.2 asked in
      (made.0, by made.0 (subst (λ (z : Node). Asked z h.life h.ask.0 made.0 h.tenure) (a.shows.nodes h.node.0) its))
    where
      by : (ws : List Want) → Asked (x_of events h.node) h.life h.ask.0 ws h.tenure → Wanted st ws h.tenure
      by ws (inl newer) = (let same : (x_of events h.node).life.0 ≡ h.life.0 = ap (λ (z : Life). z.0) life in absurd (omega arith))
      by ws (inr (same, (st', e', w))) = subst (λ z. Wanted z ws h.tenure) (some_is st' st (sym e' ∙ e)) w

  one_at : (events : List Event) (n : NodeId) (f : FolderName) (a b : ℕ) (st st' : KeptAsk) → nth (x_of events n).asks a ≡ Some st → nth (x_of events n).asks b ≡ Some st' → TenureParts f st → TenureParts f st' → a ≡ b
  one_at events n f a b st st' e e' t t' =
      let s = laws.safes sha k is_farm size events in
      let wanted = wanted_all sha (start sha) s.world s.moves (kept_start sha) (wanted_start sha) in
      let one = subst (λ (z : Node). OneTenure z.asks) (s.shows.nodes n.0) (wanted.one n.0) in
      one f a b st st' e e' (of_parts f st t) (of_parts f st' t')

  tenure_parts : (st : KeptAsk) (ws : List Want) (w : Want) → Wanted st ws true → In w (wants_at st) → TenureParts w.folder st
  tenure_parts (Open wants tenure) ws w is i = (w, i, refl, is.1)
  tenure_parts (Holding wants g r) ws w is i = (w, i, refl, is.1)
  tenure_parts (Running wants g r) ws w is i = (w, i, refl, is.1)
  tenure_parts (Finished wants g news) ws w is i = (w, i, refl, is.1)
  tenure_parts (Over ending) ws w is i = absurd i

  -- two asks that are granted under one ticket have one grant
  grant_at : (events : List Event) (n : NodeId) (a : ℕ) (st : KeptAsk) → nth (x_of events n).asks a ≡ Some st → (v : HeldGrant) (t : Ticket) → held_or_running t st ≡ Some v → In (Granted v.grant) (laws.safes sha k is_farm size events).world.machine.made
  grant_at events n a st e v t f =
      let s = laws.safes sha k is_farm size events in
      let kept = kept_all sha (start sha) s.world s.moves (kept_start sha) in
      let was : nth (s.world.nodes n.0).asks a ≡ Some st = subst (λ (z : Node). nth z.asks a ≡ Some st) (sym (s.shows.nodes n.0)) e in
      let is : StateIs s.world.pool s.world.machine n.0 (s.world.nodes n.0).life a st = kept.states n.0 a st was in
      elim (either_is t st v f).0 [
        | inl q ↦ (subst (StateIs s.world.pool s.world.machine n.0 (s.world.nodes n.0).life a) q is).0
        | inr q ↦ (subst (StateIs s.world.pool s.world.machine n.0 (s.world.nodes n.0).life a) q is).0
      ]

  one_grant : (events : List Event) (g g' : Grant) → In (Granted g) (laws.safes sha k is_farm size events).world.machine.made → In (Granted g') (laws.safes sha k is_farm size events).world.machine.made → g.ticket ≡ g'.ticket → g ≡ g'
  one_grant events g g' i j same = (let s = laws.safes sha k is_farm size events in granted_is g g' (one_made s.world.machine.made s.safe.tickets (Granted g) (Granted g') i j (ap (λ (t : Ticket). t.0) same)))

  -- ---- one user less

  -- after these events the asks of the node are nearer their end
  abbrev Nearer : ℕ → List Event → NodeId → Type 0
  Nearer before events n = (more : List Event) × Givings before more × (total (x_of (events ++ more) n).asks < total (x_of events n).asks)

  closed_weight : (st : KeptAsk) → is_open st ≡ false → weight st < 2
  closed_weight (Open wants tenure) e = (let bad : true ≡ false = e in absurd (cc bad))
  closed_weight (Holding wants g r) e = omega arith
  closed_weight (Running wants g r) e = omega arith
  closed_weight (Finished wants g news) e = omega arith
  closed_weight (Over ending) e = omega arith

  module _ (events : List Event) (u : Up events) (h : Lease) (i : In h (S events).ledger.live) (before : ℕ) (long : before ≤ length (S events).pool) where
    abbrev x : Node
    x = x_of events h.node

    there : is_node (S events) h.node ≡ true
    there = lease_there size (S events) (here events u) h i

    stays_in : (S events).ledger.gone h.node.0 ≡ false
    stays_in = ((here events u).lawful.ledger.core.holders h i).asker.stays

    runs : x.spent ≡ false
    runs = u.none h.node there stays_in

    open_nearer : (b : ℕ) (ws : List Want) → nth x.asks b ≡ Some (Open ws false) → Nearer before events h.node
    open_nearer b ws e =
        let r = every_open_ask_is_answered_by_giving_back laws means sha k is_farm size events u.are u.up u.safe u.none h.node (record { 0 = b }) ws (record { there = there; stays = stays_in; runs = runs; asks = e }) in
        let more : List Event = r.0 in
        let own : Givings before more = λ v j. less_giving before (length (S events).pool) v long (r.1.own v j) in
        let calm = calm_more events u before more own in
        let same : S (events ++ more) ≡ run sha k more (S events) = run_more sha k events more (opening sha size) in
        let answer = r.1.answered in
        let now : nth (x_of (events ++ more) h.node).asks b ≡ Some answer.kept = subst (λ (f : Farm). nth (f.nodes h.node.0).asks b ≡ Some answer.kept) (sym same) answer.here in
        (more, own, total_less x.asks (x_of (events ++ more) h.node).asks b (Open ws false) answer.kept (calm.nodes h.node.0).lighter e now (closed_weight answer.kept answer.answered))

    held_weight : (t : Ticket) (st : KeptAsk) (v : HeldGrant) → held_or_running t st ≡ Some v → 0 < weight st
    held_weight t st v f = elim (either_is t st v f).0 [
      | inl q ↦ subst (λ z. 0 < weight z) (sym q) (omega arith)
      | inr q ↦ subst (λ z. 0 < weight z) (sym q) (omega arith)
    ]

    held_nearer : (b : ℕ) (st : KeptAsk) (v : HeldGrant) → nth x.asks b ≡ Some st → held_or_running v.grant.ticket st ≡ Some v → is_tenure v.grant.kind ≡ false → Nearer before events h.node
    held_nearer b st v e f plain =
        let t : Ticket = v.grant.ticket in
        let r = first_at (held_or_running t) x.asks b st v e f in
        let o = found (held_or_running t) x.asks r.0 r.1 in
        let same : r.0.1.grant ≡ v.grant = one_grant events r.0.1.grant v.grant (grant_at events h.node r.0.0 o.0 o.1 r.0.1 t o.2) (grant_at events h.node b st e v t f) (either_is t o.0 r.0.1 o.2).1 in
        let idle : in_use x.asks r.0.0 r.0.1.wants r.0.1.grant ≡ false = subst (λ (g : Grant). in_use x.asks r.0.0 r.0.1.wants g ≡ false) (sym same) (no_use (is_tenure v.grant.kind) (others_use r.0.0 r.0.1.wants x.asks 0) plain) in
        let work : NodeWork = gives_up (at (S events) h.node) r.0.0 r.0.1.grant.ticket (note.Aborted r.0.1.grant.ticket) x in
        let does = abort_is sha k (S events) h.node t r.0 there runs r.1 idle in
        let more : List Event = Abort h.node t ∷ [] in
        let own : Givings before more = one_more (IsGivingBack before) (Abort h.node t) tt [] (λ z j. absurd j) in
        let calm = calm_more events u before more own in
        let at_next : S (events ++ more) ≡ (moved h.node work (S events)).farm = run_more sha k events more (opening sha size) ∙ does in
        let now : nth (x_of (events ++ more) h.node).asks r.0.0 ≡ Some (Over (how.Released r.0.1.grant.ticket)) =
        ap (λ (s : Farm). nth (s.nodes h.node.0).asks r.0.0) at_next ∙ ap (λ (z : Node). nth z.asks r.0.0) (put_same h.node.0 work.node (S events).nodes) ∙ nth-set_same x.asks r.0.0 (Over (how.Released r.0.1.grant.ticket)) o.0 o.1 in
        (more, own, total_less x.asks (x_of (events ++ more) h.node).asks r.0.0 o.0 (Over (how.Released r.0.1.grant.ticket)) (calm.nodes h.node.0).lighter o.1 now (held_weight t o.0 r.0.1 o.2))
      where
        no_use : (a c : Bool) → a ≡ false → (a && c) ≡ false
        no_use true c q = (let bad : true ≡ false = q in absurd (cc bad))
        no_use false c q = refl

    -- an ask that uses the folder of the tenure
    user_nearer : (is_one : h.tenure ≡ true) → x.life ≡ h.life → (st : KeptAsk) → nth x.asks h.ask.0 ≡ Some st → Used h.ask.0 (wants_at st) x.asks → Nearer before events h.node
    user_nearer is_one life st e used = by used.user used.there used.uses_it
      where
        no_tenure : (user : KeptAsk) → nth x.asks used.where_it_is ≡ Some user → TenureParts used.want.folder user → ⊥
        no_tenure user f parts =
            let w = wanted_at events h i life st e in
            let its : TenureParts used.want.folder st = tenure_parts st w.0 used.want (subst (Wanted st w.0) is_one w.1) used.wanted in
            used.other (one_at events h.node used.want.folder used.where_it_is h.ask.0 user st f e parts its)

        by : (user : KeptAsk) → nth x.asks used.where_it_is ≡ Some user → uses used.want.folder user ≡ true → Nearer before events h.node
        by (Open ws t) f taken =
            let w = wants_folder_in used.want.folder ws taken in
            let plain : t ≡ false = flag t (λ q. no_tenure (Open ws t) f (w.0, w.1, w.2, q)) in
            open_nearer used.where_it_is ws (subst (λ b. nth x.asks used.where_it_is ≡ Some (Open ws b)) plain f)
        by (Holding ws g r) f taken =
            let w = wants_folder_in used.want.folder ws taken in
            let same : eqb g.ticket.0 g.ticket.0 ≡ true = eqb_same g.ticket.0 in
            held_nearer used.where_it_is (Holding ws g r) (record { wants = ws; grant = g; recalled = r }) f (rw same refl) (flag (is_tenure g.kind) (λ q. no_tenure (Holding ws g r) f (w.0, w.1, w.2, q)))
        by (Running ws g r) f taken =
            let w = wants_folder_in used.want.folder ws taken in
            let same : eqb g.ticket.0 g.ticket.0 ≡ true = eqb_same g.ticket.0 in
            held_nearer used.where_it_is (Running ws g r) (record { wants = ws; grant = g; recalled = r }) f (rw same refl) (flag (is_tenure g.kind) (λ q. no_tenure (Running ws g r) f (w.0, w.1, w.2, q)))
        by (Finished ws g news) f taken = (let bad : false ≡ true = taken in absurd (cc bad))
        by (Over ending) f taken = (let bad : false ≡ true = taken in absurd (cc bad))

  -- ---- the tenure ends

  abbrev pub EndsBy : ℕ → List Event → Lease → Type 0
  EndsBy before events h = (more : List Event) × Givings before more × (In h (S (events ++ more)).ledger.live → ⊥)

  given_ends : (events : List Event) (u : Up events) (h : Lease) (i : In h (S events).ledger.live) (before : ℕ) → before ≤ length (S events).pool
      → (((S events).nodes h.node.0).life ≡ h.life → (st : KeptAsk) → nth (x_of events h.node).asks h.ask.0 ≡ Some st → (h.tenure && others_use h.ask.0 (wants_at st) (x_of events h.node).asks 0) ≡ false) → EndsBy before events h
  given_ends events u h i before long unused =
      let b = give_back sha k size laws.touches (S events) (here events u) h i (runs events u h i before long) unused in
      (b.0, (λ e j. less_giving before (length (S events).pool) e long (b.1 e j)), subst (λ (f : Farm). In h f.ledger.live → ⊥) (sym (run_more sha k events b.0 (opening sha size))) b.3.ended)

  -- at each user either there is none, and the tenure is given up, or it comes nearer its end
  step_it : (events : List Event) (u : Up events) (h : Lease) (i : In h (S events).ledger.live) → h.tenure ≡ true → (before : ℕ) → before ≤ length (S events).pool → EndsBy before events h ⊎ Nearer before events h.node
  step_it events u h i is_one before long = elim (cases_eq (x_of events h.node).life.0 h.life.0) [
    | inr ne ↦ inl (given_ends events u h i before long (λ same st e. absurd (ne (ap (λ (z : Life). z.0) same))))
    | inl same ↦ by (life_is (x_of events h.node).life h.life same) (nth (x_of events h.node).asks h.ask.0) refl
  ]
    where
      by : (x_of events h.node).life ≡ h.life → (o : Option KeptAsk) → nth (x_of events h.node).asks h.ask.0 ≡ o → EndsBy before events h ⊎ Nearer before events h.node
      by life None e = inl (given_ends events u h i before long (λ same st f. none_some st (sym e ∙ f)))
      by life (Some st) e = elim (cases_Bool (h.tenure && others_use h.ask.0 (wants_at st) (x_of events h.node).asks 0)) [
        | inr free ↦ inl (given_ends events u h i before long (λ same st' f. subst (λ z. (h.tenure && others_use h.ask.0 (wants_at z) (x_of events h.node).asks 0) ≡ false) (some_is st st' (sym e ∙ f)) free))
        | inl used ↦ inr (user_nearer events u h i before long is_one life st e (some_user h.ask.0 (wants_at st) (x_of events h.node).asks (and_parts h.tenure (others_use h.ask.0 (wants_at st) (x_of events h.node).asks 0) used).1))
      ]

  end_it : (fuel : ℕ) (events : List Event) (u : Up events) (h : Lease) (i : In h (S events).ledger.live) → h.tenure ≡ true → (before : ℕ) → before ≤ length (S events).pool → total (x_of events h.node).asks ≤ fuel → EndsBy before events h
  end_it zero events u h i is_one before long le = elim (step_it events u h i is_one before long) [
    | inl ends ↦ ends
    | inr (more, own, less) ↦ absurd (omega arith)
  ]
  end_it (suc fuel) events u h i is_one before long le = elim (step_it events u h i is_one before long) [
    | inl ends ↦ ends
    | inr (more, own, less) ↦ (
        let v = up_more events u before more own in
        elim (live_or_not events more v h i) [
          | inr gone ↦ (more, own, gone)
          | inl j ↦ (
              let r = end_it fuel (events ++ more) v h j is_one before (longer events more before long) (omega arith) in
              (more ++ r.0, both_giving before more r.0 own r.1, subst (λ (l : List Event). In h (S l).ledger.live → ⊥) (append_assoc events more r.0) r.2))
        ])
  ]

  -- each live lease, a tenure too
  pub lease_ends_by : (events : List Event) (u : Up events) (h : Lease) (i : In h (S events).ledger.live) (before : ℕ) → before ≤ length (S events).pool → EndsBy before events h
  lease_ends_by events u h i before long = elim (cases_Bool h.tenure) [
    | inl t ↦ end_it (total (x_of events h.node).asks) events u h i t before long (omega arith)
    | inr f ↦ given_ends events u h i before long (λ same st e. and_false h.tenure _ f)
  ]
    where
      and_false : (a c : Bool) → a ≡ false → (a && c) ≡ false
      and_false a c q = rw q refl
