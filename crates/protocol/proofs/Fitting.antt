-- A PRIVATE slot that is granted is one of the instances that the farm has.
use Rattle.std.proofs.Common.{◌≡◌, ◌≢◌, ℕ, ◌+◌, ◌<◌, ◌≤◌, List, [], ◌∷◌, ◌++◌, Bool, true, false, not, ◌&&◌, ◌||◌, eqb, Option, Some, None, Result, Ok, Err, refl, sym, ◌∙◌, ap, subst, inl, inr, arith}
use Rattle.std.proofs.lemmas.Bool.{cases_Bool}
use Rattle.std.specs.List.{list_any, find}
use Rattle.std.specs.Prelude.{⊤, nat_lt, if◌then◌else◌}
use Rattle.protocol.specs.Lists.{In, is_nil}
use Rattle.protocol.specs.Names.{Private, Slot, is_private, leased_wants, NodeId, Life, Ticket, Digest, Want}
use Rattle.protocol.specs.Machine.{Grant, Granted, GrantedSlot, LineVersion, News, Message, FromCoord, ToCoord, Parked, Machine}
use Rattle.farm_base.specs.declared.message.Request.{Request}
use Rattle.farm_base.specs.declared.message.Request.TheVariants.{Hello, Acquire, Commit, Release}
use Rattle.farm_base.specs.declared.message.FromCoord.TheVariants as told
use Rattle.events.specs.declared.answer.CoordRefusal.{CoordRefusal}
use Rattle.events.specs.declared.answer.CoordRefusal.TheVariants as refusal
use Rattle.events.specs.declared.answer.CoordNote.TheVariants as note
use Rattle.protocol.specs.Ledger.{Limits, Ledger, Lease, Work, begin_work, says, notes, is_free, is_leased, lowest, slot_for, all_taken, busy, granted_slot, grant_of, Decision, Give, Deny, Wait, elsewhere, decision, lease_for, gives, denies, carried_out, tried, try_all, parks, retried, holds_wanted, recall, recalls, decided, acquiring, lease_of, is_parked, has_ticket, ends, lease_under, may_commit, on_all, confirms, commits, committing, may_release, released, answering, is_older, sees, is_home, newer_life, handled, withdraws, withdrawing, withdrawn, is_at, goes, retired, prunes, pruned, is_awaited, nudges, nudge_all, nudged}
use Rattle.protocol.specs.Ledger as ledger
use Rattle.protocol.specs.World.{World}
use Rattle.protocol.specs.Follows.{Agrees}
use Rattle.protocol.proofs.Base.{in_append, in_one, from_map, from_filter, any_none, true_false}
use Rattle.protocol.proofs.Leases.{lowest_is, find_some}
use Rattle.protocol.proofs.Following.{pick_give}

abbrev pub FitLease : Limits → Lease → Type 0
FitLease k h = (x : Slot × Bool) → In x h.slots → x.0.folder.mode ≡ Private → x.0.instance ≤ k.instances

abbrev pub FitGrant : Limits → Grant → Type 0
FitGrant k g = (u : GrantedSlot) → In u g.slots → u.slot.folder.mode ≡ Private → u.slot.instance ≤ k.instances

-- all grants that were ever made
abbrev pub AllFit : Limits → Machine → Type 0
AllFit k m = (g : Grant) → In (Granted g) m.made → FitGrant k g

-- in a world, also where the record is of another machine
pub record WorldFits (k : Limits) (u : World) : Type 0 where
  pub now : AllFit k u.machine
  pub kept : (m : Machine) → u.down ≡ Some m → AllFit k m

abbrev SaysFit : Limits → FromCoord → Type 0
SaysFit k (told.Granted g) = FitGrant k g
SaysFit k (told.Committed n l t versions) = ⊤
SaysFit k (told.Fenced n l t) = ⊤
SaysFit k (told.Denied n l a why) = ⊤
SaysFit k (told.Recall n l t) = ⊤

-- the leases of a ledger that agrees with a machine
pub leases_fit : (k : Limits) (empty : Digest) (pool : List Message) (m : Machine) (q : Ledger) → Agrees empty pool m q → AllFit k m → (h : Lease) → In h q.live → FitLease k h
leases_fit k empty pool m q agrees fit h i x j private =
    let g = agrees.live_made h i in
    let u = from_map (λ (v : GrantedSlot). (v.slot, v.writable)) x g.0.slots (subst (λ (z : Lease). In x z.slots) (sym g.2) j) in
    let same : x.0 ≡ u.0.slot = ap (λ (z : Slot × Bool). z.0) u.2 in
    subst (λ (s : Slot). s.instance ≤ k.instances) (sym same) (fit g.0 g.1.0 u.0 u.1 (ap (λ (s : Slot). s.folder.mode) (sym same) ∙ private))

module _ (k : Limits) where
  -- what is leased and sent fits
  pub record W (w : Work) : Type 0 where
    pub leases : (h : Lease) → In h w.ledger.live → FitLease k h
    pub sends : (m : FromCoord) → In m w.sends → SaysFit k m

  grant_fits : (empty : Digest) (line : Slot → List LineVersion) (h : Lease) → FitLease k h → FitGrant k (grant_of empty line h)
  grant_fits empty line h fit u i private =
      let x = from_map (granted_slot empty line) u h.slots i in
      subst (λ (z : GrantedSlot). z.slot.instance ≤ k.instances) (sym x.2) (fit x.0 x.1 (ap (λ (z : GrantedSlot). z.slot.folder.mode) (sym x.2) ∙ private))

  says_w : (y : FromCoord) (w v : Work) → SaysFit k y → v.ledger ≡ w.ledger → v.sends ≡ w.sends ++ y ∷ [] → W w → W v
  says_w y w v fit same sent a = record {
    leases = λ h i. a.leases h (subst (λ (q : Ledger). In h q.live) same i);
    sends = λ m i. elim (in_append m w.sends (y ∷ []) (subst (In m) sent i)) [ inl j ↦ a.sends m j | inr j ↦ subst (SaysFit k) (sym (in_one m y j)) fit ];
  }

  pub begins_w : (q : Ledger) → ((h : Lease) → In h q.live → FitLease k h) → W (begin_work q)
  begins_w q fit = record { leases = fit; sends = λ m i. absurd i }

  -- fewer leases, and the same is sent
  less_w : (w v : Work) → ((h : Lease) → In h v.ledger.live → In h w.ledger.live) → v.sends ≡ w.sends → W w → W v
  less_w w v less same a = record { leases = λ h i. a.leases h (less h i); sends = λ m i. a.sends m (subst (In m) same i) }

  not_zero : (a : ℕ) → eqb a 0 ≡ false → a ≢ 0
  not_zero a f e = true_false (eqb a 0) (subst (λ z. eqb z 0 ≡ true) (sym e) refl) f

  private_rest : (b : Bool) (c : Bool) → b ≡ true → (b && c) ≡ false → c ≡ false
  private_rest true c e f = f
  private_rest false c e f = (let bad : false ≡ true = e in cc)

  new_fits : (p : Parked) (q : Ledger) → decision k q p ≡ Give → FitLease k (lease_for k q p)
  unfolding decision
  new_fits p q e x i private =
      let ws : List Want = leased_wants p.tenure p.wants in
      let all = pick_give (elsewhere q p) (all_taken k.instances (is_free q) ws) (busy (is_leased q) ws) (not (nat_lt q.last k.greatest)) e in
      let f = from_map (λ (w : Want). (slot_for k.instances (is_free q) w, w.writable)) x ws i in
      let w : Want = f.0 in
      let same : x.0 ≡ slot_for k.instances (is_free q) w = ap (λ (z : Slot × Bool). z.0) f.2 in
      let is : is_private w.folder.mode ≡ true = ap is_private (ap (λ (s : Slot). s.folder.mode) (sym same) ∙ private) in
      let some = private_rest (is_private w.folder.mode) (eqb (lowest (is_free q) w.folder 1 k.instances) 0) is (any_none (λ (v : Want). is_private v.folder.mode && eqb (lowest (is_free q) v.folder 1 k.instances) 0) w ws all.left f.1) in
      let low = lowest_is (is_free q) w.folder k.instances 1 (not_zero (lowest (is_free q) w.folder 1 k.instances) some) in
      let at : (slot_for k.instances (is_free q) w).instance ≡ lowest (is_free q) w.folder 1 k.instances = rw is refl in
      let at' : x.0.instance ≡ lowest (is_free q) w.folder 1 k.instances = ap (λ (s : Slot). s.instance) same ∙ at in
      let lt : lowest (is_free q) w.folder 1 k.instances < 1 + k.instances = low.2 in
      omega arith

  gives_w : (p : Parked) (w : Work) → decision k w.ledger p ≡ Give → W w → W (gives k p w)
  unfolding gives
  gives_w p w e a = (let h : Lease = lease_for k w.ledger p in let fit = new_fits p w.ledger e in record {
    leases = λ x i. elim (in_append x w.ledger.live (h ∷ []) i) [ inl j ↦ a.leases x j | inr j ↦ subst (FitLease k) (sym (in_one x h j)) fit ];
    sends = λ m i. elim (in_append m w.sends (told.Granted (grant_of k.empty w.ledger.line h) ∷ []) i) [
      | inl j ↦ a.sends m j
      | inr j ↦ subst (SaysFit k) (sym (in_one m (told.Granted (grant_of k.empty w.ledger.line h)) j)) (grant_fits k.empty w.ledger.line h fit)
    ];
  })

  carried_w : (d : Decision) (p : Parked) (w : Work) → decision k w.ledger p ≡ d → W w → W (carried_out k d p w)
  carried_w Give p w e a = gives_w p w e a
  carried_w (Deny why) p w e a = says_w (told.Denied p.node p.life p.ask why) w (denies why p w) tt refl refl a
  carried_w Wait p w e a = a

  try_w : (ps : List Parked) (w : Work) → W w → W (try_all k ps w)
  unfolding tried
  try_w [] w a = a
  try_w (p ∷ ps) w a = try_w ps (tried k p w) (carried_w (decision k w.ledger p) p w refl a)

  retried_w : (w : Work) → W w → W (retried k w)
  unfolding retried
  retried_w w a = (let r = try_w w.ledger.parked w a in record { leases = r.leases; sends = r.sends })

  -- ---- messages

  recall_w : (o : Option Lease) (w : Work) → W w → W (recall o w)
  recall_w None w a = a
  recall_w (Some g) w a = says_w (told.Recall g.node g.life g.ticket) w (recall (Some g) w) tt refl refl a

  recalls_w : (b : Bool) (p : Parked) (w : Work) → W w → W (recalls b p w)
  recalls_w true p w a = recall_w (find (holds_wanted p) w.ledger.live) w a
  recalls_w false p w a = a

  again_w : (w v : Work) → v.ledger.live ≡ w.ledger.live → v.sends ≡ w.sends → W w → W v
  again_w w v live sends a = less_w w v (λ h i. subst (In h) live i) sends a

  decided_w : (d : Decision) (p : Parked) (w : Work) → decision k w.ledger p ≡ d → W w → W (decided k d p w)
  decided_w Give p w e a = again_w (gives k p w) (decided k Give p w) refl refl (gives_w p w e a)
  decided_w (Deny why) p w e a = says_w (told.Denied p.node p.life p.ask why) w (decided k (Deny why) p w) tt refl refl a
  decided_w Wait p w e a =
      let v : Work = recalls (p.tenure && not (elsewhere w.ledger p)) p w in
      again_w v (decided k Wait p w) refl refl (recalls_w (p.tenure && not (elsewhere w.ledger p)) p w a)

  acquiring_w : (o : Option Lease) (b : Bool) (p : Parked) (w : Work) → lease_of w.ledger.live p.node p.life p.ask ≡ o → W w → W (acquiring k o b p w)
  acquiring_w (Some g) b p w e a = says_w (told.Granted (grant_of k.empty w.ledger.line g)) w (acquiring k (Some g) b p w) (grant_fits k.empty w.ledger.line g (a.leases g (find_some (ledger.is_of p.node p.life p.ask) w.ledger.live g e).0)) refl refl a
  acquiring_w None true p w e a = again_w w (acquiring k None true p w) refl refl a
  acquiring_w None false p w e a = decided_w (decision k w.ledger p) p w refl a

  committing_w : (b : Bool) (n : NodeId) (l : Life) (t : Ticket) (news : List News) (w : Work) → W w → W (committing k b n l t news w)
  committing_w true n l t news w a =
      let c : Work = commits t news w in
      let v : Work = confirms n l t news c in
      again_w (retried k v) (committing k true n l t news w) refl refl (retried_w v (says_w (told.Committed n l t (ledger.versions_of c.ledger.line t news)) c v tt refl refl
      (less_w w c (λ h i. (from_filter (λ (g : Lease). not (has_ticket t g)) h w.ledger.live i).0) refl a)))
  committing_w false n l t news w a = by (not (is_nil news) && on_all w.ledger.line t news)
    where
      by : (b : Bool) → W (ledger.answered b n l t news w)
      by true = says_w (told.Committed n l t (ledger.versions_of w.ledger.line t news)) w (ledger.answered true n l t news w) tt refl refl a
      by false = says_w (told.Fenced n l t) w (ledger.answered false n l t news w) tt refl refl a

  ends_w : (g : Lease) (w : Work) → W w → W (ends g w)
  ends_w g w a = less_w w (ends g w) (λ h i. (from_filter (λ (x : Lease). not (has_ticket g.ticket x)) h w.ledger.live i).0) refl a

  released_w : (b : Bool) (t : Ticket) (o : Option Lease) (w : Work) → W w → W (released k b t o w)
  released_w b t None w a = a
  released_w false t (Some g) w a = a
  released_w true t (Some g) w a = again_w (retried k (ends g w)) (released k true t (Some g) w) refl refl (retried_w (ends g w) (ends_w g w a))

  answering_w : (n : NodeId) (l : Life) (r : Request) (w : Work) → W w → W (answering k n l r w)
  answering_w n l Hello w a = a
  answering_w n l (Acquire b wants tenure) w a = acquiring_w (lease_of w.ledger.live n l b) (is_parked w.ledger.parked n l b) (record { node = n; life = l; ask = b; wants = wants; tenure = tenure }) w refl a
  answering_w n l (Commit t news) w a = committing_w (may_commit n l news (lease_under w.ledger.live t)) n l t news w a
  answering_w n l (Release t) w a = released_w (may_release n l (lease_under w.ledger.live t)) t (lease_under w.ledger.live t) w a

  newer_w : (n : NodeId) (l : Life) (w : Work) → W w → W (newer_life k n l w)
  unfolding newer_life
  newer_w n l w a = elim (cases_Bool (list_any (is_older n l) w.ledger.live || is_home n w.ledger.old_home)) [ inl t ↦ rw t (retried_w (sees n l w) seen) | inr t ↦ rw t seen ]
    where
      seen : W (sees n l w)
      seen = less_w w (sees n l w) (λ h i. (from_filter (λ (g : Lease). not (is_older n l g)) h w.ledger.live i).0) refl a

  pub handled_w : (y : ToCoord) (w : Work) → W w → W (handled k y w)
  unfolding handled
  handled_w y w a = elim (cases_Bool (w.ledger.gone y.node.0)) [
    | inl t ↦ rw t (again_w w (notes note.NodeRetired w) refl refl a)
    | inr here ↦ rw here (elim (cases_Bool (nat_lt y.life.0 (w.ledger.lives y.node.0))) [
      | inl t ↦ rw t (again_w w (notes note.OldLife w) refl refl a)
      | inr t ↦ rw t (elim (cases_Bool (nat_lt (w.ledger.lives y.node.0) y.life.0)) [
        | inl newer ↦ rw newer (answering_w y.node y.life y.request (newer_life k y.node y.life w) (newer_w y.node y.life w a))
        | inr same ↦ rw same (answering_w y.node y.life y.request w a)
      ])
    ])
  ]

  -- ---- calls

  abbrev pub OnW : Result Work CoordRefusal → Type 0
  OnW (Ok w) = W w
  OnW (Err e) = ⊤

  w_if : (b : Bool) (e : CoordRefusal) (r : Result Work CoordRefusal) → OnW r → OnW (if b then Err e else r)
  w_if true e r h = tt
  w_if false e r h = h

  withdrawing_w : (o : Option Lease) (w : Work) → W w → OnW (withdrawing k o w)
  withdrawing_w None w a = tt
  withdrawing_w (Some g) w a = w_if g.tenure refusal.Tenure (Ok (notes (note.Withdrawn g.ticket) (retried k (withdraws g w))))
      (again_w (retried k (withdraws g w)) (notes (note.Withdrawn g.ticket) (retried k (withdraws g w))) refl refl (retried_w (withdraws g w) (less_w w (withdraws g w) (λ h i. (from_filter (λ (x : Lease). not (has_ticket g.ticket x)) h w.ledger.live i).0) refl a)))

  pub withdrawn_w : (t : Ticket) (w : Work) → W w → OnW (withdrawn k t w)
  withdrawn_w t w a = withdrawing_w (lease_under w.ledger.live t) w a

  pub pruned_w : (s : Slot) (w : Work) → W w → OnW (pruned k s w)
  pruned_w s w a = w_if (is_leased w.ledger s) refusal.SlotLeased _ (w_if (is_nil (w.ledger.line s)) refusal.NoSuchSlot _ (by (nat_lt w.ledger.last k.greatest)))
    where
      by : (b : Bool) → OnW (if b then Ok (notes (note.Pruned (record { 0 = w.ledger.last + 1 })) (prunes k s w)) else Err refusal.TicketsSpent)
      by true = again_w w (notes (note.Pruned (record { 0 = w.ledger.last + 1 })) (prunes k s w)) refl refl a
      by false = tt

  pub retired_w : (n : NodeId) (w : Work) → W w → OnW (retired k n w)
  retired_w n w a = w_if (w.ledger.gone n.0) refusal.NodeRetired _ (w_if (list_any (λ (g : Lease). is_at n g && g.tenure) w.ledger.live || is_home n w.ledger.old_home) refusal.TenureHeld _ (by (list_any (is_at n) w.ledger.live)))
    where
      gone' : W (goes n w)
      gone' = less_w w (goes n w) (λ h i. (from_filter (λ (g : Lease). not (is_at n g)) h w.ledger.live i).0) refl a

      by : (b : Bool) → W (notes (note.Retired n) (if b then retried k (goes n w) else goes n w))
      by true = again_w (retried k (goes n w)) (notes (note.Retired n) (retried k (goes n w))) refl refl (retried_w (goes n w) gone')
      by false = again_w (goes n w) (notes (note.Retired n) (goes n w)) refl refl gone'

  nudges_w : (h : Lease) (w : Work) → FitLease k h → W w → W (nudges k h w)
  nudges_w h w fit a = by (is_awaited w.ledger.parked h) refl
    where
      g : Grant
      g = grant_of k.empty w.ledger.line h

      one : W (says (told.Granted g) w)
      one = says_w (told.Granted g) w (says (told.Granted g) w) (grant_fits k.empty w.ledger.line h fit) refl refl a

      by : (b : Bool) → is_awaited w.ledger.parked h ≡ b → W (nudges k h w)
      by true e = rw e (says_w (told.Recall h.node h.life h.ticket) (says (told.Granted g) w) (says (told.Recall h.node h.life h.ticket) (says (told.Granted g) w)) tt refl refl one)
      by false e = rw e one

  nudge_w : (hs : List Lease) (w : Work) → ((h : Lease) → In h hs → FitLease k h) → W w → W (nudge_all k hs w)
  nudge_w [] w fit a = a
  nudge_w (h ∷ hs) w fit a = nudge_w hs (nudges k h w) (λ x i. fit x (inr i)) (nudges_w h w (fit h (inl refl)) a)

  pub nudged_w : (w : Work) → W w → W (nudged k w)
  nudged_w w a = again_w (nudge_all k w.ledger.live w) (nudged k w) refl refl (nudge_w w.ledger.live w a.leases a)
