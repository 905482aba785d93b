-- Who is told to give its tenure up is waited for.
use Rattle.std.proofs.Common.{◌≡◌, ◌+◌, List, [], ◌∷◌, ◌++◌, Bool, true, false, not, ◌&&◌, ◌||◌, Option, Some, None, Result, Ok, Err, refl, sym, ◌∙◌, ap, subst, inl, inr}
use Rattle.std.proofs.lemmas.Bool.{cases_Bool, and_parts}
use Rattle.std.specs.List.{list_any, find}
use Rattle.std.specs.Prelude.{⊤, nat_lt, if◌then◌else◌}
use Rattle.protocol.specs.Lists.{In, is_nil}
use Rattle.protocol.specs.Names.{Slot, only_slot, wants_shared, leased_wants, NodeId, Life, Ticket, Digest, Want}
use Rattle.protocol.specs.Machine.{Grant, News, Message, FromCoord, ToCoord, Parked, Machine}
use Rattle.farm_base.specs.declared.message.Request.{Request}
use Rattle.farm_base.specs.declared.message.Request.TheVariants.{Hello, Acquire, Commit, Release}
use Rattle.farm_base.specs.declared.message.FromCoord.TheVariants as told
use Rattle.events.specs.declared.answer.CoordRefusal.{CoordRefusal}
use Rattle.events.specs.declared.answer.CoordRefusal.TheVariants as refusal
use Rattle.events.specs.declared.answer.CoordNote.TheVariants as note
use Rattle.protocol.specs.Ledger.{Limits, Ledger, Lease, Work, begin_work, says, notes, has_slot, is_leased, Decision, Give, Deny, Wait, elsewhere, decision, gives, denies, carried_out, tried, try_all, parks, retried, holds_wanted, recall, recalls, decided, acquiring, lease_of, is_parked, ends, lease_under, may_commit, on_all, confirms, commits, committing, may_release, released, answering, is_older, sees, is_home, newer_life, handled, withdraws, withdrawing, withdrawn, is_at, goes, retired, prunes, pruned, is_awaited, nudges, nudge_all, nudged, grant_of}
use Rattle.protocol.specs.Ledger as ledger
use Rattle.protocol.specs.Follows.{Agrees}
use Rattle.protocol.specs.Meaning.{IsRecalled}
use Rattle.protocol.proofs.Base.{in_append, in_one, in_right, from_any, from_filter}
use Rattle.protocol.proofs.Leases.{find_some, has_lease}
use Rattle.protocol.proofs.Parking.{recalls-ledger}
use Rattle.protocol.proofs.Wanting.{shared_mode}

-- no Recall
abbrev IsOther : FromCoord → Type 0
IsOther (told.Granted g) = ⊤
IsOther (told.Committed n l t versions) = ⊤
IsOther (told.Fenced n l t) = ⊤
IsOther (told.Denied n l a why) = ⊤
IsOther (told.Recall n l t) = ⊥

abbrev Sends : Work → Type 0
Sends w = (m : FromCoord) → In m w.sends → IsOther m

says_other : (y : FromCoord) (w : Work) → IsOther y → Sends w → Sends (says y w)
says_other y w is s m i = elim (in_append m w.sends (y ∷ []) i) [ inl j ↦ s m j | inr j ↦ subst IsOther (sym (in_one m y j)) is ]

-- a lease that is recalled is waited for
abbrev Awaited : Work → NodeId → Life → Ticket → Type 0
Awaited w n l t = (h : Lease) × In h w.ledger.live × (h.node ≡ n) × (h.life ≡ l) × (h.ticket ≡ t) × ((p : Parked) × In p w.ledger.parked × (p.tenure ≡ true) × (holds_wanted p h ≡ true))

abbrev pub Properly : Work → Type 0
Properly w = (n : NodeId) (l : Life) (t : Ticket) → In (told.Recall n l t) w.sends → Awaited w n l t

other_properly : (w : Work) → Sends w → Properly w
other_properly w s n l t i = absurd (s (told.Recall n l t) i)

recall_is : (n n' : NodeId) (l l' : Life) (t t' : Ticket) → told.Recall n l t ≡ told.Recall n' l' t' → (n ≡ n') × (l ≡ l') × (t ≡ t')
recall_is n n' l l' t t' e = (cc, cc, cc)

module _ (k : Limits) where
  carried_other : (d : Decision) (p : Parked) (w : Work) → Sends w → Sends (carried_out k d p w)
  unfolding gives
  carried_other Give p w s = says_other (told.Granted (grant_of k.empty w.ledger.line (ledger.lease_for k w.ledger p))) w tt s
  carried_other (Deny why) p w s = says_other (told.Denied p.node p.life p.ask why) w tt s
  carried_other Wait p w s = s

  try_other : (ps : List Parked) (w : Work) → Sends w → Sends (try_all k ps w)
  unfolding tried
  try_other [] w s = s
  try_other (p ∷ ps) w s = try_other ps (tried k p w) (carried_other (decision k w.ledger p) p w s)

  retried_other : (w : Work) → Sends w → Sends (retried k w)
  unfolding retried
  retried_other w s = try_other w.ledger.parked w s

  -- ---- messages

  found_properly : (p : Parked) (w : Work) → Sends w → p.tenure ≡ true → (o : Option Lease) → find (holds_wanted p) w.ledger.live ≡ o → (n : NodeId) (l : Life) (t : Ticket) → In (told.Recall n l t) (recall o w).sends → Awaited (parks (w.ledger.parked ++ p ∷ []) w) n l t
  found_properly p w s tenure None f n l t z = absurd (s (told.Recall n l t) z)
  found_properly p w s tenure (Some h) f n l t z = elim (in_append (told.Recall n l t) w.sends (told.Recall h.node h.life h.ticket ∷ []) z) [
    | inl old ↦ absurd (s (told.Recall n l t) old)
    | inr new ↦ (let is = recall_is n h.node l h.life t h.ticket (in_one (told.Recall n l t) (told.Recall h.node h.life h.ticket) new) in
        let r = find_some (holds_wanted p) w.ledger.live h f in
        (h, r.0, sym is.0, sym is.1, sym is.2, (p, in_right p w.ledger.parked (p ∷ []) (inl refl), tenure, r.1)))
  ]

  waits_properly : (b : Bool) (p : Parked) (w : Work) → Sends w → (b ≡ true → p.tenure ≡ true) → Properly (parks (w.ledger.parked ++ p ∷ []) (recalls b p w))
  waits_properly false p w s tenure n l t i = absurd (s (told.Recall n l t) i)
  waits_properly true p w s tenure n l t i =
      let r = found_properly p w s (tenure refl) (find (holds_wanted p) w.ledger.live) refl n l t i in
      (r.0, subst (λ (q : Ledger). In r.0 q.live) (sym (recalls-ledger k true p w)) r.1, r.2, r.3, r.4, r.5)

  decided_properly : (d : Decision) (p : Parked) (w : Work) → Sends w → Properly (decided k d p w)
  unfolding gives
  decided_properly Give p w s = other_properly (decided k Give p w) (says_other (told.Granted (grant_of k.empty w.ledger.line (ledger.lease_for k w.ledger p))) w tt s)
  decided_properly (Deny why) p w s = other_properly (decided k (Deny why) p w) (says_other (told.Denied p.node p.life p.ask why) w tt s)
  decided_properly Wait p w s = waits_properly (p.tenure && not (elsewhere w.ledger p)) p w s (λ e. (and_parts p.tenure (not (elsewhere w.ledger p)) e).0)

  acquiring_properly : (o : Option Lease) (b : Bool) (p : Parked) (w : Work) → Sends w → Properly (acquiring k o b p w)
  acquiring_properly (Some g) b p w s = other_properly (acquiring k (Some g) b p w) (says_other (told.Granted (grant_of k.empty w.ledger.line g)) w tt s)
  acquiring_properly None true p w s = other_properly (acquiring k None true p w) s
  acquiring_properly None false p w s = decided_properly (decision k w.ledger p) p w s

  answered_other : (b : Bool) (n : NodeId) (l : Life) (t : Ticket) (news : List News) (w : Work) → Sends w → Sends (ledger.answered b n l t news w)
  answered_other true n l t news w s = says_other (told.Committed n l t (ledger.versions_of w.ledger.line t news)) w tt s
  answered_other false n l t news w s = says_other (told.Fenced n l t) w tt s

  committing_other : (b : Bool) (n : NodeId) (l : Life) (t : Ticket) (news : List News) (w : Work) → Sends w → Sends (committing k b n l t news w)
  committing_other true n l t news w s = retried_other (confirms n l t news (commits t news w)) (says_other (told.Committed n l t (ledger.versions_of (commits t news w).ledger.line t news)) (commits t news w) tt s)
  committing_other false n l t news w s = answered_other (not (is_nil news) && on_all w.ledger.line t news) n l t news w s

  released_other : (b : Bool) (t : Ticket) (o : Option Lease) (w : Work) → Sends w → Sends (released k b t o w)
  released_other b t None w s = s
  released_other false t (Some g) w s = s
  released_other true t (Some g) w s = retried_other (ends g w) s

  answering_properly : (n : NodeId) (l : Life) (r : Request) (w : Work) → Sends w → Properly (answering k n l r w)
  answering_properly n l Hello w s = other_properly w s
  answering_properly n l (Acquire a wants tenure) w s = acquiring_properly (lease_of w.ledger.live n l a) (is_parked w.ledger.parked n l a) (record { node = n; life = l; ask = a; wants = wants; tenure = tenure }) w s
  answering_properly n l (Commit t news) w s = other_properly (committing k (may_commit n l news (lease_under w.ledger.live t)) n l t news w) (committing_other (may_commit n l news (lease_under w.ledger.live t)) n l t news w s)
  answering_properly n l (Release t) w s = other_properly (released k (may_release n l (lease_under w.ledger.live t)) t (lease_under w.ledger.live t) w) (released_other (may_release n l (lease_under w.ledger.live t)) t (lease_under w.ledger.live t) w s)

  module _ (q : Ledger) where
    newer_other : (n : NodeId) (l : Life) → Sends (newer_life k n l (begin_work q))
    unfolding newer_life
    newer_other n l = elim (cases_Bool (list_any (is_older n l) q.live || is_home n q.old_home)) [
      | inl t ↦ rw t (retried_other (sees n l (begin_work q)) (λ m i. absurd i))
      | inr t ↦ rw t (λ m i. absurd i)
    ]

    pub handled_properly : (y : ToCoord) → Properly (handled k y (begin_work q))
    unfolding handled
    handled_properly y = elim (cases_Bool (q.gone y.node.0)) [
      | inl t ↦ rw t (λ n l z i. absurd i)
      | inr here ↦ rw here (elim (cases_Bool (nat_lt y.life.0 (q.lives y.node.0))) [
        | inl t ↦ rw t (λ n l z i. absurd i)
        | inr t ↦ rw t (elim (cases_Bool (nat_lt (q.lives y.node.0) y.life.0)) [
          | inl newer ↦ rw newer (answering_properly y.node y.life y.request (newer_life k y.node y.life (begin_work q)) (newer_other y.node y.life))
          | inr same ↦ rw same (answering_properly y.node y.life y.request (begin_work q) (λ m i. absurd i))
        ])
      ])
    ]

    -- ---- calls

    abbrev pub OnProperly : Result Work CoordRefusal → Type 0
    OnProperly (Ok w) = Properly w
    OnProperly (Err e) = ⊤

    properly_if : (b : Bool) (e : CoordRefusal) (r : Result Work CoordRefusal) → OnProperly r → OnProperly (if b then Err e else r)
    properly_if true e r h = tt
    properly_if false e r h = h

    withdrawing_properly : (o : Option Lease) → OnProperly (withdrawing k o (begin_work q))
    withdrawing_properly None = tt
    withdrawing_properly (Some g) = properly_if g.tenure refusal.Tenure (Ok (notes (note.Withdrawn g.ticket) (retried k (withdraws g (begin_work q))))) (other_properly (retried k (withdraws g (begin_work q))) (retried_other (withdraws g (begin_work q)) (λ m i. absurd i)))

    pub withdrawn_properly : (t : Ticket) → OnProperly (withdrawn k t (begin_work q))
    withdrawn_properly t = withdrawing_properly (lease_under q.live t)

    pub pruned_properly : (s : Slot) → OnProperly (pruned k s (begin_work q))
    pruned_properly s = properly_if (is_leased q s) refusal.SlotLeased _ (properly_if (is_nil (q.line s)) refusal.NoSuchSlot _ (by (nat_lt q.last k.greatest)))
      where
        by : (b : Bool) → OnProperly (if b then Ok (notes (note.Pruned (record { 0 = q.last + 1 })) (prunes k s (begin_work q))) else Err refusal.TicketsSpent)
        by true = λ n l t i. absurd i
        by false = tt

    pub retired_properly : (n : NodeId) → OnProperly (retired k n (begin_work q))
    retired_properly n = properly_if (q.gone n.0) refusal.NodeRetired _ (properly_if (list_any (λ (g : Lease). is_at n g && g.tenure) q.live || is_home n q.old_home) refusal.TenureHeld _ (by (list_any (is_at n) q.live)))
      where
        by : (b : Bool) → Properly (notes (note.Retired n) (if b then retried k (goes n (begin_work q)) else goes n (begin_work q)))
        by true = other_properly (retried k (goes n (begin_work q))) (retried_other (goes n (begin_work q)) (λ m i. absurd i))
        by false = λ n l t i. absurd i

    -- ---- nudges

    record Nudging (w : Work) : Type 0 where
      same : w.ledger ≡ q
      properly : Properly w

    nudges_one : (h : Lease) (w : Work) → In h q.live → Nudging w → Nudging (nudges k h w)
    nudges_one h w i n = by (is_awaited w.ledger.parked h) refl
      where
        g : Grant
        g = grant_of k.empty w.ledger.line h

        again : Properly (says (told.Granted g) w)
        again n' l t j = elim (in_append (told.Recall n' l t) w.sends (told.Granted g ∷ []) j) [ inl z ↦ n.properly n' l t z | inr z ↦ (let bad : told.Recall n' l t ≡ told.Granted g = in_one (told.Recall n' l t) (told.Granted g) z in cc) ]

        by : (b : Bool) → is_awaited w.ledger.parked h ≡ b → Nudging (nudges k h w)
        by false e = rw e (record { same = n.same; properly = again })
        by true e = rw e (record {
          same = n.same;
          properly = λ n' l t j. elim (in_append (told.Recall n' l t) (w.sends ++ told.Granted g ∷ []) (told.Recall h.node h.life h.ticket ∷ []) j) [
            | inl z ↦ again n' l t z
            | inr z ↦ (let is = recall_is n' h.node l h.life t h.ticket (in_one (told.Recall n' l t) (told.Recall h.node h.life h.ticket) z) in
                let b = and_parts h.tenure (list_any (λ (p : Parked). p.tenure && holds_wanted p h) w.ledger.parked) e in
                let r = from_any (λ (p : Parked). p.tenure && holds_wanted p h) w.ledger.parked b.1 in
                let c = and_parts r.0.tenure (holds_wanted r.0 h) r.2 in
                (h, subst (λ (x : Ledger). In h x.live) (sym n.same) i, sym is.0, sym is.1, sym is.2, (r.0, r.1, c.0, c.1)))
          ];
        })

    nudges_all : (hs : List Lease) (w : Work) → ((h : Lease) → In h hs → In h q.live) → Nudging w → Nudging (nudge_all k hs w)
    nudges_all [] w all n = n
    nudges_all (h ∷ hs) w all n = nudges_all hs (nudges k h w) (λ x i. all x (inr i)) (nudges_one h w (all h (inl refl)) n)

    pub nudged_properly : Properly (nudged k (begin_work q))
    nudged_properly = (nudges_all q.live (begin_work q) (λ h i. i) (record { same = refl; properly = λ n l t i. absurd i })).properly

  -- ---- of the machine

  pub recalled_so : (empty : Digest) (pool : List Message) (m : Machine) (w : Work) → Agrees empty pool m w.ledger → Properly w → (n : NodeId) (l : Life) (t : Ticket) → In (told.Recall n l t) w.sends → IsRecalled m n l t
  recalled_so empty pool m w agrees properly n l t i =
      let r = properly n l t i in
      let g = agrees.live_made r.0 r.1 in
      let p : Parked = r.5.0 in
      let want = from_any (λ (x : Want). has_slot r.0.slots (only_slot x.folder)) (leased_wants p.tenure p.wants) r.5.3 in
      let j : In want.0 (leased_wants true p.wants) = subst (λ b. In want.0 (leased_wants b p.wants)) r.5.2 want.1 in
      let f = from_filter wants_shared want.0 p.wants j in (
        g.0,
        g.1,
        ap (λ (z : Lease). z.node) g.2 ∙ r.2,
        ap (λ (z : Lease). z.life) g.2 ∙ r.3,
        ap (λ (z : Lease). z.ticket) g.2 ∙ r.4,
        (p, want.0, subst (In p) agrees.parked r.5.1, r.5.2, f.0, shared_mode want.0.folder.mode f.1, has_lease g.0 (only_slot want.0.folder) (subst (λ (z : Lease). has_slot z.slots (only_slot want.0.folder) ≡ true) (sym g.2) want.2)),
      )
