-- What is sent answers what came, or an ask that was parked.
use Rattle.std.proofs.Common.{◌≡◌, ◌+◌, ◌⊎◌, List, [], ◌∷◌, Bool, true, false, not, ◌&&◌, ◌||◌, eqb, Option, Some, None, Result, Ok, Err, refl, sym, subst, inl, inr}
use Rattle.std.proofs.lemmas.Bool.{cases_Bool}
use Rattle.std.specs.List.{list_any, find}
use Rattle.std.specs.Prelude.{⊤, nat_lt, if◌then◌else◌}
use Rattle.protocol.specs.Lists.{In, is_nil}
use Rattle.protocol.specs.Names.{Slot, NodeId, Life, Ask, Ticket, Want}
use Rattle.protocol.specs.Machine.{News, FromCoord, ToCoord, Parked}
use Rattle.farm_base.specs.declared.message.Request.{Request}
use Rattle.farm_base.specs.declared.message.Request.TheVariants.{Hello, Acquire, Commit, Release}
use Rattle.farm_base.specs.declared.message.FromCoord.TheVariants as told
use Rattle.events.specs.declared.answer.CoordRefusal.{CoordRefusal}
use Rattle.events.specs.declared.answer.CoordRefusal.TheVariants as refusal
use Rattle.events.specs.declared.answer.CoordNote.{CoordNote}
use Rattle.events.specs.declared.answer.CoordNote.TheVariants as note
use Rattle.protocol.specs.Ledger.{Limits, Ledger, Lease, Work, begin_work, says, notes, is_leased, Decision, Give, Deny, Wait, elsewhere, decision, lease_for, gives, carried_out, tried, try_all, parks, retried, holds_wanted, recall, recalls, decided, acquiring, is_of, lease_of, is_parked, ends, lease_under, may_commit, on_all, confirms, commits, versions_of, committing, may_release, released, answering, is_older, is_older_ask, sees, is_home, newer_life, handled, withdraws, withdrawing, withdrawn, is_at, goes, retired, prunes, pruned, is_awaited, nudges, nudge_all, nudged, grant_of}
use Rattle.protocol.specs.Ledger as ledger
use Rattle.protocol.proofs.Base.{in_append, in_one, from_filter}
use Rattle.protocol.proofs.Leases.{find_some}
use Rattle.protocol.proofs.Trying.{waiting_in}
use Rattle.protocol.proofs.Wanting.{names_are}

-- no other message than a Grant or a Recall
abbrev IsNudge : FromCoord → Type 0
IsNudge (told.Granted g) = ⊤
IsNudge (told.Committed n l t versions) = ⊥
IsNudge (told.Fenced n l t) = ⊥
IsNudge (told.Denied n l a why) = ⊥
IsNudge (told.Recall n l t) = ⊤

-- `Due` of an ask that may be answered, `Came` of a Commit that came
module _ (k : Limits) (q : Ledger) (Due : NodeId → Life → Ask → Type 0) (Came : NodeId → Life → Ticket → Type 0) (parked : (p : Parked) → In p q.parked → Due p.node p.life p.ask) where
  -- what is sent with this note
  abbrev pub Reply : CoordNote → FromCoord → Type 0
  Reply c (told.Granted g) = Due g.node g.life g.ask ⊎ (c ≡ note.Nudged)
  Reply c (told.Committed n l t versions) = Came n l t × ((c ≡ note.Committed t) ⊎ (c ≡ note.CommittedBefore t))
  Reply c (told.Fenced n l t) = Came n l t × (c ≡ note.Fenced t)
  Reply c (told.Denied n l a why) = Due n l a
  Reply c (told.Recall n l t) = ⊤

  abbrev pub Replying : Work → Type 0
  Replying w = (m : FromCoord) → In m w.sends → Reply w.note m

  -- no confirmation and no fence
  abbrev IsCalm : FromCoord → Type 0
  IsCalm (told.Granted g) = Due g.node g.life g.ask
  IsCalm (told.Committed n l t versions) = ⊥
  IsCalm (told.Fenced n l t) = ⊥
  IsCalm (told.Denied n l a why) = Due n l a
  IsCalm (told.Recall n l t) = ⊤

  calm_reply : (c : CoordNote) (m : FromCoord) → IsCalm m → Reply c m
  calm_reply c (told.Granted g) h = inl h
  calm_reply c (told.Committed n l t versions) h = absurd h
  calm_reply c (told.Fenced n l t) h = absurd h
  calm_reply c (told.Denied n l a why) h = h
  calm_reply c (told.Recall n l t) h = h

  abbrev Calm : Work → Type 0
  Calm w = (m : FromCoord) → In m w.sends → IsCalm m

  calm_replying : (w : Work) → Calm w → Replying w
  calm_replying w calm m i = calm_reply w.note m (calm m i)

  -- what is more is calm
  abbrev From : Work → Work → Type 0
  From w v = (m : FromCoord) → In m v.sends → In m w.sends ⊎ IsCalm m

  from_trans : (w v z : Work) → From w v → From v z → From w z
  from_trans w v z f g m i = elim (g m i) [ inl j ↦ f m j | inr c ↦ inr c ]

  from_calm : (w v : Work) → From w v → Calm w → Calm v
  from_calm w v f calm m i = elim (f m i) [ inl j ↦ calm m j | inr c ↦ c ]

  says_from : (y : FromCoord) (w : Work) → IsCalm y → From w (says y w)
  says_from y w is m i = elim (in_append m w.sends (y ∷ []) i) [ inl j ↦ inl j | inr j ↦ inr (subst IsCalm (sym (in_one m y j)) is) ]

  carried_from : (d : Decision) (p : Parked) (w : Work) → Due p.node p.life p.ask → From w (carried_out k d p w)
  unfolding gives
  carried_from Give p w due = says_from (told.Granted (grant_of k.empty w.ledger.line (lease_for k w.ledger p))) w due
  carried_from (Deny why) p w due = says_from (told.Denied p.node p.life p.ask why) w due
  carried_from Wait p w due = λ m i. inl i

  try_from : (ps : List Parked) (w : Work) → ((p : Parked) → In p ps → In p q.parked) → From w (try_all k ps w)
  unfolding tried
  try_from [] w all = λ m i. inl i
  try_from (p ∷ ps) w all = from_trans w (tried k p w) (try_all k ps (tried k p w)) (carried_from (decision k w.ledger p) p w (parked p (all p (inl refl)))) (try_from ps (tried k p w) (λ r i. all r (inr i)))

  -- all that are parked were parked before
  abbrev Was : Work → Type 0
  Was w = (p : Parked) → In p w.ledger.parked → In p q.parked

  retried_from : (w : Work) → Was w → From w (retried k w)
  unfolding retried
  retried_from w was = try_from w.ledger.parked w was

  -- ---- messages

  recall_from : (o : Option Lease) (w : Work) → From w (recall o w)
  recall_from None w = λ m i. inl i
  recall_from (Some g) w = says_from (told.Recall g.node g.life g.ticket) w tt

  recalls_from : (b : Bool) (p : Parked) (w : Work) → From w (recalls b p w)
  recalls_from true p w = recall_from (find (holds_wanted p) w.ledger.live) w
  recalls_from false p w = λ m i. inl i

  decided_from : (d : Decision) (p : Parked) (w : Work) → Due p.node p.life p.ask → From w (decided k d p w)
  unfolding gives
  decided_from Give p w due = says_from (told.Granted (grant_of k.empty w.ledger.line (lease_for k w.ledger p))) w due
  decided_from (Deny why) p w due = says_from (told.Denied p.node p.life p.ask why) w due
  decided_from Wait p w due = recalls_from (p.tenure && not (elsewhere w.ledger p)) p w

  acquiring_from : (o : Option Lease) (b : Bool) (p : Parked) (w : Work) → lease_of w.ledger.live p.node p.life p.ask ≡ o → Due p.node p.life p.ask → From w (acquiring k o b p w)
  acquiring_from (Some g) b p w e due =
      let names = names_are g.node p.node g.life p.life g.ask p.ask (find_some (is_of p.node p.life p.ask) w.ledger.live g e).1 in
      says_from (told.Granted (grant_of k.empty w.ledger.line g)) w (subst (λ (n : NodeId). Due n g.life g.ask) (sym names.0) (subst (λ (l : Life). Due p.node l g.ask) (sym names.1) (subst (λ (a : Ask). Due p.node p.life a) (sym names.2) due)))
  acquiring_from None true p w e due = λ m i. inl i
  acquiring_from None false p w e due = decided_from (decision k w.ledger p) p w due

  -- one more is sent, and that is noted
  answers_replying : (y : FromCoord) (c : CoordNote) (w : Work) → Reply c y → Calm w → Replying (notes c (says y w))
  answers_replying y c w is calm m i = elim (in_append m w.sends (y ∷ []) i) [ inl j ↦ calm_reply c m (calm m j) | inr j ↦ subst (Reply c) (sym (in_one m y j)) is ]

  answered_replying : (b : Bool) (n : NodeId) (l : Life) (t : Ticket) (news : List News) (w : Work) → Came n l t → Calm w → Replying (ledger.answered b n l t news w)
  answered_replying true n l t news w came calm = answers_replying (told.Committed n l t (versions_of w.ledger.line t news)) (note.CommittedBefore t) w (came, inr refl) calm
  answered_replying false n l t news w came calm = answers_replying (told.Fenced n l t) (note.Fenced t) w (came, refl) calm

  committing_replying : (b : Bool) (n : NodeId) (l : Life) (t : Ticket) (news : List News) (w : Work) → Came n l t → Was w → Calm w → Replying (committing k b n l t news w)
  committing_replying true n l t news w came was calm m i =
      let v : Work = confirms n l t news (commits t news w) in
      elim (retried_from v was m i) [
        | inl j ↦ answers_replying (told.Committed n l t (versions_of (commits t news w).ledger.line t news)) (note.Committed t) (commits t news w) (came, inl refl) calm m j
        | inr c ↦ calm_reply (note.Committed t) m c
      ]
  committing_replying false n l t news w came was calm m i = answered_replying (not (is_nil news) && on_all w.ledger.line t news) n l t news w came calm m i

  released_calm : (b : Bool) (t : Ticket) (o : Option Lease) (w : Work) → Was w → Calm w → Calm (released k b t o w)
  released_calm b t None w was calm = calm
  released_calm false t (Some g) w was calm = calm
  released_calm true t (Some g) w was calm = from_calm (ends g w) (retried k (ends g w)) (retried_from (ends g w) was) calm

  answering_replying : (n : NodeId) (l : Life) (r : Request) (w : Work) → ((a : Ask) (wants : List Want) (tenure : Bool) → r ≡ Acquire a wants tenure → Due n l a) → ((t : Ticket) (news : List News) → r ≡ Commit t news → Came n l t) → Was w → Calm w → Replying (answering k n l r w)
  answering_replying n l Hello w due came was calm = calm_replying w calm
  answering_replying n l (Acquire a wants tenure) w due came was calm =
      let p : Parked = record { node = n; life = l; ask = a; wants = wants; tenure = tenure } in
      let v : Work = acquiring k (lease_of w.ledger.live n l a) (is_parked w.ledger.parked n l a) p w in
      calm_replying v (from_calm w v (acquiring_from (lease_of w.ledger.live n l a) (is_parked w.ledger.parked n l a) p w refl (due a wants tenure refl)) calm)
  answering_replying n l (Commit t news) w due came was calm = committing_replying (may_commit n l news (lease_under w.ledger.live t)) n l t news w (came t news refl) was calm
  answering_replying n l (Release t) w due came was calm =
      let v : Work = released k (may_release n l (lease_under w.ledger.live t)) t (lease_under w.ledger.live t) w in
      calm_replying v (released_calm (may_release n l (lease_under w.ledger.live t)) t (lease_under w.ledger.live t) w was calm)

  retried-was : (w : Work) → Was w → Was (retried k w)
  unfolding retried
  retried-was w was p i = was p (waiting_in k w.ledger.parked w p i)

  seen_was : (n : NodeId) (l : Life) → Was (sees n l (begin_work q))
  seen_was n l p i = (from_filter (λ (r : Parked). not (is_older_ask n l r)) p q.parked i).0

  newer_calm : (n : NodeId) (l : Life) → Was (newer_life k n l (begin_work q)) × Calm (newer_life k n l (begin_work q))
  unfolding newer_life
  newer_calm n l = elim (cases_Bool (list_any (is_older n l) q.live || is_home n q.old_home)) [
    | inl t ↦ rw t (retried-was (sees n l (begin_work q)) (seen_was n l), from_calm (sees n l (begin_work q)) (retried k (sees n l (begin_work q))) (retried_from (sees n l (begin_work q)) (seen_was n l)) (λ m i. absurd i))
    | inr t ↦ rw t (seen_was n l, λ m i. absurd i)
  ]

  pub handled_replying : (y : ToCoord) → ((a : Ask) (wants : List Want) (tenure : Bool) → y.request ≡ Acquire a wants tenure → Due y.node y.life a) → ((t : Ticket) (news : List News) → y.request ≡ Commit t news → Came y.node y.life t) → Replying (handled k y (begin_work q))
  unfolding handled
  handled_replying y due came = elim (cases_Bool (q.gone y.node.0)) [
    | inl t ↦ rw t (λ m i. absurd i)
    | inr here ↦ rw here (elim (cases_Bool (nat_lt y.life.0 (q.lives y.node.0))) [
      | inl t ↦ rw t (λ m i. absurd i)
      | inr t ↦ rw t (elim (cases_Bool (nat_lt (q.lives y.node.0) y.life.0)) [
        | inl newer ↦ rw newer (let n = newer_calm y.node y.life in answering_replying y.node y.life y.request (newer_life k y.node y.life (begin_work q)) due came n.0 n.1)
        | inr same ↦ rw same (answering_replying y.node y.life y.request (begin_work q) due came (λ p i. i) (λ m i. absurd i))
      ])
    ])
  ]

  -- ---- calls

  abbrev pub OnReplying : Result Work CoordRefusal → Type 0
  OnReplying (Ok w) = Replying w
  OnReplying (Err e) = ⊤

  replying_if : (b : Bool) (e : CoordRefusal) (r : Result Work CoordRefusal) → OnReplying r → OnReplying (if b then Err e else r)
  replying_if true e r h = tt
  replying_if false e r h = h

  -- a retry of what sent nothing
  retried_replying : (c : CoordNote) (w : Work) → Was w → Calm w → Replying (notes c (retried k w))
  retried_replying c w was calm m i = calm_reply c m (from_calm w (retried k w) (retried_from w was) calm m i)

  withdrawing_replying : (o : Option Lease) → OnReplying (withdrawing k o (begin_work q))
  withdrawing_replying None = tt
  withdrawing_replying (Some g) = replying_if g.tenure refusal.Tenure (Ok (notes (note.Withdrawn g.ticket) (retried k (withdraws g (begin_work q))))) (retried_replying (note.Withdrawn g.ticket) (withdraws g (begin_work q)) (λ p i. i) (λ m i. absurd i))

  pub withdrawn_replying : (t : Ticket) → OnReplying (withdrawn k t (begin_work q))
  withdrawn_replying t = withdrawing_replying (lease_under q.live t)

  pub pruned_replying : (s : Slot) → OnReplying (pruned k s (begin_work q))
  pruned_replying s = replying_if (is_leased q s) refusal.SlotLeased _ (replying_if (is_nil (q.line s)) refusal.NoSuchSlot _ (by (nat_lt q.last k.greatest)))
    where
      by : (b : Bool) → OnReplying (if b then Ok (notes (note.Pruned (record { 0 = q.last + 1 })) (prunes k s (begin_work q))) else Err refusal.TicketsSpent)
      by true = λ m i. absurd i
      by false = tt

  pub retired_replying : (n : NodeId) → OnReplying (retired k n (begin_work q))
  retired_replying n = replying_if (q.gone n.0) refusal.NodeRetired _ (replying_if (list_any (λ (g : Lease). is_at n g && g.tenure) q.live || is_home n q.old_home) refusal.TenureHeld _ (by (list_any (is_at n) q.live)))
    where
      by : (b : Bool) → Replying (notes (note.Retired n) (if b then retried k (goes n (begin_work q)) else goes n (begin_work q)))
      by true = retried_replying (note.Retired n) (goes n (begin_work q)) (λ p i. (from_filter (λ (r : Parked). not (eqb r.node.0 n.0)) p q.parked i).0) (λ m i. absurd i)
      by false = λ m i. absurd i

  -- ---- nudges

  abbrev Nudges : Work → Type 0
  Nudges w = (m : FromCoord) → In m w.sends → IsNudge m

  says_nudges : (y : FromCoord) (w : Work) → IsNudge y → Nudges w → Nudges (says y w)
  says_nudges y w is s m i = elim (in_append m w.sends (y ∷ []) i) [ inl j ↦ s m j | inr j ↦ subst IsNudge (sym (in_one m y j)) is ]

  nudges_one : (h : Lease) (w : Work) → Nudges w → Nudges (nudges k h w)
  nudges_one h w s = by (is_awaited w.ledger.parked h) refl
    where
      again : Nudges (says (told.Granted (grant_of k.empty w.ledger.line h)) w)
      again = says_nudges (told.Granted (grant_of k.empty w.ledger.line h)) w tt s

      by : (b : Bool) → is_awaited w.ledger.parked h ≡ b → Nudges (nudges k h w)
      by false e = rw e again
      by true e = rw e (says_nudges (told.Recall h.node h.life h.ticket) (says (told.Granted (grant_of k.empty w.ledger.line h)) w) tt again)

  nudges_all : (hs : List Lease) (w : Work) → Nudges w → Nudges (nudge_all k hs w)
  nudges_all [] w s = s
  nudges_all (h ∷ hs) w s = nudges_all hs (nudges k h w) (nudges_one h w s)

  nudge_reply : (m : FromCoord) → IsNudge m → Reply note.Nudged m
  nudge_reply (told.Granted g) h = inr refl
  nudge_reply (told.Committed n l t versions) h = absurd h
  nudge_reply (told.Fenced n l t) h = absurd h
  nudge_reply (told.Denied n l a why) h = absurd h
  nudge_reply (told.Recall n l t) h = h

  pub nudged_replying : Replying (nudged k (begin_work q))
  nudged_replying m i = nudge_reply m (nudges_all q.live (begin_work q) (λ x j. absurd j) m i)
