-- Where the record is not said to have changed, it has not.
use Rattle.std.proofs.Common.{◌≡◌, ◌+◌, ◌≤◌, List, [], ◌∷◌, ◌++◌, Bool, true, false, not, ◌&&◌, ◌||◌, eqb, filter, Option, Some, None, Result, Ok, Err, refl, sym, ◌∙◌, ap, subst, inl, inr, arith}
use Rattle.std.proofs.lemmas.Bool.{cases_Bool, or_parts, eqb-true}
use Rattle.std.specs.List.{list_any, find}
use Rattle.std.specs.Prelude.{⊤, nat_lt, if◌then◌else◌}
use Rattle.protocol.specs.Lists.{In, is_nil}
use Rattle.protocol.specs.Names.{Slot, slot_eq, is_private, NodeId, Life, Ticket}
use Rattle.protocol.specs.Machine.{ToCoord, Parked, News}
use Rattle.farm_base.specs.declared.message.Request.{Request}
use Rattle.farm_base.specs.declared.message.Request.TheVariants.{Hello, Acquire, Commit, Release}
use Rattle.events.specs.declared.answer.CoordRefusal.{CoordRefusal}
use Rattle.events.specs.declared.answer.CoordRefusal.TheVariants as coord
use Rattle.events.specs.declared.answer.CoordNote.TheVariants as note
use Rattle.protocol.specs.Ledger.{Limits, Ledger, Lease, Saved, saves, Work, begin_work, notes, has_slot, is_saved, is_leased, Decision, Give, Deny, Wait, elsewhere, decision, lease_for, raised, gives, carried_out, tried, try_all, retried, holds_wanted, recall, recalls, decided, acquiring, lease_of, is_parked, has_ticket, without, ends, lease_under, may_commit, on_all, committing, confirms, commits, may_release, released, answering, is_older, sees, is_home, newer_life, handled, retires, withdraws, withdrawing, withdrawn, is_at, goes, retired, prunes, pruned, is_awaited, nudges, nudge_all, nudged}
use Rattle.protocol.specs.Ledger as ledger
use Rattle.protocol.proofs.Base.{true_false, in_append, in_one, from_any, any_none, from_filter, slot_eq_is}
use Rattle.protocol.proofs.Leases.{find_some}

-- leases have tickets of their own, none above the last
pub record Apart (q : Ledger) : Type 0 where
  pub unique : (x y : Lease) → In x q.live → In y q.live → x.ticket.0 ≡ y.ticket.0 → x ≡ y
  pub top : (x : Lease) → In x q.live → x.ticket.0 ≤ q.last

no_case : {P : Type 0} → true ≡ false → P
no_case e = cc

unsaved_push : (live : List Lease) (g : Lease) → is_saved g ≡ false → filter is_saved (live ++ g ∷ []) ≡ filter is_saved live
unsaved_push [] g e = rw e refl
unsaved_push (x ∷ xs) g e = (let rest = unsaved_push xs g e in elim (cases_Bool (is_saved x)) [ inl t ↦ rw (t, rest) refl | inr t ↦ rw (t, rest) refl ])

unsaved_go : (test : Lease → Bool) (live : List Lease) → ((x : Lease) → In x live → test x ≡ true → is_saved x ≡ false) → filter is_saved (filter (λ x. not (test x)) live) ≡ filter is_saved live
unsaved_go test [] h = refl
unsaved_go test (x ∷ xs) h =
    let rest = unsaved_go test xs (λ y i. h y (inr i)) in
    elim (cases_Bool (test x)) [
      | inl t ↦ (let off : is_saved x ≡ false = h x (inl refl) t in rw (t, off) rest)
      | inr t ↦ elim (cases_Bool (is_saved x)) [ inl s ↦ rw (t, s, rest) refl | inr s ↦ rw (t, s, rest) refl ]
    ]

pub saved_twice : (live : List Lease) → filter is_saved (filter is_saved live) ≡ filter is_saved live
saved_twice [] = refl
saved_twice (x ∷ xs) = (let rest = saved_twice xs in elim (cases_Bool (is_saved x)) [ inl t ↦ rw (t, t, rest) refl | inr t ↦ rw (t, rest) refl ])

module _ (k : Limits) (q : Ledger) where
  -- the work has changed nothing of the record, or says so
  abbrev S : Work → Type 0
  S w = w.changed ≡ false → saves w.ledger ≡ saves q

  gives_saves : (p : Parked) (w : Work) → S w → S (gives k p w)
  unfolding gives
  gives_saves p w s c =
      let a = or_parts (w.changed || eqb w.ledger.last w.ledger.ceiling) (is_saved (lease_for k w.ledger p)) c in
      let b = or_parts w.changed (eqb w.ledger.last w.ledger.ceiling) a.0 in
      let same : raised k w.ledger ≡ w.ledger.ceiling = rw b.1 refl in
      ap (λ l. record (saves w.ledger) { live = l; ceiling = raised k w.ledger }) (unsaved_push w.ledger.live (lease_for k w.ledger p) a.1) ∙ ap (λ c. record (saves w.ledger) { ceiling = c }) same ∙ s b.0

  carried_saves : (d : Decision) (p : Parked) (w : Work) → S w → S (carried_out k d p w)
  carried_saves Give p w s = gives_saves p w s
  carried_saves (Deny why) p w s = s
  carried_saves Wait p w s = s

  tried_saves : (p : Parked) (w : Work) → S w → S (tried k p w)
  unfolding tried
  tried_saves p w s = carried_saves (decision k w.ledger p) p w s

  try_saves : (ps : List Parked) (w : Work) → S w → S (try_all k ps w)
  try_saves [] w s = s
  try_saves (p ∷ ps) w s = try_saves ps (tried k p w) (tried_saves p w s)

  retried_saves : (w : Work) → S w → S (retried k w)
  unfolding retried
  retried_saves w s c = try_saves w.ledger.parked w s c

  -- ---- tickets of their own

  gives_apart : (p : Parked) (w : Work) → Apart w.ledger → Apart (gives k p w).ledger
  unfolding gives
  gives_apart p w a =
      let h : Lease = lease_for k w.ledger p in
      record {
        unique = λ x y i j e. elim (in_append x w.ledger.live (h ∷ []) i) [
          | inl i' ↦ elim (in_append y w.ledger.live (h ∷ []) j) [
            | inl j' ↦ a.unique x y i' j' e
            | inr j' ↦ (let le : x.ticket.0 ≤ w.ledger.last = a.top x i' in let at : y.ticket.0 ≡ w.ledger.last + 1 = ap (λ (z : Lease). z.ticket.0) (in_one y h j') in absurd (omega arith))
          ]
          | inr i' ↦ elim (in_append y w.ledger.live (h ∷ []) j) [
            | inl j' ↦ (let le : y.ticket.0 ≤ w.ledger.last = a.top y j' in let at : x.ticket.0 ≡ w.ledger.last + 1 = ap (λ (z : Lease). z.ticket.0) (in_one x h i') in absurd (omega arith))
            | inr j' ↦ in_one x h i' ∙ sym (in_one y h j')
          ]
        ];
        top = λ x i. elim (in_append x w.ledger.live (h ∷ []) i) [
          | inl j ↦ (let le : x.ticket.0 ≤ w.ledger.last = a.top x j in omega arith)
          | inr j ↦ (let at : x.ticket.0 ≡ w.ledger.last + 1 = ap (λ (z : Lease). z.ticket.0) (in_one x h j) in omega arith)
        ];
      }

  carried_apart : (d : Decision) (p : Parked) (w : Work) → Apart w.ledger → Apart (carried_out k d p w).ledger
  carried_apart Give p w a = gives_apart p w a
  carried_apart (Deny why) p w a = a
  carried_apart Wait p w a = a

  try_apart : (ps : List Parked) (w : Work) → Apart w.ledger → Apart (try_all k ps w).ledger
  unfolding tried
  try_apart [] w a = a
  try_apart (p ∷ ps) w a = try_apart ps (tried k p w) (carried_apart (decision k w.ledger p) p w a)

  retried_apart : (w : Work) → Apart w.ledger → Apart (retried k w).ledger
  unfolding retried
  retried_apart w a = (let b = try_apart w.ledger.parked w a in record { unique = b.unique; top = b.top })

  sees_apart : (n : NodeId) (l : Life) (w : Work) → Apart w.ledger → Apart (sees n l w).ledger
  sees_apart n l w a = record {
    unique = λ x y i j e. a.unique x y (from_filter (λ (g : Lease). not (is_older n l g)) x w.ledger.live i).0 (from_filter (λ (g : Lease). not (is_older n l g)) y w.ledger.live j).0 e;
    top = λ x i. a.top x (from_filter (λ (g : Lease). not (is_older n l g)) x w.ledger.live i).0;
  }

  -- ---- messages

  recalls_saves : (b : Bool) (p : Parked) (w : Work) → S w → S (recalls b p w)
  recalls_saves false p w s = s
  recalls_saves true p w s = by (find (holds_wanted p) w.ledger.live)
    where
      by : (o : Option Lease) → S (recall o w)
      by None = s
      by (Some g) = s

  decided_saves : (d : Decision) (p : Parked) (w : Work) → S w → S (decided k d p w)
  decided_saves Give p w s = gives_saves p w s
  decided_saves (Deny why) p w s = s
  decided_saves Wait p w s = recalls_saves (p.tenure && not (elsewhere w.ledger p)) p w s

  acquiring_saves : (o : Option Lease) (b : Bool) (p : Parked) (w : Work) → S w → S (acquiring k o b p w)
  acquiring_saves (Some g) b p w s = s
  acquiring_saves None true p w s = s
  acquiring_saves None false p w s = decided_saves (decision k w.ledger p) p w s

  committing_saves : (b : Bool) (n : NodeId) (l : Life) (t : Ticket) (news : List News) (w : Work) → S w → S (committing k b n l t news w)
  committing_saves true n l t news w s = retried_saves (confirms n l t news (commits t news w)) (λ c. no_case c)
  committing_saves false n l t news w s = by (not (is_nil news) && on_all w.ledger.line t news)
    where
      by : (b : Bool) → S (ledger.answered b n l t news w)
      by true = s
      by false = s

  -- only the lease itself has its ticket
  itself : (g : Lease) (w : Work) → Apart w.ledger → In g w.ledger.live → is_saved g ≡ false → (x : Lease) → In x w.ledger.live → has_ticket g.ticket x ≡ true → is_saved x ≡ false
  itself g w a i off x j t = subst (λ z. is_saved z ≡ false) (sym (a.unique x g j i (eqb-true x.ticket.0 g.ticket.0 t))) off

  ends_saves : (g : Lease) (w : Work) → Apart w.ledger → In g w.ledger.live → S w → S (ends g w)
  ends_saves g w a i s c =
      let b = or_parts w.changed (is_saved g) c in
      ap (λ l. record (saves w.ledger) { live = l }) (unsaved_go (has_ticket g.ticket) w.ledger.live (itself g w a i b.1)) ∙ s b.0

  released_saves : (b : Bool) (t : Ticket) (o : Option Lease) (w : Work) → Apart w.ledger → lease_under w.ledger.live t ≡ o → S w → S (released k b t o w)
  released_saves b t None w a e s = s
  released_saves false t (Some g) w a e s = s
  released_saves true t (Some g) w a e s = retried_saves (ends g w) (ends_saves g w a (find_some (has_ticket t) w.ledger.live g e).0 s)

  answering_saves : (n : NodeId) (l : Life) (r : Request) (w : Work) → Apart w.ledger → S w → S (answering k n l r w)
  answering_saves n l Hello w a s = s
  answering_saves n l (Acquire b wants tenure) w a s = acquiring_saves (lease_of w.ledger.live n l b) (is_parked w.ledger.parked n l b) (record { node = n; life = l; ask = b; wants = wants; tenure = tenure }) w s
  answering_saves n l (Commit t news) w a s = committing_saves (may_commit n l news (lease_under w.ledger.live t)) n l t news w s
  answering_saves n l (Release t) w a s = released_saves (may_release n l (lease_under w.ledger.live t)) t (lease_under w.ledger.live t) w a refl s

  pub newer_saves : (n : NodeId) (l : Life) (w : Work) → Apart w.ledger → S (newer_life k n l w) × Apart (newer_life k n l w).ledger
  unfolding newer_life
  newer_saves n l w a = elim (cases_Bool (list_any (is_older n l) w.ledger.live || is_home n w.ledger.old_home)) [
    | inl t ↦ rw t (retried_saves (sees n l w) (λ c. no_case c), retried_apart (sees n l w) (sees_apart n l w a))
    | inr t ↦ rw t ((λ c. no_case c), sees_apart n l w a)
  ]

  handled_by : (y : ToCoord) (w : Work) → Apart w.ledger → S w → S (handled k y w)
  unfolding handled
  handled_by y w a s = elim (cases_Bool (w.ledger.gone y.node.0)) [
    | inl t ↦ rw t s
    | inr here ↦ rw here (elim (cases_Bool (nat_lt y.life.0 (w.ledger.lives y.node.0))) [
      | inl t ↦ rw t s
      | inr t ↦ rw t (elim (cases_Bool (nat_lt (w.ledger.lives y.node.0) y.life.0)) [
        | inl newer ↦ rw newer (let v = newer_saves y.node y.life w a in answering_saves y.node y.life y.request (newer_life k y.node y.life w) v.1 v.0)
        | inr same ↦ rw same (answering_saves y.node y.life y.request w a s)
      ])
    ])
  ]

  pub handled_saves : (y : ToCoord) → Apart q → S (handled k y (begin_work q))
  handled_saves y a = handled_by y (begin_work q) a (λ c. refl)

  -- ---- calls

  abbrev pub SavesOk : Result Work CoordRefusal → Type 0
  SavesOk (Ok w) = S w
  SavesOk (Err e) = ⊤

  if_saves : (b : Bool) (e : CoordRefusal) (r : Result Work CoordRefusal) → SavesOk r → SavesOk (if b then Err e else r)
  if_saves true e r h = tt
  if_saves false e r h = h

  no_private : (g : Lease) (s : Slot) → is_saved g ≡ false → (is_private s.folder.mode && has_slot g.slots s) ≡ false
  no_private g s off = elim (cases_Bool (is_private s.folder.mode)) [
    | inr f ↦ rw f refl
    | inl p ↦ elim (cases_Bool (has_slot g.slots s)) [
      | inr f ↦ rw (p, f) refl
      | inl h ↦ (let r = from_any (λ (x : Slot × Bool). slot_eq x.0 s) g.slots h in
          let none = any_none (λ (x : Slot × Bool). is_private x.0.folder.mode) r.0 g.slots (or_parts g.tenure (list_any (λ (x : Slot × Bool). is_private x.0.folder.mode) g.slots) off).1 r.1 in
          true_false (is_private s.folder.mode) p (subst (λ (z : Slot). is_private z.folder.mode ≡ false) (slot_eq_is r.0.0 s r.2) none))
    ]
  ]

  withdraws_saves : (g : Lease) → Apart q → In g q.live → S (withdraws g (begin_work q))
  withdraws_saves g a i c =
      let gone : (s : Slot) → retires g q.retired s ≡ q.retired s = λ s. (let none = no_private g s c in rw none refl) in
      ap (λ l. record (saves q) { live = l; retired = retires g q.retired }) (unsaved_go (has_ticket g.ticket) q.live (itself g (begin_work q) a i c)) ∙ (λ i. record (saves q) { retired = λ s. gone s i })

  withdrawing_saves : (o : Option Lease) (t : Ticket) → Apart q → lease_under q.live t ≡ o → SavesOk (withdrawing k o (begin_work q))
  withdrawing_saves None t a e = tt
  withdrawing_saves (Some g) t a e = if_saves g.tenure coord.Tenure (Ok (notes (note.Withdrawn g.ticket) (retried k (withdraws g (begin_work q))))) (retried_saves (withdraws g (begin_work q)) (withdraws_saves g a (find_some (has_ticket t) q.live g e).0))

  pub withdrawn_saves : (t : Ticket) → Apart q → SavesOk (withdrawn k t (begin_work q))
  withdrawn_saves t a = withdrawing_saves (lease_under q.live t) t a refl

  pub retired_saves : (n : NodeId) → SavesOk (retired k n (begin_work q))
  retired_saves n = if_saves (q.gone n.0) coord.NodeRetired _ (if_saves (list_any (λ (g : Lease). is_at n g && g.tenure) q.live || is_home n q.old_home) coord.TenureHeld _ (by (list_any (is_at n) q.live)))
    where
      by : (b : Bool) → S (if b then retried k (goes n (begin_work q)) else goes n (begin_work q))
      by true = retried_saves (goes n (begin_work q)) (λ c. no_case c)
      by false = λ c. no_case c

  pub pruned_saves : (s : Slot) → SavesOk (pruned k s (begin_work q))
  pruned_saves s = if_saves (is_leased q s) coord.SlotLeased _ (if_saves (is_nil (q.line s)) coord.NoSuchSlot _ (by (nat_lt q.last k.greatest)))
    where
      by : (b : Bool) → SavesOk (if b then Ok (notes (note.Pruned (record { 0 = q.last + 1 })) (prunes k s (begin_work q))) else Err coord.TicketsSpent)
      by true = λ c. no_case c
      by false = tt

  nudges_saves : (gs : List Lease) (w : Work) → S w → S (nudge_all k gs w)
  nudges_saves [] w s = s
  nudges_saves (g ∷ gs) w s = nudges_saves gs (nudges k g w) (elim (cases_Bool (is_awaited w.ledger.parked g)) [ inl t ↦ rw t s | inr t ↦ rw t s ])

  pub nudged_saves : S (nudged k (begin_work q))
  nudged_saves = nudges_saves q.live (begin_work q) (λ c. refl)
