-- Each ask that is denied has its reason, and is then neither leased nor parked.
use Rattle.std.proofs.Common.{◌≡◌, ℕ, ◌+◌, ◌<◌, ◌≤◌, ◌⊎◌, List, [], ◌∷◌, ◌++◌, Bool, true, false, not, ◌&&◌, ◌||◌, eqb, filter, Option, Some, None, Result, Ok, Err, refl, sym, ◌∙◌, ap, subst, inl, inr, arith}
use Rattle.std.proofs.lemmas.Bool.{cases_Bool, and_parts, not-true, eqb-true}
use Rattle.std.proofs.lemmas.Bool.Decides.{nat_tests}
use Rattle.std.specs.List.{list_any, find}
use Rattle.std.specs.Prelude.{⊤, nat_lt, if◌then◌else◌}
use Rattle.protocol.specs.Lists.{In, is_nil}
use Rattle.protocol.specs.Names.{Private, Slot, slots_eq, is_private, leased_wants, NodeId, Life, Ask, Ticket, Digest, Want}
use Rattle.protocol.specs.Machine.{Grant, News, slots_of, Confirmed, Message, Said, FromCoord, ToCoord, Parked, Machine, acquire}
use Rattle.farm_base.specs.declared.message.Request.{Request}
use Rattle.farm_base.specs.declared.message.Request.TheVariants.{Hello, Acquire, Commit, Release}
use Rattle.farm_base.specs.declared.message.FromCoord.TheVariants as told
use Rattle.farm_base.specs.declared.message.Why.{Why}
use Rattle.farm_base.specs.declared.message.Why.TheVariants as why
use Rattle.events.specs.declared.answer.CoordRefusal.{CoordRefusal}
use Rattle.events.specs.declared.answer.CoordRefusal.TheVariants as refusal
use Rattle.events.specs.declared.answer.CoordNote.TheVariants as note
use Rattle.protocol.specs.Ledger.{Limits, Ledger, Lease, Work, begin_work, says, notes, is_free, lowest, all_taken, busy, is_leased, pick, Decision, Give, Deny, Wait, elsewhere, decision, lease_for, grant_of, gives, denies, carried_out, waits, tried, stays, try_all, waiting, parks, retried, is_of, lease_of, is_parked, recall, recalls, holds_wanted, decided, acquiring, ends, commits, versions_of, lease_under, has_ticket, is_its, writable_slots, may_commit, may_release, on_all, confirms, committing, released, answering, is_older, is_older_ask, sees, is_home, newer_life, handled, withdraws, withdrawing, withdrawn, is_at, goes, retired, prunes, pruned, is_awaited, nudges, nudge_all, nudged}
use Rattle.protocol.specs.Ledger as ledger
use Rattle.protocol.specs.Follows.{lease_from, NoLease, Waits, Agrees}
use Rattle.protocol.specs.Meaning.{instance_of, IsDenied, DeniedBecause}
use Rattle.protocol.proofs.Base.{true_false, in_append, in_one, from_any, any_none, from_filter, names_same, ge_from}
use Rattle.protocol.proofs.Leases.{core_of, find_none, find_some, flip_false, parked_part, waits_less, waits_filter}
use Rattle.protocol.proofs.Trying.{tried_waits, tried-gone, try-gone, waiting_in, waiting_waits}
use Rattle.protocol.proofs.Parking.{Fewer, fewer_refl, still_free, gives_fewer, recalls-ledger}
use Rattle.protocol.proofs.Wanting.{leased_from, none_free, private_mode, taken_is}

-- each of these asks was sent, by a node that isn't retired
abbrev AllSent : List Message → (ℕ → Bool) → List Parked → Type 0
AllSent pool gone ps = (p : Parked) → In p ps → In (acquire p.node p.life p.ask p.wants p.tenure) pool × (gone p.node.0 ≡ false)

-- the parked ask has these names
abbrev named : NodeId → Life → Ask → Parked → Bool
named n l a p = (eqb p.node.0 n.0) && (eqb p.life.0 l.0) && (eqb p.ask.0 a.0)

named_flip : (p r : Parked) → named p.node p.life p.ask r ≡ named r.node r.life r.ask p
named_flip p r = (let n = flip_false r.node.0 p.node.0 in let l = flip_false r.life.0 p.life.0 in let a = flip_false r.ask.0 p.ask.0 in rw (n, l, a) refl)

-- why the ledger denies an ask
abbrev Reason : Limits → Ledger → List Want → Why → Type 0
Reason k q wants why.InstancesSpent = (w : Want) × In w wants × (w.folder.mode ≡ Private) × ((i : ℕ) → 1 ≤ i → i ≤ k.instances → is_free q (instance_of w.folder i) ≡ false)
Reason k q wants why.TicketsSpent = k.greatest ≤ q.last

-- an ask that was denied so. Where `old` it is neither leased nor among these
pub record Right (k : Limits) (pool : List Message) (old : Type 0) (q : Ledger) (here : Parked → Type 0) (n : NodeId) (l : Life) (a : Ask) (y : Why) : Type 0 where
  wants : List Want
  tenure : Bool
  asked : In (acquire n l a wants tenure) pool
  reason : Reason k q wants y
  unleased : old → (h : Lease) → In h q.live → is_of n l a h ≡ false
  unparked : old → (p : Parked) → here p → named n l a p ≡ false

pick_deny : (a b c d : Bool) (y : Why) → pick a b c d ≡ Deny y → ((y ≡ why.InstancesSpent) × (b ≡ true)) ⊎ ((y ≡ why.TicketsSpent) × (d ≡ true))
pick_deny true b c d y e = (let bad : Wait ≡ Deny y = e in cc)
pick_deny false true c d y e = (let is : Deny why.InstancesSpent ≡ Deny y = e in inl (cc, refl))
pick_deny false false true d y e = (let bad : Wait ≡ Deny y = e in cc)
pick_deny false false false true y e = (let is : Deny why.TicketsSpent ≡ Deny y = e in inr (cc, refl))
pick_deny false false false false y e = (let bad : Give ≡ Deny y = e in cc)

no_denied_grant : {P : Type 0} (n : NodeId) (l : Life) (a : Ask) (y : Why) (g : Grant) → told.Denied n l a y ≡ told.Granted g → P
no_denied_grant n l a y g e = cc

no_denied_recall : {P : Type 0} (n : NodeId) (l : Life) (a : Ask) (y : Why) (n' : NodeId) (l' : Life) (t : Ticket) → told.Denied n l a y ≡ told.Recall n' l' t → P
no_denied_recall n l a y n' l' t e = cc

denied_is : (n n' : NodeId) (l l' : Life) (a a' : Ask) (y y' : Why) → told.Denied n l a y ≡ told.Denied n' l' a' y' → (n ≡ n') × (l ≡ l') × (a ≡ a') × (y ≡ y')
denied_is n n' l l' a a' y y' e = (cc, cc, cc, cc)

no_denied_commit : {P : Type 0} (n : NodeId) (l : Life) (a : Ask) (y : Why) (n' : NodeId) (l' : Life) (t : Ticket) (vs : List Confirmed) → told.Denied n l a y ≡ told.Committed n' l' t vs → P
no_denied_commit n l a y n' l' t vs e = cc

no_denied_fence : {P : Type 0} (n : NodeId) (l : Life) (a : Ask) (y : Why) (n' : NodeId) (l' : Life) (t : Ticket) → told.Denied n l a y ≡ told.Fenced n' l' t → P
no_denied_fence n l a y n' l' t e = cc

module _ (k : Limits) (pool : List Message) where
  denied_reason : (q : Ledger) (p : Parked) (y : Why) → decision k q p ≡ Deny y → Reason k q p.wants y
  unfolding decision
  denied_reason q p y e =
      elim (pick_deny (elsewhere q p) (all_taken k.instances (is_free q) (leased_wants p.tenure p.wants)) (busy (is_leased q) (leased_wants p.tenure p.wants)) (not (nat_lt q.last k.greatest)) y e) [
        | inl r ↦ subst (Reason k q p.wants) (sym r.0) (let f = from_any (λ (w : Want). is_private w.folder.mode && eqb (lowest (is_free q) w.folder 1 k.instances) 0) (leased_wants p.tenure p.wants) r.1 in
            let b = and_parts (is_private f.0.folder.mode) (eqb (lowest (is_free q) f.0.folder 1 k.instances) 0) f.2 in
            (f.0, (leased_from p.tenure f.0 p.wants f.1).0, private_mode f.0.folder.mode b.0, λ i low high. none_free (is_free q) f.0.folder k.instances 1 i (omega arith) (eqb-true (lowest (is_free q) f.0.folder 1 k.instances) 0 b.1) low (omega arith)))
        | inr r ↦ subst (Reason k q p.wants) (sym r.0) (ge_from q.last k.greatest r.1)
      ]

  less_free : (q q' : Ledger) → Fewer q q' → (s : Slot) → is_free q s ≡ false → is_free q' s ≡ false
  less_free q q' f s e = elim (cases_Bool (is_free q' s)) [ inl t ↦ true_false (is_free q s) (still_free q q' f s t) e | inr taken ↦ taken ]

  later_reason : (q q' : Ledger) (wants : List Want) (y : Why) → Fewer q q' → Reason k q wants y → Reason k q' wants y
  later_reason q q' wants why.InstancesSpent f (w, i, private, all) = (w, i, private, λ j low high. less_free q q' f (instance_of w.folder j) (all j low high))
  later_reason q q' wants why.TicketsSpent f le = (let more : q.last ≤ q'.last = f.last in omega arith)

  later_right : (old : Type 0) (q q' : Ledger) (here here' : Parked → Type 0) (n : NodeId) (l : Life) (a : Ask) (y : Why) → Fewer q q'
      → (old → (h : Lease) → In h q'.live → In h q.live ⊎ (is_of n l a h ≡ false)) → (old → (p : Parked) → here' p → here p ⊎ (named n l a p ≡ false)) → Right k pool old q here n l a y → Right k pool old q' here' n l a y
  later_right old q q' here here' n l a y f leases parked r = record {
    wants = r.wants;
    tenure = r.tenure;
    asked = r.asked;
    reason = later_reason q q' r.wants y f r.reason;
    unleased = λ o h i. elim (leases o h i) [ inl was ↦ r.unleased o h was | inr other ↦ other ];
    unparked = λ o p i. elim (parked o p i) [ inl was ↦ r.unparked o p was | inr other ↦ other ];
  }

  module _ (old : NodeId → Life → Type 0) where
    abbrev pub Rightly : Work → (Parked → Type 0) → Type 0
    Rightly w here = (n : NodeId) (l : Life) (a : Ask) (y : Why) → In (told.Denied n l a y) w.sends → Right k pool (old n l) w.ledger here n l a y

    -- an ask is none of those that were denied
    abbrev Another : Work → Parked → Type 0
    Another w p = (n : NodeId) (l : Life) (a : Ask) (y : Why) → In (told.Denied n l a y) w.sends → old n l → named n l a p ≡ false

    give_right : (p : Parked) (w : Work) (here here' : Parked → Type 0) → Another w p → ((r : Parked) → here' r → here r) → Rightly w here → Rightly (gives k p w) here'
    unfolding gives
    give_right p w here here' other less right n l a y i =
        let g : Grant = grant_of k.empty w.ledger.line (lease_for k w.ledger p) in
        elim (in_append (told.Denied n l a y) w.sends (told.Granted g ∷ []) i) [
          | inr j ↦ no_denied_grant n l a y g (in_one (told.Denied n l a y) (told.Granted g) j)
          | inl j ↦ later_right (old n l) w.ledger (gives k p w).ledger here here' n l a y (gives_fewer k p w)
              (λ o h m. elim (in_append h w.ledger.live (lease_for k w.ledger p ∷ []) m) [ inl was ↦ inl was | inr new ↦ inr (subst (λ z. is_of n l a z ≡ false) (sym (in_one h (lease_for k w.ledger p) new)) (other n l a y j o)) ])
              (λ o r m. inl (less r m)) (right n l a y j)
        ]

    deny_right : (z : Why) (p : Parked) (w : Work) (here here' : Parked → Type 0) → decision k w.ledger p ≡ Deny z → In (acquire p.node p.life p.ask p.wants p.tenure) pool → NoLease w.ledger.live p
        → ((r : Parked) → here' r → here r) → ((r : Parked) → here' r → named p.node p.life p.ask r ≡ false) → Rightly w here → Rightly (denies z p w) here'
    deny_right z p w here here' e asked none less other right n l a y i = elim (in_append (told.Denied n l a y) w.sends (told.Denied p.node p.life p.ask z ∷ []) i) [
      | inl j ↦ later_right (old n l) w.ledger w.ledger here here' n l a y (fewer_refl w.ledger) (λ o h m. inl m) (λ o r m. inl (less r m)) (right n l a y j)
      | inr j ↦ (let is = denied_is n p.node l p.life a p.ask y z (in_one (told.Denied n l a y) (told.Denied p.node p.life p.ask z) j) in record {
        wants = p.wants;
        tenure = p.tenure;
        asked = subst (λ (x : NodeId). In (acquire x l a p.wants p.tenure) pool) (sym is.0) (subst (λ (x : Life). In (acquire p.node x a p.wants p.tenure) pool) (sym is.1) (subst (λ (x : Ask). In (acquire p.node p.life x p.wants p.tenure) pool) (sym is.2) asked));
        reason = subst (Reason k w.ledger p.wants) (sym is.3) (denied_reason w.ledger p z e);
        unleased = λ o h m. subst (λ (x : NodeId). is_of x l a h ≡ false) (sym is.0) (subst (λ (x : Life). is_of p.node x a h ≡ false) (sym is.1) (subst (λ (x : Ask). is_of p.node p.life x h ≡ false) (sym is.2) (none h m)));
        unparked = λ o r m. subst (λ (x : NodeId). named x l a r ≡ false) (sym is.0) (subst (λ (x : Life). named p.node x a r ≡ false) (sym is.1) (subst (λ (x : Ask). named p.node p.life x r ≡ false) (sym is.2) (other r m)));
      })
    ]

  -- ---- a retry

  abbrev Always : NodeId → Life → Type 0
  Always n l = ⊤

  -- those that stayed, and those that are left to be tried
  abbrev Left : List Parked → List Parked → Parked → Type 0
  Left kept ps r = In r kept ⊎ In r ps

  -- those that stayed differ from those that are left
  abbrev Differ : List Parked → List Parked → Type 0
  Differ kept ps = (r : Parked) → In r kept → is_parked ps r.node r.life r.ask ≡ false

  one_goes : (d : Decision) (p : Parked) (kept ps : List Parked) (w : Work) → decision k w.ledger p ≡ d → waits d ≡ false → In (acquire p.node p.life p.ask p.wants p.tenure) pool → NoLease w.ledger.live p → is_parked ps p.node p.life p.ask ≡ false
      → Differ kept (p ∷ ps) → Rightly Always w (Left kept (p ∷ ps)) → Rightly Always (carried_out k d p w) (Left kept ps)
  one_goes Give p kept ps w e goes asked none alone differ right = give_right Always p w (Left kept (p ∷ ps)) (Left kept ps) (λ n l a y i o. (right n l a y i).unparked tt p (inr (inl refl))) (λ r i. elim i [ inl j ↦ inl j | inr j ↦ inr (inr j) ]) right
  one_goes (Deny z) p kept ps w e goes asked none alone differ right = deny_right Always z p w (Left kept (p ∷ ps)) (Left kept ps) e asked none (λ r i. elim i [ inl j ↦ inl j | inr j ↦ inr (inr j) ])
      (λ r i. elim i [
        | inl j ↦ named_flip p r ∙ any_none (named r.node r.life r.ask) p (p ∷ ps) (differ r j) (inl refl)
        | inr j ↦ any_none (named p.node p.life p.ask) r ps alone j
      ]) right
  one_goes Wait p kept ps w e goes asked none alone differ right = (let bad : true ≡ false = goes in cc)

  tail_differ : (p : Parked) (ps : List Parked) (kept : List Parked) → Differ kept (p ∷ ps) → Differ kept ps
  tail_differ p ps kept differ r i = parked_part (p ∷ ps) ps r.node r.life r.ask (λ x j. inr j) (differ r i)

  wait_is : (d : Decision) (p : Parked) (w : Work) → waits d ≡ true → carried_out k d p w ≡ w
  wait_is Give p w e = (let bad : false ≡ true = e in cc)
  wait_is (Deny z) p w e = (let bad : false ≡ true = e in cc)
  wait_is Wait p w e = refl

  all_right : (ps kept : List Parked) (w : Work) → Waits w.ledger.live ps → AllSent pool w.ledger.gone ps → Differ kept ps → Rightly Always w (Left kept ps) → Rightly Always (try_all k ps w) (Left kept (waiting k ps w))
  unfolding stays tried
  all_right [] kept w wait asked differ right = right
  all_right (p ∷ ps) kept w wait asked differ right = elim (cases_Bool (waits (decision k w.ledger p))) [
    | inl t ↦ rw t (let is : tried k p w ≡ w = wait_is (decision k w.ledger p) p w t in
        let right' : Rightly Always (tried k p w) (Left (p ∷ kept) ps) = subst (λ z. Rightly Always z (Left (p ∷ kept) ps)) (sym is) (λ n l a y i. later_right ⊤ w.ledger w.ledger (Left kept (p ∷ ps)) (Left (p ∷ kept) ps) n l a y (fewer_refl w.ledger) (λ o h m. inl m) (λ o r m. inl (move r m)) (right n l a y i)) in
        let rest = all_right ps (p ∷ kept) (tried k p w) (tried_waits k p w ps wait.1 wait.2) (gone' p w ps asked) (λ r i. elim i [ inl e ↦ subst (λ (z : Parked). is_parked ps z.node z.life z.ask ≡ false) (sym e) wait.1 | inr j ↦ tail_differ p ps kept differ r j ]) right' in
        λ n l a y i. later_right ⊤ (try_all k ps (tried k p w)).ledger (try_all k ps (tried k p w)).ledger (Left (p ∷ kept) (waiting k ps (tried k p w))) (Left kept (p ∷ waiting k ps (tried k p w))) n l a y (fewer_refl (try_all k ps (tried k p w)).ledger) (λ o h m. inl m) (λ o r m. inl (back r (waiting k ps (tried k p w)) m)) (rest n l a y i))
    | inr t ↦ rw t (all_right ps kept (tried k p w) (tried_waits k p w ps wait.1 wait.2) (gone' p w ps asked) (tail_differ p ps kept differ)
        (one_goes (decision k w.ledger p) p kept ps w refl t (asked p (inl refl)).0 wait.0 wait.1 differ right))
  ]
    where
      move : (r : Parked) → Left (p ∷ kept) ps r → Left kept (p ∷ ps) r
      move r (inl (inl e)) = inr (inl e)
      move r (inl (inr j)) = inl j
      move r (inr j) = inr (inr j)

      back : (r : Parked) (xs : List Parked) → Left kept (p ∷ xs) r → Left (p ∷ kept) xs r
      back r xs (inl j) = inl (inr j)
      back r xs (inr (inl e)) = inl (inl e)
      back r xs (inr (inr j)) = inr j

      gone' : (p : Parked) (w : Work) (ps : List Parked) → AllSent pool w.ledger.gone (p ∷ ps) → AllSent pool (tried k p w).ledger.gone ps
      gone' p w ps asked r i = (let a = asked r (inr i) in (a.0, ap (λ (f : ℕ → Bool). f r.node.0) (tried-gone k p w) ∙ a.1))

  -- nothing was denied yet
  abbrev Undenied : Work → Type 0
  Undenied w = (n : NodeId) (l : Life) (a : Ask) (y : Why) → In (told.Denied n l a y) w.sends → ⊥

  abbrev pub Parks : Work → Parked → Type 0
  Parks w r = In r w.ledger.parked

  retried_right : (w : Work) → Undenied w → Waits w.ledger.live w.ledger.parked → AllSent pool w.ledger.gone w.ledger.parked → Rightly Always (retried k w) (Parks (retried k w))
  unfolding retried
  retried_right w none wait asked n l a y i =
      let r = all_right w.ledger.parked [] w wait asked (λ r j. absurd j) (λ n l a y i. absurd (none n l a y i)) n l a y i in
      record { wants = r.wants; tenure = r.tenure; asked = r.asked; reason = later_reason (try_all k w.ledger.parked w).ledger (retried k w).ledger r.wants y (record { home = refl; leased = λ s e. e; retired = λ s e. e; last = omega arith }) r.reason; unleased = r.unleased; unparked = λ o p m. r.unparked o p (inr m) }

  -- ---- messages

  module _ (q : Ledger) (wait : Waits q.live q.parked) (asked : AllSent pool q.gone q.parked) (known : (p : Parked) → In p q.parked → p.life.0 ≤ q.lives p.node.0) (held : (h : Lease) → In h q.live → h.life.0 ≤ q.lives h.node.0) where
    -- every ask
    abbrev pub Old : NodeId → Life → Type 0
    Old n l = ⊤

    abbrev pub Fine : Work → Type 0
    Fine w = Rightly Old w (Parks w)

    quiet_fine : (w : Work) → Undenied w → Fine w
    quiet_fine w none n l a y i = absurd (none n l a y i)

    always_fine : (w : Work) → Rightly Always w (Parks w) → Fine w
    always_fine w right n l a y i = (let r = right n l a y i in record { wants = r.wants; tenure = r.tenure; asked = r.asked; reason = r.reason; unleased = λ o. r.unleased tt; unparked = λ o. r.unparked tt })

    retried_fine : (w : Work) → Undenied w → Waits w.ledger.live w.ledger.parked → AllSent pool w.ledger.gone w.ledger.parked → Fine (retried k w)
    retried_fine w none wait asked = always_fine (retried k w) (retried_right w none wait asked)

    -- no other message is a denial
    says_fine : (m : FromCoord) (w : Work) → ((n : NodeId) (l : Life) (a : Ask) (y : Why) → told.Denied n l a y ≡ m → ⊥) → Fine w → Fine (says m w)
    says_fine m w other fine n l a y i = elim (in_append (told.Denied n l a y) w.sends (m ∷ []) i) [ inl j ↦ fine n l a y j | inr j ↦ absurd (other n l a y (in_one (told.Denied n l a y) m j)) ]

    recall_fine : (o : Option Lease) (w : Work) → Fine w → Fine (recall o w)
    recall_fine None w fine = fine
    recall_fine (Some g) w fine = says_fine (told.Recall g.node g.life g.ticket) w (λ n l a y e. no_denied_recall n l a y g.node g.life g.ticket e) fine

    recalls_fine : (b : Bool) (p : Parked) (w : Work) → Fine w → Fine (recalls b p w)
    recalls_fine true p w fine = recall_fine (find (holds_wanted p) w.ledger.live) w fine
    recalls_fine false p w fine = fine

    was_recall : (o : Option Lease) (w : Work) (n : NodeId) (l : Life) (a : Ask) (y : Why) → In (told.Denied n l a y) (recall o w).sends → In (told.Denied n l a y) w.sends
    was_recall None w n l a y i = i
    was_recall (Some g) w n l a y i = elim (in_append (told.Denied n l a y) w.sends (told.Recall g.node g.life g.ticket ∷ []) i) [ inl j ↦ j | inr j ↦ no_denied_recall n l a y g.node g.life g.ticket (in_one (told.Denied n l a y) (told.Recall g.node g.life g.ticket) j) ]

    was_denied : (b : Bool) (p : Parked) (w : Work) (n : NodeId) (l : Life) (a : Ask) (y : Why) → In (told.Denied n l a y) (recalls b p w).sends → In (told.Denied n l a y) w.sends
    was_denied true p w n l a y i = was_recall (find (holds_wanted p) w.ledger.live) w n l a y i
    was_denied false p w n l a y i = i

    waits_fine : (p : Parked) (w : Work) → Another Old w p → Fine w → Fine (decided k Wait p w)
    waits_fine p w other fine n l a y i =
        let b : Bool = p.tenure && not (elsewhere w.ledger p) in
        let v : Work = recalls b p w in
        let same : v.ledger ≡ w.ledger = recalls-ledger k b p w in
        let r = recalls_fine b p w fine n l a y i in
        later_right (Old n l) v.ledger (record v.ledger { parked = w.ledger.parked ++ p ∷ [] }) (Parks v) (Parks (parks (w.ledger.parked ++ p ∷ []) v)) n l a y
        (record { home = refl; leased = λ s e. e; retired = λ s e. e; last = omega arith }) (λ o h m. inl m)
        (λ o x m. elim (in_append x w.ledger.parked (p ∷ []) m) [
          | inl j ↦ inl (subst (λ (z : Ledger). In x z.parked) (sym same) j)
          | inr j ↦ inr (subst (λ z. named n l a z ≡ false) (sym (in_one x p j)) (other n l a y (was_denied b p w n l a y i) o))
        ]) r

    decided_fine : (d : Decision) (p : Parked) (w : Work) → decision k w.ledger p ≡ d → In (acquire p.node p.life p.ask p.wants p.tenure) pool → NoLease w.ledger.live p → is_parked w.ledger.parked p.node p.life p.ask ≡ false → Another Old w p → Fine w → Fine (decided k d p w)
    unfolding gives
    decided_fine Give p w e sent none alone other fine = give_right Old p w (Parks w) (Parks (gives k p w)) other (λ r i. i) fine
    decided_fine (Deny z) p w e sent none alone other fine = deny_right Old z p w (Parks w) (Parks w) e sent none (λ r i. i) (λ r i. any_none (named p.node p.life p.ask) r w.ledger.parked alone i) fine
    decided_fine Wait p w e sent none alone other fine = waits_fine p w other fine

    acquiring_fine : (o : Option Lease) (b : Bool) (p : Parked) (w : Work) → lease_of w.ledger.live p.node p.life p.ask ≡ o → is_parked w.ledger.parked p.node p.life p.ask ≡ b → In (acquire p.node p.life p.ask p.wants p.tenure) pool → Another Old w p → Fine w → Fine (acquiring k o b p w)
    acquiring_fine (Some g) b p w e i sent other fine = says_fine (told.Granted (grant_of k.empty w.ledger.line g)) w (λ n l a y e. no_denied_grant n l a y (grant_of k.empty w.ledger.line g) e) fine
    acquiring_fine None true p w e i sent other fine = fine
    acquiring_fine None false p w e i sent other fine = decided_fine (decision k w.ledger p) p w refl sent (λ h j. find_none (is_of p.node p.life p.ask) w.ledger.live e h j) i other fine

    -- ---- what ends leases

    -- no lease is this node's in this life
    abbrev pub NoneOf : NodeId → Life → Work → Type 0
    NoneOf n l w = (h : Lease) → In h w.ledger.live → is_its n l h ≡ true → ⊥

    committed_its : (n : NodeId) (l : Life) (news : List News) (t : Ticket) (w : Work) (o : Option Lease) → lease_under w.ledger.live t ≡ o → may_commit n l news o ≡ true → NoneOf n l w → ⊥
    committed_its n l news t w None e m none = (let bad : false ≡ true = m in cc)
    committed_its n l news t w (Some g) e m none =
        let b = and_parts (is_its n l g && slots_eq (slots_of news) (writable_slots g.slots)) (not (is_nil news)) m in
        none g (find_some (has_ticket t) w.ledger.live g e).0 (and_parts (is_its n l g) (slots_eq (slots_of news) (writable_slots g.slots)) b.0).0

    answered_fine : (b : Bool) (n : NodeId) (l : Life) (t : Ticket) (news : List News) (w : Work) → Fine w → Fine (ledger.answered b n l t news w)
    answered_fine true n l t news w fine = says_fine (told.Committed n l t (versions_of w.ledger.line t news)) w (λ n' l' a y e. no_denied_commit n' l' a y n l t (versions_of w.ledger.line t news) e) fine
    answered_fine false n l t news w fine = says_fine (told.Fenced n l t) w (λ n' l' a y e. no_denied_fence n' l' a y n l t e) fine

    -- a lease less, and the same asks
    less_waits : (w v : Work) → ((g : Lease) → In g v.ledger.live → In g w.ledger.live) → v.ledger.parked ≡ w.ledger.parked → Waits w.ledger.live w.ledger.parked → Waits v.ledger.live v.ledger.parked
    less_waits w v less same wait = subst (Waits v.ledger.live) (sym same) (waits_less w.ledger.live v.ledger.live w.ledger.parked less wait)

    committing_fine : (b : Bool) (n : NodeId) (l : Life) (t : Ticket) (news : List News) (w : Work) → may_commit n l news (lease_under w.ledger.live t) ≡ b → Undenied w ⊎ NoneOf n l w → Waits w.ledger.live w.ledger.parked → AllSent pool w.ledger.gone w.ledger.parked → Fine w → Fine (committing k b n l t news w)
    committing_fine true n l t news w m (inr never) wait asked fine = absurd (committed_its n l news t w (lease_under w.ledger.live t) refl m never)
    committing_fine true n l t news w m (inl none) wait asked fine =
        let v : Work = confirms n l t news (commits t news w) in
        retried_fine v (λ n' l' a y i. elim (in_append (told.Denied n' l' a y) w.sends (told.Committed n l t (versions_of (commits t news w).ledger.line t news) ∷ []) i) [
          | inl j ↦ none n' l' a y j
          | inr j ↦ no_denied_commit n' l' a y n l t (versions_of (commits t news w).ledger.line t news) (in_one (told.Denied n' l' a y) (told.Committed n l t (versions_of (commits t news w).ledger.line t news)) j)
        ])
        (less_waits w v (λ g i. (from_filter (λ (g : Lease). not (ledger.has_ticket t g)) g w.ledger.live i).0) refl wait) asked
    committing_fine false n l t news w m may wait asked fine = answered_fine (not (is_nil news) && on_all w.ledger.line t news) n l t news w fine

    released_fine : (b : Bool) (n : NodeId) (l : Life) (t : Ticket) (o : Option Lease) (w : Work) → lease_under w.ledger.live t ≡ o → may_release n l o ≡ b → Undenied w ⊎ NoneOf n l w → Waits w.ledger.live w.ledger.parked → AllSent pool w.ledger.gone w.ledger.parked → Fine w → Fine (released k b t o w)
    released_fine b n l t None w e m may wait asked fine = fine
    released_fine false n l t (Some g) w e m may wait asked fine = fine
    released_fine true n l t (Some g) w e m (inr never) wait asked fine = absurd (never g (find_some (has_ticket t) w.ledger.live g e).0 m)
    released_fine true n l t (Some g) w e m (inl none) wait asked fine = retried_fine (ends g w) none (less_waits w (ends g w) (λ h i. (from_filter (λ (h : Lease). not (ledger.has_ticket g.ticket h)) h w.ledger.live i).0) refl wait) asked

    answering_fine : (y : ToCoord) (r : Request) (w : Work) → In (Said (record { node = y.node; life = y.life; request = r })) pool → Undenied w ⊎ NoneOf y.node y.life w
        → ((p : Parked) → p.node ≡ y.node → p.life ≡ y.life → Another Old w p) → Waits w.ledger.live w.ledger.parked → AllSent pool w.ledger.gone w.ledger.parked → Fine w → Fine (answering k y.node y.life r w)
    answering_fine y Hello w sent may other wait asked fine = fine
    answering_fine y (Acquire a wants tenure) w sent may other wait asked fine =
        let p : Parked = record { node = y.node; life = y.life; ask = a; wants = wants; tenure = tenure } in
        acquiring_fine (lease_of w.ledger.live y.node y.life a) (is_parked w.ledger.parked y.node y.life a) p w refl refl sent (other p refl refl) fine
    answering_fine y (Commit t news) w sent may other wait asked fine = committing_fine (may_commit y.node y.life news (lease_under w.ledger.live t)) y.node y.life t news w refl may wait asked fine
    answering_fine y (Release t) w sent may other wait asked fine = released_fine (may_release y.node y.life (lease_under w.ledger.live t)) y.node y.life t (lease_under w.ledger.live t) w refl refl may wait asked fine

    seen_waits : (n : NodeId) (l : Life) → Waits (sees n l (begin_work q)).ledger.live (sees n l (begin_work q)).ledger.parked
    seen_waits n l = waits_filter (filter (λ (g : Lease). not (is_older n l g)) q.live) (λ (p : Parked). not (is_older_ask n l p)) q.parked (waits_less q.live (filter (λ (g : Lease). not (is_older n l g)) q.live) q.parked (λ g i. (from_filter (λ (g : Lease). not (is_older n l g)) g q.live i).0) wait)

    seen_asked : (n : NodeId) (l : Life) → AllSent pool q.gone (filter (λ (p : Parked). not (is_older_ask n l p)) q.parked)
    seen_asked n l p i = asked p (from_filter (λ (p : Parked). not (is_older_ask n l p)) p q.parked i).0

    retried_waits : (w : Work) → Waits w.ledger.live w.ledger.parked → Waits (retried k w).ledger.live (retried k w).ledger.parked
    unfolding retried
    retried_waits w wait = waiting_waits k w.ledger.parked w wait

    retried_asked : (w : Work) → AllSent pool w.ledger.gone w.ledger.parked → AllSent pool (retried k w).ledger.gone (retried k w).ledger.parked
    unfolding retried
    retried_asked w all p i = (let a = all p (waiting_in k w.ledger.parked w p i) in (a.0, ap (λ (f : ℕ → Bool). f p.node.0) (try-gone k w.ledger.parked w) ∙ a.1))

    newer_fine : (n : NodeId) (l : Life) → Fine (newer_life k n l (begin_work q)) × Waits (newer_life k n l (begin_work q)).ledger.live (newer_life k n l (begin_work q)).ledger.parked × AllSent pool (newer_life k n l (begin_work q)).ledger.gone (newer_life k n l (begin_work q)).ledger.parked
    unfolding newer_life
    newer_fine n l = elim (cases_Bool (list_any (is_older n l) q.live || is_home n q.old_home)) [
      | inl t ↦ rw t (retried_fine (sees n l (begin_work q)) (λ n' l' a y i. i) (seen_waits n l) (seen_asked n l), retried_waits (sees n l (begin_work q)) (seen_waits n l), retried_asked (sees n l (begin_work q)) (seen_asked n l))
      | inr t ↦ rw t (quiet_fine (sees n l (begin_work q)) (λ n' l' a y i. i), seen_waits n l, seen_asked n l)
    ]

    lt_is : (a b : ℕ) → nat_lt a b ≡ true → a < b
    lt_is a b h = grind (arith, nat_tests)

    -- who is denied while asks are tried is one of them
    denied_from : (ps : List Parked) (w : Work) (n : NodeId) (l : Life) (a : Ask) (z : Why) → In (told.Denied n l a z) (try_all k ps w).sends → In (told.Denied n l a z) w.sends ⊎ ((p : Parked) × In p ps × (n ≡ p.node) × (l ≡ p.life))
    unfolding tried gives
    denied_from [] w n l a z i = inl i
    denied_from (p ∷ ps) w n l a z i = elim (denied_from ps (tried k p w) n l a z i) [
      | inr r ↦ inr (r.0, inr r.1, r.2, r.3)
      | inl j ↦ by (decision k w.ledger p) j
    ]
      where
        by : (d : Decision) → In (told.Denied n l a z) (carried_out k d p w).sends → In (told.Denied n l a z) w.sends ⊎ ((r : Parked) × In r (p ∷ ps) × (n ≡ r.node) × (l ≡ r.life))
        by Give j = elim (in_append (told.Denied n l a z) w.sends (told.Granted (grant_of k.empty w.ledger.line (lease_for k w.ledger p)) ∷ []) j) [ inl x ↦ inl x | inr x ↦ no_denied_grant n l a z (grant_of k.empty w.ledger.line (lease_for k w.ledger p)) (in_one (told.Denied n l a z) (told.Granted (grant_of k.empty w.ledger.line (lease_for k w.ledger p))) x) ]
        by (Deny y) j = elim (in_append (told.Denied n l a z) w.sends (told.Denied p.node p.life p.ask y ∷ []) j) [ inl x ↦ inl x | inr x ↦ (let is = denied_is n p.node l p.life a p.ask z y (in_one (told.Denied n l a z) (told.Denied p.node p.life p.ask y) x) in inr (p, inl refl, is.0, is.1)) ]
        by Wait j = inl j

    -- and a lease that is new is of one of them
    leased_now : (ps : List Parked) (w : Work) (h : Lease) → In h (try_all k ps w).ledger.live → In h w.ledger.live ⊎ ((p : Parked) × In p ps × (h.node ≡ p.node) × (h.life ≡ p.life))
    unfolding tried gives
    leased_now [] w h i = inl i
    leased_now (p ∷ ps) w h i = elim (leased_now ps (tried k p w) h i) [
      | inr r ↦ inr (r.0, inr r.1, r.2, r.3)
      | inl j ↦ by (decision k w.ledger p) j
    ]
      where
        by : (d : Decision) → In h (carried_out k d p w).ledger.live → In h w.ledger.live ⊎ ((r : Parked) × In r (p ∷ ps) × (h.node ≡ r.node) × (h.life ≡ r.life))
        by Give j = elim (in_append h w.ledger.live (lease_for k w.ledger p ∷ []) j) [ inl x ↦ inl x | inr x ↦ (let is = in_one h (lease_for k w.ledger p) x in inr (p, inl refl, ap (λ (z : Lease). z.node) is, ap (λ (z : Lease). z.life) is)) ]
        by (Deny y) j = inl j
        by Wait j = inl j

    -- the asks that are left of those of older lives were parked
    still_parked : (n : NodeId) (l : Life) (p : Parked) → In p (sees n l (begin_work q)).ledger.parked → p.life.0 ≤ q.lives p.node.0
    still_parked n l p i = known p (from_filter (λ (r : Parked). not (is_older_ask n l r)) p q.parked i).0

    retried_denied : (n : NodeId) (l : Life) (n' : NodeId) (l' : Life) (a : Ask) (z : Why) → In (told.Denied n' l' a z) (retried k (sees n l (begin_work q))).sends → l'.0 ≤ q.lives n'.0
    unfolding retried
    retried_denied n l n' l' a z i = elim (denied_from (sees n l (begin_work q)).ledger.parked (sees n l (begin_work q)) n' l' a z i) [
      | inl none ↦ absurd none
      | inr r ↦ (let le = still_parked n l r.0 r.1 in subst (λ (x : NodeId). l'.0 ≤ q.lives x.0) (sym r.2) (subst (λ (x : Life). x.0 ≤ q.lives r.0.node.0) (sym r.3) le))
    ]

    newer_denied : (n : NodeId) (l : Life) (n' : NodeId) (l' : Life) (a : Ask) (z : Why) → In (told.Denied n' l' a z) (newer_life k n l (begin_work q)).sends → l'.0 ≤ q.lives n'.0
    unfolding newer_life
    newer_denied n l n' l' a z = elim (cases_Bool (list_any (is_older n l) q.live || is_home n q.old_home)) [ inl t ↦ rw t (retried_denied n l n' l' a z) | inr t ↦ rw t (λ i. absurd i) ]

    seen_lease : (n : NodeId) (l : Life) (h : Lease) → In h (sees n l (begin_work q)).ledger.live → h.life.0 ≤ q.lives h.node.0
    seen_lease n l h i = held h (from_filter (λ (g : Lease). not (is_older n l g)) h q.live i).0

    retried_lease : (n : NodeId) (l : Life) (h : Lease) → In h (retried k (sees n l (begin_work q))).ledger.live → h.life.0 ≤ q.lives h.node.0
    unfolding retried
    retried_lease n l h i = elim (leased_now (sees n l (begin_work q)).ledger.parked (sees n l (begin_work q)) h i) [
      | inl was ↦ seen_lease n l h was
      | inr r ↦ (let le = still_parked n l r.0 r.1 in subst (λ (x : NodeId). h.life.0 ≤ q.lives x.0) (sym r.2) (subst (λ (x : Life). x.0 ≤ q.lives r.0.node.0) (sym r.3) le))
    ]

    newer_lease : (n : NodeId) (l : Life) (h : Lease) → In h (newer_life k n l (begin_work q)).ledger.live → h.life.0 ≤ q.lives h.node.0
    unfolding newer_life
    newer_lease n l h = elim (cases_Bool (list_any (is_older n l) q.live || is_home n q.old_home)) [ inl t ↦ rw t (retried_lease n l h) | inr t ↦ rw t (seen_lease n l h) ]

    -- an ask of a newer life is none that was denied
    newer_other : (y : ToCoord) → q.lives y.node.0 < y.life.0 → (p : Parked) → p.node ≡ y.node → p.life ≡ y.life → Another Old (newer_life k y.node y.life (begin_work q)) p
    newer_other y newer p at life n l a z i old = elim (cases_Bool (named n l a p)) [
      | inr f ↦ f
      | inl t ↦ (let b = and_parts ((eqb p.node.0 n.0) && (eqb p.life.0 l.0)) (eqb p.ask.0 a.0) t in
          let c = and_parts (eqb p.node.0 n.0) (eqb p.life.0 l.0) b.0 in
          let le : l.0 ≤ q.lives n.0 = newer_denied y.node y.life n l a z i in
          let e : l.0 ≡ y.life.0 = sym (eqb-true p.life.0 l.0 c.1) ∙ ap (λ (x : Life). x.0) life in
          let f : q.lives n.0 ≡ q.lives y.node.0 = ap q.lives (sym (eqb-true p.node.0 n.0 c.0) ∙ ap (λ (x : NodeId). x.0) at) in
          absurd (omega arith))
    ]

    -- nor is a lease of a newer life there
    pub newer_none : (y : ToCoord) → q.lives y.node.0 < y.life.0 → NoneOf y.node y.life (newer_life k y.node y.life (begin_work q))
    newer_none y newer h i t =
        let b = and_parts (eqb h.node.0 y.node.0) (eqb h.life.0 y.life.0) t in
        let le : h.life.0 ≤ q.lives h.node.0 = newer_lease y.node y.life h i in
        let e : h.life.0 ≡ y.life.0 = eqb-true h.life.0 y.life.0 b.1 in
        let f : q.lives h.node.0 ≡ q.lives y.node.0 = ap q.lives (eqb-true h.node.0 y.node.0 b.0) in
        absurd (omega arith)

    pub handled_fine : (y : ToCoord) → In (Said y) pool → Fine (handled k y (begin_work q))
    unfolding handled
    handled_fine y sent = elim (cases_Bool (q.gone y.node.0)) [
      | inl t ↦ rw t (quiet_fine (notes note.NodeRetired (begin_work q)) (λ n l a z i. i))
      | inr here ↦ rw here (elim (cases_Bool (nat_lt y.life.0 (q.lives y.node.0))) [
        | inl t ↦ rw t (quiet_fine (notes note.OldLife (begin_work q)) (λ n l a z i. i))
        | inr current ↦ rw current (elim (cases_Bool (nat_lt (q.lives y.node.0) y.life.0)) [
          | inl newer ↦ rw newer (let n = newer_fine y.node y.life in
              let w : Work = newer_life k y.node y.life (begin_work q) in
              answering_fine y y.request w sent (inr (newer_none y (lt_is (q.lives y.node.0) y.life.0 newer))) (newer_other y (lt_is (q.lives y.node.0) y.life.0 newer)) n.1 n.2 n.0)
          | inr same ↦ rw same (answering_fine y y.request (begin_work q) sent (inl (λ n l a z i. i)) (λ p e f n l a z i. absurd i) wait asked (quiet_fine (begin_work q) (λ n l a z i. i)))
        ])
      ])
    ]

    -- ---- calls

    abbrev pub OnFine : Result Work CoordRefusal → Type 0
    OnFine (Ok w) = Fine w
    OnFine (Err e) = ⊤

    fine_if : (b : Bool) (e : CoordRefusal) (r : Result Work CoordRefusal) → OnFine r → OnFine (if b then Err e else r)
    fine_if true e r h = tt
    fine_if false e r h = h

    withdrawing_fine : (o : Option Lease) → OnFine (withdrawing k o (begin_work q))
    withdrawing_fine None = tt
    withdrawing_fine (Some g) = fine_if g.tenure refusal.Tenure (Ok (notes (note.Withdrawn g.ticket) (retried k (withdraws g (begin_work q)))))
        (retried_fine (withdraws g (begin_work q)) (λ n l a y i. i) (less_waits (begin_work q) (withdraws g (begin_work q)) (λ h i. (from_filter (λ (h : Lease). not (ledger.has_ticket g.ticket h)) h q.live i).0) refl wait) asked)

    pub withdrawn_fine : (t : Ticket) → OnFine (withdrawn k t (begin_work q))
    withdrawn_fine t = withdrawing_fine (lease_under q.live t)

    pub pruned_fine : (s : Slot) → OnFine (pruned k s (begin_work q))
    pruned_fine s = fine_if (is_leased q s) refusal.SlotLeased _ (fine_if (is_nil (q.line s)) refusal.NoSuchSlot _ (by (nat_lt q.last k.greatest)))
      where
        by : (b : Bool) → OnFine (if b then Ok (notes (note.Pruned (record { 0 = q.last + 1 })) (prunes k s (begin_work q))) else Err refusal.TicketsSpent)
        by true = λ n l a y i. absurd i
        by false = tt

    -- the asks of other nodes than one that retires
    gone_asked : (n : NodeId) → AllSent pool (goes n (begin_work q)).ledger.gone (goes n (begin_work q)).ledger.parked
    gone_asked n p i =
        let f = from_filter (λ (p : Parked). not (eqb p.node.0 n.0)) p q.parked i in
        let a = asked p f.0 in
        let other : eqb p.node.0 n.0 ≡ false = not-true (eqb p.node.0 n.0) f.1 in
        (a.0, rw other a.1)

    pub retired_fine : (n : NodeId) → OnFine (retired k n (begin_work q))
    retired_fine n = fine_if (q.gone n.0) refusal.NodeRetired _ (fine_if (list_any (λ (g : Lease). is_at n g && g.tenure) q.live || is_home n q.old_home) refusal.TenureHeld _ (by (list_any (is_at n) q.live)))
      where
        gone_waits : Waits (goes n (begin_work q)).ledger.live (goes n (begin_work q)).ledger.parked
        gone_waits = waits_filter (filter (λ (g : Lease). not (is_at n g)) q.live) (λ (p : Parked). not (eqb p.node.0 n.0)) q.parked (waits_less q.live (filter (λ (g : Lease). not (is_at n g)) q.live) q.parked (λ g i. (from_filter (λ (g : Lease). not (is_at n g)) g q.live i).0) wait)

        by : (b : Bool) → Fine (notes (note.Retired n) (if b then retried k (goes n (begin_work q)) else goes n (begin_work q)))
        by true = retried_fine (goes n (begin_work q)) (λ n l a y i. i) gone_waits (gone_asked n)
        by false = λ n l a y i. absurd i

    nudges_none : (h : Lease) (w : Work) → Undenied w → Undenied (nudges k h w)
    nudges_none h w none n l a y i = by (is_awaited w.ledger.parked h) refl
      where
        g : Grant
        g = grant_of k.empty w.ledger.line h

        one : In (told.Denied n l a y) (w.sends ++ told.Granted g ∷ []) → ⊥
        one i = elim (in_append (told.Denied n l a y) w.sends (told.Granted g ∷ []) i) [ inl j ↦ none n l a y j | inr j ↦ no_denied_grant n l a y g (in_one (told.Denied n l a y) (told.Granted g) j) ]

        by : (b : Bool) → is_awaited w.ledger.parked h ≡ b → ⊥
        by true e = elim (in_append (told.Denied n l a y) (w.sends ++ told.Granted g ∷ []) (told.Recall h.node h.life h.ticket ∷ []) (rw e at i)) [ inl j ↦ one j | inr j ↦ no_denied_recall n l a y h.node h.life h.ticket (in_one (told.Denied n l a y) (told.Recall h.node h.life h.ticket) j) ]
        by false e = one (rw e at i)

    nudge_none : (hs : List Lease) (w : Work) → Undenied w → Undenied (nudge_all k hs w)
    nudge_none [] w none = none
    nudge_none (h ∷ hs) w none = nudge_none hs (nudges k h w) (nudges_none h w none)

    pub nudged_fine : Fine (nudged k (begin_work q))
    nudged_fine = quiet_fine (nudged k (begin_work q)) (nudge_none q.live (begin_work q) (λ n l a y i. i))

    -- ---- of the machine

    pub denied_so : (empty : Digest) (m : Machine) (w : Work) → k.empty ≡ empty → Agrees k.empty pool m w.ledger → Fine w → (n : NodeId) (l : Life) (a : Ask) (y : Why) → In (told.Denied n l a y) w.sends → IsDenied k pool m n l a y
    denied_so empty m w is agrees fine n l a y i =
        let r = fine n l a y i in
        let core = core_of k.empty pool m w.ledger agrees in
        record {
          wants = r.wants;
          tenure = r.tenure;
          asked = r.asked;
          reason = because y r.wants r.reason;
          unleased = λ g live of. true_false (is_of n l a (lease_from g)) (names_same g.node n g.life l g.ask a of.0 of.1 of.2) (r.unleased tt (lease_from g) (agrees.live_kept g live));
          unparked = λ p j of. true_false (named n l a p) (names_same p.node n p.life l p.ask a of.0 of.1 of.2) (r.unparked tt p (subst (In p) (sym agrees.parked) j));
        }
      where
        because : (y : Why) (wants : List Want) → Reason k w.ledger wants y → DeniedBecause k m wants y
        because why.InstancesSpent wants (x, j, private, all) = (x, j, private, λ z low high. taken_is k m w.ledger (core_of k.empty pool m w.ledger agrees) (instance_of x.folder z) (all z low high))
        because why.TicketsSpent wants le = (let at : w.ledger.last ≡ m.last = agrees.last in omega arith)
