-- What the coordinator does with its ledger, a machine that forgets nothing may do.
use Rattle.std.proofs.Common.{◌≡◌, ◌≢◌, ℕ, ◌+◌, ◌<◌, ◌≤◌, List, [], ◌∷◌, ◌++◌, ◌⊎◌, Bool, true, false, not, ◌&&◌, eqb, length, map, filter, Option, Some, None, refl, sym, ◌∙◌, ap, subst, inl, inr, arith, append-nil}
use Rattle.std.proofs.lemmas.Bool.{cases_Bool, and_parts, eqb-false, eqb-true, not-false}
use Rattle.std.specs.Prelude.{nat_lt}
use Rattle.farm_base.specs.Kinds.{has_shared, is_tenure, IsKind}
use Rattle.farm_base.proofs.KindLemmas.{shared_back, tenure_back}
use Rattle.protocol.specs.Lists.{In}
use Rattle.protocol.specs.Names.{Mode, Shared, Private, Locked, Slot, slot_eq, slots_eq, is_private, only_slot, IsInstance, Digest, NodeId, Life, Ask, Want, FolderName, any_shared, leased_wants, tenure_wants}
use Rattle.protocol.specs.Machine.{Grant, GrantedSlot, Ending, Granted, Pruned, ticket_of, Withdrawn, Message, FromCoord, Parked, Machine, Live, Free, Based, AnswersAsk, SameAsk, want_of, line, version_at, Names, acquire, HasPart, Ends_part, Keeps, Leaves, Step, Grants, Ends, Prunes, Sees, Retires, Parks, Unparks, Raises, Steps, No_step, One_more, Says, Says_granted, Says_committed, Says_fenced, Says_denied, Says_recall}
use Rattle.farm_base.specs.declared.message.FromCoord.TheVariants as told
use Rattle.farm_base.specs.declared.message.Why.{Why}
use Rattle.events.specs.declared.answer.CoordNote.{CoordNote}
use Rattle.protocol.specs.Ledger.{Limits, Ledger, Work, Lease, says, notes, some_lease, is_leased, is_free, lowest, instance_for, slot_for, all_taken, busy, last_digest, granted_slot, grant_of, Decision, Give, Deny, Wait, pick, another, elsewhere, decision, lease_for, raised, gives, denies, carried_out, tried, try_all, waiting, retried}
use Rattle.protocol.specs.Follows.{lease_from, NoLease, Waits, Works, Begins_work, Goes_on, Speaks, Follows}
use Rattle.protocol.proofs.Base.{true_false, none_some, some_is, slot_eq_same, slot_eq_is, node_is, from_map, any_none, in_append, in_left, in_right, in_one}
use Rattle.protocol.proofs.Steps.{Sound, Later, later_refl, later_trans, step_sound, fresh}
use Rattle.protocol.proofs.Trying.{raised_block, raised_covers, tried-gone, tried-lives, try-lives, tried_waits, try-gone, try-parked, waiting_in, waiting_part, waiting_waits}
use Rattle.protocol.proofs.Leases.{Core, core_of, AllAsked, agrees_from, names_last, grant-lease, lease-grant, not_leased, free_is, lowest_is, no_grant}

pub works_sound : (empty : Digest) (pool : List Message) (a b : Machine) (sends : List FromCoord) → Sound empty a → Works empty pool a b sends → Later empty a b × Sound empty b
works_sound empty pool a b sends sound Begins_work = (later_refl empty a, sound)
works_sound empty pool a b sends sound (Goes_on c d ss works step) =
    let before = works_sound empty pool a c sends sound works in
    let after = step_sound empty pool c b before.1 step in
    (later_trans empty a c b before.0 after.0, after.1)
works_sound empty pool a b sends sound (Speaks c ss y works may) = works_sound empty pool a b ss sound works

says_live : (empty : Digest) (pool : List Message) (m : Machine) (y : FromCoord) (g : Grant) → Says empty pool m y → y ≡ told.Granted g → Live m g
says_live empty pool m y g (Says_granted h live) e = (let same : h ≡ g = cc in subst (Live m) same live)
says_live empty pool m y g (Says_committed n l t news versions i all some) e = absurd (cc)
says_live empty pool m y g (Says_fenced n l t news i refused off) e = absurd (cc)
says_live empty pool m y g (Says_denied n l a why wants tenure i) e = absurd (cc)
says_live empty pool m y g (Says_recall h live tenure) e = absurd (cc)

-- what is sent as granted was made
pub works_made : (empty : Digest) (pool : List Message) (a b : Machine) (sends : List FromCoord) → Sound empty a → Works empty pool a b sends → (g : Grant) → In (told.Granted g) sends → In (Granted g) b.made
works_made empty pool a b sends sound Begins_work g i = absurd i
works_made empty pool a b sends sound (Goes_on c d ss works step) g i =
    (step_sound empty pool c b (works_sound empty pool a c sends sound works).1 step).0.made (Granted g) (works_made empty pool a c sends sound works g i)
works_made empty pool a b sends sound (Speaks c ss y works may) g i = elim (in_append (told.Granted g) ss (y ∷ []) i) [
  | inl j ↦ works_made empty pool a b ss sound works g j
  | inr j ↦ (says_live empty pool b y g may (sym (in_one (told.Granted g) y j))).0
]

-- the steps alone, as a record may hold them
-- so in one step
step_above : (empty : Digest) (pool : List Message) (a b : Machine) → Step empty pool a b → (a.last ≤ b.last) × ((g : Grant) → In (Granted g) b.made → In (Granted g) a.made ⊎ ((a.last < g.ticket.0) × (g.ticket.0 ≤ b.last)))
step_above empty pool a b (Grants g wants asked answers here alone home newer free) = (
  omega arith,
  λ h i. elim i [
    | inl e ↦ (let same : h.ticket.0 ≡ g.ticket.0 = ap ticket_of e in inr (omega arith, omega arith))
    | inr j ↦ inl j
  ],
)
step_above empty pool a b (Ends g y live may) = (omega arith, λ h i. inl i)
step_above empty pool a b (Prunes t s newer idle some) = (omega arith, λ h i. elim i [ inl e ↦ (let bad : Granted h ≡ Pruned t s = e in cc) | inr j ↦ inl j ])
step_above empty pool a b (Sees n l heard here newer none quiet) = (omega arith, λ h i. inl i)
step_above empty pool a b (Retires n here home none quiet) = (omega arith, λ h i. inl i)
step_above empty pool a b (Parks p sent none) = (omega arith, λ h i. inl i)
step_above empty pool a b (Unparks ps part) = (omega arith, λ h i. inl i)
step_above empty pool a b (Raises t le) = (le, λ h i. inl i)

-- what is made anew is above the last ticket
pub works_above : (empty : Digest) (pool : List Message) (a b : Machine) (sends : List FromCoord) → Works empty pool a b sends → (a.last ≤ b.last) × ((g : Grant) → In (Granted g) b.made → In (Granted g) a.made ⊎ ((a.last < g.ticket.0) × (g.ticket.0 ≤ b.last)))
works_above empty pool a b sends Begins_work = (omega arith, λ g i. inl i)
works_above empty pool a b sends (Speaks c ss y works says) = works_above empty pool a b ss works
works_above empty pool a b sends (Goes_on c d ss works step) =
    let before = works_above empty pool a c ss works in
    let up = step_above empty pool c b step in
    let le : a.last ≤ c.last = before.0 in
    let le' : c.last ≤ b.last = up.0 in (
      omega arith,
      λ g i. elim (up.1 g i) [
        | inl old ↦ elim (before.1 g old) [
          | inl first ↦ inl first
          | inr new ↦ (let lo : a.last < g.ticket.0 = new.0 in let hi : g.ticket.0 ≤ c.last = new.1 in inr (omega arith, omega arith))
        ]
        | inr new ↦ (let lo : c.last < g.ticket.0 = new.0 in let hi : g.ticket.0 ≤ b.last = new.1 in inr (omega arith, omega arith))
      ],
    )

pub works_steps : (empty : Digest) (pool : List Message) (a b : Machine) (sends : List FromCoord) → Works empty pool a b sends → Steps empty pool a b
works_steps empty pool a b sends Begins_work = No_step a
works_steps empty pool a b sends (Goes_on c d ss works step) = One_more a c b (works_steps empty pool a c sends works) step
works_steps empty pool a b sends (Speaks c ss y works may) = works_steps empty pool a b ss works

pub part_refl : {A : Type 0} (xs : List A) → HasPart xs xs
part_refl [] = Ends_part
part_refl (x ∷ xs) = Keeps x xs xs (part_refl xs)

pub part_filter : {A : Type 0} (test : A → Bool) (xs : List A) → HasPart xs (filter test xs)
part_filter test [] = Ends_part
part_filter test (x ∷ xs) = elim (cases_Bool (test x)) [
  | inl t ↦ rw t (Keeps x xs (filter test xs) (part_filter test xs))
  | inr t ↦ rw t (Leaves x xs (filter test xs) (part_filter test xs))
]

pub part_none : {A : Type 0} (xs : List A) → HasPart xs []
part_none [] = Ends_part
part_none (x ∷ xs) = Leaves x xs [] (part_none xs)

pub slots_eq_is : (xs ys : List Slot) → slots_eq xs ys ≡ true → xs ≡ ys
slots_eq_is [] [] h = refl
slots_eq_is [] (y ∷ ys) h = (let bad : false ≡ true = h in cc)
slots_eq_is (x ∷ xs) [] h = (let bad : false ≡ true = h in cc)
slots_eq_is (x ∷ xs) (y ∷ ys) h = (let b = and_parts (slot_eq x y) (slots_eq xs ys) h in let p = slot_eq_is x y b.0 in let q = slots_eq_is xs ys b.1 in λ i. p i ∷ q i)

pub slots_eq_same : (xs : List Slot) → slots_eq xs xs ≡ true
slots_eq_same [] = refl
slots_eq_same (x ∷ xs) = (let p = slot_eq_same x in let q = slots_eq_same xs in rw (p, q) refl)

-- what a decision to give says
pub record Picked (a b c d : Bool) : Type 0 where
  pub here : a ≡ false
  pub left : b ≡ false
  pub idle : c ≡ false
  pub below : d ≡ false

pub pick_give : (a b c d : Bool) → pick a b c d ≡ Give → Picked a b c d
pick_give true b c d e = cc
pick_give false true c d e = cc
pick_give false false true d e = cc
pick_give false false false true e = cc
pick_give false false false false e = record { here = refl; left = refl; idle = refl; below = refl }

-- what was sent is as the nodes send it
pub record Sent (pool : List Message) (m : Machine) : Type 0 where
  pub tenures : (n : NodeId) (l : Life) (a : Ask) (wants : List Want) (tenure : Bool) → In (acquire n l a wants tenure) pool → tenure ≡ true → (f : FolderName) × (wants ≡ tenure_wants f)

module _ (k : Limits) (fits : k.instances ≤ 4096) (pool : List Message) (m : Machine) (sound : Sound k.empty m) (sent : Sent pool m) (P : (ℕ → Option Ending) → Type 0) where
  abbrev pub F : Work → Type 0
  F w = Follows k.empty pool m P w

  pub now_sound : (b : Machine) (sends : List FromCoord) → Works k.empty pool m b sends → Sound k.empty b
  now_sound b sends works = (works_sound k.empty pool m b sends sound works).1

  -- ---- saying

  pub more_sent : (g : Grant) (sends : List FromCoord) (y : FromCoord) → In (Granted g) m.made ⊎ In (told.Granted g) sends → In (Granted g) m.made ⊎ In (told.Granted g) (sends ++ y ∷ [])
  more_sent g sends y (inl i) = inl i
  more_sent g sends y (inr i) = inr (in_left (told.Granted g) sends (y ∷ []) i)

  pub notes_follows : (n : CoordNote) (w : Work) → F w → F (notes n w)
  notes_follows n w f = record { machine = f.machine; works = f.works; ended = f.ended; granted = f.granted; agrees = f.agrees }

  pub says_follows : (y : FromCoord) (w : Work) (f : F w) → Says k.empty pool f.machine y → F (says y w)
  says_follows y w f may = record { machine = f.machine; works = Speaks f.machine w.sends y f.works may; ended = f.ended; granted = λ g i. more_sent g w.sends y (f.granted g i); agrees = f.agrees }

  live_of_lease : (w : Work) (f : F w) (h : Lease) → In h w.ledger.live → (g : Grant) × Live f.machine g × (lease_from g ≡ h)
  live_of_lease w f h i = f.agrees.live_made h i

  pub grant_says : (w : Work) (f : F w) (h : Lease) → In h w.ledger.live → Says k.empty pool f.machine (told.Granted (grant_of k.empty w.ledger.line h))
  grant_says w f h i =
      let r = f.agrees.live_made h i in
      let core = core_of k.empty pool f.machine w.ledger f.agrees in
      let is : grant_of k.empty w.ledger.line h ≡ r.0 = ap (grant_of k.empty w.ledger.line) (sym r.2) ∙ grant-lease k.empty f.machine w.ledger r.0 (now_sound f.machine w.sends f.works) core r.1 in
      subst (λ z. Says k.empty pool f.machine (told.Granted z)) (sym is) (Says_granted r.0 r.1)

  -- ---- granting

  -- work whose parked asks are yet to be settled
  pub record Going (w : Work) : Type 0 where
    pub machine : Machine
    pub works : Works k.empty pool m machine w.sends
    pub ended : P machine.ending
    pub granted : (g : Grant) → In (Granted g) machine.made → In (Granted g) m.made ⊎ In (told.Granted g) w.sends
    pub core : Core k.empty machine w.ledger
    pub parked : w.ledger.parked ≡ machine.parked

  pub going : (w : Work) → F w → Going w
  going w f = record { machine = f.machine; works = f.works; ended = f.ended; granted = f.granted; core = core_of k.empty pool f.machine w.ledger f.agrees; parked = f.agrees.parked }

  -- a want that can be met
  abbrev IsMet : Machine → Ledger → Want → Type 0
  IsMet b q w = Free b (slot_for k.instances (is_free q) w) × IsInstance w.folder.mode (slot_for k.instances (is_free q) w).instance

  by_kind : (b : Machine) (q : Ledger) (w : Want) (private : Bool) → Core k.empty b q → is_private w.folder.mode ≡ private
      → (private && (eqb (lowest (is_free q) w.folder 1 k.instances) 0)) ≡ false → (not private && some_lease q.live (only_slot w.folder)) ≡ false
      → Free b (record { folder = w.folder; instance = instance_for k.instances (is_free q) w.folder private }) × IsInstance w.folder.mode (instance_for k.instances (is_free q) w.folder private)
  by_kind b q w true core p left idle =
      let ne : lowest (is_free q) w.folder 1 k.instances ≢ 0 = eqb-false (lowest (is_free q) w.folder 1 k.instances) 0 left in
      let r = lowest_is (is_free q) w.folder k.instances 1 ne in
      let low : 1 ≤ lowest (is_free q) w.folder 1 k.instances = r.1 in
      let high : lowest (is_free q) w.folder 1 k.instances < 1 + k.instances = r.2 in
      (free_is k.empty b q (record { folder = w.folder; instance = lowest (is_free q) w.folder 1 k.instances }) core r.0, ranged w.folder.mode p (lowest (is_free q) w.folder 1 k.instances) low (omega arith))
    where
      ranged : (mode : Mode) → is_private mode ≡ true → (n : ℕ) → 1 ≤ n → n ≤ 4096 → IsInstance mode n
      ranged Shared e n low high = (let bad : false ≡ true = e in cc)
      ranged Private e n low high = (low, high)
      ranged Locked e n low high = (let bad : false ≡ true = e in cc)
  by_kind b q w false core p left idle =
      ((not_leased k.empty b q (only_slot w.folder) core idle, λ r. true_false (is_private w.folder.mode) r.0 p), zero_instance w.folder.mode p)
    where
      zero_instance : (mode : Mode) → is_private mode ≡ false → IsInstance mode 0
      zero_instance Shared e = refl
      zero_instance Private e = (let bad : true ≡ false = e in cc)
      zero_instance Locked e = refl

  met : (b : Machine) (q : Ledger) (ws : List Want) → Core k.empty b q → all_taken k.instances (is_free q) ws ≡ false → busy (is_leased q) ws ≡ false → (w : Want) → In w ws → IsMet b q w
  met b q ws core taken idle w i =
      by_kind b q w (is_private w.folder.mode) core refl
      (any_none (λ (v : Want). is_private v.folder.mode && (eqb (lowest (is_free q) v.folder 1 k.instances) 0)) w ws taken i)
      (any_none (λ (v : Want). not (is_private v.folder.mode) && some_lease q.live (only_slot v.folder)) w ws idle i)

  abbrev slot_of : Ledger → Want → GrantedSlot
  slot_of q w = granted_slot k.empty q.line (slot_for k.instances (is_free q) w, w.writable)

  wants_back : (q : Ledger) (ws : List Want) → map want_of (map (granted_slot k.empty q.line) (map (λ (w : Want). (slot_for k.instances (is_free q) w, w.writable)) ws)) ≡ ws
  wants_back q [] = refl
  wants_back q (w ∷ ws) = (let rest = wants_back q ws in λ i. w ∷ rest i)

  granted_from : (q : Ledger) (ws : List Want) (u : GrantedSlot) → In u (map (granted_slot k.empty q.line) (map (λ (w : Want). (slot_for k.instances (is_free q) w, w.writable)) ws)) → (w : Want) × In w ws × (u ≡ slot_of q w)
  granted_from q ws u i =
      let r = from_map (granted_slot k.empty q.line) u (map (λ (w : Want). (slot_for k.instances (is_free q) w, w.writable)) ws) i in
      let o = from_map (λ (w : Want). (slot_for k.instances (is_free q) w, w.writable)) r.0 ws r.1 in
      (o.0, o.1, r.2 ∙ ap (granted_slot k.empty q.line) o.2)

  home_of : (o : Option NodeId) (n h : NodeId) → another o n ≡ false → o ≡ Some h → h ≡ n
  home_of None n h e s = none_some h s
  home_of (Some x) n h e s = (let same : x ≡ h = some_is x h s in node_is h n (eqb-true h.0 n.0 (subst (λ (z : NodeId). eqb z.0 n.0 ≡ true) same (not-false (eqb x.0 n.0) e))))

  and_here : (a b : Bool) → a ≡ true → (a && b) ≡ false → b ≡ false
  and_here a b e h = rw e at h

  -- a grant goes on a machine with none of its ticket, and its lease is the last one
  give_core : (b : Machine) (q : Ledger) (g : Grant) (h : Lease) (c : ℕ) → Sound k.empty b → Core k.empty b q → b.last < g.ticket.0 → lease_from g ≡ h → g.ticket.0 ≤ c → c ≤ g.ticket.0 + 64 → h.life.0 ≤ q.lives h.node.0
      → Core k.empty (record b { made = Granted g ∷ b.made; last = g.ticket.0 }) (record q { live = q.live ++ h ∷ []; last = g.ticket.0; ceiling = c })
  give_core b q g h c sound core lt is le block le' =
      let new : b.ending g.ticket.0 ≡ None = fresh k.empty b sound g.ticket.0 lt in
      record {
        live_made = λ x i. elim (in_append x q.live (h ∷ []) i) [
          | inl j ↦ (let l = core.live_made x j in (l.0, (inr l.1.0, l.1.1), l.2))
          | inr j ↦ (g, (inl refl, new), is ∙ sym (in_one x h j))
        ];
        live_kept = λ x l. elim l.0 [
          | inl e ↦ (let e' : x ≡ g = cc in in_right (lease_from x) q.live (h ∷ []) (inl (ap lease_from e' ∙ is)))
          | inr i ↦ in_left (lease_from x) q.live (h ∷ []) (core.live_kept x (i, l.1))
        ];
        retired_made = λ s e. (let r = core.retired_made s e in (r.0, (r.1.0, inr r.1.1, r.1.2, r.1.3)));
        retired_kept = λ s r. elim r.1.1 [
          | inl e ↦ (let e' : r.1.0 ≡ g = cc in none_some Withdrawn (sym new ∙ subst (λ (z : Grant). b.ending z.ticket.0 ≡ Some Withdrawn) e' r.1.2))
          | inr i ↦ core.retired_kept s (r.0, (r.1.0, i, r.1.2, r.1.3))
        ];
        lines = λ s. core.lines s ∙ sym (ap (λ v. line k.empty b s ++ version_at s g.ticket v) new ∙ append-nil (line k.empty b s));
        last = refl;
        ceiling = le;
        block = block;
        seen = λ x i. elim (in_append x q.live (h ∷ []) i) [ inl j ↦ core.seen x j | inr j ↦ subst (λ (z : Lease). z.life.0 ≤ q.lives z.node.0) (sym (in_one x h j)) le' ];
        old_home = core.old_home;
        gone = core.gone;
        lives = core.lives;
      }

  pub give_going : (p : Parked) (w : Work) → Going w → In (acquire p.node p.life p.ask p.wants p.tenure) pool → w.ledger.gone p.node.0 ≡ false → p.life.0 ≤ w.ledger.lives p.node.0 → NoLease w.ledger.live p → decision k w.ledger p ≡ Give → Going (gives k p w)
  unfolding decision gives
  give_going p w going asked here le none e =
      let q : Ledger = w.ledger in
      let b : Machine = going.machine in
      let h : Lease = lease_for k q p in
      let g : Grant = grant_of k.empty q.line h in
      let ws : List Want = leased_wants p.tenure p.wants in
      let picked = pick_give (elsewhere q p) (all_taken k.instances (is_free q) ws) (busy (is_leased q) ws) (not (nat_lt q.last k.greatest)) e in
      let all = met b q ws going.core picked.left picked.idle in
      let below : b.last < g.ticket.0 = (let l : q.last ≡ b.last = going.core.last in omega arith) in
      let free : (u : GrantedSlot) → In u g.slots → Free b u.slot × Based k.empty b u =
      λ u i. (let r = granted_from q ws u i in
      let s : Slot = slot_for k.instances (is_free q) r.0 in
      subst (λ (z : GrantedSlot). Free b z.slot × Based k.empty b z) (sym r.2)
      ((all r.0 r.1).0, (ap length (going.core.lines s), subst (λ v. Names k.empty v (length (q.line s)) (last_digest k.empty (q.line s))) (going.core.lines s) (names_last k.empty (q.line s))))) in
      let kind : IsKind h.shared h.tenure = λ t. (let f = sent.tenures p.node p.life p.ask p.wants p.tenure asked t in ap any_shared f.1) in
      let shared : has_shared g.kind ≡ any_shared p.wants = shared_back h.shared h.tenure kind in
      let tenure : is_tenure g.kind ≡ p.tenure = tenure_back h.shared h.tenure in
      let answers : AnswersAsk g p.wants = record {
        shared = shared;
        slots = subst (λ b. map want_of g.slots ≡ leased_wants b p.wants) (sym tenure) (wants_back q ws);
        instances = λ u i. (let r = granted_from q ws u i in subst (λ (z : GrantedSlot). IsInstance z.slot.folder.mode z.slot.instance) (sym r.2) (all r.0 r.1).1);
        tenure = λ t. sent.tenures p.node p.life p.ask p.wants p.tenure asked (sym tenure ∙ t);
      } in
      let alone : (x : Grant) → Live b x → SameAsk g x → ⊥ = λ x l same. no_grant k.empty b q p going.core none x l (sym same.0, sym same.1, sym same.2) in
      let home : is_tenure g.kind ≡ true → (x : NodeId) → b.old_home ≡ Some x → x ≡ g.node =
      λ t x o. home_of q.old_home p.node x (and_here p.tenure (another q.old_home p.node) (sym tenure ∙ t) picked.here) (going.core.old_home ∙ o) in
      let next : Machine = record b { made = Granted g ∷ b.made; last = g.ticket.0 } in
      let asked' : In (acquire p.node p.life p.ask p.wants (is_tenure g.kind)) pool = subst (λ b. In (acquire p.node p.life p.ask p.wants b) pool) (sym tenure) asked in
      let step : Step k.empty pool b next = Grants g p.wants asked' answers (subst (λ z. z p.node.0 ≡ false) going.core.gone here) alone home below free in
      let now = now_sound b w.sends going.works in
      let new : b.ending g.ticket.0 ≡ None = fresh k.empty b now g.ticket.0 below in
      record {
        machine = next;
        works = Speaks next w.sends (told.Granted g) (Goes_on b next w.sends going.works step) (Says_granted g (inl refl, new));
        ended = going.ended;
        granted = λ x i. elim i [
          | inl e ↦ (let same : x ≡ g = cc in inr (in_right (told.Granted x) w.sends (told.Granted g ∷ []) (inl (ap told.Granted same))))
          | inr j ↦ more_sent x w.sends (told.Granted g) (going.granted x j)
        ];
        core = give_core b q g h (raised k q) now going.core below (lease-grant k.empty q.line h kind) (raised_covers k q going.core.ceiling (not-false (nat_lt q.last k.greatest) picked.below)) (raised_block k q going.core.block) le;
        parked = going.parked;
      }

  pub deny_going : (why : Why) (p : Parked) (w : Work) → Going w → In (acquire p.node p.life p.ask p.wants p.tenure) pool → Going (denies why p w)
  deny_going why p w g asked = record {
    machine = g.machine;
    works = Speaks g.machine w.sends (told.Denied p.node p.life p.ask why) g.works (Says_denied p.node p.life p.ask why p.wants p.tenure asked);
    ended = g.ended;
    granted = λ x i. more_sent x w.sends (told.Denied p.node p.life p.ask why) (g.granted x i);
    core = g.core;
    parked = g.parked;
  }

  carried_going : (d : Decision) (p : Parked) (w : Work) → Going w → In (acquire p.node p.life p.ask p.wants p.tenure) pool → w.ledger.gone p.node.0 ≡ false → p.life.0 ≤ w.ledger.lives p.node.0 → NoLease w.ledger.live p → decision k w.ledger p ≡ d → Going (carried_out k d p w)
  carried_going Give p w g asked here le none e = give_going p w g asked here le none e
  carried_going (Deny why) p w g asked here le none e = deny_going why p w g asked
  carried_going Wait p w g asked here le none e = g

  tried_going : (p : Parked) (w : Work) → Going w → In (acquire p.node p.life p.ask p.wants p.tenure) pool → w.ledger.gone p.node.0 ≡ false → p.life.0 ≤ w.ledger.lives p.node.0 → NoLease w.ledger.live p → Going (tried k p w)
  unfolding tried
  tried_going p w g asked here le none = carried_going (decision k w.ledger p) p w g asked here le none refl

  -- ---- trying the parked asks

  pub asked_later : (gone gone' : ℕ → Bool) (lives lives' : ℕ → ℕ) (ps : List Parked) → gone' ≡ gone → lives' ≡ lives → AllAsked pool gone lives ps → AllAsked pool gone' lives' ps
  asked_later gone gone' lives lives' ps e f all p i = (let r = all p i in (r.0, subst (λ f. f p.node.0 ≡ false) (sym e) r.1, subst (λ (f : ℕ → ℕ). p.life.0 ≤ f p.node.0) (sym f) r.2))

  try_going : (ps : List Parked) (w : Work) → Going w → AllAsked pool w.ledger.gone w.ledger.lives ps → Waits w.ledger.live ps → Going (try_all k ps w)
  try_going [] w g asked waiting = g
  try_going (p ∷ ps) w g asked waiting =
      let a = asked p (inl refl) in
      try_going ps (tried k p w) (tried_going p w g a.0 a.1 a.2 waiting.0)
      (asked_later w.ledger.gone (tried k p w).ledger.gone w.ledger.lives (tried k p w).ledger.lives ps (tried-gone k p w) (tried-lives k p w) (λ q i. asked q (inr i)))
      (tried_waits k p w ps waiting.1 waiting.2)

  pub retried_follows : (w : Work) → F w → F (retried k w)
  unfolding retried
  retried_follows w f =
      let ps : List Parked = w.ledger.parked in
      let g = try_going ps w (going w f) f.agrees.asked f.agrees.waits in
      let stay : List Parked = waiting k ps w in
      let part : HasPart g.machine.parked stay = subst (λ l. HasPart l stay) (sym (try-parked k ps w) ∙ g.parked) (waiting_part k ps w) in
      let next : Machine = record g.machine { parked = stay } in
      record {
        machine = next;
        works = Goes_on g.machine next (try_all k ps w).sends g.works (Unparks stay part);
        ended = g.ended;
        granted = g.granted;
        agrees = agrees_from k.empty pool next (record (try_all k ps w).ledger { parked = stay })
            (record { live_made = g.core.live_made; live_kept = g.core.live_kept; retired_made = g.core.retired_made; retired_kept = g.core.retired_kept; lines = g.core.lines; last = g.core.last; ceiling = g.core.ceiling; block = g.core.block; seen = g.core.seen; old_home = g.core.old_home; gone = g.core.gone; lives = g.core.lives })
            refl
            (asked_later w.ledger.gone (try_all k ps w).ledger.gone w.ledger.lives (try_all k ps w).ledger.lives stay (try-gone k ps w) (try-lives k ps w) (λ p i. f.agrees.asked p (waiting_in k ps w p i)))
            (waiting_waits k ps w f.agrees.waits);
      }
