-- What a ledger keeps to, over all that a message does.
use Rattle.std.proofs.Common.{◌≡◌, ℕ, ◌+◌, ◌<◌, ◌≤◌, List, [], ◌∷◌, ◌++◌, Bool, true, false, not, ◌&&◌, ◌||◌, get_or, map, filter, Option, Some, None, refl, sym, ◌∙◌, ap, subst, inl, inr, arith, cond}
use Rattle.std.proofs.lemmas.Bool.{cases_Bool, not-true, and_parts, or_parts, eqb-true}
use Rattle.std.specs.Prelude.{All, AllPairs, nat_lt}
use Rattle.std.specs.List.{list_any, find, AllByRecursion}
use Rattle.std.specs.List.Sorted.{IsStrictlySortedBy}
use Rattle.std.specs.Ordering.{is_eq}
use Rattle.std.specs.declared.cmp.Ordering.TheVariants.{Less}
use Rattle.std.proofs.lemmas.List.Elements.{All-head, All-tail, All-cons, All-nil, All-filter, All-push}
use Rattle.names.specs.Slots.{slot_cmp}
use Rattle.farm_base.specs.Wanted.{IsWants}
use Rattle.farm_base.specs.declared.message.Request.{Request}
use Rattle.farm_base.specs.declared.message.Request.TheVariants.{Hello, Acquire, Commit, Release}
use Rattle.names.proofs.CompareLaws as laws
use Rattle.holdings.specs.Leases.{AreApart, Rises}
use Rattle.holdings.proofs.LeaseLemmas.{AllPairs-head, AllPairs-tail}
use Rattle.leaseindex.proofs.EndedLemmas.{leases-filter}
use Rattle.leases.proofs.TableLemmas.{leases_more, FreeIsOpen}
use Rattle.protocol.specs.Names.{Slot, slot_eq, slots_eq, NodeId, Life, Ticket, Digest}
use Rattle.protocol.specs.Lists.{is_nil}
use Rattle.protocol.specs.Machine.{News, LineVersion, Parked, ToCoord, slots_of, digest_for, version_of}
use Rattle.protocol.specs.Ledger.{Limits, Ledger, Lease, Work, pick, elsewhere, is_free, some_lease, has_slot, writable_slots, decision, gives, lease_for, carried_out, tried, stays, try_all, waiting, parks, retried, recall, recalls, holds_wanted, decided, acquiring, has_ticket, lease_under, lease_of, is_parked, without, ends, commits, confirms, may_commit, may_release, is_its, on_all, answered, committing, released, answering, is_older, is_older_ask, sees, newer_life, is_home, handled}
use Rattle.events.specs.declared.answer.Decision.{Decision}
use Rattle.events.specs.declared.answer.Decision.TheVariants.{Give, Deny, Wait}
use Rattle.versions.specs.declared.lines.Addition.{Addition}
use Rattle.versions.specs.declared.lines.SlotLine.{SlotLine}
use Rattle.effects.specs.Held.{line_at}
use Rattle.versions.specs.Lines.{news_of}
use Rattle.versions.specs.Additions.{HasRoom, IsAbove, AreReady}
use Rattle.effects.specs.Sound.{IsOpen, IsSound}
use Rattle.drafts.specs.Requests.{IsRequest}
use Rattle.protocol.proofs.Base.{true_false}
use Rattle.drafts.proofs.StateWords.{decision-is}
use Rattle.drafts.proofs.Trying.{tried-is, retried-is}

-- ---- all of a list

All-more : {A : Type 0} (P Q : A → Type 0) (xs : List A) → ((x : A) → P x → Q x) → All P xs → All Q xs
All-more P Q xs f h k d inside = f (get_or xs k d) (h k d inside)

find_all : {A : Type 0} (P : A → Type 0) (test : A → Bool) (xs : List A) (x : A) → All P xs → find test xs ≡ Some x → P x × (test x ≡ true)
find_all P test [] x h e = absurd (cc e)
find_all P test (y ∷ ys) x h e = elim (cases_Bool (test y)) [
  | inl t ↦ (let at : Some y ≡ Some x = rw t at e in let same : y ≡ x = cc at in (subst P same (All-head P y ys h), subst (λ z. test z ≡ true) same t))
  | inr t ↦ find_all P test ys x (All-tail P y ys h) (rw t at e)
]

-- ---- granting

picked : (a b c d : Bool) → pick a b c d ≡ Give → (b ≡ false) × (c ≡ false)
picked true b c d e = absurd (cc e)
picked false true c d e = absurd (cc e)
picked false false true d e = absurd (cc e)
picked false false false true e = absurd (cc e)
picked false false false false e = (refl, refl)

free_is_open : (q : Ledger) → FreeIsOpen (is_free q) q.live
free_is_open q s e = not-true (some_lease q.live s) (and_parts _ _ e).0

-- no ticket of the leases is above the last
abbrev Given : ℕ → List Lease → Type 0
Given last live = All (λ g. g.ticket.0 ≤ last) live

sound-gives : (k : Limits) (p : Parked) (w : Work) → IsSound w.ledger → IsWants p.wants → decision k w.ledger p ≡ Give → IsSound (gives k p w).ledger
unfolding gives
sound-gives k p w s wants e =
    let q : Ledger = w.ledger in
    let g : Lease = lease_for k q p in
    let fits = picked _ _ _ _ (sym (decision-is k q p) ∙ e) in
    let above : All (λ h. h.ticket.0 < g.ticket.0) q.live = λ i d inside. (let h = s.given i d inside in omega arith) in
    let given : Given (q.last + 1) q.live = λ i d inside. (let h = s.given i d inside in omega arith) in
    record {
      leases = leases_more k.instances (is_free q) q.live p.wants g (free_is_open q) wants fits.0 fits.1 refl above s.leases;
      given = All-push (λ h. h.ticket.0 ≤ q.last + 1) q.live g given (omega arith);
      past = λ x i d inside. (let h = s.past x i d inside in omega arith);
      ahead = All-push (IsOpen q.line) q.live g s.ahead (λ x has i d inside. (let h = s.past x i d inside in omega arith));
      asks = s.asks;
    }

sound-carried : (d : Decision) (k : Limits) (p : Parked) (w : Work) → IsSound w.ledger → IsWants p.wants → decision k w.ledger p ≡ d → IsSound (carried_out k d p w).ledger
sound-carried Give k p w s wants e = sound-gives k p w s wants e
sound-carried (Deny why) k p w s wants e = s
sound-carried Wait k p w s wants e = s

pub sound-tried : (k : Limits) (p : Parked) (w : Work) → IsSound w.ledger → IsWants p.wants → IsSound (tried k p w).ledger
sound-tried k p w s wants =
    let P : Work → Type 0 = λ x. IsSound x.ledger in
    subst P (sym (tried-is k p w (decision k w.ledger p) refl)) (sound-carried (decision k w.ledger p) k p w s wants refl)

-- the same, unless the ask was over
pub sound-unless : (k : Limits) (p : Parked) (b : Bool) (w w' : Work) → w' ≡ cond b w (tried k p w) → IsSound w.ledger → IsWants p.wants → IsSound w'.ledger
sound-unless k p true w w' e s wants = (let P : Work → Type 0 = λ x. IsSound x.ledger in subst P (sym e) s)
sound-unless k p false w w' e s wants = (let P : Work → Type 0 = λ x. IsSound x.ledger in subst P (sym e) (sound-tried k p w s wants))

-- each ask has wants
abbrev AllWants : List Parked → Type 0
AllWants ps = All (λ p. IsWants p.wants) ps

sound-try_all : (k : Limits) (ps : List Parked) (w : Work) → IsSound w.ledger → AllWants ps → IsSound (try_all k ps w).ledger
sound-try_all k [] w s wants = s
sound-try_all k (p ∷ ps) w s wants = sound-try_all k ps (tried k p w) (sound-tried k p w s (All-head (λ p. IsWants p.wants) p ps wants)) (All-tail (λ p. IsWants p.wants) p ps wants)

wants-waiting : (k : Limits) (ps : List Parked) (w : Work) → AllWants ps → AllWants (waiting k ps w)
wants-waiting k [] w wants = wants
wants-waiting k (p ∷ ps) w wants = elim (cases_Bool (stays k p w)) [
  | inl e ↦ rw e (All-cons (λ p. IsWants p.wants) p (waiting k ps (tried k p w)) (All-head (λ p. IsWants p.wants) p ps wants) (wants-waiting k ps (tried k p w) (All-tail (λ p. IsWants p.wants) p ps wants)))
  | inr e ↦ rw e (wants-waiting k ps (tried k p w) (All-tail (λ p. IsWants p.wants) p ps wants))
]

pub sound-parks : (ps : List Parked) (w : Work) → IsSound w.ledger → AllWants ps → IsSound (parks ps w).ledger
sound-parks ps w s wants = record { leases = s.leases; given = s.given; past = s.past; ahead = s.ahead; asks = wants }

pub sound-retried : (k : Limits) (w : Work) → IsSound w.ledger → IsSound (retried k w).ledger
sound-retried k w s =
    let P : Work → Type 0 = λ x. IsSound x.ledger in
    subst P (sym (retried-is k w)) (sound-parks (waiting k w.ledger.parked w) (try_all k w.ledger.parked w) (sound-try_all k w.ledger.parked w s s.asks) (wants-waiting k w.ledger.parked w s.asks))

-- ---- leases end

-- some leases fewer
pub sound-fewer : (p : Lease → Bool) (q : Ledger) → IsSound q → IsSound (record q { live = filter p q.live })
sound-fewer p q s = record {
  leases = leases-filter p q.live s.leases;
  given = All-filter p (λ g. g.ticket.0 ≤ q.last) q.live s.given;
  past = s.past;
  ahead = All-filter p (IsOpen q.line) q.live s.ahead;
  asks = s.asks;
}

pub sound-sees : (n : NodeId) (l : Life) (w : Work) → IsSound w.ledger → IsSound (sees n l w).ledger
sound-sees n l w s = record {
  leases = leases-filter (λ g. not (is_older n l g)) w.ledger.live s.leases;
  given = All-filter (λ g. not (is_older n l g)) (λ g. g.ticket.0 ≤ w.ledger.last) w.ledger.live s.given;
  past = s.past;
  ahead = All-filter (λ g. not (is_older n l g)) (IsOpen w.ledger.line) w.ledger.live s.ahead;
  asks = All-filter (λ p. not (is_older_ask n l p)) (λ p. IsWants p.wants) w.ledger.parked s.asks;
}

pub sound-newer_life : (k : Limits) (n : NodeId) (l : Life) (w : Work) → IsSound w.ledger → IsSound (newer_life k n l w).ledger
unfolding newer_life
sound-newer_life k n l w s = elim (cases_Bool (list_any (is_older n l) w.ledger.live || is_home n w.ledger.old_home)) [
  | inl e ↦ rw e (sound-retried k (sees n l w) (sound-sees n l w s))
  | inr e ↦ rw e (sound-sees n l w s)
]

pub sound-ends : (g : Lease) (w : Work) → IsSound w.ledger → IsSound (ends g w).ledger
sound-ends g w s = sound-fewer (λ h. not (has_ticket g.ticket h)) w.ledger s

-- ---- a commit

flipped : (g h : Lease) → AreApart g h → AreApart h g
flipped g h apart s has = elim (cases_Bool (has_slot g.slots s)) [
  | inl e ↦ true_false (has_slot h.slots s) has (apart s e)
  | inr e ↦ e
]

-- the other leases have no slot of the ticket's
others_apart : (t : Ticket) (live : List Lease) (g : Lease) → AllPairs AreApart live → find (has_ticket t) live ≡ Some g → All (λ h. AreApart h g) (without t live)
others_apart t [] g apart e = absurd (cc e)
others_apart t (x ∷ live) g apart e = elim (cases_Bool (has_ticket t x)) [
  | inl same ↦ (
      let at : Some x ≡ Some g = rw same at e in
      let is : x ≡ g = cc at in
      let rest : All (λ h. AreApart h x) live = All-more (AreApart x) (λ h. AreApart h x) live (λ h. flipped x h) (AllPairs-head AreApart x live apart) in
      rw same (subst (λ z. All (λ h. AreApart h z) (without t live)) is (All-filter (λ h. not (has_ticket t h)) (λ h. AreApart h x) live rest)))
  | inr other ↦ (
      let at : find (has_ticket t) live ≡ Some g = rw other at e in
      rw other (All-cons (λ h. AreApart h g) x (without t live) (find_all (AreApart x) (has_ticket t) live g (AllPairs-head AreApart x live apart) at).0
      (others_apart t live g (AllPairs-tail AreApart x live apart) at)))
]

-- a slot that the lease has not is none that it may write
not_writable : (slots : List (Slot × Bool)) (s : Slot) → has_slot slots s ≡ false → list_any (λ y. slot_eq y s) (writable_slots slots) ≡ false
not_writable [] s h = refl
not_writable (x ∷ xs) s h =
    let o = or_parts (slot_eq x.0 s) (has_slot xs s) h in
    elim (cases_Bool x.1) [
      | inl e ↦ (let here = o.0 in let rest = not_writable xs s o.1 in rw (e, here) rest)
      | inr e ↦ rw e (not_writable xs s o.1)
    ]

-- no news are for a slot that is not among theirs
no_news : (news : List News) (slots : List Slot) (s : Slot) → slots_eq (slots_of news) slots ≡ true → list_any (λ y. slot_eq y s) slots ≡ false → digest_for s news ≡ None
no_news [] slots s e h = refl
no_news (x ∷ news) [] s e h = (let bad : false ≡ true = e in absurd (cc bad))
no_news (x ∷ news) (y ∷ slots) s e h =
    let b = and_parts (slot_eq x.slot y) (slots_eq (slots_of news) slots) e in
    let o = or_parts (slot_eq y s) (list_any (λ z. slot_eq z s) slots) h in
    let other : slot_eq x.slot s ≡ false = ap (λ (z : Slot). slot_eq z s) (laws.slot_exact x.slot y b.0) ∙ o.0 in
    rw other (no_news news slots s b.1 o.1)

-- who may commit
pub record MayCommit (t : Ticket) (news : List News) (live : List Lease) (g : Lease) : Type 0 where
  pub found : find (has_ticket t) live ≡ Some g
  pub slots : slots_eq (slots_of news) (writable_slots g.slots) ≡ true

pub committer : (n : NodeId) (l : Life) (t : Ticket) (news : List News) (live : List Lease) → may_commit n l news (lease_under live t) ≡ true → (g : Lease) × MayCommit t news live g
committer n l t news live h = by (lease_under live t) refl
  where
    by : (o : Option Lease) → lease_under live t ≡ o → (g : Lease) × MayCommit t news live g
    by None e = (let bad : false ≡ true = rw e at h in absurd (cc bad))
    by (Some g) e = (let at : (is_its n l g && slots_eq (slots_of news) (writable_slots g.slots) && not (is_nil news)) ≡ true = rw e at h in
        let a = and_parts (is_its n l g && slots_eq (slots_of news) (writable_slots g.slots)) (not (is_nil news)) at in
        (g, record { found = e; slots = (and_parts (is_its n l g) (slots_eq (slots_of news) (writable_slots g.slots)) a.0).1 }))

append_nothing : (xs : List LineVersion) → xs ++ [] ≡ xs
append_nothing [] = refl
append_nothing (x ∷ xs) = ap (λ ys. x ∷ ys) (append_nothing xs)

all_same : (P : LineVersion → Type 0) (xs : List LineVersion) (t : Ticket) (o : Option Digest) → o ≡ None → All P xs → All P (xs ++ version_of t o)
all_same P xs t o e h = subst (λ (z : Option Digest). All P (xs ++ version_of t z)) (sym e) (subst (All P) (sym (append_nothing xs)) h)

-- what holds of a line and of the ticket holds with the ticket's version
all_with : (P : LineVersion → Type 0) (xs : List LineVersion) (t : Ticket) (o : Option Digest) → All P xs → ((d : Digest) → P (record { ticket = t; digest = d })) → All P (xs ++ version_of t o)
all_with P xs t None h new = all_same P xs t None refl h
all_with P xs t (Some d) h new = All-push P xs (record { ticket = t; digest = d }) h (new d)

pub sound-commits : (n : NodeId) (l : Life) (t : Ticket) (news : List News) (w : Work) → IsSound w.ledger → may_commit n l news (lease_under w.ledger.live t) ≡ true → IsSound (commits t news w).ledger
sound-commits n l t news w s may =
    let q : Ledger = w.ledger in
    let r = committer n l t news q.live may in
    let g : Lease = r.0 in
    let own = find_all (λ h. h.ticket.0 ≤ q.last) (has_ticket t) q.live g s.given r.1.found in
    let is : g.ticket.0 ≡ t.0 = eqb-true g.ticket.0 t.0 own.1 in
    let low : t.0 ≤ q.last = (let h = own.0 in omega arith) in
    let apart = others_apart t q.live g s.leases.apart r.1.found in
    let kept : All (IsOpen q.line) (without t q.live) = All-filter (λ h. not (has_ticket t h)) (IsOpen q.line) q.live s.ahead in
    record {
      leases = leases-filter (λ h. not (has_ticket t h)) q.live s.leases;
      given = All-filter (λ h. not (has_ticket t h)) (λ h. h.ticket.0 ≤ q.last) q.live s.given;
      past = λ x. all_with (λ v. v.ticket.0 ≤ q.last) (q.line x) t (digest_for x news) (s.past x) (λ d. low);
      ahead = λ i d inside x has.
          (let none : digest_for x news ≡ None = no_news news (writable_slots g.slots) x r.1.slots (not_writable g.slots x (apart i d inside x has)) in
          all_same (λ v. v.ticket.0 < (get_or (without t q.live) i d).ticket.0) (q.line x) t (digest_for x news) none (kept i d inside x has));
      asks = s.asks;
    }

sound-committing : (k : Limits) (b : Bool) (n : NodeId) (l : Life) (t : Ticket) (news : List News) (w : Work) → IsSound w.ledger → may_commit n l news (lease_under w.ledger.live t) ≡ b → IsSound (committing k b n l t news w).ledger
sound-committing k true n l t news w s e = sound-retried k (confirms n l t news (commits t news w)) (sound-commits n l t news w s e)
sound-committing k false n l t news w s e = by (not (is_nil news) && on_all w.ledger.line t news)
  where
    by : (b : Bool) → IsSound (answered b n l t news w).ledger
    by true = s
    by false = s

-- ---- the other messages

sound-released : (k : Limits) (b : Bool) (t : Ticket) (o : Option Lease) (w : Work) → IsSound w.ledger → IsSound (released k b t o w).ledger
sound-released k b t None w s = s
sound-released k false t (Some g) w s = s
sound-released k true t (Some g) w s = sound-retried k (ends g w) (sound-ends g w s)

sound-recall : (o : Option Lease) (p : Parked) (w : Work) → AllWants (w.ledger.parked ++ p ∷ []) → IsSound w.ledger → IsSound (parks (w.ledger.parked ++ p ∷ []) (recall o w)).ledger
sound-recall None p w wants s = sound-parks (w.ledger.parked ++ p ∷ []) w s wants
sound-recall (Some g) p w wants s = sound-parks (w.ledger.parked ++ p ∷ []) w s wants

sound-recalls : (b : Bool) (p : Parked) (w : Work) → AllWants (w.ledger.parked ++ p ∷ []) → IsSound w.ledger → IsSound (parks (w.ledger.parked ++ p ∷ []) (recalls b p w)).ledger
sound-recalls true p w wants s = sound-recall (find (holds_wanted p) w.ledger.live) p w wants s
sound-recalls false p w wants s = sound-parks (w.ledger.parked ++ p ∷ []) w s wants

sound-decided : (d : Decision) (k : Limits) (p : Parked) (w : Work) → IsSound w.ledger → IsWants p.wants → decision k w.ledger p ≡ d → IsSound (decided k d p w).ledger
sound-decided Give k p w s wants e = sound-gives k p w s wants e
sound-decided (Deny why) k p w s wants e = s
sound-decided Wait k p w s wants e = sound-recalls (p.tenure && not (elsewhere w.ledger p)) p w (All-push (λ p. IsWants p.wants) w.ledger.parked p s.asks wants) s

sound-acquiring : (k : Limits) (o : Option Lease) (b : Bool) (p : Parked) (w : Work) → IsSound w.ledger → IsWants p.wants → IsSound (acquiring k o b p w).ledger
sound-acquiring k (Some g) b p w s wants = s
sound-acquiring k None true p w s wants = s
sound-acquiring k None false p w s wants = sound-decided (decision k w.ledger p) k p w s wants refl

sound-answering : (k : Limits) (n : NodeId) (l : Life) (r : Request) (w : Work) → IsSound w.ledger → IsRequest r → IsSound (answering k n l r w).ledger
sound-answering k n l Hello w s h = s
sound-answering k n l (Acquire a wants tenure) w s h = sound-acquiring k (lease_of w.ledger.live n l a) (is_parked w.ledger.parked n l a) (record { node = n; life = l; ask = a; wants = wants; tenure = tenure }) w s h
sound-answering k n l (Commit t news) w s h = sound-committing k (may_commit n l news (lease_under w.ledger.live t)) n l t news w s refl
sound-answering k n l (Release t) w s h = sound-released k (may_release n l (lease_under w.ledger.live t)) t (lease_under w.ledger.live t) w s

pub sound-handled : (k : Limits) (y : ToCoord) (w : Work) → IsSound w.ledger → IsRequest y.request → IsSound (handled k y w).ledger
unfolding handled
sound-handled k y w s h = elim (cases_Bool (w.ledger.gone y.node.0)) [
  | inl e ↦ rw e s
  | inr e ↦ rw e (elim (cases_Bool (nat_lt y.life.0 (w.ledger.lives y.node.0))) [
    | inl f ↦ rw f s
    | inr f ↦ rw f (elim (cases_Bool (nat_lt (w.ledger.lives y.node.0) y.life.0)) [
      | inl g ↦ rw g (sound-answering k y.node y.life y.request (newer_life k y.node y.life w) (sound-newer_life k y.node y.life w s) h)
      | inr g ↦ rw g (sound-answering k y.node y.life y.request w s h)
    ])
  ])
]

-- ---- room for what a commit adds

-- no slot is twice among rising slots that may be written
below_writable : (s : Slot) (slots : List (Slot × Bool)) → AllByRecursion (λ x. slot_cmp s x ≡ Less) (map (λ x. x.0) slots) → AllByRecursion (λ x. slot_cmp s x ≡ Less) (writable_slots slots)
below_writable s [] h = tt
below_writable s (x ∷ xs) h = elim (cases_Bool x.1) [
  | inl e ↦ rw e (h.0, below_writable s xs h.1)
  | inr e ↦ rw e (below_writable s xs h.1)
]

writable_rise : (slots : List (Slot × Bool)) → IsStrictlySortedBy slot_cmp (map (λ x. x.0) slots) → IsStrictlySortedBy slot_cmp (writable_slots slots)
unfolding IsStrictlySortedBy
writable_rise [] h = tt
writable_rise (x ∷ xs) h = elim (cases_Bool x.1) [
  | inl e ↦ rw e (below_writable x.0 xs h.0, writable_rise xs h.1)
  | inr e ↦ rw e (writable_rise xs h.1)
]

-- the additions are for these slots
abbrev pub AreFor : List Addition → List Slot → Type 0
AreFor adds slots = slots_eq (slots_of (map news_of adds)) slots ≡ true

apart_from : (a : Addition) (adds : List Addition) (slots : List Slot) → AreFor adds slots → AllByRecursion (λ x. slot_cmp a.slot x ≡ Less) slots → All (λ b. slot_eq a.slot b.slot ≡ false) adds
apart_from a [] slots e h = All-nil (λ b. slot_eq a.slot b.slot ≡ false)
apart_from a (b ∷ adds) [] e h = (let bad : false ≡ true = e in absurd (cc bad))
apart_from a (b ∷ adds) (y ∷ slots) e h =
    let both = and_parts (slot_eq b.slot y) (slots_eq (slots_of (map news_of adds)) slots) e in
    let same : b.slot ≡ y = laws.slot_exact b.slot y both.0 in
    let less : slot_cmp a.slot b.slot ≡ Less = ap (slot_cmp a.slot) same ∙ h.0 in
    All-cons (λ b. slot_eq a.slot b.slot ≡ false) b adds (laws.slot_eq-by_cmp a.slot b.slot ∙ ap is_eq less) (apart_from a adds slots both.1 h.1)

ready_from : (lines : List SlotLine) (t : Ticket) (adds : List Addition) (slots : List Slot) → AreFor adds slots → IsStrictlySortedBy slot_cmp slots → All (HasRoom lines) adds
    → ((s : Slot) → list_any (λ y. slot_eq y s) slots ≡ true → IsAbove lines t s) → AreReady lines t adds
unfolding IsStrictlySortedBy
ready_from lines t [] slots e sorted room above = tt
ready_from lines t (a ∷ adds) [] e sorted room above = (let bad : false ≡ true = e in absurd (cc bad))
ready_from lines t (a ∷ adds) (y ∷ slots) e sorted room above =
    let both = and_parts (slot_eq a.slot y) (slots_eq (slots_of (map news_of adds)) slots) e in
    let same : a.slot ≡ y = laws.slot_exact a.slot y both.0 in
    let here : (slot_eq y a.slot || list_any (λ z. slot_eq z a.slot) slots) ≡ true = (let is : slot_eq y a.slot ≡ true = subst (λ z. slot_eq z a.slot ≡ true) same (laws.slot_eq-itself a.slot) in rw is refl) in (
      All-head (HasRoom lines) a adds room,
      above a.slot here,
      apart_from a adds slots both.1 (subst (λ z. AllByRecursion (λ x. slot_cmp z x ≡ Less) slots) (sym same) sorted.0),
      ready_from lines t adds slots both.1 sorted.1 (All-tail (HasRoom lines) a adds room)
          (λ s h. above s (elim (cases_Bool (slot_eq y s)) [ inl f ↦ rw f refl | inr f ↦ rw f h ])),
    )

writable_has : (slots : List (Slot × Bool)) (s : Slot) → list_any (λ y. slot_eq y s) (writable_slots slots) ≡ true → has_slot slots s ≡ true
writable_has slots s h = elim (cases_Bool (has_slot slots s)) [
  | inl e ↦ e
  | inr e ↦ true_false (list_any (λ y. slot_eq y s) (writable_slots slots)) h (not_writable slots s e)
]

-- what a commit adds is ready
pub ready-commit : (lines : List SlotLine) (q : Ledger) (n : NodeId) (l : Life) (t : Ticket) (news : List News) (adds : List Addition) → IsSound q → q.line ≡ line_at lines
    → may_commit n l news (lease_under q.live t) ≡ true → map news_of adds ≡ news → All (HasRoom lines) adds → AreReady lines t adds
ready-commit lines q n l t news adds s is may e room =
    let r = committer n l t news q.live may in
    let g : Lease = r.0 in
    let ahead = find_all (IsOpen q.line) (has_ticket t) q.live g s.ahead r.1.found in
    let same : g.ticket.0 ≡ t.0 = eqb-true g.ticket.0 t.0 ahead.1 in
    let rises = (find_all Rises (has_ticket t) q.live g s.leases.slots r.1.found).0 in
    let fits : AreFor adds (writable_slots g.slots) = ap (λ (x : List News). slots_eq (slots_of x) (writable_slots g.slots)) e ∙ r.1.slots in
    ready_from lines t adds (writable_slots g.slots) fits (writable_rise g.slots rises) room
    (λ x h. subst (λ (f : Slot → List LineVersion). All (λ v. v.ticket.0 < t.0) (f x)) is
    (subst (λ (m : ℕ). All (λ v. v.ticket.0 < m) (q.line x)) same (ahead.0 x (writable_has g.slots x h))))
