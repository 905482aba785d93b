-- Leases and the live grants that they are of.
use Rattle.std.proofs.Common.{◌≡◌, ◌≢◌, ℕ, zero, suc, ◌+◌, ◌<◌, ◌≤◌, List, [], ◌∷◌, ◌++◌, Bool, true, false, not, ◌&&◌, eqb, length, map, filter, Some, None, slice_get, refl, sym, ◌∙◌, ap, subst, inl, inr, arith}
use Rattle.std.proofs.lemmas.Bool.{cases_Bool, and_parts, not-true, or_parts}
use Rattle.std.proofs.lemmas.Bool.Decides.{nat_tests}
use Rattle.std.specs.List.{find}
use Rattle.farm_base.specs.Kinds.{IsKind}
use Rattle.farm_base.proofs.KindLemmas.{kind_back, is_kind, tenure_back, shared_back}
use Rattle.protocol.specs.Lists.{In}
use Rattle.protocol.specs.Names.{Slot, slot_eq, Digest, NodeId, Life, Ask, FolderName}
use Rattle.protocol.specs.Machine.{Grant, GrantedSlot, LineVersion, Message, Parked, Machine, Has, Live, Leased, Retired, Free, line, Names, written, acquire}
use Rattle.protocol.specs.Ledger.{Ledger, Lease, has_slot, some_lease, is_free, writable_slots, last_digest, granted_slot, grant_of, is_of, is_parked, lowest}
use Rattle.protocol.specs.Follows.{lease_from, NoLease, Waits, Agrees}
use Rattle.protocol.proofs.Base.{true_false, none_some, some_is, eqb_same, slot_eq_same, slot_eq_is, in_map, from_map, any_in, from_any, any_none, from_filter, in_append, in_one}
use Rattle.protocol.proofs.Steps.{Sound}

-- what the ledger keeps of grants, lines and nodes agrees with the machine
pub record Core (empty : Digest) (m : Machine) (q : Ledger) : Type 0 where
  pub live_made : (h : Lease) → In h q.live → (g : Grant) × Live m g × (lease_from g ≡ h)
  pub live_kept : (g : Grant) → Live m g → In (lease_from g) q.live
  pub retired_made : (s : Slot) → q.retired s ≡ true → Retired m s
  pub retired_kept : (s : Slot) → Retired m s → q.retired s ≡ true
  pub lines : (s : Slot) → q.line s ≡ line empty m s
  pub last : q.last ≡ m.last
  pub ceiling : q.last ≤ q.ceiling
  pub block : q.ceiling ≤ q.last + 64
  pub seen : (h : Lease) → In h q.live → h.life.0 ≤ q.lives h.node.0
  pub old_home : q.old_home ≡ m.old_home
  pub gone : q.gone ≡ m.gone
  pub lives : q.lives ≡ m.lives

pub core_of : (empty : Digest) (pool : List Message) (m : Machine) (q : Ledger) → Agrees empty pool m q → Core empty m q
core_of empty pool m q a = record {
  live_made = a.live_made;
  live_kept = a.live_kept;
  retired_made = a.retired_made;
  retired_kept = a.retired_kept;
  lines = a.lines;
  last = a.last;
  ceiling = a.ceiling;
  block = a.block;
  seen = a.seen;
  old_home = a.old_home;
  gone = a.gone;
  lives = a.lives;
}

-- each of these asks was sent by a node that isn't retired
abbrev pub AllAsked : List Message → (ℕ → Bool) → (ℕ → ℕ) → List Parked → Type 0
AllAsked pool gone lives ps = (p : Parked) → In p ps → In (acquire p.node p.life p.ask p.wants p.tenure) pool × (gone p.node.0 ≡ false) × (p.life.0 ≤ lives p.node.0)

pub agrees_from : (empty : Digest) (pool : List Message) (m : Machine) (q : Ledger) → Core empty m q → q.parked ≡ m.parked → AllAsked pool q.gone q.lives q.parked → Waits q.live q.parked → Agrees empty pool m q
agrees_from empty pool m q c parked asked waits = record {
  live_made = c.live_made;
  live_kept = c.live_kept;
  retired_made = c.retired_made;
  retired_kept = c.retired_kept;
  lines = c.lines;
  last = c.last;
  ceiling = c.ceiling;
  block = c.block;
  seen = c.seen;
  old_home = c.old_home;
  gone = c.gone;
  lives = c.lives;
  parked = parked;
  asked = asked;
  waits = waits;
}

-- ---- slots of a lease

pub has_to : (us : List GrantedSlot) (s : Slot) (u : GrantedSlot) → In u us → u.slot ≡ s → has_slot (map (λ (v : GrantedSlot). (v.slot, v.writable)) us) s ≡ true
has_to us s u i e = any_in (λ (x : Slot × Bool). slot_eq x.0 s) (u.slot, u.writable) (map (λ (v : GrantedSlot). (v.slot, v.writable)) us) (in_map (λ (v : GrantedSlot). (v.slot, v.writable)) u us i)
    (subst (λ z. slot_eq u.slot z ≡ true) e (slot_eq_same u.slot))

pub lease_has : (g : Grant) (s : Slot) → Has g s → has_slot (lease_from g).slots s ≡ true
lease_has g s h = has_to g.slots s h.0 h.1 h.2

pub has_lease : (g : Grant) (s : Slot) → has_slot (lease_from g).slots s ≡ true → Has g s
has_lease g s h =
    let r = from_any (λ (x : Slot × Bool). slot_eq x.0 s) (lease_from g).slots h in
    let o = from_map (λ (v : GrantedSlot). (v.slot, v.writable)) r.0 g.slots r.1 in
    (o.0, o.1, sym (ap (λ (x : Slot × Bool). x.0) o.2) ∙ slot_eq_is r.0.0 s r.2)

pub writable-from : (us : List GrantedSlot) → writable_slots (map (λ (v : GrantedSlot). (v.slot, v.writable)) us) ≡ written us
writable-from [] = refl
writable-from (u ∷ us) = elim (cases_Bool u.writable) [
  | inl e ↦ (let rest = writable-from us in rw (e, rest) refl)
  | inr e ↦ (let rest = writable-from us in rw (e, rest) refl)
]

-- ---- the Grant of a lease

-- a version 0 is named by an empty line, any other by its last version
names_at_end : (empty : Digest) (vs : List LineVersion) (d : Digest) → Names empty vs (length vs) d → d ≡ last_digest empty vs
names_at_end empty [] d (inl h) = h.1
names_at_end empty [] d (inr h) = none_some h.1 h.3
names_at_end empty (v ∷ vs) d (inl h) = (let bad : suc (length vs) ≡ 0 = h.0 in absurd (omega arith))
names_at_end empty (v ∷ vs) d (inr h) = (let at : h.0 ≡ length vs = (let e : suc (length vs) ≡ h.0 + 1 = h.2 in omega arith) in
    sym h.4 ∙ last_is empty v vs h.1 (ap (slice_get (v ∷ vs)) (sym at) ∙ h.3))
  where
    last_is : (empty : Digest) (v : LineVersion) (vs : List LineVersion) (u : LineVersion) → slice_get (v ∷ vs) (length vs) ≡ Some u → u.digest ≡ last_digest empty (v ∷ vs)
    last_is empty v [] u e = ap (λ (z : LineVersion). z.digest) (some_is u v (sym e))
    last_is empty v (x ∷ xs) u e = last_is empty x xs u e

pub names_last : (empty : Digest) (vs : List LineVersion) → Names empty vs (length vs) (last_digest empty vs)
names_last empty [] = inl (refl, refl)
names_last empty (v ∷ vs) = (let r = at_end v vs in inr (length vs, r.0, omega arith, r.1, r.2))
  where
    at_end : (v : LineVersion) (vs : List LineVersion) → (u : LineVersion) × (slice_get (v ∷ vs) (length vs) ≡ Some u) × (u.digest ≡ last_digest empty (v ∷ vs))
    at_end v [] = (v, refl, refl)
    at_end v (x ∷ xs) = at_end x xs

slots_back : (empty : Digest) (line : Slot → List LineVersion) (us : List GrantedSlot) → ((u : GrantedSlot) → In u us → (u.base ≡ length (line u.slot)) × (u.digest ≡ last_digest empty (line u.slot)))
    → map (granted_slot empty line) (map (λ (v : GrantedSlot). (v.slot, v.writable)) us) ≡ us
slots_back empty line [] h = refl
slots_back empty line (u ∷ us) h =
    let rest = slots_back empty line us (λ v i. h v (inr i)) in
    let here : granted_slot empty line (u.slot, u.writable) ≡ u = (λ i. record { slot = u.slot; writable = u.writable; base = (sym (h u (inl refl)).0) i; digest = (sym (h u (inl refl)).1) i }) in
    λ i. here i ∷ rest i

-- the Grant of a live grant's lease is that grant
pub grant-lease : (empty : Digest) (m : Machine) (q : Ledger) (g : Grant) → Sound empty m → Core empty m q → Live m g → grant_of empty q.line (lease_from g) ≡ g
grant-lease empty m q g sound core l =
    let all : (u : GrantedSlot) → In u g.slots → (u.base ≡ length (q.line u.slot)) × (u.digest ≡ last_digest empty (q.line u.slot)) =
    λ u i. (let base : u.base ≡ length (line empty m u.slot) = sound.based g u l i in
    let named : Names empty (line empty m u.slot) (length (line empty m u.slot)) u.digest = subst (λ b. Names empty (line empty m u.slot) b u.digest) base (sound.named g u l.0 i) in
    (base ∙ ap length (sym (core.lines u.slot)), names_at_end empty (line empty m u.slot) u.digest named ∙ ap (last_digest empty) (sym (core.lines u.slot)))) in
    let kind = kind_back g.kind in
    let slots = slots_back empty q.line g.slots all in
    λ i. record { ticket = g.ticket; node = g.node; life = g.life; ask = g.ask; kind = kind i; slots = slots i }

pairs_back : (empty : Digest) (line : Slot → List LineVersion) (xs : List (Slot × Bool)) → map (λ (v : GrantedSlot). (v.slot, v.writable)) (map (granted_slot empty line) xs) ≡ xs
pairs_back empty line [] = refl
pairs_back empty line (x ∷ xs) = (let rest = pairs_back empty line xs in λ i. x ∷ rest i)

-- the lease of a lease's Grant is that lease
pub lease-grant : (empty : Digest) (line : Slot → List LineVersion) (h : Lease) → IsKind h.shared h.tenure → lease_from (grant_of empty line h) ≡ h
lease-grant empty line h is =
    let shared = shared_back h.shared h.tenure is in
    let tenure = tenure_back h.shared h.tenure in
    let slots = pairs_back empty line h.slots in
    λ i. record { ticket = h.ticket; node = h.node; life = h.life; ask = h.ask; shared = shared i; tenure = tenure i; slots = slots i }

-- a live lease is a grant's
pub live_kind : (empty : Digest) (m : Machine) (q : Ledger) (h : Lease) → Core empty m q → In h q.live → IsKind h.shared h.tenure
live_kind empty m q h core i = (let g = core.live_made h i in subst (λ (x : Lease). IsKind x.shared x.tenure) g.2 (is_kind g.0.kind))

-- ---- leased and free slots

pub not_leased : (empty : Digest) (m : Machine) (q : Ledger) (s : Slot) → Core empty m q → some_lease q.live s ≡ false → Leased m s → ⊥
not_leased empty m q s core e l = true_false (some_lease q.live s) (any_in (λ (g : Lease). has_slot g.slots s) (lease_from l.0) q.live (core.live_kept l.0 l.1) (lease_has l.0 s l.2)) e

pub free_is : (empty : Digest) (m : Machine) (q : Ledger) (s : Slot) → Core empty m q → is_free q s ≡ true → Free m s
free_is empty m q s core e = (let b = and_parts (not (some_lease q.live s)) (not (q.retired s)) e in
    (not_leased empty m q s core (not-true (some_lease q.live s) b.0), λ r. true_false (q.retired s) (core.retired_kept s r) (not-true (q.retired s) b.1)))

pub lowest-none : (free : Slot → Bool) (f : FolderName) (i : ℕ) → lowest free f i zero ≡ 0
unfolding lowest
lowest-none free f i = refl

pub lowest-free : (free : Slot → Bool) (f : FolderName) (i k : ℕ) → free (record { folder = f; instance = i }) ≡ true → lowest free f i (suc k) ≡ i
unfolding lowest
lowest-free free f i k e = rw e refl

pub lowest-taken : (free : Slot → Bool) (f : FolderName) (i k : ℕ) → free (record { folder = f; instance = i }) ≡ false → lowest free f i (suc k) ≡ lowest free f (i + 1) k
unfolding lowest
lowest-taken free f i k e = rw e refl

-- the lowest free instance is free, and one of the k from i on
pub lowest_is : (free : Slot → Bool) (f : FolderName) (k i : ℕ) → lowest free f i k ≢ 0 → (free (record { folder = f; instance = lowest free f i k }) ≡ true) × (i ≤ lowest free f i k) × (lowest free f i k < i + k)
lowest_is free f zero i h = absurd (h (lowest-none free f i))
lowest_is free f (suc k) i h = elim (cases_Bool (free (record { folder = f; instance = i }))) [
  | inl e ↦ (let is : lowest free f i (suc k) ≡ i = lowest-free free f i k e in
      (subst (λ (z : ℕ). free (record { folder = f; instance = z }) ≡ true) (sym is) e, omega arith, omega arith))
  | inr e ↦ (let is : lowest free f i (suc k) ≡ lowest free f (i + 1) k = lowest-taken free f i k e in
      let r = lowest_is free f k (i + 1) (λ z. h (is ∙ z)) in
      let low : i + 1 ≤ lowest free f (i + 1) k = r.1 in
      let high : lowest free f (i + 1) k < i + 1 + k = r.2 in
      (subst (λ (z : ℕ). free (record { folder = f; instance = z }) ≡ true) (sym is) r.0, omega arith, omega arith))
]

-- ---- look-ups

pub find_some : {A : Type 0} (test : A → Bool) (xs : List A) (x : A) → find test xs ≡ Some x → In x xs × (test x ≡ true)
find_some test [] x e = none_some x e
find_some test (y ∷ ys) x e = elim (cases_Bool (test y)) [
  | inl t ↦ (let same : y ≡ x = some_is y x (rw t at e) in (inl (sym same), subst (λ z. test z ≡ true) same t))
  | inr t ↦ (let r = find_some test ys x (rw t at e) in (inr r.0, r.1))
]

pub find_none : {A : Type 0} (test : A → Bool) (xs : List A) → find test xs ≡ None → (x : A) → In x xs → test x ≡ false
find_none test [] e x i = absurd i
find_none test (y ∷ ys) e x i = elim (cases_Bool (test y)) [
  | inl t ↦ none_some y (sym (rw t at e))
  | inr t ↦ elim i [ inl p ↦ subst (λ z. test z ≡ false) (sym p) t | inr j ↦ find_none test ys (rw t at e) x j ]
]

pub find_in : {A : Type 0} (test : A → Bool) (xs : List A) (x : A) → In x xs → test x ≡ true → (y : A) × (find test xs ≡ Some y)
find_in test [] x i t = absurd i
find_in test (y ∷ ys) x i t = elim (cases_Bool (test y)) [
  | inl u ↦ (y, rw u refl)
  | inr u ↦ elim i [
    | inl p ↦ true_false (test y) (subst (λ z. test z ≡ true) p t) u
    | inr j ↦ (let r = find_in test ys x j t in (r.0, rw u r.1))
  ]
]

-- ---- asks that wait

pub flip_false : (a b : ℕ) → eqb a b ≡ eqb b a
flip_false a b = grind (arith, nat_tests)

-- an ask that isn't among these is another than each
other_ask : (ps : List Parked) (p : Parked) → is_parked ps p.node p.life p.ask ≡ false → (p' : Parked) → In p' ps → (h : Lease) → h.node ≡ p.node → h.life ≡ p.life → h.ask ≡ p.ask → is_of p'.node p'.life p'.ask h ≡ false
other_ask ps p e p' i h n l a =
    let f : ((eqb p'.node.0 p.node.0) && (eqb p'.life.0 p.life.0) && (eqb p'.ask.0 p.ask.0)) ≡ false = any_none (λ (r : Parked). (eqb r.node.0 p.node.0) && (eqb r.life.0 p.life.0) && (eqb r.ask.0 p.ask.0)) p' ps e i in
    let x : eqb h.node.0 p'.node.0 ≡ eqb p'.node.0 p.node.0 = ap (λ (z : NodeId). eqb z.0 p'.node.0) n ∙ flip_false p.node.0 p'.node.0 in
    let y : eqb h.life.0 p'.life.0 ≡ eqb p'.life.0 p.life.0 = ap (λ (z : Life). eqb z.0 p'.life.0) l ∙ flip_false p.life.0 p'.life.0 in
    let z : eqb h.ask.0 p'.ask.0 ≡ eqb p'.ask.0 p.ask.0 = ap (λ (z : Ask). eqb z.0 p'.ask.0) a ∙ flip_false p.ask.0 p'.ask.0 in
    rw (x, y, z) f

no_lease_push : (live : List Lease) (h : Lease) (p : Parked) → NoLease live p → is_of p.node p.life p.ask h ≡ false → NoLease (live ++ h ∷ []) p
no_lease_push live h p none other g i = elim (in_append g live (h ∷ []) i) [
  | inl j ↦ none g j
  | inr j ↦ subst (λ z. is_of p.node p.life p.ask z ≡ false) (sym (in_one g h j)) other
]

waits_each : (live : List Lease) (h : Lease) (ps : List Parked) → ((p' : Parked) → In p' ps → is_of p'.node p'.life p'.ask h ≡ false) → Waits live ps → Waits (live ++ h ∷ []) ps
waits_each live h [] other w = tt
waits_each live h (p ∷ ps) other w = (no_lease_push live h p w.0 (other p (inl refl)), w.1, waits_each live h ps (λ r i. other r (inr i)) w.2)

-- asks that wait, wait on where another is granted
pub waits_give : (live : List Lease) (h : Lease) (p : Parked) (ps : List Parked) → h.node ≡ p.node → h.life ≡ p.life → h.ask ≡ p.ask → is_parked ps p.node p.life p.ask ≡ false → Waits live ps → Waits (live ++ h ∷ []) ps
waits_give live h p ps n l a e w = waits_each live h ps (λ p' i. other_ask ps p e p' i h n l a) w

pub waits_less : (live live' : List Lease) (ps : List Parked) → ((g : Lease) → In g live' → In g live) → Waits live ps → Waits live' ps
waits_less live live' [] less w = tt
waits_less live live' (p ∷ ps) less w = (λ g i. w.0 g (less g i), w.1, waits_less live live' ps less w.2)

pub parked_part : (ps qs : List Parked) (n : NodeId) (l : Life) (a : Ask) → ((p : Parked) → In p qs → In p ps) → is_parked ps n l a ≡ false → is_parked qs n l a ≡ false
parked_part ps qs n l a less e = elim (cases_Bool (is_parked qs n l a)) [
  | inl t ↦ (let r = from_any (λ (p : Parked). (eqb p.node.0 n.0) && (eqb p.life.0 l.0) && (eqb p.ask.0 a.0)) qs t in
      true_false (is_parked ps n l a) (any_in (λ (p : Parked). (eqb p.node.0 n.0) && (eqb p.life.0 l.0) && (eqb p.ask.0 a.0)) r.0 ps (less r.0 r.1) r.2) e)
  | inr f ↦ f
]

pub waits_filter : (live : List Lease) (test : Parked → Bool) (ps : List Parked) → Waits live ps → Waits live (filter test ps)
waits_filter live test [] w = tt
waits_filter live test (p ∷ ps) w = elim (cases_Bool (test p)) [
  | inl t ↦ rw t (w.0, parked_part ps (filter test ps) p.node p.life p.ask (λ r i. (from_filter test r ps i).0) w.1, waits_filter live test ps w.2)
  | inr t ↦ rw t (waits_filter live test ps w.2)
]

pub parked-push : (ps : List Parked) (p : Parked) (n : NodeId) (l : Life) (a : Ask) → is_parked ps n l a ≡ false → ((eqb p.node.0 n.0) && (eqb p.life.0 l.0) && (eqb p.ask.0 a.0)) ≡ false → is_parked (ps ++ p ∷ []) n l a ≡ false
parked-push [] p n l a e f = rw f refl
parked-push (q ∷ qs) p n l a e f =
    let o = or_parts ((eqb q.node.0 n.0) && (eqb q.life.0 l.0) && (eqb q.ask.0 a.0)) (is_parked qs n l a) e in
    let here : ((eqb q.node.0 n.0) && (eqb q.life.0 l.0) && (eqb q.ask.0 a.0)) ≡ false = o.0 in
    let rest : is_parked (qs ++ p ∷ []) n l a ≡ false = parked-push qs p n l a o.1 f in
    rw (here, rest) refl

pub waits_push : (live : List Lease) (ps : List Parked) (p : Parked) → Waits live ps → NoLease live p → is_parked ps p.node p.life p.ask ≡ false → Waits live (ps ++ p ∷ [])
waits_push live [] p w none e = (none, refl, tt)
waits_push live (q ∷ qs) p w none e =
    let o = or_parts ((eqb q.node.0 p.node.0) && (eqb q.life.0 p.life.0) && (eqb q.ask.0 p.ask.0)) (is_parked qs p.node p.life p.ask) e in
    let n = flip_false p.node.0 q.node.0 in
    let l = flip_false p.life.0 q.life.0 in
    let a = flip_false p.ask.0 q.ask.0 in
    let other : ((eqb p.node.0 q.node.0) && (eqb p.life.0 q.life.0) && (eqb p.ask.0 q.ask.0)) ≡ false = rw (n, l, a) o.0 in
    (w.0, parked-push qs p q.node q.life q.ask w.1 other, waits_push live qs p w.2 none o.1)

-- no grant of an ask without a lease is live
pub no_grant : (empty : Digest) (m : Machine) (q : Ledger) (p : Parked) → Core empty m q → NoLease q.live p → (g : Grant) → Live m g → (g.node ≡ p.node) × (g.life ≡ p.life) × (g.ask ≡ p.ask) → ⊥
no_grant empty m q p core none g l same =
    let n : eqb g.node.0 p.node.0 ≡ true = subst (λ (z : NodeId). eqb g.node.0 z.0 ≡ true) same.0 (eqb_same g.node.0) in
    let f : eqb g.life.0 p.life.0 ≡ true = subst (λ (z : Life). eqb g.life.0 z.0 ≡ true) same.1 (eqb_same g.life.0) in
    let a : eqb g.ask.0 p.ask.0 ≡ true = subst (λ (z : Ask). eqb g.ask.0 z.0 ≡ true) same.2 (eqb_same g.ask.0) in
    true_false (is_of p.node p.life p.ask (lease_from g)) (rw (n, f, a) refl) (none (lease_from g) (core.live_kept g l))
