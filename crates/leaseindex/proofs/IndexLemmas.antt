-- The index of live leases by folder.
use Rattle.std.proofs.Common.{◌≡◌, ◌≢◌, ℕ, ◌+◌, ◌<◌, List, [], ◌∷◌, ◌++◌, Bool, true, false, not, cond, ◌&&◌, ◌||◌, eqb, eq-eqb, length, length-append, get_or, filter, Option, Some, None, is_some, refl, sym, ◌∙◌, ap, subst, inl, inr, append_assoc, append-nil, arith}
use Rattle.std.proofs.lemmas.Bool.{cases_Bool, cases_order, eqb-true}
use Rattle.std.proofs.lemmas.List.{get_or_default, get_or-append-add}
use Rattle.std.proofs.lemmas.List.Elements.{All-nil, All-cons, All-head, All-tail, All-push}
use Rattle.std.proofs.lemmas.List.Sums.{fold-append}
use Rattle.std.specs.Prelude.{All, AllPairs}
use Rattle.std.specs.List.{find, list_any}
use Rattle.std.specs.Map.{update, update_all}
use Rattle.std.specs.Option.{option_eq}
use Rattle.indexmap.specs.IndexMap.{IndexMap, get}
use Rattle.names.specs.Folders.{folder_eq}
use Rattle.farm_base.specs.declared.lease.Lease.{Lease}
use Rattle.names.proofs.NameLaws.{folder_exact}
use Rattle.protocol.specs.Names.{Slot, FolderName, Ticket, only_slot}
use Rattle.protocol.specs.Ledger.{has_slot, has_ticket}
use Rattle.protocol.proofs.Leases.{find_some}
use Rattle.leaseindex.specs.Counts.{AreLast}
use Rattle.leaseindex.specs.Index.{ticket_at, IsIndexed, AreIndexed, slot_entries, index_entries}
use Rattle.holdings.specs.Leases.{AreApart, IsBefore}
use Rattle.leaseindex.proofs.FindLemmas.{PassesOnce, only_if}
use Rattle.holdings.proofs.LeaseLemmas.{AllPairs-head, AllPairs-tail}

-- ---- leases put into the index

one_more : {X : Type 0} (a b : Bool) (x y : X) → cond b x (cond a x y) ≡ cond ((a && true) || b) x y
one_more true true x y = refl
one_more true false x y = refl
one_more false true x y = refl
one_more false false x y = refl

one_less : {X : Type 0} (a b : Bool) (x y : X) → cond b x y ≡ cond ((a && false) || b) x y
one_less true b x y = refl
one_less false b x y = refl

-- with the entries of slots an index has their ticket at each folder whose one slot is among them
updates-slots : (t : Ticket) (slots : List (Slot × Bool)) (at : FolderName → Option Ticket) (f : FolderName)
    → update_all folder_eq at (slot_entries t slots) f ≡ cond (has_slot slots (only_slot f)) (Some t) (at f)
updates-slots t [] at f = refl
updates-slots t (x ∷ xs) at f = elim (cases_Bool (eqb x.0.instance 0)) [
  | inl e ↦ rw e (updates-slots t xs (update folder_eq at x.0.folder (Some t)) f ∙ one_more (folder_eq x.0.folder f) (has_slot xs (only_slot f)) (Some t) (at f))
  | inr e ↦ rw e (updates-slots t xs at f ∙ one_less (folder_eq x.0.folder f) (has_slot xs (only_slot f)) (Some t) (at f))
]

-- the lease is apart from one after it
apart_later : (h : Lease) (live : List Lease) (g : Lease) (more : List Lease) → All (AreApart h) (live ++ g ∷ more) → AreApart h g
apart_later h [] g more all = All-head (AreApart h) g more all
apart_later h (k ∷ live) g more all = apart_later h live g more (All-tail (AreApart h) k (live ++ g ∷ more) all)

-- each of the leases is apart from one after them
apart_from : (live : List Lease) (g : Lease) (more : List Lease) → AllPairs AreApart (live ++ g ∷ more) → All (λ h. AreApart h g) live
apart_from [] g more apart = All-nil (λ h. AreApart h g)
apart_from (h ∷ live) g more apart =
    All-cons (λ h. AreApart h g) h live (apart_later h live g more (AllPairs-head AreApart h (live ++ g ∷ more) apart)) (apart_from live g more (AllPairs-tail AreApart h (live ++ g ∷ more) apart))

-- one lease more in the index
indexed-more : (at : FolderName → Option Ticket) (live : List Lease) (g : Lease) → All (λ h. AreApart h g) live → AreIndexed at live
    → AreIndexed (update_all folder_eq at (slot_entries g.ticket g.slots)) (live ++ g ∷ [])
indexed-more at live g apart before = All-push (IsIndexed now) live g kept here
  where
    now : FolderName → Option Ticket
    now = update_all folder_eq at (slot_entries g.ticket g.slots)

    here : IsIndexed now g
    here f has = updates-slots g.ticket g.slots at f ∙ ap (λ (b : Bool). cond b (Some g.ticket) (at f)) has

    kept : All (IsIndexed now) live
    kept k d inside f has = updates-slots g.ticket g.slots at f ∙ ap (λ (b : Bool). cond b (Some g.ticket) (at f)) (apart k d inside (only_slot f) has) ∙ before k d inside f has

-- leases that are added are in the index with their entries
pub indexed-all : (granted live : List Lease) (at : FolderName → Option Ticket) → AllPairs AreApart (live ++ granted) → AreIndexed at live
    → AreIndexed (update_all folder_eq at (index_entries granted)) (live ++ granted)
indexed-all [] live at apart before = subst (AreIndexed at) (sym (append-nil live)) before
indexed-all (g ∷ gs) live at apart before =
    let now : FolderName → Option Ticket = update_all folder_eq at (slot_entries g.ticket g.slots) in
    let more : AreIndexed now (live ++ g ∷ []) = indexed-more at live g (apart_from live g gs apart) before in
    let all : AreIndexed (update_all folder_eq now (index_entries gs)) ((live ++ g ∷ []) ++ gs) =
    indexed-all gs (live ++ g ∷ []) now (subst (AllPairs AreApart) (sym (append_assoc live (g ∷ []) gs)) apart) more in
    let joined : update_all folder_eq at (index_entries (g ∷ gs)) ≡ update_all folder_eq now (index_entries gs) =
    fold-append (λ (h : FolderName → Option Ticket) (p : FolderName × Ticket). update folder_eq h p.0 (Some p.1)) at (slot_entries g.ticket g.slots) (index_entries gs) in
    subst (λ (tickets : FolderName → Option Ticket). AreIndexed tickets (live ++ g ∷ gs)) (sym joined)
    (subst (AreIndexed (update_all folder_eq now (index_entries gs))) (append_assoc live (g ∷ []) gs) all)

-- ---- leases taken out

-- a folder taken out, at which the index had this ticket
pub indexed-without : {S : Type 0} (m n : IndexMap FolderName Ticket S) (k : FolderName) (t : Ticket) → get folder_eq m k ≡ Some t → ((q : FolderName) → get folder_eq n q ≡ cond (folder_eq k q) None (get folder_eq m q))
    → (g : Lease) → g.ticket ≢ t → IsIndexed (ticket_at m) g → IsIndexed (ticket_at n) g
indexed-without m n k t at gone g other before f has = elim (cases_Bool (folder_eq k f)) [
  | inl e ↦ (
      let same : Some g.ticket ≡ Some t = sym (before f has) ∙ ap (ticket_at m) (sym (folder_exact k f e)) ∙ at in
      absurd (other (cc same))
      )
  | inr e ↦ gone f ∙ ap (λ (b : Bool). cond b None (get folder_eq m f)) e ∙ before f has
]

-- what holds of those that fail a test holds of all that are left without those that pass it
pub All-failing : (test : Lease → Bool) (P : Lease → Type 0) (live : List Lease) → All (λ g. test g ≡ false → P g) live → All P (filter (λ g. not (test g)) live)
All-failing test P [] h = All-nil P
All-failing test P (g ∷ live) h = elim (cases_Bool (test g)) [
  | inl e ↦ rw e (All-failing test P live (All-tail (λ g. test g ≡ false → P g) g live h))
  | inr e ↦ rw e (All-cons P g (filter (λ g. not (test g)) live) (All-head (λ g. test g ≡ false → P g) g live h e) (All-failing test P live (All-tail (λ g. test g ≡ false → P g) g live h)))
]

-- the index without the lease of a ticket
pub indexed-ended : (before after : FolderName → Option Ticket) (t : Ticket) (live : List Lease) (g : Lease) → find (has_ticket t) live ≡ Some g → ((h : Lease) → h.ticket ≢ g.ticket → IsIndexed before h → IsIndexed after h)
    → AreIndexed before live → AreIndexed after (filter (λ h. not (has_ticket t h)) live)
indexed-ended before after t live g found others all =
    All-failing (has_ticket t) (IsIndexed after) live (λ k d inside stays.
    let own : has_ticket t g ≡ true = (find_some (has_ticket t) live g found).1 in
    others (get_or live k d) (λ same. (let bad : true ≡ false = sym own ∙ ap (λ (u : Ticket). eqb u.0 t.0) (sym same) ∙ stays in cc)) (all k d inside))

same_place : (i k a b : ℕ) → (i < k → a < b) → (k < i → b < a) → a ≡ b → i ≡ k
same_place i k a b up down same = elim (cases_order i k) [
  | inl e ↦ e
  | inr apart ↦ elim apart [ inl lt ↦ (let rises = up lt in absurd (omega arith)) | inr lt ↦ (let rises = down lt in absurd (omega arith)) ]
]

-- a lease that fails a test has another ticket than one that passes it
pub other_ticket : (test : Lease → Bool) (live : List Lease) (i k : ℕ) (g d : Lease) → AllPairs IsBefore live → i < length live → k < length live → g ≡ get_or live i g → test g ≡ true → test (get_or live k d) ≡ false
    → (get_or live k d).ticket ≢ g.ticket
other_ticket test live i k g d rise in_i in_k is passes fails same =
    let here : get_or live i d ≡ g = get_or_default live i d g in_i ∙ sym is in
    let number : (get_or live k d).ticket.0 ≡ (get_or live i d).ticket.0 = ap (λ (t : Ticket). t.0) same ∙ sym (ap (λ (h : Lease). h.ticket.0) here) in
    let place : i ≡ k = same_place i k _ _ (λ lt. rise i k d lt in_k) (λ lt. rise k i d lt in_i) (sym number) in
    let bad : true ≡ false = sym passes ∙ ap test (sym here) ∙ ap (λ (n : ℕ). test (get_or live n d)) place ∙ fails in
    cc

-- the index without the leases that pass a test, all of which are among the last
pub indexed-last : (test : Lease → Bool) (before after : FolderName → Option Ticket) (last live : List Lease) → AllPairs IsBefore live → AreLast test last live
    → ((g : Lease) → All (λ h. test h ≡ true → g.ticket ≢ h.ticket) last → IsIndexed before g → IsIndexed after g) → AreIndexed before live → AreIndexed after (filter (λ g. not (test g)) live)
indexed-last test before after last live rise from others all =
    All-failing test (IsIndexed after) live (λ k d inside stays. others (get_or live k d) (λ i e within passes. (
    let g : Lease = get_or last i e in
    let len = ap length from.whole in
    let lens = length-append from.before last in
    let here : g ≡ get_or live (length from.before + i) g =
    sym (ap (λ (gs : List Lease). get_or gs (length from.before + i) g) from.whole ∙ get_or-append-add from.before last i g ∙ get_or_default last i g e within) in
    other_ticket test live (length from.before + i) k g d rise (omega arith) inside here passes stays)) (all k d inside))

ticket_here : (x t : Ticket) → eqb x.0 t.0 ≡ true → Some x ≡ Some t
ticket_here x t e = let same = eqb-true x.0 t.0 e in λ j. Some (record { 0 = same j })

-- the ticket that was found is this one
pub ticket_is : (o : Option Ticket) (t : Ticket) → option_eq (λ (a b : Ticket). eqb a.0 b.0) o (Some t) ≡ true → o ≡ Some t
ticket_is None t e = absurd (cc e)
ticket_is (Some x) t e = ticket_here x t e

-- ---- looking a folder up

pub none-found : (test : Lease → Bool) (live : List Lease) → All (λ g. test g ≡ false) live → find test live ≡ None
none-found test [] none = refl
none-found test (g ∷ live) none =
    let here : test g ≡ false = All-head (λ g. test g ≡ false) g live none in
    rw here (none-found test live (All-tail (λ g. test g ≡ false) g live none))

-- where what passes one test passes another, which one lease passes at most, that is looked for by the other
found_by : (test other : Lease → Bool) (live : List Lease) → All (λ g. test g ≡ true → other g ≡ true) live → PassesOnce other live → find test live ≡ only_if test (find other live)
found_by test other [] passes once = refl
found_by test other (g ∷ live) passes once = elim (cases_Bool (other g)) [
  | inl o ↦ elim (cases_Bool (test g)) [
    | inl t ↦ rw (o, t) refl
    | inr t ↦ rw (o, t) (none-found test live (λ k d inside. elim (cases_Bool (test (get_or live k d))) [
      | inl p ↦ (
          let other_too : other (get_or live k d) ≡ true = All-tail (λ g. test g ≡ true → other g ≡ true) g live passes k d inside p in
          let alone : other (get_or live k d) ≡ false = AllPairs-head (λ g h. other g ≡ true → other h ≡ false) g live once k d inside o in
          (let bad : true ≡ false = sym other_too ∙ alone in absurd (cc bad))
          )
      | inr p ↦ p
    ]))
  ]
  | inr o ↦ (
      let fails : test g ≡ false = elim (cases_Bool (test g)) [
        | inl t ↦ (let bad : true ≡ false = sym (All-head (λ g. test g ≡ true → other g ≡ true) g live passes t) ∙ o in absurd (cc bad))
        | inr t ↦ t
      ] in
      rw (o, fails) (found_by test other live (All-tail (λ g. test g ≡ true → other g ≡ true) g live passes) (AllPairs-tail (λ g h. other g ≡ true → other h ≡ false) g live once))
      )
]

-- at most one lease has the one slot of a folder
pub folder_once : (f : FolderName) (live : List Lease) → AllPairs AreApart live → PassesOnce (λ g. has_slot g.slots (only_slot f)) live
folder_once f live apart i j d lt inside has = apart i j d lt inside (only_slot f) has

has_own : (g : Lease) (t : Ticket) → Some t ≡ Some g.ticket → has_ticket t g ≡ true
has_own g t same = let is : t ≡ g.ticket = cc same in eq-eqb g.ticket.0 t.0 (ap (λ (u : Ticket). u.0) (sym is))

-- without a ticket at the folder no lease has its one slot
pub unindexed : (at : FolderName → Option Ticket) (f : FolderName) (live : List Lease) → AreIndexed at live → at f ≡ None → find (λ g. has_slot g.slots (only_slot f)) live ≡ None
unindexed at f live indexed none = none-found (λ g. has_slot g.slots (only_slot f)) live (λ k d inside. elim (cases_Bool (has_slot (get_or live k d).slots (only_slot f))) [
  | inl has ↦ (let bad : None ≡ Some (get_or live k d).ticket = sym none ∙ indexed k d inside f has in absurd (cc bad))
  | inr has ↦ has
])

-- the lease that has a folder's one slot is that of the ticket at the folder, if that lease has the slot
indexed : (at : FolderName → Option Ticket) (f : FolderName) (t : Ticket) (live : List Lease) → AreIndexed at live → at f ≡ Some t → PassesOnce (has_ticket t) live
    → find (λ g. has_slot g.slots (only_slot f)) live ≡ only_if (λ g. has_slot g.slots (only_slot f)) (find (has_ticket t) live)
indexed at f t live all here once = found_by (λ g. has_slot g.slots (only_slot f)) (has_ticket t) live (λ k d inside has. has_own (get_or live k d) t (sym here ∙ all k d inside f has)) once

-- no lease has the ticket
pub indexed-none : (at : FolderName → Option Ticket) (f : FolderName) (t : Ticket) (live : List Lease) → AreIndexed at live → at f ≡ Some t → PassesOnce (has_ticket t) live
    → find (has_ticket t) live ≡ None → find (λ g. has_slot g.slots (only_slot f)) live ≡ None
indexed-none at f t live all here once none = indexed at f t live all here once ∙ ap (only_if (λ g. has_slot g.slots (only_slot f))) none

-- the lease of the ticket has the slot, or none has
pub indexed-some : (at : FolderName → Option Ticket) (f : FolderName) (t : Ticket) (live : List Lease) (g : Lease) → AreIndexed at live → at f ≡ Some t → PassesOnce (has_ticket t) live
    → find (has_ticket t) live ≡ Some g → find (λ g. has_slot g.slots (only_slot f)) live ≡ cond (has_slot g.slots (only_slot f)) (Some g) None
indexed-some at f t live g all here once found = indexed at f t live all here once ∙ ap (only_if (λ g. has_slot g.slots (only_slot f))) found

-- whether one is found
pub is_some-find : (test : Lease → Bool) (live : List Lease) → is_some (find test live) ≡ list_any test live
is_some-find test [] = refl
is_some-find test (g ∷ live) = elim (cases_Bool (test g)) [ inl e ↦ rw e refl | inr e ↦ rw e (is_some-find test live) ]
