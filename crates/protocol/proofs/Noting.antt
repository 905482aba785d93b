-- What a node's answers say, and when each of its refusals comes.
use Rattle.std.proofs.Common.{◌≡◌, ◌≢◌, ℕ, zero, suc, ◌+◌, ◌<◌, ◌≤◌, List, [], ◌∷◌, ◌⊎◌, Bool, true, false, not, ◌&&◌, ◌||◌, eqb, length, map, filter, Option, Some, None, slice_get, Ok, Err, refl, sym, ◌∙◌, ap, subst, inl, inr, arith}
use Rattle.std.proofs.lemmas.Bool.{ne_eqb, cases_eq, cases_Bool, and_parts, not-true, or_parts, not-false, eqb-true}
use Rattle.std.proofs.lemmas.Bool.Decides.{nat_tests}
use Rattle.std.specs.List.{list_any, list_all, flat_map}
use Rattle.std.specs.Prelude.{⊤, nat_lt, is_some}
use Rattle.farm_base.specs.Kinds.{is_tenure}
use Rattle.protocol.specs.Lists.{In, nth, set_nth}
use Rattle.protocol.specs.Names.{Shared, slots_eq, digest_eq, NodeId, Life, Ask, Ticket, Digest, Want, FolderName, wants_shared, tenure_wants}
use Rattle.protocol.specs.Machine.{GrantedSlot, News, Confirmed, Grant, Message, Told, Fetch, Fetches, Blob, FromCoord, hello, acquire, commit, slots_of, written}
use Rattle.farm_base.specs.declared.message.FromCoord.TheVariants as told
use Rattle.farm_base.specs.declared.message.Why.{Why}
use Rattle.events.specs.declared.answer.NodeNote.{NodeNote}
use Rattle.events.specs.declared.answer.NodeNote.TheVariants as node_note
use Rattle.events.specs.declared.answer.NodeRefusal.{NodeRefusal}
use Rattle.events.specs.declared.answer.NodeRefusal.TheVariants as refusal
use Rattle.protocol.specs.Ledger.{Limits}
use Rattle.protocol.specs.World.{KeptAsk, Open, Holding, Running, Finished, Over, Node, keeps, keep, RunsTenure, IsTenureOf, Uses, Idle}
use Rattle.protocol.specs.Nodes.{NodeWork, NodeAnswer, guard, Place, wants_folder, is_tenure_of, is_home_of, uses, at_home, others_use, in_use, HeldGrant, Sent, first, under, held, running, held_or_running, finished, recalled_if, recallable, is_missing, nodes_from, others, fetches_of, fetches, next_ask, nothing, is_stored, all_stored, is_base, asked, asked_tenure, beginning, begun, Left, news_of, stored, leaving, finishing, finished_with, aborting, aborted, again, all_again, forgotten, needs, resent, gives_back, granted, learned, dropped, denied, recalled, of_life, heard, fetched, brought, unless_spent}
use Rattle.protocol.specs.Replay.{Event, Tenure, Deliver, Begin, Finish, Abort, Resend, Forge, Forget, told_to}
use Rattle.protocol.specs.Replay as replay
use Rattle.protocol.specs.Meaning.{life_of, IsBase, Arrives, AsksAround, IsFetchFor, Repeats, Hello_again, Acquire_again, Commit_again, Fetch_again, Stored, Needs, Held_base, Running_base, Sent_news, IsNeeded, NodeMeans}
use Rattle.protocol.specs.Reasons.{HoldsUnder, RunsUnder, NodeBecause}
use Rattle.names.proofs.CompareLaws.{digest_exact}
use Rattle.protocol.proofs.Base.{in_filter, in_map, in_append, in_one, from_filter, from_map, node_is, cases_option, true_false, none_some, some_is, eqb_same, digest_eq_same, life_is, any_in, from_any, nth_in, in_left, in_right, ge_from}
use Rattle.protocol.proofs.Following.{slots_eq_is, slots_eq_same}
use Rattle.protocol.proofs.Moving.{found, held_is, running_is, either_is, finished_is, recallable_is, all_in, some_home, wants_folder_in, wants_folder_is, tenure_test, idle_from, stored_some, get_from}
use Rattle.protocol.proofs.Using.{GrantOf, OneEach}

-- ---- what tests say, the other way round

below_is : (a b : ℕ) → not (nat_lt a b) ≡ false → b ≤ a → ⊥
below_is a b h = λ le. grind (arith, nat_tests)

not_all : {A : Type 0} (test : A → Bool) (xs : List A) → list_all test xs ≡ false → (x : A) × In x xs × (test x ≡ false)
not_all test [] h = (let bad : true ≡ false = h in cc)
not_all test (x ∷ xs) h = elim (cases_Bool (test x)) [
  | inl t ↦ (let r = not_all test xs (rw t at h) in (r.0, inr r.1, r.2))
  | inr f ↦ (x, inl refl, f)
]

tenure_is : (f : FolderName) (s : KeptAsk) → is_tenure_of f s ≡ true → IsTenureOf f s
tenure_is f (Open wants tenure) h = (let b = and_parts tenure (wants_folder f wants) h in (b.0, wants_folder_in f wants b.1))
tenure_is f (Holding wants g r) h = (let b = and_parts (is_tenure g.kind) (wants_folder f wants) h in (b.0, wants_folder_in f wants b.1))
tenure_is f (Running wants g r) h = (let b = and_parts (is_tenure g.kind) (wants_folder f wants) h in (b.0, wants_folder_in f wants b.1))
tenure_is f (Finished wants g news) h = (let b = and_parts (is_tenure g.kind) (wants_folder f wants) h in (b.0, wants_folder_in f wants b.1))
tenure_is f (Over how) h = (let bad : false ≡ true = h in cc)

uses_is : (f : FolderName) (s : KeptAsk) → uses f s ≡ true → Uses f s
uses_is f (Open wants tenure) h = wants_folder_in f wants h
uses_is f (Holding wants g r) h = wants_folder_in f wants h
uses_is f (Running wants g r) h = wants_folder_in f wants h
uses_is f (Finished wants g news) h = (let bad : false ≡ true = h in cc)
uses_is f (Over how) h = (let bad : false ≡ true = h in cc)

home_is : (f : FolderName) (asks : List KeptAsk) → RunsTenure asks f false → list_any (is_home_of f) asks ≡ true
home_is f asks (a, wants, g, w, at, tenure, i, e) =
    let is : is_home_of f (Running wants g false) ≡ true = (let v = wants_folder_is f wants w i e in rw (tenure, v) refl) in
    any_in (is_home_of f) (Running wants g false) asks (nth_in asks a (Running wants g false) at) is

-- an ask other than the a-th uses one of the folders
others_some : (a : ℕ) (wants : List Want) (ss : List KeptAsk) (k : ℕ) → others_use a wants ss k ≡ true → (j : ℕ) × (s : KeptAsk) × (w : Want) × (slice_get ss j ≡ Some s) × (k + j + 1 ≢ a) × In w wants × (uses w.folder s ≡ true)
others_some a wants [] k h = (let bad : false ≡ true = h in cc)
others_some a wants (x ∷ xs) k h = elim (cases_Bool (not (eqb (k + 1) a) && list_any (λ (w : Want). uses w.folder x) wants)) [
  | inl t ↦ (let b = and_parts (not (eqb (k + 1) a)) (list_any (λ (w : Want). uses w.folder x) wants) t in
      let r = from_any (λ (w : Want). uses w.folder x) wants b.1 in
      (0, x, r.0, refl, λ e. true_false (eqb (k + 1) a) (let at : k + 1 ≡ a = (let z : k + 1 ≡ k + 0 + 1 = omega arith in z ∙ e) in subst (λ z. eqb (k + 1) z ≡ true) at (eqb_same (k + 1))) (not-true (eqb (k + 1) a) b.0), r.1, r.2))
  | inr f ↦ (let r = others_some a wants xs (k + 1) (rw f at h) in
      (suc r.0, r.1, r.2, r.3, λ e. r.4 (let z : k + 1 + r.0 + 1 ≡ k + suc r.0 + 1 = omega arith in z ∙ e), r.5, r.6))
]

not_idle : (asks : List KeptAsk) (a : ℕ) (wants : List Want) (g : Grant) → in_use asks a wants g ≡ true → Idle asks a wants g → ⊥
not_idle asks a wants g h idle =
    let b = and_parts (is_tenure g.kind) (others_use a wants asks 0) h in
    let r = others_some a wants asks 0 b.1 in
    idle b.0 r.2 r.5 (suc r.0) r.1 r.3 (λ e. r.4 (let z : 0 + r.0 + 1 ≡ suc r.0 = omega arith in z ∙ e)) (uses_is r.2.folder r.1 r.6)

first_none : {A : Type 0} (test : KeptAsk → Option A) (ss : List KeptAsk) (k : ℕ) → first test ss k ≡ None → (j : ℕ) (s : KeptAsk) → slice_get ss j ≡ Some s → test s ≡ None
first_none test [] k h j s e = none_some s e
first_none {A} test (x ∷ xs) k h j s e = elim (cases_option (test x)) [
  | inr v ↦ (let bad : Some (k + 1, v.0) ≡ None = rw v.1 at h in none_some (k + 1, v.0) (sym bad))
  | inl none ↦ by j e none (first_none test xs (k + 1) (rw none at h))
]
  where
    by : (j : ℕ) → slice_get (x ∷ xs) j ≡ Some s → test x ≡ None → ((j : ℕ) (s : KeptAsk) → slice_get xs j ≡ Some s → test s ≡ None) → test s ≡ None
    by zero e none rest = ap test (sym (some_is x s e)) ∙ none
    by (suc j) e none rest = rest j s e

none_at : {A : Type 0} (test : KeptAsk → Option A) (asks : List KeptAsk) → first test asks 0 ≡ None → (a : ℕ) (s : KeptAsk) → nth asks a ≡ Some s → test s ≡ None
none_at test asks h zero s e = none_some s e
none_at test asks h (suc a) s e = first_none test asks 0 h a s e

under_some : {A : Type 0} (g : Grant) (t : Ticket) (x : A) → g.ticket ≡ t → under g t x ≡ Some x
under_some g t x e = (let same : eqb g.ticket.0 t.0 ≡ true = subst (λ (z : Ticket). eqb g.ticket.0 z.0 ≡ true) e (eqb_same g.ticket.0) in rw same refl)

-- ---- contents

keep_named : (d e : Digest) (c b : List ℕ) (store : Digest → Option (List ℕ)) → keep d c store e ≡ Some b → (store e ≡ Some b) ⊎ ((e ≡ d) × (b ≡ c))
keep_named d e c b store h = elim (cases_Bool (digest_eq e d)) [
  | inl t ↦ (let is : Some c ≡ Some b = rw t at h in inr (digest_exact e d t, sym (some_is c b is)))
  | inr f ↦ inl (rw f at h)
]

keep-same : (d : Digest) (c : List ℕ) (store : Digest → Option (List ℕ)) → keep d c store d ≡ Some c
keep-same d c store = (let e = digest_eq_same d in rw e refl)

-- what is stored stays where a content is kept under a digest that has none
keep_kept : (d e : Digest) (c b : List ℕ) (store : Digest → Option (List ℕ)) → store d ≡ None → store e ≡ Some b → keep d c store e ≡ Some b
keep_kept d e c b store none h = elim (cases_Bool (digest_eq e d)) [
  | inl t ↦ none_some b (sym none ∙ ap store (sym (digest_exact e d t)) ∙ h)
  | inr f ↦ rw f h
]

not_some : (o : Option (List ℕ)) → is_some o ≡ false → o ≡ None
not_some None h = refl
not_some (Some c) h = (let bad : true ≡ false = h in cc)

all_stored_so : (sha : List ℕ → Digest) (lefts : List Left) (store : Digest → Option (List ℕ)) → Stored sha (map (λ (z : Left). z.content) lefts) store (stored sha lefts store)
all_stored_so sha [] store = record { kept = λ d c e. e; named = λ d c e. inl e; all = λ c i. absurd i }
all_stored_so sha (x ∷ xs) store = elim (cases_Bool (is_some (store (sha x.content)))) [
  | inl t ↦ (let r = all_stored_so sha xs store in let old = stored_some (store (sha x.content)) t in rw t (record {
    kept = r.kept;
    named = λ d c e. elim (r.named d c e) [ inl o ↦ inl o | inr n ↦ inr (inr n.0, n.1) ];
    all = λ c i. elim i [
      | inl e ↦ (old.0, r.kept (sha c) old.0 (ap (λ z. store (sha z)) e ∙ old.1))
      | inr j ↦ r.all c j
    ];
  }))
  | inr f ↦ (let none = not_some (store (sha x.content)) f in
      let store' : Digest → Option (List ℕ) = keep (sha x.content) x.content store in
      let r = all_stored_so sha xs store' in rw f (record {
        kept = λ d c e. r.kept d c (keep_kept (sha x.content) d x.content c store none e);
        named = λ d c e. elim (r.named d c e) [
          | inl o ↦ elim (keep_named (sha x.content) d x.content c store o) [ inl q ↦ inl q | inr q ↦ inr (inl q.1, ap sha q.1 ∙ sym q.0) ]
          | inr n ↦ inr (inr n.0, n.1)
        ];
        all = λ c i. elim i [
          | inl e ↦ (x.content, r.kept (sha c) x.content (ap (λ z. store' (sha z)) e ∙ keep-same (sha x.content) x.content store))
          | inr j ↦ r.all c j
        ];
      }))
]

-- the note of what is accepted
abbrev pub OnNote : (NodeNote → Type 0) → NodeAnswer → Type 0
OnNote P (Ok w) = P w.note
OnNote P (Err e) = ⊤

guard_note : (P : NodeNote → Type 0) (b : Bool) (e : NodeRefusal) (a : NodeAnswer) → OnNote P a → OnNote P (guard b e a)
guard_note P true e a h = tt
guard_note P false e a h = h

-- ---- fetches

in_flat : {A B : Type 0} (f : A → List B) (x : A) (y : B) (xs : List A) → In x xs → In y (f x) → In y (flat_map f xs)
in_flat f x y [] i j = absurd i
in_flat f x y (z ∷ zs) (inl e) j = in_left y (f z) (flat_map f zs) (subst (λ w. In y (f w)) e j)
in_flat f x y (z ∷ zs) (inr i) j = in_right y (f z) (flat_map f zs) (in_flat f x y zs i j)

in_nodes : (k i : ℕ) (j : NodeId) → i ≤ j.0 → j.0 < i + k → In j (nodes_from i k)
in_nodes zero i j le lt = absurd (omega arith)
in_nodes (suc k) i j le lt = elim (cases_eq j.0 i) [
  | inl e ↦ inl (node_is j (record { 0 = i }) e)
  | inr ne ↦ inr (in_nodes k (i + 1) j (omega arith) (omega arith))
]

from_flat : {A B : Type 0} (f : A → List B) (y : B) (xs : List A) → In y (flat_map f xs) → (x : A) × In x xs × In y (f x)
from_flat f y [] i = absurd i
from_flat f y (x ∷ xs) i = elim (in_append y (f x) (flat_map f xs) i) [
  | inl j ↦ (x, inl refl, j)
  | inr j ↦ (let r = from_flat f y xs j in (r.0, inr r.1, r.2))
]

from_nodes : (k i : ℕ) (j : NodeId) → In j (nodes_from i k) → (i ≤ j.0) × (j.0 < i + k)
from_nodes zero i j h = absurd h
from_nodes (suc k) i j (inl e) = (let at : j.0 ≡ i = ap (λ (z : NodeId). z.0) e in (omega arith, omega arith))
from_nodes (suc k) i j (inr h) = (let r = from_nodes k (i + 1) j h in let low : i + 1 ≤ j.0 = r.0 in let high : j.0 < i + 1 + k = r.1 in (omega arith, omega arith))

-- ---- answers

module _ (sha : List ℕ → Digest) (k : Limits) (n : NodeId) (size : ℕ) (x : Node) (one : OneEach x.asks) where
  abbrev at : Place
  at = record { node = n; nodes = size }

  abbrev Means : Option Message → Event → NodeWork → Type 0
  Means d e w = NodeMeans sha k size d e n x w.note w.sends w.node

  -- what is accepted means this, and nothing speaks against it; a refusal has its reason
  abbrev pub Exact : Option Message → Event → NodeAnswer → Type 0
  Exact d e (Ok w) = Means d e w × ((r : NodeRefusal) → NodeBecause k e x r → ⊥)
  Exact d e (Err r) = NodeBecause k e x r

  on_guard : (d : Option Message) (e : Event) (b : Bool) (r : NodeRefusal) (a : NodeAnswer) → (b ≡ true → NodeBecause k e x r) → (b ≡ false → Exact d e a) → Exact d e (guard b r a)
  on_guard d e true r a h g = h refl
  on_guard d e false r a h g = g refl

  around : (slots : List GrantedSlot) → AsksAround k size n x slots (fetches k at x slots)
  unfolding fetches
  around slots u j i ne none lo hi other =
      let there : In j (others at) = in_filter (λ (z : NodeId). not (eqb z.0 n.0)) j (nodes_from 1 size) (in_nodes size 1 j lo (omega arith)) (let f : eqb j.0 n.0 ≡ false = ne_eqb j.0 n.0 other in rw f refl) in
      in_flat (λ (v : GrantedSlot). fetches_of at v.digest) u (Fetches (record { node = j; from = n; digest = u.digest })) (filter (is_missing k x) slots) (in_filter (is_missing k x) u slots i missing)
      (in_map (λ (z : NodeId). Fetches (record { node = z; from = n; digest = u.digest })) j (others at) there)
    where
      missing : is_missing k x u ≡ true
      missing = elim (cases_Bool (digest_eq u.digest k.empty)) [
        | inl t ↦ absurd (ne (digest_exact u.digest k.empty t))
        | inr f ↦ (let e : is_some (x.store u.digest) ≡ false = ap is_some none in rw (f, e) refl)
      ]

  fetch_from : (slots : List GrantedSlot) (m : Message) → In m (fetches k at x slots) → IsFetchFor k size n x slots m
  unfolding fetches
  fetch_from slots m i =
      let r = from_flat (λ (v : GrantedSlot). fetches_of at v.digest) m (filter (is_missing k x) slots) i in
      let u : GrantedSlot = r.0 in
      let f = from_filter (is_missing k x) u slots r.1 in
      let o = from_map (λ (z : NodeId). Fetches (record { node = z; from = n; digest = u.digest })) m (others at) r.2 in
      let j : NodeId = o.0 in
      let h = from_filter (λ (z : NodeId). not (eqb z.0 n.0)) j (nodes_from 1 size) o.1 in
      let range = from_nodes size 1 j h.0 in
      let high : j.0 < 1 + size = range.1 in
      let b = and_parts (not (digest_eq u.digest k.empty)) (not (is_some (x.store u.digest))) f.1 in (
        u,
        j,
        f.0,
        λ e. true_false (digest_eq u.digest k.empty) (subst (λ z. digest_eq u.digest z ≡ true) e (digest_eq_same u.digest)) (not-true (digest_eq u.digest k.empty) b.0),
        absent (x.store u.digest) (not-true (is_some (x.store u.digest)) b.1),
        range.0,
        omega arith,
        λ e. true_false (eqb j.0 n.0) (subst (λ z. eqb j.0 z ≡ true) e (eqb_same j.0)) (not-true (eqb j.0 n.0) h.1),
        o.2,
      )
    where
      absent : (o : Option (List ℕ)) → is_some o ≡ false → o ≡ None
      absent None e = refl
      absent (Some c) e = (let bad : true ≡ false = e in cc)

  -- ---- asks

  pub asked_exact : (wants : List Want) → Exact None (replay.Ask n wants) (asked k at wants x)
  asked_exact wants =
      let e : Event = replay.Ask n wants in
      on_guard None e x.spent refusal.LivesSpent _ (λ down. down) (λ up. on_guard None e (not (at_home x.asks wants)) refusal.NotHomeHere _
      (λ away. (let r = not_all (λ (w : Want). not (wants_shared w) || list_any (is_home_of w.folder) x.asks) wants (not-true (at_home x.asks wants) away) in
      let o = or_parts (not (wants_shared r.0)) (list_any (is_home_of r.0.folder) x.asks) r.2 in
      (r.0, r.1, not-false (wants_shared r.0) o.0, λ runs. true_false (list_any (is_home_of r.0.folder) x.asks) (home_is r.0.folder x.asks runs) o.1)))
      (λ home. on_guard None e (not (nat_lt (length x.asks) k.greatest)) refusal.AsksSpent _ (ge_from (length x.asks) k.greatest)
      (λ left. ((wants, false, (refl, refl), refl, refl, refl), none up home left))))
    where
      none : x.spent ≡ false → not (at_home x.asks wants) ≡ false → not (nat_lt (length x.asks) k.greatest) ≡ false → (r : NodeRefusal) → NodeBecause k (replay.Ask n wants) x r → ⊥
      none up home left refusal.LivesSpent h = true_false x.spent h up
      none up home left refusal.NotHomeHere (w, i, shared, away) =
          (let t : (not (wants_shared w) || list_any (is_home_of w.folder) x.asks) ≡ true = all_in (λ (v : Want). not (wants_shared v) || list_any (is_home_of v.folder) x.asks) wants (not-false (at_home x.asks wants) home) w i in
          away (some_home w.folder x.asks (rw shared at t)))
      none up home left refusal.AsksSpent h = below_is (length x.asks) k.greatest left h
      none up home left r h = h

  pub tenure_exact : (f : FolderName) → Exact None (Tenure n f) (asked_tenure k at f x)
  tenure_exact f =
      let e : Event = Tenure n f in
      let g : FolderName = record f { mode = Shared } in
      on_guard None e x.spent refusal.LivesSpent _ (λ down. down) (λ up. on_guard None e (list_any (is_tenure_of g) x.asks) refusal.TenureHere _
      (λ some. (let r = from_any (is_tenure_of g) x.asks some in let a = get_from r.0 x.asks r.1 in (suc a.0, r.0, a.1, tenure_is g r.0 r.2)))
      (λ idle. on_guard None e (not (nat_lt (length x.asks) k.greatest)) refusal.AsksSpent _ (ge_from (length x.asks) k.greatest)
      (λ left. ((tenure_wants f, true, (refl, refl), refl, refl, refl), none up idle left))))
    where
      none : x.spent ≡ false → list_any (is_tenure_of (record f { mode = Shared })) x.asks ≡ false → not (nat_lt (length x.asks) k.greatest) ≡ false → (r : NodeRefusal) → NodeBecause k (Tenure n f) x r → ⊥
      none up idle left refusal.LivesSpent h = true_false x.spent h up
      none up idle left refusal.TenureHere (a, s, i, tenure) = true_false (list_any (is_tenure_of (record f { mode = Shared })) x.asks) (any_in (is_tenure_of (record f { mode = Shared })) s x.asks (nth_in x.asks a s i) (tenure_test (record f { mode = Shared }) s tenure)) idle
      none up idle left refusal.AsksSpent h = below_is (length x.asks) k.greatest left h
      none up idle left r h = h

  -- ---- executions

  holding_is : (wants wants' : List Want) (g g' : Grant) (r r' : Bool) → Holding wants g r ≡ Holding wants' g' r' → g ≡ g'
  holding_is wants wants' g g' r r' e = cc

  running_grant : (wants wants' : List Want) (g g' : Grant) (r r' : Bool) → Running wants g r ≡ Running wants' g' r' → g ≡ g'
  running_grant wants wants' g g' r r' e = cc

  running_wants : (wants wants' : List Want) (g g' : Grant) (r r' : Bool) → Running wants g r ≡ Running wants' g' r' → wants ≡ wants'
  running_wants wants wants' g g' r r' e = cc

  none_held : (t : Ticket) → first (held t) x.asks 0 ≡ None → (a : ℕ) (wants : List Want) (g : Grant) → HoldsUnder x t a wants g → ⊥
  none_held t e a wants g (at, ticket) =
      let h : HeldGrant = record { wants = wants; grant = g; recalled = at.0 } in
      none_some h (sym (none_at (held t) x.asks e a (Holding wants g at.0) at.1) ∙ under_some g t h ticket)

  none_running : (t : Ticket) → first (running t) x.asks 0 ≡ None → (a : ℕ) (wants : List Want) (g : Grant) → RunsUnder x t a wants g → ⊥
  none_running t e a wants g (at, ticket) =
      let h : HeldGrant = record { wants = wants; grant = g; recalled = at.0 } in
      none_some h (sym (none_at (running t) x.asks e a (Running wants g at.0) at.1) ∙ under_some g t h ticket)

  none_either : (t : Ticket) → first (held_or_running t) x.asks 0 ≡ None → (a : ℕ) (wants : List Want) (g : Grant) → HoldsUnder x t a wants g ⊎ RunsUnder x t a wants g → ⊥
  none_either t e a wants g (inl (at, ticket)) =
      (let h : HeldGrant = record { wants = wants; grant = g; recalled = at.0 } in
      none_some h (sym (none_at (held_or_running t) x.asks e a (Holding wants g at.0) at.1) ∙ under_some g t h ticket))
  none_either t e a wants g (inr (at, ticket)) =
      (let h : HeldGrant = record { wants = wants; grant = g; recalled = at.0 } in
      none_some h (sym (none_at (held_or_running t) x.asks e a (Running wants g at.0) at.1) ∙ under_some g t h ticket))

  beginning_exact : (t : Ticket) (o : Option (ℕ × HeldGrant)) → first (held t) x.asks 0 ≡ o → x.spent ≡ false → Exact None (Begin n t) (beginning t x o)
  beginning_exact t None e up = none_held t e
  beginning_exact t (Some r) e up =
      let f = found (held t) x.asks r e in
      let h : HeldGrant = r.1 in
      let is = held_is t f.0 h f.2 in
      let at' : nth x.asks r.0 ≡ Some (Holding h.wants h.grant h.recalled) = f.1 ∙ ap Some is.0 in
      on_guard None (Begin n t) (not (all_stored x h.grant.slots)) refusal.ContentsMissing _
      (λ missing. (let m = not_all (λ (u : GrantedSlot). is_stored x u.digest) h.grant.slots (not-true (all_stored x h.grant.slots) missing) in
      (r.0, h.wants, h.grant, m.0, ((h.recalled, at'), is.1), m.1, not_some (x.store m.0.digest) m.2)))
      (λ all. (let stored' : (u : GrantedSlot) → In u h.grant.slots → (c : List ℕ) × (x.store u.digest ≡ Some c) = λ u i. stored_some (x.store u.digest) (all_in (λ (v : GrantedSlot). is_stored x v.digest) h.grant.slots (not-false (all_stored x h.grant.slots) all) u i) in
      ((refl, (r.0, h.wants, h.grant, h.recalled, at', is.1, stored', refl, refl)), none r.0 h at' is.1 stored')))
    where
      none : (a : ℕ) (h : HeldGrant) → nth x.asks a ≡ Some (Holding h.wants h.grant h.recalled) → h.grant.ticket ≡ t → ((u : GrantedSlot) → In u h.grant.slots → (c : List ℕ) × (x.store u.digest ≡ Some c)) → (r : NodeRefusal) → NodeBecause k (Begin n t) x r → ⊥
      none a h at' ticket stored' refusal.LivesSpent z = true_false x.spent z up
      none a h at' ticket stored' refusal.NoSuchTicket z = z a h.wants h.grant ((h.recalled, at'), ticket)
      none a h at' ticket stored' refusal.ContentsMissing (b, wants, g, u, (holds, its), i, missing) =
          (let same : a ≡ b = one a b (Holding h.wants h.grant h.recalled) (Holding wants g holds.0) h.grant g at' holds.1 refl refl (ticket ∙ sym its) in
          let is : h.grant ≡ g = holding_is h.wants wants h.grant g h.recalled holds.0 (some_is (Holding h.wants h.grant h.recalled) (Holding wants g holds.0) (sym at' ∙ ap (nth x.asks) same ∙ holds.1)) in
          let c = stored' u (subst (λ (z : Grant). In u z.slots) (sym is) i) in
          none_some c.0 (sym missing ∙ c.1))
      none a h at' ticket stored' r z = z

  pub begun_exact : (t : Ticket) → Exact None (Begin n t) (begun t x)
  begun_exact t = on_guard None (Begin n t) x.spent refusal.LivesSpent _ (λ down. down) (λ up. beginning_exact t (first (held t) x.asks 0) refl up)

  slots-left : (lefts : List Left) → slots_of (news_of sha lefts) ≡ map (λ (z : Left). z.slot) lefts
  slots-left [] = refl
  slots-left (l ∷ ls) = (let r = slots-left ls in λ i. l.slot ∷ r i)

  leaving_means : (t : Ticket) (lefts : List Left) (a : ℕ) (h : HeldGrant) → nth x.asks a ≡ Some (Running h.wants h.grant h.recalled) → h.grant.ticket ≡ t → slots_of (news_of sha lefts) ≡ written h.grant.slots → Means None (Finish n t lefts) (leaving sha at a h lefts x)
  leaving_means t [] a h at' ticket slots = (ap (λ (z : Ticket). Finish n z []) (sym ticket), (a, h.wants, h.grant, h.recalled, at', refl, (refl, refl)))
  leaving_means t (l ∷ ls) a h at' ticket slots = (ap (λ (z : Ticket). Finish n z (l ∷ ls)) (sym ticket), (a, h.wants, h.grant, h.recalled, at', refl, (refl, slots, all_stored_so sha (l ∷ ls) x.store, refl)))

  finishing_exact : (t : Ticket) (lefts : List Left) (o : Option (ℕ × HeldGrant)) → first (running t) x.asks 0 ≡ o → x.spent ≡ false → Exact None (Finish n t lefts) (finishing sha at lefts x o)
  finishing_exact t lefts None e up = none_running t e
  finishing_exact t lefts (Some r) e up =
      let f = found (running t) x.asks r e in
      let h : HeldGrant = r.1 in
      let is = running_is t f.0 h f.2 in
      let at' : nth x.asks r.0 ≡ Some (Running h.wants h.grant h.recalled) = f.1 ∙ ap Some is.0 in
      on_guard None (Finish n t lefts) (in_use x.asks r.0 h.wants h.grant) refusal.TenureInUse _
      (λ used. (r.0, h.wants, h.grant, ((h.recalled, at'), is.1), not_idle x.asks r.0 h.wants h.grant used))
      (λ idle. on_guard None (Finish n t lefts) (not (slots_eq (slots_of (news_of sha lefts)) (written h.grant.slots))) refusal.WrongNews _
      (λ wrong. (r.0, h.wants, h.grant, ((h.recalled, at'), is.1), λ q. true_false (slots_eq (slots_of (news_of sha lefts)) (written h.grant.slots)) (subst (λ z. slots_eq (slots_of (news_of sha lefts)) z ≡ true) (slots-left lefts ∙ q) (slots_eq_same (slots_of (news_of sha lefts)))) (not-true (slots_eq (slots_of (news_of sha lefts)) (written h.grant.slots)) wrong)))
      (λ slots. (let same = slots_eq_is (slots_of (news_of sha lefts)) (written h.grant.slots) (not-false (slots_eq (slots_of (news_of sha lefts)) (written h.grant.slots)) slots) in
      (leaving_means t lefts r.0 h at' is.1 same, none r.0 h at' is.1 (idle_from x.asks r.0 h.wants h.grant idle) same))))
    where
      none : (a : ℕ) (h : HeldGrant) → nth x.asks a ≡ Some (Running h.wants h.grant h.recalled) → h.grant.ticket ≡ t → Idle x.asks a h.wants h.grant → slots_of (news_of sha lefts) ≡ written h.grant.slots → (r : NodeRefusal) → NodeBecause k (Finish n t lefts) x r → ⊥
      none a h at' ticket idle slots refusal.LivesSpent z = true_false x.spent z up
      none a h at' ticket idle slots refusal.NotRunning z = z a h.wants h.grant ((h.recalled, at'), ticket)
      none a h at' ticket idle slots refusal.TenureInUse (b, wants, g, (runs, its), used) =
          (let same : a ≡ b = one a b (Running h.wants h.grant h.recalled) (Running wants g runs.0) h.grant g at' runs.1 refl refl (ticket ∙ sym its) in
          let is = some_is (Running h.wants h.grant h.recalled) (Running wants g runs.0) (sym at' ∙ ap (nth x.asks) same ∙ runs.1) in
          used (subst (λ z. Idle x.asks z wants g) same (subst (λ z. Idle x.asks a z g) (running_wants h.wants wants h.grant g h.recalled runs.0 is) (subst (λ z. Idle x.asks a h.wants z) (running_grant h.wants wants h.grant g h.recalled runs.0 is) idle))))
      none a h at' ticket idle slots refusal.WrongNews (b, wants, g, (runs, its), wrong) =
          (let same : a ≡ b = one a b (Running h.wants h.grant h.recalled) (Running wants g runs.0) h.grant g at' runs.1 refl refl (ticket ∙ sym its) in
          let is = some_is (Running h.wants h.grant h.recalled) (Running wants g runs.0) (sym at' ∙ ap (nth x.asks) same ∙ runs.1) in
          wrong (sym (slots-left lefts) ∙ slots ∙ ap (λ (z : Grant). written z.slots) (running_grant h.wants wants h.grant g h.recalled runs.0 is)))
      none a h at' ticket idle slots r z = z

  pub finished_exact : (t : Ticket) (lefts : List Left) → Exact None (Finish n t lefts) (finished_with sha at t lefts x)
  finished_exact t lefts = on_guard None (Finish n t lefts) x.spent refusal.LivesSpent _ (λ down. down) (λ up. finishing_exact t lefts (first (running t) x.asks 0) refl up)

  aborting_exact : (t : Ticket) (o : Option (ℕ × HeldGrant)) → first (held_or_running t) x.asks 0 ≡ o → x.spent ≡ false → Exact None (Abort n t) (aborting at x o)
  aborting_exact t None e up = none_either t e
  aborting_exact t (Some r) e up =
      let f = found (held_or_running t) x.asks r e in
      let h : HeldGrant = r.1 in
      let is = either_is t f.0 h f.2 in
      let its : HoldsUnder x t r.0 h.wants h.grant ⊎ RunsUnder x t r.0 h.wants h.grant = elim is.0 [ inl q ↦ inl ((h.recalled, f.1 ∙ ap Some q), is.1) | inr q ↦ inr ((h.recalled, f.1 ∙ ap Some q), is.1) ] in
      on_guard None (Abort n t) (in_use x.asks r.0 h.wants h.grant) refusal.TenureInUse _
      (λ used. (r.0, h.wants, h.grant, its, not_idle x.asks r.0 h.wants h.grant used))
      (λ idle. (
        (ap (Abort n) (sym is.1), (r.0, h.wants, h.grant, h.recalled, elim is.0 [ inl q ↦ inl (f.1 ∙ ap Some q) | inr q ↦ inr (f.1 ∙ ap Some q) ], refl, refl, refl)),
        none r.0 h its (idle_from x.asks r.0 h.wants h.grant idle),
      ))
    where
      -- the two asks are one
      same_idle : (a b : ℕ) (s s' : KeptAsk) (wants wants' : List Want) (g g' : Grant) → nth x.asks a ≡ Some s → nth x.asks b ≡ Some s' → GrantOf s g → GrantOf s' g' → g.ticket ≡ g'.ticket → (s ≡ s' → (wants ≡ wants') × (g ≡ g')) → Idle x.asks a wants g → Idle x.asks b wants' g'
      same_idle a b s s' wants wants' g g' i j p q t parts idle =
          (let same : a ≡ b = one a b s s' g g' i j p q t in
          let is = parts (some_is s s' (sym i ∙ ap (nth x.asks) same ∙ j)) in
          subst (λ z. Idle x.asks z wants' g') same (subst (λ z. Idle x.asks a z g') is.0 (subst (λ z. Idle x.asks a wants z) is.1 idle)))

      hold_hold : (ws ws' : List Want) (g g' : Grant) (r r' : Bool) → Holding ws g r ≡ Holding ws' g' r' → (ws ≡ ws') × (g ≡ g')
      hold_hold ws ws' g g' r r' e = (cc, holding_is ws ws' g g' r r' e)

      run_run : (ws ws' : List Want) (g g' : Grant) (r r' : Bool) → Running ws g r ≡ Running ws' g' r' → (ws ≡ ws') × (g ≡ g')
      run_run ws ws' g g' r r' e = (running_wants ws ws' g g' r r' e, running_grant ws ws' g g' r r' e)

      hold_run : (ws ws' : List Want) (g g' : Grant) (r r' : Bool) → Holding ws g r ≡ Running ws' g' r' → (ws ≡ ws') × (g ≡ g')
      hold_run ws ws' g g' r r' e = absurd (cc)

      run_hold : (ws ws' : List Want) (g g' : Grant) (r r' : Bool) → Running ws g r ≡ Holding ws' g' r' → (ws ≡ ws') × (g ≡ g')
      run_hold ws ws' g g' r r' e = absurd (cc)

      none : (a : ℕ) (h : HeldGrant) → HoldsUnder x t a h.wants h.grant ⊎ RunsUnder x t a h.wants h.grant → Idle x.asks a h.wants h.grant → (r : NodeRefusal) → NodeBecause k (Abort n t) x r → ⊥
      none a h its idle refusal.LivesSpent z = true_false x.spent z up
      none a h its idle refusal.NoSuchTicket z = z a h.wants h.grant its
      none a h (inl p) idle refusal.TenureInUse (b, wants, g, inl q, used) = used (same_idle a b (Holding h.wants h.grant p.0.0) (Holding wants g q.0.0) h.wants wants h.grant g p.0.1 q.0.1 refl refl (p.1 ∙ sym q.1) (hold_hold h.wants wants h.grant g p.0.0 q.0.0) idle)
      none a h (inl p) idle refusal.TenureInUse (b, wants, g, inr q, used) = used (same_idle a b (Holding h.wants h.grant p.0.0) (Running wants g q.0.0) h.wants wants h.grant g p.0.1 q.0.1 refl refl (p.1 ∙ sym q.1) (hold_run h.wants wants h.grant g p.0.0 q.0.0) idle)
      none a h (inr p) idle refusal.TenureInUse (b, wants, g, inl q, used) = used (same_idle a b (Running h.wants h.grant p.0.0) (Holding wants g q.0.0) h.wants wants h.grant g p.0.1 q.0.1 refl refl (p.1 ∙ sym q.1) (run_hold h.wants wants h.grant g p.0.0 q.0.0) idle)
      none a h (inr p) idle refusal.TenureInUse (b, wants, g, inr q, used) = used (same_idle a b (Running h.wants h.grant p.0.0) (Running wants g q.0.0) h.wants wants h.grant g p.0.1 q.0.1 refl refl (p.1 ∙ sym q.1) (run_run h.wants wants h.grant g p.0.0 q.0.0) idle)
      none a h its idle r z = z

  pub aborted_exact : (t : Ticket) → Exact None (Abort n t) (aborted at t x)
  aborted_exact t = on_guard None (Abort n t) x.spent refusal.LivesSpent _ (λ down. down) (λ up. aborting_exact t (first (held_or_running t) x.asks 0) refl up)

  -- ---- what only a node that is down refuses

  unless_exact : (d : Option Message) (e : Event) (w : NodeWork) → (x.spent ≡ true → NodeBecause k e x refusal.LivesSpent) → ((r : NodeRefusal) → NodeBecause k e x r → x.spent ≡ true) → Means d e w → Exact d e (unless_spent x w)
  unless_exact d e w why only m = on_guard d e x.spent refusal.LivesSpent _ why (λ up. (m, λ r h. true_false x.spent (only r h) up))

  deliver_spent : (number : ℕ) (r : NodeRefusal) → NodeBecause k (Deliver number) x r → x.spent ≡ true
  deliver_spent number refusal.LivesSpent h = h
  deliver_spent number r h = absurd h

  forge_spent : (m : NodeId) (c : List ℕ) (r : NodeRefusal) → NodeBecause k (Forge m c) x r → x.spent ≡ true
  forge_spent m c refusal.LivesSpent h = h
  forge_spent m c r h = absurd h

  resend_spent : (r : NodeRefusal) → NodeBecause k (Resend n) x r → x.spent ≡ true
  resend_spent refusal.LivesSpent h = h
  resend_spent r h = absurd h

  -- the i-th ask sends again what it has to
  again_sent : (ss : List KeptAsk) (i : ℕ) (j : ℕ) (s : KeptAsk) (m : Message) → slice_get ss j ≡ Some s → In m (again k at x (record { 0 = i + j + 1 }) s) → In m (all_again k at x ss i)
  again_sent [] i j s m e h = none_some s e
  again_sent (y ∷ ys) i zero s m e h =
      let here : In m (again k at x (record { 0 = i + 0 + 1 }) y) = subst (λ z. In m (again k at x (record { 0 = i + 0 + 1 }) z)) (sym (some_is y s e)) h in
      let same : i + 0 + 1 ≡ i + 1 = omega arith in
      in_left m _ (all_again k at x ys (i + 1)) (subst (λ z. In m (again k at x (record { 0 = z }) y)) same here)
  again_sent (y ∷ ys) i (suc j) s m e h =
      let same : i + suc j + 1 ≡ i + 1 + j + 1 = omega arith in
      in_right m (again k at x (record { 0 = i + 1 }) y) _ (again_sent ys (i + 1) j s m e (subst (λ z. In m (again k at x (record { 0 = z }) s)) same h))

  each_again : (a : ℕ) (s : KeptAsk) (m : Message) → nth x.asks a ≡ Some s → In m (again k at x (record { 0 = a }) s) → In m (hello n x.life ∷ all_again k at x x.asks 0)
  each_again zero s m e h = none_some s e
  each_again (suc j) s m e h = (let same : suc j ≡ 0 + j + 1 = omega arith in inr (again_sent x.asks 0 j s m e (subst (λ z. In m (again k at x (record { 0 = z }) s)) same h)))

  again_kind : (a : Ask) (s : KeptAsk) (m : Message) → nth x.asks a.0 ≡ Some s → In m (again k at x a s) → Repeats k size n x m
  again_kind a (Open wants tenure) m e i = subst (Repeats k size n x) (sym (in_one m (acquire n x.life a wants tenure) i)) (Acquire_again a wants tenure e)
  again_kind a (Holding wants g r) m e i = Fetch_again a.0 wants g r m e (fetch_from g.slots m i)
  again_kind a (Running wants g r) m e i = absurd i
  again_kind a (Finished wants g news) m e i = subst (Repeats k size n x) (sym (in_one m (commit n x.life g.ticket news) i)) (Commit_again a.0 wants g news e)
  again_kind a (Over how) m e i = absurd i

  again_from : (ss : List KeptAsk) (i : ℕ) (m : Message) → In m (all_again k at x ss i) → (j : ℕ) × (s : KeptAsk) × (slice_get ss j ≡ Some s) × In m (again k at x (record { 0 = i + j + 1 }) s)
  again_from [] i m h = absurd h
  again_from (y ∷ ys) i m h = elim (in_append m (again k at x (record { 0 = i + 1 }) y) (all_again k at x ys (i + 1)) h) [
    | inl here ↦ (zero, y, refl, (let same : i + 1 ≡ i + 0 + 1 = omega arith in subst (λ z. In m (again k at x (record { 0 = z }) y)) same here))
    | inr there ↦ (let r = again_from ys (i + 1) m there in
        let same : i + 1 + r.0 + 1 ≡ i + suc r.0 + 1 = omega arith in
        (suc r.0, r.1, r.2, subst (λ z. In m (again k at x (record { 0 = z }) r.1)) same r.3))
  ]

  repeats : (m : Message) → In m (hello n x.life ∷ all_again k at x x.asks 0) → Repeats k size n x m
  repeats m (inl e) = subst (Repeats k size n x) (sym e) Hello_again
  repeats m (inr i) = (let r = again_from x.asks 0 m i in
      let same : suc r.0 ≡ 0 + r.0 + 1 = omega arith in
      again_kind (record { 0 = 0 + r.0 + 1 }) r.1 m (subst (λ z. nth x.asks z ≡ Some r.1) same r.2) r.3)

  pub resent_exact : Exact None (Resend n) (resent k at x)
  resent_exact = on_guard None (Resend n) x.spent refusal.LivesSpent _ (λ down. down) (λ up. (
    (
      refl,
      inl refl,
      λ a wants tenure e. each_again a (Open wants tenure) (acquire n x.life (record { 0 = a }) wants tenure) e (inl refl),
      λ a wants g news e. each_again a (Finished wants g news) (commit n x.life g.ticket news) e (inl refl),
      λ a wants g r e u j i ne none lo hi other. each_again a (Holding wants g r) (Fetches (record { node = j; from = n; digest = u.digest })) e (around g.slots u j i ne none lo hi other),
      refl,
      repeats,
    ),
    λ r h. true_false x.spent (resend_spent r h) up,
  ))

  -- ---- messages

  abbrev Heard : FromCoord → ℕ → NodeWork → Type 0
  Heard y number w = Means (Some (Told y)) (Deliver number) w

  -- an ask that isn't open has the Grant, or gives it back
  has_it : (g : Grant) (number : ℕ) (s : KeptAsk) → nth x.asks g.ask.0 ≡ Some s → ((ws : List Want) (t : Bool) → s ≢ Open ws t) → (b : Bool) → keeps s g.ticket ≡ b → g.life ≡ x.life → Heard (told.Granted g) number (gives_back at g b x)
  has_it g number s e other true keep q = ((Told (told.Granted g), inl refl, (q, (s, e, keep))), refl, refl)
  has_it g number s e other false keep q = (
    g,
    refl,
    refl,
    q,
    λ ws t i. other ws t (some_is s (Open ws t) (sym e ∙ i)),
    λ s' i. subst (λ z. keeps z g.ticket ≡ false) (some_is s s' (sym e ∙ i)) keep,
    refl,
    refl,
  )

  granted_means : (g : Grant) (number : ℕ) (o : Option KeptAsk) → nth x.asks g.ask.0 ≡ o → g.life ≡ x.life → Heard (told.Granted g) number (granted k at g x o)
  granted_means g number None e q = (g, refl, refl, q, (λ ws t i. none_some (Open ws t) (sym e ∙ i)), (λ s i. none_some s (sym e ∙ i)), refl, refl)
  granted_means g number (Some (Open wants tenure)) e q = (refl, q, around g.slots, (wants, tenure, e, refl), fetch_from g.slots)
  granted_means g number (Some (Holding wants h r)) e q = has_it g number (Holding wants h r) e (λ ws t is. (let bad : Holding wants h r ≡ Open ws t = is in cc)) (keeps (Holding wants h r) g.ticket) refl q
  granted_means g number (Some (Running wants h r)) e q = has_it g number (Running wants h r) e (λ ws t is. (let bad : Running wants h r ≡ Open ws t = is in cc)) (keeps (Running wants h r) g.ticket) refl q
  granted_means g number (Some (Finished wants h news)) e q = has_it g number (Finished wants h news) e (λ ws t is. (let bad : Finished wants h news ≡ Open ws t = is in cc)) (keeps (Finished wants h news) g.ticket) refl q
  granted_means g number (Some (Over how)) e q = has_it g number (Over how) e (λ ws t is. (let bad : Over how ≡ Open ws t = is in cc)) false refl q

  none_finished : (t : Ticket) → first (finished t) x.asks 0 ≡ None → (a : ℕ) (wants : List Want) (g : Grant) (news : List News) → nth x.asks a ≡ Some (Finished wants g news) → g.ticket ≢ t
  none_finished t e a wants g news i ticket =
      let h : Sent = record { wants = wants; grant = g; news = news } in
      none_some h (sym (none_at (finished t) x.asks e a (Finished wants g news) i) ∙ under_some g t h ticket)

  learned_means : (l : Life) (t : Ticket) (versions : List Confirmed) (number : ℕ) (o : Option (ℕ × Sent)) → first (finished t) x.asks 0 ≡ o → l ≡ x.life → Heard (told.Committed n l t versions) number (learned t versions x o)
  learned_means l t versions number None e q = ((Told (told.Committed n l t versions), inl refl, (q, none_finished t e)), refl, refl)
  learned_means l t versions number (Some r) e q = (let f = found (finished t) x.asks r e in let is = finished_is t f.0 r.1 f.2 in
      (l, versions, refl, q, (r.0, r.1.wants, r.1.grant, r.1.news, f.1 ∙ ap Some is.0, is.1, refl, refl)))

  dropped_means : (l : Life) (t : Ticket) (number : ℕ) (o : Option (ℕ × Sent)) → first (finished t) x.asks 0 ≡ o → l ≡ x.life → Heard (told.Fenced n l t) number (dropped t x o)
  dropped_means l t number None e q = ((Told (told.Fenced n l t), inl refl, (q, none_finished t e)), refl, refl)
  dropped_means l t number (Some r) e q = (let f = found (finished t) x.asks r e in let is = finished_is t f.0 r.1 f.2 in
      (l, refl, q, (r.0, r.1.wants, r.1.grant, r.1.news, f.1 ∙ ap Some is.0, is.1, refl, refl)))

  not_open : (l : Life) (a : Ask) (why : Why) (number : ℕ) (o : Option KeptAsk) → nth x.asks a.0 ≡ o → ((ws : List Want) (t : Bool) → o ≢ Some (Open ws t)) → l ≡ x.life → Heard (told.Denied n l a why) number (nothing x)
  not_open l a why number o e other q = ((Told (told.Denied n l a why), inl refl, (q, λ ws t i. other ws t (sym e ∙ i))), refl, refl)

  denied_means : (l : Life) (a : Ask) (why : Why) (number : ℕ) (o : Option KeptAsk) → nth x.asks a.0 ≡ o → l ≡ x.life → Heard (told.Denied n l a why) number (denied a why x o)
  denied_means l a why number None e q = not_open l a why number None e (λ ws t is. none_some (Open ws t) is) q
  denied_means l a why number (Some (Open wants tenure)) e q = (l, a, refl, q, (wants, tenure, e, refl, refl))
  denied_means l a why number (Some (Holding wants h r)) e q = not_open l a why number (Some (Holding wants h r)) e (λ ws t is. (let bad : Holding wants h r ≡ Open ws t = some_is (Holding wants h r) (Open ws t) is in cc)) q
  denied_means l a why number (Some (Running wants h r)) e q = not_open l a why number (Some (Running wants h r)) e (λ ws t is. (let bad : Running wants h r ≡ Open ws t = some_is (Running wants h r) (Open ws t) is in cc)) q
  denied_means l a why number (Some (Finished wants h news)) e q = not_open l a why number (Some (Finished wants h news)) e (λ ws t is. (let bad : Finished wants h news ≡ Open ws t = some_is (Finished wants h news) (Open ws t) is in cc)) q
  denied_means l a why number (Some (Over how)) e q = not_open l a why number (Some (Over how)) e (λ ws t is. (let bad : Over how ≡ Open ws t = some_is (Over how) (Open ws t) is in cc)) q

  recall_some : (g : Grant) (t : Ticket) (s : KeptAsk) → g.ticket ≡ t → is_tenure g.kind ≡ true → recalled_if ((eqb g.ticket.0 t.0) && is_tenure g.kind && not false) s ≡ Some s
  recall_some g t s e tenure = (let same : eqb g.ticket.0 t.0 ≡ true = subst (λ (z : Ticket). eqb g.ticket.0 z.0 ≡ true) e (eqb_same g.ticket.0) in rw (same, tenure) refl)

  none_recalled : (t : Ticket) → first (recallable t) x.asks 0 ≡ None → (a : ℕ) (wants : List Want) (g : Grant) → g.ticket ≡ t → is_tenure g.kind ≡ true → (nth x.asks a ≡ Some (Holding wants g false)) ⊎ (nth x.asks a ≡ Some (Running wants g false)) → ⊥
  none_recalled t e a wants g ticket tenure (inl i) = none_some (Holding wants g true) (sym (none_at (recallable t) x.asks e a (Holding wants g false) i) ∙ recall_some g t (Holding wants g true) ticket tenure)
  none_recalled t e a wants g ticket tenure (inr i) = none_some (Running wants g true) (sym (none_at (recallable t) x.asks e a (Running wants g false) i) ∙ recall_some g t (Running wants g true) ticket tenure)

  recalled_means : (l : Life) (t : Ticket) (number : ℕ) (o : Option (ℕ × KeptAsk)) → first (recallable t) x.asks 0 ≡ o → l ≡ x.life → Heard (told.Recall n l t) number (recalled t x o)
  recalled_means l t number None e q = ((Told (told.Recall n l t), inl refl, (q, none_recalled t e)), refl, refl)
  recalled_means l t number (Some r) e q =
      let f = found (recallable t) x.asks r e in
      let o = recallable_is t f.0 r.1 f.2 in (
        l,
        refl,
        q,
        (
          r.0,
          o.0,
          o.1,
          o.2,
          refl,
          elim o.3 [
            | inl is ↦ inl (f.1 ∙ ap Some is.0, ap (λ z. record x { asks = set_nth x.asks r.0 z }) is.1)
            | inr is ↦ inr (f.1 ∙ ap Some is.0, ap (λ z. record x { asks = set_nth x.asks r.0 z }) is.1)
          ],
        ),
      )

  of_life_means : (y : FromCoord) (l : Life) (number : ℕ) (w : NodeWork) → life_of y ≡ l → (l ≡ x.life → Heard y number w) → Heard y number (of_life l x w)
  of_life_means y l number w its h = elim (cases_Bool (eqb l.0 x.life.0)) [
    | inl t ↦ rw t (h (life_is l x.life (eqb-true l.0 x.life.0 t)))
    | inr t ↦ rw t (y, refl, (λ same. true_false (eqb l.0 x.life.0) (let e : l.0 ≡ x.life.0 = ap (λ (z : Life). z.0) (sym its) ∙ same in subst (λ z. eqb l.0 z ≡ true) e (eqb_same l.0)) t), refl, refl)
  ]

  pub heard_exact : (y : FromCoord) (number : ℕ) → told_to y ≡ n → Exact (Some (Told y)) (Deliver number) (unless_spent x (heard k at y x))
  heard_exact y number to = unless_exact (Some (Told y)) (Deliver number) (heard k at y x) (λ h. h) (deliver_spent number) (by y to)
    where
      by : (y : FromCoord) → told_to y ≡ n → Heard y number (heard k at y x)
      by (told.Granted g) to = of_life_means (told.Granted g) g.life number _ refl (granted_means g number (nth x.asks g.ask.0) refl)
      by (told.Committed m l t versions) to = subst (λ z. Heard (told.Committed z l t versions) number (heard k at (told.Committed m l t versions) x)) (sym to) (of_life_means (told.Committed n l t versions) l number _ refl (learned_means l t versions number (first (finished t) x.asks 0) refl))
      by (told.Fenced m l t) to = subst (λ z. Heard (told.Fenced z l t) number (heard k at (told.Fenced m l t) x)) (sym to) (of_life_means (told.Fenced n l t) l number _ refl (dropped_means l t number (first (finished t) x.asks 0) refl))
      by (told.Denied m l a why) to = subst (λ z. Heard (told.Denied z l a why) number (heard k at (told.Denied m l a why) x)) (sym to) (of_life_means (told.Denied n l a why) l number _ refl (denied_means l a why number (nth x.asks a.0) refl))
      by (told.Recall m l t) to = subst (λ z. Heard (told.Recall z l t) number (heard k at (told.Recall m l t) x)) (sym to) (of_life_means (told.Recall n l t) l number _ refl (recalled_means l t number (first (recallable t) x.asks 0) refl))

  fetched_means : (y : Fetch) (number : ℕ) (o : Option (List ℕ)) → x.store y.digest ≡ o → Means (Some (Fetches y)) (Deliver number) (fetched y.from x o)
  fetched_means y number None e = ((Fetches y, inl refl, e), refl, refl)
  fetched_means y number (Some c) e = (y, c, refl, e, refl, refl)

  pub fetched_exact : (y : Fetch) (number : ℕ) → Exact (Some (Fetches y)) (Deliver number) (unless_spent x (fetched y.from x (x.store y.digest)))
  fetched_exact y number = unless_exact (Some (Fetches y)) (Deliver number) (fetched y.from x (x.store y.digest)) (λ h. h) (deliver_spent number) (fetched_means y number (x.store y.digest) refl)

  base_is : (d : Digest) (s : KeptAsk) → is_base d s ≡ true → (wants : List Want) × (g : Grant) × (r : Bool) × (u : GrantedSlot) × (s ≡ Holding wants g r) × In u g.slots × (u.digest ≡ d)
  base_is d (Open wants tenure) h = (let bad : false ≡ true = h in cc)
  base_is d (Holding wants g r) h = (let u = from_any (λ (u : GrantedSlot). digest_eq u.digest d) g.slots h in (wants, g, r, u.0, refl, u.1, digest_exact u.0.digest d u.2))
  base_is d (Running wants g r) h = (let bad : false ≡ true = h in cc)
  base_is d (Finished wants g news) h = (let bad : false ≡ true = h in cc)
  base_is d (Over how) h = (let bad : false ≡ true = h in cc)

  some_base : (d : Digest) → list_any (is_base d) x.asks ≡ true → IsBase x d
  some_base d t =
      let r = from_any (is_base d) x.asks t in
      let a = get_from r.0 x.asks r.1 in
      let b = base_is d r.0 r.2 in
      (suc a.0, b.0, b.1, b.2, b.3, a.1 ∙ ap Some b.4, b.5, b.6)

  base_some : (d : Digest) → IsBase x d → list_any (is_base d) x.asks ≡ true
  base_some d (a, wants, g, r, u, i, j, e) =
      any_in (is_base d) (Holding wants g r) x.asks (nth_in x.asks a (Holding wants g r) i) (any_in (λ (v : GrantedSlot). digest_eq v.digest d) u g.slots j (subst (λ z. digest_eq u.digest z ≡ true) e (digest_eq_same u.digest)))

  brought_means : (d : Option Message) (e : Event) (c : List ℕ) → Arrives d e n (Blob n c) → Means d e (brought sha c x)
  brought_means d e c came = elim (cases_Bool (not (is_stored x (sha c)) && list_any (is_base (sha c)) x.asks)) [
    | inl t ↦ rw t (let b = and_parts (not (is_stored x (sha c))) (list_any (is_base (sha c)) x.asks) t in
        (c, came, not_some (x.store (sha c)) (not-true (is_stored x (sha c)) b.0), some_base (sha c) b.1, refl, refl))
    | inr t ↦ rw t ((Blob n c, came, unwanted t), refl, refl)
  ]
    where
      unwanted : (not (is_stored x (sha c)) && list_any (is_base (sha c)) x.asks) ≡ false → (x.store (sha c) ≢ None) ⊎ (IsBase x (sha c) → ⊥)
      unwanted f = elim (cases_Bool (is_stored x (sha c))) [
        | inl t ↦ inl (λ none. true_false (is_some (x.store (sha c))) t (ap is_some none))
        | inr absent ↦ inr (λ base. true_false (list_any (is_base (sha c)) x.asks) (base_some (sha c) base) (rw absent at f))
      ]

  pub brought_exact : (number : ℕ) (c : List ℕ) → Exact (Some (Blob n c)) (Deliver number) (unless_spent x (brought sha c x))
  brought_exact number c = unless_exact (Some (Blob n c)) (Deliver number) (brought sha c x) (λ h. h) (deliver_spent number) (brought_means (Some (Blob n c)) (Deliver number) c (inl refl))

  pub forged_exact : (c : List ℕ) → Exact None (Forge n c) (unless_spent x (brought sha c x))
  forged_exact c = unless_exact None (Forge n c) (brought sha c x) (λ h. h) (forge_spent n c) (brought_means None (Forge n c) c (inr (c, refl, refl)))

  needs_is : (d : Digest) (s : KeptAsk) → needs d s ≡ true → Needs d s
  needs_is d (Open wants tenure) h = (let bad : false ≡ true = h in cc)
  needs_is d (Holding wants g r) h = (let u = from_any (λ (u : GrantedSlot). digest_eq u.digest d) g.slots h in Held_base wants g r u.0 u.1 (digest_exact u.0.digest d u.2))
  needs_is d (Running wants g r) h = (let u = from_any (λ (u : GrantedSlot). digest_eq u.digest d) g.slots h in Running_base wants g r u.0 u.1 (digest_exact u.0.digest d u.2))
  needs_is d (Finished wants g news) h = (let y = from_any (λ (y : News). digest_eq y.digest d) news h in Sent_news wants g news y.0 y.1 (digest_exact y.0.digest d y.2))
  needs_is d (Over how) h = (let bad : false ≡ true = h in cc)

  is_needs : (d : Digest) (s : KeptAsk) → Needs d s → needs d s ≡ true
  is_needs d s (Held_base wants g r u i e) = any_in (λ (v : GrantedSlot). digest_eq v.digest d) u g.slots i (subst (λ z. digest_eq u.digest z ≡ true) e (digest_eq_same u.digest))
  is_needs d s (Running_base wants g r u i e) = any_in (λ (v : GrantedSlot). digest_eq v.digest d) u g.slots i (subst (λ z. digest_eq u.digest z ≡ true) e (digest_eq_same u.digest))
  is_needs d s (Sent_news wants g news y i e) = any_in (λ (v : News). digest_eq v.digest d) y news i (subst (λ z. digest_eq y.digest z ≡ true) e (digest_eq_same y.digest))

  some_needs : (d : Digest) → list_any (needs d) x.asks ≡ true → IsNeeded x d
  some_needs d t =
      let r = from_any (needs d) x.asks t in
      let a = get_from r.0 x.asks r.1 in
      (suc a.0, r.0, a.1, needs_is d r.0 r.2)

  needs_some : (d : Digest) → IsNeeded x d → list_any (needs d) x.asks ≡ true
  needs_some d (a, s, i, h) = any_in (needs d) s x.asks (nth_in x.asks a s i) (is_needs d s h)

  pub forgotten_exact : (d : Digest) → Exact None (Forget n d) (forgotten k d x)
  forgotten_exact d =
      let e : Event = Forget n d in
      on_guard None e x.spent refusal.LivesSpent _ (λ down. down) (λ up. on_guard None e (digest_eq d k.empty || not (is_stored x d)) refusal.NoSuchContent _
      (λ gone. elim (cases_Bool (digest_eq d k.empty)) [
        | inl t ↦ inl (digest_exact d k.empty t)
        | inr f ↦ inr (not_some (x.store d) (not-true (is_stored x d) (rw f at gone)))
      ])
      (λ some. on_guard None e (list_any (needs d) x.asks) refusal.Needed _ (some_needs d)
      (λ free. (
      let r = or_parts (digest_eq d k.empty) (not (is_stored x d)) some in
      let c = stored_some (x.store d) (not-false (is_stored x d) r.1) in
      let other : d ≢ k.empty = λ same. true_false (digest_eq d k.empty) (subst (λ z. digest_eq d z ≡ true) same (digest_eq_same d)) r.0 in
      let unneeded : IsNeeded x d → ⊥ = λ h. true_false (list_any (needs d) x.asks) (needs_some d h) free in
      ((d, c.0, refl, other, c.1, unneeded, refl, refl), none up other c.0 c.1 unneeded)))))
    where
      none : x.spent ≡ false → d ≢ k.empty → (c : List ℕ) → x.store d ≡ Some c → (IsNeeded x d → ⊥) → (r : NodeRefusal) → NodeBecause k (Forget n d) x r → ⊥
      none up other c has free refusal.LivesSpent h = true_false x.spent h up
      none up other c has free refusal.NoSuchContent (inl same) = other same
      none up other c has free refusal.NoSuchContent (inr absent) = none_some c (sym absent ∙ has)
      none up other c has free refusal.Needed h = free h
      none up other c has free r h = h

  -- ---- what is answered at a call

  pub forgotten_noted : (d : Digest) → OnNote (λ c. c ≡ node_note.Forgot) (forgotten k d x)
  forgotten_noted d = guard_note _ x.spent refusal.LivesSpent _ (guard_note _ (digest_eq d k.empty || not (is_stored x d)) refusal.NoSuchContent _ (guard_note _ (list_any (needs d) x.asks) refusal.Needed _ refl))

  pub asked_noted : (wants : List Want) → OnNote (λ c. (a : Ask) × (c ≡ node_note.Asked a)) (asked k at wants x)
  asked_noted wants = guard_note _ x.spent refusal.LivesSpent _ (guard_note _ (not (at_home x.asks wants)) refusal.NotHomeHere _ (guard_note _ (not (nat_lt (length x.asks) k.greatest)) refusal.AsksSpent _ (next_ask x, refl)))

  pub tenure_noted : (f : FolderName) → OnNote (λ c. (a : Ask) × (c ≡ node_note.Asked a)) (asked_tenure k at f x)
  tenure_noted f = guard_note _ x.spent refusal.LivesSpent _ (guard_note _ (list_any (is_tenure_of (record f { mode = Shared })) x.asks) refusal.TenureHere _ (guard_note _ (not (nat_lt (length x.asks) k.greatest)) refusal.AsksSpent _ (next_ask x, refl)))

  pub resent_noted : OnNote (λ c. c ≡ node_note.Resent) (resent k at x)
  resent_noted = guard_note _ x.spent refusal.LivesSpent _ refl
