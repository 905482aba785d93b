-- What nodes do in the replay are acts of the world's nodes.
use Rattle.std.proofs.Common.{◌≡◌, ◌≢◌, ℕ, zero, suc, ◌+◌, List, [], ◌∷◌, ◌++◌, ◌⊎◌, Bool, true, false, not, ◌&&◌, ◌||◌, eqb, length, filter, Option, Some, None, slice_get, Ok, Err, refl, sym, ◌∙◌, ap, subst, inl, inr, arith, append-nil, append_assoc}
use Rattle.std.proofs.lemmas.Bool.{and_parts, or_parts, ne_eqb, cases_Bool, eqb-true, not-true, cases_eq, not-false}
use Rattle.std.specs.List.{list_any, list_all, flat_map}
use Rattle.std.specs.Prelude.{⊤, nat_lt, is_some}
use Rattle.farm_base.specs.Kinds.{is_tenure}
use Rattle.names.specs.Folders.{folder_eq}
use Rattle.protocol.specs.Lists.{In, put, nth, set_nth}
use Rattle.protocol.specs.Names.{Shared, slots_eq, digest_eq, NodeId, Life, Ask, Ticket, Digest, Want, FolderName, wants_shared, tenure_wants}
use Rattle.protocol.specs.Machine.{GrantedSlot, Confirmed, Grant, Message, Told, Fetches, Blob, FromCoord, hello, acquire, commit, release, written, slots_of}
use Rattle.farm_base.specs.declared.message.FromCoord.TheVariants as told
use Rattle.farm_base.specs.declared.message.Why.{Why}
use Rattle.events.specs.declared.answer.How.TheVariants as how
use Rattle.events.specs.declared.answer.NodeRefusal.{NodeRefusal}
use Rattle.protocol.specs.Ledger.{Limits}
use Rattle.protocol.specs.Hostile.{key_of}
use Rattle.protocol.specs.World.{KeptAsk, Open, Holding, Running, Finished, Over, Node, World, keeps, learn_bases, learn_versions, keep, without, has_life, IsTenureOf, RunsTenure, Uses, Idle, Act, Asks, Asks_tenure, Asks_again, Greets, Takes, Gives_back, Begins, Finishes, Gives_up, Sends_commit, Learns, Drops, Is_denied, Is_recalled, Is_recalled_running, Stores, Forgets, Asks_content, Sends_blob, Restarts, Stops, Node_moves, Moves, Still, Then}
use Rattle.protocol.specs.Nodes.{NodeWork, NodeAnswer, guard, Place, wants_folder, is_tenure_of, is_home_of, uses, at_home, others_use, in_use, HeldGrant, Sent, first, first_of, under, held, running, held_or_running, finished, recalled_if, recallable, is_stored, all_stored, is_missing, others, fetches_of, fetches, is_base, asked, asked_tenure, beginning, begun, Left, news_of, stored, leaving, finishing, finished_with, aborting, aborted, again, all_again, forgotten, needs, resent, restarted, gives_back, granted, learned, dropped, denied, recalled, of_life, heard, fetched, brought, unless_spent}
use Rattle.names.proofs.CompareLaws.{digest_exact}
use Rattle.protocol.proofs.Base.{true_false, none_some, some_is, folder_eq_same, life_is, ticket_is, in_append, in_one, from_map, any_in, any_none, from_any, put_same, put_other, nth_in}
use Rattle.farm_base.specs.Receivers.{told_to}
use Rattle.protocol.proofs.Following.{slots_eq_is}
use Rattle.names.proofs.NameLaws.{folder_exact}

-- ---- what tests say

pub all_in : {A : Type 0} (test : A → Bool) (xs : List A) → list_all test xs ≡ true → (x : A) → In x xs → test x ≡ true
all_in test [] h x i = absurd i
all_in test (y ∷ ys) h x i = (let b = and_parts (test y) (list_all test ys) h in elim i [ inl e ↦ subst (λ z. test z ≡ true) (sym e) b.0 | inr j ↦ all_in test ys b.1 x j ])

pub wants_folder_in : (f : FolderName) (wants : List Want) → wants_folder f wants ≡ true → (w : Want) × In w wants × (w.folder ≡ f)
wants_folder_in f wants h = (let r = from_any (λ (w : Want). folder_eq w.folder f) wants h in (r.0, r.1, folder_exact r.0.folder f r.2))

pub wants_folder_is : (f : FolderName) (wants : List Want) (w : Want) → In w wants → w.folder ≡ f → wants_folder f wants ≡ true
wants_folder_is f wants w i e = any_in (λ (v : Want). folder_eq v.folder f) w wants i (subst (λ g. folder_eq w.folder g ≡ true) e (folder_eq_same w.folder))

-- an element of a list, by its place
pub get_from : {A : Type 0} (x : A) (xs : List A) → In x xs → (j : ℕ) × (slice_get xs j ≡ Some x)
get_from x [] i = absurd i
get_from x (y ∷ ys) (inl e) = (0, ap Some (sym e))
get_from x (y ∷ ys) (inr i) = (let r = get_from x ys i in (suc r.0, r.1))

home_runs : (f : FolderName) (s : KeptAsk) → is_home_of f s ≡ true → (wants : List Want) × (g : Grant) × (w : Want) × (s ≡ Running wants g false) × (is_tenure g.kind ≡ true) × In w wants × (w.folder ≡ f)
home_runs f (Open wants tenure) h = (let bad : false ≡ true = h in cc)
home_runs f (Holding wants g r) h = (let bad : false ≡ true = h in cc)
home_runs f (Running wants g true) h = (let bad : false ≡ true = h in cc)
home_runs f (Running wants g false) h = (let b = and_parts (is_tenure g.kind) (wants_folder f wants) h in let w = wants_folder_in f wants b.1 in (wants, g, w.0, refl, b.0, w.1, w.2))
home_runs f (Finished wants g news) h = (let bad : false ≡ true = h in cc)
home_runs f (Over how) h = (let bad : false ≡ true = h in cc)

pub some_home : (f : FolderName) (asks : List KeptAsk) → list_any (is_home_of f) asks ≡ true → RunsTenure asks f false
some_home f asks h =
    let r = from_any (is_home_of f) asks h in
    let o = home_runs f r.0 r.2 in
    let at = get_from r.0 asks r.1 in
    (suc at.0, o.0, o.1, o.2, at.1 ∙ ap Some o.3, o.4, o.5, o.6)

pub tenure_test : (f : FolderName) (s : KeptAsk) → IsTenureOf f s → is_tenure_of f s ≡ true
tenure_test f (Open wants tenure) (t, (w, i, e)) = (let v = wants_folder_is f wants w i e in rw (t, v) refl)
tenure_test f (Holding wants g r) (t, (w, i, e)) = (let v = wants_folder_is f wants w i e in rw (t, v) refl)
tenure_test f (Running wants g r) (t, (w, i, e)) = (let v = wants_folder_is f wants w i e in rw (t, v) refl)
tenure_test f (Finished wants g news) (t, (w, i, e)) = (let v = wants_folder_is f wants w i e in rw (t, v) refl)
tenure_test f (Over how) (t, (w, i, e)) = absurd i

uses_test : (f : FolderName) (s : KeptAsk) → Uses f s → uses f s ≡ true
uses_test f (Open wants tenure) (w, i, e) = wants_folder_is f wants w i e
uses_test f (Holding wants g r) (w, i, e) = wants_folder_is f wants w i e
uses_test f (Running wants g r) (w, i, e) = wants_folder_is f wants w i e
uses_test f (Finished wants g news) (w, i, e) = absurd i
uses_test f (Over how) (w, i, e) = absurd i

-- no other ask uses the folders
others_none : (a : ℕ) (wants : List Want) (ss : List KeptAsk) (k : ℕ) → others_use a wants ss k ≡ false → (j : ℕ) (s : KeptAsk) → slice_get ss j ≡ Some s → k + j + 1 ≢ a → list_any (λ (w : Want). uses w.folder s) wants ≡ false
others_none a wants [] k h j s e ne = none_some s e
others_none a wants (x ∷ xs) k h zero s e ne =
    let o = or_parts (not (eqb (k + 1) a) && list_any (λ (w : Want). uses w.folder x) wants) (others_use a wants xs (k + 1)) h in
    let apart : eqb (k + 1) a ≡ false = ne_eqb (k + 1) a (λ q. ne (let z : k + 0 + 1 ≡ k + 1 = omega arith in z ∙ q)) in
    let here : list_any (λ (w : Want). uses w.folder x) wants ≡ false = rw apart at o.0 in
    subst (λ z. list_any (λ (w : Want). uses w.folder z) wants ≡ false) (some_is x s e) here
others_none a wants (x ∷ xs) k h (suc j) s e ne =
    let o = or_parts (not (eqb (k + 1) a) && list_any (λ (w : Want). uses w.folder x) wants) (others_use a wants xs (k + 1)) h in
    others_none a wants xs (k + 1) o.1 j s e (λ q. ne (let z : k + suc j + 1 ≡ k + 1 + j + 1 = omega arith in z ∙ q))

pub idle_from : (asks : List KeptAsk) (a : ℕ) (wants : List Want) (g : Grant) → in_use asks a wants g ≡ false → Idle asks a wants g
idle_from asks a wants g h tenure w i zero s e ne u = none_some s e
idle_from asks a wants g h tenure w i (suc b) s e ne u =
    let others : others_use a wants asks 0 ≡ false = rw tenure at h in
    let none = others_none a wants asks 0 others b s e (λ q. ne (let z : suc b ≡ 0 + b + 1 = omega arith in z ∙ q)) in
    true_false (uses w.folder s) (uses_test w.folder s u) (any_none (λ (v : Want). uses v.folder s) w wants none i)

-- ---- the first ask that a test picks

abbrev FirstAt : {A : Type 0} → (KeptAsk → Option A) → List KeptAsk → ℕ → ℕ × A → Type 0
FirstAt test ss k r = (j : ℕ) × (s : KeptAsk) × (r.0 ≡ k + j + 1) × (slice_get ss j ≡ Some s) × (test s ≡ Some r.1)

first_by : {A : Type 0} (test : KeptAsk → Option A) (s : KeptAsk) (ss : List KeptAsk) (k : ℕ) (r : ℕ × A) (o : Option A) → test s ≡ o → (first test ss (k + 1) ≡ Some r → FirstAt test ss (k + 1) r) → first_of (k + 1) o (first test ss (k + 1)) ≡ Some r → FirstAt test (s ∷ ss) k r
first_by {A} test s ss k r (Some v) t rest e =
    let is : (k + 1, v) ≡ r = some_is (k + 1, v) r e in
    let n : k + 1 ≡ r.0 = ap (λ (z : ℕ × A). z.0) is in
    (0, s, omega arith, refl, t ∙ ap (λ (z : ℕ × A). Some z.1) is)
first_by {A} test s ss k r None t rest e =
    let q = rest e in
    let n : r.0 ≡ k + 1 + q.0 + 1 = q.2 in
    (suc q.0, q.1, omega arith, q.3, q.4)

first_is : {A : Type 0} (test : KeptAsk → Option A) (ss : List KeptAsk) (k : ℕ) (r : ℕ × A) → first test ss k ≡ Some r → FirstAt test ss k r
first_is test [] k r e = none_some r e
first_is test (s ∷ ss) k r e = first_by test s ss k r (test s) refl (first_is test ss (k + 1) r) e

-- the same from the first on
pub found : {A : Type 0} (test : KeptAsk → Option A) (asks : List KeptAsk) (r : ℕ × A) → first test asks 0 ≡ Some r → (s : KeptAsk) × (nth asks r.0 ≡ Some s) × (test s ≡ Some r.1)
found test asks r e =
    let q = first_is test asks 0 r e in
    let n : suc q.0 ≡ r.0 = (let m : r.0 ≡ 0 + q.0 + 1 = q.2 in omega arith) in
    (q.1, subst (λ a. nth asks a ≡ Some q.1) n q.3, q.4)

under_is : {A : Type 0} (g : Grant) (t : Ticket) (x y : A) → under g t x ≡ Some y → (g.ticket ≡ t) × (x ≡ y)
under_is g t x y e = elim (cases_Bool (eqb g.ticket.0 t.0)) [
  | inl b ↦ (ticket_is g.ticket t (eqb-true g.ticket.0 t.0 b), some_is x y (rw b at e))
  | inr b ↦ none_some y (rw b at e)
]

pub held_is : (t : Ticket) (s : KeptAsk) (h : HeldGrant) → held t s ≡ Some h → (s ≡ Holding h.wants h.grant h.recalled) × (h.grant.ticket ≡ t)
held_is t (Open wants tenure) h e = none_some h e
held_is t (Holding wants g r) h e = (let u = under_is g t (record { wants = wants; grant = g; recalled = r }) h e in
    (ap (λ (z : HeldGrant). Holding z.wants z.grant z.recalled) u.1, ap (λ (z : HeldGrant). z.grant.ticket) (sym u.1) ∙ u.0))
held_is t (Running wants g r) h e = none_some h e
held_is t (Finished wants g news) h e = none_some h e
held_is t (Over how) h e = none_some h e

pub running_is : (t : Ticket) (s : KeptAsk) (h : HeldGrant) → running t s ≡ Some h → (s ≡ Running h.wants h.grant h.recalled) × (h.grant.ticket ≡ t)
running_is t (Open wants tenure) h e = none_some h e
running_is t (Holding wants g r) h e = none_some h e
running_is t (Running wants g r) h e = (let u = under_is g t (record { wants = wants; grant = g; recalled = r }) h e in
    (ap (λ (z : HeldGrant). Running z.wants z.grant z.recalled) u.1, ap (λ (z : HeldGrant). z.grant.ticket) (sym u.1) ∙ u.0))
running_is t (Finished wants g news) h e = none_some h e
running_is t (Over how) h e = none_some h e

pub either_is : (t : Ticket) (s : KeptAsk) (h : HeldGrant) → held_or_running t s ≡ Some h → ((s ≡ Holding h.wants h.grant h.recalled) ⊎ (s ≡ Running h.wants h.grant h.recalled)) × (h.grant.ticket ≡ t)
either_is t (Open wants tenure) h e = none_some h e
either_is t (Holding wants g r) h e = (let u = under_is g t (record { wants = wants; grant = g; recalled = r }) h e in (inl (ap (λ (z : HeldGrant). Holding z.wants z.grant z.recalled) u.1), ap (λ (z : HeldGrant). z.grant.ticket) (sym u.1) ∙ u.0))
either_is t (Running wants g r) h e = (let u = under_is g t (record { wants = wants; grant = g; recalled = r }) h e in (inr (ap (λ (z : HeldGrant). Running z.wants z.grant z.recalled) u.1), ap (λ (z : HeldGrant). z.grant.ticket) (sym u.1) ∙ u.0))
either_is t (Finished wants g news) h e = none_some h e
either_is t (Over how) h e = none_some h e

pub finished_is : (t : Ticket) (s : KeptAsk) (h : Sent) → finished t s ≡ Some h → (s ≡ Finished h.wants h.grant h.news) × (h.grant.ticket ≡ t)
finished_is t (Open wants tenure) h e = none_some h e
finished_is t (Holding wants g r) h e = none_some h e
finished_is t (Running wants g r) h e = none_some h e
finished_is t (Finished wants g news) h e = (let u = under_is g t (record { wants = wants; grant = g; news = news }) h e in
    (ap (λ (z : Sent). Finished z.wants z.grant z.news) u.1, ap (λ (z : Sent). z.grant.ticket) (sym u.1) ∙ u.0))
finished_is t (Over how) h e = none_some h e

recalled_if_is : (b : Bool) (s x : KeptAsk) → recalled_if b s ≡ Some x → (b ≡ true) × (s ≡ x)
recalled_if_is true s x e = (refl, some_is s x e)
recalled_if_is false s x e = none_some x e

abbrev Recalls : Ticket → KeptAsk → KeptAsk → Type 0
Recalls t s x = (wants : List Want) × (g : Grant) × (g.ticket ≡ t) × (((s ≡ Holding wants g false) × (x ≡ Holding wants g true)) ⊎ ((s ≡ Running wants g false) × (x ≡ Running wants g true)))

pub recallable_is : (t : Ticket) (s x : KeptAsk) → recallable t s ≡ Some x → Recalls t s x
recallable_is t (Open wants tenure) x e = none_some x e
recallable_is t (Holding wants g r) x e =
    let u = recalled_if_is ((eqb g.ticket.0 t.0) && is_tenure g.kind && not r) (Holding wants g true) x e in
    let b = and_parts ((eqb g.ticket.0 t.0) && is_tenure g.kind) (not r) u.0 in
    let c = and_parts (eqb g.ticket.0 t.0) (is_tenure g.kind) b.0 in
    (wants, g, ticket_is g.ticket t (eqb-true g.ticket.0 t.0 c.0), inl (ap (Holding wants g) (not-true r b.1), sym u.1))
recallable_is t (Running wants g r) x e =
    let u = recalled_if_is ((eqb g.ticket.0 t.0) && is_tenure g.kind && not r) (Running wants g true) x e in
    let b = and_parts ((eqb g.ticket.0 t.0) && is_tenure g.kind) (not r) u.0 in
    let c = and_parts (eqb g.ticket.0 t.0) (is_tenure g.kind) b.0 in
    (wants, g, ticket_is g.ticket t (eqb-true g.ticket.0 t.0 c.0), inr (ap (Running wants g) (not-true r b.1), sym u.1))
recallable_is t (Finished wants g news) x e = none_some x e
recallable_is t (Over how) x e = none_some x e

-- ---- contents

stored_ok : (sha : List ℕ → Digest) (lefts : List Left) (store : Digest → Option (List ℕ)) (d : Digest) (c : List ℕ) → stored sha lefts store d ≡ Some c → ((store d ≡ Some c) ⊎ (sha c ≡ d))
stored_ok sha [] store d c e = inl e
stored_ok sha (x ∷ xs) store d c e = elim (cases_Bool (is_some (store (sha x.content)))) [
  | inl t ↦ stored_ok sha xs store d c (rw t at e)
  | inr t ↦ elim (stored_ok sha xs (keep (sha x.content) x.content store) d c (rw t at e)) [
    | inr same ↦ inr same
    | inl old ↦ elim (cases_Bool (digest_eq d (sha x.content))) [
      | inl q ↦ (let is : keep (sha x.content) x.content store d ≡ Some x.content = rw q in
          inr (ap sha (some_is c x.content (sym old ∙ is)) ∙ sym (digest_exact d (sha x.content) q)))
      | inr q ↦ (let is : keep (sha x.content) x.content store d ≡ store d = rw q in inl (sym is ∙ old))
    ]
  ]
]

pub stored_some : (o : Option (List ℕ)) → is_some o ≡ true → (c : List ℕ) × (o ≡ Some c)
stored_some None h = (let bad : false ≡ true = h in cc)
stored_some (Some c) h = (c, refl)

-- ---- reaching a world by a node's acts

-- a node never speaks as the coordinator
abbrev pub NoneTold : List Message → Type 0
NoneTold sends = (z : FromCoord) → In (Told z) sends → ⊥

not_told : (z : FromCoord) (y : Message) → (Told z ≡ y → ⊥) → In (Told z) (y ∷ []) → ⊥
not_told z y other i = other (in_one (Told z) y i)

act_tells : (sha : List ℕ → Digest) (pool : List Message) (n : NodeId) (x : Node) (sends : List Message) (x' : Node) → Act sha pool n x sends x' → NoneTold sends
act_tells sha pool n x sends x' (Asks wants h) z i = not_told z _ (λ e. cc) i
act_tells sha pool n x sends x' (Asks_tenure f h) z i = not_told z _ (λ e. cc) i
act_tells sha pool n x sends x' (Asks_again b wants tenure e) z i = not_told z _ (λ e. cc) i
act_tells sha pool n x sends x' Greets z i = not_told z _ (λ e. cc) i
act_tells sha pool n x sends x' (Takes g wants tenure j p q e) z i = i
act_tells sha pool n x sends x' (Gives_back g j p q o keep') z i = not_told z _ (λ e. cc) i
act_tells sha pool n x sends x' (Begins wants g r a at all) z i = i
act_tells sha pool n x sends x' (Finishes wants g r a news store at idle slots some ok) z i = not_told z _ (λ e. cc) i
act_tells sha pool n x sends x' (Gives_up wants g r a at idle) z i = not_told z _ (λ e. cc) i
act_tells sha pool n x sends x' (Sends_commit wants g a news at) z i = not_told z _ (λ e. cc) i
act_tells sha pool n x sends x' (Learns wants g a news versions j at) z i = i
act_tells sha pool n x sends x' (Drops wants g a news j at) z i = i
act_tells sha pool n x sends x' (Is_denied a why wants tenure j at) z i = i
act_tells sha pool n x sends x' (Is_recalled wants g a j at) z i = i
act_tells sha pool n x sends x' (Is_recalled_running wants g a j at) z i = i
act_tells sha pool n x sends x' (Stores c) z i = i
act_tells sha pool n x sends x' (Forgets d c e) z i = i
act_tells sha pool n x sends x' (Asks_content other d) z i = not_told z _ (λ e. cc) i
act_tells sha pool n x sends x' (Sends_blob other c) z i = not_told z _ (λ e. cc) i
act_tells sha pool n x sends x' Restarts z i = not_told z _ (λ e. cc) i
act_tells sha pool n x sends x' Stops z i = i

-- a message under the node's key, or under none
abbrev pub OfNode : NodeId → Message → Type 0
OfNode n z = (key_of z ≡ Some n) ⊎ (key_of z ≡ None)

of_one : (n : NodeId) (z y : Message) → OfNode n y → In z (y ∷ []) → OfNode n z
of_one n z y own i = subst (OfNode n) (sym (in_one z y i)) own

pub act_owns : (sha : List ℕ → Digest) (pool : List Message) (n : NodeId) (x : Node) (sends : List Message) (x' : Node) → Act sha pool n x sends x' → (z : Message) → In z sends → OfNode n z
act_owns sha pool n x sends x' (Asks wants h) z i = of_one n z _ (inl refl) i
act_owns sha pool n x sends x' (Asks_tenure f h) z i = of_one n z _ (inl refl) i
act_owns sha pool n x sends x' (Asks_again b wants tenure e) z i = of_one n z _ (inl refl) i
act_owns sha pool n x sends x' Greets z i = of_one n z _ (inl refl) i
act_owns sha pool n x sends x' (Takes g wants tenure j p q e) z i = absurd i
act_owns sha pool n x sends x' (Gives_back g j p q o keep') z i = of_one n z _ (inl refl) i
act_owns sha pool n x sends x' (Begins wants g r a at all) z i = absurd i
act_owns sha pool n x sends x' (Finishes wants g r a news store at idle slots some ok) z i = of_one n z _ (inl refl) i
act_owns sha pool n x sends x' (Gives_up wants g r a at idle) z i = of_one n z _ (inl refl) i
act_owns sha pool n x sends x' (Sends_commit wants g a news at) z i = of_one n z _ (inl refl) i
act_owns sha pool n x sends x' (Learns wants g a news versions j at) z i = absurd i
act_owns sha pool n x sends x' (Drops wants g a news j at) z i = absurd i
act_owns sha pool n x sends x' (Is_denied a why wants tenure j at) z i = absurd i
act_owns sha pool n x sends x' (Is_recalled wants g a j at) z i = absurd i
act_owns sha pool n x sends x' (Is_recalled_running wants g a j at) z i = absurd i
act_owns sha pool n x sends x' (Stores c) z i = absurd i
act_owns sha pool n x sends x' (Forgets d c e) z i = absurd i
act_owns sha pool n x sends x' (Asks_content other d) z i = of_one n z _ (inr refl) i
act_owns sha pool n x sends x' (Sends_blob other c) z i = of_one n z _ (inr refl) i
act_owns sha pool n x sends x' Restarts z i = of_one n z _ (inl refl) i
act_owns sha pool n x sends x' Stops z i = absurd i

-- a world that the node's acts lead to
pub record Reached (sha : List ℕ → Digest) (u : World) (n : NodeId) (sends : List Message) (x : Node) : Type 0 where
  pub world : World
  pub moves : Moves sha u world
  pub machine : world.machine ≡ u.machine
  pub down : world.down ≡ u.down
  pub pool : world.pool ≡ u.pool ++ sends
  pub nodes : (j : ℕ) → world.nodes j ≡ put n.0 x u.nodes j
  pub tells : NoneTold sends
  pub owns : (z : Message) → In z sends → OfNode n z

module _ (sha : List ℕ → Digest) (u : World) (n : NodeId) where
  abbrev pub here : Node
  here = u.nodes n.0

  pub nothing_done : Reached sha u n [] here
  nothing_done = record {
    world = u;
    moves = Still u;
    machine = refl;
    down = refl;
    pool = sym (append-nil u.pool);
    tells = λ z i. i;
    owns = λ z i. absurd i;
    nodes = λ j. elim (cases_eq j n.0) [
      | inl e ↦ ap u.nodes e ∙ sym (ap (put n.0 here u.nodes) e ∙ put_same n.0 here u.nodes)
      | inr ne ↦ sym (put_other n.0 here u.nodes j ne)
    ];
  }

  -- one more act
  pub then_does : (sends more : List Message) (x y : Node) → Reached sha u n sends x → Act sha (u.pool ++ sends) n x more y → Reached sha u n (sends ++ more) y
  then_does sends more x y r act =
      let v : World = r.world in
      let at : v.nodes n.0 ≡ x = r.nodes n.0 ∙ put_same n.0 x u.nodes in
      let act' : Act sha v.pool n (v.nodes n.0) more y = subst (λ z. Act sha v.pool n z more y) (sym at) (subst (λ p. Act sha p n x more y) (sym r.pool) act) in
      let next : World = record v { nodes = put n.0 y v.nodes; pool = v.pool ++ more } in
      record {
        world = next;
        moves = Then u v next r.moves (Node_moves n more y act');
        machine = r.machine;
        down = r.down;
        pool = ap (λ p. p ++ more) r.pool ∙ append_assoc u.pool sends more;
        tells = λ z i. elim (in_append (Told z) sends more i) [ inl j ↦ r.tells z j | inr j ↦ act_tells sha (u.pool ++ sends) n x more y act z j ];
        owns = λ z i. elim (in_append z sends more i) [ inl j ↦ r.owns z j | inr j ↦ act_owns sha (u.pool ++ sends) n x more y act z j ];
        nodes = λ j. elim (cases_eq j n.0) [
          | inl e ↦ ap (put n.0 y v.nodes) e ∙ put_same n.0 y v.nodes ∙ sym (ap (put n.0 y u.nodes) e ∙ put_same n.0 y u.nodes)
          | inr ne ↦ put_other n.0 y v.nodes j ne ∙ r.nodes j ∙ put_other n.0 x u.nodes j ne ∙ sym (put_other n.0 y u.nodes j ne)
        ];
      }

  pub does : (sends : List Message) (x : Node) → Act sha u.pool n here sends x → Reached sha u n sends x
  does sends x act = then_does [] sends here x nothing_done (subst (λ p. Act sha p n here sends x) (sym (append-nil u.pool)) act)

  -- messages that are Fetches of this node
  abbrev AllFetches : List Message → Type 0
  AllFetches ms = (y : Message) → In y ms → (other : NodeId) × (d : Digest) × (y ≡ Fetches (record { node = other; from = n; digest = d }))

  pub then_fetches : (sends ms : List Message) (x : Node) → AllFetches ms → Reached sha u n sends x → Reached sha u n (sends ++ ms) x
  then_fetches sends [] x all r = subst (λ l. Reached sha u n l x) (sym (append-nil sends)) r
  then_fetches sends (y ∷ ms) x all r =
      let o = all y (inl refl) in
      let one : Reached sha u n (sends ++ y ∷ []) x = then_does sends (y ∷ []) x x r (subst (λ z. Act sha (u.pool ++ sends) n x (z ∷ []) x) (sym o.2) (Asks_content o.0 o.1)) in
      subst (λ l. Reached sha u n l x) (append_assoc sends (y ∷ []) ms) (then_fetches (sends ++ y ∷ []) ms x (λ z i. all z (inr i)) one)

  abbrev pub at : ℕ → Place
  at size = record { node = n; nodes = size }

  in_flat : {A : Type 0} (f : A → List Message) (xs : List A) (y : Message) → In y (flat_map f xs) → (x : A) × In x xs × In y (f x)
  in_flat f [] y i = absurd i
  in_flat f (x ∷ xs) y i = elim (in_append y (f x) (flat_map f xs) i) [
    | inl j ↦ (x, inl refl, j)
    | inr j ↦ (let r = in_flat f xs y j in (r.0, inr r.1, r.2))
  ]

  fetches_all : (k : Limits) (size : ℕ) (x : Node) (slots : List GrantedSlot) → AllFetches (fetches k (at size) x slots)
  unfolding fetches
  fetches_all k size x slots y i =
      let r = in_flat (λ (s : GrantedSlot). fetches_of (at size) s.digest) (filter (is_missing k x) slots) y i in
      let o = from_map (λ (m : NodeId). Fetches (record { node = m; from = n; digest = r.0.digest })) y (others (at size)) r.2 in
      (o.0, r.0.digest, o.2)

  -- the result of an accepted call is reached
  abbrev pub OnAnswer : NodeAnswer → Type 0
  OnAnswer (Ok w) = Reached sha u n w.sends w.node
  OnAnswer (Err e) = ⊤

  on_guard : (b : Bool) (e : NodeRefusal) (r : NodeAnswer) → (b ≡ false → OnAnswer r) → OnAnswer (guard b e r)
  on_guard true e r h = tt
  on_guard false e r h = h refl

  pub asked_does : (k : Limits) (size : ℕ) (wants : List Want) → OnAnswer (asked k (at size) wants here)
  asked_does k size wants =
      on_guard here.spent _ _ (λ up. on_guard (not (at_home here.asks wants)) _ _ (λ home. on_guard (not (nat_lt (length here.asks) k.greatest)) _ _ (λ left.
      does (acquire n here.life (record { 0 = length here.asks + 1 }) wants false ∷ []) (record here { asks = here.asks ++ Open wants false ∷ [] })
      (Asks wants (λ w i shared. (let t : (not (wants_shared w) || list_any (is_home_of w.folder) here.asks) ≡ true = all_in (λ (v : Want). not (wants_shared v) || list_any (is_home_of v.folder) here.asks) wants (not-false (at_home here.asks wants) home) w i in
      some_home w.folder here.asks (rw shared at t)))))))

  pub tenure_does : (k : Limits) (size : ℕ) (f : FolderName) → OnAnswer (asked_tenure k (at size) f here)
  tenure_does k size f =
      let g : FolderName = record f { mode = Shared } in
      on_guard here.spent _ _ (λ up. on_guard (list_any (is_tenure_of g) here.asks) _ _ (λ none. on_guard (not (nat_lt (length here.asks) k.greatest)) _ _ (λ left.
      does (acquire n here.life (record { 0 = length here.asks + 1 }) (tenure_wants f) true ∷ []) (record here { asks = here.asks ++ Open (tenure_wants f) true ∷ [] })
      (Asks_tenure f (λ a s e t. true_false (is_tenure_of g s) (tenure_test g s t) (any_none (is_tenure_of g) s here.asks none (nth_in here.asks a s e)))))))

  beginning_does : (t : Ticket) (o : Option (ℕ × HeldGrant)) → first (held t) here.asks 0 ≡ o → OnAnswer (beginning t here o)
  beginning_does t None e = tt
  beginning_does t (Some r) e =
      let f = found (held t) here.asks r e in
      let h : HeldGrant = r.1 in
      let is = held_is t f.0 h f.2 in
      on_guard (not (all_stored here h.grant.slots)) _ _ (λ all.
      does [] (record here { asks = set_nth here.asks r.0 (Running h.wants h.grant h.recalled) })
      (Begins h.wants h.grant h.recalled r.0 (f.1 ∙ ap Some is.0) (λ s i. stored_some (here.store s.digest) (all_in (λ (v : GrantedSlot). is_stored here v.digest) h.grant.slots (not-false (all_stored here h.grant.slots) all) s i))))

  pub begun_does : (t : Ticket) → OnAnswer (begun t here)
  begun_does t = on_guard here.spent _ _ (λ up. beginning_does t (first (held t) here.asks 0) refl)

  some_news : (l : Left) (ls : List Left) → news_of sha (l ∷ ls) ≢ []
  some_news l ls e = (let bad : record { slot = l.slot; digest = sha l.content } ∷ news_of sha ls ≡ [] = e in cc)

  leaving_does : (size : ℕ) (a : ℕ) (h : HeldGrant) (lefts : List Left) → nth here.asks a ≡ Some (Running h.wants h.grant h.recalled) → Idle here.asks a h.wants h.grant → slots_of (news_of sha lefts) ≡ written h.grant.slots
      → OnAnswer (Ok (leaving sha (at size) a h lefts here))
  leaving_does size a h [] at' idle slots = does (release n here.life h.grant.ticket ∷ []) (record here { asks = set_nth here.asks a (Over (how.Released h.grant.ticket)) }) (Gives_up h.wants h.grant h.recalled a (inr at') idle)
  leaving_does size a h (l ∷ ls) at' idle slots =
      does (commit n here.life h.grant.ticket (news_of sha (l ∷ ls)) ∷ []) (record here { asks = set_nth here.asks a (Finished h.wants h.grant (news_of sha (l ∷ ls))); store = stored sha (l ∷ ls) here.store })
      (Finishes h.wants h.grant h.recalled a (news_of sha (l ∷ ls)) (stored sha (l ∷ ls) here.store) at' idle slots (some_news l ls) (stored_ok sha (l ∷ ls) here.store))

  finishing_does : (size : ℕ) (t : Ticket) (lefts : List Left) (o : Option (ℕ × HeldGrant)) → first (running t) here.asks 0 ≡ o → OnAnswer (finishing sha (at size) lefts here o)
  finishing_does size t lefts None e = tt
  finishing_does size t lefts (Some r) e =
      let f = found (running t) here.asks r e in
      let h : HeldGrant = r.1 in
      let is = running_is t f.0 h f.2 in
      on_guard (in_use here.asks r.0 h.wants h.grant) _ _ (λ idle. on_guard (not (slots_eq (slots_of (news_of sha lefts)) (written h.grant.slots))) _ _ (λ slots.
      leaving_does size r.0 h lefts (f.1 ∙ ap Some is.0) (idle_from here.asks r.0 h.wants h.grant idle) (slots_eq_is (slots_of (news_of sha lefts)) (written h.grant.slots) (not-false (slots_eq (slots_of (news_of sha lefts)) (written h.grant.slots)) slots))))

  pub finished_does : (size : ℕ) (t : Ticket) (lefts : List Left) → OnAnswer (finished_with sha (at size) t lefts here)
  finished_does size t lefts = on_guard here.spent _ _ (λ up. finishing_does size t lefts (first (running t) here.asks 0) refl)

  aborting_does : (size : ℕ) (t : Ticket) (o : Option (ℕ × HeldGrant)) → first (held_or_running t) here.asks 0 ≡ o → OnAnswer (aborting (at size) here o)
  aborting_does size t None e = tt
  aborting_does size t (Some r) e =
      let f = found (held_or_running t) here.asks r e in
      let h : HeldGrant = r.1 in
      on_guard (in_use here.asks r.0 h.wants h.grant) _ _ (λ idle.
      does (release n here.life h.grant.ticket ∷ []) (record here { asks = set_nth here.asks r.0 (Over (how.Released h.grant.ticket)) })
      (Gives_up h.wants h.grant h.recalled r.0 (elim (either_is t f.0 h f.2).0 [ inl is ↦ inl (f.1 ∙ ap Some is) | inr is ↦ inr (f.1 ∙ ap Some is) ]) (idle_from here.asks r.0 h.wants h.grant idle)))

  pub aborted_does : (size : ℕ) (t : Ticket) → OnAnswer (aborted (at size) t here)
  aborted_does size t = on_guard here.spent _ _ (λ up. aborting_does size t (first (held_or_running t) here.asks 0) refl)

  -- ---- what a node sends again

  get_at : {A : Type 0} (front : List A) (x : A) (rest : List A) → slice_get (front ++ x ∷ rest) (length front) ≡ Some x
  get_at [] x rest = refl
  get_at (y ∷ front) x rest = get_at front x rest

  length-push : {A : Type 0} (xs : List A) (x : A) → length (xs ++ x ∷ []) ≡ length xs + 1
  length-push [] x = refl
  length-push (y ∷ ys) x = (let e : length (ys ++ x ∷ []) ≡ length ys + 1 = length-push ys x in (let r : suc (length (ys ++ x ∷ [])) ≡ suc (length ys) + 1 = omega arith in r))

  again_does : (k : Limits) (size : ℕ) (a : ℕ) (s : KeptAsk) (sends : List Message) → nth here.asks a ≡ Some s → Reached sha u n sends here → Reached sha u n (sends ++ again k (at size) here (record { 0 = a }) s) here
  again_does k size a (Open wants tenure) sends e r = then_does sends (acquire n here.life (record { 0 = a }) wants tenure ∷ []) here here r (Asks_again (record { 0 = a }) wants tenure e)
  again_does k size a (Holding wants g q) sends e r = then_fetches sends (fetches k (at size) here g.slots) here (fetches_all k size here g.slots) r
  again_does k size a (Running wants g q) sends e r = subst (λ l. Reached sha u n l here) (sym (append-nil sends)) r
  again_does k size a (Finished wants g news) sends e r = then_does sends (commit n here.life g.ticket news ∷ []) here here r (Sends_commit wants g a news e)
  again_does k size a (Over how) sends e r = subst (λ l. Reached sha u n l here) (sym (append-nil sends)) r

  all_again_does : (k : Limits) (size : ℕ) (front ss : List KeptAsk) (sends : List Message) → here.asks ≡ front ++ ss → Reached sha u n sends here → Reached sha u n (sends ++ all_again k (at size) here ss (length front)) here
  all_again_does k size front [] sends e r = subst (λ l. Reached sha u n l here) (sym (append-nil sends)) r
  all_again_does k size front (s ∷ ss) sends e r =
      let a : ℕ = length front + 1 in
      let place : nth here.asks a ≡ Some s = subst (λ z. nth here.asks z ≡ Some s) (let q : suc (length front) ≡ length front + 1 = omega arith in q) (subst (λ (l : List KeptAsk). slice_get l (length front) ≡ Some s) (sym e) (get_at front s ss)) in
      let one = again_does k size a s sends place r in
      let rest = all_again_does k size (front ++ s ∷ []) ss (sends ++ again k (at size) here (record { 0 = a }) s) (e ∙ sym (append_assoc front (s ∷ []) ss)) one in
      let rest' : Reached sha u n ((sends ++ again k (at size) here (record { 0 = a }) s) ++ all_again k (at size) here ss a) here = subst (λ z. Reached sha u n ((sends ++ again k (at size) here (record { 0 = a }) s) ++ all_again k (at size) here ss z) here) (length-push front s) rest in
      subst (λ l. Reached sha u n l here) (append_assoc sends (again k (at size) here (record { 0 = a }) s) (all_again k (at size) here ss a)) rest'

  pub resent_does : (k : Limits) (size : ℕ) → OnAnswer (resent k (at size) here)
  resent_does k size = on_guard here.spent _ _ (λ up. all_again_does k size [] here.asks (hello n here.life ∷ []) refl (does (hello n here.life ∷ []) here Greets))

  pub restarted_does : (size : ℕ) → Reached sha u n (restarted (at size) here).sends (restarted (at size) here).node
  restarted_does size = does (hello n (record { 0 = here.life.0 + 1 }) ∷ []) (has_life here (here.life.0 + 1)) Restarts

  pub stops_does : Reached sha u n [] (record here { spent = true })
  stops_does = does [] (record here { spent = true }) Stops

  -- ---- messages

  abbrev OnWork : NodeWork → Type 0
  OnWork w = Reached sha u n w.sends w.node

  give_back_does : (size : ℕ) (g : Grant) (b : Bool) → In (Told (told.Granted g)) u.pool → g.node ≡ n → g.life ≡ here.life
      → ((wants : List Want) (tenure : Bool) → nth here.asks g.ask.0 ≢ Some (Open wants tenure)) → ((s : KeptAsk) → nth here.asks g.ask.0 ≡ Some s → keeps s g.ticket ≡ b) → OnWork (gives_back (at size) g b here)
  give_back_does size g true i p q o keep' = nothing_done
  give_back_does size g false i p q o keep' = does (release n here.life g.ticket ∷ []) here (Gives_back g i p q o keep')

  granted_does : (k : Limits) (size : ℕ) (g : Grant) (o : Option KeptAsk) → In (Told (told.Granted g)) u.pool → g.node ≡ n → g.life ≡ here.life → nth here.asks g.ask.0 ≡ o → OnWork (granted k (at size) g here o)
  granted_does k size g None i p q e = give_back_does size g false i p q (λ ws t z. none_some (Open ws t) (sym e ∙ z)) (λ s z. none_some s (sym e ∙ z))
  granted_does k size g (Some (Open wants tenure)) i p q e =
      then_fetches [] (fetches k (at size) here g.slots) (record here { asks = set_nth here.asks g.ask.0 (Holding wants g false); known = learn_bases g.slots here.known })
      (fetches_all k size here g.slots)
      (does [] (record here { asks = set_nth here.asks g.ask.0 (Holding wants g false); known = learn_bases g.slots here.known }) (Takes g wants tenure i p q e))
  granted_does k size g (Some (Holding wants h r)) i p q e = give_back_does size g (keeps (Holding wants h r) g.ticket) i p q (λ ws t z. (let bad : Holding wants h r ≡ Open ws t = some_is (Holding wants h r) (Open ws t) (sym e ∙ z) in cc)) (λ s z. ap (λ y. keeps y g.ticket) (some_is s (Holding wants h r) (sym z ∙ e)))
  granted_does k size g (Some (Running wants h r)) i p q e = give_back_does size g (keeps (Running wants h r) g.ticket) i p q (λ ws t z. (let bad : Running wants h r ≡ Open ws t = some_is (Running wants h r) (Open ws t) (sym e ∙ z) in cc)) (λ s z. ap (λ y. keeps y g.ticket) (some_is s (Running wants h r) (sym z ∙ e)))
  granted_does k size g (Some (Finished wants h news)) i p q e = give_back_does size g (keeps (Finished wants h news) g.ticket) i p q (λ ws t z. (let bad : Finished wants h news ≡ Open ws t = some_is (Finished wants h news) (Open ws t) (sym e ∙ z) in cc)) (λ s z. ap (λ y. keeps y g.ticket) (some_is s (Finished wants h news) (sym z ∙ e)))
  granted_does k size g (Some (Over how)) i p q e = give_back_does size g false i p q (λ ws t z. (let bad : Over how ≡ Open ws t = some_is (Over how) (Open ws t) (sym e ∙ z) in cc)) (λ s z. ap (λ y. keeps y g.ticket) (some_is s (Over how) (sym z ∙ e)))

  learned_does : (l : Life) (t : Ticket) (versions : List Confirmed) (o : Option (ℕ × Sent)) → In (Told (told.Committed n l t versions)) u.pool → l ≡ here.life → first (finished t) here.asks 0 ≡ o → OnWork (learned t versions here o)
  learned_does l t versions None i q e = nothing_done
  learned_does l t versions (Some r) i q e =
      let f = found (finished t) here.asks r e in
      let is = finished_is t f.0 r.1 f.2 in
      let i' : In (Told (told.Committed n here.life r.1.grant.ticket versions)) u.pool = subst (λ z. In (Told (told.Committed n z r.1.grant.ticket versions)) u.pool) q (subst (λ z. In (Told (told.Committed n l z versions)) u.pool) (sym is.1) i) in
      subst (λ z. Reached sha u n [] (record here { asks = set_nth here.asks r.0 (Over (how.Committed z versions)); known = learn_versions versions here.known })) is.1
      (does [] (record here { asks = set_nth here.asks r.0 (Over (how.Committed r.1.grant.ticket versions)); known = learn_versions versions here.known }) (Learns r.1.wants r.1.grant r.0 r.1.news versions i' (f.1 ∙ ap Some is.0)))

  dropped_does : (l : Life) (t : Ticket) (o : Option (ℕ × Sent)) → In (Told (told.Fenced n l t)) u.pool → l ≡ here.life → first (finished t) here.asks 0 ≡ o → OnWork (dropped t here o)
  dropped_does l t None i q e = nothing_done
  dropped_does l t (Some r) i q e =
      let f = found (finished t) here.asks r e in
      let is = finished_is t f.0 r.1 f.2 in
      let i' : In (Told (told.Fenced n here.life r.1.grant.ticket)) u.pool = subst (λ z. In (Told (told.Fenced n z r.1.grant.ticket)) u.pool) q (subst (λ z. In (Told (told.Fenced n l z)) u.pool) (sym is.1) i) in
      subst (λ z. Reached sha u n [] (record here { asks = set_nth here.asks r.0 (Over (how.Fenced z)) })) is.1
      (does [] (record here { asks = set_nth here.asks r.0 (Over (how.Fenced r.1.grant.ticket)) }) (Drops r.1.wants r.1.grant r.0 r.1.news i' (f.1 ∙ ap Some is.0)))

  denied_does : (l : Life) (a : Ask) (why : Why) (o : Option KeptAsk) → In (Told (told.Denied n l a why)) u.pool → l ≡ here.life → nth here.asks a.0 ≡ o → OnWork (denied a why here o)
  denied_does l a why None i q e = nothing_done
  denied_does l a why (Some (Open wants tenure)) i q e = does [] (record here { asks = set_nth here.asks a.0 (Over (how.Denied why)) }) (Is_denied a why wants tenure (subst (λ z. In (Told (told.Denied n z a why)) u.pool) q i) e)
  denied_does l a why (Some (Holding wants h r)) i q e = nothing_done
  denied_does l a why (Some (Running wants h r)) i q e = nothing_done
  denied_does l a why (Some (Finished wants h news)) i q e = nothing_done
  denied_does l a why (Some (Over how)) i q e = nothing_done

  recalled_does : (l : Life) (t : Ticket) (o : Option (ℕ × KeptAsk)) → In (Told (told.Recall n l t)) u.pool → l ≡ here.life → first (recallable t) here.asks 0 ≡ o → OnWork (recalled t here o)
  recalled_does l t None i q e = nothing_done
  recalled_does l t (Some r) i q e =
      let f = found (recallable t) here.asks r e in
      let o = recallable_is t f.0 r.1 f.2 in
      let g : Grant = o.1 in
      let i' : In (Told (told.Recall n here.life g.ticket)) u.pool = subst (λ z. In (Told (told.Recall n z g.ticket)) u.pool) q (subst (λ z. In (Told (told.Recall n l z)) u.pool) (sym o.2) i) in
      elim o.3 [
        | inl is ↦ subst (λ z. Reached sha u n [] (record here { asks = set_nth here.asks r.0 z })) (sym is.1) (does [] (record here { asks = set_nth here.asks r.0 (Holding o.0 g true) }) (Is_recalled o.0 g r.0 i' (f.1 ∙ ap Some is.0)))
        | inr is ↦ subst (λ z. Reached sha u n [] (record here { asks = set_nth here.asks r.0 z })) (sym is.1) (does [] (record here { asks = set_nth here.asks r.0 (Running o.0 g true) }) (Is_recalled_running o.0 g r.0 i' (f.1 ∙ ap Some is.0)))
      ]

  of_life_does : (l : Life) (w : NodeWork) → (l ≡ here.life → OnWork w) → OnWork (of_life l here w)
  of_life_does l w h = elim (cases_Bool (eqb l.0 here.life.0)) [
    | inl t ↦ rw t (h (life_is l here.life (eqb-true l.0 here.life.0 t)))
    | inr t ↦ rw t nothing_done
  ]

  pub spent_does : (w : NodeWork) → OnWork w → OnAnswer (unless_spent here w)
  spent_does w h = on_guard here.spent _ _ (λ up. h)

  pub fetched_does : (from : NodeId) (o : Option (List ℕ)) → OnWork (fetched from here o)
  fetched_does from None = nothing_done
  fetched_does from (Some c) = does (Blob from c ∷ []) here (Sends_blob from c)

  pub forgotten_does : (k : Limits) (d : Digest) → OnAnswer (forgotten k d here)
  forgotten_does k d = on_guard here.spent _ _ (λ up. on_guard (digest_eq d k.empty || not (is_stored here d)) _ _ (λ some. on_guard (list_any (needs d) here.asks) _ _ (λ free.
      (let c = stored_some (here.store d) (not-false (is_stored here d) (or_parts (digest_eq d k.empty) (not (is_stored here d)) some).1) in
      does [] (record here { store = without d here.store }) (Forgets d c.0 c.1)))))

  pub brought_does : (c : List ℕ) → OnWork (brought sha c here)
  brought_does c = elim (cases_Bool (not (is_stored here (sha c)) && list_any (is_base (sha c)) here.asks)) [
    | inl t ↦ rw t (does [] (record here { store = keep (sha c) c here.store }) (Stores c))
    | inr t ↦ rw t nothing_done
  ]

-- a message of the coordinator, at the node that it is for
pub heard_does : (sha : List ℕ → Digest) (u : World) (k : Limits) (size : ℕ) (y : FromCoord) → In (Told y) u.pool
    → Reached sha u (told_to y) (heard k (at sha u (told_to y) size) y (u.nodes (told_to y).0)).sends (heard k (at sha u (told_to y) size) y (u.nodes (told_to y).0)).node
heard_does sha u k size (told.Granted g) i = of_life_does sha u g.node g.life _ (λ q. granted_does sha u g.node k size g (nth (u.nodes g.node.0).asks g.ask.0) i refl q refl)
heard_does sha u k size (told.Committed n l t versions) i = of_life_does sha u n l _ (λ q. learned_does sha u n l t versions (first (finished t) (u.nodes n.0).asks 0) i q refl)
heard_does sha u k size (told.Fenced n l t) i = of_life_does sha u n l _ (λ q. dropped_does sha u n l t (first (finished t) (u.nodes n.0).asks 0) i q refl)
heard_does sha u k size (told.Denied n l a why) i = of_life_does sha u n l _ (λ q. denied_does sha u n l a why (nth (u.nodes n.0).asks a.0) i q refl)
heard_does sha u k size (told.Recall n l t) i = of_life_does sha u n l _ (λ q. recalled_does sha u n l t (first (recallable t) (u.nodes n.0).asks 0) i q refl)
