-- At a call a node stores nothing but what the call brings.
use Rattle.std.proofs.Common.{◌≡◌, ℕ, ◌==◌, nat_lt, Bool, true, false, ◌||◌, ◌&&◌, not, if◌then◌else◌, ◌⊎◌, inl, inr, List, [], ◌∷◌, map, length, Option, Some, None, is_some, Ok, Err, refl, sym, subst}
use Rattle.std.specs.List.{list_any, Contains}
use Rattle.names.specs.Contents.{content_digest}
use Rattle.farm_base.specs.Receivers.{receiver}
use Rattle.farm_base.specs.declared.message.FromCoord.{FromCoord}
use Rattle.farm_base.specs.declared.message.FromCoord.TheVariants as told
use Rattle.farm_base.specs.declared.message.ToNode.TheVariants as to_node
use Rattle.names.specs.Digests.{digest_eq}
use Rattle.lists.proofs.Places.{Contains-head, Contains-tail}
use Rattle.names.proofs.CompareLaws.{digest_exact, digest_eq-itself}
use Rattle.farm_base.specs.declared.message.Why.{Why}
use Rattle.events.specs.declared.answer.NodeNote.TheVariants.{OldLife, Forgot}
use Rattle.events.specs.declared.answer.NodeRefusal.{NodeRefusal}
use Rattle.events.specs.declared.answer.NodeRefusal.TheVariants.{NotHomeHere, WrongNews, TenureHere, TenureInUse, LivesSpent, AsksSpent, NoSuchContent, Needed}
use Rattle.events.specs.declared.ask.KeptAsk.{KeptAsk}
use Rattle.events.specs.declared.ask.KeptAsk.TheVariants.{Open, Holding, Running, Finished, Over}
use Rattle.names.specs.declared.folder.Mode.TheVariants.{Shared}
use Rattle.protocol.specs.Farm.{farm_limits}
use Rattle.protocol.specs.Ledger.{Limits}
use Rattle.protocol.specs.Machine.{Grant, Confirmed, slots_of, written}
use Rattle.protocol.specs.Names.{Ask, Ticket, Life, NodeId, Digest, slots_eq, tenure_wants}
use Rattle.protocol.specs.Nodes.{Place, Left, NodeWork, NodeAnswer, HeldGrant, Sent, guard, in_use, beginning, finishing, leaving, news_of, stored, aborting, heard, of_life, granted, gives_back, learned, dropped, denied, recalled, fetched, brought, nothing, unless_spent, opens, is_tenure_of, at_home, needs, first, held, running, held_or_running, is_stored, is_base}
use Rattle.protocol.specs.World.{Node, keep, without}
use Rattle.nodelines.specs.declared.order.Call.{Call}
use Rattle.nodelines.specs.declared.order.Call.TheVariants as call
use Rattle.nodefilter.specs.Carried.{node_answer, brought_by, forgotten_by}

-- what is stored was, or is one of these
abbrev pub Gains : List Digest → (Digest → Option (List ℕ)) → (Digest → Option (List ℕ)) → Type 0
Gains ds old new = (d : Digest) (c : List ℕ) → new d ≡ Some c → (old d ≡ Some c) ⊎ Contains ds d

-- the same of an answer
abbrev Keeps : List Digest → Node → NodeAnswer → Type 0
Keeps ds x r = (w : NodeWork) → r ≡ Ok w → Gains ds x.store w.node.store

same : (ds : List Digest) (store : Digest → Option (List ℕ)) → Gains ds store store
same ds store d c h = inl h

done : (ds : List Digest) (x : Node) (w : NodeWork) → Gains ds x.store w.node.store → Keeps ds x (Ok w)
done ds x w g v e = let is : w ≡ v = cc e in subst (λ (u : NodeWork). Gains ds x.store u.node.store) is g

none : (ds : List Digest) (x : Node) (e : NodeRefusal) → Keeps ds x (Err e)
none ds x e w bad = absurd (cc bad)

guarded : (ds : List Digest) (x : Node) (b : Bool) (e : NodeRefusal) (r : NodeAnswer) → Keeps ds x r → Keeps ds x (guard b e r)
guarded ds x true e r g = none ds x e
guarded ds x false e r g = g

-- the node without the content of this digest
abbrev forgets : Digest → Node → NodeWork
forgets d x = record { node = record x { store = without d x.store }; sends = []; note = Forgot }

-- ---- calls

began : (ds : List Digest) (t : Ticket) (x : Node) (found : Option (ℕ × HeldGrant)) → Keeps ds x (beginning t x found)
began ds t x None = none ds x _
began ds t x (Some (a, h)) = guarded ds x _ _ _ (done ds x _ (same ds x.store))

gave_up : (ds : List Digest) (at : Place) (x : Node) (found : Option (ℕ × HeldGrant)) → Keeps ds x (aborting at x found)
gave_up ds at x None = none ds x _
gave_up ds at x (Some (a, h)) = guarded ds x _ _ _ (done ds x _ (same ds x.store))

-- ---- contents

abbrev digests : List Left → List Digest
digests lefts = map (λ (left : Left). content_digest left.content) lefts

-- one content is kept under its digest
kept_one : (e : Digest) (c : List ℕ) (ds : List Digest) (store : Digest → Option (List ℕ)) → Contains ds e → Gains ds store (keep e c store)
kept_one e c ds store is_in d b h = by_test (digest_eq d e) refl h
  where
    by_test : (test : Bool) → digest_eq d e ≡ test → (if test then Some c else store d) ≡ Some b → (store d ≡ Some b) ⊎ Contains ds d
    by_test true is k = inr (subst (Contains ds) (sym (digest_exact d e is)) is_in)
    by_test false is k = inl k

then_gains : (ds : List Digest) (a b c : Digest → Option (List ℕ)) → Gains ds a b → Gains ds b c → Gains ds a c
then_gains ds a b c g h d content is = elim (h d content is) [ inl was ↦ g d content was | inr new ↦ inr new ]

more_gains : (e : Digest) (ds : List Digest) (a b : Digest → Option (List ℕ)) → Gains ds a b → Gains (e ∷ ds) a b
more_gains e ds a b g d content is = elim (g d content is) [ inl was ↦ inl was | inr new ↦ inr (Contains-tail e ds d new) ]

-- one more of what was left is stored, if it isn't yet
abbrev store_more : Left → List Left → (Digest → Option (List ℕ)) → Bool → Digest → Option (List ℕ)
store_more l lefts store is_here = if is_here then stored content_digest lefts store else stored content_digest lefts (keep (content_digest l.content) l.content store)

one_gains : (l : Left) (lefts : List Left) (store : Digest → Option (List ℕ)) (is_here : Bool) → Gains (digests lefts) store (stored content_digest lefts store)
    → Gains (digests lefts) (keep (content_digest l.content) l.content store) (stored content_digest lefts (keep (content_digest l.content) l.content store))
    → Gains (digests (l ∷ lefts)) store (store_more l lefts store is_here)
one_gains l lefts store true here kept = more_gains (content_digest l.content) (digests lefts) store (stored content_digest lefts store) here
one_gains l lefts store false here kept =
    let one = keep (content_digest l.content) l.content store in
    then_gains (digests (l ∷ lefts)) store one (stored content_digest lefts one)
    (kept_one (content_digest l.content) l.content (digests (l ∷ lefts)) store (Contains-head (content_digest l.content) (digests lefts)))
    (more_gains (content_digest l.content) (digests lefts) one (stored content_digest lefts one) kept)

-- what was left is stored
stored_gains : (lefts : List Left) (store : Digest → Option (List ℕ)) → Gains (digests lefts) store (stored content_digest lefts store)
stored_gains [] store = same [] store
stored_gains (l ∷ lefts) store =
    one_gains l lefts store (is_some (store (content_digest l.content))) (stored_gains lefts store) (stored_gains lefts (keep (content_digest l.content) l.content store))

left_gains : (at : Place) (a : ℕ) (h : HeldGrant) (lefts : List Left) (x : Node) → Gains (digests lefts) x.store (leaving content_digest at a h lefts x).node.store
left_gains at a h [] x = same [] x.store
left_gains at a h (l ∷ lefts) x = stored_gains (l ∷ lefts) x.store

finishes : (at : Place) (lefts : List Left) (x : Node) (found : Option (ℕ × HeldGrant)) → Keeps (digests lefts) x (finishing content_digest at lefts x found)
finishes at lefts x None = none _ x _
finishes at lefts x (Some (a, h)) =
    guarded (digests lefts) x (in_use x.asks a h.wants h.grant) TenureInUse _
    (guarded (digests lefts) x (not (slots_eq (slots_of (news_of content_digest lefts)) (written h.grant.slots))) WrongNews _
    (done (digests lefts) x (leaving content_digest at a h lefts x) (left_gains at a h lefts x)))

brings : (c : List ℕ) (x : Node) → Gains (content_digest c ∷ []) x.store (brought content_digest c x).node.store
brings c x = by_test (not (is_stored x (content_digest c)) && list_any (is_base (content_digest c)) x.asks) refl
  where
    by_test : (test : Bool) → (not (is_stored x (content_digest c)) && list_any (is_base (content_digest c)) x.asks) ≡ test
        → Gains (content_digest c ∷ []) x.store (brought content_digest c x).node.store
    by_test true is = rw is (kept_one (content_digest c) c (content_digest c ∷ []) x.store (Contains-head (content_digest c) []))
    by_test false is = rw is (same (content_digest c ∷ []) x.store)

without_gains : (e : Digest) (store : Digest → Option (List ℕ)) → Gains [] store (without e store)
without_gains e store d c = by_test (digest_eq d e)
  where
    by_test : (test : Bool) → (if test then None else store d) ≡ Some c → (store d ≡ Some c) ⊎ Contains [] d
    by_test true h = absurd (cc h)
    by_test false h = inl h

-- ---- messages

-- the node stores what it did
abbrev Stays : Node → NodeWork → Type 0
Stays x w = w.node.store ≡ x.store

gives : (at : Place) (g : Grant) (b : Bool) (x : Node) → Stays x (gives_back at g b x)
gives at g true x = refl
gives at g false x = refl

grants : (k : Limits) (at : Place) (g : Grant) (x : Node) (found : Option KeptAsk) → Stays x (granted k at g x found)
grants k at g x None = refl
grants k at g x (Some (Open wants tenure)) = refl
grants k at g x (Some (Holding wants h r)) = gives at g _ x
grants k at g x (Some (Running wants h r)) = gives at g _ x
grants k at g x (Some (Finished wants h news)) = gives at g _ x
grants k at g x (Some (Over how)) = refl

learns : (t : Ticket) (versions : List Confirmed) (x : Node) (found : Option (ℕ × Sent)) → Stays x (learned t versions x found)
learns t versions x None = refl
learns t versions x (Some (a, s)) = refl

drops : (t : Ticket) (x : Node) (found : Option (ℕ × Sent)) → Stays x (dropped t x found)
drops t x None = refl
drops t x (Some (a, s)) = refl

denies : (a : Ask) (why : Why) (x : Node) (found : Option KeptAsk) → Stays x (denied a why x found)
denies a why x None = refl
denies a why x (Some (Open wants tenure)) = refl
denies a why x (Some (Holding wants g r)) = refl
denies a why x (Some (Running wants g r)) = refl
denies a why x (Some (Finished wants g news)) = refl
denies a why x (Some (Over how)) = refl

recalls : (t : Ticket) (x : Node) (found : Option (ℕ × KeptAsk)) → Stays x (recalled t x found)
recalls t x None = refl
recalls t x (Some (a, s)) = refl

of_its_life : (l : Life) (x : Node) (w : NodeWork) → Stays x w → Stays x (of_life l x w)
of_its_life l x w h = by_test (l.0 == x.life.0)
  where
    by_test : (test : Bool) → Stays x (if test then w else record { node = x; sends = []; note = OldLife })
    by_test true = h
    by_test false = refl

hears : (k : Limits) (at : Place) (m : FromCoord) (x : Node) → Stays x (heard k at m x)
hears k at (told.Granted g) x = of_its_life g.life x _ (grants k at g x _)
hears k at (told.Committed n l t versions) x = of_its_life l x _ (learns t versions x _)
hears k at (told.Fenced n l t) x = of_its_life l x _ (drops t x _)
hears k at (told.Denied n l a why) x = of_its_life l x _ (denies a why x _)
hears k at (told.Recall n l t) x = of_its_life l x _ (recalls t x _)

lends : (from : NodeId) (x : Node) (found : Option (List ℕ)) → Stays x (fetched from x found)
lends from x None = refl
lends from x (Some c) = refl

-- a message is heard where it is for this node
if_here : (ds : List Digest) (x : Node) (here : Bool) (w : NodeWork) → Gains ds x.store w.node.store → Keeps ds x (unless_spent x (if here then w else nothing x))
if_here ds x true w g = guarded ds x x.spent LivesSpent _ (done ds x w g)
if_here ds x false w g = guarded ds x x.spent LivesSpent _ (done ds x (nothing x) (same ds x.store))

unchanged : (x : Node) (here : Bool) (w : NodeWork) → Stays x w → Keeps [] x (unless_spent x (if here then w else nothing x))
unchanged x here w h = if_here [] x here w (subst (Gains [] x.store) (sym h) (same [] x.store))

-- ---- all calls

-- a call that the node makes by itself
opened : (x : Node) (b c : Bool) (e : NodeRefusal) (w : NodeWork) → Stays x w → Keeps [] x (guard x.spent LivesSpent (guard b e (guard c AsksSpent (Ok w))))
opened x b c e w h =
    guarded [] x x.spent LivesSpent _ (guarded [] x b e _ (guarded [] x c AsksSpent _ (done [] x w (subst (Gains [] x.store) (sym h) (same [] x.store)))))

pub gains : (me : NodeId) (at : Place) (x : Node) (c : Call) → Keeps (brought_by c) x (node_answer me at x c)
gains me at x (call.Receive (to_node.FromCoord m)) = unchanged x ((receiver (to_node.FromCoord m)).0 == at.node.0) (heard farm_limits at m x) (hears farm_limits at m x)
gains me at x (call.Receive (to_node.Fetch m)) =
    unchanged x ((receiver (to_node.Fetch m)).0 == at.node.0) (fetched m.from x (x.store m.digest)) (lends m.from x (x.store m.digest))
gains me at x (call.Receive (to_node.Blob n c)) =
    if_here (content_digest c ∷ []) x ((receiver (to_node.Blob n c)).0 == at.node.0) (brought content_digest c x) (brings c x)
gains me at x (call.Ask wants) = opened x (not (at_home x.asks wants)) (not (nat_lt (length x.asks) farm_limits.greatest)) NotHomeHere (opens at wants false x) refl
gains me at x (call.Tenure f) =
    opened x (list_any (is_tenure_of (record f { mode = Shared })) x.asks) (not (nat_lt (length x.asks) farm_limits.greatest)) TenureHere (opens at (tenure_wants f) true x) refl
gains me at x (call.Begin t) = guarded [] x x.spent LivesSpent _ (began [] t x (first (held t) x.asks 0))
gains me at x (call.Finish t lefts) = guarded (digests lefts) x x.spent LivesSpent _ (finishes at lefts x (first (running t) x.asks 0))
gains me at x (call.Abort t) = guarded [] x x.spent LivesSpent _ (gave_up [] at x (first (held_or_running t) x.asks 0))
gains me at x call.Resend = guarded [] x x.spent LivesSpent _ (done [] x _ (same [] x.store))
gains me at x (call.Bring c) = if_here (content_digest c ∷ []) x ((receiver (to_node.Blob me c)).0 == at.node.0) (brought content_digest c x) (brings c x)
gains me at x (call.Forget d) =
    guarded [] x x.spent LivesSpent _ (guarded [] x (digest_eq d farm_limits.empty || not (is_stored x d)) NoSuchContent _
    (guarded [] x (list_any (needs d) x.asks) Needed _ (done [] x (forgets d x) (without_gains d x.store))))

-- ---- what is forgotten

is_without : (e : Digest) (store : Digest → Option (List ℕ)) → without e store e ≡ None
is_without e store = rw (digest_eq-itself e) refl

-- a content that is forgotten is stored no longer
without_it : (e : Digest) (x : Node) (spent unknown needed : Bool) (r : NodeAnswer) (w : NodeWork) → r ≡ Ok (forgets e x)
    → guard spent LivesSpent (guard unknown NoSuchContent (guard needed Needed r)) ≡ Ok w → w.node.store e ≡ None
without_it e x true unknown needed r w is h = absurd (cc h)
without_it e x false true needed r w is h = absurd (cc h)
without_it e x false false true r w is h = absurd (cc h)
without_it e x false false false r w is h =
    let same : forgets e x ≡ w = cc (is, h) in
    subst (λ (v : NodeWork). v.node.store e ≡ None) same (is_without e x.store)

pub goes : (me : NodeId) (at : Place) (x : Node) (c : Call) (w : NodeWork) → node_answer me at x c ≡ Ok w
    → (e : Digest) → forgotten_by c ≡ Some e → w.node.store e ≡ None
goes me at x (call.Receive m) w h e is = absurd (cc is)
goes me at x (call.Ask wants) w h e is = absurd (cc is)
goes me at x (call.Tenure f) w h e is = absurd (cc is)
goes me at x (call.Begin t) w h e is = absurd (cc is)
goes me at x (call.Finish t lefts) w h e is = absurd (cc is)
goes me at x (call.Abort t) w h e is = absurd (cc is)
goes me at x call.Resend w h e is = absurd (cc is)
goes me at x (call.Bring c) w h e is = absurd (cc is)
goes me at x (call.Forget d) w h e is =
    let same : d ≡ e = cc is in
    subst (λ (f : Digest). w.node.store f ≡ None) same
    (without_it d x x.spent (digest_eq d farm_limits.empty || not (is_stored x d)) (list_any (needs d) x.asks) (Ok (forgets d x)) w refl h)
