-- A node that lost contents or versions that it knew does no more than one that didn't.
use Rattle.std.proofs.Common.{◌≡◌, ℕ, ◌+◌, List, [], ◌∷◌, ◌++◌, Bool, true, false, not, ◌&&◌, eqb, length, filter, Option, Some, None, is_some, Ok, Err, refl, sym, ◌∙◌, ap, subst, inl, inr, ◌||◌}
use Rattle.std.proofs.lemmas.Bool.{cases_Bool, and_parts, or_parts, not-false}
use Rattle.std.specs.Prelude.{nat_lt, if◌then◌else◌}
use Rattle.std.specs.List.{list_any, flat_map}
use Rattle.farm_base.specs.declared.message.FromCoord.{FromCoord}
use Rattle.farm_base.specs.declared.message.FromCoord.TheVariants as told
use Rattle.farm_base.specs.declared.message.ToNode.TheVariants as to_node
use Rattle.farm_base.specs.declared.message.Why.{Why}
use Rattle.events.specs.declared.answer.How.TheVariants as how
use Rattle.events.specs.declared.answer.NodeNote.{NodeNote}
use Rattle.events.specs.declared.answer.NodeNote.TheVariants as note
use Rattle.events.specs.declared.answer.NodeRefusal.{NodeRefusal}
use Rattle.events.specs.declared.answer.NodeRefusal.TheVariants as refusal
use Rattle.protocol.specs.Lists.{In, nth, set_nth}
use Rattle.protocol.specs.Names.{NodeId, Life, Ask, Ticket, Slot, Digest, Want, FolderName, Shared, slot_eq, digest_eq, slots_eq, tenure_wants}
use Rattle.protocol.specs.Machine.{Grant, GrantedSlot, Confirmed, Message, Fetches, slots_of, written}
use Rattle.protocol.specs.Ledger.{Limits}
use Rattle.protocol.specs.World.{KeptAsk, Open, Holding, Running, Finished, Over, Node, keep, without, learn, learn_bases, learn_versions}
use Rattle.protocol.specs.Nodes.{Place, Left, NodeWork, NodeAnswer, guard, at_home, is_tenure_of, in_use, HeldGrant, Sent, is_stored, all_stored, is_missing, is_base, held, running, held_or_running, finished, news_of, recallable, first, fetches_of, fetches, others, stored, opens, asked, asked_tenure, beginning, begun, gives_up, leaving, finishing, finished_with, aborting, aborted, again, all_again, forgotten, needs, resent, nothing, gives_back, granted, learned, dropped, denied, recalled, of_life, heard, brought, unless_spent}
use Rattle.protocol.specs.Processes.{NodeCall, Receive, Ask_lease, Ask_tenure, Begin, Finish, Abort, Resend, Bring, Forget, node_decided, IsNodeOf, IsOfLeases}
use Rattle.names.proofs.CompareLaws.{digest_exact}
use Rattle.protocol.proofs.Base.{some_is, true_false, in_append, in_left, in_right, from_map, none_some}

-- ---- contents and versions

module _ (sha : List ℕ → Digest) where
  -- what the second has is right, and the first has something there
  abbrev pub Contents : (Digest → Option (List ℕ)) → (Digest → Option (List ℕ)) → Type 0
  Contents more less = (d : Digest) (c : List ℕ) → less d ≡ Some c → (sha c ≡ d) × (is_some (more d) ≡ true)

  keep_in : (c : List ℕ) (store : Digest → Option (List ℕ)) (d : Digest) → is_some (store d) ≡ true → is_some (keep (sha c) c store d) ≡ true
  keep_in c store d h = elim (cases_Bool (digest_eq d (sha c))) [ inl t ↦ rw t refl | inr t ↦ rw t h ]

  -- one more content, which the first has or gets
  keep_less : (c : List ℕ) (more less : Digest → Option (List ℕ)) → ((d : Digest) → digest_eq d (sha c) ≡ true → is_some (more d) ≡ true) → Contents more less → Contents more (keep (sha c) c less)
  keep_less c more less here all d e h = elim (cases_Bool (digest_eq d (sha c))) [
    | inl t ↦ (let got : Some c ≡ Some e = rw t at h in (ap sha (sym (some_is c e got)) ∙ sym (digest_exact d (sha c) t), here d t))
    | inr t ↦ (let old : less d ≡ Some e = rw t at h in all d e old)
  ]

  pub keep_both : (c : List ℕ) (more less : Digest → Option (List ℕ)) → Contents more less → Contents (keep (sha c) c more) (keep (sha c) c less)
  keep_both c more less all = keep_less c (keep (sha c) c more) less (λ d t. rw t refl) (λ d e h. (let r = all d e h in (r.0, keep_in c more d r.1)))

  keep_one : (c : List ℕ) (more less : Digest → Option (List ℕ)) → is_some (more (sha c)) ≡ true → Contents more less → Contents more (keep (sha c) c less)
  keep_one c more less here all = keep_less c more less (λ d t. subst (λ z. is_some (more z) ≡ true) (sym (digest_exact d (sha c) t)) here) all

  pub without_both : (d : Digest) (more less : Digest → Option (List ℕ)) → Contents more less → Contents (without d more) (without d less)
  without_both d more less all e c h = elim (cases_Bool (digest_eq e d)) [
    | inl t ↦ none_some c (rw t at h)
    | inr f ↦ (let r = all e c (rw f at h) in rw f r)
  ]

  pub has_some : (o : Option (List ℕ)) → is_some o ≡ true → (c : List ℕ) × (o ≡ Some c)
  has_some None h = (let bad : false ≡ true = h in cc)
  has_some (Some c) h = (c, refl)

  stored_less : (lefts : List Left) (more less : Digest → Option (List ℕ)) → Contents more less → Contents (stored sha lefts more) (stored sha lefts less)
  stored_less [] more less all = all
  stored_less (x ∷ xs) more less all = elim (cases_Bool (is_some (more (sha x.content)))) [
    | inl t ↦ elim (cases_Bool (is_some (less (sha x.content)))) [
      | inl u ↦ rw (t, u) (stored_less xs more less all)
      | inr u ↦ rw (t, u) (stored_less xs more (keep (sha x.content) x.content less) (keep_one x.content more less t all))
    ]
    | inr t ↦ elim (cases_Bool (is_some (less (sha x.content)))) [
      | inl u ↦ (let c = has_some (less (sha x.content)) u in true_false (is_some (more (sha x.content))) (all (sha x.content) c.0 c.1).1 t)
      | inr u ↦ rw (t, u) (stored_less xs (keep (sha x.content) x.content more) (keep (sha x.content) x.content less) (keep_both x.content more less all))
    ]
  ]

abbrev Versions : (Slot → ℕ → Option Digest) → (Slot → ℕ → Option Digest) → Type 0
Versions more less = (s : Slot) (j : ℕ) (d : Digest) → less s j ≡ Some d → more s j ≡ Some d

learn_less : (s : Slot) (j : ℕ) (d : Digest) (more less : Slot → ℕ → Option Digest) → Versions more less → Versions (learn s j d more) (learn s j d less)
learn_less s j d more less all s' j' d' = elim (cases_Bool (slot_eq s' s)) [
  | inl t ↦ elim (cases_Bool (eqb j' j)) [ inl u ↦ rw (t, u) (λ h. h) | inr u ↦ rw (t, u) (all s' j' d') ]
  | inr t ↦ rw t (all s' j' d')
]

bases_less : (us : List GrantedSlot) (more less : Slot → ℕ → Option Digest) → Versions more less → Versions (learn_bases us more) (learn_bases us less)
bases_less [] more less all = all
bases_less (u ∷ us) more less all = bases_less us (learn u.slot u.base u.digest more) (learn u.slot u.base u.digest less) (learn_less u.slot u.base u.digest more less all)

versions_less : (vs : List Confirmed) (more less : Slot → ℕ → Option Digest) → Versions more less → Versions (learn_versions vs more) (learn_versions vs less)
versions_less [] more less all = all
versions_less (v ∷ vs) more less all = versions_less vs (learn v.slot v.number v.digest more) (learn v.slot v.number v.digest less) (learn_less v.slot v.number v.digest more less all)

-- ---- what is sent of leases

abbrev Heard : List Message → List Message → Type 0
Heard less more = (m : Message) → IsOfLeases m → In m less → In m more

no_fetch : (k : Limits) (at : Place) (x : Node) (slots : List GrantedSlot) (m : Message) → IsOfLeases m → In m (fetches k at x slots) → ⊥
unfolding fetches
no_fetch k at x slots m of i = by (filter (is_missing k x) slots) i
  where
    one : (d : Digest) → In m (fetches_of at d) → ⊥
    one d i = (let r = from_map (λ (n : NodeId). Fetches (record { node = n; from = at.node; digest = d })) m (others at) i in subst IsOfLeases r.2 of)

    by : (us : List GrantedSlot) → In m (flat_map (λ (u : GrantedSlot). fetches_of at u.digest) us) → ⊥
    by [] i = i
    by (u ∷ us) i = elim (in_append m (fetches_of at u.digest) (flat_map (λ (u : GrantedSlot). fetches_of at u.digest) us) i) [ inl j ↦ one u.digest j | inr j ↦ by us j ]

-- ---- a node, and the same node with more contents and versions

module _ (sha : List ℕ → Digest) (k : Limits) (n : NodeId) (size count : ℕ) (y : Node) (store : Digest → Option (List ℕ)) (known : Slot → ℕ → Option Digest) (contents : Contents sha store y.store) (versions : Versions known y.known) where
  abbrev pub x : Node
  x = record y { store = store; known = known }

  -- how many nodes there are, and how many the node thinks there are
  abbrev pub at : Place
  at = record { node = n; nodes = size }

  abbrev pub at_less : Place
  at_less = record { node = n; nodes = count }

  -- the work of the node is no more than that of the one with more
  pub record LessWork (more less : NodeWork) : Type 0 where
    pub node : IsNodeOf sha more.node less.node
    pub sends : Heard less.sends more.sends

  pub record Less (more less : NodeAnswer) : Type 0 where
    pub gives : (w : NodeWork) → less ≡ Ok w → (v : NodeWork) × (more ≡ Ok v) × LessWork v w

  ok_less : (v w : NodeWork) → LessWork v w → Less (Ok v) (Ok w)
  ok_less v w h = record { gives = λ u e. (let same : w ≡ u = cc in (v, refl, subst (LessWork v) same h)) }

  err_less : (a : NodeAnswer) (e : NodeRefusal) → Less a (Err e)
  err_less a e = record { gives = λ u h. (let bad : ◌≡◌ {A = NodeAnswer} (Err e) (Ok u) = h in cc) }

  guard_less : (b : Bool) (e : NodeRefusal) (more less : NodeAnswer) → Less more less → Less (guard b e more) (guard b e less)
  guard_less true e more less h = err_less (Err e) e
  guard_less false e more less h = h

  guard_if : (a b : Bool) (e : NodeRefusal) (more less : NodeAnswer) → (b ≡ false → a ≡ false) → Less more less → Less (guard a e more) (guard b e less)
  guard_if a true e more less i h = err_less (guard a e more) e
  guard_if a false e more less i h = rw (i refl) h

  -- the node with other asks
  asks_less : (asks : List KeptAsk) → IsNodeOf sha (record x { asks = asks }) (record y { asks = asks })
  asks_less asks = record { life = refl; asks = refl; spent = refl; contents = contents; versions = versions }

  same_less : IsNodeOf sha x y
  same_less = record { life = refl; asks = refl; spent = refl; contents = contents; versions = versions }

  opens_less : (wants : List Want) (tenure : Bool) → LessWork (opens at wants tenure x) (opens at_less wants tenure y)
  opens_less wants tenure = record { node = asks_less (y.asks ++ Open wants tenure ∷ []); sends = λ m o i. i }

  asked_less : (wants : List Want) → Less (asked k at wants x) (asked k at_less wants y)
  asked_less wants = guard_less y.spent _ _ _ (guard_less (not (at_home y.asks wants)) _ _ _ (guard_less (not (nat_lt (length y.asks) k.greatest)) _ _ _ (ok_less _ _ (opens_less wants false))))

  tenure_less : (f : FolderName) → Less (asked_tenure k at f x) (asked_tenure k at_less f y)
  tenure_less f = guard_less y.spent _ _ _ (guard_less (list_any (is_tenure_of (record f { mode = Shared })) y.asks) _ _ _ (guard_less (not (nat_lt (length y.asks) k.greatest)) _ _ _ (ok_less _ _ (opens_less (tenure_wants f) true))))

  stored_too : (slots : List GrantedSlot) → all_stored y slots ≡ true → all_stored x slots ≡ true
  stored_too [] h = refl
  stored_too (u ∷ us) h =
      let r = and_parts (is_stored y u.digest) (all_stored y us) h in
      let c = has_some sha (y.store u.digest) r.0 in
      rw ((contents u.digest c.0 c.1).1, stored_too us r.1) refl

  begun_less : (t : Ticket) → Less (begun t x) (begun t y)
  begun_less t = guard_less y.spent _ _ _ (by (first (held t) y.asks 0))
    where
      unless : (slots : List GrantedSlot) → not (all_stored y slots) ≡ false → not (all_stored x slots) ≡ false
      unless slots h = elim (cases_Bool (all_stored y slots)) [ inl t ↦ rw (stored_too slots t) refl | inr t ↦ (let bad : true ≡ false = rw t at h in cc) ]

      by : (o : Option (ℕ × HeldGrant)) → Less (beginning t x o) (beginning t y o)
      by None = err_less (Err refusal.NoSuchTicket) refusal.NoSuchTicket
      by (Some (a, h)) = guard_if (not (all_stored x h.grant.slots)) (not (all_stored y h.grant.slots)) _ _ _ (unless h.grant.slots) (ok_less _ _ (record { node = asks_less (set_nth y.asks a (Running h.wants h.grant h.recalled)); sends = λ m o i. i }))

  gives_up_less : (a : ℕ) (t : Ticket) (said : NodeNote) → LessWork (gives_up at a t said x) (gives_up at_less a t said y)
  gives_up_less a t said = record { node = asks_less (set_nth y.asks a (Over (how.Released t))); sends = λ m o i. i }

  finished_less : (t : Ticket) (lefts : List Left) → Less (finished_with sha at t lefts x) (finished_with sha at_less t lefts y)
  finished_less t lefts = guard_less y.spent _ _ _ (by (first (running t) y.asks 0))
    where
      leaving_less : (a : ℕ) (h : HeldGrant) (lefts : List Left) → LessWork (leaving sha at a h lefts x) (leaving sha at_less a h lefts y)
      leaving_less a h [] = gives_up_less a h.grant.ticket (note.Finished h.grant.ticket)
      leaving_less a h (l ∷ ls) = record {
        node = record { life = refl; asks = refl; spent = refl; contents = stored_less sha (l ∷ ls) store y.store contents; versions = versions };
        sends = λ m o i. i;
      }

      by : (o : Option (ℕ × HeldGrant)) → Less (finishing sha at lefts x o) (finishing sha at_less lefts y o)
      by None = err_less (Err refusal.NotRunning) refusal.NotRunning
      by (Some (a, h)) = guard_less (in_use y.asks a h.wants h.grant) _ _ _ (guard_less (not (slots_eq (slots_of (news_of sha lefts)) (written h.grant.slots))) _ _ _ (ok_less _ _ (leaving_less a h lefts)))

  aborted_less : (t : Ticket) → Less (aborted at t x) (aborted at_less t y)
  aborted_less t = guard_less y.spent _ _ _ (by (first (held_or_running t) y.asks 0))
    where
      by : (o : Option (ℕ × HeldGrant)) → Less (aborting at x o) (aborting at_less y o)
      by None = err_less (Err refusal.NoSuchTicket) refusal.NoSuchTicket
      by (Some (a, h)) = guard_less (in_use y.asks a h.wants h.grant) _ _ _ (ok_less _ _ (gives_up_less a h.grant.ticket (note.Aborted h.grant.ticket)))

  forgotten_less : (d : Digest) → Less (forgotten k d x) (forgotten k d y)
  forgotten_less d = guard_less y.spent _ _ _ (guard_if (digest_eq d k.empty || not (is_stored x d)) (digest_eq d k.empty || not (is_stored y d)) _ _ _ unless (guard_less (list_any (needs d) y.asks) _ _ _ (ok_less _ _ (record {
    node = record { life = refl; asks = refl; spent = refl; contents = without_both sha d store y.store contents; versions = versions };
    sends = λ m o i. i;
  }))))
    where
      unless : (digest_eq d k.empty || not (is_stored y d)) ≡ false → (digest_eq d k.empty || not (is_stored x d)) ≡ false
      unless h =
          let r = or_parts (digest_eq d k.empty) (not (is_stored y d)) h in
          let c = has_some sha (y.store d) (not-false (is_stored y d) r.1) in
          rw (r.0, (contents d c.0 c.1).1) refl

  again_less : (a : Ask) (s : KeptAsk) → Heard (again k at_less y a s) (again k at x a s)
  again_less a (Open wants tenure) m o i = i
  again_less a (Holding wants g r) m o i = absurd (no_fetch k at_less y g.slots m o i)
  again_less a (Running wants g r) m o i = i
  again_less a (Finished wants g news) m o i = i
  again_less a (Over h) m o i = i

  all_less : (asks : List KeptAsk) (a : ℕ) → Heard (all_again k at_less y asks a) (all_again k at x asks a)
  all_less [] a m o i = i
  all_less (s ∷ asks) a m o i =
      let one : List Message = again k at x (record { 0 = a + 1 }) s in
      let rest : List Message = all_again k at x asks (a + 1) in
      elim (in_append m (again k at_less y (record { 0 = a + 1 }) s) (all_again k at_less y asks (a + 1)) i) [
        | inl j ↦ in_left m one rest (again_less (record { 0 = a + 1 }) s m o j)
        | inr j ↦ in_right m one rest (all_less asks (a + 1) m o j)
      ]

  resent_less : Less (resent k at x) (resent k at_less y)
  resent_less = guard_less y.spent _ _ _ (ok_less _ _ (record { node = same_less; sends = λ m o i. elim i [ inl e ↦ inl e | inr j ↦ inr (all_less y.asks 0 m o j) ] }))

  -- ---- messages

  nothing_less : LessWork (nothing x) (nothing y)
  nothing_less = record { node = same_less; sends = λ m o i. i }

  gives_back_less : (g : Grant) (b : Bool) → LessWork (gives_back at g b x) (gives_back at_less g b y)
  gives_back_less g true = nothing_less
  gives_back_less g false = record { node = same_less; sends = λ m o i. i }

  granted_less : (g : Grant) (o : Option KeptAsk) → LessWork (granted k at g x o) (granted k at_less g y o)
  granted_less g None = gives_back_less g false
  granted_less g (Some (Open wants tenure)) = record {
    node = record { life = refl; asks = refl; spent = refl; contents = contents; versions = bases_less g.slots known y.known versions };
    sends = λ m o i. absurd (no_fetch k at_less y g.slots m o i);
  }
  granted_less g (Some (Holding wants h r)) = gives_back_less g _
  granted_less g (Some (Running wants h r)) = gives_back_less g _
  granted_less g (Some (Finished wants h news)) = gives_back_less g _
  granted_less g (Some (Over h)) = gives_back_less g false

  learned_less : (t : Ticket) (vs : List Confirmed) (o : Option (ℕ × Sent)) → LessWork (learned t vs x o) (learned t vs y o)
  learned_less t vs None = nothing_less
  learned_less t vs (Some (a, s)) = record {
    node = record { life = refl; asks = refl; spent = refl; contents = contents; versions = versions_less vs known y.known versions };
    sends = λ m o i. i;
  }

  dropped_less : (t : Ticket) (o : Option (ℕ × Sent)) → LessWork (dropped t x o) (dropped t y o)
  dropped_less t None = nothing_less
  dropped_less t (Some (a, s)) = record { node = asks_less (set_nth y.asks a (Over (how.Fenced t))); sends = λ m o i. i }

  denied_less : (a : Ask) (why : Why) (o : Option KeptAsk) → LessWork (denied a why x o) (denied a why y o)
  denied_less a why None = nothing_less
  denied_less a why (Some (Open wants tenure)) = record { node = asks_less (set_nth y.asks a.0 (Over (how.Denied why))); sends = λ m o i. i }
  denied_less a why (Some (Holding wants g r)) = nothing_less
  denied_less a why (Some (Running wants g r)) = nothing_less
  denied_less a why (Some (Finished wants g news)) = nothing_less
  denied_less a why (Some (Over h)) = nothing_less

  recalled_less : (t : Ticket) (o : Option (ℕ × KeptAsk)) → LessWork (recalled t x o) (recalled t y o)
  recalled_less t None = nothing_less
  recalled_less t (Some (a, s)) = record { node = asks_less (set_nth y.asks a s); sends = λ m o i. i }

  of_life_less : (l : Life) (v w : NodeWork) → LessWork v w → LessWork (of_life l x v) (of_life l y w)
  of_life_less l v w h = elim (cases_Bool (eqb l.0 y.life.0)) [ inl t ↦ rw t h | inr t ↦ rw t (record { node = same_less; sends = λ m o i. i }) ]

  heard_less : (m : FromCoord) → LessWork (heard k at m x) (heard k at_less m y)
  heard_less (told.Granted g) = of_life_less g.life _ _ (granted_less g (nth y.asks g.ask.0))
  heard_less (told.Committed n l t vs) = of_life_less l _ _ (learned_less t vs (first (finished t) y.asks 0))
  heard_less (told.Fenced n l t) = of_life_less l _ _ (dropped_less t (first (finished t) y.asks 0))
  heard_less (told.Denied n l a why) = of_life_less l _ _ (denied_less a why (nth y.asks a.0))
  heard_less (told.Recall n l t) = of_life_less l _ _ (recalled_less t (first (recallable t) y.asks 0))

  brought_less : (c : List ℕ) → LessWork (brought sha c x) (brought sha c y)
  brought_less c = by (is_stored x (sha c)) (is_stored y (sha c)) (list_any (is_base (sha c)) y.asks) refl refl
    where
      by : (a b base : Bool) → is_stored x (sha c) ≡ a → is_stored y (sha c) ≡ b
          → LessWork (if not a && base then record { node = record x { store = keep (sha c) c x.store }; sends = []; note = note.BlobTaken } else nothing x) (if not b && base then record { node = record y { store = keep (sha c) c y.store }; sends = []; note = note.BlobTaken } else nothing y)
      by true true base e f = nothing_less
      by true false false e f = nothing_less
      by true false true e f = record { node = record { life = refl; asks = refl; spent = refl; contents = keep_one sha c store y.store e contents; versions = versions }; sends = λ m o i. i }
      by false true base e f = (let d = has_some sha (y.store (sha c)) f in true_false (is_some (store (sha c))) (contents (sha c) d.0 d.1).1 e)
      by false false false e f = nothing_less
      by false false true e f = record { node = record { life = refl; asks = refl; spent = refl; contents = keep_both sha c store y.store contents; versions = versions }; sends = λ m o i. i }

  spent_less : (v w : NodeWork) → LessWork v w → Less (unless_spent x v) (unless_spent y w)
  spent_less v w h = guard_less y.spent _ _ _ (ok_less v w h)

  -- a call other than a Fetch, where a Blob is a content from anywhere
  abbrev pub AllLess : NodeCall → Type 0
  AllLess c = Less (node_decided sha k at x c) (node_decided sha k at_less y c)

  pub received_less : (m : FromCoord) → AllLess (Receive (to_node.FromCoord m))
  received_less m = spent_less (heard k at m x) (heard k at_less m y) (heard_less m)

  pub bring_less : (c : List ℕ) → AllLess (Bring c)
  bring_less c = spent_less (brought sha c x) (brought sha c y) (brought_less c)

  pub ask_less : (wants : List Want) → AllLess (Ask_lease wants)
  ask_less wants = asked_less wants

  pub ask_tenure_less : (f : FolderName) → AllLess (Ask_tenure f)
  ask_tenure_less f = tenure_less f

  pub begin_less : (t : Ticket) → AllLess (Begin t)
  begin_less t = begun_less t

  pub finish_less : (t : Ticket) (lefts : List Left) → AllLess (Finish t lefts)
  finish_less t lefts = finished_less t lefts

  pub abort_less : (t : Ticket) → AllLess (Abort t)
  abort_less t = aborted_less t

  pub resend_less : AllLess Resend
  resend_less = resent_less

  pub forget_less : (d : Digest) → AllLess (Forget d)
  forget_less d = forgotten_less d
