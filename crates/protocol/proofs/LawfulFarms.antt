-- Each event leaves the numbers of a farm in their ranges.
use Rattle.std.proofs.Common.{◌≡◌, ℕ, zero, suc, ◌+◌, ◌≤◌, List, [], ◌∷◌, ◌++◌, ◌⊎◌, Bool, true, false, not, ◌&&◌, eqb, length, map, Option, Some, None, Result, Ok, Err, refl, sym, ◌∙◌, ap, subst, inl, inr, arith, ◌||◌}
use Rattle.std.proofs.lemmas.Bool.{and_parts, cases_Bool}
use Rattle.std.proofs.lemmas.Bool.Decides.{nat_tests}
use Rattle.std.specs.Prelude.{nat_lt, nat_le, if◌then◌else◌}
use Rattle.std.specs.List.{list_any, flat_map}
use Rattle.std.specs.List.Sorted.{IsStrictlySortedBy}
use Rattle.farm_base.specs.Kinds.{is_tenure}
use Rattle.farm_base.specs.Wanted.{IsWants}
use Rattle.farm_base.specs.declared.message.Message.TheVariants as to
use Rattle.farm_base.specs.declared.message.ToNode.{ToNode}
use Rattle.farm_base.specs.declared.message.ToNode.TheVariants as to_node
use Rattle.farm_base.specs.declared.message.FromCoord.TheVariants as told
use Rattle.farm_base.specs.declared.message.Why.{Why}
use Rattle.events.specs.declared.answer.How.{How}
use Rattle.events.specs.declared.answer.How.TheVariants as how
use Rattle.events.specs.declared.answer.Kept.{Kept}
use Rattle.events.specs.declared.answer.Kept.TheVariants.{Old, New}
use Rattle.events.specs.declared.answer.CoordRefusal.{CoordRefusal}
use Rattle.events.specs.declared.answer.NodeNote.{NodeNote}
use Rattle.events.specs.declared.answer.NodeNote.TheVariants as note
use Rattle.events.specs.declared.answer.NodeRefusal.{NodeRefusal}
use Rattle.events.specs.declared.answer.NodeRefusal.TheVariants as refusal
use Rattle.protocol.specs.Lists.{In, nth, set_nth}
use Rattle.protocol.specs.Names.{NodeId, Life, Ask, Ticket, Digest, Want, FolderName, Shared, slots_eq, tenure_wants, digest_eq}
use Rattle.protocol.specs.Machine.{Grant, GrantedSlot, Confirmed, Message, Told, Fetches, FromCoord, hello, acquire, commit, release, slots_of, written}
use Rattle.protocol.specs.Ledger.{Limits, Ledger, Work, begin_work, handled, withdrawn, retired, pruned, nudged, nudge_all, saves, reads}
use Rattle.protocol.specs.Ledger as ledger
use Rattle.protocol.specs.World.{KeptAsk, Open, Holding, Running, Finished, Over, Node, keep}
use Rattle.protocol.specs.Nodes.{Place, Left, NodeWork, NodeAnswer, guard, at_home, is_tenure_of, in_use, HeldGrant, Sent, is_stored, is_base, held, running, held_or_running, finished, news_of, recallable, recalled_if, first, first_of, fetches_of, fetches, others, opens, asked, asked_tenure, beginning, begun, gives_up, leaving, finishing, finished_with, aborting, aborted, again, all_again, forgotten, needs, resent, restarted, may_restart, nothing, gives_back, granted, learned, dropped, denied, recalled, of_life, heard, fetched, brought, received, unless_spent}
use Rattle.protocol.specs.Replay.{Event, Tenure, Deliver, Begin, Finish, Abort, Resend, Nudge, Withdraw, Prune, Retire, RestartNode, RestartCoordinator, Forge, Forget, FailSave, Farm, Turn, step, settled, settles, coordinated, is_node, at, moved, answered, at_node, node_does, restarts, receiver, delivered}
use Rattle.protocol.specs.Replay as replay
use Rattle.protocol.specs.Lawful.{IsNumber, IsSpeaker, AreAsked, IsMessage, IsLawful, IsLawfulWork, IsLawfulNode, IsLawfulFarm, EveryFarmStaysLawful, EveryOpeningIsLawful}
use Rattle.protocol.proofs.Base.{some_is, none_some, put_all, in_append, in_one, from_map, nth_in}
use Rattle.protocol.proofs.Lawfulness.{every_ledger_stays_lawful}
use Rattle.protocol.proofs.Parking.{nudge-ledger}

-- ---- asks of a node

-- an open ask among asks of which one was changed
open_set : (asks : List KeptAsk) (a : ℕ) (s : KeptAsk) (wants : List Want) (tenure : Bool) → In (Open wants tenure) (set_nth asks a s) → (Open wants tenure ≡ s) ⊎ In (Open wants tenure) asks
open_set asks zero s wants tenure i = inr i
open_set [] (suc a) s wants tenure i = absurd i
open_set (x ∷ asks) (suc zero) s wants tenure (inl e) = inl e
open_set (x ∷ asks) (suc zero) s wants tenure (inr i) = inr (inr i)
open_set (x ∷ asks) (suc (suc a)) s wants tenure (inl e) = inr (inl e)
open_set (x ∷ asks) (suc (suc a)) s wants tenure (inr i) = elim (open_set asks (suc a) s wants tenure i) [ inl e ↦ inl e | inr j ↦ inr (inr j) ]

-- an ask that isn't open
abbrev IsClosed : KeptAsk → Type 0
IsClosed s = (wants : List Want) (tenure : Bool) → Open wants tenure ≡ s → ⊥

holding_closed : (wants : List Want) (g : Grant) (r : Bool) → IsClosed (Holding wants g r)
holding_closed wants g r ws t e = absurd (cc e)

running_closed : (wants : List Want) (g : Grant) (r : Bool) → IsClosed (Running wants g r)
running_closed wants g r ws t e = absurd (cc e)

finished_closed : (wants : List Want) (g : Grant) (news : List _) → IsClosed (Finished wants g news)
finished_closed wants g news ws t e = absurd (cc e)

over_closed : (h : How) → IsClosed (Over h)
over_closed h ws t e = absurd (cc e)

-- what `first` finds is of an ask
first_from : {A : Type 0} (test : KeptAsk → Option A) (asks : List KeptAsk) (k a : ℕ) (x : A) → first test asks k ≡ Some (a, x) → (s : KeptAsk) × (test s ≡ Some x)
first_from test [] k a x e = none_some (a, x) e
first_from {A} test (s ∷ asks) k a x e = by (test s) refl e (first_from test asks (k + 1) a x)
  where
    by : (o : Option A) → test s ≡ o → first_of (k + 1) o (first test asks (k + 1)) ≡ Some (a, x) → (first test asks (k + 1) ≡ Some (a, x) → (s : KeptAsk) × (test s ≡ Some x)) → (s : KeptAsk) × (test s ≡ Some x)
    by (Some y) f h later = (s, f ∙ ap (λ (z : ℕ × A). Some z.1) (some_is (k + 1, y) (a, x) h))
    by None f h later = later h

recallable_closed : (t : Ticket) (s x : KeptAsk) → recallable t s ≡ Some x → IsClosed x
recallable_closed t (Open wants tenure) x e = none_some x e
recallable_closed t (Holding wants g r) x e = by (eqb g.ticket.0 t.0 && is_tenure g.kind && not r) e
  where
    by : (b : Bool) → recalled_if b (Holding wants g true) ≡ Some x → IsClosed x
    by true h = (let is : Holding wants g true ≡ x = (let same : Some (Holding wants g true) ≡ Some x = h in cc) in subst IsClosed is (holding_closed wants g true))
    by false h = none_some x h
recallable_closed t (Running wants g r) x e = by (eqb g.ticket.0 t.0 && is_tenure g.kind && not r) e
  where
    by : (b : Bool) → recalled_if b (Running wants g true) ≡ Some x → IsClosed x
    by true h = (let is : Running wants g true ≡ x = (let same : Some (Running wants g true) ≡ Some x = h in cc) in subst IsClosed is (running_closed wants g true))
    by false h = none_some x h
recallable_closed t (Finished wants g news) x e = none_some x e
recallable_closed t (Over h) x e = none_some x e

-- ---- what a node sends

module _ (top : ℕ) where
  abbrev Sends : List Message → Type 0
  Sends ms = (m : Message) → In m ms → IsMessage top m

  -- the node is lawful, and so is what it sent
  record Acts (w : NodeWork) : Type 0 where
    pub node : IsLawfulNode w.node
    pub sends : Sends w.sends

  -- the same of an answer that isn't a refusal
  record ActsOk (r : NodeAnswer) : Type 0 where
    pub acts : (w : NodeWork) → r ≡ Ok w → Acts w

  ok_acts : (w : NodeWork) → Acts w → ActsOk (Ok w)
  ok_acts w h = record { acts = λ v e. (let same : w ≡ v = cc in subst Acts same h) }

  err_acts : (e : NodeRefusal) → ActsOk (Err e)
  err_acts e = record { acts = λ v h. (let bad : ◌≡◌ {A = NodeAnswer} (Err e) (Ok v) = h in cc) }

  guard_acts : (b : Bool) (e : NodeRefusal) (r : NodeAnswer) → ActsOk r → ActsOk (guard b e r)
  guard_acts true e r h = err_acts e
  guard_acts false e r h = h

  none_sent : Sends []
  none_sent m i = absurd i

  one_sent : (y : Message) → IsMessage top y → Sends (y ∷ [])
  one_sent y h m i = subst (IsMessage top) (sym (in_one m y i)) h

  both_sent : (xs ys : List Message) → Sends xs → Sends ys → Sends (xs ++ ys)
  both_sent xs ys f g m i = elim (in_append m xs ys i) [ inl j ↦ f m j | inr j ↦ g m j ]

  fetches_sent : (at : Place) (d : Digest) → Sends (fetches_of at d)
  fetches_sent at d m i =
      (let r = from_map (λ (n : NodeId). Fetches (record { node = n; from = at.node; digest = d })) m (others at) i in
      subst (IsMessage top) (sym r.2) tt)

  all_fetches : (at : Place) (slots : List GrantedSlot) → Sends (flat_map (λ (u : GrantedSlot). fetches_of at u.digest) slots)
  all_fetches at [] = none_sent
  all_fetches at (u ∷ slots) = both_sent (fetches_of at u.digest) (flat_map (λ (u : GrantedSlot). fetches_of at u.digest) slots) (fetches_sent at u.digest) (all_fetches at slots)

  missing_sent : (k : Limits) (at : Place) (x : Node) (slots : List GrantedSlot) → Sends (fetches k at x slots)
  unfolding fetches
  missing_sent k at x slots = all_fetches at _

  module _ (k : Limits) (p : Place) (number : IsNumber top p.node) (x : Node) (lawful : IsLawfulNode x) where
    speaker : IsSpeaker top p.node x.life
    speaker = record { node = number; life = lawful.life }

    -- the node with one ask changed, which isn't open then
    closes : (a : ℕ) (s : KeptAsk) → IsClosed s → (y : Node) → y.life ≡ x.life → y.asks ≡ set_nth x.asks a s → IsLawfulNode y
    closes a s closed y life asks = record {
      life = subst (λ (l : Life). 1 ≤ l.0) (sym life) lawful.life;
      asks = λ wants tenure i. elim (open_set x.asks a s wants tenure (subst (In (Open wants tenure)) asks i)) [ inl e ↦ absurd (closed wants tenure e) | inr j ↦ lawful.asks wants tenure j ];
    }

    released : (t : Ticket) → Sends (release p.node x.life t ∷ [])
    released t = one_sent (release p.node x.life t) (record { speaker = speaker; request = tt })

    opens_acts : (wants : List Want) (tenure : Bool) → AreAsked tenure wants → Acts (opens p wants tenure x)
    opens_acts wants tenure asked = record {
      node = record {
        life = lawful.life;
        asks = λ ws t i. elim (in_append (Open ws t) x.asks (Open wants tenure ∷ []) i) [
          | inl j ↦ lawful.asks ws t j
          | inr j ↦ (let same : Open ws t ≡ Open wants tenure = in_one (Open ws t) (Open wants tenure) j in
              let a : ws ≡ wants = cc in
              let b : t ≡ tenure = cc in
              subst (λ z. AreAsked z ws) (sym b) (subst (AreAsked tenure) (sym a) asked))
        ];
      };
      sends = one_sent (acquire p.node x.life (record { 0 = length x.asks + 1 }) wants tenure) (record { speaker = speaker; request = (omega arith, asked) });
    }

    asked_acts : (wants : List Want) → IsWants wants → ActsOk (asked k p wants x)
    asked_acts wants sorted =
        let made : NodeAnswer = Ok (opens p wants false x) in
        let few : NodeAnswer = guard (not (nat_lt (length x.asks) k.greatest)) refusal.AsksSpent made in
        guard_acts x.spent refusal.LivesSpent (guard (not (at_home x.asks wants)) refusal.NotHomeHere few) (guard_acts (not (at_home x.asks wants)) refusal.NotHomeHere few (guard_acts (not (nat_lt (length x.asks) k.greatest)) refusal.AsksSpent made (ok_acts (opens p wants false x) (opens_acts wants false (record { sorted = sorted; one = λ e. (let bad : false ≡ true = e in cc) })))))

    tenure_asked : (f : FolderName) → AreAsked true (tenure_wants f)
    unfolding IsStrictlySortedBy
    tenure_asked f = record { sorted = (omega arith, (tt, tt)); one = λ e. refl }

    tenure_acts : (f : FolderName) → ActsOk (asked_tenure k p f x)
    tenure_acts f =
        let here : Bool = list_any (is_tenure_of (record f { mode = Shared })) x.asks in
        let made : NodeAnswer = Ok (opens p (tenure_wants f) true x) in
        let few : NodeAnswer = guard (not (nat_lt (length x.asks) k.greatest)) refusal.AsksSpent made in
        guard_acts x.spent refusal.LivesSpent (guard here refusal.TenureHere few) (guard_acts here refusal.TenureHere few (guard_acts (not (nat_lt (length x.asks) k.greatest)) refusal.AsksSpent made (ok_acts (opens p (tenure_wants f) true x) (opens_acts (tenure_wants f) true (tenure_asked f)))))

    begun_acts : (t : Ticket) → ActsOk (begun t x)
    begun_acts t = guard_acts x.spent _ _ (by (first (held t) x.asks 0))
      where
        by : (o : Option (ℕ × HeldGrant)) → ActsOk (beginning t x o)
        by None = err_acts refusal.NoSuchTicket
        by (Some (a, h)) = guard_acts _ _ _ (ok_acts (record { node = record x { asks = set_nth x.asks a (Running h.wants h.grant h.recalled) }; sends = []; note = note.Begun t }) (record { node = closes a (Running h.wants h.grant h.recalled) (running_closed h.wants h.grant h.recalled) _ refl refl; sends = none_sent }))

    gives_up_acts : (a : ℕ) (t : Ticket) (n : NodeNote) → Acts (gives_up p a t n x)
    gives_up_acts a t n = record { node = closes a (Over (how.Released t)) (over_closed (how.Released t)) _ refl refl; sends = released t }

    finished_acts : (sha : List ℕ → Digest) (t : Ticket) (lefts : List Left) → ActsOk (finished_with sha p t lefts x)
    finished_acts sha t lefts = guard_acts x.spent _ _ (by (first (running t) x.asks 0))
      where
        leaving_acts : (a : ℕ) (h : HeldGrant) (lefts : List Left) → Acts (leaving sha p a h lefts x)
        leaving_acts a h [] = gives_up_acts a h.grant.ticket (note.Finished h.grant.ticket)
        leaving_acts a h (l ∷ ls) = record {
          node = closes a (Finished h.wants h.grant (news_of sha (l ∷ ls))) (finished_closed h.wants h.grant (news_of sha (l ∷ ls))) _ refl refl;
          sends = one_sent (commit p.node x.life h.grant.ticket (news_of sha (l ∷ ls))) (record { speaker = speaker; request = tt });
        }

        by : (o : Option (ℕ × HeldGrant)) → ActsOk (finishing sha p lefts x o)
        by None = err_acts refusal.NotRunning
        by (Some (a, h)) =
            let wrong : Bool = not (slots_eq (slots_of (news_of sha lefts)) (written h.grant.slots)) in
            let left : NodeAnswer = Ok (leaving sha p a h lefts x) in
            guard_acts (in_use x.asks a h.wants h.grant) refusal.TenureInUse (guard wrong refusal.WrongNews left) (guard_acts wrong refusal.WrongNews left (ok_acts (leaving sha p a h lefts x) (leaving_acts a h lefts)))

    aborted_acts : (t : Ticket) → ActsOk (aborted p t x)
    aborted_acts t = guard_acts x.spent _ _ (by (first (held_or_running t) x.asks 0))
      where
        by : (o : Option (ℕ × HeldGrant)) → ActsOk (aborting p x o)
        by None = err_acts refusal.NoSuchTicket
        by (Some (a, h)) = guard_acts _ _ _ (ok_acts (gives_up p a h.grant.ticket (note.Aborted h.grant.ticket) x) (gives_up_acts a h.grant.ticket (note.Aborted h.grant.ticket)))

    forgotten_acts : (d : Digest) → ActsOk (forgotten k d x)
    forgotten_acts d = guard_acts x.spent _ _ (guard_acts (digest_eq d k.empty || not (is_stored x d)) _ _ (guard_acts (list_any (needs d) x.asks) _ _ (ok_acts _ (record {
      node = record { life = lawful.life; asks = lawful.asks };
      sends = none_sent;
    }))))

    again_sent : (a : Ask) (s : KeptAsk) → 1 ≤ a.0 → In s x.asks → Sends (again k p x a s)
    again_sent a (Open wants tenure) some i = one_sent (acquire p.node x.life a wants tenure) (record { speaker = speaker; request = (some, lawful.asks wants tenure i) })
    again_sent a (Holding wants g r) some i = missing_sent k p x g.slots
    again_sent a (Running wants g r) some i = none_sent
    again_sent a (Finished wants g news) some i = one_sent (commit p.node x.life g.ticket news) (record { speaker = speaker; request = tt })
    again_sent a (Over h) some i = none_sent

    all_sent : (asks : List KeptAsk) (a : ℕ) → ((s : KeptAsk) → In s asks → In s x.asks) → Sends (all_again k p x asks a)
    all_sent [] a part = none_sent
    all_sent (s ∷ asks) a part = both_sent (again k p x (record { 0 = a + 1 }) s) (all_again k p x asks (a + 1)) (again_sent (record { 0 = a + 1 }) s (omega arith) (part s (inl refl))) (all_sent asks (a + 1) (λ z i. part z (inr i)))

    resent_acts : ActsOk (resent k p x)
    resent_acts = guard_acts x.spent _ _ (ok_acts (record { node = x; sends = hello p.node x.life ∷ all_again k p x x.asks 0; note = note.Resent }) (record {
      node = lawful;
      sends = both_sent (hello p.node x.life ∷ []) (all_again k p x x.asks 0) (one_sent (hello p.node x.life) (record { speaker = speaker; request = tt })) (all_sent x.asks 0 (λ s i. i));
    }))

    restarted_acts : Acts (restarted p x)
    restarted_acts = (let some = lawful.life in record {
      node = record { life = omega arith; asks = λ wants tenure i. absurd i };
      sends = one_sent (hello p.node (record { 0 = x.life.0 + 1 })) (record { speaker = record { node = number; life = omega arith }; request = tt });
    })

    -- ---- messages

    nothing_acts : Acts (nothing x)
    nothing_acts = record { node = lawful; sends = none_sent }

    gives_back_acts : (g : Grant) (b : Bool) → Acts (gives_back p g b x)
    gives_back_acts g true = nothing_acts
    gives_back_acts g false = record { node = lawful; sends = released g.ticket }

    granted_acts : (g : Grant) (o : Option KeptAsk) → Acts (granted k p g x o)
    granted_acts g None = gives_back_acts g false
    granted_acts g (Some (Open wants tenure)) = record { node = closes g.ask.0 (Holding wants g false) (holding_closed wants g false) _ refl refl; sends = missing_sent k p x g.slots }
    granted_acts g (Some (Holding wants h r)) = gives_back_acts g _
    granted_acts g (Some (Running wants h r)) = gives_back_acts g _
    granted_acts g (Some (Finished wants h news)) = gives_back_acts g _
    granted_acts g (Some (Over h)) = gives_back_acts g false

    learned_acts : (t : Ticket) (versions : List Confirmed) (o : Option (ℕ × Sent)) → Acts (learned t versions x o)
    learned_acts t versions None = nothing_acts
    learned_acts t versions (Some (a, s)) = record { node = closes a (Over (how.Committed t versions)) (over_closed (how.Committed t versions)) _ refl refl; sends = none_sent }

    dropped_acts : (t : Ticket) (o : Option (ℕ × Sent)) → Acts (dropped t x o)
    dropped_acts t None = nothing_acts
    dropped_acts t (Some (a, s)) = record { node = closes a (Over (how.Fenced t)) (over_closed (how.Fenced t)) _ refl refl; sends = none_sent }

    denied_acts : (a : Ask) (why : Why) (o : Option KeptAsk) → Acts (denied a why x o)
    denied_acts a why None = nothing_acts
    denied_acts a why (Some (Open wants tenure)) = record { node = closes a.0 (Over (how.Denied why)) (over_closed (how.Denied why)) _ refl refl; sends = none_sent }
    denied_acts a why (Some (Holding wants g r)) = nothing_acts
    denied_acts a why (Some (Running wants g r)) = nothing_acts
    denied_acts a why (Some (Finished wants g news)) = nothing_acts
    denied_acts a why (Some (Over h)) = nothing_acts

    recalled_acts : (t : Ticket) (o : Option (ℕ × KeptAsk)) → first (recallable t) x.asks 0 ≡ o → Acts (recalled t x o)
    recalled_acts t None e = nothing_acts
    recalled_acts t (Some (a, s)) e = (let f = first_from (recallable t) x.asks 0 a s e in record { node = closes a s (recallable_closed t f.0 s f.1) _ refl refl; sends = none_sent })

    of_life_acts : (l : Life) (w : NodeWork) → Acts w → Acts (of_life l x w)
    of_life_acts l w h = elim (cases_Bool (eqb l.0 x.life.0)) [ inl t ↦ rw t h | inr t ↦ rw t (record { node = lawful; sends = none_sent }) ]

    heard_acts : (y : FromCoord) → Acts (heard k p y x)
    heard_acts (told.Granted g) = of_life_acts g.life _ (granted_acts g (nth x.asks g.ask.0))
    heard_acts (told.Committed n l t versions) = of_life_acts l _ (learned_acts t versions (first (finished t) x.asks 0))
    heard_acts (told.Fenced n l t) = of_life_acts l _ (dropped_acts t (first (finished t) x.asks 0))
    heard_acts (told.Denied n l a why) = of_life_acts l _ (denied_acts a why (nth x.asks a.0))
    heard_acts (told.Recall n l t) = of_life_acts l _ (recalled_acts t (first (recallable t) x.asks 0) refl)

    fetched_acts : (from : NodeId) (o : Option (List ℕ)) → Acts (fetched from x o)
    fetched_acts from None = nothing_acts
    fetched_acts from (Some c) = record { node = lawful; sends = one_sent _ tt }

    brought_acts : (sha : List ℕ → Digest) (c : List ℕ) → Acts (brought sha c x)
    brought_acts sha c = by (not (is_stored x (sha c)) && list_any (is_base (sha c)) x.asks)
      where
        by : (b : Bool) → Acts (if b then record { node = record x { store = keep (sha c) c x.store }; sends = []; note = note.BlobTaken } else nothing x)
        by true = record { node = record { life = lawful.life; asks = lawful.asks }; sends = none_sent }
        by false = nothing_acts

    received_acts : (sha : List ℕ → Digest) (y : ToNode) → Acts (received sha k p y x)
    received_acts sha (to_node.FromCoord y) = heard_acts y
    received_acts sha (to_node.Fetch y) = fetched_acts y.from (x.store y.digest)
    received_acts sha (to_node.Blob n c) = brought_acts sha c

    spent_acts : (w : NodeWork) → Acts w → ActsOk (unless_spent x w)
    spent_acts w h = guard_acts x.spent _ _ (ok_acts w h)

  -- ---- the farm

  abbrev F : Farm → Type 0
  F s = IsLawfulFarm top s

  le_is : (a b : ℕ) → nat_le a b ≡ true → a ≤ b
  le_is a b h = grind (arith, nat_tests)

  pub number_of : (s : Farm) (n : NodeId) → F s → is_node s n ≡ true → IsNumber top n
  number_of s n f here =
      let both = and_parts (nat_le 1 n.0) (nat_le n.0 s.size) here in
      let low : 1 ≤ n.0 = le_is 1 n.0 both.0 in
      let high : n.0 ≤ s.size = le_is n.0 s.size both.1 in
      let size : s.size ≤ top = f.size in
      (low, omega arith)

  moved_lawful : (n : NodeId) (w : NodeWork) (s : Farm) → F s → Acts w → F (moved n w s).farm
  moved_lawful n w s f a = record {
    size = f.size;
    ledger = f.ledger;
    saved = f.saved;
    pool = both_sent s.pool w.sends f.pool a.sends;
    nodes = put_all (λ j x. IsLawfulNode x) n.0 w.node s.nodes a.node (λ j ne. f.nodes j);
  }

  answered_lawful : (n : NodeId) (r : NodeAnswer) (s : Farm) → F s → ActsOk r → F (answered n r s).farm
  answered_lawful n (Err e) s f a = f
  answered_lawful n (Ok w) s f a = moved_lawful n w s f (a.acts w refl)

  at_lawful : (b : Bool) (n : NodeId) (r : NodeAnswer) (s : Farm) → F s → (b ≡ true → ActsOk r) → F (at_node b n r s).farm
  at_lawful true n r s f a = answered_lawful n r s f (a refl)
  at_lawful false n r s f a = f

  does_lawful : (n : NodeId) (g : Place → Node → NodeAnswer) (s : Farm) → F s → (IsNumber top n → ActsOk (g (at s n) (s.nodes n.0))) → F (node_does n g s).farm
  does_lawful n g s f a = at_lawful (is_node s n) n (g (at s n) (s.nodes n.0)) s f (λ here. a (number_of s n f here))

  restarts_lawful : (k : Limits) (n : NodeId) (s : Farm) → F s → IsNumber top n → F (restarts k n s).farm
  restarts_lawful k n s f number = elim (cases_Bool (may_restart k (s.nodes n.0))) [
    | inl t ↦ rw t (moved_lawful n (restarted (at s n) (s.nodes n.0)) s f (restarted_acts k (at s n) number (s.nodes n.0) (f.nodes n.0)))
    | inr t ↦ rw t (record {
      size = f.size;
      ledger = f.ledger;
      saved = f.saved;
      pool = f.pool;
      nodes = put_all (λ j x. IsLawfulNode x) n.0 (record (s.nodes n.0) { spent = true }) s.nodes (record { life = (f.nodes n.0).life; asks = (f.nodes n.0).asks }) (λ j ne. f.nodes j);
    })
  ]

  -- what the coordinator sends goes to nodes
  told_sent : (sends : List FromCoord) → Sends (map Told sends)
  told_sent sends m i = (let r = from_map Told m sends i in subst (IsMessage top) (sym r.2) tt)

  settled_lawful : (b : Bool) (armed : Option Kept) (w : Work) (s : Farm) → (k : Limits) → F s → IsLawful top w.ledger → F (settled b armed w s).farm
  settled_lawful false armed w s k f l = record { size = f.size; ledger = l; saved = f.saved; pool = both_sent s.pool (map Told w.sends) f.pool (told_sent w.sends); nodes = f.nodes }
  settled_lawful true None w s k f l = record { size = f.size; ledger = l; saved = (every_ledger_stays_lawful top k w.ledger l).restart; pool = both_sent s.pool (map Told w.sends) f.pool (told_sent w.sends); nodes = f.nodes }
  settled_lawful true (Some Old) w s k f l = record { size = f.size; ledger = f.ledger; saved = f.saved; pool = f.pool; nodes = f.nodes }
  settled_lawful true (Some New) w s k f l = record { size = f.size; ledger = f.ledger; saved = (every_ledger_stays_lawful top k w.ledger l).restart; pool = f.pool; nodes = f.nodes }

  coordinated_lawful : (b : Bool) (r : Result Work CoordRefusal) (s : Farm) (k : Limits) → F s → IsLawfulWork top r → F (coordinated b r s).farm
  coordinated_lawful true r s k f l = f
  coordinated_lawful false (Err e) s k f l = f
  coordinated_lawful false (Ok w) s k f l = settled_lawful w.changed s.armed w s k f l

  delivered_lawful : (sha : List ℕ → Digest) (k : Limits) (o : Option Message) (s : Farm) → F s → ((m : Message) → o ≡ Some m → IsMessage top m) → F (delivered sha k o s).farm
  delivered_lawful sha k None s f said = f
  delivered_lawful sha k (Some (to.ToCoord y)) s f said = coordinated_lawful s.down (Ok (handled k y (begin_work s.ledger))) s k f ((every_ledger_stays_lawful top k s.ledger f.ledger).message y (said (to.ToCoord y) refl))
  delivered_lawful sha k (Some (to.ToNode y)) s f said =
      does_lawful (receiver y) (λ p x. unless_spent x (received sha k p y x)) s f
      (λ number. spent_acts k (at s (receiver y)) number (s.nodes (receiver y).0) (f.nodes (receiver y).0) _ (received_acts k (at s (receiver y)) number (s.nodes (receiver y).0) (f.nodes (receiver y).0) sha y))

pub every_farm_stays_lawful : EveryFarmStaysLawful
unfolding step
every_farm_stays_lawful sha k top s (replay.Ask n wants) event f = does_lawful top n (λ p x. asked k p wants x) s f (λ number. asked_acts top k (at s n) number (s.nodes n.0) (f.nodes n.0) wants event)
every_farm_stays_lawful sha k top s (Tenure n folder) event f = does_lawful top n (λ p x. asked_tenure k p folder x) s f (λ number. tenure_acts top k (at s n) number (s.nodes n.0) (f.nodes n.0) folder)
every_farm_stays_lawful sha k top s (Deliver number) event f = delivered_lawful top sha k (nth s.pool number) s f (λ m e. f.pool m (nth_in s.pool number m e))
every_farm_stays_lawful sha k top s (Begin n t) event f = does_lawful top n (λ p x. begun t x) s f (λ number. begun_acts top k (at s n) number (s.nodes n.0) (f.nodes n.0) t)
every_farm_stays_lawful sha k top s (Finish n t lefts) event f = does_lawful top n (λ p x. finished_with sha p t lefts x) s f (λ number. finished_acts top k (at s n) number (s.nodes n.0) (f.nodes n.0) sha t lefts)
every_farm_stays_lawful sha k top s (Abort n t) event f = does_lawful top n (λ p x. aborted p t x) s f (λ number. aborted_acts top k (at s n) number (s.nodes n.0) (f.nodes n.0) t)
every_farm_stays_lawful sha k top s (Resend n) event f = does_lawful top n (λ p x. resent k p x) s f (λ number. resent_acts top k (at s n) number (s.nodes n.0) (f.nodes n.0))
every_farm_stays_lawful sha k top s Nudge event f = coordinated_lawful top s.down (Ok (nudged k (begin_work s.ledger))) s k f (subst (IsLawful top) (sym (nudge-ledger k s.ledger.live (begin_work s.ledger))) f.ledger)
every_farm_stays_lawful sha k top s (Withdraw t) event f = coordinated_lawful top s.down (withdrawn k t (begin_work s.ledger)) s k f ((every_ledger_stays_lawful top k s.ledger f.ledger).withdraw t)
every_farm_stays_lawful sha k top s (Prune slot) event f = coordinated_lawful top s.down (pruned k slot (begin_work s.ledger)) s k f ((every_ledger_stays_lawful top k s.ledger f.ledger).prune slot)
every_farm_stays_lawful sha k top s (Retire n) event f = elim (cases_Bool (is_node s n)) [
  | inl t ↦ rw t (coordinated_lawful top s.down (retired k n (begin_work s.ledger)) s k f ((every_ledger_stays_lawful top k s.ledger f.ledger).retire n (number_of top s n f t)))
  | inr t ↦ rw t f
]
every_farm_stays_lawful sha k top s (RestartNode n) event f = elim (cases_Bool (is_node s n)) [ inl t ↦ rw t (restarts_lawful top k n s f (number_of top s n f t)) | inr t ↦ rw t f ]
every_farm_stays_lawful sha k top s RestartCoordinator event f = record { size = f.size; ledger = f.saved; saved = f.saved; pool = f.pool; nodes = f.nodes }
every_farm_stays_lawful sha k top s (Forget n d) event f = does_lawful top n (λ p x. forgotten k d x) s f (λ number. forgotten_acts top k (at s n) number (s.nodes n.0) (f.nodes n.0) d)
every_farm_stays_lawful sha k top s (Forge n c) event f = does_lawful top n (λ p x. unless_spent x (brought sha c x)) s f (λ number. spent_acts top k (at s n) number (s.nodes n.0) (f.nodes n.0) _ (brought_acts top k (at s n) number (s.nodes n.0) (f.nodes n.0) sha c))
every_farm_stays_lawful sha k top s (FailSave kept) event f = record { size = f.size; ledger = f.ledger; saved = f.saved; pool = f.pool; nodes = f.nodes }

pub opening_ledger : (top : ℕ) → IsLawful top ledger.opening
opening_ledger top = record {
  core = record {
    holders = λ g i. absurd i;
    apart = tt;
    given = λ g i. absurd i;
    retired = λ s e. (let bad : false ≡ true = e in cc);
    versions = λ s v i. absurd i;
    block = omega arith;
    home = λ h e. none_some h e;
    lives = λ n some. absurd (omega arith);
    gone = λ n e. (let bad : false ≡ true = e in cc);
  };
  parked = record { each = λ p i. absurd i; waits = tt };
}

pub every_opening_is_lawful : EveryOpeningIsLawful
every_opening_is_lawful sha top size fits = record {
  size = fits;
  ledger = opening_ledger top;
  saved = opening_ledger top;
  pool = λ m i. absurd i;
  nodes = λ n. record { life = omega arith; asks = λ wants tenure i. absurd i };
}
