-- Nodes that were taken over. To each world of a raided farm belongs one that has the invariant: with the same machine and
-- the same honest nodes, in which the taken-over nodes are in lives above all that they ever said.
use Rattle.std.proofs.Common.{◌≡◌, ◌≢◌, ℕ, zero, suc, ◌+◌, ◌<◌, ◌≤◌, ◌==◌, if◌then◌else◌, List, [], ◌∷◌, ◌++◌, Bool, true, false, Option, Some, None, refl, sym, ◌∙◌, ap, subst, inl, inr, arith}
use Rattle.std.proofs.lemmas.Bool.{cases_Bool, cases_eq, cases_order}
use Rattle.farm_base.specs.Kinds.{is_tenure}
use Rattle.farm_base.specs.Receivers.{told_to}
use Rattle.farm_base.specs.declared.message.FromCoord.TheVariants as told
use Rattle.farm_base.specs.declared.message.Request.TheVariants as request
use Rattle.protocol.specs.Lists.{In, put, nth}
use Rattle.protocol.specs.Names.{Slot, slot_eq, is_alone, is_private, Digest, NodeId, Life, Ticket, Want}
use Rattle.protocol.specs.Machine.{Grant, News, LineVersion, Ending, Committed, Released, Withdrawn, Died, Made, Granted, Pruned, ticket_of, Message, Said, Told, FromCoord, hello, acquire, commit, release, WasHeard, Machine, Live, Has, Parked, line, digest_for, version_of, version_at, added, MayEnd, Step, Grants, Ends, Prunes, Sees, Retires, Parks, Unparks, Raises, Steps, No_step, One_more, Says, Says_granted, Says_committed, Says_fenced, Says_denied, Says_recall, Names}
use Rattle.protocol.specs.World.{Running, Node, has_life, Act, Asks, Asks_tenure, Asks_again, Greets, Takes, Gives_back, Begins, Finishes, Gives_up, Sends_commit, Learns, Drops, Is_denied, Is_recalled, Is_recalled_running, Stores, Forgets, Asks_content, Sends_blob, Restarts, Stops, World, Move, Node_moves, Machine_moves, Machine_says, Fails, Recovers, start}
use Rattle.protocol.specs.Safe.{InUse, HoldsContent, Safe}
use Rattle.protocol.specs.Hostile.{key_of, IsSealed, Raid, Plays, Forges, Turns, Raids, Calm, After, IsCause, IsOf, Of_prune, Of_commit, SafeAmong, SafeAmongSince, EveryRaidIsSafe, EveryRaidStaysSafe}
use Rattle.lists.proofs.Places.{cases_list}
use Rattle.protocol.proofs.Base.{node_is, slot_eq_is, cases_option, put_same, put_other, in_one, in_left, in_right, in_append, none_some, some_is, true_false}
use Rattle.protocol.proofs.Lines.{one_made, line_source, added_ticket, digest_in}
use Rattle.protocol.proofs.Steps.{Sound, Later, later_refl, later_trans, names_later, others_sound, step_sound, fresh, same_grant, older_gone, live_apart}
use Rattle.protocol.proofs.Invariant.{Spent, NodeOk, MessageOk, WasWanted, Inv, ahead_refl, message_later, node_later}
use Rattle.protocol.proofs.Worlds.{act_inv, step_inv, say_inv, in_made_line, start_inv}
use Rattle.protocol.proofs.Safety.{in_use_unspent, safe, one_digest}
use Rattle.protocol.proofs.Commits.{OneNews, NoCommit, quiet_news, act_news}
use Rattle.protocol.proofs.Moving.{act_owns}

abbrev at : Machine → List Message → (ℕ → Node) → World
at m pool nodes = record { machine = m; down = None; pool = pool; nodes = nodes }

-- one more message that is as the rules have it
heard_inv : (sha : List ℕ → Digest) (w : World) → Inv sha w → (x : Message) → MessageOk (sha []) w.machine w.nodes x → Inv sha (record w { pool = w.pool ++ x ∷ [] })
heard_inv sha w inv x ok = record {
  sound = inv.sound;
  messages = λ z i. elim (in_append z w.pool (x ∷ []) i) [
    | inl old ↦ inv.messages z old
    | inr new ↦ subst (MessageOk (sha []) w.machine w.nodes) (sym (in_one z x new)) ok
  ];
  fates = inv.fates;
  nodes = inv.nodes;
  asked = λ g i. (let r = inv.asked g i in (r.0, in_left (acquire g.node g.life g.ask r.0 (is_tenure g.kind)) w.pool (x ∷ []) r.1, r.2));
}

-- which asks are parked has no part in it
parked_inv : (sha : List ℕ → Digest) (w : World) → Inv sha w → (ps : List Parked) → Inv sha (record w { machine = record w.machine { parked = ps } })
parked_inv sha w inv ps =
    let both = others_sound (sha []) w.machine w.machine.old_home w.machine.gone w.machine.lives ps inv.sound in
    record {
      sound = both.1;
      messages = λ y i. message_later (sha []) w.machine (record w.machine { parked = ps }) w.nodes w.nodes y both.0 (λ j. ahead_refl (w.nodes j)) (inv.messages y i);
      fates = inv.fates;
      nodes = λ n. node_later sha w.machine (record w.machine { parked = ps }) n (w.nodes n.0) both.0 (inv.nodes n);
      asked = inv.asked;
    }

module _ (taken : ℕ → Bool) (sha : List ℕ → Digest) where
  -- a world with the invariant, of this machine and the honest nodes, which has heard all that is under their keys
  pub record Shadow (m : Machine) (pool : List Message) (nodes : ℕ → Node) : Type 0 where
    pub heard : List Message
    pub states : ℕ → Node
    pub inv : Inv sha (at m heard states)
    pub same : (n : ℕ) → taken n ≡ false → states n ≡ nodes n
    pub covers : (x : Message) → IsSealed taken x → In x pool → In x heard

  -- an honest node is none that was taken over
  differs : (n : NodeId) (j : ℕ) → taken n.0 ≡ true → taken j ≡ false → j ≢ n.0
  differs n j t f e = true_false (taken n.0) t (subst (λ z. taken z ≡ false) e f)

  module _ (m : Machine) (pool : List Message) (nodes : ℕ → Node) where
    -- a taken-over node in a life above this one
    rises : (n : NodeId) (k : ℕ) → taken n.0 ≡ true → Shadow m pool nodes → (s : Shadow m pool nodes) × (k ≤ (s.states n.0).life.0)
    rises n zero t s = (s, omega arith)
    rises n (suc k) t s =
        let r = rises n k t s in
        let x : Node = r.0.states n.0 in
        let x' : Node = has_life x (x.life.0 + 1) in
        let greets : List Message = hello n (record { 0 = x.life.0 + 1 }) ∷ [] in
        let before : k ≤ x.life.0 = r.1 in
        let now : put n.0 x' r.0.states n.0 ≡ x' = put_same n.0 x' r.0.states in
        let life : (put n.0 x' r.0.states n.0).life.0 ≡ x.life.0 + 1 = ap (λ (z : Node). z.life.0) now in (
          record {
            heard = r.0.heard ++ greets;
            states = put n.0 x' r.0.states;
            inv = act_inv sha (at m r.0.heard r.0.states) r.0.inv n greets x' Restarts;
            same = λ j f. put_other n.0 x' r.0.states j (differs n j t f) ∙ r.0.same j f;
            covers = λ y sealed i. in_left y r.0.heard greets (r.0.covers y sealed i);
          },
          omega arith,
        )

    -- what a taken-over node said, heard as said in a life that is over
    supplies : (n : NodeId) (k : ℕ) (x : Message) → taken n.0 ≡ true → ((states : ℕ → Node) → k < (states n.0).life.0 → MessageOk (sha []) m states x)
        → Shadow m pool nodes → (s : Shadow m pool nodes) × In x s.heard
    supplies n k x t ok s =
        let r = rises n (suc k) t s in
        let le : suc k ≤ (r.0.states n.0).life.0 = r.1 in (
          record {
            heard = r.0.heard ++ x ∷ [];
            states = r.0.states;
            inv = heard_inv sha (at m r.0.heard r.0.states) r.0.inv x (ok r.0.states (omega arith));
            same = r.0.same;
            covers = λ y sealed i. in_left y r.0.heard (x ∷ []) (r.0.covers y sealed i);
          },
          in_right x r.0.heard (x ∷ []) (inl refl),
        )

    obtains : (n : NodeId) (k : ℕ) (x : Message) → key_of x ≡ Some n → In x pool → ((states : ℕ → Node) → k < (states n.0).life.0 → MessageOk (sha []) m states x)
        → Shadow m pool nodes → (s : Shadow m pool nodes) × In x s.heard
    obtains n k x key i ok s = elim (cases_Bool (taken n.0)) [
      | inl t ↦ supplies n k x t ok s
      | inr f ↦ (s, s.covers x (n, key, f) i)
    ]

    obtains_life : (n : NodeId) (l : Life) → WasHeard pool n l → Shadow m pool nodes → (s : Shadow m pool nodes) × WasHeard s.heard n l
    obtains_life n l heard s = elim (cases_Bool (taken n.0)) [
      | inl t ↦ (let r = supplies n l.0 (hello n l) t (λ states lt. (let le : l.0 ≤ (states n.0).life.0 = omega arith in le)) s in (r.0, (record { node = n; life = l; request = request.Hello }, r.1, refl, refl)))
      | inr f ↦ (s, (heard.0, s.covers (Said heard.0) (n, ap (λ z. Some z) heard.2, f) heard.1, heard.2, heard.3))
    ]

    stepped : (m' : Machine) (s : Shadow m pool nodes) → Step (sha []) s.heard m m' → Shadow m' pool nodes
    stepped m' s step = record {
      heard = s.heard;
      states = s.states;
      inv = step_inv sha (at m s.heard s.states) s.inv m' step;
      same = s.same;
      covers = s.covers;
    }

    ends_shadow : (g : Grant) (y : Ending) → Live m g → MayEnd pool m g y → Shadow m pool nodes → (s : Shadow m pool nodes) × MayEnd s.heard m g y
    ends_shadow g (Committed news) live may s =
        let r = obtains g.node g.life.0 (commit g.node g.life g.ticket news) refl may.0 (λ states lt. (g, (live.0, refl, refl, refl), may.1, may.2, inl lt)) s in
        (r.0, (r.1, may.1, may.2))
    ends_shadow g Released live may s = obtains g.node g.life.0 (release g.node g.life g.ticket) refl may (λ states lt. (g, (live.0, refl, refl, refl), inl lt)) s
    ends_shadow g Withdrawn live may s = (s, may)
    ends_shadow g Died live may s = (let r = obtains_life g.node may.0 may.1 s in (r.0, (may.0, r.1, may.2, may.3)))

    step_shadow : (m' : Machine) → Step (sha []) pool m m' → Shadow m pool nodes → Shadow m' pool nodes
    step_shadow m' (Grants g wants asked answers here alone home newer free) s =
        let r = obtains g.node g.life.0 (acquire g.node g.life g.ask wants (is_tenure g.kind)) refl asked (λ states lt. (inl lt, answers.tenure)) s in
        stepped m' r.0 (Grants g wants r.1 answers here alone home newer free)
    step_shadow m' (Ends g y live may) s = (let r = ends_shadow g y live may s in stepped m' r.0 (Ends g y live r.1))
    step_shadow m' (Prunes t p newer idle some) s = stepped m' s (Prunes t p newer idle some)
    step_shadow m' (Sees n l heard here newer none quiet) s = (let r = obtains_life n l heard s in stepped m' r.0 (Sees n l r.1 here newer none quiet))
    step_shadow m' (Retires n here home none quiet) s = stepped m' s (Retires n here home none quiet)
    step_shadow m' (Parks p sent none) s = record {
      heard = s.heard;
      states = s.states;
      inv = parked_inv sha (at m s.heard s.states) s.inv (m.parked ++ p ∷ []);
      same = s.same;
      covers = s.covers;
    }
    step_shadow m' (Unparks ps part) s = stepped m' s (Unparks ps part)
    step_shadow m' (Raises t le) s = stepped m' s (Raises t le)

    -- what the coordinator says to an honest node
    says_heard : (s : Shadow m pool nodes) (y : FromCoord) → taken (told_to y).0 ≡ false → Says (sha []) pool m y → Says (sha []) s.heard m y
    says_heard s y f (Says_granted g live) = Says_granted g live
    says_heard s y f (Says_committed n l t news versions i all some) = Says_committed n l t news versions (s.covers (commit n l t news) (n, refl, f) i) all some
    says_heard s y f (Says_fenced n l t news i refused off) = Says_fenced n l t news (s.covers (commit n l t news) (n, refl, f) i) refused off
    says_heard s y f (Says_denied n l a why wants tenure sent) = Says_denied n l a why wants tenure (s.covers (acquire n l a wants tenure) (n, refl, f) sent)
    says_heard s y f (Says_recall g live tenure) = Says_recall g live tenure

    -- a line that is under no honest key
    forge_shadow : (x : Message) → (IsSealed taken x → ⊥) → Shadow m pool nodes → Shadow m (pool ++ x ∷ []) nodes
    forge_shadow x loose s = record {
      heard = s.heard;
      states = s.states;
      inv = s.inv;
      same = s.same;
      covers = λ y sealed i. elim (in_append y pool (x ∷ []) i) [
        | inl old ↦ s.covers y sealed old
        | inr new ↦ absurd (loose (subst (IsSealed taken) (in_one y x new) sealed))
      ];
    }

    say_shadow : (y : FromCoord) → Says (sha []) pool m y → Shadow m pool nodes → Shadow m (pool ++ Told y ∷ []) nodes
    say_shadow y says s = elim (cases_Bool (taken (told_to y).0)) [
      | inl t ↦ forge_shadow (Told y) (λ sealed. (let same : told_to y ≡ sealed.0 = some_is (told_to y) sealed.0 sealed.1 in
          true_false (taken (told_to y).0) t (subst (λ (z : NodeId). taken z.0 ≡ false) (sym same) sealed.2))) s
      | inr f ↦ record {
        heard = s.heard ++ Told y ∷ [];
        states = s.states;
        inv = say_inv sha (at m s.heard s.states) s.inv y (says_heard s y f says);
        same = s.same;
        covers = λ x sealed i. elim (in_append x pool (Told y ∷ []) i) [
          | inl old ↦ in_left x s.heard (Told y ∷ []) (s.covers x sealed old)
          | inr new ↦ in_right x s.heard (Told y ∷ []) new
        ];
      }
    ]

    turn_shadow : (n : NodeId) (x : Node) → taken n.0 ≡ true → Shadow m pool nodes → Shadow m pool (put n.0 x nodes)
    turn_shadow n x t s = record {
      heard = s.heard;
      states = s.states;
      inv = s.inv;
      same = λ j f. s.same j f ∙ sym (put_other n.0 x nodes j (differs n j t f));
      covers = s.covers;
    }

  -- what an honest node does on what is under its key
  act_heard : (pool heard : List Message) → ((y : Message) → IsSealed taken y → In y pool → In y heard) → (n : NodeId) → taken n.0 ≡ false
      → (x x' : Node) (sends : List Message) → Act sha pool n x sends x' → Act sha heard n x sends x'
  act_heard pool heard c n f x x' sends (Asks wants h) = Asks wants h
  act_heard pool heard c n f x x' sends (Asks_tenure folder h) = Asks_tenure folder h
  act_heard pool heard c n f x x' sends (Asks_again a wants tenure e) = Asks_again a wants tenure e
  act_heard pool heard c n f x x' sends Greets = Greets
  act_heard pool heard c n f x x' sends (Takes g wants tenure i p q e) =
      Takes g wants tenure (c (Told (told.Granted g)) (g.node, refl, subst (λ (z : NodeId). taken z.0 ≡ false) (sym p) f) i) p q e
  act_heard pool heard c n f x x' sends (Gives_back g i p q o k) =
      Gives_back g (c (Told (told.Granted g)) (g.node, refl, subst (λ (z : NodeId). taken z.0 ≡ false) (sym p) f) i) p q o k
  act_heard pool heard c n f x x' sends (Begins wants g r a e all) = Begins wants g r a e all
  act_heard pool heard c n f x x' sends (Finishes wants g r a news store e idle p q s) = Finishes wants g r a news store e idle p q s
  act_heard pool heard c n f x x' sends (Gives_up wants g r a e idle) = Gives_up wants g r a e idle
  act_heard pool heard c n f x x' sends (Sends_commit wants g a news e) = Sends_commit wants g a news e
  act_heard pool heard c n f x x' sends (Learns wants g a news versions i e) =
      Learns wants g a news versions (c (Told (told.Committed n x.life g.ticket versions)) (n, refl, f) i) e
  act_heard pool heard c n f x x' sends (Drops wants g a news i e) = Drops wants g a news (c (Told (told.Fenced n x.life g.ticket)) (n, refl, f) i) e
  act_heard pool heard c n f x x' sends (Is_denied a why wants tenure i e) = Is_denied a why wants tenure (c (Told (told.Denied n x.life a why)) (n, refl, f) i) e
  act_heard pool heard c n f x x' sends (Is_recalled wants g a i e) = Is_recalled wants g a (c (Told (told.Recall n x.life g.ticket)) (n, refl, f) i) e
  act_heard pool heard c n f x x' sends (Is_recalled_running wants g a i e) = Is_recalled_running wants g a (c (Told (told.Recall n x.life g.ticket)) (n, refl, f) i) e
  act_heard pool heard c n f x x' sends (Stores content) = Stores content
  act_heard pool heard c n f x x' sends (Forgets d content e) = Forgets d content e
  act_heard pool heard c n f x x' sends (Asks_content other d) = Asks_content other d
  act_heard pool heard c n f x x' sends (Sends_blob other content) = Sends_blob other content
  act_heard pool heard c n f x x' sends Restarts = Restarts
  act_heard pool heard c n f x x' sends Stops = Stops

  -- what a node sends is under its own key, or under none
  sends_own : (pool : List Message) (n : NodeId) (x x' : Node) (sends : List Message) → Act sha pool n x sends x' → (y : Message) → In y sends → IsSealed taken y → taken n.0 ≡ false
  sends_own pool n x x' sends act y i sealed = elim (act_owns sha pool n x sends x' act y i) [
    | inl k ↦ (let same : n ≡ sealed.0 = some_is n sealed.0 (sym k ∙ sealed.1) in subst (λ (z : NodeId). taken z.0 ≡ false) (sym same) sealed.2)
    | inr k ↦ none_some sealed.0 (sym k ∙ sealed.1)
  ]

  act_shadow : (m : Machine) (pool : List Message) (nodes : ℕ → Node) (n : NodeId) (sends : List Message) (x' : Node) → Act sha pool n (nodes n.0) sends x'
      → Shadow m pool nodes → Shadow m (pool ++ sends) (put n.0 x' nodes)
  act_shadow m pool nodes n sends x' act s = elim (cases_Bool (taken n.0)) [
    | inl t ↦ record {
      heard = s.heard;
      states = s.states;
      inv = s.inv;
      same = λ j f. s.same j f ∙ sym (put_other n.0 x' nodes j (differs n j t f));
      covers = λ y sealed i. elim (in_append y pool sends i) [
        | inl old ↦ s.covers y sealed old
        | inr new ↦ true_false (taken n.0) t (sends_own pool n (nodes n.0) x' sends act y new sealed)
      ];
    }
    | inr f ↦ record {
      heard = s.heard ++ sends;
      states = put n.0 x' s.states;
      inv = act_inv sha (at m s.heard s.states) s.inv n sends x'
          (subst (λ z. Act sha s.heard n z sends x') (sym (s.same n.0 f)) (act_heard pool s.heard s.covers n f (nodes n.0) x' sends act));
      same = λ j h. ap (λ z. if j == n.0 then x' else z) (s.same j h);
      covers = λ y sealed i. elim (in_append y pool sends i) [
        | inl old ↦ in_left y s.heard sends (s.covers y sealed old)
        | inr new ↦ in_right y s.heard sends new
      ];
    }
  ]

  -- ---- what holds of a machine and all that was ever written

  pub record Stand (m : Machine) (pool : List Message) (nodes : ℕ → Node) : Type 0 where
    pub shadow : Shadow m pool nodes
    pub causes : (g : Grant) (y : Ending) → In (Granted g) m.made → m.ending g.ticket.0 ≡ Some y → IsCause pool g y
    pub asked : (g : Grant) → In (Granted g) m.made → WasWanted pool g
    pub here : (g : Grant) → Live m g → m.gone g.node.0 ≡ false
    pub commits : (n : NodeId) → taken n.0 ≡ false → OneNews pool n (nodes n.0)

  -- what stays of a machine
  pub record Since (m m' : Machine) : Type 0 where
    pub later : Later (sha []) m m'
    pub gone : (n : ℕ) → m.gone n ≡ true → m'.gone n ≡ true
    pub ungranted : (g : Grant) → m.gone g.node.0 ≡ true → In (Granted g) m'.made → In (Granted g) m.made

  since_refl : (m : Machine) → Since m m
  since_refl m = record { later = later_refl (sha []) m; gone = λ n e. e; ungranted = λ g e i. i }

  since_trans : (a b c : Machine) → Since a b → Since b c → Since a c
  since_trans a b c p q = record {
    later = later_trans (sha []) a b c p.later q.later;
    gone = λ n e. q.gone n (p.gone n e);
    ungranted = λ g e i. p.ungranted g e (q.ungranted g (p.gone g.node.0 e) i);
  }

  heard_more : (pool sends : List Message) (n : NodeId) (l : Life) → WasHeard pool n l → WasHeard (pool ++ sends) n l
  heard_more pool sends n l h = (h.0, in_left (Said h.0) pool sends h.1, h.2, h.3)

  cause_more : (pool sends : List Message) (g : Grant) (y : Ending) → IsCause pool g y → IsCause (pool ++ sends) g y
  cause_more pool sends g (Committed news) c = (in_left (commit g.node g.life g.ticket news) pool sends c.0, c.1, c.2)
  cause_more pool sends g Released c = in_left (release g.node g.life g.ticket) pool sends c
  cause_more pool sends g Withdrawn c = c
  cause_more pool sends g Died c = (c.0, heard_more pool sends g.node c.0 c.1, c.2)

  cause_of : (pool : List Message) (m : Machine) (g : Grant) (y : Ending) → MayEnd pool m g y → IsCause pool g y
  cause_of pool m g (Committed news) may = may
  cause_of pool m g Released may = may
  cause_of pool m g Withdrawn may = may
  cause_of pool m g Died may = (may.0, may.1, may.2)

  module _ (m : Machine) (pool : List Message) (nodes : ℕ → Node) (s : Stand m pool nodes) where
    sound : Sound (sha []) m
    sound = s.shadow.inv.sound

    -- more is written
    writes : (sends : List Message) (nodes' : ℕ → Node) → Shadow m (pool ++ sends) nodes' → ((n : NodeId) → taken n.0 ≡ false → OneNews (pool ++ sends) n (nodes' n.0)) → Stand m (pool ++ sends) nodes'
    writes sends nodes' shadow commits = record {
      shadow = shadow;
      causes = λ g y i e. cause_more pool sends g y (s.causes g y i e);
      asked = λ g i. (let r = s.asked g i in (r.0, in_left (acquire g.node g.life g.ask r.0 (is_tenure g.kind)) pool sends r.1, r.2));
      here = s.here;
      commits = commits;
    }

    -- nothing that is written is a Commit of an honest node
    quiet_commits : (sends : List Message) → ((n : NodeId) → taken n.0 ≡ false → NoCommit n sends) → (n : NodeId) → taken n.0 ≡ false → OneNews (pool ++ sends) n (nodes n.0)
    quiet_commits sends none n f = quiet_news pool sends n (nodes n.0) (nodes n.0) (s.commits n f) (none n f) (refl, λ place wants g news e. e)

    forge_commits : (x : Message) → (IsSealed taken x → ⊥) → (n : NodeId) → taken n.0 ≡ false → OneNews (pool ++ x ∷ []) n (nodes n.0)
    forge_commits x loose = quiet_commits (x ∷ []) (λ n f l t a i. loose (n, ap key_of (sym (in_one (commit n l t a) x i)), f))

    say_commits : (y : FromCoord) → (n : NodeId) → taken n.0 ≡ false → OneNews (pool ++ Told y ∷ []) n (nodes n.0)
    say_commits y = quiet_commits (Told y ∷ []) (λ n f l t a i. (let e : commit n l t a ≡ Told y = in_one (commit n l t a) (Told y) i in cc))

    -- of an ask that runs no Commit was sent
    fresh_commit : (n : NodeId) → taken n.0 ≡ false → (place : ℕ) (wants : List Want) (g : Grant) (r : Bool) (a : List News) → nth (nodes n.0).asks place ≡ Some (Running wants g r) → In (commit n (nodes n.0).life g.ticket a) pool → ⊥
    fresh_commit n f place wants g r a e i =
        let c : World = at m s.shadow.heard s.shadow.states in
        let inv : Inv sha c = s.shadow.inv in
        let same : s.shadow.states n.0 ≡ nodes n.0 = s.shadow.same n.0 f in
        let running : nth (s.shadow.states n.0).asks place ≡ Some (Running wants g r) = subst (λ (z : Node). nth z.asks place ≡ Some (Running wants g r)) (sym same) e in
        let its = ((inv.nodes n).states place (Running wants g r) running).0 in
        let sent = inv.messages (commit n (nodes n.0).life g.ticket a) (s.shadow.covers (commit n (nodes n.0).life g.ticket a) (n, refl, f) i) in
        let is : sent.0 ≡ g = same_grant (sha []) m inv.sound sent.0 g sent.1.0 its.0 (ap (λ (t : Ticket). t.0) sent.1.1) in
        in_use_unspent sha c inv n g wants (place, r, running) (subst (Spent (s.shadow.states n.0)) is sent.4)

    act_commits : (n : NodeId) (sends : List Message) (x' : Node) → Act sha pool n (nodes n.0) sends x' → (j : NodeId) → taken j.0 ≡ false → OneNews (pool ++ sends) j (put n.0 x' nodes j.0)
    act_commits n sends x' act j f = elim (cases_eq j.0 n.0) [
      | inl e ↦ (let is : j ≡ n = node_is j n e in
          let f' : taken n.0 ≡ false = subst (λ z. taken z ≡ false) e f in
          let same : s.shadow.states n.0 ≡ nodes n.0 = s.shadow.same n.0 f' in
          let ok : NodeOk sha m n (nodes n.0) = subst (NodeOk sha m n) same (s.shadow.inv.nodes n) in
          let one : OneNews (pool ++ sends) n x' = act_news sha m sound n (nodes n.0) ok pool sends x' (fresh_commit n f') (s.commits n f') act in
          subst (λ (z : NodeId). OneNews (pool ++ sends) z (put n.0 x' nodes z.0)) (sym is) (subst (OneNews (pool ++ sends) n) (sym (put_same n.0 x' nodes)) one))
      | inr ne ↦ subst (OneNews (pool ++ sends) j) (sym (put_other n.0 x' nodes j.0 ne))
          (quiet_news pool sends j (nodes j.0) (nodes j.0) (s.commits j f) (λ l t a i. elim (act_owns sha pool n (nodes n.0) sends x' act (commit j l t a) i) [
            | inl k ↦ ne (ap (λ (z : NodeId). z.0) (some_is j n k))
            | inr k ↦ none_some j (sym k)
          ]) (refl, λ place wants g news e. e))
    ]

    step_causes : (m' : Machine) → Step (sha []) pool m m' → (g : Grant) (y : Ending) → In (Granted g) m'.made → m'.ending g.ticket.0 ≡ Some y → IsCause pool g y
    step_causes m' (Grants h wants asked answers here alone home newer free) g y (inl p) e =
        (let same : g.ticket.0 ≡ h.ticket.0 = ap ticket_of p in
        let bad : Some y ≡ None = sym e ∙ ap m.ending same ∙ fresh (sha []) m sound h.ticket.0 newer in cc)
    step_causes m' (Grants h wants asked answers here alone home newer free) g y (inr i) e = s.causes g y i e
    step_causes m' (Ends h z live may) g y i e = elim (cases_eq g.ticket.0 h.ticket.0) [
      | inl q ↦ (let is : Some y ≡ Some z = sym e ∙ ap (put h.ticket.0 (Some z) m.ending) q ∙ put_same h.ticket.0 (Some z) m.ending in
          let yz : z ≡ y = cc in
          let same : h ≡ g = same_grant (sha []) m sound h g live.0 i (sym q) in
          subst (λ k. IsCause pool k y) same (subst (IsCause pool h) yz (cause_of pool m h z may)))
      | inr ne ↦ s.causes g y i (sym (put_other h.ticket.0 (Some z) m.ending g.ticket.0 ne) ∙ e)
    ]
    step_causes m' (Prunes t p newer idle some) g y (inl q) e = cc
    step_causes m' (Prunes t p newer idle some) g y (inr i) e = s.causes g y i e
    step_causes m' (Sees n l heard here newer none quiet) g y i e = s.causes g y i e
    step_causes m' (Retires n here home none quiet) g y i e = s.causes g y i e
    step_causes m' (Parks p sent none) g y i e = s.causes g y i e
    step_causes m' (Unparks ps part) g y i e = s.causes g y i e
    step_causes m' (Raises t le) g y i e = s.causes g y i e

    step_asked : (m' : Machine) → Step (sha []) pool m m' → (g : Grant) → In (Granted g) m'.made → WasWanted pool g
    step_asked m' (Grants h wants asked answers here alone home newer free) g (inl p) = (let same : h ≡ g = cc in subst (WasWanted pool) same (wants, asked, answers))
    step_asked m' (Grants h wants asked answers here alone home newer free) g (inr i) = s.asked g i
    step_asked m' (Ends h z live may) g i = s.asked g i
    step_asked m' (Prunes t p newer idle some) g (inl q) = cc
    step_asked m' (Prunes t p newer idle some) g (inr i) = s.asked g i
    step_asked m' (Sees n l heard here newer none quiet) g i = s.asked g i
    step_asked m' (Retires n here home none quiet) g i = s.asked g i
    step_asked m' (Parks p sent none) g i = s.asked g i
    step_asked m' (Unparks ps part) g i = s.asked g i
    step_asked m' (Raises t le) g i = s.asked g i

    -- a live grant of the machine after the step is one of before, or new
    step_here : (m' : Machine) → Step (sha []) pool m m' → (g : Grant) → Live m' g → m'.gone g.node.0 ≡ false
    step_here m' (Grants h wants asked answers here alone home newer free) g l = elim l.0 [
      | inl p ↦ (let same : h ≡ g = cc in subst (λ (z : Grant). m.gone z.node.0 ≡ false) same here)
      | inr i ↦ s.here g (i, l.1)
    ]
    step_here m' (Ends h z live may) g l = elim (cases_eq g.ticket.0 h.ticket.0) [
      | inl q ↦ (let bad : Some z ≡ None = sym (put_same h.ticket.0 (Some z) m.ending) ∙ ap (put h.ticket.0 (Some z) m.ending) (sym q) ∙ l.1 in cc)
      | inr ne ↦ s.here g (l.0, sym (put_other h.ticket.0 (Some z) m.ending g.ticket.0 ne) ∙ l.1)
    ]
    step_here m' (Prunes t p newer idle some) g l = elim l.0 [ inl q ↦ (let bad : Granted g ≡ Pruned t p = q in cc) | inr i ↦ s.here g (i, l.1) ]
    step_here m' (Sees n k heard here newer none quiet) g l = s.here g l
    step_here m' (Retires n here home none quiet) g l = put_other n.0 true m.gone g.node.0 (λ e. none g l (node_is g.node n e)) ∙ s.here g l
    step_here m' (Parks p sent none) g l = s.here g l
    step_here m' (Unparks ps part) g l = s.here g l
    step_here m' (Raises t le) g l = s.here g l

    step_stand : (m' : Machine) → Step (sha []) pool m m' → Stand m' pool nodes
    step_stand m' step = record {
      shadow = step_shadow m pool nodes m' step s.shadow;
      causes = step_causes m' step;
      asked = step_asked m' step;
      here = step_here m' step;
      commits = s.commits;
    }

    step_gone : (m' : Machine) → Step (sha []) pool m m' → (n : ℕ) → m.gone n ≡ true → m'.gone n ≡ true
    step_gone m' (Grants h wants asked answers here alone home newer free) n e = e
    step_gone m' (Ends h z live may) n e = e
    step_gone m' (Prunes t p newer idle some) n e = e
    step_gone m' (Sees k l heard here newer none quiet) n e = e
    step_gone m' (Retires k here home none quiet) n e = elim (cases_eq n k.0) [
      | inl q ↦ ap (put k.0 true m.gone) q ∙ put_same k.0 true m.gone
      | inr ne ↦ put_other k.0 true m.gone n ne ∙ e
    ]
    step_gone m' (Parks p sent none) n e = e
    step_gone m' (Unparks ps part) n e = e
    step_gone m' (Raises t le) n e = e

    step_ungranted : (m' : Machine) → Step (sha []) pool m m' → (g : Grant) → m.gone g.node.0 ≡ true → In (Granted g) m'.made → In (Granted g) m.made
    step_ungranted m' (Grants h wants asked answers here alone home newer free) g e (inl p) =
        (let same : g ≡ h = cc in true_false (m.gone g.node.0) e (subst (λ (z : Grant). m.gone z.node.0 ≡ false) (sym same) here))
    step_ungranted m' (Grants h wants asked answers here alone home newer free) g e (inr i) = i
    step_ungranted m' (Ends h z live may) g e i = i
    step_ungranted m' (Prunes t p newer idle some) g e (inl q) = cc
    step_ungranted m' (Prunes t p newer idle some) g e (inr i) = i
    step_ungranted m' (Sees k l heard here newer none quiet) g e i = i
    step_ungranted m' (Retires k here home none quiet) g e i = i
    step_ungranted m' (Parks p sent none) g e i = i
    step_ungranted m' (Unparks ps part) g e i = i
    step_ungranted m' (Raises t le) g e i = i

    step_since : (m' : Machine) → Step (sha []) pool m m' → Since m m'
    step_since m' step = record {
      later = (step_sound (sha []) pool m m' sound step).0;
      gone = step_gone m' step;
      ungranted = step_ungranted m' step;
    }

  steps_stand : (pool : List Message) (nodes : ℕ → Node) (a b : Machine) → Stand a pool nodes → Steps (sha []) pool a b → Stand b pool nodes × Since a b
  steps_stand pool nodes a b s (No_step m) = (s, since_refl a)
  steps_stand pool nodes a b s (One_more k l o steps step) =
      let before = steps_stand pool nodes a l s steps in
      (step_stand l pool nodes before.0 b step, since_trans a l b before.1 (step_since l pool nodes before.0 b step))

  -- of a world whose coordinator may be down
  pub record Raided (w : World) : Type 0 where
    pub now : Stand w.machine w.pool w.nodes
    pub kept : (m : Machine) → w.down ≡ Some m → Stand m w.pool w.nodes × Since w.machine m

  -- a coordinator that is up keeps nothing else
  up_keeps : (w : World) → w.down ≡ None → (m : Machine) → w.down ≡ Some m → Stand m w.pool w.nodes × Since w.machine m
  up_keeps w up m e = none_some m (sym up ∙ e)

  turn_stand : (m : Machine) (pool : List Message) (nodes : ℕ → Node) (n : NodeId) (x : Node) → taken n.0 ≡ true → Stand m pool nodes → Stand m pool (put n.0 x nodes)
  turn_stand m pool nodes n x t s = record { shadow = turn_shadow m pool nodes n x t s.shadow; causes = s.causes; asked = s.asked; here = s.here; commits = λ j f. subst (OneNews pool j) (sym (put_other n.0 x nodes j.0 (differs n j.0 t f))) (s.commits j f) }

  move_raided : (w u : World) → Raided w → Move sha w u → Raided u × Since w.machine u.machine
  move_raided w u r (Node_moves n sends x act) = (
    record {
      now = writes w.machine w.pool w.nodes r.now sends (put n.0 x w.nodes) (act_shadow w.machine w.pool w.nodes n sends x act r.now.shadow) (act_commits w.machine w.pool w.nodes r.now n sends x act);
      kept = λ m e. (let k = r.kept m e in (writes m w.pool w.nodes k.0 sends (put n.0 x w.nodes) (act_shadow m w.pool w.nodes n sends x act k.0.shadow) (act_commits m w.pool w.nodes k.0 n sends x act), k.1));
    },
    since_refl w.machine,
  )
  move_raided w u r (Machine_moves m up step) = (
    record {
      now = step_stand w.machine w.pool w.nodes r.now m step;
      kept = up_keeps (record w { machine = m }) up;
    },
    step_since w.machine w.pool w.nodes r.now m step,
  )
  move_raided w u r (Machine_says y up says) = (
    record {
      now = writes w.machine w.pool w.nodes r.now (Told y ∷ []) w.nodes (say_shadow w.machine w.pool w.nodes y says r.now.shadow) (say_commits w.machine w.pool w.nodes r.now y);
      kept = up_keeps (record w { pool = w.pool ++ Told y ∷ [] }) up;
    },
    since_refl w.machine,
  )
  move_raided w u r (Fails m up steps) = (
    record {
      now = r.now;
      kept = λ k e. (let q : m ≡ k = some_is m k e in subst (λ z. Stand z w.pool w.nodes × Since w.machine z) q (steps_stand w.pool w.nodes w.machine m r.now steps));
    },
    since_refl w.machine,
  )
  move_raided w u r (Recovers m e) =
      (let k = r.kept m e in (
        record { now = k.0; kept = λ z p. none_some z p },
        k.1,
      ))

  raid_raided : (w u : World) → Raided w → Raid taken sha w u → Raided u × Since w.machine u.machine
  raid_raided w u r (Plays v move) = move_raided w u r move
  raid_raided w u r (Forges x loose) = (
    record {
      now = writes w.machine w.pool w.nodes r.now (x ∷ []) w.nodes (forge_shadow w.machine w.pool w.nodes x loose r.now.shadow) (forge_commits w.machine w.pool w.nodes r.now x loose);
      kept = λ m e. (let k = r.kept m e in (writes m w.pool w.nodes k.0 (x ∷ []) w.nodes (forge_shadow m w.pool w.nodes x loose k.0.shadow) (forge_commits m w.pool w.nodes k.0 x loose), k.1));
    },
    since_refl w.machine,
  )
  raid_raided w u r (Turns n x t) = (
    record {
      now = turn_stand w.machine w.pool w.nodes n x t r.now;
      kept = λ m e. (let k = r.kept m e in (turn_stand m w.pool w.nodes n x t k.0, k.1));
    },
    since_refl w.machine,
  )

  pub raids_raided : (w u : World) → Raided w → Raids taken sha w u → Raided u × Since w.machine u.machine
  raids_raided w u r (Calm v) = (r, since_refl w.machine)
  raids_raided w u r (After a v b raids raid) =
      let before = raids_raided w v r raids in
      let after = raid_raided v u before.0 raid in
      (after.0, since_trans w.machine v.machine u.machine before.1 after.1)

  pub start_raided : Raided (start sha)
  start_raided = record {
    now = record {
      shadow = record { heard = []; states = (start sha).nodes; inv = start_inv sha; same = λ j f. refl; covers = λ x sealed i. absurd i };
      causes = λ g y i e. absurd i;
      asked = λ g i. absurd i;
      here = λ g l. absurd l.0;
      commits = λ n f. record { pair = λ l t a b i j. absurd i; last = λ place wants g news a e i. absurd i };
    };
    kept = λ m e. none_some m e;
  }

  -- ---- what follows

  module _ (w : World) (s : Stand w.machine w.pool w.nodes) where
    abbrev calm : World
    calm = at w.machine s.shadow.heard s.shadow.states

    its_inv : Inv sha calm
    its_inv = s.shadow.inv

    its_safe : Safe sha calm
    its_safe = safe sha calm its_inv

    in_use : (n : NodeId) (g : Grant) (ws : List Want) → taken n.0 ≡ false → InUse w n g ws → InUse calm n g ws
    in_use n g ws f u = (u.0, u.1, subst (λ (z : Node). nth z.asks u.0 ≡ Some (Running ws g u.1)) (sym (s.shadow.same n.0 f)) u.2)

    from_calm : (n : NodeId) (g : Grant) (ws : List Want) → taken n.0 ≡ false → InUse calm n g ws → InUse w n g ws
    from_calm n g ws f u = (u.0, u.1, subst (λ (z : Node). nth z.asks u.0 ≡ Some (Running ws g u.1)) (s.shadow.same n.0 f) u.2)

    -- where a version comes from
    of_grant : (p : Slot) (v : LineVersion) (g : Grant) → In (Granted g) w.machine.made → (o : Option Ending) → w.machine.ending g.ticket.0 ≡ o → In v (version_at p g.ticket o)
        → IsOf (sha []) w.pool w.machine p v
    of_grant p v g made None e i = absurd i
    of_grant p v g made (Some (Committed news)) e i = elim (cases_option (digest_for p news)) [
      | inl none ↦ absurd (subst (λ o. In v (version_of g.ticket o)) none i)
      | inr d ↦ (let is : v ≡ record { ticket = g.ticket; digest = d.0 } = in_one v (record { ticket = g.ticket; digest = d.0 }) (subst (λ o. In v (version_of g.ticket o)) d.1 i) in
          let c = s.causes g (Committed news) made e in
          Of_commit g news made (sym (ap (λ (z : LineVersion). z.ticket) is)) c.0 (d.1 ∙ ap (λ z. Some z) (sym (ap (λ (z : LineVersion). z.digest) is))) (subst (In p) c.1 (digest_in p news d.0 d.1)))
    ]
    of_grant p v g made (Some Released) e i = absurd i
    of_grant p v g made (Some Withdrawn) e i = absurd i
    of_grant p v g made (Some Died) e i = absurd i

    of_made : (p : Slot) (v : LineVersion) (x : Made) → In x w.machine.made → In v (added (sha []) p w.machine.ending x) → IsOf (sha []) w.pool w.machine p v
    of_made p v (Granted g) made i = of_grant p v g made (w.machine.ending g.ticket.0) refl i
    of_made p v (Pruned t q) made i = elim (cases_Bool (slot_eq q p)) [
      | inl same ↦ (let one : In v (record { ticket = t; digest = sha [] } ∷ []) = rw same at i in
          let is : v ≡ record { ticket = t; digest = sha [] } = in_one v (record { ticket = t; digest = sha [] }) one in
          let here : In (Pruned v.ticket p) w.machine.made =
          subst (λ z. In (Pruned z p) w.machine.made) (sym (ap (λ (z : LineVersion). z.ticket) is)) (subst (λ z. In (Pruned t z) w.machine.made) (slot_eq_is q p same) made) in
          Of_prune here (ap (λ (z : LineVersion). z.digest) is))
      | inr other ↦ (let none : In v [] = rw other at i in absurd none)
    ]

    versions : (p : Slot) (v : LineVersion) → In v (line (sha []) w.machine p) → IsOf (sha []) w.pool w.machine p v
    versions p v i = (let r = line_source (sha []) p w.machine.ending v w.machine.made i in of_made p v r.0 r.1 r.2)

    instances : (g g' : Grant) (p : Slot) → In (Granted g) w.machine.made → In (Granted g') w.machine.made → w.machine.ending g.ticket.0 ≡ Some Withdrawn
        → is_private p.folder.mode ≡ true → Has g p → Has g' p → g'.ticket.0 ≤ g.ticket.0
    instances g g' p i i' e private k k' = elim (cases_order g.ticket.0 g'.ticket.0) [
      | inl same ↦ omega arith
      | inr o ↦ elim o [
        | inl lt ↦ (let gone = older_gone (sha []) w.machine its_inv.sound g g' p i i' lt k k' in
            let is : Some gone.0 ≡ Some Withdrawn = sym gone.1 ∙ e in
            let alone : is_alone p ≡ true = rw private refl in
            absurd (gone.2 refl alone (some_is gone.0 Withdrawn is)))
        | inr gt ↦ omega arith
      ]
    ]

    safe_among : SafeAmong taken sha w
    safe_among = record {
      tickets = its_safe.tickets;
      rising = its_safe.rising;
      versions = versions;
      one_commit = λ n l t a b f i j. (s.commits n f).pair l t a b i j;
      bases = its_safe.bases;
      asked = s.asked;
      causes = s.causes;
      one_lease = λ g g' p l l' k k'. live_apart (sha []) w.machine its_inv.sound g g' p l l' k k';
      instances = instances;
      withdrawn = its_safe.withdrawn;
      retired = s.here;
      granted = λ g u f i k. its_safe.granted g u (s.shadow.covers (Told (told.Granted g)) (g.node, refl, f) i) k;
      confirmed = λ n l t vs v f i k. its_safe.confirmed n l t vs v (s.shadow.covers (Told (told.Committed n l t vs)) (n, refl, f) i) k;
      unconfirmed = λ n l t vs f h i. its_safe.unconfirmed n l t vs h (s.shadow.covers (Told (told.Committed n l t vs)) (n, refl, f) i);
      fenced = λ n l t f i h. its_safe.fenced n l t (s.shadow.covers (Told (told.Fenced n l t)) (n, refl, f) i) h;
      alone = λ n n' g g' ws ws' p f f' u u' k k' h. its_safe.alone n n' g g' ws ws' p (in_use n g ws f u) (in_use n' g' ws' f' u') k k' h;
      one_live = λ n n' g g' ws ws' p f f' u u' k k' l l'. its_safe.one_live n n' g g' ws ws' p (in_use n g ws f u) (in_use n' g' ws' f' u') k k' l l';
      at_home = λ n g ws v f u i shared. (let r = its_safe.at_home n g ws v (in_use n g ws f u) i shared in (r.0, r.1, from_calm n r.0 r.1 f r.2, r.3, r.4));
    }

  module _ (w u : World) (s : Stand w.machine w.pool w.nodes) (t : Stand u.machine u.pool u.nodes) (on : Since w.machine u.machine) where
    -- what an honest node knows and holds in one world, by the line of the later one
    held_same : (n n' : NodeId) (p : Slot) (k : ℕ) (c c' : List ℕ) → taken n.0 ≡ false → taken n'.0 ≡ false → HoldsContent (w.nodes n.0) p k c → HoldsContent (u.nodes n'.0) p k c' → sha c ≡ sha c'
    held_same n n' p k c c' f f' h h' =
        let known : (s.shadow.states n.0).known p k ≡ Some h.0 = subst (λ (z : Node). z.known p k ≡ Some h.0) (sym (s.shadow.same n.0 f)) h.1 in
        let stored : (s.shadow.states n.0).store h.0 ≡ Some c = subst (λ (z : Node). z.store h.0 ≡ Some c) (sym (s.shadow.same n.0 f)) h.2 in
        let known' : (t.shadow.states n'.0).known p k ≡ Some h'.0 = subst (λ (z : Node). z.known p k ≡ Some h'.0) (sym (t.shadow.same n'.0 f')) h'.1 in
        let stored' : (t.shadow.states n'.0).store h'.0 ≡ Some c' = subst (λ (z : Node). z.store h'.0 ≡ Some c') (sym (t.shadow.same n'.0 f')) h'.2 in
        let ok = s.shadow.inv.nodes n in
        let ok' = t.shadow.inv.nodes n' in
        let named : Names (sha []) (line (sha []) u.machine p) k h.0 = names_later (sha []) (line (sha []) w.machine p) (line (sha []) u.machine p) k h.0 (on.later.lines p) (ok.known p k h.0 known) in
        let named' : Names (sha []) (line (sha []) u.machine p) k h'.0 = ok'.known p k h'.0 known' in
        ok.stored h.0 c stored ∙ one_digest (sha []) (line (sha []) u.machine p) k h.0 h'.0 named named' ∙ sym (ok'.stored h'.0 c' stored')

    -- of a retired node no line gets a version
    silent : (g : Grant) (p : Slot) (v : LineVersion) → w.machine.gone g.node.0 ≡ true → In (Granted g) u.machine.made → In v (line (sha []) u.machine p) → v.ticket ≡ g.ticket → In v (line (sha []) w.machine p)
    silent g p v gone i k e =
        let made : In (Granted g) w.machine.made = on.ungranted g gone i in
        let r = line_source (sha []) p u.machine.ending v u.machine.made k in
        let at : ticket_of r.0 ≡ g.ticket.0 = sym (added_ticket (sha []) p u.machine.ending r.0 v r.2) ∙ ap (λ (z : Ticket). z.0) e in
        let is : r.0 ≡ Granted g = one_made u.machine.made (u.machine.last + 1) r.0 (Granted g) t.shadow.inv.sound.order r.1 i at in
        let here : In v (version_at p g.ticket (u.machine.ending g.ticket.0)) = subst (λ z. In v (added (sha []) p u.machine.ending z)) is r.2 in
        elim (cases_option (w.machine.ending g.ticket.0)) [
          | inl none ↦ true_false (w.machine.gone g.node.0) gone (s.here g (made, none))
          | inr y ↦ (let same : u.machine.ending g.ticket.0 ≡ w.machine.ending g.ticket.0 = on.later.ending g.ticket.0 y.0 y.1 ∙ sym y.1 in
              in_made_line sha (calm w s) (its_inv w s) p v (Granted g) w.machine.made made (subst (λ o. In v (version_at p g.ticket o)) same here))
        ]

    safe_since : SafeAmongSince taken sha w u
    safe_since = record {
      lines = on.later.lines;
      last = on.later.last;
      contents = λ n n' p k c c' f f' h h'. elim (cases_list c c') [
        | inl e ↦ inl e
        | inr ne ↦ inr (ne, held_same n n' p k c c' f f' h h')
      ];
      gone = λ n e. on.gone n.0 e;
      ungranted = on.ungranted;
      silent = silent;
    }

pub every_raid_is_safe : EveryRaidIsSafe
every_raid_is_safe taken sha w raids = safe_among taken sha w (raids_raided taken sha (start sha) w (start_raided taken sha) raids).0.now

pub every_raid_stays_safe : EveryRaidStaysSafe
every_raid_stays_safe taken sha w u raids more =
    let before = raids_raided taken sha (start sha) w (start_raided taken sha) raids in
    let after = raids_raided taken sha w u before.0 more in
    safe_since taken sha w u before.0.now after.0.now after.1
