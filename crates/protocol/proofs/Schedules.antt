-- Each event of the replay is a list of moves of the world, and so every schedule is safe.
use Rattle.std.proofs.Common.{◌≡◌, ◌≢◌, ℕ, zero, suc, ◌+◌, ◌<◌, ◌≤◌, ◌⊎◌, List, [], ◌∷◌, ◌++◌, Bool, true, false, not, ◌&&◌, eqb, length, map, Option, Some, None, Result, Ok, Err, refl, sym, ◌∙◌, ap, subst, inl, inr, arith, append-nil, append_assoc}
use Rattle.std.proofs.lemmas.Bool.{cases_eq, cases_Bool, and_parts, not-true, eqb-true}
use Rattle.farm_base.specs.Kinds.{is_tenure}
use Rattle.protocol.specs.Lists.{In, put, nth}
use Rattle.protocol.specs.Names.{Shared, FolderName, only_slot, leased_wants, tenure_wants, Slot, NodeId, Life, Ask, Ticket, Digest, Want}
use Rattle.farm_base.specs.declared.message.Why.{Why}
use Rattle.protocol.specs.Machine.{Parked, HasPart, Grant, Granted, ticket_of, Message, Said, Told, Fetches, Blob, ToCoord, FromCoord, acquire, commit, release, Machine, WasHeard, Has, Live, line, MayEnd, Ending, Committed, Released, Withdrawn, Died, Step, Steps, No_step, Grants, Ends, Prunes, Sees, Retires, Parks, Unparks, Raises, Says, Says_granted, Says_committed, Says_fenced, Says_denied, Says_recall}
use Rattle.farm_base.specs.declared.message.Message.TheVariants as to
use Rattle.farm_base.specs.declared.message.ToNode.TheVariants as to_node
use Rattle.protocol.specs.Ledger.{Limits, Ledger, Work, begin_work, grant_of, handled, withdrawn, retired, pruned, nudged, lease_under, has_ticket, has_slot, holds_wanted, is_awaited, is_parked, another, is_its, Lease, is_saved, Saved, saves, reads}
use Rattle.protocol.specs.World.{Running, World, Node, Move, Machine_moves, Machine_says, Fails, Recovers, Moves, Still, Then, start}
use Rattle.protocol.specs.Nodes.{NodeWork, NodeAnswer, Place, asked, asked_tenure, begun, finished_with, aborted, forgotten, resent, restarted, may_restart, heard, fetched, brought, unless_spent}
use Rattle.protocol.specs.Replay.{Event, Tenure, Deliver, Begin, Finish, Abort, Resend, Nudge, Withdraw, Prune, Retire, RestartNode, RestartCoordinator, Forge, Forget, FailSave, Farm, Turn, opening, refused, first_sent, done, after_work, settled, settles, coordinated, is_node, moved, answered, at_node, node_does, restarts, told_to, delivered, step, run}
use Rattle.protocol.specs.Replay as replay
use Rattle.events.specs.declared.answer.Kept.{Kept}
use Rattle.events.specs.declared.answer.Kept.TheVariants.{Old, New}
use Rattle.events.specs.declared.answer.CoordRefusal.{CoordRefusal}
use Rattle.events.specs.declared.answer.CoordRefusal.TheVariants as coord
use Rattle.events.specs.declared.answer.CoordNote.{CoordNote}
use Rattle.events.specs.declared.answer.CoordNote.TheVariants as coord_note
use Rattle.events.specs.declared.answer.NodeNote.{NodeNote}
use Rattle.events.specs.declared.answer.NodeNote.TheVariants as node_note
use Rattle.events.specs.declared.answer.EventNote.{EventNote}
use Rattle.events.specs.declared.answer.EventNote.TheVariants as event_note
use Rattle.events.specs.declared.answer.EventRefusal.{EventRefusal}
use Rattle.events.specs.declared.answer.EventRefusal.TheVariants as refusal
use Rattle.protocol.specs.Safe.{InUse}
use Rattle.protocol.specs.Meaning.{heard_lives, Ended, MessageEnds, WithdrawEnds, RetireEnds, RestartEnds, NoEnds, EndsAt, recorded, Finds, message_adds, message_lives, lives_at, IsAnswered, DropsAt, adds, BeginsAt, StopsAt, Used, CoordMeans, Meant, Asks, MessageMeans, CoordDid, Again, Carried, addressee, node_at, heard_at, NodeMeans, Hears, Did, takes_slot, IsAwaited, Recalls, FewTickets, IsDenied, HasLowest, PassesOverNone, KeepsOrder, IsDue, IsCommit, Replies, first_number, Survives, Unchanged, Means}
use Rattle.protocol.specs.Reasons.{CallBecause, message_decision, decision_at, IsThere, Reaches, CoordBecause, NodeBecause, Because, Fair}
use Rattle.farm_base.specs.declared.message.Request.{Request}
use Rattle.farm_base.specs.declared.message.Request.TheVariants as request
use Rattle.std.specs.List.{list_any}
use Rattle.events.specs.declared.answer.NodeRefusal.{NodeRefusal}
use Rattle.events.specs.declared.answer.NodeRefusal.TheVariants as node_refusal
use Rattle.protocol.proofs.Meanings.{none_ended, ended_as}
use Rattle.protocol.proofs.Deciding.{apart_of}
use Rattle.protocol.proofs.Deciding as deciding
use Rattle.protocol.proofs.Saying.{Grew}
use Rattle.protocol.proofs.Leases.{core_of, grant-lease, lease_has, has_lease, find_none, find_some, find_in}
use Rattle.protocol.proofs.Using.{Runs, Turned, NoGrant, Quiet, OneEach, one_each, OnNode, Begun, Stops, Aborts, asked_use, tenure_use, begun_use, finished_use, aborted_use, resent_use, heard_use, fetched_use, brought_use, forgotten_use}
use Rattle.std.specs.Prelude.{⊤, nat_lt, nat_le}
use Rattle.std.proofs.lemmas.Bool.Decides.{nat_tests}
use Rattle.protocol.specs.Follows.{lease_from, Agrees, Works, Begins_work, Goes_on, Speaks, Follows, SavedAgrees, Shows, IsFarm, SafeAfter, SafeBetween, EveryScheduleIsSafe, EveryScheduleStaysSafe, EveryEventIsMoves, FollowsOk, EveryDecision, EveryDecisionFollows}
use Rattle.protocol.proofs.Base.{any_in, from_any, in_one, eqb_same, true_false, none_some, some_is, in_left, put_same, put_other, nth_in, node_is, in_map, from_map, from_filter}
use Rattle.farm_base.specs.declared.message.FromCoord.TheVariants as message
use Rattle.protocol.proofs.Steps.{Sound, same_grant, live_apart, made_below}
use Rattle.protocol.proofs.Saving.{Apart, SavesOk, saved_twice, handled_saves, withdrawn_saves, retired_saves, pruned_saves, nudged_saves}
use Rattle.protocol.proofs.Invariant.{Inv}
use Rattle.protocol.proofs.Worlds.{moves_inv, start_whole}
use Rattle.protocol.proofs.Safety.{every_run_is_safe, every_run_stays_safe}
use Rattle.protocol.proofs.Following.{Sent, works_above, works_sound, works_made, works_steps, part_refl, part_none}
use Rattle.protocol.proofs.Others as others
use Rattle.protocol.proofs.Saying as saying
use Rattle.protocol.proofs.Denials as denials
use Rattle.protocol.proofs.Changing as changing
use Rattle.protocol.proofs.Recalling as recalling
use Rattle.protocol.proofs.Owning as owning
use Rattle.protocol.proofs.Fitting as fitting
use Rattle.protocol.proofs.Fitting.{AllFit, FitGrant, WorldFits, leases_fit}
use Rattle.protocol.proofs.Ordering as ordering
use Rattle.protocol.proofs.Replying as replying
use Rattle.protocol.proofs.Wanting as wanting
use Rattle.protocol.proofs.Noting as noting
use Rattle.protocol.proofs.LastLives.{why_no_restart}
use Rattle.protocol.proofs.Moving.{NoneTold, Reached, OnAnswer, asked_does, tenure_does, begun_does, finished_does, aborted_does, resent_does, restarted_does, stops_does, spent_does, fetched_does, brought_does, heard_does, forgotten_does}

-- ---- more messages leave what was so

heard_more : (pool more : List Message) (n : NodeId) (l : Life) → WasHeard pool n l → WasHeard (pool ++ more) n l
heard_more pool more n l h = (h.0, in_left (Said h.0) pool more h.1, h.2, h.3)

end_more : (pool more : List Message) (m : Machine) (g : Grant) (y : Ending) → MayEnd pool m g y → MayEnd (pool ++ more) m g y
end_more pool more m g (Committed news) h = (in_left (commit g.node g.life g.ticket news) pool more h.0, h.1, h.2)
end_more pool more m g Released h = in_left (release g.node g.life g.ticket) pool more h
end_more pool more m g Withdrawn h = h
end_more pool more m g Died h = (h.0, heard_more pool more g.node h.0 h.1, h.2, h.3)

step_more : (empty : Digest) (pool more : List Message) (m m' : Machine) → Step empty pool m m' → Step empty (pool ++ more) m m'
step_more empty pool more m m' (Grants g wants asked answers here alone home newer free) = Grants g wants (in_left (acquire g.node g.life g.ask wants (is_tenure g.kind)) pool more asked) answers here alone home newer free
step_more empty pool more m m' (Ends g y live may) = Ends g y live (end_more pool more m g y may)
step_more empty pool more m m' (Prunes t s newer idle some) = Prunes t s newer idle some
step_more empty pool more m m' (Sees n l heard here newer none quiet) = Sees n l (heard_more pool more n l heard) here newer none quiet
step_more empty pool more m m' (Retires n here home none quiet) = Retires n here home none quiet
step_more empty pool more m m' (Parks p sent none) = Parks p (in_left (acquire p.node p.life p.ask p.wants p.tenure) pool more sent) none
step_more empty pool more m m' (Unparks ps part) = Unparks ps part
step_more empty pool more m m' (Raises t le) = Raises t le

says_more : (empty : Digest) (pool more : List Message) (m : Machine) (y : FromCoord) → Says empty pool m y → Says empty (pool ++ more) m y
says_more empty pool more m y (Says_granted g live) = Says_granted g live
says_more empty pool more m y (Says_committed n l t news versions i all some) = Says_committed n l t news versions (in_left (commit n l t news) pool more i) all some
says_more empty pool more m y (Says_fenced n l t news i refused off) = Says_fenced n l t news (in_left (commit n l t news) pool more i) refused off
says_more empty pool more m y (Says_denied n l a why wants tenure i) = Says_denied n l a why wants tenure (in_left (acquire n l a wants tenure) pool more i)
says_more empty pool more m y (Says_recall g live tenure) = Says_recall g live tenure

pub agrees_more : (empty : Digest) (pool more : List Message) (m : Machine) (q : Ledger) → Agrees empty pool m q → Agrees empty (pool ++ more) m q
agrees_more empty pool more m q a = record {
  live_made = a.live_made;
  live_kept = a.live_kept;
  retired_made = a.retired_made;
  retired_kept = a.retired_kept;
  lines = a.lines;
  last = a.last;
  ceiling = a.ceiling;
  block = a.block;
  seen = a.seen;
  old_home = a.old_home;
  gone = a.gone;
  lives = a.lives;
  parked = a.parked;
  asked = λ p i. (let r = a.asked p i in (in_left (acquire p.node p.life p.ask p.wants p.tenure) pool more r.0, r.1, r.2));
  waits = a.waits;
}

saved_more : (empty : Digest) (pool more : List Message) (d : Option Machine) (s : Farm) → SavedAgrees empty pool d s → SavedAgrees empty (pool ++ more) d s
saved_more empty pool more None s h = h
saved_more empty pool more (Some m) s (down, (q, agrees, same)) = (down, (q, agrees_more empty pool more m q agrees, same))

-- of another farm with the same ledger and record
saved_as : (empty : Digest) (pool : List Message) (d : Option Machine) (s t : Farm) → t.down ≡ s.down → t.saved ≡ s.saved → t.ledger ≡ s.ledger → SavedAgrees empty pool d s → SavedAgrees empty pool d t
saved_as empty pool None s t down saved ledger h = (down ∙ h.0, saved ∙ h.1 ∙ ap saves (sym ledger))
saved_as empty pool (Some m) s t down saved ledger (is_down, (q, agrees, same)) = (down ∙ is_down, (q, agrees, saved ∙ same))

map-push : (xs : List FromCoord) (y : FromCoord) → map Told (xs ++ y ∷ []) ≡ map Told xs ++ Told y ∷ []
map-push [] y = refl
map-push (x ∷ xs) y = (let r = map-push xs y in λ i. Told x ∷ r i)

-- work is moves of the machine, and what it says
pub works_moves : (sha : List ℕ → Digest) (u : World) (m : Machine) (sends : List FromCoord) → u.down ≡ None → Works (sha []) u.pool u.machine m sends → Moves sha u (record u { machine = m; pool = u.pool ++ map Told sends })
works_moves sha u m sends up Begins_work = subst (λ p. Moves sha u (record u { pool = p })) (sym (append-nil u.pool)) (Still u)
works_moves sha u m sends up (Goes_on a b ss works step) =
    let before = works_moves sha u a ss up works in
    Then u (record u { machine = a; pool = u.pool ++ map Told ss }) (record u { machine = m; pool = u.pool ++ map Told ss }) before (Machine_moves m up (step_more (sha []) u.pool (map Told ss) a m step))
works_moves sha u m sends up (Speaks a ss y works may) =
    let before = works_moves sha u m ss up works in
    let pools : (u.pool ++ map Told ss) ++ Told y ∷ [] ≡ u.pool ++ map Told (ss ++ y ∷ []) = append_assoc u.pool (map Told ss) (Told y ∷ []) ∙ ap (λ l. u.pool ++ l) (sym (map-push ss y)) in
    Then u (record u { machine = m; pool = u.pool ++ map Told ss }) (record u { machine = m; pool = u.pool ++ map Told (ss ++ y ∷ []) }) before
    (subst (λ p. Move sha (record u { machine = m; pool = u.pool ++ map Told ss }) (record u { machine = m; pool = p })) pools (Machine_says y up (says_more (sha []) u.pool (map Told ss) m y may)))

pub moves_trans : (sha : List ℕ → Digest) (a b c : World) → Moves sha a b → Moves sha b c → Moves sha a c
moves_trans sha a b c p (Still v) = p
moves_trans sha a b c p (Then x v y moves move) = Then a v c (moves_trans sha a b v p moves) move

-- ---- what was sent, in a world of a run

sent_in : (sha : List ℕ → Digest) (u : World) → Inv sha u → Sent u.pool u.machine
sent_in sha u inv = record {
  tenures = λ n l a wants tenure i. (inv.messages (acquire n l a wants tenure) i).1;
}

-- a node's event finds the world's machine, ends nothing, adds nothing to a line, and is not the coordinator's
pub record Plain (sha : List ℕ → Digest) (u : World) (s : Farm) (e : Event) (n : NodeId) (o : Option Message) : Type 0 where
  pub finds : Finds u e ≡ u.machine
  pub rises : (a n : ℕ) → FewTickets e a n a
  pub ends : (said : NodeNote) (g : Grant) (y : Ending) → EndsAt u e (event_note.Node said) g y → ⊥
  pub adds : (said : NodeNote) (s : Slot) → adds (sha []) u.pool e (event_note.Node said) s ≡ []
  pub lives : (said : NodeNote) (f : ℕ → ℕ) (n : ℕ) → lives_at u.pool e (event_note.Node said) f n ≡ f n
  pub coord : (said : NodeNote) (m : Machine) (sends : List Message) → CoordDid (sha []) u e (event_note.Node said) m sends
  pub at : node_at u e ≡ Some n
  pub heard : heard_at u e ≡ o
  pub apart : Reaches u s e → ⊥

no_adds : (o : Option Message) (n : NodeNote) (s : Slot) → message_adds o (event_note.Node n) s ≡ []
no_adds None n s = refl
no_adds (Some (to.ToCoord y)) n s = refl
no_adds (Some (to.ToNode y)) n s = refl

no_lives : (o : Option Message) (n : NodeNote) (f : ℕ → ℕ) (j : ℕ) → message_lives o (event_note.Node n) f j ≡ f j
no_lives None n f j = refl
no_lives (Some (to.ToCoord y)) n f j = refl
no_lives (Some (to.ToNode (to_node.FromCoord y))) n f j = refl
no_lives (Some (to.ToNode (to_node.Fetch y))) n f j = refl
no_lives (Some (to.ToNode (to_node.Blob m c))) n f j = refl

-- ---- nodes that are there

le_is : (a b : ℕ) → nat_le a b ≡ true → a ≤ b
le_is a b h = grind (arith, nat_tests)

le_to : (a b : ℕ) → a ≤ b → nat_le a b ≡ true
le_to a b h = grind (arith, nat_tests)

there_is : (s : Farm) (n : NodeId) → is_node s n ≡ true → IsThere s n
there_is s n e = (let b = and_parts (nat_le 1 n.0) (nat_le n.0 s.size) e in (le_is 1 n.0 b.0, le_is n.0 s.size b.1))

not_there : (s : Farm) (n : NodeId) → is_node s n ≡ false → IsThere s n → ⊥
not_there s n e there = (let low = le_to 1 n.0 there.0 in let high = le_to n.0 s.size there.1 in true_false (is_node s n) (rw (low, high) refl) e)

-- an event of the coordinator is for no node
pub record ForCoord (u : World) (s : Farm) (e : Event) : Type 0 where
  pub heard : (number : ℕ) → e ≡ Deliver number → nth u.pool number ≡ None → ⊥
  pub node : (n : NodeId) → node_at u e ≡ Some n → ⊥
  pub retires : (n : NodeId) → e ≡ Retire n → (IsThere s n → ⊥) → ⊥
  pub reaches : Reaches u s e

module _ (sha : List ℕ → Digest) (k : Limits) (farm : IsFarm sha k) where
  -- the world that the farm's next state is that of, what the event's outcome means, and that it is fair
  pub record Next (u : World) (s : Farm) (e : Event) (t : Turn) : Type 0 where
    pub world : World
    pub moves : Moves sha u world
    pub shows : Shows sha world t.farm
    pub means : Means sha k s.size u e t.outcome world
    pub fair : Fair k u s e t.outcome
    pub fits : WorldFits k u → WorldFits k world

  module _ (u : World) (run : Moves sha (start sha) u) (s : Farm) (shows : Shows sha u s) (e : Event) where
    inv : Inv sha u
    inv = (moves_inv sha (start sha) u (start_whole sha) run).0.now

    sound_in : Sound k.empty u.machine
    sound_in = subst (λ z. Sound z u.machine) (sym farm.empty) inv.sound

    agrees_in : Agrees k.empty u.pool u.machine s.ledger
    agrees_in = subst (λ z. Agrees z u.pool u.machine s.ledger) (sym farm.empty) shows.now

    -- its leases have tickets of their own
    apart_in : Apart s.ledger
    apart_in = apart_of k.empty u.pool u.machine s.ledger sound_in agrees_in

    abbrev At : (Grant → Ending → Type 0) → CoordNote → Work → Type 0
    At ends told w = Follows k.empty u.pool u.machine (Meant u.machine ends told) w

    same_world : (r : EventRefusal) → Unchanged sha u e r u
    same_world r = record { down = inl refl; machine = refl; pool = refl; nodes = λ n. inl refl }

    refused_so : (r : EventRefusal) → Because k u s e r → Next u s e (refused r s)
    refused_so r why = record { world = u; moves = Still u; shows = shows; means = same_world r; fair = why; fits = λ f. f }

    pub up_is : s.down ≡ false → u.down ≡ None
    up_is e = by u.down shows.saved
      where
        by : (d : Option Machine) → SavedAgrees (sha []) u.pool d s → d ≡ None
        by None h = refl
        by (Some m) h = true_false s.down h.0 e

    pub down_is : s.down ≡ true → u.down ≢ None
    down_is e = by u.down shows.saved
      where
        by : (d : Option Machine) → SavedAgrees (sha []) u.pool d s → d ≢ None
        by None h = true_false s.down e h.0
        by (Some m) h = λ z. none_some m (sym z)

    first_told : (sends : List Message) → first_sent s sends ≡ first_number u.pool sends
    first_told [] = refl
    first_told (y ∷ ys) = ap (λ (p : List Message). length p + 1) (sym shows.pool)

    -- ---- the coordinator

    -- what is granted fits
    abbrev FitsSends : Work → Type 0
    FitsSends w = AllFit k u.machine → (g : Grant) → In (message.Granted g) w.sends → FitGrant k g

    begin_fits : AllFit k u.machine → fitting.W k (begin_work s.ledger)
    begin_fits fit = fitting.begins_w k s.ledger (leases_fit k k.empty u.pool u.machine s.ledger agrees_in fit)

    asked_in : (p : Parked) → In p s.ledger.parked → In (acquire p.node p.life p.ask p.wants p.tenure) u.pool × (s.ledger.gone p.node.0 ≡ false)
    asked_in p i = (let a = agrees_in.asked p i in (a.0, a.1))

    known_in : (p : Parked) → In p s.ledger.parked → p.life.0 ≤ s.ledger.lives p.node.0
    known_in p i = (agrees_in.asked p i).2

    -- each ask that was denied has its reason
    abbrev Denies : Work → Type 0
    Denies w = (m : Machine) → Agrees k.empty u.pool m w.ledger → (n : NodeId) (l : Life) (a : Ask) (y : Why) → In (message.Denied n l a y) w.sends → IsDenied k u.pool m n l a y

    -- the message that the event delivers asks so
    abbrev Brings : Parked → Type 0
    Brings p = heard_at u e ≡ Some (acquire p.node p.life p.ask p.wants p.tenure)

    -- the ask was parked, or the message that the event delivers asks so
    abbrev Due : NodeId → Life → Ask → Type 0
    Due n l a = ((p : Parked) × In p u.machine.parked × (p.node ≡ n) × (p.life ≡ l) × (p.ask ≡ a)) ⊎ ((wants : List Want) × (tenure : Bool) × (heard_at u e ≡ Some (acquire n l a wants tenure)))

    due_in : (p : Parked) → In p s.ledger.parked → Due p.node p.life p.ask
    due_in p i = inl (p, subst (In p) agrees_in.parked i, refl, refl, refl)

    -- what is new is in order, and what is sent is a reply
    abbrev Orders : Work → Type 0
    Orders w = ordering.Orderly k s.ledger (DropsAt u.pool e) w × ordering.Queue k s.ledger Brings w × replying.Replying k s.ledger Due (IsCommit u e) due_in w

    abbrev DeniesOk : Result Work CoordRefusal → Type 0
    DeniesOk (Ok w) = Denies w × recalling.Properly w × FitsSends w × Orders w
    DeniesOk (Err r) = ⊤

    fine_denies : (w : Work) → denials.Fine k u.pool s.ledger agrees_in.waits asked_in known_in agrees_in.seen w → Denies w
    fine_denies w fine m agrees = denials.denied_so k u.pool s.ledger agrees_in.waits asked_in known_in agrees_in.seen k.empty m w refl agrees fine

    all_denies : (r : Result Work CoordRefusal) → denials.OnFine k u.pool s.ledger agrees_in.waits asked_in known_in agrees_in.seen r → recalling.OnProperly k s.ledger r → (AllFit k u.machine → fitting.OnW k r) → ordering.OnOrderly k s.ledger (DropsAt u.pool e) apart_in.top r → ordering.OnQueue k s.ledger Brings r → replying.OnReplying k s.ledger Due (IsCommit u e) due_in r → DeniesOk r
    all_denies (Ok w) fine properly fit orders queue replies = (fine_denies w fine, properly, (λ all g i. (fit all).sends (message.Granted g) i), (orders, queue, replies))
    all_denies (Err r) fine properly fit orders queue replies = tt

    -- work that is done, and what is meant by it
    record Done (told : EventNote) (w : Work) (change : saying.Change s.ledger) : Type 0 where
      pub finds : Finds u e ≡ u.machine
      pub follows : At (EndsAt u e told) w.note w
      pub tells : (c : CoordNote) → told ≡ event_note.Coord c → c ≡ w.note
      pub grew : Grew k s.ledger change w
      pub line : (x : Slot) → change.line x ≡ s.ledger.line x ++ adds k.empty u.pool e told x
      pub lives : (n : ℕ) → change.lives n ≡ lives_at u.pool e told s.ledger.lives n
      pub gone : (n : ℕ) → (change.gone n ≡ s.ledger.gone n) ⊎ (e ≡ Retire (record { 0 = n }))
      pub drops : (p : Parked) → change.drops p → DropsAt u.pool e p
      pub again : (g : Grant) → Again (event_note.Coord w.note) g → Again told g
      pub coord : (m : Machine) → Sound k.empty m → Agrees k.empty u.pool m w.ledger → CoordDid k.empty u e told m (map Told w.sends)
      pub did : (v : World) → Did u e told v
      pub node : (n : NodeNote) → told ≡ event_note.Node n → ⊥
      pub saves_all : w.changed ≡ false → saves w.ledger ≡ saves s.ledger
      pub denies : Denies w
      pub recalls : recalling.Properly w
      pub fits : FitsSends w
      pub orders : Orders w
      pub noted : (c : CoordNote) → w.note ≡ c → (told ≡ event_note.Coord c) ⊎ (c ≡ coord_note.Nothing)
      pub rises : (a b n : ℕ) → b ≤ a + change.tickets + n → FewTickets e a n b

    -- the Grant of a lease that is there is live
    live_grant : (w : Work) (m : Machine) → Sound k.empty m → Agrees k.empty u.pool m w.ledger → (h : Lease) → In h w.ledger.live → Live m (grant_of k.empty w.ledger.line h)
    live_grant w m sound agrees h i =
        let r = agrees.live_made h i in
        subst (Live m) (sym (ap (grant_of k.empty w.ledger.line) (sym r.2) ∙ grant-lease k.empty m w.ledger r.0 sound (core_of k.empty u.pool m w.ledger agrees) r.1)) r.1

    not_made : (g : Grant) → s.ledger.last < g.ticket.0 → In (Granted g) u.machine.made → ⊥
    not_made g above i =
        let le : ticket_of (Granted g) ≤ u.machine.last = made_below k.empty u.machine sound_in (Granted g) i in
        let le' : g.ticket.0 ≤ u.machine.last = le in
        let last : s.ledger.last ≡ u.machine.last = agrees_in.last in
        omega arith

    -- what the work made of the machine
    carried : (told : EventNote) (w : Work) (c : saying.Change s.ledger) (d : Done told w c) → Carried k.empty u e told (map Told w.sends) d.follows.machine
    carried told w c d =
        let f = d.follows in
        let sound = (works_sound k.empty u.pool u.machine f.machine w.sends sound_in f.works).1 in
        record {
          ended = subst (λ z. Ended z (EndsAt u e told) f.machine.ending) (sym d.finds) f.ended.0;
          granted = λ g i. elim (f.granted g i) [ inl old ↦ inl (subst (λ z. In (Granted g) z.made) (sym d.finds) old) | inr new ↦ inr (in_map Told (message.Granted g) w.sends new) ];
          sent = λ g i.
              (let j = told_in g w.sends i in (
                works_made k.empty u.pool u.machine f.machine w.sends sound_in f.works g j,
                elim (d.grew.grants g j) [
                  | inl above ↦ inl (λ old. not_made g above (subst (λ z. In (Granted g) z.made) d.finds old))
                  | inr same ↦ inr (d.again g same.0, subst (Live f.machine) (sym same.1.2) (live_grant w f.machine sound f.agrees same.1.0 same.1.1))
                ],
              ));
          waits = λ p i. elim (d.grew.waits p (subst (In p) (sym agrees_in.parked) (subst (λ z. In p z.parked) d.finds i))) [
            | inl still ↦ inl (subst (In p) f.agrees.parked still)
            | inr left ↦ elim left [ inl served ↦ inr (inl (answered_so p w.sends served)) | inr drops ↦ inr (inr (d.drops p drops)) ]
          ];
          gone = λ n. elim (d.gone n) [
            | inl same ↦ inl (sym (ap (λ (z : ℕ → Bool). z n) f.agrees.gone) ∙ d.grew.gone n ∙ same ∙ ap (λ (z : ℕ → Bool). z n) agrees_in.gone ∙ ap (λ (z : Machine). z.gone n) (sym d.finds))
            | inr retires ↦ inr retires
          ];
          lives = λ n. sym (ap (λ (z : ℕ → ℕ). z n) f.agrees.lives) ∙ d.grew.lives n ∙ d.lives n ∙ ap (λ (z : ℕ → ℕ). lives_at u.pool e told z n) (agrees_in.lives ∙ ap (λ (z : Machine). z.lives) (sym d.finds));
          lines = λ x. sym (f.agrees.lines x) ∙ d.grew.lines x ∙ d.line x ∙ ap (λ l. l ++ adds k.empty u.pool e told x) (agrees_in.lines x ∙ ap (λ z. line k.empty z x) (sym d.finds));
          told = λ n p. subst (CoordMeans u.machine) (sym (d.tells n p)) f.ended.1;
          did = d.coord f.machine sound f.agrees;
        }
      where
        answered_so : (p : Parked) (sends : List FromCoord) → saying.Served p sends → IsAnswered p (map Told sends)
        answered_so p sends (inl (g, i, n, l, a)) = inl (g, in_map Told (message.Granted g) sends i, n, l, a)
        answered_so p sends (inr (why, i)) = inr (why, in_map Told (message.Denied p.node p.life p.ask why) sends i)

        told_in : (g : Grant) (sends : List FromCoord) → In (Told (message.Granted g)) (map Told sends) → In (message.Granted g) sends
        told_in g sends i = (let r = from_map Told (Told (message.Granted g)) sends i in
            let same : message.Granted g ≡ r.0 = (let t : Told (message.Granted g) ≡ Told r.0 = r.2 in cc) in
            subst (λ y. In y sends) (sym same) r.1)

    recall_in : (n : NodeId) (l : Life) (t : Ticket) (sends : List FromCoord) → In (Told (message.Recall n l t)) (map Told sends) → In (message.Recall n l t) sends
    recall_in n l t sends i = (let r = from_map Told (Told (message.Recall n l t)) sends i in
        let same : message.Recall n l t ≡ r.0 = (let z : Told (message.Recall n l t) ≡ Told r.0 = r.2 in cc) in
        subst (λ y. In y sends) (sym same) r.1)

    denied_in : (n : NodeId) (l : Life) (a : Ask) (y : Why) (sends : List FromCoord) → In (Told (message.Denied n l a y)) (map Told sends) → In (message.Denied n l a y) sends
    denied_in n l a y sends i = (let r = from_map Told (Told (message.Denied n l a y)) sends i in
        let same : message.Denied n l a y ≡ r.0 = (let t : Told (message.Denied n l a y) ≡ Told r.0 = r.2 in cc) in
        subst (λ y. In y sends) (sym same) r.1)

    told_length : (sends : List FromCoord) → length (map Told sends) ≡ length sends
    told_length [] = refl
    told_length (y ∷ ys) = (let r = told_length ys in omega arith)

    rises_so : (told : EventNote) (w : Work) (c : saying.Change s.ledger) (d : Done told w c) → d.follows.machine.last ≤ (Finds u e).last + c.tickets + length (map Told w.sends)
    rises_so told w c d =
        let up : w.ledger.last ≤ s.ledger.last + c.tickets + length w.sends = d.grew.count in
        let after : w.ledger.last ≡ d.follows.machine.last = d.follows.agrees.last in
        let before : s.ledger.last ≡ (Finds u e).last = agrees_in.last ∙ ap (λ (z : Machine). z.last) (sym d.finds) in
        let same : length (map Told w.sends) ≡ length w.sends = told_length w.sends in
        omega arith

    made_fit : (told : EventNote) (w : Work) (c : saying.Change s.ledger) (d : Done told w c) → AllFit k u.machine → AllFit k d.follows.machine
    made_fit told w c d fit g i = elim (d.follows.granted g i) [ inl old ↦ fit g old | inr sent ↦ d.fits fit g sent ]

    made_in : (g : Grant) → In (Granted g) u.machine.made → g.ticket.0 ≤ u.machine.last
    made_in g i = made_below k.empty u.machine sound_in (Granted g) i

    made_sound : (told : EventNote) (w : Work) (c : saying.Change s.ledger) (d : Done told w c) → Sound k.empty d.follows.machine
    made_sound told w c d = (works_sound k.empty u.pool u.machine d.follows.machine w.sends sound_in d.follows.works).1

    -- what was made is old, or is sent now under a new ticket
    made_now : (told : EventNote) (w : Work) (c : saying.Change s.ledger) (d : Done told w c) (g : Grant) → In (Granted g) d.follows.machine.made → In (Granted g) (Finds u e).made ⊎ (In (message.Granted g) w.sends × (u.machine.last < g.ticket.0))
    made_now told w c d g i = elim (d.follows.granted g i) [
      | inl old ↦ inl (subst (λ (z : Machine). In (Granted g) z.made) (sym d.finds) old)
      | inr sent ↦ elim ((works_above k.empty u.pool u.machine d.follows.machine w.sends d.follows.works).1 g i) [
        | inl old ↦ inl (subst (λ (z : Machine). In (Granted g) z.made) (sym d.finds) old)
        | inr new ↦ inr (sent, new.0)
      ]
    ]

    note_so : (told : EventNote) (w : Work) (c : saying.Change s.ledger) (d : Done told w c) (n : CoordNote) → (n ≡ coord_note.Nothing → ⊥) → w.note ≡ n → told ≡ event_note.Coord n
    note_so told w c d n some e = elim (d.noted n e) [ inl is ↦ is | inr none ↦ absurd (some none) ]

    replies_so : (told : EventNote) (w : Work) (c : saying.Change s.ledger) (d : Done told w c) (y : FromCoord) → In (Told y) (map Told w.sends) → Replies u e told y
    replies_so told w c d y i =
        let r = from_map Told (Told y) w.sends i in
        let same : y ≡ r.0 = (let t : Told y ≡ Told r.0 = r.2 in cc) in
        by y (d.orders.2 y (subst (λ z. In z w.sends) (sym same) r.1))
      where
        due_so : (n : NodeId) (l : Life) (a : Ask) → Due n l a → IsDue u e n l a
        due_so n l a (inl (p, i, is, life, ask)) = inl (p, subst (λ (z : Machine). In p z.parked) (sym d.finds) i, is, life, ask)
        due_so n l a (inr came) = inr came

        by : (y : FromCoord) → replying.Reply k s.ledger Due (IsCommit u e) due_in w.note y → Replies u e told y
        by (message.Granted g) (inl due) = inl (due_so g.node g.life g.ask due)
        by (message.Granted g) (inr again) = inr (note_so told w c d coord_note.Nudged (λ n. (cc)) again)
        by (message.Committed n l t versions) (came, inl is) = (came, inl (note_so told w c d (coord_note.Committed t) (λ n. (cc)) is))
        by (message.Committed n l t versions) (came, inr is) = (came, inr (note_so told w c d (coord_note.CommittedBefore t) (λ n. (cc)) is))
        by (message.Fenced n l t) (came, is) = (came, note_so told w c d (coord_note.Fenced t) (λ n. (cc)) is)
        by (message.Denied n l a why) due = due_so n l a due
        by (message.Recall n l t) h = h

    lowest_in : (told : EventNote) (w : Work) (c : saying.Change s.ledger) (d : Done told w c) (g : Grant) → In (Granted g) d.follows.machine.made → In (Granted g) (Finds u e).made ⊎ HasLowest d.follows.machine g
    lowest_in told w c d g i = elim (made_now told w c d g i) [ inl old ↦ inl old | inr new ↦ inr (ordering.lowest_so k u.pool u.machine s.ledger (DropsAt u.pool e) agrees_in made_in d.follows.machine w (made_sound told w c d) d.follows.agrees d.follows.granted d.orders.0 g new.0 new.1) ]

    queue_so : (told : EventNote) (w : Work) (c : saying.Change s.ledger) (d : Done told w c) → KeepsOrder u e told (Finds u e).parked d.follows.machine.parked
    queue_so told w c d = subst (λ ps. KeepsOrder u e told ps d.follows.machine.parked) (agrees_in.parked ∙ ap (λ (z : Machine). z.parked) (sym d.finds)) (subst (KeepsOrder u e told s.ledger.parked) d.follows.agrees.parked (by d.orders.1))
      where
        by : ordering.Queue k s.ledger Brings w → KeepsOrder u e told s.ledger.parked w.ledger.parked
        by (inl part) = inl part
        by (inr (stay, p, part, new, is, brings, noted)) = inr (stay, p, part, new, is, brings, note_so told w c d coord_note.Parked (λ n. (cc)) noted)

    -- the world after the work
    abbrev after_world : Machine → Work → World
    after_world m w = record u { machine = m; pool = u.pool ++ map Told w.sends }

    after_next : (saved : Saved) (told : EventNote) (w : Work) (c : saying.Change s.ledger) → saved ≡ saves w.ledger → Done told w c → s.down ≡ false → ((r : EventRefusal) → Because k u s e r → ⊥) → Next u s e (done told (map Told w.sends) s (record s { ledger = w.ledger; saved = saved; pool = s.pool ++ map Told w.sends }))
    after_next saved told w c kept d up' fair =
        let f = subst (λ z. Follows z u.pool u.machine (Meant u.machine (EndsAt u e told) w.note) w) farm.empty d.follows in
        let up = up_is up' in
        let m : Machine = d.follows.machine in
        let pool : List Message = u.pool ++ map Told w.sends in
        let v : World = after_world m w in
        let now : Agrees (sha []) pool m w.ledger = agrees_more (sha []) u.pool (map Told w.sends) m w.ledger (subst (λ z. Agrees z u.pool m w.ledger) farm.empty d.follows.agrees) in
        record {
          world = v;
          moves = works_moves sha u m w.sends up (subst (λ z. Works z u.pool u.machine m w.sends) farm.empty d.follows.works);
          shows = record {
            now = now;
            saved = subst (λ d. SavedAgrees (sha []) pool d (record s { ledger = w.ledger; saved = saved; pool = s.pool ++ map Told w.sends })) (sym up) (up', kept);
            pool = ap (λ p. p ++ map Told w.sends) shows.pool;
            nodes = shows.nodes;
          };
          means = record {
            sent = map Told w.sends;
            count = refl;
            first = first_told (map Told w.sends);
            pool = refl;
            down = inl refl;
            carried = subst (λ z. Carried z u e told (map Told w.sends) m) farm.empty (carried told w c d);
            above = λ g i. elim ((works_above k.empty u.pool u.machine m w.sends d.follows.works).1 g i) [
              | inl old ↦ inl (subst (λ (z : Machine). In (Granted g) z.made) (sym d.finds) old)
              | inr new ↦ inr (subst (λ (z : Machine). z.last < g.ticket.0) (sym d.finds) new.0, new.1)
            ];
            tickets = d.rises (Finds u e).last m.last (length (map Told w.sends)) (rises_so told w c d);
            recalled = λ n l t i. recalling.recalled_so k k.empty u.pool m w d.follows.agrees d.recalls n l t (recall_in n l t w.sends i);
            denied = λ n l a y i. d.denies m d.follows.agrees n l a y (denied_in n l a y w.sends i);
            node = λ n is. absurd (d.node n is);
            others = λ j. inl refl;
            used = record { began = λ n g ws i. inl i; stopped = λ n g ws i. inl i };
            did = d.did v;
            lowest = lowest_in told w c d;
            oldest = λ g i. elim (made_now told w c d g i) [
              | inl old ↦ inl old
              | inr new ↦ inr (subst (λ (z : Machine). PassesOverNone k (DropsAt u.pool e) z m g) (sym d.finds)
                  (ordering.oldest_so k u.pool u.machine s.ledger (DropsAt u.pool e) agrees_in made_in m w (made_sound told w c d) d.follows.agrees d.follows.granted d.orders.0 g new.0 new.1))
            ];
            queue = queue_so told w c d;
            replies = replies_so told w c d;
          };
          fair = fair;
          fits = λ f. record { now = λ g i. made_fit told w c d f.now g i; kept = λ x e. f.kept x e };
        }

    fails_next : (saved : Saved) (w : Work) (m : Machine) → (AllFit k u.machine → AllFit k m) → Steps (sha []) u.pool u.machine m → Agrees (sha []) u.pool m w.ledger → saved ≡ saves w.ledger → Survives sha u e m → s.down ≡ false → Because k u s e (refusal.Coord coord.SaveFault) → Next u s e (record { farm = record s { saved = saved; down = true; armed = None }; outcome = Err (refusal.Coord coord.SaveFault) })
    fails_next saved w m fit steps agrees same survives up why = record {
      world = record u { down = Some m };
      moves = Then u u (record u { down = Some m }) (Still u) (Fails m (up_is up) steps);
      shows = record { now = shows.now; saved = (refl, (w.ledger, agrees, same)); pool = shows.pool; nodes = shows.nodes };
      means = record { down = inr (refl, (m, refl, survives)); machine = refl; pool = refl; nodes = λ n. inl refl };
      fair = why;
      fits = λ f. record { now = f.now; kept = λ x e. subst (AllFit k) (some_is m x e) (fit f.now) };
    }

    pub up_saved : s.down ≡ false → s.saved ≡ saves s.ledger
    up_saved up = by u.down shows.saved
      where
        by : (d : Option Machine) → SavedAgrees (sha []) u.pool d s → s.saved ≡ saves s.ledger
        by None h = h.1
        by (Some m) h = true_false s.down h.0 up

    -- what is accepted, nothing speaks against
    taken : ForCoord u s e → s.down ≡ false → (w : Work) → decision_at k s e ≡ Some (Ok w) → ((r : CoordRefusal) → CallBecause k u.machine e r → ⊥) → ((s.armed ≡ None) ⊎ (saves w.ledger ≡ saves s.ledger)) → (r : EventRefusal) → Because k u s e r → ⊥
    taken for up w decided exact saved refusal.NoSuchMessage (number, is, none) = for.heard number is none
    taken for up w decided exact saved refusal.NoSuchNode (n, inl at, none) = for.node n at
    taken for up w decided exact saved refusal.NoSuchNode (n, inr is, none) = for.retires n is none
    taken for up w decided exact saved (refusal.Node r) (n, at, here, why) = for.node n at
    taken for up w decided exact saved (refusal.Coord r) (reaches, why) = by r why
      where
        decided_ok : Work → Option (Result Work CoordRefusal)
        decided_ok a = Some (Ok a)

        ok_is : (a b : Work) → decided_ok a ≡ decided_ok b → a ≡ b
        ok_is a b e = cc

        saved_so : (s.armed ≡ None) ⊎ (saves w.ledger ≡ saves s.ledger) → CoordBecause k u s e coord.SaveFault → ⊥
        saved_so (inl off) (down, armed, needs) = armed off
        saved_so (inr same) (down, armed, needs) = needs.2 (ap (λ (z : Work). saves z.ledger) (ok_is needs.0 w (sym needs.1 ∙ decided)) ∙ same)

        by : (r : CoordRefusal) → CoordBecause k u s e r → ⊥
        by coord.Down why = why (up_is up)
        by coord.SaveFault why = saved_so saved why
        by coord.BadRecord why = exact coord.BadRecord why.1
        by coord.NotLive why = exact coord.NotLive why.1
        by coord.SlotLeased why = exact coord.SlotLeased why.1
        by coord.NoSuchSlot why = exact coord.NoSuchSlot why.1
        by coord.TicketsSpent why = exact coord.TicketsSpent why.1
        by coord.OutOfMemory why = exact coord.OutOfMemory why.1
        by coord.LoadFault why = exact coord.LoadFault why.1
        by coord.Tenure why = exact coord.Tenure why.1
        by coord.TenureHeld why = exact coord.TenureHeld why.1
        by coord.NodeRetired why = exact coord.NodeRetired why.1
    taken for up w decided exact saved refusal.OutOfMemory why = why

    settled_next : (changed : Bool) (armed : Option Kept) (w : Work) (c : saying.Change s.ledger) → w.changed ≡ changed → s.armed ≡ armed → ForCoord u s e → decision_at k s e ≡ Some (Ok w) → ((r : CoordRefusal) → CallBecause k u.machine e r → ⊥) → Done (event_note.Coord w.note) w c → (w.changed ≡ true → saves w.ledger ≢ saves s.ledger) → s.down ≡ false → Next u s e (settled changed armed w s)
    settled_next false armed w c same at for decided exact d new up = after_next s.saved (event_note.Coord w.note) w c (up_saved up ∙ sym (d.saves_all same)) d up (taken for up w decided exact (inr (d.saves_all same)))
    settled_next true None w c same at for decided exact d new up = after_next (saves w.ledger) (event_note.Coord w.note) w c refl d up (taken for up w decided exact (inl at))
    settled_next true (Some Old) w c same at for decided exact d new up = fails_next s.saved (begin_work s.ledger) u.machine (λ f. f) (No_step u.machine) shows.now (up_saved up) (inl refl) up
        (for.reaches, (up_is up, (λ none. none_some Old (sym none ∙ at)), (w, decided, new same)))
    settled_next true (Some New) w c same at for decided exact d new up =
        fails_next (saves w.ledger) w d.follows.machine (made_fit (event_note.Coord w.note) w c d) (works_steps (sha []) u.pool u.machine d.follows.machine w.sends (subst (λ z. Works z u.pool u.machine d.follows.machine w.sends) farm.empty d.follows.works))
        (subst (λ z. Agrees z u.pool d.follows.machine w.ledger) farm.empty d.follows.agrees) refl
        (inr (w.note, map Told w.sends, subst (λ z. Carried z u e (event_note.Coord w.note) (map Told w.sends) d.follows.machine) farm.empty (carried (event_note.Coord w.note) w c d), lowest_in (event_note.Coord w.note) w c d)) up
        (for.reaches, (up_is up, (λ none. none_some New (sym none ∙ at)), (w, decided, new same)))

    abbrev OnWork : (CoordNote → saying.Change s.ledger) → Result Work CoordRefusal → Type 0
    OnWork c (Ok w) = Done (event_note.Coord w.note) w (c w.note) × ((r : CoordRefusal) → CallBecause k u.machine e r → ⊥) × (w.changed ≡ true → saves w.ledger ≢ saves s.ledger)
    OnWork c (Err r) = CallBecause k u.machine e r

    -- no call is refused for being down, or for its save
    abbrev Unsaved : Type 0
    Unsaved = (CallBecause k u.machine e coord.Down → ⊥) × (CallBecause k u.machine e coord.SaveFault → ⊥)

    refusal_is : (r : CoordRefusal) → Unsaved → s.down ≡ false → CallBecause k u.machine e r → CoordBecause k u s e r
    refusal_is coord.Down q up h = absurd (q.0 h)
    refusal_is coord.SaveFault q up h = absurd (q.1 h)
    refusal_is coord.BadRecord q up h = (up_is up, h)
    refusal_is coord.NotLive q up h = (up_is up, h)
    refusal_is coord.SlotLeased q up h = (up_is up, h)
    refusal_is coord.NoSuchSlot q up h = (up_is up, h)
    refusal_is coord.TicketsSpent q up h = (up_is up, h)
    refusal_is coord.OutOfMemory q up h = (up_is up, h)
    refusal_is coord.LoadFault q up h = (up_is up, h)
    refusal_is coord.Tenure q up h = (up_is up, h)
    refusal_is coord.TenureHeld q up h = (up_is up, h)
    refusal_is coord.NodeRetired q up h = (up_is up, h)

    settles_next : (c : CoordNote → saying.Change s.ledger) (r : Result Work CoordRefusal) → ForCoord u s e → decision_at k s e ≡ Some r → Unsaved → OnWork c r → s.down ≡ false → Next u s e (settles r s)
    settles_next c (Err r) for decided q h up = refused_so (refusal.Coord r) (for.reaches, refusal_is r q up h)
    settles_next c (Ok w) for decided q h up = settled_next w.changed s.armed w (c w.note) refl refl for decided h.1 h.0 h.2 up

    coordinated_next : (c : CoordNote → saying.Change s.ledger) (d : Bool) (r : Result Work CoordRefusal) → s.down ≡ d → ForCoord u s e → decision_at k s e ≡ Some r → Unsaved → OnWork c r → Next u s e (coordinated d r s)
    coordinated_next c true r up for decided unsaved h = refused_so (refusal.Coord coord.Down) (for.reaches, down_is up)
    coordinated_next c false r up for decided unsaved h = settles_next c r for decided unsaved h up

    -- ---- the nodes

    put_both : (n : NodeId) (x : Node) (f g : ℕ → Node) → ((j : ℕ) → f j ≡ g j) → (j : ℕ) → put n.0 x f j ≡ put n.0 x g j
    put_both n x f g h j = elim (cases_eq j n.0) [
      | inl e ↦ ap (put n.0 x f) e ∙ put_same n.0 x f ∙ sym (ap (put n.0 x g) e ∙ put_same n.0 x g)
      | inr ne ↦ put_other n.0 x f j ne ∙ h j ∙ sym (put_other n.0 x g j ne)
    ]

    -- what a node's act leaves of its asks
    here_after : (n : NodeId) (sends : List Message) (x : Node) (r : Reached sha u n sends x) → r.world.nodes n.0 ≡ x
    here_after n sends x r = r.nodes n.0 ∙ put_same n.0 x u.nodes

    elsewhere_after : (n : NodeId) (sends : List Message) (x : Node) (r : Reached sha u n sends x) (j : NodeId) → j.0 ≢ n.0 → r.world.nodes j.0 ≡ u.nodes j.0
    elsewhere_after n sends x r j ne = r.nodes j.0 ∙ put_other n.0 x u.nodes j.0 ne

    -- the executions of the world, by those of the node that acted
    used_after : (n : NodeId) (sends : List Message) (x : Node) (r : Reached sha u n sends x) (begins stops : Grant → Type 0) → Turned (u.nodes n.0).asks x.asks begins stops
        → ((g : Grant) → begins g → BeginsAt e n g) → ((g : Grant) → stops g → StopsAt e n g) → Used u e r.world
    used_after n sends x r begins stops turned b c = record {
      began = λ j g ws i. elim (cases_eq j.0 n.0) [
        | inr ne ↦ inl (subst (λ (z : Node). Runs z.asks g ws) (elsewhere_after n sends x r j ne) i)
        | inl same ↦ (let at : j ≡ n = node_is j n same in
            elim (turned.began g ws (subst (λ (z : Node). Runs z.asks g ws) (ap (λ (z : NodeId). r.world.nodes z.0) at ∙ here_after n sends x r) i)) [
              | inl was ↦ inl (subst (λ (z : NodeId). InUse u z g ws) (sym at) was)
              | inr now ↦ inr (subst (λ z. BeginsAt e z g) (sym at) (b g now))
            ])
      ];
      stopped = λ j g ws i. elim (cases_eq j.0 n.0) [
        | inr ne ↦ inl (subst (λ (z : Node). Runs z.asks g ws) (sym (elsewhere_after n sends x r j ne)) i)
        | inl same ↦ (let at : j ≡ n = node_is j n same in
            elim (turned.stopped g ws (subst (λ (z : NodeId). InUse u z g ws) at i)) [
              | inl now ↦ inl (subst (λ (z : Node). Runs z.asks g ws) (sym (ap (λ (z : NodeId). r.world.nodes z.0) at ∙ here_after n sends x r)) now)
              | inr gone ↦ inr (subst (λ z. StopsAt e z g) (sym at) (c g gone))
            ])
      ];
    }

    -- what is meant by a node's answer
    record Acted (n : NodeId) (w : NodeWork) : Type 0 where
      pub reached : Reached sha u n w.sends w.node
      pub means : NodeMeans sha k s.size (heard_at u e) e n (u.nodes n.0) w.note w.sends w.node
      pub used : Used u e reached.world
      pub did : Did u e (event_note.Node w.note) reached.world

    reached_shows : (n : NodeId) (w : NodeWork) (r : Reached sha u n w.sends w.node) → Shows sha r.world (record s { nodes = put n.0 w.node s.nodes; pool = s.pool ++ w.sends })
    reached_shows n w r = (let t : Farm = record s { nodes = put n.0 w.node s.nodes; pool = s.pool ++ w.sends } in record {
      now = subst (λ p. Agrees (sha []) p r.world.machine s.ledger) (sym r.pool) (subst (λ m. Agrees (sha []) (u.pool ++ w.sends) m s.ledger) (sym r.machine) (agrees_more (sha []) u.pool w.sends u.machine s.ledger shows.now));
      saved = subst (λ p. SavedAgrees (sha []) p r.world.down t) (sym r.pool) (subst (λ d. SavedAgrees (sha []) (u.pool ++ w.sends) d t) (sym r.down) (saved_as (sha []) (u.pool ++ w.sends) u.down s t refl refl refl (saved_more (sha []) u.pool w.sends u.down s shows.saved)));
      pool = r.pool ∙ ap (λ p. p ++ w.sends) shows.pool;
      nodes = λ j. r.nodes j ∙ put_both n w.node u.nodes s.nodes shows.nodes j;
    })

    -- what a node's event carries of the machine: nothing
    idle : (n : NodeId) (heard : Option Message) (p : Plain sha u s e n heard) (said : NodeNote) (sends : List Message) → NoneTold sends → Carried (sha []) u e (event_note.Node said) sends u.machine
    idle n heard p said sends none = record {
      ended = subst (λ z. Ended z (EndsAt u e (event_note.Node said)) u.machine.ending) (sym p.finds) (none_ended u.machine (EndsAt u e (event_note.Node said)) (λ g y l h. p.ends said g y h));
      granted = λ g i. inl (subst (λ z. In (Granted g) z.made) (sym p.finds) i);
      sent = λ g i. absurd (none (message.Granted g) i);
      waits = λ q i. inl (subst (λ (z : Machine). In q z.parked) p.finds i);
      gone = λ j. inl (ap (λ (z : Machine). z.gone j) (sym p.finds));
      lives = λ j. ap (λ (z : Machine). z.lives j) (sym p.finds) ∙ sym (p.lives said (Finds u e).lives j);
      lines = λ x. ap (λ z. line (sha []) z x) (sym p.finds) ∙ sym (append-nil (line (sha []) (Finds u e) x)) ∙ ap (λ l. line (sha []) (Finds u e) x ++ l) (sym (p.adds said x));
      told = λ c q. (let bad : event_note.Node said ≡ event_note.Coord c = q in cc);
      did = p.coord said u.machine sends;
    }

    acted_next : (n : NodeId) (heard : Option Message) (p : Plain sha u s e n heard) (w : NodeWork) → Acted n w → ((r : EventRefusal) → Because k u s e r → ⊥) → Next u s e (moved n w s)
    acted_next n heard p w a fair = record {
      world = a.reached.world;
      moves = a.reached.moves;
      shows = reached_shows n w a.reached;
      means = record {
        sent = w.sends;
        count = refl;
        first = first_told w.sends;
        pool = a.reached.pool;
        down = inl a.reached.down;
        above = λ g i. inl (subst (λ (z : Machine). In (Granted g) z.made) (sym p.finds) (subst (λ (z : Machine). In (Granted g) z.made) a.reached.machine i));
        lowest = λ g i. inl (subst (λ (z : Machine). In (Granted g) z.made) (sym p.finds) (subst (λ (z : Machine). In (Granted g) z.made) a.reached.machine i));
        oldest = λ g i. inl (subst (λ (z : Machine). In (Granted g) z.made) (sym p.finds) (subst (λ (z : Machine). In (Granted g) z.made) a.reached.machine i));
        queue = inl (subst (HasPart (Finds u e).parked) (ap (λ (z : Machine). z.parked) p.finds ∙ ap (λ (z : Machine). z.parked) (sym a.reached.machine)) (part_refl (Finds u e).parked));
        replies = λ y i. absurd (a.reached.tells y i);
        tickets = subst (λ z. FewTickets e (Finds u e).last (length w.sends) z) (ap (λ (z : Machine). z.last) p.finds ∙ ap (λ (z : Machine). z.last) (sym a.reached.machine)) (p.rises (Finds u e).last (length w.sends));
        recalled = λ j l t i. absurd (a.reached.tells (message.Recall j l t) i);
        denied = λ j l b y i. absurd (a.reached.tells (message.Denied j l b y) i);
        carried = subst (λ z. Carried (sha []) u e (event_note.Node w.note) w.sends z) (sym a.reached.machine) (idle n heard p w.note w.sends a.reached.tells);
        node = λ said is. (
          a.reached.machine,
          (
            n,
            p.at,
            subst (λ z. NodeMeans sha k s.size (heard_at u e) e n (u.nodes n.0) said w.sends z) (sym (here_after n w.sends w.node a.reached)) (subst (λ z. NodeMeans sha k s.size (heard_at u e) e n (u.nodes n.0) z w.sends w.node) (note_is w.note said is) a.means),
          ),
        );
        others = λ j. elim (cases_eq j.0 n.0) [ inl same ↦ inr (p.at ∙ ap Some (sym (node_is j n same))) | inr ne ↦ inl (elsewhere_after n w.sends w.node a.reached j ne) ];
        used = a.used;
        did = a.did;
      };
      fair = fair;
      fits = λ f. record { now = λ g i. f.now g (subst (λ (z : Machine). In (Granted g) z.made) a.reached.machine i); kept = λ x e. f.kept x (sym a.reached.down ∙ e) };
    }
      where
        note_is : (a b : NodeNote) → event_note.Node a ≡ event_note.Node b → a ≡ b
        note_is a b e = cc

    -- what a node accepts, nothing speaks against
    node_taken : (n : NodeId) (heard : Option Message) (p : Plain sha u s e n heard) → is_node s n ≡ true → ((r : NodeRefusal) → NodeBecause k e (u.nodes n.0) r → ⊥) → (r : EventRefusal) → Because k u s e r → ⊥
    node_taken n heard p here exact refusal.NoSuchMessage (number, is, none) = none_some n (ap addressee (sym none) ∙ subst (λ z. node_at u z ≡ Some n) is p.at)
    node_taken n heard p here exact refusal.NoSuchNode (m, inl at, none) = none (subst (IsThere s) (some_is n m (sym p.at ∙ at)) (there_is s n here))
    node_taken n heard p here exact refusal.NoSuchNode (m, inr is, none) = none_some n (subst (λ z. node_at u z ≡ Some n) is p.at)
    node_taken n heard p here exact (refusal.Node r) (m, at, there, why) = exact r (subst (λ (z : NodeId). NodeBecause k e (u.nodes z.0) r) (some_is m n (sym at ∙ p.at)) why)
    node_taken n heard p here exact (refusal.Coord r) (reaches, why) = p.apart reaches
    node_taken n heard p here exact refusal.OutOfMemory why = why

    abbrev OnAct : NodeId → NodeAnswer → Type 0
    OnAct n (Ok w) = Acted n w × ((r : NodeRefusal) → NodeBecause k e (u.nodes n.0) r → ⊥)
    OnAct n (Err r) = NodeBecause k e (u.nodes n.0) r

    answered_next : (n : NodeId) (heard : Option Message) (p : Plain sha u s e n heard) (a : NodeAnswer) → is_node s n ≡ true → OnAct n a → Next u s e (answered n a s)
    answered_next n heard p (Err r) here h = refused_so (refusal.Node r) (n, p.at, there_is s n here, h)
    answered_next n heard p (Ok w) here h = acted_next n heard p w h.0 (node_taken n heard p here h.1)

    at_node_next : (b : Bool) (n : NodeId) (heard : Option Message) (p : Plain sha u s e n heard) (a : NodeAnswer) → is_node s n ≡ b → OnAct n a → Next u s e (at_node b n a s)
    at_node_next true n heard p a here h = answered_next n heard p a here h
    at_node_next false n heard p a here h = refused_so refusal.NoSuchNode (n, inl p.at, not_there s n here)

    -- what a node does at the world's node, it does at the farm's
    node_next : (n : NodeId) (heard : Option Message) (p : Plain sha u s e n heard) (f : Place → Node → NodeAnswer) → OnAct n (f (record { node = n; nodes = s.size }) (u.nodes n.0)) → Next u s e (node_does n f s)
    node_next n heard p f h = at_node_next (is_node s n) n heard p (f (record { node = n; nodes = s.size }) (s.nodes n.0)) refl (subst (λ x. OnAct n (f (record { node = n; nodes = s.size }) x)) (shows.nodes n.0) h)

    one_here : (n : NodeId) → OneEach (u.nodes n.0).asks
    one_here n = one_each sha u inv n

    abbrev Exact : NodeId → Option Message → NodeAnswer → Type 0
    Exact n heard a = noting.Exact sha k n s.size (u.nodes n.0) (one_here n) heard e a

    -- all that is known of an answer
    act_of : (P : NodeWork → Type 0) (n : NodeId) (heard : Option Message) (p : Plain sha u s e n heard) (a : NodeAnswer) → OnAnswer sha u n a → OnNode (u.nodes n.0) (one_here n) P a → Exact n heard a
        → ((w : NodeWork) (r : Reached sha u n w.sends w.node) → P w → Used u e r.world × Did u e (event_note.Node w.note) r.world) → OnAct n a
    act_of P n heard p (Ok w) r q x h = (
      record { reached = r; means = subst (λ z. NodeMeans sha k s.size z e n (u.nodes n.0) w.note w.sends w.node) (sym p.heard) x.0; used = (h w r q).0; did = (h w r q).1 },
      x.1,
    )
    act_of P n heard p (Err y) r q x h = x

    abbrev Still' : NodeId → NodeWork → Type 0
    Still' n w = Quiet (u.nodes n.0).asks w.node.asks

    -- an answer of a node that begins and ends no execution
    quiet_act : (n : NodeId) (heard : Option Message) (p : Plain sha u s e n heard) (a : NodeAnswer) → noting.OnNote (λ c. (v : World) → Did u e (event_note.Node c) v) a → OnAnswer sha u n a → OnNode (u.nodes n.0) (one_here n) (Still' n) a → Exact n heard a → OnAct n a
    quiet_act n heard p (Ok w) did r q x = act_of (λ v. Still' n v × ((z : World) → Did u e (event_note.Node v.note) z)) n heard p (Ok w) r (q, did) x (λ v reached both. (used_after n v.sends v.node reached NoGrant NoGrant both.0 (λ g h. absurd h) (λ g h. absurd h), both.1 reached.world))
    quiet_act n heard p (Err y) did r q x = x

    -- what holds of each note, or follows of it
    any_note : ((c : NodeNote) (v : World) → Did u e (event_note.Node c) v) → (a : NodeAnswer) → noting.OnNote (λ c. (v : World) → Did u e (event_note.Node c) v) a
    any_note h (Ok w) = h w.note
    any_note h (Err y) = tt

    note_map : (P : NodeNote → Type 0) → ((c : NodeNote) → P c → (v : World) → Did u e (event_note.Node c) v) → (a : NodeAnswer) → noting.OnNote P a → noting.OnNote (λ c. (v : World) → Did u e (event_note.Node c) v) a
    note_map P f (Ok w) h = f w.note h
    note_map P f (Err y) h = tt

    all_ok : (r : Result Work CoordRefusal) → others.OnOk k farm.instances u.pool u.machine sound_in (sent_in sha u inv) (λ w. ⊤) r
    all_ok (Ok w) = tt
    all_ok (Err x) = tt

    others_ok : (ends : Grant → Ending → Type 0) (so : Work → Type 0) (change : CoordNote → saying.Change s.ledger) (r : Result Work CoordRefusal) → others.OnWork k farm.instances u.pool u.machine sound_in (sent_in sha u inv) ends r
        → others.OnOk k farm.instances u.pool u.machine sound_in (sent_in sha u inv) so r → ((w : Work) → At ends w.note w → so w → Grew k s.ledger (change w.note) w → (w.changed ≡ false → saves w.ledger ≡ saves s.ledger) → Denies w × recalling.Properly w × FitsSends w × Orders w → Done (event_note.Coord w.note) w (change w.note))
        → saying.GrewOk k s.ledger change r → SavesOk k s.ledger r → DeniesOk r → changing.DiffersOk k s.ledger apart_in r → deciding.Exact k u.pool u.machine sound_in s.ledger agrees_in e r → OnWork change r
    others_ok ends so change (Ok w) f h d g c b v x = (d w f h g c b, x, λ t. changing.differs_is s.ledger w.ledger apart_in (v t))
    others_ok ends so change (Err r) f h d g c b v x = x

    other_ends : (ends ends' : Grant → Ending → Type 0) (w : Work) → ((g : Grant) (y : Ending) → ends g y → ends' g y) → ((g : Grant) (y : Ending) → ends' g y → ends g y) → At ends w.note w → At ends' w.note w
    other_ends ends ends' w to from f = record { machine = f.machine; works = f.works; granted = f.granted; ended = (ended_as u.machine ends ends' f.machine.ending to from f.ended.0, f.ended.1); agrees = f.agrees }

  -- ---- deliveries

  coord_is : (a b : CoordNote) → event_note.Coord a ≡ event_note.Coord b → a ≡ b
  coord_is a b e = cc

  said_is : (a b : ToCoord) → Some (Said a) ≡ Some (Said b) → a ≡ b
  said_is a b e = cc

  lt_is : (a b : ℕ) → nat_lt a b ≡ true → a < b
  lt_is a b h = grind (arith, nat_tests)

  -- what the answer to a message says of the machine
  note_means : (u : World) (run : Moves sha (start sha) u) (s : Farm) (shows : Shows sha u s) (number : ℕ) (y : ToCoord) → In (Said y) u.pool → (w : Work) (m : Machine) → Sound k.empty m → Agrees k.empty u.pool m w.ledger → (c : CoordNote) → saying.NoteSays k y s.ledger w c → MessageMeans k.empty y u.machine c m (map Told w.sends)
  note_means u run s shows number y came w m sound agrees = by
    where
      e : Event
      e = Deliver number

      -- an ask for a tenure wants its folder alone
      sent_tenure : (a : Ask) (wants : List Want) → y.request ≡ request.Acquire a wants true → (f : FolderName) × (wants ≡ tenure_wants f)
      sent_tenure a wants asks = (sent_in sha u (inv u run s shows e)).tenures y.node y.life a wants true (subst (λ (z : Request). In (Said (record { node = y.node; life = y.life; request = z })) u.pool) asks came) refl

      another_not : (o : Option NodeId) → ((h : NodeId) → o ≡ Some h → h.0 ≡ y.node.0) → another o y.node ≡ false
      another_not None here = refl
      another_not (Some h) here = (let t : eqb h.0 y.node.0 ≡ true = subst (λ z. eqb h.0 z ≡ true) (here h refl) (eqb_same h.0) in rw t refl)

      not_elsewhere : ((h : NodeId) → m.old_home ≡ Some h → h.0 ≡ y.node.0) → another w.ledger.old_home y.node ≡ false
      not_elsewhere here = another_not w.ledger.old_home (λ h at. here h (sym agrees.old_home ∙ at))

      live : (h : Lease) → In h w.ledger.live → Live m (grant_of k.empty w.ledger.line h)
      live h i = live_grant u run s shows e w m sound agrees h i

      asks : (g : Grant) (h : Lease) → g ≡ grant_of k.empty w.ledger.line h → (h.node ≡ y.node) × (h.life ≡ y.life) × ((wants : List Want) × (tenure : Bool) × (y.request ≡ request.Acquire h.ask wants tenure)) → Asks y g
      asks g h is a = (
        ap (λ (z : Grant). z.node) is ∙ a.0,
        ap (λ (z : Grant). z.life) is ∙ a.1,
        (a.2.0, a.2.1, a.2.2 ∙ ap (λ (z : Grant). request.Acquire z.ask a.2.0 a.2.1) (sym is)),
      )

      -- the lease of the tenure that is asked for is the one that is found
      recalls_so : saying.Recalled k y s.ledger w → Recalls y u.machine m (map Told w.sends)
      recalls_so r a wants asks new here g x live i shared has =
          let q : Ledger = s.ledger in
          let now = agrees_in u run s shows e in
          let p : Parked = record { node = y.node; life = y.life; ask = a; wants = wants; tenure = true } in
          let fresh : is_parked q.parked y.node y.life a ≡ false = elim (cases_Bool (is_parked q.parked y.node y.life a)) [
            | inr f ↦ f
            | inl t ↦ (let z = from_any (λ (x : Parked). (eqb x.node.0 y.node.0) && (eqb x.life.0 y.life.0) && (eqb x.ask.0 a.0)) q.parked t in
                let names = wanting.names_are z.0.node y.node z.0.life y.life z.0.ask a z.2 in
                absurd (new z.0 (subst (In z.0) now.parked z.1) names))
          ] in
          let f : FolderName = (sent_tenure a wants asks).0 in
          let only : x.folder ≡ record f { mode = Shared } = ap (λ (z : Want). z.folder) (in_one x (record { folder = record f { mode = Shared }; writable = true }) (subst (In x) (sent_tenure a wants asks).1 i)) in
          let holds : holds_wanted p (lease_from g) ≡ true = any_in (λ (v : Want). has_slot (lease_from g).slots (only_slot v.folder)) x (leased_wants true wants) (wanting.leased_in true x wants i (ap (takes_slot true) shared)) (lease_has g (only_slot x.folder) has) in
          let found = find_in (holds_wanted p) w.ledger.live (lease_from g) (agrees.live_kept g live) holds in
          let fs = find_some (holds_wanted p) w.ledger.live found.0 found.1 in
          let h = agrees.live_made found.0 fs.0 in
          let want = from_any (λ (v : Want). has_slot found.0.slots (only_slot v.folder)) (leased_wants true wants) fs.1 in
          let want-in = wanting.leased_from true want.0 wants want.1 in
          let only' : want.0.folder ≡ record f { mode = Shared } = ap (λ (z : Want). z.folder) (in_one want.0 (record { folder = record f { mode = Shared }; writable = true }) (subst (In want.0) (sent_tenure a wants asks).1 want-in.0)) in
          let has' : Has h.0 (only_slot x.folder) = subst (λ z. Has h.0 (only_slot z)) (only' ∙ sym only) (has_lease h.0 (only_slot want.0.folder) (subst (λ (z : Lease). has_slot z.slots (only_slot want.0.folder) ≡ true) (sym h.2) want.2)) in
          let same : h.0 ≡ g = live_apart k.empty m sound h.0 g (only_slot x.folder) h.1 live has' has in
          let sent = r a wants asks fresh (not_elsewhere here) found.0 found.1 in
          in_map Told (message.Recall g.node g.life g.ticket) w.sends (subst (λ (z : Lease). In (message.Recall z.node z.life z.ticket) w.sends) (sym h.2 ∙ ap lease_from same) sent)

      -- the lease of a live grant is found by its ticket, and is the grant's
      not_held : (t : Ticket) → (lease_under w.ledger.live t ≡ None) ⊎ ((h : Lease) × In h w.ledger.live × (h.ticket.0 ≡ t.0) × (is_its y.node y.life h ≡ false)) → (g : Grant) → Live m g → g.ticket ≡ t → g.node ≡ y.node → g.life ≡ y.life → ⊥
      not_held t (inl none) g live at n l = true_false (has_ticket t (lease_from g)) (subst (λ (z : Ticket). eqb g.ticket.0 z.0 ≡ true) at (eqb_same g.ticket.0)) (find_none (has_ticket t) w.ledger.live none (lease_from g) (agrees.live_kept g live))
      not_held t (inr (h, i, has, other)) g live at n l =
          (let x = agrees.live_made h i in
          let same : x.0 ≡ g = same_grant k.empty m sound x.0 g x.1.0 live.0 (ap (λ (z : Lease). z.ticket.0) x.2 ∙ has ∙ sym (ap (λ (z : Ticket). z.0) at)) in
          let is : lease_from g ≡ h = ap lease_from (sym same) ∙ x.2 in
          let p : eqb g.node.0 y.node.0 ≡ true = subst (λ (z : NodeId). eqb g.node.0 z.0 ≡ true) n (eqb_same g.node.0) in
          let q : eqb g.life.0 y.life.0 ≡ true = subst (λ (z : Life). eqb g.life.0 z.0 ≡ true) l (eqb_same g.life.0) in
          true_false (is_its y.node y.life (lease_from g)) (rw (p, q) refl) (ap (is_its y.node y.life) is ∙ other))

      here : (f : ℕ → Bool) → f ≡ u.machine.gone → (b : Bool) → f y.node.0 ≡ b → u.machine.gone y.node.0 ≡ b
      here f is b e = sym (ap (λ (z : ℕ → Bool). z y.node.0) is) ∙ e

      by : (c : CoordNote) → saying.NoteSays k y s.ledger w c → MessageMeans k.empty y u.machine c m (map Told w.sends)
      by (coord_note.Granted g) ((h, i, is, a, sent), above) = (asks g h is a, subst (Live m) (sym is) (live h i), not_made u run s shows e g above, in_map Told (message.Granted g) w.sends sent)
      by (coord_note.GrantedBefore g) (h, i, is, a, sent) = (asks g h is a, subst (Live m) (sym is) (live h i), in_map Told (message.Granted g) w.sends sent)
      by coord_note.Parked (p, i, a, r) = (p, subst (In p) agrees.parked i, a.0, a.1, a.2, recalls_so r)
      by (coord_note.Committed t) (news, is, (vs, sent, slots)) = (news, is, (vs, in_map Told (message.Committed y.node y.life t vs) w.sends sent, slots))
      by (coord_note.CommittedBefore t) (news, is, on, (vs, sent, slots)) = (
        news,
        is,
        (on.0, λ x i. (let r = on.1 x i in (r.0, subst (In r.0) (agrees.lines x.slot) r.1, r.2))),
        (vs, in_map Told (message.Committed y.node y.life t vs) w.sends sent, slots),
      )
      by (coord_note.Fenced t) (news, is, sent) = (news, is, in_map Told (message.Fenced y.node y.life t) w.sends sent)
      by (coord_note.Released t) is = is
      by (coord_note.Denied why) (a, wants, tenure, is, sent) = (a, wants, tenure, is, in_map Told (message.Denied y.node y.life a why) w.sends sent)
      by coord_note.OldLife (gone, lt, none) = (here s.ledger.gone (agrees_in u run s shows e).gone false gone, subst (λ (f : ℕ → ℕ). y.life.0 < f y.node.0) (agrees_in u run s shows e).lives lt, ap (map Told) none)
      by coord_note.NodeRetired (gone, none) = (here s.ledger.gone (agrees_in u run s shows e).gone true gone, ap (map Told) none)
      by coord_note.Nothing (inl is) = inl is
      by coord_note.Nothing (inr (t, is, unheld)) = inr (t, is, λ g live at n l. not_held t unheld g live at n l)
      by (coord_note.Withdrawn t) is = is
      by (coord_note.Pruned t) is = is
      by (coord_note.Retired n) is = is
      by coord_note.Nudged is = is

  -- what a message changes of the ledger
  pub handled_grew : (u : World) (run : Moves sha (start sha) u) (s : Farm) (shows : Shows sha u s) (y : ToCoord) → Grew k s.ledger (saying.Changes k y s.ledger (handled k y (begin_work s.ledger)).note) (handled k y (begin_work s.ledger))
  handled_grew u run s shows y =
      (saying.handled_says k y s.ledger (others.retried-newer k farm.instances u.pool u.machine (sound_in u run s shows Nudge) (sent_in sha u (inv u run s shows Nudge)) y.node y.life (begin_work s.ledger))).grew

  -- a newer life that is heard is kept
  heard_is : (y : ToCoord) (lives : ℕ → ℕ) (c : CoordNote) → (c ≡ coord_note.OldLife → ⊥) → (c ≡ coord_note.NodeRetired → ⊥) → heard_lives y c lives ≡ put y.node.0 y.life.0 lives
  heard_is y lives coord_note.OldLife old gone = absurd (old refl)
  heard_is y lives coord_note.NodeRetired old gone = absurd (gone refl)
  heard_is y lives c old gone = refl

  said_next : (u : World) (run : Moves sha (start sha) u) (s : Farm) (shows : Shows sha u s) (number : ℕ) (y : ToCoord) → nth s.pool number ≡ Some (Said y) → Next u s (Deliver number) (coordinated s.down (Ok (handled k y (begin_work s.ledger))) s)
  said_next u run s shows number y e =
      let d : Event = Deliver number in
      let here : nth u.pool number ≡ Some (Said y) = ap (λ (p : List Message). nth p number) shows.pool ∙ e in
      let w : Work = handled k y (begin_work s.ledger) in
      let f = others.handled_follows k farm.instances u.pool u.machine (sound_in u run s shows d) (sent_in sha u (inv u run s shows d)) y s.ledger (agrees_in u run s shows d) (nth_in u.pool number (Said y) here) in
      let says = saying.handled_says k y s.ledger (others.retried-newer k farm.instances u.pool u.machine (sound_in u run s shows d) (sent_in sha u (inv u run s shows d)) y.node y.life (begin_work s.ledger)) in
      coordinated_next u run s shows d (saying.Changes k y s.ledger) s.down (Ok w) refl
      (record {
        heard = λ m is none. none_some (Said y) (sym none ∙ ap (nth u.pool) (sym (deliver_is number m is)) ∙ here);
        node = λ n at. none_some n (ap addressee (sym here) ∙ at);
        retires = λ n is. (let bad : Deliver number ≡ Retire n = is in absurd (cc));
        reaches = (y, here);
      })
      (ap (message_decision k s) e)
      ((λ h. h), (λ h. h)) (
        record {
          finds = refl;
          follows = other_ends u run s shows d (MessageEnds u.machine y w.note) (EndsAt u d (event_note.Coord w.note)) w
              (λ g z h. (w.note, y, refl, here, h))
              (λ g z h. subst (λ (x : ToCoord). MessageEnds u.machine x w.note g z) (said_is h.1 y (sym h.3 ∙ here)) (subst (λ c. MessageEnds u.machine h.1 c g z) (sym (coord_is w.note h.0 h.2)) h.4))
              f;
          tells = λ c p. sym (coord_is w.note c p);
          grew = says.grew;
          line = λ x. ap (λ o. s.ledger.line x ++ message_adds o (event_note.Coord w.note) x) (sym here);
          lives = λ n. ap (λ o. message_lives o (event_note.Coord w.note) s.ledger.lives n) (sym here);
          gone = λ n. inl refl;
          drops = λ p left. (y, here, left.0, left.1);
          again = λ g h. h;
          coord = λ m sound agrees x at. (w.note, refl, subst (λ (z : ToCoord). MessageMeans k.empty z u.machine w.note m (map Told w.sends)) (said_is y x (sym here ∙ at)) (note_means u run s shows number y (nth_in u.pool number (Said y) here) w m sound agrees w.note says.says));
          did = λ v. subst (λ o. Hears o (event_note.Coord w.note)) (sym here) tt;
          node = λ n is. (let bad : event_note.Coord w.note ≡ event_note.Node n = is in cc);
          saves_all = handled_saves k s.ledger y (apart_in u run s shows d);
          recalls = recalling.handled_properly k s.ledger y;
          fits = λ all g i. (fitting.handled_w k y (begin_work s.ledger) (begin_fits u run s shows d all)).sends (message.Granted g) i;
          orders = (
            ordering.handled_orderly k s.ledger (DropsAt u.pool d) (apart_in u run s shows d).top y
                (λ p t. (let b = and_parts (eqb p.node.0 y.node.0) (nat_lt p.life.0 y.life.0) t in (y, here, node_is p.node y.node (eqb-true p.node.0 y.node.0 b.0), lt_is p.life.0 y.life.0 b.1)))
                (λ t. denials.newer_none k u.pool s.ledger (agrees_in u run s shows d).waits (asked_in u run s shows d) (known_in u run s shows d) (agrees_in u run s shows d).seen y (lt_is (s.ledger.lives y.node.0) y.life.0 t)),
            ordering.handled_queue k s.ledger (Brings u run s shows d) (known_in u run s shows d) y (λ a ws t r. here ∙ (λ i. Some (Said (record { node = y.node; life = y.life; request = r i })))),
            replying.handled_replying k s.ledger (Due u run s shows d) (IsCommit u d) (due_in u run s shows d) y
                (λ a ws t r. inr (ws, t, here ∙ (λ i. Some (Said (record { node = y.node; life = y.life; request = r i })))))
                (λ t news r. (news, here ∙ (λ i. Some (Said (record { node = y.node; life = y.life; request = r i }))))),
          );
          noted = λ c p. inl (ap event_note.Coord p);
          rises = λ a b n le. (let le' : b ≤ a + 0 + n = le in omega arith);
          denies = fine_denies u run s shows d w (denials.handled_fine k u.pool s.ledger (agrees_in u run s shows d).waits (asked_in u run s shows d) (known_in u run s shows d) (agrees_in u run s shows d).seen y (nth_in u.pool number (Said y) here));
        },
        λ r h. none r h,
        λ t. changing.differs_is s.ledger w.ledger (apart_in u run s shows d) (elim (cases_Bool (nat_lt (s.ledger.lives y.node.0) y.life.0)) [
          | inr seen ↦ changing.handled_differs k s.ledger (apart_in u run s shows d) y seen t
          | inl newer ↦ elim (cases_Bool (s.ledger.gone y.node.0)) [
            | inl gone ↦ true_false w.changed t (changing.gone_same k s.ledger (apart_in u run s shows d) y gone)
            | inr here' ↦ changing.By_life y.node.0 (let lt : s.ledger.lives y.node.0 < y.life.0 = lt_is (s.ledger.lives y.node.0) y.life.0 newer in
                let kept : w.ledger.lives y.node.0 ≡ y.life.0 = says.grew.lives y.node.0
                ∙ ap (λ (f : ℕ → ℕ). f y.node.0) (heard_is y s.ledger.lives w.note (λ is. not_old lt (subst (saying.NoteSays k y s.ledger w) is says.says)) (λ is. not_gone here' (subst (saying.NoteSays k y s.ledger w) is says.says)))
                ∙ put_same y.node.0 y.life.0 s.ledger.lives in
                omega arith)
          ]
        ]),
      )
    where
      not_old : s.ledger.lives y.node.0 < y.life.0 → saying.NoteSays k y s.ledger (handled k y (begin_work s.ledger)) coord_note.OldLife → ⊥
      not_old lt says = (let gt : y.life.0 < s.ledger.lives y.node.0 = says.1 in omega arith)

      not_gone : s.ledger.gone y.node.0 ≡ false → saying.NoteSays k y s.ledger (handled k y (begin_work s.ledger)) coord_note.NodeRetired → ⊥
      not_gone here says = true_false (s.ledger.gone y.node.0) says.0 here

      deliver_is : (a b : ℕ) → Deliver a ≡ Deliver b → a ≡ b
      deliver_is a b e = cc

      none : (r : CoordRefusal) → CallBecause k u.machine (Deliver number) r → ⊥
      none r h = h

  -- a message for a node
  node_plain : (u : World) (s : Farm) (number : ℕ) (n : NodeId) (m : Message) → nth u.pool number ≡ Some m → addressee (Some m) ≡ Some n → Plain sha u s (Deliver number) n (Some m)
  node_plain u s number n m here to = record {
    finds = refl;
    rises = λ a n. omega arith;
    ends = λ said g y h. (let bad : event_note.Node said ≡ event_note.Coord h.0 = h.2 in cc);
    adds = λ said x. no_adds (nth u.pool number) said x;
    lives = λ said f j. no_lives (nth u.pool number) said f j;
    coord = λ said v sends y is. absurd (not_said y (some_is (Said y) m (sym is ∙ here)) to);
    at = ap addressee here ∙ to;
    heard = here;
    apart = λ r. not_said r.0 (some_is (Said r.0) m (sym r.1 ∙ here)) to;
  }
    where
      not_said : (y : ToCoord) → Said y ≡ m → addressee (Some m) ≡ Some n → ⊥
      not_said y is to = none_some n (subst (λ z. addressee (Some z) ≡ Some n) (sym is) to)

  delivered_next : (u : World) (run : Moves sha (start sha) u) (s : Farm) (shows : Shows sha u s) (o : Option Message) (number : ℕ) → nth s.pool number ≡ o → Next u s (Deliver number) (delivered sha k o s)
  delivered_next u run s shows None number e = refused_so u run s shows (Deliver number) refusal.NoSuchMessage (number, refl, ap (λ (p : List Message). nth p number) shows.pool ∙ e)
  delivered_next u run s shows (Some (to.ToCoord y)) number e = said_next u run s shows number y e
  delivered_next u run s shows (Some (to.ToNode (to_node.FromCoord y))) number e =
      let i : In (Told y) u.pool = subst (In (Told y)) (sym shows.pool) (nth_in s.pool number (Told y) e) in
      let n : NodeId = told_to y in
      let d : Event = Deliver number in
      let p = node_plain u s number n (Told y) (ap (λ (p : List Message). nth p number) shows.pool ∙ e) refl in
      node_next u run s shows d n (Some (Told y)) p (λ p x. unless_spent x (heard k p y x))
      (quiet_act u run s shows d n (Some (Told y)) p _ (any_note u run s shows d (λ x v. subst (λ o. Hears o (event_note.Node x)) (sym p.heard) (x, refl)) _) (spent_does sha u n (heard k (record { node = n; nodes = s.size }) y (u.nodes n.0)) (heard_does sha u k s.size y i))
      (heard_use (u.nodes n.0) (one_here u run s shows d n) k (record { node = n; nodes = s.size }) y)
      (noting.heard_exact sha k n s.size (u.nodes n.0) (one_here u run s shows d n) y number refl))
  delivered_next u run s shows (Some (to.ToNode (to_node.Fetch y))) number e =
      let n : NodeId = y.node in
      let d : Event = Deliver number in
      let p = node_plain u s number n (Fetches y) (ap (λ (p : List Message). nth p number) shows.pool ∙ e) refl in
      node_next u run s shows d n (Some (Fetches y)) p (λ p x. unless_spent x (fetched y.from x (x.store y.digest)))
      (quiet_act u run s shows d n (Some (Fetches y)) p _ (any_note u run s shows d (λ x v. subst (λ o. Hears o (event_note.Node x)) (sym p.heard) (x, refl)) _) (spent_does sha u n _ (fetched_does sha u n y.from ((u.nodes n.0).store y.digest)))
      (fetched_use (u.nodes n.0) (one_here u run s shows d n) y.from ((u.nodes n.0).store y.digest))
      (noting.fetched_exact sha k n s.size (u.nodes n.0) (one_here u run s shows d n) y number))
  delivered_next u run s shows (Some (to.ToNode (to_node.Blob n c))) number e =
      let d : Event = Deliver number in
      let p = node_plain u s number n (Blob n c) (ap (λ (p : List Message). nth p number) shows.pool ∙ e) refl in
      node_next u run s shows d n (Some (Blob n c)) p (λ p x. unless_spent x (brought sha c x))
      (quiet_act u run s shows d n (Some (Blob n c)) p _ (any_note u run s shows d (λ x v. subst (λ o. Hears o (event_note.Node x)) (sym p.heard) (x, refl)) _) (spent_does sha u n _ (brought_does sha u n c)) (brought_use (u.nodes n.0) (one_here u run s shows d n) sha c)
      (noting.brought_exact sha k n s.size (u.nodes n.0) (one_here u run s shows d n) number c))

  -- ---- a restart of the coordinator

  -- what is read of a record is what its ledger is read again as
  reread_saved : (q : Ledger) (r : Saved) → r ≡ saves q → r ≡ saves (reads r)
  reread_saved q r e = subst (λ z. z ≡ saves (reads z)) (sym e) (ap (λ l. record (saves q) { live = l }) (sym (saved_twice q.live)))

  -- nothing speaks against a restart of the coordinator
  always : (u : World) (s : Farm) (r : EventRefusal) → Because k u s RestartCoordinator r → ⊥
  always u s refusal.NoSuchMessage (number, is, none) = (let bad : RestartCoordinator ≡ Deliver number = is in cc)
  always u s refusal.NoSuchNode (n, inl at, none) = none_some n at
  always u s refusal.NoSuchNode (n, inr is, none) = (let bad : RestartCoordinator ≡ Retire n = is in cc)
  always u s (refusal.Node r) (n, at, here, why) = none_some n at
  always u s (refusal.Coord r) (reaches, why) = reaches
  always u s refusal.OutOfMemory why = why

  armed_always : (u : World) (s : Farm) (kept : Kept) (r : EventRefusal) → Because k u s (FailSave kept) r → ⊥
  armed_always u s kept refusal.NoSuchMessage (number, is, none) = (let bad : FailSave kept ≡ Deliver number = is in cc)
  armed_always u s kept refusal.NoSuchNode (n, inl at, none) = none_some n at
  armed_always u s kept refusal.NoSuchNode (n, inr is, none) = (let bad : FailSave kept ≡ Retire n = is in cc)
  armed_always u s kept (refusal.Node r) (n, at, here, why) = none_some n at
  armed_always u s kept (refusal.Coord r) (reaches, why) = reaches
  armed_always u s kept refusal.OutOfMemory why = why

  reread_next : (u : World) (run : Moves sha (start sha) u) (s : Farm) (shows : Shows sha u s) → s.down ≡ false → Next u s RestartCoordinator (done event_note.Restarted [] s (record s { ledger = reads s.saved; down = false }))
  reread_next u run s shows e =
      let same : s.saved ≡ saves s.ledger = up_saved u run s shows RestartCoordinator e in
      let f = others.reread_follows k farm.instances u.pool u.machine (sound_in u run s shows RestartCoordinator) (sent_in sha u (inv u run s shows RestartCoordinator)) s.ledger (agrees_in u run s shows RestartCoordinator) in
      let w : Ledger → Work = λ q. record (begin_work s.ledger) { ledger = q; changed = true } in
      let f' = subst (λ r. Follows k.empty u.pool u.machine (Meant u.machine RestartEnds coord_note.Nothing) (w (reads r))) (sym same) f in
      let next = after_next u run s shows RestartCoordinator s.saved event_note.Restarted (w (reads s.saved)) (record { tickets = 64; line = s.ledger.line; lives = s.ledger.lives; gone = s.ledger.gone; drops = λ p. ⊤ }) (reread_saved s.ledger s.saved same)
      (record {
        finds = ap (recorded u.machine) (up_is u run s shows RestartCoordinator e);
        follows = f';
        tells = λ c p. (let bad : event_note.Restarted ≡ event_note.Coord c = p in cc);
        grew = record {
          count = (let ceiling : s.saved.ceiling ≡ s.ledger.ceiling = ap (λ (r : Saved). r.ceiling) same in let block : s.ledger.ceiling ≤ s.ledger.last + 64 = shows.now.block in omega arith);
          lines = λ x. ap (λ (r : Saved). r.line x) same;
          lives = λ n. ap (λ (r : Saved). r.lives n) same;
          gone = λ n. ap (λ (r : Saved). r.gone n) same;
          grants = λ g i. absurd i;
          waits = λ p i. inr (inr tt);
        };
        line = λ x. sym (append-nil (s.ledger.line x));
        lives = λ n. refl;
        gone = λ n. inl refl;
        drops = λ p left. tt;
        again = λ g h. absurd h;
        coord = λ m sound agrees. refl;
        did = λ v. tt;
        node = λ n is. (let bad : event_note.Restarted ≡ event_note.Node n = is in cc);
        saves_all = λ c. (let bad : true ≡ false = c in cc);
        denies = λ m agrees n l a y i. absurd i;
        recalls = λ n l t i. absurd i;
        fits = λ all g i. absurd i;
        orders = (record { sends = λ g i. absurd i; new = λ h i. inl ((apart_in u run s shows RestartCoordinator).top h (from_filter is_saved h s.ledger.live (subst (λ (r : Saved). In h r.live) same i)).0) }, inl (part_none s.ledger.parked), λ m i. absurd i);
        noted = λ c p. inr (sym p);
        rises = λ a b n le. (let le' : b ≤ a + 64 + n = le in omega arith);
      }) e (always u s) in
      record {
        world = next.world;
        moves = next.moves;
        shows = record {
          now = next.shows.now;
          saved = saved_as (sha []) next.world.pool next.world.down (record s { ledger = reads s.saved; pool = s.pool ++ [] }) (record s { ledger = reads s.saved; down = false }) (sym e) refl refl next.shows.saved;
          pool = next.shows.pool ∙ append-nil s.pool;
          nodes = next.shows.nodes;
        };
        means = next.means;
        fair = next.fair;
        fits = next.fits;
      }

  -- what a restart finds where a save had failed
  replies_found : (u : World) (m : Machine) → u.down ≡ Some m → (told : EventNote) (y : FromCoord) → Replies (record u { machine = m; down = None }) RestartCoordinator told y → Replies u RestartCoordinator told y
  replies_found u m h told = by
    where
      due : (n : NodeId) (l : Life) (a : Ask) → IsDue (record u { machine = m; down = None }) RestartCoordinator n l a → IsDue u RestartCoordinator n l a
      due n l a (inl (p, i, is, life, ask)) = inl (p, subst (λ (z : Machine). In p z.parked) (sym (ap (recorded u.machine) h)) i, is, life, ask)
      due n l a (inr came) = inr came

      by : (y : FromCoord) → Replies (record u { machine = m; down = None }) RestartCoordinator told y → Replies u RestartCoordinator told y
      by (message.Granted g) (inl d) = inl (due g.node g.life g.ask d)
      by (message.Granted g) (inr is) = inr is
      by (message.Committed n l t versions) r = r
      by (message.Fenced n l t) r = r
      by (message.Denied n l a why) d = due n l a d
      by (message.Recall n l t) r = r

  -- the record is what the coordinator is then
  restart_next : (u : World) (run : Moves sha (start sha) u) (s : Farm) (shows : Shows sha u s) → Next u s RestartCoordinator (done event_note.Restarted [] s (record s { ledger = reads s.saved; down = false }))
  restart_next u run s shows = by u.down refl shows.saved
    where
      by : (d : Option Machine) → u.down ≡ d → SavedAgrees (sha []) u.pool d s → Next u s RestartCoordinator (done event_note.Restarted [] s (record s { ledger = reads s.saved; down = false }))
      by None h saved = reread_next u run s shows saved.0
      by (Some m) h (down, (q, agrees, same)) =
          let v : World = record u { machine = m; down = None } in
          let moves : Moves sha u v = Then u u v (Still u) (Recovers m h) in
          let t : Farm = record s { ledger = q; down = false } in
          let after = reread_next v (moves_trans sha (start sha) u v run moves) t (record { now = agrees; saved = (refl, same); pool = shows.pool; nodes = shows.nodes }) refl in
          record {
            world = after.world;
            moves = moves_trans sha u v after.world moves after.moves;
            shows = after.shows;
            means = record {
              sent = after.means.sent;
              count = after.means.count;
              first = after.means.first;
              pool = after.means.pool;
              down = inr (refl, elim after.means.down [ inl same ↦ same | inr none ↦ none.1 ]);
              above = λ g i. subst (λ (z : Machine). In (Granted g) z.made ⊎ ((z.last < g.ticket.0) × (g.ticket.0 ≤ after.world.machine.last))) (sym (ap (recorded u.machine) h)) (after.means.above g i);
              lowest = λ g i. subst (λ (z : Machine). In (Granted g) z.made ⊎ HasLowest after.world.machine g) (sym (ap (recorded u.machine) h)) (after.means.lowest g i);
              oldest = λ g i. subst (λ (z : Machine). In (Granted g) z.made ⊎ PassesOverNone k (DropsAt u.pool RestartCoordinator) z after.world.machine g) (sym (ap (recorded u.machine) h)) (after.means.oldest g i);
              queue = subst (λ (z : Machine). KeepsOrder u RestartCoordinator event_note.Restarted z.parked after.world.machine.parked) (sym (ap (recorded u.machine) h)) after.means.queue;
              replies = λ y i. replies_found u m h event_note.Restarted y (after.means.replies y i);
              tickets = subst (λ (z : Machine). FewTickets RestartCoordinator z.last (length after.means.sent) after.world.machine.last) (sym (ap (recorded u.machine) h)) after.means.tickets;
              recalled = after.means.recalled;
              denied = after.means.denied;
              carried = (let c = after.means.carried in let at = sym (ap (recorded u.machine) h) in record {
                ended = subst (λ z. Ended z RestartEnds after.world.machine.ending) at c.ended;
                granted = λ g i. subst (λ z. In (Granted g) z.made ⊎ In (Told (message.Granted g)) after.means.sent) at (c.granted g i);
                sent = λ g i. (let r = c.sent g i in (r.0, elim r.1 [ inl new ↦ inl (subst (λ z. In (Granted g) z.made → ⊥) at new) | inr again ↦ absurd again.0 ]));
                waits = λ p i. inr (inr tt);
                gone = λ j. elim (c.gone j) [ inl same ↦ inl (same ∙ ap (λ (z : Machine). z.gone j) at) | inr retires ↦ inr retires ];
                lives = λ j. c.lives j ∙ ap (λ (z : Machine). z.lives j) at;
                lines = λ x. c.lines x ∙ ap (λ z. line (sha []) z x ++ []) at;
                told = λ n p. (let bad : event_note.Restarted ≡ event_note.Coord n = p in cc);
                did = c.did;
              });
              node = λ n is. (let bad : event_note.Restarted ≡ event_note.Node n = is in cc);
              others = after.means.others;
              used = record { began = after.means.used.began; stopped = after.means.used.stopped };
              did = tt;
            };
            fair = always u s;
            fits = λ f. after.fits (record { now = f.kept m h; kept = λ x e. none_some x e });
          }

  -- ---- a restart of a node

  no_run : (g : Grant) (ws : List Want) → Runs [] g ws → ⊥
  no_run g ws (zero, r, i) = none_some (Running ws g r) i
  no_run g ws (suc a, r, i) = none_some (Running ws g r) i

  restart_plain : (u : World) (s : Farm) (n : NodeId) → Plain sha u s (RestartNode n) n None
  restart_plain u s n = record { finds = refl; rises = λ a n. omega arith; ends = λ said g y h. h; adds = λ said x. refl; lives = λ said f j. refl; coord = λ said m sends. tt; at = refl; heard = refl; apart = λ r. r }

  restarts_next : (u : World) (run : Moves sha (start sha) u) (s : Farm) (shows : Shows sha u s) (n : NodeId) → is_node s n ≡ true → Next u s (RestartNode n) (restarts k n s)
  restarts_next u run s shows n here = elim (cases_Bool (may_restart k (s.nodes n.0))) [
    | inl t ↦ rw t (let w : NodeWork = restarted (record { node = n; nodes = s.size }) (s.nodes n.0) in
        let r : Reached sha u n w.sends w.node = subst (λ x. Reached sha u n (restarted (record { node = n; nodes = s.size }) x).sends (restarted (record { node = n; nodes = s.size }) x).node) (shows.nodes n.0) (restarted_does sha u n s.size) in
        let p = restart_plain u s n in
        acted_next u run s shows (RestartNode n) n None p w (record {
          reached = r;
          means = subst (λ x. NodeMeans sha k s.size None (RestartNode n) n (u.nodes n.0) (restarted (record { node = n; nodes = s.size }) x).note (restarted (record { node = n; nodes = s.size }) x).sends (restarted (record { node = n; nodes = s.size }) x).node) (shows.nodes n.0) (refl, refl, refl, refl);
          used = used_after u run s shows (RestartNode n) n w.sends w.node r NoGrant (λ g. ⊤) (record { began = λ g ws i. absurd (no_run g ws i); stopped = λ g ws i. inr tt }) (λ g h. absurd h) (λ g h. refl);
          did = ((record { 0 = (s.nodes n.0).life.0 + 1 }, refl), λ g ws i. no_run g ws (subst (λ (z : Node). Runs z.asks g ws) (here_after u run s shows (RestartNode n) n w.sends w.node r) i));
        }) (node_taken u run s shows (RestartNode n) n None p here (λ y h. not_last (u.nodes n.0) (ap (may_restart k) (shows.nodes n.0) ∙ t) y h)))
    | inr t ↦ rw t (let x : Node = record (s.nodes n.0) { spent = true } in
        let r : Reached sha u n [] x = subst (λ x. Reached sha u n [] (record x { spent = true })) (shows.nodes n.0) (stops_does sha u n) in
        let w : NodeWork = record { node = x; sends = []; note = node_note.Nothing } in
        let after = reached_shows u run s shows (RestartNode n) n w r in
        record {
          world = r.world;
          moves = r.moves;
          shows = record {
            now = after.now;
            saved = saved_as (sha []) r.world.pool r.world.down (record s { nodes = put n.0 x s.nodes; pool = s.pool ++ [] }) (record s { nodes = put n.0 x s.nodes }) refl refl refl after.saved;
            pool = after.pool ∙ append-nil s.pool;
            nodes = after.nodes;
          };
          means = record {
            down = inl r.down;
            machine = r.machine;
            pool = r.pool ∙ append-nil u.pool;
            nodes = λ j. elim (cases_eq j n.0) [
              | inl same ↦ inr (ap RestartNode (node_is n (record { 0 = j }) (sym same)), ap r.world.nodes same ∙ here_after u run s shows (RestartNode n) n [] x r ∙ ap (λ (z : Node). record z { spent = true }) (sym (shows.nodes n.0)) ∙ ap (λ i. record (u.nodes i) { spent = true }) (sym same))
              | inr ne ↦ inl (elsewhere_after u run s shows (RestartNode n) n [] x r (record { 0 = j }) ne)
            ];
          };
          fits = λ f. record { now = λ g i. f.now g (subst (λ (z : Machine). In (Granted g) z.made) r.machine i); kept = λ y e. f.kept y (sym r.down ∙ e) };
          fair = (n, refl, there_is s n here, why_no_restart k (u.nodes n.0) (ap (may_restart k) (shows.nodes n.0) ∙ t));
        })
  ]
    where
      not_last : (x : Node) → may_restart k x ≡ true → (r : NodeRefusal) → NodeBecause k (RestartNode n) x r → ⊥
      not_last x may node_refusal.LivesSpent (inl spent) = (let b = and_parts (not x.spent) (nat_lt x.life.0 k.greatest) may in true_false x.spent spent (not-true x.spent b.0))
      not_last x may node_refusal.LivesSpent (inr le) = (let b = and_parts (not x.spent) (nat_lt x.life.0 k.greatest) may in let lt : x.life.0 < k.greatest = lt_is x.life.0 k.greatest b.1 in omega arith)
      not_last x may r h = absurd h

  -- a nudge sends the Grant of each live grant
  nudged_live : (u : World) (run : Moves sha (start sha) u) (s : Farm) (shows : Shows sha u s) (g : Grant) → Live u.machine g → In (message.Granted g) (nudged k (begin_work s.ledger)).sends
  nudged_live u run s shows g live =
      let agrees = agrees_in u run s shows Nudge in
      subst (λ z. In (message.Granted z) (nudged k (begin_work s.ledger)).sends) (grant-lease k.empty u.machine s.ledger g (sound_in u run s shows Nudge) (core_of k.empty u.pool u.machine s.ledger agrees) live)
      (saying.nudged_sends k s.ledger (lease_from g) (agrees.live_kept g live))

  and_both : (a b : Bool) → a ≡ true → b ≡ true → (a && b) ≡ true
  and_both a b p q = rw (p, q) refl

  awaited_is : (u : World) (run : Moves sha (start sha) u) (s : Farm) (shows : Shows sha u s) (g : Grant) → is_tenure g.kind ≡ true → IsAwaited u.machine g → is_awaited s.ledger.parked (lease_from g) ≡ true
  awaited_is u run s shows g tenure (p, x, i, asks, j, shared, has) =
      let holds : holds_wanted p (lease_from g) ≡ true = any_in (λ (v : Want). has_slot (lease_from g).slots (only_slot v.folder)) x (leased_wants p.tenure p.wants)
      (subst (λ b. In x (leased_wants b p.wants)) (sym asks) (wanting.leased_in true x p.wants j (ap (takes_slot true) shared))) (lease_has g (only_slot x.folder) has) in
      let some : list_any (λ (r : Parked). r.tenure && holds_wanted r (lease_from g)) s.ledger.parked ≡ true = any_in (λ (r : Parked). r.tenure && holds_wanted r (lease_from g)) p s.ledger.parked (subst (In p) (sym (agrees_in u run s shows Nudge).parked) i) (and_both p.tenure (holds_wanted p (lease_from g)) asks holds) in
      and_both (is_tenure g.kind) (list_any (λ (r : Parked). r.tenure && holds_wanted r (lease_from g)) s.ledger.parked) tenure some

  retires_only : (s : Farm) (n : NodeId) (j : ℕ) → (put n.0 true s.ledger.gone j ≡ s.ledger.gone j) ⊎ (Retire n ≡ Retire (record { 0 = j }))
  retires_only s n j = elim (cases_eq j n.0) [ inl e ↦ inr (ap Retire (node_is n (record { 0 = j }) (sym e))) | inr ne ↦ inl (put_other n.0 true s.ledger.gone j ne) ]

  retire_is : (a b : NodeId) → Retire a ≡ Retire b → a ≡ b
  retire_is a b e = cc

  next_ticket : (a b : ℕ) → a ≡ b → b < a + 1
  next_ticket a b e = omega arith

  -- ---- each event

  pub step_next : (u : World) → Moves sha (start sha) u → (s : Farm) → Shows sha u s → (e : Event) → Next u s e (step sha k s e)
  unfolding step
  step_next u run s shows (replay.Ask n wants) =
      let e : Event = replay.Ask n wants in
      let one = one_here u run s shows e n in
      let p : Plain sha u s e n None = record { finds = refl; rises = λ a n. omega arith; ends = λ said g y h. h; adds = λ said x. refl; lives = λ said f j. refl; coord = λ said m sends. tt; at = refl; heard = refl; apart = λ r. r } in
      node_next u run s shows e n None p (λ p x. asked k p wants x)
      (quiet_act u run s shows e n None p _ (note_map u run s shows e _ (λ c h v. (h.0, ap event_note.Node h.1)) _ (noting.asked_noted sha k n s.size (u.nodes n.0) one wants)) (asked_does sha u n k s.size wants) (asked_use (u.nodes n.0) one k (record { node = n; nodes = s.size }) wants) (noting.asked_exact sha k n s.size (u.nodes n.0) one wants))
  step_next u run s shows (Tenure n f) =
      let e : Event = Tenure n f in
      let one = one_here u run s shows e n in
      let p : Plain sha u s e n None = record { finds = refl; rises = λ a n. omega arith; ends = λ said g y h. h; adds = λ said x. refl; lives = λ said f j. refl; coord = λ said m sends. tt; at = refl; heard = refl; apart = λ r. r } in
      node_next u run s shows e n None p (λ p x. asked_tenure k p f x)
      (quiet_act u run s shows e n None p _ (note_map u run s shows e _ (λ c h v. (h.0, ap event_note.Node h.1)) _ (noting.tenure_noted sha k n s.size (u.nodes n.0) one f)) (tenure_does sha u n k s.size f) (tenure_use (u.nodes n.0) one k (record { node = n; nodes = s.size }) f) (noting.tenure_exact sha k n s.size (u.nodes n.0) one f))
  step_next u run s shows (Deliver number) = delivered_next u run s shows (nth s.pool number) number refl
  step_next u run s shows (Begin n t) =
      let e : Event = Begin n t in
      let one = one_here u run s shows e n in
      let p : Plain sha u s e n None = record { finds = refl; rises = λ a n. omega arith; ends = λ said g y h. h; adds = λ said x. refl; lives = λ said f j. refl; coord = λ said m sends. tt; at = refl; heard = refl; apart = λ r. r } in
      node_next u run s shows e n None p (λ p x. begun t x) (act_of u run s shows e (Begun (u.nodes n.0) one t) n None p (begun t (u.nodes n.0)) (begun_does sha u n t) (begun_use (u.nodes n.0) one t) (noting.begun_exact sha k n s.size (u.nodes n.0) one t) (λ w r b. (
        used_after u run s shows e n w.sends w.node r (λ g. g.ticket ≡ t) NoGrant b.1 (λ g h. (refl, h)) (λ g h. absurd h),
        (ap event_note.Node b.0, (b.2.0, b.2.1, b.2.2, b.2.3, subst (λ (z : Node). Runs z.asks b.2.0 b.2.1) (sym (here_after u run s shows e n w.sends w.node r)) b.2.4)),
      )))
  step_next u run s shows (Finish n t lefts) =
      let e : Event = Finish n t lefts in
      let one = one_here u run s shows e n in
      let p : Plain sha u s e n None = record { finds = refl; rises = λ a n. omega arith; ends = λ said g y h. h; adds = λ said x. refl; lives = λ said f j. refl; coord = λ said m sends. tt; at = refl; heard = refl; apart = λ r. r } in
      node_next u run s shows e n None p (λ p x. finished_with sha p t lefts x) (act_of u run s shows e (Stops (u.nodes n.0) one t) n None p (finished_with sha (record { node = n; nodes = s.size }) t lefts (u.nodes n.0)) (finished_does sha u n s.size t lefts) (finished_use (u.nodes n.0) one sha (record { node = n; nodes = s.size }) t lefts) (noting.finished_exact sha k n s.size (u.nodes n.0) one t lefts) (λ w r b. (
        used_after u run s shows e n w.sends w.node r NoGrant (λ g. g.ticket ≡ t) b.1.0 (λ g h. absurd h) (λ g h. (refl, h)),
        (ap event_note.Node b.0, (b.1.1.0, b.1.1.1, b.1.1.2, b.1.1.3, λ i. b.1.1.4 (subst (λ (z : Node). Runs z.asks b.1.1.0 b.1.1.1) (here_after u run s shows e n w.sends w.node r) i))),
      )))
  step_next u run s shows (Abort n t) =
      let e : Event = Abort n t in
      let one = one_here u run s shows e n in
      let p : Plain sha u s e n None = record { finds = refl; rises = λ a n. omega arith; ends = λ said g y h. h; adds = λ said x. refl; lives = λ said f j. refl; coord = λ said m sends. tt; at = refl; heard = refl; apart = λ r. r } in
      node_next u run s shows e n None p (λ p x. aborted p t x) (act_of u run s shows e (Aborts (u.nodes n.0) one t) n None p (aborted (record { node = n; nodes = s.size }) t (u.nodes n.0)) (aborted_does sha u n s.size t) (aborted_use (u.nodes n.0) one (record { node = n; nodes = s.size }) t) (noting.aborted_exact sha k n s.size (u.nodes n.0) one t) (λ w r b. (
        used_after u run s shows e n w.sends w.node r NoGrant (λ g. g.ticket ≡ t) b.1 (λ g h. absurd h) (λ g h. (refl, h)),
        (ap event_note.Node b.0, λ g ws h i. b.2 g ws h (subst (λ (z : Node). Runs z.asks g ws) (here_after u run s shows e n w.sends w.node r) i)),
      )))
  step_next u run s shows (Resend n) =
      let e : Event = Resend n in
      let one = one_here u run s shows e n in
      let p : Plain sha u s e n None = record { finds = refl; rises = λ a n. omega arith; ends = λ said g y h. h; adds = λ said x. refl; lives = λ said f j. refl; coord = λ said m sends. tt; at = refl; heard = refl; apart = λ r. r } in
      node_next u run s shows e n None p (λ p x. resent k p x)
      (quiet_act u run s shows e n None p _ (note_map u run s shows e _ (λ c h v. ap event_note.Node h) _ (noting.resent_noted sha k n s.size (u.nodes n.0) one)) (resent_does sha u n k s.size) (resent_use (u.nodes n.0) one k (record { node = n; nodes = s.size })) (noting.resent_exact sha k n s.size (u.nodes n.0) one))
  step_next u run s shows Nudge = coordinated_next u run s shows Nudge (λ c. saying.same s.ledger) s.down (Ok (nudged k (begin_work s.ledger))) refl
      (record { heard = λ m is. (let bad : Nudge ≡ Deliver m = is in absurd (cc)); node = λ n at. none_some n at; retires = λ n is. (let bad : Nudge ≡ Retire n = is in absurd (cc)); reaches = tt }) refl ((λ h. h), (λ h. h)) (
        record {
          tells = λ c p. sym (coord_is coord_note.Nudged c p);
          finds = refl;
          follows = others.nudged_follows k farm.instances u.pool u.machine (sound_in u run s shows Nudge) (sent_in sha u (inv u run s shows Nudge)) s.ledger (agrees_in u run s shows Nudge);
          grew = saying.nudged_grew k s.ledger;
          line = λ x. sym (append-nil (s.ledger.line x));
          lives = λ n. refl;
          gone = λ n. inl refl;
          drops = λ p left. left;
          again = λ g h. h;
          coord = λ m sound agrees. (
            refl,
            (λ g live. in_map Told (message.Granted g) (nudged k (begin_work s.ledger)).sends (nudged_live u run s shows g live)),
            λ g live tenure awaited. in_map Told (message.Recall g.node g.life g.ticket) (nudged k (begin_work s.ledger)).sends (saying.nudged_recalls k s.ledger (lease_from g) ((agrees_in u run s shows Nudge).live_kept g live) (awaited_is u run s shows g tenure awaited)),
          );
          did = λ v. tt;
          node = λ n is. (let bad : event_note.Coord coord_note.Nudged ≡ event_note.Node n = is in cc);
          saves_all = nudged_saves k s.ledger;
          recalls = recalling.nudged_properly k s.ledger;
          fits = λ all g i. (fitting.nudged_w k (begin_work s.ledger) (begin_fits u run s shows Nudge all)).sends (message.Granted g) i;
          orders = (ordering.nudged_orderly k s.ledger (DropsAt u.pool Nudge) (apart_in u run s shows Nudge).top, ordering.nudged_queue k s.ledger (Brings u run s shows Nudge), replying.nudged_replying k s.ledger (Due u run s shows Nudge) (IsCommit u Nudge) (due_in u run s shows Nudge));
          noted = λ c p. inl (ap event_note.Coord p);
          rises = λ a b n le. (let le' : b ≤ a + 0 + n = le in omega arith);
          denies = fine_denies u run s shows Nudge (nudged k (begin_work s.ledger)) (denials.nudged_fine k u.pool s.ledger (agrees_in u run s shows Nudge).waits (asked_in u run s shows Nudge) (known_in u run s shows Nudge) (agrees_in u run s shows Nudge).seen);
        },
        λ r h. h,
        λ t. changing.differs_is s.ledger (nudged k (begin_work s.ledger)).ledger (apart_in u run s shows Nudge) (changing.nudged_differs k s.ledger (apart_in u run s shows Nudge) t),
      )
  step_next u run s shows (Withdraw t) =
      let e : Event = Withdraw t in
      let sound = sound_in u run s shows e in
      let sent = sent_in sha u (inv u run s shows e) in
      coordinated_next u run s shows e (λ c. saying.same s.ledger) s.down (withdrawn k t (begin_work s.ledger)) refl
      (record { heard = λ m is. (let bad : Withdraw t ≡ Deliver m = is in absurd (cc)); node = λ n at. none_some n at; retires = λ n is. (let bad : Withdraw t ≡ Retire n = is in absurd (cc)); reaches = tt }) refl ((λ h. h), (λ h. h))
      (others_ok u run s shows e (WithdrawEnds t) (λ w. w.note ≡ coord_note.Withdrawn t) (λ c. saying.same s.ledger) (withdrawn k t (begin_work s.ledger))
      (others.withdrawn_follows k farm.instances u.pool u.machine sound sent t s.ledger (agrees_in u run s shows e)) (others.withdrawn_told k farm.instances u.pool u.machine sound sent t (begin_work s.ledger))
      (λ w f told g c b. record {
        saves_all = c;
        denies = b.0;
        recalls = b.1;
        fits = b.2;
        orders = b.3;
        noted = λ c p. inl (ap event_note.Coord p);
        rises = λ a b n le. (let le' : b ≤ a + 0 + n = le in omega arith);
        finds = refl;
        follows = f;
        tells = λ c p. sym (coord_is w.note c p);
        grew = g;
        line = λ x. sym (append-nil (s.ledger.line x));
        lives = λ n. refl;
        gone = λ n. inl refl;
        drops = λ p left. left;
        again = λ g h. h;
        coord = λ m sound agrees. (ap event_note.Coord told, subst (CoordMeans u.machine) told f.ended.1);
        did = λ v. tt;
        node = λ n is. (let bad : event_note.Coord w.note ≡ event_note.Node n = is in cc);
      })
      (saying.withdrawn_grew k s.ledger t) (withdrawn_saves k s.ledger t (apart_in u run s shows e)) (all_denies u run s shows e _ (denials.withdrawn_fine k u.pool s.ledger (agrees_in u run s shows e).waits (asked_in u run s shows e) (known_in u run s shows e) (agrees_in u run s shows e).seen t) (recalling.withdrawn_properly k s.ledger t) (λ all. fitting.withdrawn_w k t (begin_work s.ledger) (begin_fits u run s shows e all)) (ordering.withdrawn_orderly k s.ledger (DropsAt u.pool e) (apart_in u run s shows e).top t) (ordering.withdrawn_queue k s.ledger (Brings u run s shows e) t) (replying.withdrawn_replying k s.ledger (Due u run s shows e) (IsCommit u e) (due_in u run s shows e) t)) (changing.withdrawn_differs k s.ledger (apart_in u run s shows e) t) (deciding.withdrawn_exact k u.pool u.machine sound s.ledger (agrees_in u run s shows e) t))
  step_next u run s shows (Prune slot) =
      let e : Event = Prune slot in
      let sound = sound_in u run s shows e in
      let sent = sent_in sha u (inv u run s shows e) in
      coordinated_next u run s shows e (saying.pruning k s.ledger slot) s.down (pruned k slot (begin_work s.ledger)) refl
      (record { heard = λ m is. (let bad : Prune slot ≡ Deliver m = is in absurd (cc)); node = λ n at. none_some n at; retires = λ n is. (let bad : Prune slot ≡ Retire n = is in absurd (cc)); reaches = tt }) refl ((λ h. h), (λ h. h))
      (others_ok u run s shows e NoEnds (λ w. w.note ≡ coord_note.Pruned (record { 0 = s.ledger.last + 1 })) (saying.pruning k s.ledger slot) (pruned k slot (begin_work s.ledger))
      (others.pruned_follows k farm.instances u.pool u.machine sound sent slot s.ledger (agrees_in u run s shows e)) (others.pruned_told k farm.instances u.pool u.machine sound sent slot (begin_work s.ledger))
      (λ w f told g c b. record {
        saves_all = c;
        denies = b.0;
        recalls = b.1;
        fits = b.2;
        orders = b.3;
        noted = λ c p. inl (ap event_note.Coord p);
        rises = λ a b n le. (let le' : b ≤ a + 1 + n = le in omega arith);
        finds = refl;
        follows = f;
        tells = λ c p. sym (coord_is w.note c p);
        grew = g;
        line = λ x. refl;
        lives = λ n. refl;
        gone = λ n. inl refl;
        drops = λ p left. left;
        again = λ g h. h;
        coord = λ m sound agrees. (record { 0 = s.ledger.last + 1 }, ap event_note.Coord told, next_ticket s.ledger.last u.machine.last (agrees_in u run s shows e).last);
        did = λ v. tt;
        node = λ n is. (let bad : event_note.Coord w.note ≡ event_note.Node n = is in cc);
      })
      (saying.pruned_grew k s.ledger slot) (pruned_saves k s.ledger slot) (all_denies u run s shows e _ (denials.pruned_fine k u.pool s.ledger (agrees_in u run s shows e).waits (asked_in u run s shows e) (known_in u run s shows e) (agrees_in u run s shows e).seen slot) (recalling.pruned_properly k s.ledger slot) (λ all. fitting.pruned_w k slot (begin_work s.ledger) (begin_fits u run s shows e all)) (ordering.pruned_orderly k s.ledger (DropsAt u.pool e) (apart_in u run s shows e).top slot) (ordering.pruned_queue k s.ledger (Brings u run s shows e) slot) (replying.pruned_replying k s.ledger (Due u run s shows e) (IsCommit u e) (due_in u run s shows e) slot)) (changing.pruned_differs k s.ledger (apart_in u run s shows e) slot) (deciding.pruned_exact k u.pool u.machine sound s.ledger (agrees_in u run s shows e) slot))
  step_next u run s shows (Retire n) = elim (cases_Bool (is_node s n)) [
    | inl t ↦ rw t (let e : Event = Retire n in
        let sound = sound_in u run s shows e in
        let sent = sent_in sha u (inv u run s shows e) in
        coordinated_next u run s shows e (λ c. saying.retiring s.ledger n) s.down (retired k n (begin_work s.ledger)) refl
        (record { heard = λ m is. (let bad : Retire n ≡ Deliver m = is in absurd (cc)); node = λ j at. none_some j at; retires = λ j is none. none (subst (IsThere s) (retire_is n j is) (there_is s n t)); reaches = there_is s n t }) refl ((λ h. h), (λ h. h))
        (others_ok u run s shows e (RetireEnds n) (λ w. (w.note ≡ coord_note.Retired n) × (w.ledger.gone n.0 ≡ true)) (λ c. saying.retiring s.ledger n) (retired k n (begin_work s.ledger))
        (others.retired_follows k farm.instances u.pool u.machine sound sent n s.ledger (agrees_in u run s shows e)) (others.retired_told k farm.instances u.pool u.machine sound sent n (begin_work s.ledger))
        (λ w f told g c b. record {
          saves_all = c;
          denies = b.0;
          recalls = b.1;
          fits = b.2;
          orders = b.3;
          noted = λ c p. inl (ap event_note.Coord p);
          rises = λ a b n le. (let le' : b ≤ a + 0 + n = le in omega arith);
          finds = refl;
          follows = f;
          tells = λ c p. sym (coord_is w.note c p);
          grew = g;
          line = λ x. sym (append-nil (s.ledger.line x));
          lives = λ n. refl;
          gone = λ j. retires_only s n j;
          drops = λ p left. left;
          again = λ g h. h;
          coord = λ m sound agrees. (ap event_note.Coord told.0, subst (CoordMeans u.machine) told.0 f.ended.1, sym (ap (λ (h : ℕ → Bool). h n.0) agrees.gone) ∙ told.1);
          did = λ v. tt;
          node = λ j is. (let bad : event_note.Coord w.note ≡ event_note.Node j = is in cc);
        })
        (saying.retired_grew k s.ledger n) (retired_saves k s.ledger n) (all_denies u run s shows e _ (denials.retired_fine k u.pool s.ledger (agrees_in u run s shows e).waits (asked_in u run s shows e) (known_in u run s shows e) (agrees_in u run s shows e).seen n) (recalling.retired_properly k s.ledger n) (λ all. fitting.retired_w k n (begin_work s.ledger) (begin_fits u run s shows e all)) (ordering.retired_orderly k s.ledger (DropsAt u.pool e) (apart_in u run s shows e).top n (λ p t. node_is p.node n (eqb-true p.node.0 n.0 t))) (ordering.retired_queue k s.ledger (Brings u run s shows e) n) (replying.retired_replying k s.ledger (Due u run s shows e) (IsCommit u e) (due_in u run s shows e) n)) (changing.retired_differs k s.ledger (apart_in u run s shows e) n) (deciding.retired_exact k u.pool u.machine sound s.ledger (agrees_in u run s shows e) n)))
    | inr t ↦ rw t (refused_so u run s shows (Retire n) refusal.NoSuchNode (n, inr refl, not_there s n t))
  ]
  step_next u run s shows (RestartNode n) = elim (cases_Bool (is_node s n)) [
    | inl t ↦ rw t (restarts_next u run s shows n t)
    | inr t ↦ rw t (refused_so u run s shows (RestartNode n) refusal.NoSuchNode (n, inl refl, not_there s n t))
  ]
  step_next u run s shows RestartCoordinator = restart_next u run s shows
  step_next u run s shows (Forge n c) =
      let e : Event = Forge n c in
      let one = one_here u run s shows e n in
      let p : Plain sha u s e n None = record { finds = refl; rises = λ a n. omega arith; ends = λ said g y h. h; adds = λ said x. refl; lives = λ said f j. refl; coord = λ said m sends. tt; at = refl; heard = refl; apart = λ r. r } in
      node_next u run s shows e n None p (λ p x. unless_spent x (brought sha c x))
      (quiet_act u run s shows e n None p _ (any_note u run s shows e (λ x v. (x, refl)) _) (spent_does sha u n _ (brought_does sha u n c)) (brought_use (u.nodes n.0) one sha c) (noting.forged_exact sha k n s.size (u.nodes n.0) one c))
  step_next u run s shows (Forget n d) =
      let e : Event = Forget n d in
      let one = one_here u run s shows e n in
      let p : Plain sha u s e n None = record { finds = refl; rises = λ a n. omega arith; ends = λ said g y h. h; adds = λ said x. refl; lives = λ said f j. refl; coord = λ said m sends. tt; at = refl; heard = refl; apart = λ r. r } in
      node_next u run s shows e n None p (λ p x. forgotten k d x)
      (quiet_act u run s shows e n None p _ (note_map u run s shows e _ (λ c h v. ap event_note.Node h) _ (noting.forgotten_noted sha k n s.size (u.nodes n.0) one d)) (forgotten_does sha u n k d) (forgotten_use (u.nodes n.0) one k d) (noting.forgotten_exact sha k n s.size (u.nodes n.0) one d))
  step_next u run s shows (FailSave kept) = record {
    world = u;
    moves = Still u;
    shows = record { now = shows.now; saved = saved_as (sha []) u.pool u.down s (record s { armed = Some kept }) refl refl refl shows.saved; pool = shows.pool; nodes = shows.nodes };
    means = record {
      sent = [];
      pool = sym (append-nil u.pool);
      down = inl refl;
      above = λ g i. inl i;
      lowest = λ g i. inl i;
      oldest = λ g i. inl i;
      queue = inl (part_refl u.machine.parked);
      replies = λ y i. absurd i;
      tickets = omega arith;
      recalled = λ n l t i. absurd i;
      denied = λ n l a y i. absurd i;
      carried = record {
        ended = none_ended u.machine NoEnds (λ g y l h. h);
        granted = λ g i. inl i;
        sent = λ g i. absurd i;
        waits = λ p i. inl i;
        gone = λ j. inl refl;
        lives = λ j. refl;
        lines = λ x. sym (append-nil (line (sha []) u.machine x));
        told = λ c p. (let bad : event_note.Armed ≡ event_note.Coord c = p in cc);
        did = tt;
      };
      node = λ n is. (let bad : event_note.Armed ≡ event_note.Node n = is in cc);
      others = λ j. inl refl;
      used = record { began = λ n g ws i. inl i; stopped = λ n g ws i. inl i };
      did = refl;
      count = refl;
      first = refl;
    };
    fair = armed_always u s kept;
    fits = λ f. f;
  }

  -- a world that the events lead to
  pub record Leads (u : World) (s : Farm) : Type 0 where
    pub world : World
    pub fits : WorldFits k u → WorldFits k world
    pub moves : Moves sha u world
    pub shows : Shows sha world s

  pub run_next : (events : List Event) (u : World) → Moves sha (start sha) u → (s : Farm) → Shows sha u s → Leads u (run sha k events s)
  run_next [] u moves s shows = record { world = u; fits = λ f. f; moves = Still u; shows = shows }
  run_next (e ∷ es) u moves s shows =
      let one = step_next u moves s shows e in
      let rest = run_next es one.world (moves_trans sha (start sha) u one.world moves one.moves) (step sha k s e).farm one.shows in
      record { world = rest.world; fits = λ f. rest.fits (one.fits f); moves = moves_trans sha u one.world rest.world one.moves rest.moves; shows = rest.shows }

  pub opening_shows : (size : ℕ) → Shows sha (start sha) (opening sha size)
  opening_shows size = record {
    now = record {
      live_made = λ h i. absurd i;
      live_kept = λ g l. absurd l.0;
      retired_made = λ t e. (let bad : false ≡ true = e in cc);
      retired_kept = λ t r. absurd r.1.1;
      lines = λ t. refl;
      last = refl;
      ceiling = omega arith;
      block = omega arith;
      seen = λ h i. absurd i;
      old_home = refl;
      gone = refl;
      lives = refl;
      parked = refl;
      asked = λ p i. absurd i;
      waits = tt;
    };
    saved = (refl, refl);
    pool = refl;
    nodes = λ n. refl;
  }

  pub from_opening : (size : ℕ) (events : List Event) → Leads (start sha) (run sha k events (opening sha size))
  from_opening size events = run_next events (start sha) (Still (start sha)) (opening sha size) (opening_shows size)

  pub start_fits : WorldFits k (start sha)
  start_fits = record { now = λ g i. absurd i; kept = λ m e. none_some m e }

  pub safe_next : (s : Farm) → Leads (start sha) s → SafeAfter sha s
  safe_next s n = record { world = n.world; moves = n.moves; shows = n.shows; safe = every_run_is_safe sha n.world n.moves }

run-append : (sha : List ℕ → Digest) (k : Limits) (early late : List Event) (s : Farm) → run sha k (early ++ late) s ≡ run sha k late (run sha k early s)
run-append sha k [] late s = refl
run-append sha k (e ∷ early) late s = run-append sha k early late (step sha k s e).farm

pub every_schedule_is_safe : EveryScheduleIsSafe
every_schedule_is_safe sha k farm size events = safe_next sha k farm (run sha k events (opening sha size)) (from_opening sha k farm size events)

pub every_schedule_stays_safe : EveryScheduleStaysSafe
every_schedule_stays_safe sha k farm size early late =
    let mid : Farm = run sha k early (opening sha size) in
    let before = from_opening sha k farm size early in
    let rest = run_next sha k farm late before.world before.moves mid before.shows in
    let all : Moves sha (start sha) rest.world = moves_trans sha (start sha) before.world rest.world before.moves rest.moves in
    let a = safe_next sha k farm mid before in
    subst (λ t. SafeBetween sha mid t) (sym (run-append sha k early late (opening sha size)))
    (record {
      before = record { world = before.world; moves = before.moves; shows = before.shows; safe = every_run_is_safe sha before.world before.moves };
      after = record { world = rest.world; moves = all; shows = rest.shows; safe = every_run_is_safe sha rest.world all };
      moves = rest.moves;
      since = every_run_stays_safe sha before.world rest.world before.moves rest.moves;
    })

pub every_event_is_moves : EveryEventIsMoves
every_event_is_moves sha k farm u moves s shows e = (let n = step_next sha k farm u moves s shows e in (n.world, n.moves, n.shows, n.means, n.fair))

follows_ok : (k : Limits) (fits : k.instances ≤ 4096) (pool : List Message) (m : Machine) (sound : Sound k.empty m) (sent : Sent pool m) (ends : Grant → Ending → Type 0) (r : Result Work CoordRefusal) → others.OnWork k fits pool m sound sent ends r → FollowsOk k.empty pool m ends r
follows_ok k fits pool m sound sent ends (Ok w) h = h
follows_ok k fits pool m sound sent ends (Err e) h = tt

-- the decisions on a ledger that agrees with a sound machine, where tenures are asked for rightly
pub decisions_follow : (k : Limits) → k.instances ≤ 4096 → (pool : List Message) (m : Machine) → Sound k.empty m → Sent pool m → (q : Ledger) → Agrees k.empty pool m q → EveryDecision k pool m q
decisions_follow k fits pool m sound sent q agrees = record {
  message = λ y asked. others.handled_follows k fits pool m sound sent y q agrees asked;
  own = owning.only_its_own k pool m q sound agrees;
  commit_taken = deciding.commit_taken k pool m sound q agrees;
  release_taken = deciding.release_taken k pool m sound q agrees;
  withdraw_taken = others.withdraw_taken k fits pool m sound sent q agrees;
  withdraw = λ t. follows_ok k fits pool m sound sent (WithdrawEnds t) (withdrawn k t (begin_work q)) (others.withdrawn_follows k fits pool m sound sent t q agrees);
  retire = λ n. follows_ok k fits pool m sound sent (RetireEnds n) (retired k n (begin_work q)) (others.retired_follows k fits pool m sound sent n q agrees);
  prune = λ s. follows_ok k fits pool m sound sent NoEnds (pruned k s (begin_work q)) (others.pruned_follows k fits pool m sound sent s q agrees);
  nudge = others.nudged_follows k fits pool m sound sent q agrees;
  restart = others.reread_follows k fits pool m sound sent q agrees;
}

pub every_decision_follows : EveryDecisionFollows
every_decision_follows sha k farm u moves q agrees =
    let i : Inv sha u = (moves_inv sha (start sha) u (start_whole sha) moves).0.now in
    decisions_follow k farm.instances u.pool u.machine (subst (λ z. Sound z u.machine) (sym farm.empty) i.sound) (sent_in sha u i) q agrees
