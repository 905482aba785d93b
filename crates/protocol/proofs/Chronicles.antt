-- Chronicles of schedules, and what stays so.
use Rattle.std.proofs.Common.{◌≡◌, ◌≢◌, map, ◌||◌, ℕ, ◌<◌, ◌≤◌, slice_get, List, [], ◌∷◌, ◌++◌, Bool, true, false, ◌⊎◌, Option, Some, None, Result, Ok, Err, refl, sym, ◌∙◌, ap, subst, inl, inr, arith, append-nil}
use Rattle.std.proofs.lemmas.Bool.{cases_Bool}
use Rattle.std.specs.Prelude.{⊤, if◌then◌else◌}
use Rattle.farm_base.specs.Kinds.{is_tenure}
use Rattle.farm_base.specs.declared.message.Message.TheVariants as to
use Rattle.farm_base.specs.declared.message.ToNode.TheVariants as to_node
use Rattle.protocol.specs.Lists.{In, IsFrontOf, nth}
use Rattle.protocol.specs.Names.{Life, is_alone, Mode, Shared, IsInstance, is_private, is_shared, only_slot, wants_shared, leased_wants, tenure_wants, FolderName, Slot, NodeId, Ticket, Digest, Want}
use Rattle.protocol.specs.Machine.{acquire, GrantedSlot, AnswersAsk, want_of, Grant, Granted, Told, Has, ticket_of, LineVersion, Ending, Withdrawn, Died, Message, Said, ToCoord, Machine, Live, line}
use Rattle.events.specs.declared.answer.CoordNote.{CoordNote}
use Rattle.events.specs.declared.answer.CoordNote.TheVariants as coord
use Rattle.events.specs.declared.answer.CoordRefusal.{CoordRefusal}
use Rattle.events.specs.declared.answer.EventNote.{EventNote}
use Rattle.events.specs.declared.answer.EventNote.TheVariants as note
use Rattle.events.specs.declared.answer.EventRefusal.{EventRefusal}
use Rattle.events.specs.declared.answer.Outcome.{Outcome}
use Rattle.events.specs.declared.answer.Kept.{Kept}
use Rattle.events.specs.declared.answer.Kept.TheVariants.{Old, New}
use Rattle.protocol.specs.Ledger.{Limits, Ledger, Lease, Saved, saves, reads, Work, is_saved, begin_work, handled, withdrawn, retired, pruned, nudged}
use Rattle.protocol.specs.World.{Running, Node, World, Move, Node_moves, Machine_moves, Machine_says, Fails, Recovers, Moves, Still, Then, start}
use Rattle.protocol.specs.Safe.{IsWithdrawn, InUse, HoldsContent, Rising}
use Rattle.protocol.specs.Replay.{Event, Deliver, Begin, Withdraw, Retire, RestartCoordinator, Farm, settled, coordinated, delivered, step, run, opening, Tenure, Finish, Abort, Resend, Nudge, Prune, RestartNode, Forge, Forget, FailSave, Turn, refused, is_node, at_node, restarts, told_to}
use Rattle.protocol.specs.Replay as replay
use Rattle.protocol.specs.Nodes.{NodeAnswer, may_restart}
use Rattle.events.specs.declared.answer.CoordRefusal.TheVariants as coord_refusal
use Rattle.events.specs.declared.answer.EventRefusal.TheVariants as refusal
use Rattle.protocol.proofs.Saying as saying
use Rattle.protocol.specs.Follows.{lease_from, Agrees, SavedAgrees, IsFarm, Shows}
use Rattle.protocol.specs.Meaning.{message_adds, Finds, recorded, adds, Carried, Answered, Means, Of_older_life}
use Rattle.protocol.specs.Chronicle.{unarmed, ChronicleFrom, EveryScheduleHasAChronicle, StaysOut, GoesOn, OfTwoTenures, OneForEach, No_wants, Shared_want, Other_want, TenureSlot, SlotsWanted, WantedUnder, MayBeAtOnce, Writes, EveryVersionIsAnswered, Headline, EveryScheduleMeans, EveryFarmIsSaved, Covered, EveryRecordCovers, RestartReadsTheRecord}
use Rattle.protocol.proofs.Steps.{same_grant, made_below}
use Rattle.protocol.proofs.Invariant.{Inv, WasAsked, Wanted}
use Rattle.protocol.proofs.Using.{Runs}
use Rattle.farm_base.specs.declared.message.FromCoord.TheVariants as told
use Rattle.protocol.proofs.Base.{true_false, none_some, some_is, in_left, in_append}
use Rattle.protocol.proofs.Worlds.{Whole, moves_inv, start_whole}
use Rattle.protocol.proofs.Safety.{every_run_is_safe, every_run_stays_safe}
use Rattle.protocol.proofs.Others.{unsaved_ends}
use Rattle.protocol.proofs.Wanting.{shared_mode}
use Rattle.protocol.proofs.Asking.{one_ask}
use Rattle.protocol.proofs.Fitting.{WorldFits}
use Rattle.protocol.proofs.LastLives.{AllLast, scheduled_last}
use Rattle.protocol.proofs.Failing.{armed_now, leaves_armed, spent_down}
use Rattle.protocol.proofs.Schedules.{handled_grew, moves_trans, step_next, run_next, start_fits, from_opening, opening_shows, up_is, up_saved}

-- the grants of two tickets, as they were sent, share no slot of a PRIVATE or SHARED folder
abbrev NoneShared : List Message → Ticket → Ticket → Type 0
NoneShared pool ticket ticket' = (grant grant' : Grant) (slot : Slot) → In (Told (told.Granted grant)) pool → In (Told (told.Granted grant')) pool → grant.ticket ≡ ticket → grant'.ticket ≡ ticket' → Has grant slot → Has grant' slot → is_alone slot ≡ true → ⊥

-- ---- the slots of a Grant, by the wants of its ask

not_shared : (m : Mode) → is_shared m ≡ false → m ≢ Shared
not_shared m h e = true_false (is_shared m) (ap is_shared e) h

list_head : {A : Type 0} (x y : A) (xs ys : List A) → x ∷ xs ≡ y ∷ ys → x ≡ y
list_head x y xs ys e = cc

list_tail : {A : Type 0} (x y : A) (xs ys : List A) → x ∷ xs ≡ y ∷ ys → xs ≡ ys
list_tail x y xs ys e = cc

some_none : {A : Type 0} {P : Type 0} (x : A) (xs : List A) → x ∷ xs ≡ [] → P
some_none x xs e = cc

none_more : {A : Type 0} {P : Type 0} (x : A) (xs : List A) → [] ≡ x ∷ xs → P
none_more x xs e = cc

abbrev Instances : List GrantedSlot → Type 0
Instances us = (u : GrantedSlot) → In u us → IsInstance u.slot.folder.mode u.slot.instance

for_want : (u : GrantedSlot) (w : Want) → want_of u ≡ w → IsInstance u.slot.folder.mode u.slot.instance → (u.slot.folder ≡ w.folder) × (u.writable ≡ w.writable) × IsInstance w.folder.mode u.slot.instance
for_want u w e i = (ap (λ (z : Want). z.folder) e, ap (λ (z : Want). z.writable) e, subst (λ (z : Want). IsInstance z.folder.mode u.slot.instance) e i)

one_for_each : (wants : List Want) (us : List GrantedSlot) → map want_of us ≡ leased_wants false wants → Instances us → OneForEach wants us
one_for_each [] [] e i = No_wants
one_for_each [] (u ∷ us) e i = some_none (want_of u) (map want_of us) e
one_for_each (w ∷ wants) us e i = elim (cases_Bool (wants_shared w)) [
  | inl t ↦ Shared_want w wants us (shared_mode w.folder.mode t) (one_for_each wants us (rw t at e) i)
  | inr f ↦ by us f (rw f at e) i (one_for_each wants)
]
  where
    by : (us : List GrantedSlot) → wants_shared w ≡ false → map want_of us ≡ w ∷ leased_wants false wants → Instances us → ((vs : List GrantedSlot) → map want_of vs ≡ leased_wants false wants → Instances vs → OneForEach wants vs) → OneForEach (w ∷ wants) us
    by [] f e i rest = none_more w (leased_wants false wants) e
    by (u ∷ us) f e i rest =
        Other_want w wants u us (not_shared w.folder.mode f) (for_want u w (list_head (want_of u) w (map want_of us) (leased_wants false wants) e) (i u (inl refl)))
        (rest us (list_tail (want_of u) w (map want_of us) (leased_wants false wants) e) (λ v j. i v (inr j)))

tenure_slot : (wants : List Want) (us : List GrantedSlot) (f : FolderName) → wants ≡ tenure_wants f → map want_of us ≡ leased_wants true wants → Instances us → TenureSlot wants us
tenure_slot wants us f is e i = by us (e ∙ ap (leased_wants true) is) i
  where
    w : Want
    w = record { folder = record f { mode = Shared }; writable = true }

    by : (us : List GrantedSlot) → map want_of us ≡ w ∷ [] → Instances us → TenureSlot wants us
    by [] e i = none_more w [] e
    by (u ∷ []) e i = (w, u, is, refl, refl, for_want u w (list_head (want_of u) w [] [] e) (i u (inl refl)))
    by (u ∷ v ∷ vs) e i = some_none (want_of v) (map want_of vs) (list_tail (want_of u) w (map want_of (v ∷ vs)) [] e)

slots_wanted : (g : Grant) (wants : List Want) → AnswersAsk g wants → SlotsWanted (is_tenure g.kind) wants g.slots
slots_wanted g wants a = by (is_tenure g.kind) a.slots a.tenure
  where
    by : (tenure : Bool) → map want_of g.slots ≡ leased_wants tenure wants → (tenure ≡ true → (f : FolderName) × (wants ≡ tenure_wants f)) → SlotsWanted tenure wants g.slots
    by true e h = (let r = h refl in tenure_slot wants g.slots r.0 r.1 e a.instances)
    by false e h = one_for_each wants g.slots e a.instances

module _ (sha : List ℕ → Digest) (k : Limits) (farm : IsFarm sha k) where
  chronicle : (events : List Event) (s : Farm) (u : World) (earlier : List World) → Moves sha (start sha) u → ((w : World) → In w (u ∷ earlier) → Moves sha (start sha) w × Moves sha w u) → Shows sha u s → ChronicleFrom sha k events s u earlier
  chronicle [] s u earlier moves all shows = tt
  chronicle (e ∷ es) s u earlier moves all shows =
      let n = step_next sha k farm u moves s shows e in
      let here : Moves sha (start sha) n.world = moves_trans sha (start sha) u n.world moves n.moves in
      let since : (w : World) → In w (u ∷ earlier) → Moves sha (start sha) w × Moves sha w n.world = λ w i. (let m = all w i in (m.0, moves_trans sha w u n.world m.1 n.moves)) in (
        n.world,
        n.moves,
        n.means,
        n.fair,
        n.shows,
        every_run_is_safe sha n.world here,
        λ w i. every_run_stays_safe sha w n.world (since w i).0 (since w i).1,
        chronicle es (step sha k s e).farm n.world (u ∷ earlier) here (λ w i. elim i [ inl e ↦ subst (λ z. Moves sha (start sha) z × Moves sha z n.world) (sym e) (here, Still n.world) | inr j ↦ since w j ]) n.shows,
      )

  -- an accepted event's meaning
  accepted : (size : ℕ) (u v : World) (e : Event) (r : Result Outcome EventRefusal) (o : Outcome) → r ≡ Ok o → Means sha k size u e r v → Answered sha k size u e o v
  accepted size u v e r o p means = subst (λ x. Means sha k size u e x v) p means

  module _ (u : World) (moves : Moves sha (start sha) u) (s : Farm) (shows : Shows sha u s) where
    -- what was withdrawn stays so
    still_out : (v : World) (t : Ticket) → Moves sha u v → IsWithdrawn u.machine t → IsWithdrawn v.machine t
    still_out v t more gone =
        let whole = moves_inv sha (start sha) u (start_whole sha) moves in
        let later = (moves_inv sha u v whole.0 more).1.machine in
        elim gone [ inl e ↦ inl (later.ending t.0 Withdrawn e) | inr e ↦ inr (later.ending t.0 Died e) ]

    not_live : (v : World) (t : Ticket) → IsWithdrawn v.machine t → (g : Grant) → Live v.machine g → g.ticket ≡ t → ⊥
    not_live v t gone g live at =
        let none : v.machine.ending t.0 ≡ None = subst (λ (z : Ticket). v.machine.ending z.0 ≡ None) at live.1 in
        elim gone [ inl e ↦ none_some Withdrawn (sym none ∙ e) | inr e ↦ none_some Died (sym none ∙ e) ]

    pub stays_out : (t : Ticket) → IsWithdrawn u.machine t → StaysOut sha k s t
    stays_out t gone = record {
      uncommitted = λ late e o ok told.
          (let r = run_next sha k farm late u moves s shows in
          let all = moves_trans sha (start sha) u r.world moves r.moves in
          let n = step_next sha k farm r.world all (run sha k late s) r.shows e in
          let a = accepted (run sha k late s).size r.world n.world e (step sha k (run sha k late s) e).outcome o ok n.means in
          let live = a.carried.told (coord.Committed t) told in
          not_live r.world t (still_out r.world t r.moves gone) live.0 live.1 live.2);
      off_line = λ late x v i at.
          (let r = run_next sha k farm late u moves s shows in
          let all = moves_trans sha (start sha) u r.world moves r.moves in
          (every_run_is_safe sha r.world all).withdrawn t (still_out r.world t r.moves gone) (x, v, subst (In v) (r.shows.now.lines x) i, at));
    }

  -- ---- one more event

  coord_told : (d : Bool) (r : Result Work CoordRefusal) (s : Farm) (o : Outcome) → (coordinated d r s).outcome ≡ Ok o → (c : CoordNote) × (o.note ≡ note.Coord c)
  coord_told true r s o e = cc
  coord_told false (Err x) s o e = cc
  coord_told false (Ok w) s o e = by w.changed s.armed e
    where
      by : (b : Bool) (a : Option Kept) → (settled b a w s).outcome ≡ Ok o → (c : CoordNote) × (o.note ≡ note.Coord c)
      by false a e = (w.note, same e)
        where
          same : (settled false a w s).outcome ≡ Ok o → o.note ≡ note.Coord w.note
          same e = cc
      by true None e = (w.note, same e)
        where
          same : (settled true None w s).outcome ≡ Ok o → o.note ≡ note.Coord w.note
          same e = cc
      by true (Some Old) e = cc
      by true (Some New) e = cc

  said_told : (s : Farm) (number : ℕ) (y : ToCoord) (o : Outcome) → nth s.pool number ≡ Some (Said y) → (step sha k s (Deliver number)).outcome ≡ Ok o → (c : CoordNote) × (o.note ≡ note.Coord c)
  unfolding step
  said_told s number y o here e = coord_told s.down (Ok (handled k y (begin_work s.ledger))) s o (subst (λ m. (delivered sha k m s).outcome ≡ Ok o) here e)

  restart_ok : (s : Farm) → (o : Outcome) × ((step sha k s RestartCoordinator).outcome ≡ Ok o)
  unfolding step
  restart_ok s = (record { note = note.Restarted; first = 0; sent = 0 }, refl)

  -- an execution goes on through events that spare it
  goes_on : (late : List Event) (u : World) → Moves sha (start sha) u → (s : Farm) → Shows sha u s → (n : NodeId) (t : Ticket) (g : Grant) (ws : List Want) → g.ticket ≡ t → GoesOn sha k n t late s → InUse u n g ws
      → (v : World) × Moves sha u v × Shows sha v (run sha k late s) × InUse v n g ws
  goes_on [] u moves s shows n t g ws at spared used = (u, Still u, shows, used)
  goes_on (e ∷ es) u moves s shows n t g ws at spared used =
      let one = step_next sha k farm u moves s shows e in
      let now : InUse one.world n g ws = by (step sha k s e).outcome refl one.world one.means in
      let rest = goes_on es one.world (moves_trans sha (start sha) u one.world moves one.moves) (step sha k s e).farm one.shows n t g ws at spared.1 now in
      (rest.0, moves_trans sha u one.world rest.0 one.moves rest.1, rest.2, rest.3)
    where
      by : (r : Result Outcome EventRefusal) → (step sha k s e).outcome ≡ r → (v : World) → Means sha k s.size u e r v → InUse v n g ws
      by (Ok o) ok v a = elim (a.used.stopped n g ws used) [ inl now ↦ now | inr gone ↦ absurd (spared.0 g o ok at gone) ]
      by (Err r) ok v same = elim (same.nodes n.0) [
        | inl e ↦ subst (λ (z : Node). Runs z.asks g ws) (sym e) used
        | inr down ↦ subst (λ (z : Node). Runs z.asks g ws) (sym down.1) used
      ]

  -- a Grant that was sent is the one of its ticket
  sent_is : (u : World) → Moves sha (start sha) u → (s : Farm) → Shows sha u s → (g h : Grant) → In (Told (told.Granted g)) s.pool → In (Granted h) u.machine.made → g.ticket ≡ h.ticket → g ≡ h
  sent_is u moves s shows g h sent made at =
      let inv = (moves_inv sha (start sha) u (start_whole sha) moves).0.now in
      same_grant (sha []) u.machine inv.sound g h (inv.messages (Told (told.Granted g)) (subst (In (Told (told.Granted g))) (sym shows.pool) sent)) made (ap (λ (t : Ticket). t.0) at)

  used_made : (u : World) → Moves sha (start sha) u → (n : NodeId) (g : Grant) (ws : List Want) → InUse u n g ws → In (Granted g) u.machine.made
  used_made u moves n g ws used = (((moves_inv sha (start sha) u (start_whole sha) moves).0.now.nodes n).states used.0 (Running ws g used.1) used.2).0.0

  begun_alone : (u : World) → Moves sha (start sha) u → (s : Farm) → Shows sha u s → (n n' : NodeId) (t t' : Ticket) (late : List Event) (o o' : Outcome) → (step sha k s (Begin n t)).outcome ≡ Ok o → GoesOn sha k n t late (step sha k s (Begin n t)).farm
      → (step sha k (run sha k late (step sha k s (Begin n t)).farm) (Begin n' t')).outcome ≡ Ok o' → NoneShared (run sha k late (step sha k s (Begin n t)).farm).pool t t'
  begun_alone u moves s shows n n' t t' late o o' ok spared ok' g g' x sent sent' at at' has has' alone =
      let one = step_next sha k farm u moves s shows (Begin n t) in
      let a = accepted s.size u one.world (Begin n t) (step sha k s (Begin n t)).outcome o ok one.means in
      let h : Grant = a.did.1.0 in
      let ws : List Want = a.did.1.1 in
      let moves1 = moves_trans sha (start sha) u one.world moves one.moves in
      let mid = goes_on late one.world moves1 (step sha k s (Begin n t)).farm one.shows n t h ws a.did.1.2 spared a.did.1.4 in
      let w : World = mid.0 in
      let moves2 = moves_trans sha (start sha) one.world w moves1 mid.1 in
      let after : Farm = run sha k late (step sha k s (Begin n t)).farm in
      let two = step_next sha k farm w moves2 after mid.2 (Begin n' t') in
      let b = accepted after.size w two.world (Begin n' t') (step sha k after (Begin n' t')).outcome o' ok' two.means in
      let h' : Grant = b.did.1.0 in
      let ws' : List Want = b.did.1.1 in
      let moves3 = moves_trans sha (start sha) w two.world moves2 two.moves in
      let still : InUse two.world n h ws = elim (b.used.stopped n h ws mid.3) [ inl now ↦ now | inr gone ↦ absurd gone ] in
      let is : g ≡ h = sent_is w moves2 after mid.2 g h sent (used_made w moves2 n h ws mid.3) (at ∙ sym a.did.1.2) in
      let later = (moves_inv sha w two.world (moves_inv sha (start sha) w (start_whole sha) moves2).0 two.moves).1.machine in
      let inv3 = (moves_inv sha (start sha) two.world (start_whole sha) moves3).0.now in
      let made' : In (Granted g') two.world.machine.made = later.made (Granted g') ((moves_inv sha (start sha) w (start_whole sha) moves2).0.now.messages (Told (told.Granted g')) (subst (In (Told (told.Granted g'))) (sym mid.2.pool) sent')) in
      let is' : g' ≡ h' = same_grant (sha []) two.world.machine inv3.sound g' h' made' (used_made two.world moves3 n' h' ws' b.did.1.4) (ap (λ (z : Ticket). z.0) (at' ∙ sym b.did.1.2)) in
      let same = (every_run_is_safe sha two.world moves3).alone n n' h h' ws ws' x still b.did.1.4 (subst (λ (z : Grant). Has z x) is has) (subst (λ (z : Grant). Has z x) is' has') alone in
      let here : InUse w n' h' ws = subst (λ (z : Grant). InUse w n' z ws) same.1 (subst (λ z. InUse w z h ws) same.0 mid.3) in
      b.did.1.3 (subst (λ z. InUse w n' h' z) (one_wants two.world moves3 n' h' ws ws' (subst (λ (z : Grant). InUse two.world n' z ws) same.1 (subst (λ z. InUse two.world z h ws) same.0 still)) b.did.1.4) here)
    where
      -- one execution is for one list of wants
      one_wants : (v : World) → Moves sha (start sha) v → (j : NodeId) (q : Grant) (ws ws' : List Want) → InUse v j q ws → InUse v j q ws' → ws ≡ ws'
      one_wants v run' j q ws ws' i i' =
          let nodes = ((moves_inv sha (start sha) v (start_whole sha) run').0.now.nodes j) in
          let p = (nodes.states i.0 (Running ws q i.1) i.2).0 in
          let p' = (nodes.states i'.0 (Running ws' q i'.1) i'.2).0 in
          let at : i.0 ≡ i'.0 = sym p.3 ∙ p'.3 in
          let same : Running ws q i.1 ≡ Running ws' q i'.1 = some_is (Running ws q i.1) (Running ws' q i'.1) (sym i.2 ∙ ap (nth (v.nodes j.0).asks) at ∙ i'.2) in
          cc

  -- what was sent stays sent
  still_sent : (u v : World) → Moves sha u v → (m : Message) → In m u.pool → In m v.pool
  still_sent u v (Still w) m i = i
  still_sent u v (Then a b c moves move) m i = by b c move (still_sent u b moves m i)
    where
      by : (b c : World) → Move sha b c → In m b.pool → In m c.pool
      by b c (Node_moves n sends x act) j = in_left m b.pool sends j
      by b c (Machine_moves m' up step) j = j
      by b c (Machine_says y up says) j = in_left m b.pool (Told y ∷ []) j
      by b c (Fails m' up steps) j = j
      by b c (Recovers m' e) j = j

  -- an ask that was sent wants what the execution under its grant is for
  wants_are : (v : World) → Moves sha (start sha) v → (n : NodeId) (h : Grant) (ws wants : List Want) → InUse v n h ws → In (acquire h.node h.life h.ask wants (is_tenure h.kind)) v.pool → ws ≡ wants
  wants_are v run' n h ws wants used sent =
      let inv = (moves_inv sha (start sha) v (start_whole sha) run').0.now in
      let its = ((inv.nodes n).states used.0 (Running ws h used.1) used.2).0 in
      by its.1 its.2 its.3 (inv.messages (acquire h.node h.life h.ask wants (is_tenure h.kind)) sent).0
    where
      by : h.node ≡ n → h.life ≡ (v.nodes n.0).life → h.ask.0 ≡ used.0 → WasAsked (v.nodes h.node.0) h.life h.ask.0 wants (is_tenure h.kind) → ws ≡ wants
      by at life ask was = elim (subst (λ (z : NodeId). WasAsked (v.nodes z.0) h.life h.ask.0 wants (is_tenure h.kind)) at was) [
        | inl older ↦ (let older' : h.life.0 < (v.nodes n.0).life.0 = older in let same : h.life.0 ≡ (v.nodes n.0).life.0 = ap (λ (z : Life). z.0) life in absurd (omega arith))
        | inr now ↦ (let is : now.1.0 ≡ Running ws h used.1 = some_is now.1.0 (Running ws h used.1) (sym now.1.1 ∙ ap (nth (v.nodes n.0).asks) ask ∙ used.2) in
            (subst (λ z. Wanted z wants (is_tenure h.kind)) is now.1.2).0)
      ]

  -- an execution that wants a SHARED folder is where its tenure is in use
  home_of : (v : World) → Moves sha (start sha) v → (n : NodeId) (h : Grant) (ws wants : List Want) (w : Want) (f : FolderName) → InUse v n h ws → In (acquire h.node h.life h.ask wants (is_tenure h.kind)) v.pool → In w wants → w.folder ≡ f → f.mode ≡ Shared
      → (q : Grant) × (us : List Want) × InUse v n q us × Has q (only_slot f)
  home_of v run' n h ws wants w f used sent i at shared =
      let is = wants_are v run' n h ws wants used sent in
      let t : wants_shared w ≡ true = ap (λ (z : FolderName). is_shared z.mode) at ∙ ap is_shared shared in
      let r = (every_run_is_safe sha v run').at_home n h ws w used (subst (In w) (sym is) i) t in
      (r.0, r.1, r.2, subst (λ (z : FolderName). Has r.0 (only_slot z)) at r.4)

  begun_apart : (u : World) → Moves sha (start sha) u → (s : Farm) → Shows sha u s → (n n' : NodeId) (t t' : Ticket) (late : List Event) (o o' : Outcome) → (step sha k s (Begin n t)).outcome ≡ Ok o → GoesOn sha k n t late (step sha k s (Begin n t)).farm
      → (step sha k (run sha k late (step sha k s (Begin n t)).farm) (Begin n' t')).outcome ≡ Ok o' → MayBeAtOnce (run sha k late (step sha k s (Begin n t)).farm).pool n n' t t'
  begun_apart u moves s shows n n' t t' late o o' ok spared ok' = record {
    private = λ g g' x sent sent' has has' private. begun_alone u moves s shows n n' t t' late o o' ok spared ok' g g' x sent.0 sent'.0 sent.1 sent'.1 has has' (ap (λ m. is_private m || is_shared m) private);
    shared = λ f shared one two. at_one f shared one two;
  }
    where
      at_one : (f : FolderName) → f.mode ≡ Shared → WantedUnder (run sha k late (step sha k s (Begin n t)).farm).pool t f → WantedUnder (run sha k late (step sha k s (Begin n t)).farm).pool t' f → n ≡ n'
      at_one f shared (g, wants, w, sent, asked, i, is_f) (g', wants', w', sent', asked', i', is_f') =
          let one = step_next sha k farm u moves s shows (Begin n t) in
          let a = accepted s.size u one.world (Begin n t) (step sha k s (Begin n t)).outcome o ok one.means in
          let h : Grant = a.did.1.0 in
          let ws : List Want = a.did.1.1 in
          let moves1 = moves_trans sha (start sha) u one.world moves one.moves in
          let mid = goes_on late one.world moves1 (step sha k s (Begin n t)).farm one.shows n t h ws a.did.1.2 spared a.did.1.4 in
          let v : World = mid.0 in
          let moves2 = moves_trans sha (start sha) one.world v moves1 mid.1 in
          let after : Farm = run sha k late (step sha k s (Begin n t)).farm in
          let two = step_next sha k farm v moves2 after mid.2 (Begin n' t') in
          let b = accepted after.size v two.world (Begin n' t') (step sha k after (Begin n' t')).outcome o' ok' two.means in
          let h' : Grant = b.did.1.0 in
          let ws' : List Want = b.did.1.1 in
          let moves3 = moves_trans sha (start sha) v two.world moves2 two.moves in
          let still : InUse two.world n h ws = elim (b.used.stopped n h ws mid.3) [ inl now ↦ now | inr gone ↦ absurd gone ] in
          let is : g ≡ h = sent_is v moves2 after mid.2 g h sent.0 (used_made v moves2 n h ws mid.3) (sent.1 ∙ sym a.did.1.2) in
          let later = (moves_inv sha v two.world (moves_inv sha (start sha) v (start_whole sha) moves2).0 two.moves).1.machine in
          let inv3 = (moves_inv sha (start sha) two.world (start_whole sha) moves3).0.now in
          let made' : In (Granted g') two.world.machine.made = later.made (Granted g') ((moves_inv sha (start sha) v (start_whole sha) moves2).0.now.messages (Told (told.Granted g')) (subst (In (Told (told.Granted g'))) (sym mid.2.pool) sent'.0)) in
          let is' : g' ≡ h' = same_grant (sha []) two.world.machine inv3.sound g' h' made' (used_made two.world moves3 n' h' ws' b.did.1.4) (ap (λ (z : Ticket). z.0) (sent'.1 ∙ sym b.did.1.2)) in
          let there : (m : Message) → In m after.pool → In m two.world.pool = λ m j. still_sent v two.world two.moves m (subst (In m) (sym mid.2.pool) j) in
          let home = home_of two.world moves3 n h ws wants w f still (subst (λ (z : Grant). In (acquire z.node z.life z.ask wants (is_tenure z.kind)) two.world.pool) is (there (acquire g.node g.life g.ask wants (is_tenure g.kind)) asked)) i is_f shared in
          let home' = home_of two.world moves3 n' h' ws' wants' w' f b.did.1.4 (subst (λ (z : Grant). In (acquire z.node z.life z.ask wants' (is_tenure z.kind)) two.world.pool) is' (there (acquire g'.node g'.life g'.ask wants' (is_tenure g'.kind)) asked')) i' is_f' shared in
          ((every_run_is_safe sha two.world moves3).alone n n' home.0 home'.0 home.1 home'.1 (only_slot f) home.2 home'.2 home.3 home'.3 (ap (λ m. is_private m || is_shared m) shared)).0

  -- an event finds the world's machine, or what the record holds
  finds_is : (u : World) (e : Event) → (Finds u e ≡ u.machine) ⊎ (Finds u e ≡ recorded u.machine u.down)
  finds_is u RestartCoordinator = inr refl
  finds_is u e = inl refl

  -- ---- which event a version is of

  -- a version on a line of the world, or of its record
  abbrev Stands : World → Slot → LineVersion → Type 0
  Stands u x v = In v (line (sha []) u.machine x) ⊎ In v (line (sha []) (recorded u.machine u.down) x)

  abbrev Of : List Event → Farm → Slot → LineVersion → Type 0
  Of events s x v = (early late : List Event) × (e : Event) × (events ≡ early ++ e ∷ late) × Writes sha k (run sha k early s) e x v

  found : (u : World) (e : Event) (x : Slot) (v : LineVersion) → In v (line (sha []) (Finds u e) x) → Stands u x v
  found u e x v i = elim (finds_is u e) [ inl same ↦ inl (subst (λ m. In v (line (sha []) m x)) same i) | inr kept ↦ inr (subst (λ m. In v (line (sha []) m x)) kept i) ]

  -- a version of the machine that an event made stood before, or the event adds it
  before : (u : World) (e : Event) (said : EventNote) (sends : List Message) (m : Machine) (x : Slot) (v : LineVersion) → Carried (sha []) u e said sends m → In v (line (sha []) m x) → Stands u x v ⊎ In v (adds (sha []) u.pool e said x)
  before u e said sends m x v c i = elim (in_append v (line (sha []) (Finds u e) x) (adds (sha []) u.pool e said x) (subst (In v) (c.lines x) i)) [ inl old ↦ inl (found u e x v old) | inr new ↦ inr new ]

  -- what an event adds in the world, it adds in the farm
  added : (u : World) (s : Farm) (shows : Shows sha u s) (e : Event) (said : EventNote) (x : Slot) (v : LineVersion) → In v (adds (sha []) u.pool e said x) → In v (adds k.empty s.pool e said x)
  added u s shows e said x v i = subst (λ d. In v (adds d s.pool e said x)) (sym farm.empty) (subst (λ p. In v (adds (sha []) p e said x)) shows.pool i)

  -- what the record's lines are
  saved_line : (u : World) (s : Farm) → Shows sha u s → (x : Slot) → s.saved.line x ≡ line (sha []) (recorded u.machine u.down) x
  saved_line u s shows x = by u.down refl shows.saved
    where
      by : (d : Option Machine) → u.down ≡ d → SavedAgrees (sha []) u.pool d s → s.saved.line x ≡ line (sha []) (recorded u.machine u.down) x
      by None e h = ap (λ (r : Saved). r.line x) h.1 ∙ shows.now.lines x ∙ sym (ap (λ d. line (sha []) (recorded u.machine d) x) e)
      by (Some m) e (down, (q, agrees, same)) = ap (λ (r : Saved). r.line x) same ∙ agrees.lines x ∙ sym (ap (λ d. line (sha []) (recorded u.machine d) x) e)

  -- ---- what a save that failed kept

  -- a version that stood in the farm, or in its record
  abbrev Stood : Farm → Slot → LineVersion → Type 0
  Stood s x v = In v (s.ledger.line x) ⊎ In v (s.saved.line x)

  abbrev KeptBy : Farm → Event → (Farm → Turn) → Slot → LineVersion → Type 0
  KeptBy s e turn x v = (turn s).outcome ≡ Err (refusal.Coord coord_refusal.SaveFault) → In v ((turn s).farm.saved.line x)
      → Stood s x v ⊎ ((o : Outcome) × ((turn (unarmed s)).outcome ≡ Ok o) × In v (adds k.empty s.pool e o.note x))

  -- each line that the work leaves is the one before with what the event adds
  abbrev Lines : Farm → Event → Result Work CoordRefusal → Type 0
  Lines s e (Ok w) = (x : Slot) → w.ledger.line x ≡ s.ledger.line x ++ adds k.empty s.pool e (note.Coord w.note) x
  Lines s e (Err r) = ⊤

  settled_kept : (s : Farm) (e : Event) (w : Work) (b : Bool) (a : Option Kept) (x : Slot) (v : LineVersion) → Lines s e (Ok w) → (settled b a w s).outcome ≡ Err (refusal.Coord coord_refusal.SaveFault) → In v ((settled b a w s).farm.saved.line x)
      → Stood s x v ⊎ ((o : Outcome) × ((settled b None w (unarmed s)).outcome ≡ Ok o) × In v (adds k.empty s.pool e o.note x))
  settled_kept s e w false a x v lines fault i = inl (inr i)
  settled_kept s e w true None x v lines fault i = (let bad : ◌≡◌ {A = Result Outcome EventRefusal} (settled true None w s).outcome (Err (refusal.Coord coord_refusal.SaveFault)) = fault in cc)
  settled_kept s e w true (Some Old) x v lines fault i = inl (inr i)
  settled_kept s e w true (Some New) x v lines fault i = elim (in_append v (s.ledger.line x) (adds k.empty s.pool e (note.Coord w.note) x) (subst (In v) (lines x) i)) [
    | inl old ↦ inl (inl old)
    | inr new ↦ inr (_, refl, new)
  ]

  coordinated_kept : (s : Farm) (e : Event) (d : Bool) (r : Result Work CoordRefusal) (x : Slot) (v : LineVersion) → Lines s e r → KeptBy s e (λ t. coordinated d r t) x v
  coordinated_kept s e true r x v lines fault i = inl (inr i)
  coordinated_kept s e false (Err r) x v lines fault i = inl (inr i)
  coordinated_kept s e false (Ok w) x v lines fault i = settled_kept s e w w.changed s.armed x v lines fault i

  at_node_kept : (b : Bool) (n : NodeId) (a : NodeAnswer) (s : Farm) (x : Slot) (v : LineVersion) → In v ((at_node b n a s).farm.saved.line x) → Stood s x v
  at_node_kept true n (Ok w) s x v i = inr i
  at_node_kept true n (Err r) s x v i = inr i
  at_node_kept false n a s x v i = inr i

  restarts_kept : (n : NodeId) (s : Farm) (x : Slot) (v : LineVersion) → In v ((restarts k n s).farm.saved.line x) → Stood s x v
  restarts_kept n s x v = elim (cases_Bool (may_restart k (s.nodes n.0))) [ inl t ↦ rw t (λ i. inr i) | inr t ↦ rw t (λ i. inr i) ]

  of_lines : (s : Farm) (e : Event) (change : CoordNote → saying.Change s.ledger) (r : Result Work CoordRefusal) → saying.GrewOk k s.ledger change r → ((c : CoordNote) (x : Slot) → (change c).line x ≡ s.ledger.line x ++ adds k.empty s.pool e (note.Coord c) x) → Lines s e r
  of_lines s e change (Ok w) g same = λ x. g.lines x ∙ same w.note x
  of_lines s e change (Err r) g same = tt

  delivered_kept : (u : World) → Moves sha (start sha) u → (s : Farm) → Shows sha u s → (number : ℕ) (o : Option Message) (x : Slot) (v : LineVersion) → nth s.pool number ≡ o → KeptBy s (Deliver number) (λ t. delivered sha k o t) x v
  delivered_kept u moves s shows number None x v here fault i = inl (inr i)
  delivered_kept u moves s shows number (Some (to.ToCoord y)) x v here fault i =
      coordinated_kept s (Deliver number) s.down (Ok (handled k y (begin_work s.ledger))) x v
      (λ z. (handled_grew sha k farm u moves s shows y).lines z ∙ ap (λ o. s.ledger.line z ++ message_adds o (note.Coord (handled k y (begin_work s.ledger)).note) z) (sym here)) fault i
  delivered_kept u moves s shows number (Some (to.ToNode (to_node.FromCoord y))) x v here fault i = inl (at_node_kept (is_node s (told_to y)) (told_to y) _ s x v i)
  delivered_kept u moves s shows number (Some (to.ToNode (to_node.Fetch y))) x v here fault i = inl (at_node_kept (is_node s y.node) y.node _ s x v i)
  delivered_kept u moves s shows number (Some (to.ToNode (to_node.Blob n c))) x v here fault i = inl (at_node_kept (is_node s n) n _ s x v i)

  retire_kept : (b : Bool) (n : NodeId) (s : Farm) (x : Slot) (v : LineVersion) → KeptBy s (Retire n) (λ t. if b then coordinated s.down (retired k n (begin_work s.ledger)) t else refused refusal.NoSuchNode t) x v
  retire_kept true n s x v fault i = coordinated_kept s (Retire n) s.down (retired k n (begin_work s.ledger)) x v (of_lines s (Retire n) (λ c. saying.retiring s.ledger n) (retired k n (begin_work s.ledger)) (saying.retired_grew k s.ledger n) (λ c z. sym (append-nil (s.ledger.line z)))) fault i
  retire_kept false n s x v fault i = inl (inr i)

  kept_by : (u : World) → Moves sha (start sha) u → (s : Farm) → Shows sha u s → (e : Event) (x : Slot) (v : LineVersion) → KeptBy s e (λ t. step sha k t e) x v
  unfolding step
  kept_by u moves s shows (replay.Ask n wants) x v fault i = inl (at_node_kept (is_node s n) n _ s x v i)
  kept_by u moves s shows (Tenure n f) x v fault i = inl (at_node_kept (is_node s n) n _ s x v i)
  kept_by u moves s shows (Deliver number) x v fault i = delivered_kept u moves s shows number (nth s.pool number) x v refl fault i
  kept_by u moves s shows (Begin n t) x v fault i = inl (at_node_kept (is_node s n) n _ s x v i)
  kept_by u moves s shows (Finish n t lefts) x v fault i = inl (at_node_kept (is_node s n) n _ s x v i)
  kept_by u moves s shows (Abort n t) x v fault i = inl (at_node_kept (is_node s n) n _ s x v i)
  kept_by u moves s shows (Resend n) x v fault i = inl (at_node_kept (is_node s n) n _ s x v i)
  kept_by u moves s shows Nudge x v fault i = coordinated_kept s Nudge s.down (Ok (nudged k (begin_work s.ledger))) x v (λ z. (saying.nudged_grew k s.ledger).lines z ∙ sym (append-nil (s.ledger.line z))) fault i
  kept_by u moves s shows (Withdraw t) x v fault i = coordinated_kept s (Withdraw t) s.down (withdrawn k t (begin_work s.ledger)) x v (of_lines s (Withdraw t) (λ c. saying.same s.ledger) (withdrawn k t (begin_work s.ledger)) (saying.withdrawn_grew k s.ledger t) (λ c z. sym (append-nil (s.ledger.line z)))) fault i
  kept_by u moves s shows (Prune p) x v fault i = coordinated_kept s (Prune p) s.down (pruned k p (begin_work s.ledger)) x v (of_lines s (Prune p) (saying.pruning k s.ledger p) (pruned k p (begin_work s.ledger)) (saying.pruned_grew k s.ledger p) (λ c z. refl)) fault i
  kept_by u moves s shows (Retire n) x v fault i = retire_kept (is_node s n) n s x v fault i
  kept_by u moves s shows (RestartNode n) x v fault i = elim (cases_Bool (is_node s n)) [ inl t ↦ inl (restarts_kept n s x v (rw t at i)) | inr t ↦ inl (inr (rw t at i)) ]
  kept_by u moves s shows RestartCoordinator x v fault i = inl (inr i)
  kept_by u moves s shows (Forge n c) x v fault i = inl (at_node_kept (is_node s n) n _ s x v i)
  kept_by u moves s shows (Forget n d) x v fault i = inl (at_node_kept (is_node s n) n _ s x v i)
  kept_by u moves s shows (FailSave kept) x v fault i = inl (inr i)

  stood : (u : World) (s : Farm) → Shows sha u s → (x : Slot) (v : LineVersion) → Stood s x v → Stands u x v
  stood u s shows x v (inl i) = inl (subst (In v) (shows.now.lines x) i)
  stood u s shows x v (inr i) = inr (subst (In v) (saved_line u s shows x) i)

  one_event : (u : World) → Moves sha (start sha) u → (s : Farm) (shows : Shows sha u s) (e : Event) (w : World) → Shows sha w (step sha k s e).farm → (r : Result Outcome EventRefusal) → (step sha k s e).outcome ≡ r → Means sha k s.size u e r w → (x : Slot) (v : LineVersion) → Stands w x v → Stands u x v ⊎ Writes sha k s e x v
  one_event u moves s shows e w after (Ok o) ok a x v (inl i) = elim (before u e o.note a.sent w.machine x v a.carried i) [ inl old ↦ inl old | inr new ↦ inr (inl (o, ok, added u s shows e o.note x v new)) ]
  one_event u moves s shows e w after (Ok o) ok a x v (inr i) = elim a.down [
    | inl same ↦ by u.down refl same
    | inr restarted ↦ now (subst (λ d. In v (line (sha []) (recorded w.machine d) x)) restarted.1 i)
  ]
    where
      now : In v (line (sha []) w.machine x) → Stands u x v ⊎ Writes sha k s e x v
      now j = elim (before u e o.note a.sent w.machine x v a.carried j) [ inl old ↦ inl old | inr new ↦ inr (inl (o, ok, added u s shows e o.note x v new)) ]

      by : (d : Option Machine) → u.down ≡ d → w.down ≡ u.down → Stands u x v ⊎ Writes sha k s e x v
      by None up same = now (subst (λ d. In v (line (sha []) (recorded w.machine d) x)) (same ∙ up) i)
      by (Some m) down same = inl (inr (subst (λ d. In v (line (sha []) (recorded u.machine d) x)) (sym down) (subst (λ d. In v (line (sha []) (recorded w.machine d) x)) (same ∙ down) i)))
  one_event u moves s shows e w after (Err r) ok same x v (inl i) = inl (inl (subst (λ m. In v (line (sha []) m x)) same.machine i))
  one_event u moves s shows e w after (Err r) ok same x v (inr i) = elim same.down [
    | inl down ↦ inl (inr (subst (λ m. In v (line (sha []) (recorded m u.down) x)) same.machine (subst (λ d. In v (line (sha []) (recorded w.machine d) x)) down i)))
    | inr failed ↦ elim (kept_by u moves s shows e x v (ok ∙ ap Err failed.0) (subst (In v) (sym (saved_line w (step sha k s e).farm after x)) i)) [
      | inl old ↦ inl (stood u s shows x v old)
      | inr new ↦ inr (inr (ok ∙ ap Err failed.0, new))
    ]
  ]

  all_events : (events : List Event) (u : World) → Moves sha (start sha) u → (s : Farm) → Shows sha u s → (x : Slot) (v : LineVersion) → In v ((run sha k events s).ledger.line x) → Stands u x v ⊎ Of events s x v
  all_events [] u moves s shows x v i = inl (inl (subst (In v) (shows.now.lines x) i))
  all_events (e ∷ es) u moves s shows x v i =
      let n = step_next sha k farm u moves s shows e in
      elim (all_events es n.world (moves_trans sha (start sha) u n.world moves n.moves) (step sha k s e).farm n.shows x v i) [
        | inl stands ↦ elim (one_event u moves s shows e n.world n.shows (step sha k s e).outcome refl n.means x v stands) [
          | inl old ↦ inl old
          | inr new ↦ inr ([], es, e, refl, new)
        ]
        | inr later ↦ inr (e ∷ later.0, later.1, later.2, ap (λ l. e ∷ l) later.3, later.4)
      ]

  headline : (u : World) → Moves sha (start sha) u → (s : Farm) → Shows sha u s → WorldFits k u → AllLast k s → Headline sha k s
  headline u moves s shows fits last = record {
    withdrawn = λ t o ok.
        (let n = step_next sha k farm u moves s shows (Withdraw t) in
        let a = accepted s.size u n.world (Withdraw t) (step sha k s (Withdraw t)).outcome o ok n.means in
        let g = a.carried.did.1 in
        out (Withdraw t) n.world n.moves n.shows t (inl (subst (λ (z : Ticket). n.world.machine.ending z.0 ≡ Some Withdrawn) g.2 (a.carried.ended.all g.0 Withdrawn g.1 (g.2, refl)))));
    apart = begun_apart u moves s shows;
    rising = λ x. subst Rising (sym (shows.now.lines x)) ((every_run_is_safe sha u moves).rising x);
    grows = λ late x.
        (let r = run_next sha k farm late u moves s shows in
        let since = every_run_stays_safe sha u r.world moves r.moves in
        subst (λ l. IsFrontOf (s.ledger.line x) l) (sym (r.shows.now.lines x)) (subst (λ l. IsFrontOf l (line (sha []) r.world.machine x)) (sym (shows.now.lines x)) (since.lines x)));
    contents = λ late n n' x number c c' held held'.
        (let r = run_next sha k farm late u moves s shows in
        let since = every_run_stays_safe sha u r.world moves r.moves in
        since.contents n n' x number c c' (subst (λ z. HoldsContent z x number c) (sym (shows.nodes n.0)) held) (subst (λ z. HoldsContent z x number c') (sym (r.shows.nodes n'.0)) held'));
    also = record {
      greatest = λ n. last n.0;
      instance = λ g x i j private.
          (let made = (moves_inv sha (start sha) u (start_whole sha) moves).0.now.messages (Told (told.Granted g)) (subst (In (Told (told.Granted g))) (sym shows.pool) i) in
          fits.now g made x j private);
      retired = λ j o ok g i at.
          (let n = step_next sha k farm u moves s shows (Retire j) in
          let a = accepted s.size u n.world (Retire j) (step sha k s (Retire j)).outcome o ok n.means in
          let x = shows.now.live_made g i in
          out (Retire j) n.world n.moves n.shows g.ticket (inl (named n.world.machine x.0 g Withdrawn x.2 (a.carried.ended.all x.0 Withdrawn x.1 (ap (λ (z : Lease). z.node) x.2 ∙ at, refl)))));
      older = λ number y o here ok kept newer g i at lt.
          (let n = step_next sha k farm u moves s shows (Deliver number) in
          let a = accepted s.size u n.world (Deliver number) (step sha k s (Deliver number)).outcome o ok n.means in
          let x = shows.now.live_made g i in
          let c = said_told s number y o here ok in
          let sent : nth u.pool number ≡ Some (Said y) = ap (λ (p : List Message). nth p number) shows.pool ∙ here in
          let kept' : u.machine.gone y.node.0 ≡ false = sym (ap (λ (f : ℕ → Bool). f y.node.0) shows.now.gone) ∙ kept in
          let newer' : u.machine.lives y.node.0 < y.life.0 = subst (λ (f : ℕ → ℕ). f y.node.0 < y.life.0) shows.now.lives newer in
          let lt' : x.0.life.0 < y.life.0 = subst (λ (z : Lease). z.life.0 < y.life.0) (sym x.2) lt in
          out (Deliver number) n.world n.moves n.shows g.ticket (inr (named n.world.machine x.0 g Died x.2
          (a.carried.ended.all x.0 Died x.1 (c.0, y, c.1, sent, Of_older_life kept' newer' (ap (λ (z : Lease). z.node) x.2 ∙ at) lt')))));
      tenures = λ n n' t t' late o o' ok spared ok' g g' x sent sent' has has' shared. begun_alone u moves s shows n n' t t' late o o' ok spared ok' g g' x sent.0 sent'.0 sent.1 sent'.1 has has' (ap (λ m. is_private m || is_shared m) shared);
      spent = λ n e. spent_down sha k s n e;
      arms = λ kept. armed_now sha k s kept;
      armed = λ e other. leaves_armed sha k s e other;
      one_ask = λ n l a ws ws' t t' i j. one_ask sha u moves n l a ws ws' t t' (subst (In (acquire n l a ws t)) (sym shows.pool) i) (subst (In (acquire n l a ws' t')) (sym shows.pool) j);
      wanted = λ g i.
          (let inv = (moves_inv sha (start sha) u (start_whole sha) moves).0.now in
          let r = inv.asked g (inv.messages (Told (told.Granted g)) (subst (In (Told (told.Granted g))) (sym shows.pool) i)) in
          (r.0, subst (In (acquire g.node g.life g.ask r.0 (is_tenure g.kind))) shows.pool r.1, slots_wanted g r.0 r.2));
      fenced = λ n l t i late x v j at.
          (let r = run_next sha k farm late u moves s shows in
          let all = moves_trans sha (start sha) u r.world moves r.moves in
          let sent : In (Told (told.Fenced n l t)) r.world.pool = still_sent u r.world r.moves (Told (told.Fenced n l t)) (subst (In (Told (told.Fenced n l t))) (sym shows.pool) i) in
          (every_run_is_safe sha r.world all).fenced n l t sent (x, v, subst (In v) (r.shows.now.lines x) j, at));
      answered = λ up e o ok x.
          (let n = step_next sha k farm u moves s shows e in
          let a = accepted s.size u n.world e (step sha k s e).outcome o ok n.means in
          let same : Finds u e ≡ u.machine = found_up e (up_is sha k farm u moves s shows e up) in
          n.shows.now.lines x ∙ a.carried.lines x ∙ ap (λ l. l ++ adds (sha []) u.pool e o.note x) (ap (λ m. line (sha []) m x) same ∙ sym (shows.now.lines x))
          ∙ ap (λ p. s.ledger.line x ++ adds (sha []) p e o.note x) shows.pool ∙ ap (λ d. s.ledger.line x ++ adds d s.pool e o.note x) (sym farm.empty));
      restarted = λ up g i unsaved.
          (let n = step_next sha k farm u moves s shows RestartCoordinator in
          let ok = restart_ok s in
          let a = accepted s.size u n.world RestartCoordinator (step sha k s RestartCoordinator).outcome ok.0 ok.1 n.means in
          let x = shows.now.live_made g i in
          let finds : Finds u RestartCoordinator ≡ u.machine = ap (recorded u.machine) (up_is sha k farm u moves s shows RestartCoordinator up) in
          let live : Live (Finds u RestartCoordinator) x.0 = subst (λ m. Live m x.0) (sym finds) x.1 in
          out RestartCoordinator n.world n.moves n.shows g.ticket (inl (named n.world.machine x.0 g Withdrawn x.2 (a.carried.ended.all x.0 Withdrawn live (unsaved_ends x.0 (ap is_saved x.2 ∙ unsaved))))));
    };
  }
    where
      found_up : (e : Event) → u.down ≡ None → Finds u e ≡ u.machine
      found_up e up = elim (finds_is u e) [ inl same ↦ same | inr kept ↦ kept ∙ ap (recorded u.machine) up ]

      out : (e : Event) (v : World) → Moves sha u v → Shows sha v (step sha k s e).farm → (t : Ticket) → IsWithdrawn v.machine t → StaysOut sha k (step sha k s e).farm t
      out e v more after t gone = stays_out v (moves_trans sha (start sha) u v moves more) (step sha k s e).farm after t gone

      named : (m : Machine) (x : Grant) (g : Lease) (y : Ending) → lease_from x ≡ g → m.ending x.ticket.0 ≡ Some y → m.ending g.ticket.0 ≡ Some y
      named m x g y is e = subst (λ (z : Lease). m.ending z.ticket.0 ≡ Some y) is e

pub every_schedule_has_a_chronicle : EveryScheduleHasAChronicle
every_schedule_has_a_chronicle sha k farm size events =
    chronicle sha k farm events (opening sha size) (start sha) [] (Still (start sha)) (λ w i. elim i [ inl e ↦ subst (λ z. Moves sha (start sha) z × Moves sha z (start sha)) (sym e) (Still (start sha), Still (start sha)) | inr none ↦ absurd none ]) (opening_shows sha k farm size)

pub every_version_is_answered : EveryVersionIsAnswered
every_version_is_answered sha k farm size events x v i = elim (all_events sha k farm events (start sha) (Still (start sha)) (opening sha size) (opening_shows sha k farm size) x v i) [
  | inl (inl none) ↦ absurd none
  | inl (inr none) ↦ absurd none
  | inr of ↦ of
]

pub every_schedule_means : EveryScheduleMeans
every_schedule_means sha k farm size events = (let r = from_opening sha k farm size events in headline sha k farm r.world r.moves (run sha k events (opening sha size)) r.shows (r.fits (start_fits sha k farm)) (scheduled_last sha k size events))

pub every_farm_is_saved : EveryFarmIsSaved
every_farm_is_saved sha k farm size events =
    let r = from_opening sha k farm size events in
    record { up = up_saved sha k farm r.world r.moves (run sha k events (opening sha size)) r.shows Nudge; either = (r.world, r.moves, r.shows) }

pub restart_reads_the_record : RestartReadsTheRecord
unfolding step
restart_reads_the_record sha k s t e = ap reads e

-- of the machine that the record is of
covered : (sha : List ℕ → Digest) (u : World) → Moves sha (start sha) u → (s : Farm) → Shows sha u s → Covered s
covered sha u moves s shows = by u.down refl shows.saved
  where
    whole : Whole sha u
    whole = (moves_inv sha (start sha) u (start_whole sha) moves).0

    of_it : (m : Machine) (q : Ledger) → Inv sha (record u { machine = m }) → Agrees (sha []) u.pool m q → s.saved ≡ saves q → Covered s
    of_it m q inv now same = record {
      tickets = λ g i.
          (let made = inv.messages (Told (told.Granted g)) (subst (In (Told (told.Granted g))) (sym shows.pool) i) in
          let le : ticket_of (Granted g) ≤ m.last = made_below (sha []) m inv.sound (Granted g) made in
          let le' : g.ticket.0 ≤ m.last = le in
          let last : q.last ≡ m.last = now.last in
          let top : q.last ≤ q.ceiling = now.ceiling in
          let at : s.saved.ceiling ≡ q.ceiling = ap (λ (r : Saved). r.ceiling) same in
          omega arith);
      versions = λ n l t versions v i j.
          (let all = (inv.messages (Told (told.Committed n l t versions)) (subst (In (Told (told.Committed n l t versions))) (sym shows.pool) i)).0 v j in
          (all.0, all.1, subst (λ (x : List LineVersion). slice_get x all.0 ≡ Some (record { ticket = t; digest = v.digest })) (sym (now.lines v.slot) ∙ sym (ap (λ (r : Saved). r.line v.slot) same)) all.2));
    }

    by : (d : Option Machine) → u.down ≡ d → SavedAgrees (sha []) u.pool d s → Covered s
    by None e saved = of_it u.machine s.ledger whole.now shows.now saved.1
    by (Some m) e (down, (q, agrees, same)) = of_it m q (whole.kept m e).0 agrees same

pub every_record_covers : EveryRecordCovers
every_record_covers sha k farm size events = (let r = from_opening sha k farm size events in covered sha r.world r.moves (run sha k events (opening sha size)) r.shows)
