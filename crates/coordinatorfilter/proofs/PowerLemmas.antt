-- What a power failure amid a batch leaves: what the coordinator had decided of the first of its lines.
use Rattle.std.proofs.Common.{◌≡◌, ◌⊎◌, ℕ, Bool, true, false, List, [], ◌∷◌, Option, Some, None, Result, Ok, Err, inl, inr, refl, sym, ap, ◌∙◌, subst}
use Rattle.std.specs.Prelude.{⊤}
use Rattle.coordinator.specs.Held.{ledger}
use Rattle.coordinator.specs.Seen.{Seen}
use Rattle.coordinator.specs.Settling.{SettlesWhile, Restarts}
use Rattle.events.specs.declared.answer.CoordRefusal.{CoordRefusal}
use Rattle.events.specs.declared.answer.CoordRefusal.TheVariants.{Down, SaveFault, BadRecord, NotLive, SlotLeased, NoSuchSlot, TicketsSpent, OutOfMemory, LoadFault, Tenure, TenureHeld, NodeRetired}
use Rattle.filekeeper.proofs.LeftLemmas.{all_left, left_before}
use Rattle.filekeeper.specs.Keepers.{FileLoads, FileSyncs, IsLeft, file_texts}
use Rattle.ledger.specs.Settling.{SavesIf, Answers, is_save_fault}
use Rattle.ledger.specs.declared.handled.Handled.{Handled}
use Rattle.protocol.specs.Farm.{farm_limits}
use Rattle.protocol.specs.Ledger.{Work, Saved, saves}
use Rattle.protocol.specs.Lists.{In}
use Rattle.protocol.specs.Processes as process
use Rattle.protocol.specs.Processes.{decided}
use Rattle.protocol.specs.Processes.CoordinatorDoes.{Is_killed}
use Rattle.saverecord.specs.declared.refusal.KeeperRefusal.{KeeperRefusal}
use Rattle.saverecord.specs.declared.refusal.KeeperRefusal.TheVariants.{Fault}
use Rattle.saverecord.specs.Texts.{Texts}
use Rattle.services.specs.declared.lost.Lost.{Lost}
use Rattle.services.specs.Served as served
use Rattle.coordinatorlines.specs.Calls.{called}
use Rattle.coordinatorfilter.specs.declared.reply.Reply.{Reply}
use Rattle.coordinatorfilter.specs.Carried.{Saving, Loading, Syncing, RestartsIf, CarriesOut}
use Rattle.coordinatorfilter.specs.Written.{Filters}
use Rattle.coordinatorfilter.specs.Written.Filters.{Calls, Stops, Shows, Drops}
use Rattle.coordinatorfilter.specs.Rules.{IsHonest, file_saves, process_of, gone_with, filter_steps, APowerFailureIsARun, APowerFailureOverFilesIsARun}
use Rattle.coordinatorfilter.proofs.RuleLemmas.{are_heard, loads_keep, rests, same_process, does_silently, lines_come, gathered_file}
use Rattle.farmwire.specs.Sealed.{Keys}

-- ---- a line

module _ {K : Type 0} (saving : Saving K) (loading : Loading K) (syncing : Syncing K) (kept lasting : K → Texts) (honest : IsHonest saving loading syncing kept lasting) where
  -- what a crash may leave of a keeper's texts
  abbrev MayBeLeft : K → Texts → Type 0
  MayBeLeft k left = IsLeft (lasting k) (kept k) left

  -- what a crash leaves of the texts after a step it leaves of those before it, or they were kept before it or after it
  abbrev WereThere : K → K → Texts → Type 0
  WereThere old new left = (left ≡ kept new) ⊎ (left ≡ kept old) ⊎ MayBeLeft old left

  same_left : (old new : K) (left : Texts) → new ≡ old → MayBeLeft new left → WereThere old new left
  same_left old new left same h = inr (inr (subst (λ k. MayBeLeft k left) same h))

  unchanged_left : (old new : K) (left : Texts) → kept new ≡ kept old → lasting new ≡ lasting old → MayBeLeft new left → WereThere old new left
  unchanged_left old new left texts lasts h = inr (inr (subst (λ t. IsLeft (lasting old) t left) texts (subst (λ t. IsLeft t (kept new) left) lasts h)))

  lasting_left : (old new : K) (texts left : Texts) → kept new ≡ texts → lasting new ≡ texts → MayBeLeft new left → WereThere old new left
  lasting_left old new texts left is lasts h = inl (all_left (lasting new) (kept new) left (lasts ∙ sym is) h)

  loaded_left : (old : K) (refusal : Option KeeperRefusal) (new : K) (left : Texts)
      → loading old refusal new → MayBeLeft new left → WereThere old new left
  loaded_left old refusal new left load h =
      elim (honest.loads old refusal new load) [
        | inl same ↦ unchanged_left old new left same.0 same.1 h
        | inr all ↦ lasting_left old new (kept old) left all.0 all.1 h
      ]

  -- a restart loads, if it is due, and changes no texts
  pub restart_loads : (texts : Texts) (old new : Seen K) (result : Result ⊤ CoordRefusal) → Restarts loading texts old new result
      → (refusal : Option KeeperRefusal) × loading old.keeper refusal new.keeper
  restart_loads texts old new (Ok done) r = (None, r.loaded)
  restart_loads texts old new (Err LoadFault) r = (Some Fault, r.0)
  restart_loads texts old new (Err OutOfMemory) r = r.0
  restart_loads texts old new (Err Down) r = absurd r
  restart_loads texts old new (Err SaveFault) r = absurd r
  restart_loads texts old new (Err BadRecord) r = absurd r
  restart_loads texts old new (Err NotLive) r = absurd r
  restart_loads texts old new (Err SlotLeased) r = absurd r
  restart_loads texts old new (Err NoSuchSlot) r = absurd r
  restart_loads texts old new (Err TicketsSpent) r = absurd r
  restart_loads texts old new (Err Tenure) r = absurd r
  restart_loads texts old new (Err TenureHeld) r = absurd r
  restart_loads texts old new (Err NodeRetired) r = absurd r

  restart_keeps : (due : Bool) (texts : Texts) (old new : Seen K) (restart : Option (Result ⊤ CoordRefusal)) → RestartsIf due loading texts old new restart
      → kept new.keeper ≡ kept old.keeper
  restart_keeps false texts old new restart r = ap (λ (s : Seen K). kept s.keeper) r.1
  restart_keeps true texts old new None r = absurd r
  restart_keeps true texts old new (Some result) r =
      let load = restart_loads texts old new result r in
      loads_keep saving loading syncing kept lasting honest old.keeper load.0 new.keeper load.1

  restart_left : (due : Bool) (texts : Texts) (old new : Seen K) (restart : Option (Result ⊤ CoordRefusal)) (left : Texts)
      → RestartsIf due loading texts old new restart → MayBeLeft new.keeper left → WereThere old.keeper new.keeper left
  restart_left false texts old new restart left r h = same_left old.keeper new.keeper left (ap (λ (s : Seen K). s.keeper) r.1) h
  restart_left true texts old new None left r h = absurd r
  restart_left true texts old new (Some result) left r h =
      let load = restart_loads texts old new result r in
      loaded_left old.keeper load.0 new.keeper left load.1 h

  -- a call
  saves_left : (changed : Bool) (s : Saved) (old new : K) (left : Texts) → SavesIf saving changed s old new → MayBeLeft new left → WereThere old new left
  saves_left false s old new left same h = same_left old new left same h
  saves_left true s old new left saved h =
      let is = (honest.saves old saved.texts new saved.left).0 in
      elim (honest.saves old saved.texts new saved.left).1 [
        | inl lasts ↦ lasting_left old new saved.texts left is lasts h
        | inr adds ↦ elim (left_before (kept old) (lasting old) saved.texts (lasting new) left adds.entry adds.kept adds.lasts (subst (λ t. IsLeft (lasting new) t left) is h)) [
          | inl now ↦ inl (now ∙ sym is)
          | inr before ↦ inr (inr before)
        ]
      ]

  answered_left : (work : Result Work CoordRefusal) (old new : Seen K) (result : Result Handled CoordRefusal) (left : Texts)
      → Answers saving work old new result → MayBeLeft new.keeper left → WereThere old.keeper new.keeper left
  answered_left (Ok w) old new (Ok done) left answer h = saves_left w.changed (saves w.ledger) old.keeper new.keeper left answer.saved h
  answered_left (Ok w) old new (Err SaveFault) left answer h =
      elim (honest.fails old.keeper answer.saved.texts new.keeper answer.saved.left) [
        | inl same ↦ unchanged_left old.keeper new.keeper left same.0 same.1 h
        | inr all ↦ lasting_left old.keeper new.keeper answer.saved.texts left all.0 all.1 h
      ]
  answered_left (Ok w) old new (Err Down) left answer h = same_left old.keeper new.keeper left (ap (λ (s : Seen K). s.keeper) answer.1) h
  answered_left (Ok w) old new (Err BadRecord) left answer h = same_left old.keeper new.keeper left (ap (λ (s : Seen K). s.keeper) answer.1) h
  answered_left (Ok w) old new (Err NotLive) left answer h = same_left old.keeper new.keeper left (ap (λ (s : Seen K). s.keeper) answer.1) h
  answered_left (Ok w) old new (Err SlotLeased) left answer h = same_left old.keeper new.keeper left (ap (λ (s : Seen K). s.keeper) answer.1) h
  answered_left (Ok w) old new (Err NoSuchSlot) left answer h = same_left old.keeper new.keeper left (ap (λ (s : Seen K). s.keeper) answer.1) h
  answered_left (Ok w) old new (Err TicketsSpent) left answer h = same_left old.keeper new.keeper left (ap (λ (s : Seen K). s.keeper) answer.1) h
  answered_left (Ok w) old new (Err OutOfMemory) left answer h = same_left old.keeper new.keeper left (ap (λ (s : Seen K). s.keeper) answer.1) h
  answered_left (Ok w) old new (Err LoadFault) left answer h = same_left old.keeper new.keeper left (ap (λ (s : Seen K). s.keeper) answer.1) h
  answered_left (Ok w) old new (Err Tenure) left answer h = same_left old.keeper new.keeper left (ap (λ (s : Seen K). s.keeper) answer.1) h
  answered_left (Ok w) old new (Err TenureHeld) left answer h = same_left old.keeper new.keeper left (ap (λ (s : Seen K). s.keeper) answer.1) h
  answered_left (Ok w) old new (Err NodeRetired) left answer h = same_left old.keeper new.keeper left (ap (λ (s : Seen K). s.keeper) answer.1) h
  answered_left (Err e) old new result left answer h = same_left old.keeper new.keeper left (ap (λ (s : Seen K). s.keeper) answer.1) h

  settled_left : (down : Bool) (work : Result Work CoordRefusal) (old new : Seen K) (result : Result Handled CoordRefusal) (left : Texts)
      → SettlesWhile down saving work old new result → MayBeLeft new.keeper left → WereThere old.keeper new.keeper left
  settled_left true work old new result left answer h = same_left old.keeper new.keeper left (ap (λ (s : Seen K). s.keeper) answer.1) h
  settled_left false work old new result left answer h = answered_left work old new result left answer h

  -- a step before another one that changes no texts, and the other way round
  then_kept : (old mid new : K) (left : Texts) → kept new ≡ kept mid → WereThere old mid left → WereThere old new left
  then_kept old mid new left same (inl now) = inl (now ∙ sym same)
  then_kept old mid new left same (inr before) = inr before

  kept_before : (old mid new : K) (left : Texts) → kept mid ≡ kept old → (MayBeLeft mid left → WereThere old mid left) → WereThere mid new left → WereThere old new left
  kept_before old mid new left same first (inl now) = inl now
  kept_before old mid new left same first (inr (inl was)) = inr (inl (was ∙ same))
  kept_before old mid new left same first (inr (inr may)) =
      elim (first may) [ inl is ↦ inr (inl (is ∙ same)) | inr before ↦ inr before ]

  carried_left : (call : process.Call) (old new : Seen K) (reply : Reply) (left : Texts) → CarriesOut saving loading kept call old new reply
      → MayBeLeft new.keeper left → WereThere old.keeper new.keeper left
  carried_left call old new reply left c h =
      let late : WereThere c.done.keeper new.keeper left = restart_left (is_save_fault reply.answer) (kept c.done.keeper) c.done new reply.after left c.after h in
      let same : kept new.keeper ≡ kept c.done.keeper = restart_keeps (is_save_fault reply.answer) (kept c.done.keeper) c.done new reply.after c.after in
      let middle : MayBeLeft c.done.keeper left → WereThere c.ready.keeper c.done.keeper left =
      settled_left c.ready.down (decided farm_limits (ledger c.ready.held) call) c.ready c.done reply.answer left c.answer in
      let first : MayBeLeft c.ready.keeper left → WereThere old.keeper c.ready.keeper left = restart_left old.down (kept old.keeper) old c.ready reply.before left c.before in
      let ready : kept c.ready.keeper ≡ kept old.keeper = restart_keeps old.down (kept old.keeper) old c.ready reply.before c.before in
      let upto : MayBeLeft c.done.keeper left → WereThere old.keeper new.keeper left =
      λ may. kept_before old.keeper c.ready.keeper new.keeper left ready first (then_kept c.ready.keeper c.done.keeper new.keeper left same (middle may)) in
      elim late [
        | inl now ↦ inl now
        | inr before ↦ elim before [
          | inl was ↦ inl (was ∙ sym same)
          | inr may ↦ upto may
        ]
      ]

  line_left : (keys : Keys) (given : Result (List ℕ) Lost) (answer : List ℕ) (old new : Seen K) (left : Texts) → Filters saving loading kept keys given answer old new
      → MayBeLeft new.keeper left → WereThere old.keeper new.keeper left
  line_left keys given answer old new left (Calls call reply asks done written) h = carried_left (called call) old new reply left done h
  line_left keys given answer old new left (Stops call asks restart out) h = restart_left old.down (kept old.keeper) old new restart.0 left restart.1 h
  line_left keys given answer old new left (Shows question asks same text) h = same_left old.keeper new.keeper left (ap (λ (s : Seen K). s.keeper) same) h
  line_left keys given answer old new left (Drops why asks same text) h = same_left old.keeper new.keeper left (ap (λ (s : Seen K). s.keeper) same) h

  -- ---- lines

  -- after the first of these lines the texts were kept
  record WereKept (keys : Keys) (limit : ℕ) (lines : List (List ℕ)) (old : Seen K) (left : Texts) : Type 0 where
    early : List (List ℕ)
    answers : List (List ℕ)
    then : Seen K
    answered : served.Answers (filter_steps saving loading kept keys) limit old early answers then
    is : kept then.keeper ≡ left
    among : (line : List ℕ) → In line early → In line lines

  after_none : (keys : Keys) (limit : ℕ) (lines : List (List ℕ)) (old : Seen K) (left : Texts) → left ≡ kept old.keeper → WereKept keys limit lines old left
  after_none keys limit lines old left is = record { early = []; answers = []; then = old; answered = refl; is = sym is; among = λ line none. absurd none }

  lines_left : (keys : Keys) (limit : ℕ) (lines answers : List (List ℕ)) (old new : Seen K) (left : Texts)
      → served.Answers (filter_steps saving loading kept keys) limit old lines answers new → MayBeLeft new.keeper left
      → WereKept keys limit lines old left ⊎ MayBeLeft old.keeper left
  lines_left keys limit [] [] old new left h may = inr (subst (λ (s : Seen K). MayBeLeft s.keeper left) (sym h) may)
  lines_left keys limit [] (a ∷ answers) old new left h may = absurd h
  lines_left keys limit (l ∷ lines) [] old new left h may = absurd h
  lines_left keys limit (l ∷ lines) (a ∷ answers) old new left h may =
      elim (lines_left keys limit lines answers h.1 new left h.4 may) [
        | inl w ↦ inl (record {
          early = l ∷ w.early;
          answers = a ∷ w.answers;
          then = w.then;
          answered = (h.0, h.1, h.2, h.3, w.answered);
          is = w.is;
          among = λ line i. elim i [ inl first ↦ inl first | inr later ↦ inr (w.among line later) ];
        })
        | inr mid ↦ elim (line_left keys h.0 a old h.1 left h.3 mid) [
          | inl now ↦ inl (record {
            early = l ∷ [];
            answers = a ∷ [];
            then = h.1;
            answered = (h.0, h.1, h.2, h.3, refl);
            is = sym now;
            among = λ line i. elim i [ inl first ↦ inl first | inr none ↦ absurd none ];
          })
          | inr before ↦ elim before [
            | inl was ↦ inl (after_none keys limit (l ∷ lines) old left was)
            | inr early ↦ inr early
          ]
        ]
      ]

  pub power_fails : APowerFailureIsARun saving loading kept lasting
  power_fails sha keys limit lines answers old new left p same all heard h may =
      let were : WereKept keys limit lines old left = elim (lines_left keys limit lines answers old new left h may) [
        | inl w ↦ w
        | inr before ↦ after_none keys limit lines old left (all_left (lasting old.keeper) (kept old.keeper) left all before)
      ] in
      let so_far = lines_come saving loading syncing kept lasting honest sha keys limit p [] true were.early were.answers old were.then
      (λ line message i asks. are_heard keys lines p.written heard line message (were.among line i) asks) were.answered (rests sha p (process_of kept old) same) in
      same_process sha p _ (gone_with left) [] (ap gone_with were.is)
      (does_silently sha p (process_of kept were.then) (gone_with (kept were.then.keeper)) [] so_far Is_killed)

pub power_fails_over_files : APowerFailureOverFilesIsARun
power_fails_over_files = power_fails file_saves FileLoads FileSyncs (λ f. f.texts) file_texts gathered_file
