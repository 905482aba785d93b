-- What a crash leaves at any moment of a coordinator over files: what it had decided of the first of its lines.
use Rattle.std.proofs.Common.{◌≡◌, ◌⊎◌, ℕ, Bool, true, false, List, [], ◌∷◌, ◌++◌, Option, Some, None, Result, Ok, Err, inl, inr, refl, sym, ap, ◌∙◌, subst}
use Rattle.std.specs.Prelude.{⊤, if◌then◌else◌}
use Rattle.coordinator.specs.Held.{ledger}
use Rattle.coordinator.specs.Seen.{Seen}
use Rattle.coordinator.specs.Settling.{SettlesWhile, Restarts}
use Rattle.coordinatorfilter.specs.Carried.{RestartsIf, CarriesOut}
use Rattle.coordinatorfilter.specs.Rules.{file_saves, file_steps, file_settles, Falters, memory_of, process_of, gone_with, messages_of, settled_messages, batch_messages, AReturnOverFilesIsARun, ACrashOverFilesIsARun}
use Rattle.coordinatorfilter.specs.Rules.Falters.{Not_yet, Once_more}
use Rattle.coordinatorfilter.specs.Written.{Filters}
use Rattle.coordinatorfilter.specs.Written.Filters.{Calls, Stops, Shows, Drops}
use Rattle.coordinatorfilter.specs.declared.reply.Reply.{Reply}
use Rattle.coordinatorfilter.proofs.PowerLemmas.{restart_loads}
use Rattle.coordinatorfilter.proofs.RuleLemmas.{AreHeard, Comes, are_heard, rests, does_silently, same_process, gathered_file, last_all, restarted_if, one_call, line_comes, line_given, may_come, made}
use Rattle.coordinatorlines.specs.Calls.{called, Asks}
use Rattle.coordinatorlines.specs.declared.call.Call.TheVariants.{Handle}
use Rattle.farm_base.specs.declared.message.ToCoord.{ToCoord}
use Rattle.events.specs.declared.answer.CoordRefusal.{CoordRefusal}
use Rattle.events.specs.declared.answer.CoordRefusal.TheVariants.{Down, SaveFault, BadRecord, NotLive, SlotLeased, NoSuchSlot, TicketsSpent, OutOfMemory, LoadFault, Tenure, TenureHeld, NodeRetired}
use Rattle.coordinatorlines.specs.declared.call.Order.TheVariants as order
use Rattle.filekeeper.proofs.DiskLemmas.{at_last, and_then, so_leaves}
use Rattle.filekeeper.proofs.KeptLemmas.{whole_left}
use Rattle.filekeeper.proofs.LeftLemmas.{all_left, left_before}
use Rattle.filekeeper.specs.Disks.{Files, MayLeave, Leaves}
use Rattle.filekeeper.specs.Disks.Leaves.{Begins}
use Rattle.filekeeper.specs.Keepers.{Filed, FileSaves, FileLoads, FileSyncs, IsDurable, IsLeft, LeavesAny, MayLast, file_texts}
use Rattle.filekeeper.specs.Settled.{HoldsAny}
use Rattle.ledger.specs.Settling.{SavesIf, Answers, is_save_fault}
use Rattle.ledger.specs.declared.handled.Handled.{Handled}
use Rattle.ledger.proofs.Records.{held_in}
use Rattle.names.specs.declared.digest.Digest.{Digest}
use Rattle.names.specs.declared.limits.TheConstants.{NODES}
use Rattle.protocol.specs.Farm.{farm_limits}
use Rattle.protocol.specs.Ledger.{Ledger, Work, Saved, saves}
use Rattle.protocol.specs.Lists.{In}
use Rattle.protocol.specs.Machine.{Said}
use Rattle.protocol.specs.Processes as process
use Rattle.protocol.specs.Processes.{Processes, MayCome, batch, begin_batch, decided, killed_after}
use Rattle.protocol.specs.Processes.CoordinatorDoes.{Fails, Is_killed}
use Rattle.saverecord.specs.Logs.{Holds, saved_in}
use Rattle.saverecord.specs.Texts.{Texts}
use Rattle.saverecord.specs.declared.refusal.KeeperRefusal.{KeeperRefusal}
use Rattle.services.specs.Buffers.{IsKept}
use Rattle.services.proofs.SaysLemmas.{still_in}
use Rattle.services.specs.Says.{Says, AreOfTheFarm}
use Rattle.services.specs.Served as served
use Rattle.services.specs.Served.{Batch}
use Rattle.services.specs.declared.lost.Lost.{Lost}
use Rattle.services.specs.declared.settled.Settled.{Settled}
use Rattle.services.specs.declared.settled.Settled.TheVariants.{Lasts, Failed}
use Rattle.farmwire.specs.Sealed.{Keys}

abbrev kept_of : Filed → Texts
kept_of f = f.texts

abbrev keeper_of : Seen Filed → Filed
keeper_of s = s.keeper

module _ (sha : List ℕ → Digest) (p : Processes) where
  -- the rules let the coordinator be gone with these texts
  abbrev pub Reached : Texts → Type 0
  Reached left = Comes sha p (gone_with left) []

  abbrev At : Seen Filed → Type 0
  At s = Comes sha p (process_of kept_of s) []

  -- so it is with all that a crash leaves, now or when more was written of what is gathered
  record Inv (k : Filed) : Type 0 where
    first : (left : Texts) → MayLast k left → Reached left
    left : (f : Files) → MayLeave k.calls f → HoldsAny Reached f

  -- and at each moment in between
  record Went (old new : Filed) : Type 0 where
    inv : Inv new
    amid : Leaves (HoldsAny Reached) old.calls new.calls

  -- ---- keepers

  amid_of : (Are : Texts → Type 0) (old new : Filed) → Inv old → ((left : Texts) → Are left → Reached left) → LeavesAny Are old new → Leaves (HoldsAny Reached) old.calls new.calls
  amid_of Are old new inv are leaves =
      so_leaves (HoldsAny Reached) (λ f. MayLeave old.calls f ⊎ HoldsAny Are f) old.calls new.calls leaves so
    where
      so : (f : Files) → MayLeave old.calls f ⊎ HoldsAny Are f → HoldsAny Reached f
      so f (inl left) = inv.left f left
      so f (inr (texts, is, held)) = (texts, are texts is, held)

  went_of : (Are : Texts → Type 0) (old new : Filed) → Inv old → ((left : Texts) → Are left → Reached left) → LeavesAny Are old new → ((left : Texts) → MayLast new left → Reached left) → Went old new
  went_of Are old new inv are leaves first =
      let amid = amid_of Are old new inv are leaves in
      record { inv = record { first = first; left = at_last (HoldsAny Reached) old.calls new.calls amid }; amid = amid }

  -- it is as it was
  stayed : (old new : Filed) → Inv old → new ≡ old → Went old new
  stayed old new inv same = subst (λ k. Went old k) (sym same) (record { inv = inv; amid = Begins inv.left })

  then_went : (old mid new : Filed) → Went old mid → Went mid new → Went old new
  then_went old mid new first last = record {
    inv = last.inv;
    amid = and_then (HoldsAny Reached) (HoldsAny Reached) old.calls mid.calls new.calls first.amid last.amid (λ f any. any);
  }

  unchanged : (old new : Filed) → Inv old → new.texts ≡ old.texts → file_texts new ≡ file_texts old → (left : Texts) → MayLast new left → Reached left
  unchanged old new inv texts lasting left may = inv.first left (subst (λ t. IsLeft (file_texts old) t left) texts (subst (λ t. IsLeft t new.texts left) lasting may))

  all_last : (new : Filed) (texts : Texts) → new.texts ≡ texts → file_texts new ≡ texts → Reached texts → (left : Texts) → MayLast new left → Reached left
  all_last new texts is lasting reached left may = subst Reached (sym (all_left (file_texts new) new.texts left (lasting ∙ sym is) may ∙ is)) reached

  whole : (k : Filed) → Inv k → Reached k.texts
  whole k inv = inv.first k.texts (whole_left k.texts k.lasting)

  saved : (old : Filed) (texts : Texts) (ok : Bool) (new : Filed) → Inv old → Reached texts → file_saves old texts ok new → Went old new
  saved old texts ok new inv reached (inl gathered) = record {
    inv = record {
      first = λ left may. elim (left_before old.texts (file_texts old) new.texts (file_texts new) left gathered.1.entry (ap kept_of gathered.1.left.0 ∙ gathered.1.texts_are) gathered.1.left.1 may) [
        | inl all ↦ subst Reached (sym (all ∙ ap kept_of gathered.1.left.0)) reached
        | inr before ↦ inv.first left before
      ];
      left = λ f may. inv.left f (subst (λ cs. MayLeave cs f) same may);
    };
    amid = subst (Leaves (HoldsAny Reached) old.calls) (sym same) (Begins inv.left);
  }
    where
      same : new.calls ≡ old.calls
      same = ap (λ (k : Filed). k.calls) gathered.1.left.0
  saved old texts ok new inv reached (inr s) =
      went_of (λ left. MayLast old left ⊎ (left ≡ texts)) old new inv
      (λ left. elim [ inl may ↦ inv.first left may | inr is ↦ subst Reached (sym is) reached ]) s.any_moment (first ok s)
    where
      first : (ok : Bool) → FileSaves old texts ok new → (left : Texts) → MayLast new left → Reached left
      first true s =
          let both = gathered_file.saves old texts new (inr s) in
          elim both.1 [
            | inl lasts ↦ all_last new texts both.0 lasts reached
            | inr adds ↦ λ left may. elim (left_before old.texts (file_texts old) new.texts (file_texts new) left adds.entry (both.0 ∙ adds.kept) adds.lasts may) [
              | inl all ↦ subst Reached (sym (all ∙ both.0)) reached
              | inr before ↦ inv.first left before
            ]
          ]
      first false s =
          elim (gathered_file.fails old texts new (inr s)) [
            | inl same ↦ unchanged old new inv same.0 same.1
            | inr all ↦ all_last new texts all.0 all.1 reached
          ]

  loaded : (old : Filed) (refusal : Option KeeperRefusal) (new : Filed) → Inv old → FileLoads old refusal new → Went old new
  loaded old refusal new inv load =
      went_of (MayLast old) old new inv inv.first load.any_moment (elim (gathered_file.loads old refusal new load) [
        | inl same ↦ unchanged old new inv same.0 same.1
        | inr all ↦ all_last new old.texts all.0 all.1 (whole old inv)
      ])

  synced : (old : Filed) (ok : Bool) (new : Filed) → Inv old → FileSyncs old ok new → Went old new
  synced old ok new inv sync = went_of (MayLast old) old new inv inv.first sync.any_moment (first ok sync)
    where
      first : (ok : Bool) → FileSyncs old ok new → (left : Texts) → MayLast new left → Reached left
      first true s = all_last new old.texts (ap kept_of s.changed.1) (ap file_texts s.changed.1 ∙ last_all old) (whole old inv)
      first false s = elim s.changed [
        | inl same ↦ unchanged old new inv (ap kept_of same) (ap file_texts same)
        | inr called ↦ unchanged old new inv (ap kept_of called.1) (ap file_texts called.1)
      ]

  -- ---- coordinators

  restart_went : (due : Bool) (texts : Texts) (old new : Seen Filed) (restart : Option (Result ⊤ CoordRefusal)) → Inv old.keeper → RestartsIf due FileLoads texts old new restart
      → Went old.keeper new.keeper
  restart_went false texts old new restart inv r = stayed old.keeper new.keeper inv (ap (λ (s : Seen Filed). s.keeper) r.1)
  restart_went true texts old new None inv r = absurd r
  restart_went true texts old new (Some result) inv r =
      let load = restart_loads file_saves FileLoads FileSyncs kept_of file_texts gathered_file texts old new result r in
      loaded old.keeper load.0 new.keeper inv load.1

  -- what a call decides the disk may have, whether its save is done or not
  decided_reached : (call : process.Call) (w : Work) (old : Seen Filed) (texts : Texts) → old.down ≡ false → decided farm_limits (ledger old.held) call ≡ Ok w → MayCome NODES (p.written ++ []) call
      → w.changed ≡ true → Holds texts (saves w.ledger) → At old → Reached texts
  decided_reached call w old texts up is may changed holds at =
      let q : Ledger = ledger old.held in
      let disk : Saved = saved_in old.keeper.texts in
      same_process sha p _ (gone_with texts) []
      (ap (λ r. killed_after (process.taken r (begin_batch q disk))) is
      ∙ (λ i. record { memory = None; disk = (ap (λ b. if b then saves w.ledger else disk) changed ∙ sym (held_in texts (saves w.ledger) holds)) i }))
      (does_silently sha p (process_of kept_of old) (killed_after (batch farm_limits (call ∷ []) (begin_batch q disk))) [] at
      (Fails q (call ∷ []) [] (ap (λ b. memory_of b q) up) (one_call file_saves FileLoads FileSyncs kept_of file_texts gathered_file (p.written ++ []) call may)))

  save_went : (changed : Bool) (s : Saved) (old new : Filed) → Inv old → (changed ≡ true → (texts : Texts) → Holds texts s → Reached texts) → SavesIf file_saves changed s old new → Went old new
  save_went false s old new inv reached same = stayed old new inv same
  save_went true s old new inv reached done = saved old done.texts true new inv (reached refl done.texts done.holds) done.left

  answer_went : (call : process.Call) (work : Result Work CoordRefusal) (old new : Seen Filed) (result : Result Handled CoordRefusal) → old.down ≡ false
      → decided farm_limits (ledger old.held) call ≡ work → MayCome NODES (p.written ++ []) call → At old → Inv old.keeper → Answers file_saves work old new result → Went old.keeper new.keeper
  answer_went call (Ok w) old new (Ok done) up is may at inv answer =
      save_went w.changed (saves w.ledger) old.keeper new.keeper inv (λ changed texts holds. decided_reached call w old texts up is may changed holds at) answer.saved
  answer_went call (Ok w) old new (Err SaveFault) up is may at inv answer =
      saved old.keeper answer.saved.texts false new.keeper inv (decided_reached call w old answer.saved.texts up is may answer.changed answer.saved.holds at) answer.saved.left
  answer_went call (Ok w) old new (Err Down) up is may at inv answer = stayed old.keeper new.keeper inv (ap keeper_of answer.1)
  answer_went call (Ok w) old new (Err BadRecord) up is may at inv answer = stayed old.keeper new.keeper inv (ap keeper_of answer.1)
  answer_went call (Ok w) old new (Err NotLive) up is may at inv answer = stayed old.keeper new.keeper inv (ap keeper_of answer.1)
  answer_went call (Ok w) old new (Err SlotLeased) up is may at inv answer = stayed old.keeper new.keeper inv (ap keeper_of answer.1)
  answer_went call (Ok w) old new (Err NoSuchSlot) up is may at inv answer = stayed old.keeper new.keeper inv (ap keeper_of answer.1)
  answer_went call (Ok w) old new (Err TicketsSpent) up is may at inv answer = stayed old.keeper new.keeper inv (ap keeper_of answer.1)
  answer_went call (Ok w) old new (Err OutOfMemory) up is may at inv answer = stayed old.keeper new.keeper inv (ap keeper_of answer.1)
  answer_went call (Ok w) old new (Err LoadFault) up is may at inv answer = stayed old.keeper new.keeper inv (ap keeper_of answer.1)
  answer_went call (Ok w) old new (Err Tenure) up is may at inv answer = stayed old.keeper new.keeper inv (ap keeper_of answer.1)
  answer_went call (Ok w) old new (Err TenureHeld) up is may at inv answer = stayed old.keeper new.keeper inv (ap keeper_of answer.1)
  answer_went call (Ok w) old new (Err NodeRetired) up is may at inv answer = stayed old.keeper new.keeper inv (ap keeper_of answer.1)
  answer_went call (Err e) old new result up is may at inv answer = stayed old.keeper new.keeper inv (ap keeper_of answer.1)

  settled_went : (call : process.Call) (down : Bool) (old new : Seen Filed) (result : Result Handled CoordRefusal) → old.down ≡ down → MayCome NODES (p.written ++ []) call → At old → Inv old.keeper
      → SettlesWhile down file_saves (decided farm_limits (ledger old.held) call) old new result → Went old.keeper new.keeper
  settled_went call true old new result is may at inv answer = stayed old.keeper new.keeper inv (ap keeper_of answer.1)
  settled_went call false old new result is may at inv answer = answer_went call (decided farm_limits (ledger old.held) call) old new result is refl may at inv answer

  carried_went : (call : process.Call) (old new : Seen Filed) (reply : Reply) → MayCome NODES (p.written ++ []) call → At old → Inv old.keeper → CarriesOut file_saves FileLoads kept_of call old new reply
      → Went old.keeper new.keeper
  carried_went call old new reply may at inv c =
      let ready = restart_went old.down (kept_of old.keeper) old c.ready reply.before inv c.before in
      let at_ready = restarted_if file_saves FileLoads FileSyncs kept_of file_texts gathered_file sha p [] old.down old c.ready reply.before c.before at in
      let done = settled_went call c.ready.down c.ready c.done reply.answer refl may at_ready ready.inv c.answer in
      let after = restart_went (is_save_fault reply.answer) (kept_of c.done.keeper) c.done new reply.after done.inv c.after in
      then_went old.keeper c.ready.keeper new.keeper ready (then_went c.ready.keeper c.done.keeper new.keeper done after)

  -- ---- lines

  line_went : (keys : Keys) (limit : ℕ) (line : List ℕ) (given : Result (List ℕ) Lost) (answer : List ℕ) (old new : Seen Filed) → ((message : ToCoord) → Asks keys line (Handle message) → In (Said message) p.written) → IsKept limit line given
      → At old → Inv old.keeper → Filters file_saves FileLoads kept_of keys given answer old new → Went old.keeper new.keeper
  line_went keys limit line given answer old new heard is at inv (Calls call reply asks done written) =
      carried_went (called call) old new reply
      (may_come file_saves FileLoads FileSyncs kept_of file_texts gathered_file keys line (p.written ++ []) call (λ m a. still_in (Said m) p.written [] (heard m a))
      (line_given file_saves FileLoads FileSyncs kept_of file_texts gathered_file limit keys line given (order.Call call) is asks)) at inv done
  line_went keys limit line given answer old new heard is at inv (Stops call asks restart out) = restart_went old.down (kept_of old.keeper) old new restart.0 inv restart.1
  line_went keys limit line given answer old new heard is at inv (Shows question asks same text) = stayed old.keeper new.keeper inv (ap keeper_of same)
  line_went keys limit line given answer old new heard is at inv (Drops why asks same text) = stayed old.keeper new.keeper inv (ap keeper_of same)

  lines_went : (keys : Keys) (limit : ℕ) (lines answers : List (List ℕ)) (old new : Seen Filed) → AreHeard p.written keys lines → At old → Inv old.keeper
      → served.Answers (file_steps keys) limit old lines answers new → Went old.keeper new.keeper
  lines_went keys limit [] [] old new heard at inv h = stayed old.keeper new.keeper inv (ap keeper_of (sym h))
  lines_went keys limit [] (a ∷ answers) old new heard at inv h = absurd h
  lines_went keys limit (l ∷ lines) [] old new heard at inv h = absurd h
  lines_went keys limit (l ∷ lines) (a ∷ answers) old new heard at inv h =
      let next = h.1 in
      let first = line_went keys limit l h.0 a old next (λ m asks. heard l m (inl refl) asks) h.2 at inv h.3 in
      let at_next = line_comes file_saves FileLoads FileSyncs kept_of file_texts gathered_file sha keys limit p [] true l h.0 a old next (λ m asks. heard l m (inl refl) asks) h.2 h.3 at in
      then_went old.keeper next.keeper new.keeper first (lines_went keys limit lines answers next new (λ line m i asks. heard line m (inr i) asks) at_next first.inv h.4)

  -- ---- batches

  made_went : (s : Settled) (mid new : Seen Filed) → Inv mid.keeper → file_settles mid s new → Went mid.keeper new.keeper
  made_went Lasts mid new inv done = synced mid.keeper true new.keeper inv done.0.0
  made_went (Failed restart) mid new inv done =
      let failed = done.0 in
      let first = synced mid.keeper false failed.keeper inv done.1.0 in
      then_went mid.keeper failed.keeper new.keeper first (restart_went true (kept_of failed.keeper) failed new (Some restart) first.inv done.2)

  batch_went : (keys : Keys) (limit : ℕ) (lines : List (List ℕ)) (text : List ℕ) (old new : Seen Filed) → AreOfTheFarm keys lines p.written → At old → Inv old.keeper
      → Batch (file_steps keys) file_settles limit lines text old new → Went old.keeper new.keeper
  batch_went keys limit lines text old new heard at inv b =
      let mid = b.answered_to in
      let first = lines_went keys limit lines b.answers old mid (are_heard keys lines p.written heard) at inv b.answered in
      then_went old.keeper mid.keeper new.keeper first (made_went b.settled mid new first.inv b.made)

  -- ---- where the answers don't last

  abbrev Falters_here : Keys → Seen Filed → Seen Filed → Type 0
  Falters_here keys first old = Falters (λ heard. AreOfTheFarm keys heard p.written) keys first old

  -- nothing of a batch whose answers failed to last was written
  failed_at : (keys : Keys) (limit : ℕ) (lines answers : List (List ℕ)) (s : Settled) (restart : Result ⊤ CoordRefusal) (old mid new : Seen Filed) → AreOfTheFarm keys lines p.written → At old
      → served.Answers (file_steps keys) limit old lines answers mid → file_settles mid s new → s ≡ Failed restart → At new
  failed_at keys limit lines answers Lasts restart old mid new heard at h done is = (let bad : Lasts ≡ Failed restart = is in absurd (cc bad))
  failed_at keys limit lines answers (Failed other) restart old mid new heard at h done is =
      (made file_saves FileLoads FileSyncs kept_of file_texts gathered_file sha keys limit lines answers (Failed other) old mid new p at (are_heard keys lines p.written heard) h done).0

  faltered_at : (keys : Keys) (first old : Seen Filed) → p.coordinator ≡ process_of kept_of first → Falters_here keys first old → At old
  faltered_at keys first old same Not_yet = rests sha p (process_of kept_of first) same
  faltered_at keys first last same (Once_more limit lines text old new restart before heard b is) =
      failed_at keys limit lines b.answers b.settled restart old b.answered_to new heard (faltered_at keys first old same before) b.answered b.made is

  faltered_went : (keys : Keys) (first old : Seen Filed) → p.coordinator ≡ process_of kept_of first → Inv first.keeper → Falters_here keys first old → Went first.keeper old.keeper
  faltered_went keys first old same inv Not_yet = stayed first.keeper first.keeper inv refl
  faltered_went keys first last same inv (Once_more limit lines text old new restart before heard b is) =
      let went = faltered_went keys first old same inv before in
      then_went first.keeper old.keeper new.keeper went (batch_went keys limit lines text old new heard (faltered_at keys first old same before) went.inv b)

  begins : (first : Seen Filed) → p.coordinator ≡ process_of kept_of first → file_texts first.keeper ≡ first.keeper.texts → IsDurable first.keeper → Inv first.keeper
  begins first same lasting durable =
      let gone : Reached first.keeper.texts = does_silently sha p (process_of kept_of first) (gone_with first.keeper.texts) [] (rests sha p (process_of kept_of first) same) Is_killed in
      record { first = all_last first.keeper first.keeper.texts refl lasting gone; left = λ f left. (first.keeper.texts, gone, durable f left) }

  -- while it is up a crash leaves what it keeps
  restart_durable : (old new : Seen Filed) (result : Result ⊤ CoordRefusal) → old.down ≡ true → Restarts FileLoads (kept_of old.keeper) old new result → new.down ≡ false → IsDurable new.keeper
  restart_durable old new (Ok done) down r up = r.loaded.durable refl
  restart_durable old new (Err LoadFault) down r up = (let bad : true ≡ false = sym r.2 ∙ up in absurd (cc bad))
  restart_durable old new (Err OutOfMemory) down r up = (let bad : true ≡ false = sym down ∙ sym r.2 ∙ up in absurd (cc bad))
  restart_durable old new (Err Down) down r up = absurd r
  restart_durable old new (Err SaveFault) down r up = absurd r
  restart_durable old new (Err BadRecord) down r up = absurd r
  restart_durable old new (Err NotLive) down r up = absurd r
  restart_durable old new (Err SlotLeased) down r up = absurd r
  restart_durable old new (Err NoSuchSlot) down r up = absurd r
  restart_durable old new (Err TicketsSpent) down r up = absurd r
  restart_durable old new (Err Tenure) down r up = absurd r
  restart_durable old new (Err TenureHeld) down r up = absurd r
  restart_durable old new (Err NodeRetired) down r up = absurd r

  made_durable : (s : Settled) (mid new : Seen Filed) → file_settles mid s new → new.down ≡ false → IsDurable new.keeper
  made_durable Lasts mid new done up = done.0.0.durable refl
  made_durable (Failed restart) mid new done up = restart_durable done.0 new restart done.1.2 done.2 up

pub crash_over_files : ACrashOverFilesIsARun
crash_over_files sha keys limit lines text first old new p same lasting durable falters heard answers =
    let inv = begins sha p first same lasting durable in
    let went = faltered_went sha p keys first old same inv falters in
    (then_went sha p first.keeper old.keeper new.keeper went (elim answers [
      | inl idle ↦ stayed sha p old.keeper new.keeper went.inv (ap keeper_of idle)
      | inr b ↦ batch_went sha p keys limit lines text old new heard (faltered_at sha p keys first old same falters) went.inv b
    ])).amid

pub return_over_files : AReturnOverFilesIsARun
return_over_files sha keys limit lines text first old new p same falters heard b =
    let mid = b.answered_to in
    let done = made file_saves FileLoads FileSyncs kept_of file_texts gathered_file sha keys limit lines b.answers b.settled old mid new p (faltered_at sha p keys first old same falters)
    (are_heard keys lines p.written heard) b.answered b.made in
    let messages = settled_messages b.settled (messages_of file_saves FileLoads kept_of keys limit old mid lines b.answers b.answered) in (
      done.0,
      subst (Says keys messages) (sym b.text_is) done.2,
      λ up. (done.1 up, made_durable sha p b.settled mid new b.made up),
    )

-- what is heard in one way is heard in another
pub falters_so : (Hears Others : List (List ℕ) → Type 0) (keys : Keys) (first old : Seen Filed) → ((lines : List (List ℕ)) → Hears lines → Others lines) → Falters Hears keys first old
    → Falters Others keys first old
falters_so Hears Others keys first old so Not_yet = Not_yet
falters_so Hears Others keys first last so (Once_more limit lines text old new restart before heard b is) =
    Once_more limit lines text old new restart (falters_so Hears Others keys first old so before) (so lines heard) b is

-- of answers that failed to last nothing is written
pub failed_says_nothing : (keys : Keys) (limit : ℕ) (lines : List (List ℕ)) (text : List ℕ) (old new : Seen Filed) (b : Batch (file_steps keys) file_settles limit lines text old new) (restart : Result ⊤ CoordRefusal)
    → b.settled ≡ Failed restart → batch_messages file_saves FileLoads FileSyncs kept_of file_texts keys limit lines text old new b ≡ []
failed_says_nothing keys limit lines text old new b restart failed =
    ap (λ s. settled_messages s (messages_of file_saves FileLoads kept_of keys limit old b.answered_to lines b.answers b.answered)) failed
