-- What a filter does with lines, as a run of processes.
use Rattle.std.proofs.Common.{◌≡◌, ◌⊎◌, ℕ, Bool, true, false, List, [], ◌∷◌, ◌++◌, Option, Some, None, Result, Ok, Err, inl, inr, refl, sym, ap, ◌∙◌, subst, append_assoc}
use Rattle.std.specs.Prelude.{map, ⊤, if◌then◌else◌}
use Rattle.std.proofs.lemmas.List.{append-nil}
use Rattle.std.proofs.Math.Seq.{take-length}
use Rattle.ledger.specs.declared.handled.Handled.{Handled}
use Rattle.coordinator.specs.Held.{ledger}
use Rattle.coordinator.specs.Seen.{Seen}
use Rattle.coordinator.specs.Settling.{SettlesWhile, Restarts}
use Rattle.ledger.specs.Settling.{SavesIf, Answers, is_save_fault}
use Rattle.ledger.proofs.Records.{held_in}
use Rattle.names.specs.declared.digest.Digest.{Digest}
use Rattle.names.specs.declared.limits.TheConstants.{NODES}
use Rattle.farm_base.specs.declared.message.Message.{Message}
use Rattle.farm_base.specs.declared.message.ToCoord.{ToCoord}
use Rattle.filekeeper.specs.Calls.{Called}
use Rattle.filekeeper.specs.Keepers.{Filed, FileLoads, FileSyncs, failed_once, file_texts, lasts, left_by}
use Rattle.events.specs.declared.answer.CoordRefusal.{CoordRefusal}
use Rattle.events.specs.declared.answer.CoordRefusal.TheVariants.{Down, SaveFault, BadRecord, NotLive, SlotLeased, NoSuchSlot, TicketsSpent, OutOfMemory, LoadFault, Tenure, TenureHeld, NodeRetired}
use Rattle.protocol.specs.Farm.{farm_limits}
use Rattle.protocol.specs.Ledger.{Ledger, Work, Saved, saves, reads}
use Rattle.protocol.specs.Lists.{In}
use Rattle.protocol.specs.Machine.{Told, Said, HasPart}
use Rattle.protocol.proofs.Following.{part_refl, part_none}
use Rattle.protocol.specs.Processes as process
use Rattle.protocol.specs.Processes.{Coordinator, Processes, MayCome, AllMayCome, decided, batch, begin_batch, running_after, killed_after}
use Rattle.protocol.specs.Processes.CoordinatorDoes.{Works, Fails, Is_killed, Starts}
use Rattle.protocol.specs.HostileProcesses.RaidHappens.{Coordinator_does}
use Rattle.protocol.specs.HostileProcesses.RaidRuns.{Rests, Goes_on}
use Rattle.saverecord.specs.declared.refusal.KeeperRefusal.{KeeperRefusal}
use Rattle.saverecord.specs.declared.refusal.KeeperRefusal.TheVariants as keeper
use Rattle.saverecord.specs.Logs.{saved_in}
use Rattle.saverecord.specs.Texts.{Texts}
use Rattle.coordinatorlines.specs.declared.call.Call.{Call}
use Rattle.coordinatorlines.specs.declared.call.Call.TheVariants.{Handle, Withdraw, Retire, Prune, Nudge}
use Rattle.coordinatorlines.specs.declared.call.Order.{Order}
use Rattle.coordinatorlines.specs.declared.call.Order.TheVariants as order
use Rattle.services.specs.declared.lost.Lost.{Lost}
use Rattle.coordinatorfilter.specs.declared.reply.Reply.{Reply}
use Rattle.services.specs.declared.settled.Settled.{Settled}
use Rattle.services.specs.declared.settled.Settled.TheVariants.{Lasts, Failed}
use Rattle.services.specs.Buffers.{IsKept}
use Rattle.coordinatorlines.specs.Calls.{called, Asks, AsksFor, Orders}
use Rattle.coordinatorlines.specs.Calls.Asks.{Heard, Own}
use Rattle.coordinatorfilter.specs.Carried.{Saving, Loading, Syncing, RestartsIf, CarriesOut}
use Rattle.services.specs.Served as served
use Rattle.services.specs.Served.{joined, settled_text}
use Rattle.coordinatorfilter.specs.Written.{fact_lines, Filters, MakesLast}
use Rattle.coordinatorfilter.specs.Written.Filters.{Calls, Stops, Shows, Drops}
use Rattle.coordinatorfilter.specs.Rules.{AddsEntry, IsHonest, file_saves, memory_of, process_of, with_coordinator, MayBecome, filter_steps, sends_of, line_messages, messages_of, settled_messages, batch_messages, gone_with, LastsWhileUp, ABatchIsARun, AKillIsARun, AStartIsARun, ABatchOverFilesIsARun, AKillOverFilesIsARun, AStartOverFilesIsARun}
use Rattle.services.specs.Says.{Says, AreOfTheFarm}
use Rattle.services.specs.Says.Says.{Says_nothing}
use Rattle.services.proofs.NoteLemmas.{lost_says, unread_says, failed_says}
use Rattle.services.proofs.SaysLemmas.{still_in, said_of, said_both, both_say}
use Rattle.coordinatorfilter.proofs.SaysLemmas.{shown_says, facts_say, answer_says}
use Rattle.farmwire.specs.Sealed.{Keys}

-- ---- lines from outside

-- what they say to a coordinator was written
abbrev pub AreHeard : List Message → Keys → List (List ℕ) → Type 0
AreHeard written keys lines = (line : List ℕ) (message : ToCoord) → In line lines → Asks keys line (Handle message) → In (Said message) written

pub are_heard : (keys : Keys) (lines : List (List ℕ)) (written : List Message) → AreOfTheFarm keys lines written → AreHeard written keys lines
are_heard keys lines written farm line message i (Heard sealed at is) = farm sealed (Said message) (subst (λ l. In l lines) at i) is
are_heard keys lines written farm line message i (Own utf own) = absurd own

-- ---- runs of the coordinator

-- the processes come so far, with what the coordinator wrote
abbrev pub Comes : (List ℕ → Digest) → Processes → Coordinator → List Message → Type 0
Comes sha p c messages = MayBecome sha p (with_coordinator p c messages)

pub rests : (sha : List ℕ → Digest) (p : Processes) (c : Coordinator) → p.coordinator ≡ c → Comes sha p c []
rests sha p c same = subst (λ (q : Processes). MayBecome sha p q) (λ i. record p { coordinator = same i; written = sym (append-nil p.written) i }) (λ took. Rests p)

pub does : (sha : List ℕ → Digest) (p : Processes) (c d : Coordinator) (messages more : List Message) → Comes sha p c messages
    → process.CoordinatorDoes farm_limits NODES (p.written ++ messages) c more d → Comes sha p d (messages ++ more)
does sha p c d messages more h step =
    subst (λ (q : Processes). MayBecome sha p q) (λ i. record p { coordinator = d; written = append_assoc p.written messages more i })
    (λ took. Goes_on p (with_coordinator p c messages) (with_coordinator (with_coordinator p c messages) d more) (h took) (Coordinator_does more d step))

-- a process that is another's equal
pub same_process : (sha : List ℕ → Digest) (p : Processes) (c d : Coordinator) (messages : List Message) → c ≡ d → Comes sha p c messages → Comes sha p d messages
same_process sha p c d messages same h = subst (λ x. Comes sha p x messages) same h

nothing_more : (sha : List ℕ → Digest) (p : Processes) (c : Coordinator) (messages : List Message) → Comes sha p c (messages ++ []) → Comes sha p c messages
nothing_more sha p c messages h = subst (Comes sha p c) (append-nil messages) h

pub does_silently : (sha : List ℕ → Digest) (p : Processes) (c d : Coordinator) (messages : List Message) → Comes sha p c messages
    → process.CoordinatorDoes farm_limits NODES (p.written ++ messages) c [] d → Comes sha p d messages
does_silently sha p c d messages h step = nothing_more sha p d messages (does sha p c d messages [] h step)

module _ {K : Type 0} (saving : Saving K) (loading : Loading K) (syncing : Syncing K) (kept lasting : K → Texts)
    (honest : IsHonest saving loading syncing kept lasting) where
  -- ---- keepers

  -- what a save, a load or a sync leaves of the texts that are kept
  saves_keep : (old : K) (texts : Texts) (new : K) → saving old texts true new → kept new ≡ texts
  saves_keep old texts new h = (honest.saves old texts new h).0

  fails_keep : (old : K) (texts : Texts) (new : K) → saving old texts false new → (kept new ≡ kept old) ⊎ (kept new ≡ texts)
  fails_keep old texts new h = elim (honest.fails old texts new h) [ inl same ↦ inl same.0 | inr all ↦ inr all.0 ]

  pub loads_keep : (old : K) (refusal : Option KeeperRefusal) (new : K) → loading old refusal new → kept new ≡ kept old
  loads_keep old refusal new h = elim (honest.loads old refusal new h) [ inl same ↦ same.0 | inr all ↦ all.0 ]

  -- ---- restarts

  process_is : (s t : Seen K) → t.held ≡ s.held → t.down ≡ s.down → kept t.keeper ≡ kept s.keeper → process_of kept s ≡ process_of kept t
  process_is s t held down keeper = λ i. record { memory = memory_of (sym down i) (ledger (sym held i)); disk = saved_in (sym keeper i) }

  pub restarted : (sha : List ℕ → Digest) (p : Processes) (messages : List Message) (old new : Seen K) (result : Result ⊤ CoordRefusal)
      → Restarts loading (kept old.keeper) old new result → Comes sha p (process_of kept old) messages → Comes sha p (process_of kept new) messages
  restarted sha p messages old new (Ok done) r h =
      let texts = loads_keep old.keeper None new.keeper r.loaded in
      let started = does_silently sha p (process_of kept old) (record (process_of kept old) { memory = Some (reads (saved_in (kept old.keeper))) }) messages h Starts in
      same_process sha p _ (process_of kept new) messages
      (λ i. record { memory = (ap (λ q. Some q) (sym r.ledger) ∙ ap (λ b. memory_of b (ledger new.held)) (sym r.up)) i; disk = saved_in (sym texts i) }) started
  restarted sha p messages old new (Err LoadFault) r h =
      let texts = loads_keep old.keeper _ new.keeper r.0 in
      let killed = does_silently sha p (process_of kept old) (record (process_of kept old) { memory = None }) messages h Is_killed in
      same_process sha p _ (process_of kept new) messages (λ i. record { memory = (ap (λ b. memory_of b (ledger new.held)) (sym r.2)) i; disk = saved_in (sym texts i) }) killed
  restarted sha p messages old new (Err OutOfMemory) r h =
      same_process sha p _ _ messages (process_is old new r.1 r.2 (loads_keep old.keeper _ new.keeper r.0.1)) h
  restarted sha p messages old new (Err Down) r h = absurd r
  restarted sha p messages old new (Err SaveFault) r h = absurd r
  restarted sha p messages old new (Err BadRecord) r h = absurd r
  restarted sha p messages old new (Err NotLive) r h = absurd r
  restarted sha p messages old new (Err SlotLeased) r h = absurd r
  restarted sha p messages old new (Err NoSuchSlot) r h = absurd r
  restarted sha p messages old new (Err TicketsSpent) r h = absurd r
  restarted sha p messages old new (Err Tenure) r h = absurd r
  restarted sha p messages old new (Err TenureHeld) r h = absurd r
  restarted sha p messages old new (Err NodeRetired) r h = absurd r

  -- where one is due
  pub restarted_if : (sha : List ℕ → Digest) (p : Processes) (messages : List Message) (due : Bool) (old new : Seen K) (restart : Option (Result ⊤ CoordRefusal))
      → RestartsIf due loading (kept old.keeper) old new restart → Comes sha p (process_of kept old) messages → Comes sha p (process_of kept new) messages
  restarted_if sha p messages false old new restart r h = same_process sha p _ _ messages (ap (process_of kept) (sym r.1)) h
  restarted_if sha p messages true old new None r h = absurd r
  restarted_if sha p messages true old new (Some result) r h =
      restarted sha p messages old new result r h

  -- ---- calls

  -- what is written of an answer: its messages, or nothing where they are lost
  abbrev pub AreSaid : Result Handled CoordRefusal → List Message → Type 0
  AreSaid (Ok h) said = HasPart (map Told h.sends) said
  AreSaid (Err e) said = said ≡ []

  silently : (sha : List ℕ → Digest) (p : Processes) (c : Coordinator) (messages said : List Message) → said ≡ [] → Comes sha p c messages → Comes sha p c (messages ++ said)
  silently sha p c messages said none h = subst (Comes sha p c) (sym (append-nil messages) ∙ ap (λ more. messages ++ more) (sym none)) h

  none_of : (result : Result Handled CoordRefusal) (e : CoordRefusal) (said : List Message) → result ≡ Err e → AreSaid result said → said ≡ []
  none_of result e said is h = subst (λ r. AreSaid r said) is h

  pub one_call : (written : List Message) (call : process.Call) → MayCome NODES written call → AllMayCome NODES written (call ∷ [])
  one_call written call may c (inl e) = subst (MayCome NODES written) (sym e) may
  one_call written call may c (inr none) = absurd none

  no_call : (written : List Message) → AllMayCome NODES written []
  no_call written c none = absurd none

  -- what the disk has after a save
  disk_is : (changed : Bool) (s : Saved) (old new : K) → SavesIf saving changed s old new → (if changed then s else saved_in (kept old)) ≡ saved_in (kept new)
  disk_is true s old new h = sym (ap saved_in (saves_keep old h.texts new h.left) ∙ held_in h.texts s h.holds)
  disk_is false s old new h = ap (λ k. saved_in (kept k)) (sym h)

  -- a call of a coordinator that is up
  answered : (sha : List ℕ → Digest) (p : Processes) (messages said : List Message) (call : process.Call) (work : Result Work CoordRefusal) (old new : Seen K) (result : Result Handled CoordRefusal)
      → decided farm_limits (ledger old.held) call ≡ work → old.down ≡ false → MayCome NODES (p.written ++ messages) call → Answers saving work old new result
      → Comes sha p (process_of kept old) messages → AreSaid result said → Comes sha p (process_of kept new) (messages ++ said)
  answered sha p messages said call (Ok w) old new (Ok done) is up may answer h part =
      let q : Ledger = ledger old.held in
      let disk : Saved = saved_in (kept old.keeper) in
      let sends : HasPart (map Told w.sends) said = subst (λ ys. HasPart (map Told ys) said) answer.sends part in
      let one : process.CoordinatorDoes farm_limits NODES (p.written ++ messages) (process_of kept old) said (running_after (batch farm_limits (call ∷ []) (begin_batch q disk))) =
      Works q (call ∷ []) said (ap (λ b. memory_of b q) up) (one_call (p.written ++ messages) call may) (subst (λ r. HasPart (process.taken r (begin_batch q disk)).sends said) (sym is) sends) in
      let after : running_after (process.taken (Ok w) (begin_batch q disk)) ≡ process_of kept new =
      λ i. record { memory = (ap (λ l. Some l) (sym answer.ledger) ∙ ap (λ b. memory_of b (ledger new.held)) (sym answer.up)) i; disk = disk_is w.changed (saves w.ledger) old.keeper new.keeper answer.saved i } in
      does sha p (process_of kept old) (process_of kept new) messages said h (subst (λ c. process.CoordinatorDoes farm_limits NODES (p.written ++ messages) (process_of kept old) said c)
      (ap (λ r. running_after (process.taken r (begin_batch q disk))) is ∙ after) one)
  answered sha p messages said call (Ok w) old new (Err SaveFault) is up may answer h none =
      let q : Ledger = ledger old.held in
      let disk : Saved = saved_in (kept old.keeper) in
      let memory = ap (λ b. memory_of b q) up in
      let over : None ≡ memory_of new.down (ledger new.held) = ap (λ b. memory_of b (ledger new.held)) (sym answer.down) in
      silently sha p (process_of kept new) messages said none
      (elim (fails_keep old.keeper answer.saved.texts new.keeper answer.saved.left) [
        | inl still ↦ same_process sha p _ (process_of kept new) messages (λ i. record { memory = over i; disk = saved_in (sym still i) })
            (does_silently sha p (process_of kept old) (killed_after (batch farm_limits [] (begin_batch q disk))) messages h (Fails q [] [] memory (no_call (p.written ++ messages))))
        | inr stands ↦ same_process sha p _ (process_of kept new) messages
            (ap (λ r. killed_after (process.taken r (begin_batch q disk))) is ∙ (λ i. record {
              memory = over i;
              disk = (ap (λ b. if b then saves w.ledger else disk) answer.changed ∙ sym (ap saved_in stands ∙ held_in answer.saved.texts (saves w.ledger) answer.saved.holds)) i;
            }))
            (does_silently sha p (process_of kept old) (killed_after (batch farm_limits (call ∷ []) (begin_batch q disk))) messages h (Fails q (call ∷ []) [] memory (one_call (p.written ++ messages) call may)))
      ])
  answered sha p messages said call (Ok w) old new (Err Down) is up may answer h none =
      silently sha p (process_of kept new) messages said none (same_process sha p _ _ messages (ap (process_of kept) (sym answer.1)) h)
  answered sha p messages said call (Ok w) old new (Err BadRecord) is up may answer h none =
      silently sha p (process_of kept new) messages said none (same_process sha p _ _ messages (ap (process_of kept) (sym answer.1)) h)
  answered sha p messages said call (Ok w) old new (Err NotLive) is up may answer h none =
      silently sha p (process_of kept new) messages said none (same_process sha p _ _ messages (ap (process_of kept) (sym answer.1)) h)
  answered sha p messages said call (Ok w) old new (Err SlotLeased) is up may answer h none =
      silently sha p (process_of kept new) messages said none (same_process sha p _ _ messages (ap (process_of kept) (sym answer.1)) h)
  answered sha p messages said call (Ok w) old new (Err NoSuchSlot) is up may answer h none =
      silently sha p (process_of kept new) messages said none (same_process sha p _ _ messages (ap (process_of kept) (sym answer.1)) h)
  answered sha p messages said call (Ok w) old new (Err TicketsSpent) is up may answer h none =
      silently sha p (process_of kept new) messages said none (same_process sha p _ _ messages (ap (process_of kept) (sym answer.1)) h)
  answered sha p messages said call (Ok w) old new (Err OutOfMemory) is up may answer h none =
      silently sha p (process_of kept new) messages said none (same_process sha p _ _ messages (ap (process_of kept) (sym answer.1)) h)
  answered sha p messages said call (Ok w) old new (Err LoadFault) is up may answer h none =
      silently sha p (process_of kept new) messages said none (same_process sha p _ _ messages (ap (process_of kept) (sym answer.1)) h)
  answered sha p messages said call (Ok w) old new (Err Tenure) is up may answer h none =
      silently sha p (process_of kept new) messages said none (same_process sha p _ _ messages (ap (process_of kept) (sym answer.1)) h)
  answered sha p messages said call (Ok w) old new (Err TenureHeld) is up may answer h none =
      silently sha p (process_of kept new) messages said none (same_process sha p _ _ messages (ap (process_of kept) (sym answer.1)) h)
  answered sha p messages said call (Ok w) old new (Err NodeRetired) is up may answer h none =
      silently sha p (process_of kept new) messages said none (same_process sha p _ _ messages (ap (process_of kept) (sym answer.1)) h)
  answered sha p messages said call (Err e) old new result is up may answer h said_is =
      silently sha p (process_of kept new) messages said (none_of result e said answer.0 said_is) (same_process sha p _ _ messages (ap (process_of kept) (sym answer.1)) h)

  -- a call of any coordinator
  settled : (sha : List ℕ → Digest) (p : Processes) (messages said : List Message) (call : process.Call) (down : Bool) (old new : Seen K) (result : Result Handled CoordRefusal)
      → old.down ≡ down → MayCome NODES (p.written ++ messages) call → SettlesWhile down saving (decided farm_limits (ledger old.held) call) old new result
      → Comes sha p (process_of kept old) messages → AreSaid result said → Comes sha p (process_of kept new) (messages ++ said)
  settled sha p messages said call true old new result is may answer h part =
      silently sha p (process_of kept new) messages said (none_of result Down said answer.0 part) (same_process sha p _ _ messages (ap (process_of kept) (sym answer.1)) h)
  settled sha p messages said call false old new result is may answer h part =
      answered sha p messages said call (decided farm_limits (ledger old.held) call) old new result refl is may answer h part

  -- with the restarts that go with it
  carried : (sha : List ℕ → Digest) (p : Processes) (messages said : List Message) (call : process.Call) (old new : Seen K) (reply : Reply)
      → MayCome NODES (p.written ++ messages) call → CarriesOut saving loading kept call old new reply
      → Comes sha p (process_of kept old) messages → AreSaid reply.answer said → Comes sha p (process_of kept new) (messages ++ said)
  carried sha p messages said call old new reply may c h part =
      let ready = restarted_if sha p messages old.down old c.ready reply.before c.before h in
      let done = settled sha p messages said call c.ready.down c.ready c.done reply.answer refl may c.answer ready part in
      restarted_if sha p (messages ++ said) (is_save_fault reply.answer) c.done new reply.after c.after done

  -- ---- lines

  are_said : (lost : Bool) (result : Result Handled CoordRefusal) → AreSaid result (said_of lost (sends_of result))
  are_said true (Ok h) = part_none (map Told h.sends)
  are_said true (Err e) = refl
  are_said false (Ok h) = part_refl (map Told h.sends)
  are_said false (Err e) = refl

  none_said : (lost : Bool) (result : Result Handled CoordRefusal) → AreSaid result (said_of lost [])
  none_said true (Ok h) = part_none (map Told h.sends)
  none_said true (Err e) = refl
  none_said false (Ok h) = part_none (map Told h.sends)
  none_said false (Err e) = refl

  quiet : (lost : Bool) (sha : List ℕ → Digest) (p : Processes) (c : Coordinator) (messages : List Message) → Comes sha p c messages → Comes sha p c (messages ++ said_of lost [])
  quiet true sha p c messages h = silently sha p c messages [] refl h
  quiet false sha p c messages h = silently sha p c messages [] refl h

  -- what is handed on is the line
  pub line_given : (limit : ℕ) (keys : Keys) (line : List ℕ) (given : Result (List ℕ) Lost) (o : Order) → IsKept limit line given → AsksFor keys given o → Orders keys line o
  line_given limit keys line (Ok text) o kept asks = subst (λ t. Orders keys t o) kept.1 asks
  line_given limit keys line (Err lost) o kept asks = absurd asks

  pub may_come : (keys : Keys) (line : List ℕ) (written : List Message) (call : Call) → ((message : ToCoord) → Asks keys line (Handle message) → In (Said message) written) → Asks keys line call → MayCome NODES written (called call)
  may_come keys line written (Handle message) heard asks = heard message asks
  may_come keys line written (Withdraw ticket) heard asks = tt
  may_come keys line written (Prune slot) heard asks = tt
  may_come keys line written Nudge heard asks = tt
  may_come keys line written (Retire node) heard (Heard sealed is none) = absurd none
  may_come keys line written (Retire node) heard (Own utf own) = own.1

  pub line_comes : (sha : List ℕ → Digest) (keys : Keys) (limit : ℕ) (p : Processes) (messages : List Message) (lost : Bool) (line : List ℕ) (given : Result (List ℕ) Lost) (answer : List ℕ) (old new : Seen K)
      → ((message : ToCoord) → Asks keys line (Handle message) → In (Said message) p.written) → IsKept limit line given
      → (f : Filters saving loading kept keys given answer old new) → Comes sha p (process_of kept old) messages → Comes sha p (process_of kept new) (messages ++ said_of lost (line_messages f))
  line_comes sha keys limit p messages lost line given answer old new heard is (Calls call reply asks done (inl written)) h =
      carried sha p messages (said_of lost (sends_of reply.answer)) (called call) old new reply
      (may_come keys line (p.written ++ messages) call (λ m a. still_in (Said m) p.written messages (heard m a)) (line_given limit keys line given (order.Call call) is asks)) done h (are_said lost reply.answer)
  line_comes sha keys limit p messages lost line given answer old new heard is (Calls call reply asks done (inr out)) h =
      carried sha p messages (said_of lost []) (called call) old new reply
      (may_come keys line (p.written ++ messages) call (λ m a. still_in (Said m) p.written messages (heard m a)) (line_given limit keys line given (order.Call call) is asks)) done h (none_said lost reply.answer)
  line_comes sha keys limit p messages lost line given answer old new heard is (Stops call asks restart out) h =
      quiet lost sha p (process_of kept new) messages (restarted_if sha p messages old.down old new restart.0 restart.1 h)
  line_comes sha keys limit p messages lost line given answer old new heard is (Shows question asks same text) h =
      quiet lost sha p (process_of kept new) messages (same_process sha p _ _ messages (ap (process_of kept) (sym same)) h)
  line_comes sha keys limit p messages lost line given answer old new heard is (Drops why asks same text) h =
      quiet lost sha p (process_of kept new) messages (same_process sha p _ _ messages (ap (process_of kept) (sym same)) h)

  pub lines_come : (sha : List ℕ → Digest) (keys : Keys) (limit : ℕ) (p : Processes) (messages : List Message) (lost : Bool) (lines answers : List (List ℕ)) (old new : Seen K)
      → AreHeard p.written keys lines → (h : served.Answers (filter_steps saving loading kept keys) limit old lines answers new)
      → Comes sha p (process_of kept old) messages → Comes sha p (process_of kept new) (messages ++ said_of lost (messages_of saving loading kept keys limit old new lines answers h))
  lines_come sha keys limit p messages lost [] [] old new heard h c = quiet lost sha p (process_of kept new) messages (same_process sha p _ _ messages (ap (process_of kept) h) c)
  lines_come sha keys limit p messages lost [] (a ∷ answers) old new heard h c = absurd h
  lines_come sha keys limit p messages lost (l ∷ lines) [] old new heard h c = absurd h
  lines_come sha keys limit p messages lost (l ∷ lines) (a ∷ answers) old new heard h c =
      let said : List Message = said_of lost (line_messages h.3) in
      let more : List Message = messages_of saving loading kept keys limit h.1 new lines answers h.4 in
      let first = line_comes sha keys limit p messages lost l h.0 a old h.1 (λ m asks. heard l m (inl refl) asks) h.2 h.3 c in
      let rest = lines_come sha keys limit p (messages ++ said) lost lines answers h.1 new (λ line m i asks. heard line m (inr i) asks) h.4 first in
      subst (Comes sha p (process_of kept new)) (append_assoc messages said (said_of lost more) ∙ ap (λ ms. messages ++ ms) (said_both lost (line_messages h.3) more)) rest

  -- what is written says them
  line_says : (keys : Keys) (given : Result (List ℕ) Lost) (answer : List ℕ) (old new : Seen K)
      → (f : Filters saving loading kept keys given answer old new) → Says keys (line_messages f) answer
  line_says keys given answer old new (Calls call reply asks done (inl written)) = answer_says keys (fact_lines reply) reply.answer answer (facts_say keys reply) written
  line_says keys given answer old new (Calls call reply asks done (inr out)) = subst (Says keys []) (sym out) (lost_says keys)
  line_says keys given answer old new (Stops call asks restart out) = subst (Says keys []) (sym out) (lost_says keys)
  line_says keys given answer old new (Shows question asks same (inl text)) = shown_says keys old.held question answer text
  line_says keys given answer old new (Shows question asks same (inr out)) = subst (Says keys []) (sym out) (lost_says keys)
  line_says keys given answer old new (Drops why asks same (inl text)) = subst (Says keys []) (sym text) (unread_says keys why)
  line_says keys given answer old new (Drops why asks same (inr out)) = subst (Says keys []) (sym out) (lost_says keys)

  lines_say : (keys : Keys) (limit : ℕ) (lines answers : List (List ℕ)) (old new : Seen K)
      → (h : served.Answers (filter_steps saving loading kept keys) limit old lines answers new) → Says keys (messages_of saving loading kept keys limit old new lines answers h) (joined answers)
  lines_say keys limit [] [] old new h = Says_nothing
  lines_say keys limit [] (a ∷ answers) old new h = absurd h
  lines_say keys limit (l ∷ lines) [] old new h = absurd h
  lines_say keys limit (l ∷ lines) (a ∷ answers) old new h =
      both_say keys (line_messages h.3) (messages_of saving loading kept keys limit h.1 new lines answers h.4) a (joined answers)
      (line_says keys h.0 a old h.1 h.3) (lines_say keys limit lines answers h.1 new h.4)

  -- ---- batches

  -- a restart leaves a coordinator down, or with all that is kept lasting
  restart_lasts : (old new : Seen K) (result : Result ⊤ CoordRefusal) → old.down ≡ true → Restarts loading (kept old.keeper) old new result → LastsWhileUp kept new lasting
  restart_lasts old new (Ok done) down r up =
      let all = honest.loaded old.keeper new.keeper r.loaded in
      all.1 ∙ sym all.0
  restart_lasts old new (Err LoadFault) down r up = (let bad : true ≡ false = sym r.2 ∙ up in absurd (cc bad))
  restart_lasts old new (Err OutOfMemory) down r up = (let bad : true ≡ false = sym down ∙ sym r.2 ∙ up in absurd (cc bad))
  restart_lasts old new (Err Down) down r up = absurd r
  restart_lasts old new (Err SaveFault) down r up = absurd r
  restart_lasts old new (Err BadRecord) down r up = absurd r
  restart_lasts old new (Err NotLive) down r up = absurd r
  restart_lasts old new (Err SlotLeased) down r up = absurd r
  restart_lasts old new (Err NoSuchSlot) down r up = absurd r
  restart_lasts old new (Err TicketsSpent) down r up = absurd r
  restart_lasts old new (Err Tenure) down r up = absurd r
  restart_lasts old new (Err TenureHeld) down r up = absurd r
  restart_lasts old new (Err NodeRetired) down r up = absurd r

  pub made : (sha : List ℕ → Digest) (keys : Keys) (limit : ℕ) (lines answers : List (List ℕ)) (settled : Settled) (old mid new : Seen K) (p : Processes)
      → Comes sha p (process_of kept old) [] → AreHeard p.written keys lines → (h : served.Answers (filter_steps saving loading kept keys) limit old lines answers mid)
      → MakesLast syncing loading kept lasting mid settled new →
      let messages : List Message = settled_messages settled (messages_of saving loading kept keys limit old mid lines answers h) in
      Comes sha p (process_of kept new) messages × LastsWhileUp kept new lasting × Says keys messages (settled_text settled answers)
  made sha keys limit lines answers Lasts old mid new p comes heard h s = (
    same_process sha p _ _ (messages_of saving loading kept keys limit old mid lines answers h) (process_is mid new s.0.1 s.0.2 (honest.syncs mid.keeper true new.keeper s.0.0))
        (lines_come sha keys limit p [] false lines answers old mid heard h comes),
    λ up. s.1,
    lines_say keys limit lines answers old mid h,
  )
  made sha keys limit lines answers (Failed restart) old mid new p comes heard h s =
      let failed = s.0 in
      let silent : Comes sha p (process_of kept mid) [] = lines_come sha keys limit p [] true lines answers old mid heard h comes in
      let killed = does_silently sha p (process_of kept mid) (record (process_of kept mid) { memory = None }) [] silent Is_killed in
      let is_failed = same_process sha p _ (process_of kept failed) []
      (λ i. record { memory = (ap (λ b. memory_of b (ledger failed.held)) (sym s.1.2)) i; disk = saved_in (sym (honest.syncs mid.keeper false failed.keeper s.1.0) i) }) killed in (
        restarted sha p [] failed new restart s.2 is_failed,
        restart_lasts failed new restart s.1.2 s.2,
        failed_says keys restart answers,
      )

  pub a_batch_is_a_run : ABatchIsARun saving loading syncing kept lasting
  a_batch_is_a_run sha keys limit lines text old new p same heard b =
      let done = made sha keys limit lines b.answers b.settled old b.answered_to new p (rests sha p (process_of kept old) same) (are_heard keys lines p.written heard) b.answered b.made in
      (done.0, done.1, subst (Says keys (batch_messages saving loading syncing kept lasting keys limit lines text old new b)) (sym b.text_is) done.2)

  pub a_kill_is_a_run : AKillIsARun saving loading kept
  a_kill_is_a_run sha keys limit lines answers old new p same heard h =
      does_silently sha p (process_of kept new) (gone_with (kept new.keeper)) []
      (lines_come sha keys limit p [] true lines answers old new (are_heard keys lines p.written heard) h (rests sha p (process_of kept old) same)) Is_killed

  pub a_start_is_a_run : AStartIsARun loading kept lasting
  a_start_is_a_run sha keeper new p same taken =
      let all = honest.loaded keeper new.keeper taken.loaded in (
        same_process sha p _ (process_of kept new) []
            (λ i. record {
              memory = (ap (λ disk. Some (reads disk)) same ∙ ap (λ q. Some q) (sym taken.ledger) ∙ ap (λ b. memory_of b (ledger new.held)) (sym taken.up)) i;
              disk = (same ∙ ap saved_in (sym all.0)) i;
            })
            (does_silently sha p p.coordinator (record p.coordinator { memory = Some (reads p.coordinator.disk) }) [] (rests sha p p.coordinator refl) Starts),
        λ up. all.1 ∙ sym all.0,
      )

-- ---- keepers in files

-- all texts last
pub last_all : (f : Filed) → file_texts (lasts f) ≡ f.texts
last_all f = ap (λ (entries : List (List ℕ)). record f.texts { entries = entries }) (take-length f.texts.entries)

pub gathered_file : IsHonest file_saves FileLoads FileSyncs (λ f. f.texts) file_texts
gathered_file = record { saves = saves_so; fails = fails_so; loaded = loaded_so; loads = loads_so; syncs = syncs_so }
  where
    all_last : (f g : Filed) (calls : List Called) (settled : Bool) → g ≡ left_by calls settled (lasts f) → (g.texts ≡ f.texts) × (file_texts g ≡ f.texts)
    all_last f g calls settled e = (ap (λ x. x.texts) e, ap file_texts e ∙ last_all f)

    all_fail : (f g : Filed) (calls : List Called) (settled : Bool) → g ≡ left_by calls settled (failed_once (lasts f)) → (g.texts ≡ f.texts) × (file_texts g ≡ f.texts)
    all_fail f g calls settled e = (ap (λ x. x.texts) e, ap file_texts e ∙ last_all f)

    saves_so : (old : Filed) (texts : Texts) (new : Filed) → file_saves old texts true new
        → (new.texts ≡ texts) × ((file_texts new ≡ texts) ⊎ AddsEntry old.texts (file_texts old) texts (file_texts new))
    saves_so old texts new (inl g) = (ap (λ f. f.texts) g.1.left.0, inr (record { entry = g.1.entry; kept = g.1.texts_are; lasts = g.1.left.1 }))
    saves_so old texts new (inr s) = (let both = all_last (record old { texts = texts }) new new.calls true s.changed.1 in (both.0, inl both.1))

    fails_so : (old : Filed) (texts : Texts) (new : Filed) → file_saves old texts false new
        → ((new.texts ≡ old.texts) × (file_texts new ≡ file_texts old)) ⊎ ((new.texts ≡ texts) × (file_texts new ≡ texts))
    fails_so old texts new (inl g) = (let bad : false ≡ true = g.0 in absurd (cc bad))
    fails_so old texts new (inr s) =
        elim s.changed [
          | inl may ↦ inl (elim may [ inl same ↦ (ap (λ (f : Filed). f.texts) same, ap file_texts same) | inr called ↦ (ap (λ (f : Filed). f.texts) called.1, ap file_texts called.1) ])
          | inr called ↦ inr (all_fail (record old { texts = texts }) new new.calls new.settled called.1)
        ]

    loaded_so : (old new : Filed) → FileLoads old None new → (new.texts ≡ old.texts) × (file_texts new ≡ old.texts)
    loaded_so old new h = all_last old new new.calls true h.changed

    loads_so : (old : Filed) (refusal : Option KeeperRefusal) (new : Filed) → FileLoads old refusal new
        → ((new.texts ≡ old.texts) × (file_texts new ≡ file_texts old)) ⊎ ((new.texts ≡ old.texts) × (file_texts new ≡ old.texts))
    loads_so old None new h = inr (all_last old new new.calls true h.changed)
    loads_so old (Some keeper.OutOfMemory) new h = inr (all_last old new new.calls new.settled h.changed)
    loads_so old (Some keeper.Fault) new h =
        elim h.changed [ inl still ↦ inl (ap (λ (f : Filed). f.texts) still, ap file_texts still) | inr all ↦ inr (all_fail old new new.calls new.settled all) ]

    syncs_so : (old : Filed) (ok : Bool) (new : Filed) → FileSyncs old ok new → new.texts ≡ old.texts
    syncs_so old true new h = ap (λ (f : Filed). f.texts) h.changed.1
    syncs_so old false new h = elim h.changed [ inl same ↦ ap (λ (f : Filed). f.texts) same | inr called ↦ ap (λ (f : Filed). f.texts) called.1 ]

pub over_files : ABatchOverFilesIsARun
over_files = a_batch_is_a_run file_saves FileLoads FileSyncs (λ f. f.texts) file_texts gathered_file

pub kill_over_files : AKillOverFilesIsARun
kill_over_files = a_kill_is_a_run file_saves FileLoads FileSyncs (λ f. f.texts) file_texts gathered_file

pub start_over_files : AStartOverFilesIsARun
start_over_files = a_start_is_a_run file_saves FileLoads FileSyncs (λ f. f.texts) file_texts gathered_file
