-- A farm of these programs, as a run of processes.
use Rattle.std.proofs.Common.{◌≡◌, List, [], ◌∷◌, ◌++◌, ℕ, Bool, true, false, Option, Some, None, codes, inl, inr, append-nil, arith, refl, subst, sym, ap, ◌∙◌}
use Rattle.std.specs.String.{string_bytes}
use Rattle.names.specs.Contents.{content_digest, empty_digest}
use Rattle.names.specs.declared.limits.TheConstants.{NODES}
use Rattle.names.proofs.TextLemmas.{Lacks-from_test}
use Rattle.nodefilter.proofs.RuleLemmas as node
use Rattle.nodefilter.specs.Rules as node_rules
use Rattle.nodefilter.specs.States.{seen}
use Rattle.nodestore.specs.Stores.{has_digest, any_bytes}
use Rattle.protocol.specs.Farm.{farm_limits}
use Rattle.protocol.specs.Follows.{IsFarm}
use Rattle.protocol.specs.Lists.{In}
use Rattle.protocol.specs.Machine.{Message}
use Rattle.protocol.specs.HostileProcesses.{RaidRuns, IsFit, RaidedProcessesAreAFarm, RaidedProcessesStaySafe, RaidedWithdrawnStaysOut}
use Rattle.protocol.specs.HostileProcesses.RaidRuns.{Rests, Goes_on}
use Rattle.protocol.specs.HostileProcesses.RaidHappens.{Is_forged as Is_written_by_others, Is_turned as Becomes_any}
use Rattle.protocol.specs.Machine.{acquire}
use Rattle.protocol.specs.Names.{Life, Ask, Want}
use Rattle.protocol.specs.Processes.{Processes, ProcessesStaySafe}
use Rattle.protocol.specs.Hostile.{key_of, EveryRaidIsSafe}
use Rattle.protocol.specs.Safe.{Rising}
use Rattle.farmwire.specs.Lawful.{IsLawful, IsTenure}
use Rattle.names.specs.declared.folder.Mode.{Mode}
use Rattle.farmwire.specs.Sealed.{Keys, IsSealed, IsUnder, key_in}
use Rattle.names.specs.declared.number.NodeId.{NodeId}
use Rattle.processes.proofs.UnraidedLemmas.{in_later, stays_safe_unraided}
use Rattle.coordinator.specs.Seen.{Seen}
use Rattle.coordinatorfilter.proofs.CrashLemmas.{crash_over_files, return_over_files, failed_says_nothing, falters_so}
use Rattle.coordinatorfilter.proofs.RuleLemmas.{kill_over_files, start_over_files}
use Rattle.coordinatorfilter.specs.Rules.{Falters, MayBecome, with_coordinator, gone_with}
use Rattle.filekeeper.proofs.DiskLemmas.{at_moment}
use Rattle.filekeeper.proofs.KeptLemmas.{held_is_given}
use Rattle.filekeeper.specs.Keepers.{Filed}
use Rattle.filekeeper.specs.Settled.{HoldsAny}
use Rattle.saverecord.specs.Texts.{Texts}
use Rattle.processes.specs.Farms.{Farm, coordinator_messages, last_life, known, AreOf, Does, HasFaltered, AreTold, IsTold, Comes_to, EveryFarmIsARun, EveryRaidedFarmStaysSafe, EveryRaidedFarmKeepsOut, EveryFarmStaysSafe, first_farm}
use Rattle.processes.specs.Farms.Does.{Answers_lines, Fails_to_save, Is_killed, Crashes, Starts, Node_answers_lines, Node_is_killed, Node_starts, Is_forged, Is_turned}
use Rattle.processes.specs.Farms.Comes_to.{Stays, And_then}
use Rattle.processes.specs.Served.{started_text}
use Rattle.services.specs.Says.{Says, Offers, AreOfTheFarm, AreWritten}
use Rattle.services.proofs.NoteLemmas.{fixed}
use Rattle.services.proofs.SaysLemmas.{still_in, only_said}

run_on : (taken : ℕ → Bool) (p q r : Processes) → RaidRuns taken content_digest farm_limits NODES p q → RaidRuns taken content_digest farm_limits NODES q r
    → RaidRuns taken content_digest farm_limits NODES p r
run_on taken p q r h (Rests same) = h
run_on taken p q r h (Goes_on from mid to early step) = Goes_on p mid r (run_on taken p q mid h early) step

-- ---- keys

more_under : (own others : Keys) → ((node : NodeId) (key : List ℕ) → own node ≡ Some key → others node ≡ Some key) → (owner : Option NodeId) (text line : List ℕ)
    → IsUnder own owner text line → IsUnder others owner text line
more_under own others among (Some node) text line h = record { key = h.key; known = among node h.key h.known; sealed = h.sealed }
more_under own others among None text line h = h

-- what opens under some of the keys opens under all
more_sealed : (own others : Keys) → ((node : NodeId) (key : List ℕ) → own node ≡ Some key → others node ≡ Some key) → (line : List ℕ) (m : Message)
    → IsSealed own line m → IsSealed others line m
more_sealed own others among line m h = record { short = h.short; lawful = h.lawful; text = more_under own others among (key_of m) _ line h.text }

-- ---- what was written

-- what comes from outside was written
heard : (keys : NodeId → List ℕ) (farm : Farm) (lines : List (List ℕ)) → IsTold keys farm → AreWritten (known keys) lines farm.texts farm.forged
    → AreOfTheFarm (known keys) lines farm.processes.written
heard keys farm lines told written sealed m i is = elim (written sealed m i is) [
  | inl found ↦ told.texts found.0 sealed m found.1 found.2 is
  | inr forged ↦ told.forged m forged
]

-- so it is of what opens under a node's own key
heard_by : (keys : NodeId → List ℕ) (own : Keys) (farm : Farm) (lines : List (List ℕ)) → AreOf keys own → IsTold keys farm → AreWritten (known keys) lines farm.texts farm.forged
    → AreOfTheFarm own lines farm.processes.written
heard_by keys own farm lines among told written sealed m i is = heard keys farm lines told written sealed m i (more_sealed own (known keys) among sealed m is)

faltered : (keys : NodeId → List ℕ) (farm : Farm) (first old : Seen Filed) → IsTold keys farm → HasFaltered keys farm first old
    → Falters (λ lines. AreOfTheFarm (known keys) lines farm.processes.written) (known keys) first old
faltered keys farm first old told before =
    falters_so (λ lines. AreWritten (known keys) lines farm.texts farm.forged) (λ lines. AreOfTheFarm (known keys) lines farm.processes.written) (known keys) first old
    (λ lines written. heard keys farm lines told written) before

text_cases : (t : List ℕ) (texts : List (List ℕ)) (text : List ℕ) → In t (texts ++ text ∷ []) → (P : Type 0) → (In t texts → P) → (t ≡ text → P) → P
text_cases t [] text (inl e) P old new = new e
text_cases t [] text (inr none) P old new = absurd none
text_cases t (x ∷ texts) text (inl e) P old new = old (inl e)
text_cases t (x ∷ texts) text (inr i) P old new = text_cases t texts text i P (λ j. old (inr j)) new

-- one more text, and the messages that it says under some of the keys
tells : (keys own : Keys) (texts : List (List ℕ)) (written messages : List Message) (text : List ℕ) → Says own messages text → AreTold texts keys written
    → AreTold (texts ++ text ∷ []) keys (written ++ messages)
tells keys own texts written messages text says told t sealed m i offered is =
    text_cases t texts text i (In m (written ++ messages))
    (λ old. still_in m written messages (told t sealed m old offered is))
    (λ new. in_later m written messages (only_said own keys messages text says sealed m (subst (λ z. Offers z sealed) new offered) is))

-- more messages
stays_told : (keys : Keys) (texts : List (List ℕ)) (written messages : List Message) → AreTold texts keys written → AreTold texts keys (written ++ messages)
stays_told keys texts written messages told t sealed m i offered is = still_in m written messages (told t sealed m i offered is)

-- a farm whose processes wrote these messages, and this text that says them
more_told : (keys : NodeId → List ℕ) (own : Keys) (farm : Farm) (messages : List Message) (text : List ℕ) (p : Processes) → p.written ≡ farm.processes.written ++ messages
    → Says own messages text → IsTold keys farm → IsTold keys (record farm { processes = p; texts = farm.texts ++ text ∷ [] })
more_told keys own farm messages text p same says told = record {
  texts = subst (AreTold (farm.texts ++ text ∷ []) (known keys)) (sym same) (tells (known keys) own farm.texts farm.processes.written messages text says told.texts);
  forged = λ m i. subst (In m) (sym same) (still_in m farm.processes.written messages (told.forged m i));
}

-- one that wrote nothing
none_told : (keys : NodeId → List ℕ) (farm : Farm) (p : Processes) → p.written ≡ farm.processes.written → IsTold keys farm → IsTold keys (record farm { processes = p })
none_told keys farm p same told = record {
  texts = subst (AreTold farm.texts (known keys)) (sym same) told.texts;
  forged = λ m i. subst (In m) (sym same) (told.forged m i);
}

-- ---- what the programs do

tenure_fits : (m : Message) → IsLawful m → IsFit m
tenure_fits m lawful n l a wants same =
    let asked : IsLawful (acquire n l a wants true) = subst IsLawful same lawful in
    let tenure : IsTenure wants = asked.request.1 in (
      tenure.folder,
      tenure.one ∙ ap (λ (mode : Mode). record { folder = record tenure.folder { mode = mode }; writable = true } ∷ []) tenure.shared,
    )

-- a step is a run of the processes, and its text says what they wrote
Goes : (NodeId → List ℕ) → (ℕ → Bool) → Farm → Farm → Type 0
Goes keys taken farm later = RaidRuns taken content_digest farm_limits NODES farm.processes later.processes × IsTold keys later

does_run : (keys : NodeId → List ℕ) (taken : ℕ → Bool) (farm later : Farm) → IsTold keys farm → Does keys taken farm later → Goes keys taken farm later
unfolding Goes
does_run keys taken farm later told (Answers_lines limit lines text first old new same before written b) =
    let done = return_over_files content_digest (known keys) limit lines text first old new farm.processes same (faltered keys farm first old told before) (heard keys farm lines told written) b in
    (done.0 taken, more_told keys (known keys) farm (coordinator_messages (known keys) limit lines text old new b) text later.processes refl done.1 told)
does_run keys taken farm later told (Fails_to_save limit lines text first old new restart same before written b failed) =
    let done = return_over_files content_digest (known keys) limit lines text first old new farm.processes same (faltered keys farm first old told before) (heard keys farm lines told written) b in (
      Rests farm.processes,
      more_told keys (known keys) farm [] text farm.processes (sym (append-nil farm.processes.written))
          (subst (λ messages. Says (known keys) messages text) (failed_says_nothing (known keys) limit lines text old new b restart failed) done.1) told,
    )
does_run keys taken farm later told (Is_killed limit lines answers old new same written h) = (
  kill_over_files content_digest (known keys) limit lines answers old new farm.processes same (heard keys farm lines told written) h taken,
  none_told keys farm later.processes (append-nil farm.processes.written) told,
)
does_run keys taken farm later told (Crashes limit lines text first old new moment files left same lasting durable before written answers amid may held) =
    let leaves = crash_over_files content_digest (known keys) limit lines text first old new farm.processes same lasting durable (faltered keys farm first old told before) (heard keys farm lines told written) answers in
    let Reached : Texts → Type 0 = λ t. MayBecome content_digest farm.processes (with_coordinator farm.processes (gone_with t) []) in
    let found = at_moment (HoldsAny Reached) first.keeper.calls moment new.keeper.calls leaves amid files may in (
      subst Reached (sym (held_is_given files found.0 left found.2 held)) found.1 taken,
      none_told keys farm later.processes (append-nil farm.processes.written) told,
    )
does_run keys taken farm later told (Starts keeper new same takes) = (
  (start_over_files content_digest keeper new farm.processes same takes).0 taken,
  more_told keys (known keys) farm [] started_text later.processes refl (fixed (known keys) (codes " started") (Lacks-from_test 10 (codes " started") refl)) told,
)
does_run keys taken farm later told (Node_answers_lines limit lines text old new honest among is written b) =
    let done = node.a_batch_is_a_run has_digest last_life any_bytes limit lines text old new farm.processes is (heard_by keys (seen old).keys farm lines among told written) b in
    let messages : List Message = node_rules.batch_messages has_digest last_life any_bytes limit lines text old new b in
    (done.0 taken honest, more_told keys (seen old).keys farm messages text later.processes refl done.1 told)
does_run keys taken farm later told (Node_is_killed limit lines answers old new honest among is written h) = (
  node.a_kill_is_a_run has_digest last_life any_bytes limit lines answers old new farm.processes is (heard_by keys (seen old).keys farm lines among told written) h taken honest,
  none_told keys farm later.processes (append-nil farm.processes.written) told,
)
does_run keys taken farm later told (Node_starts origin started honest among left begins) =
    let done = node.a_start_is_a_run has_digest last_life any_bytes origin started farm.processes left begins in
    (done.0 taken honest, more_told keys (key_in origin.keys) farm begins.done.sends (string_bytes started.greeting) later.processes refl done.1 told)
does_run keys taken farm later told (Is_forged m loose lawful) = (
  Goes_on farm.processes farm.processes later.processes (Rests farm.processes) (Is_written_by_others m loose (tenure_fits m lawful)),
  record {
    texts = stays_told (known keys) farm.texts farm.processes.written (m ∷ []) told.texts;
    forged = λ x i. elim i [ inl e ↦ in_later x farm.processes.written (m ∷ []) (inl e) | inr j ↦ still_in x farm.processes.written (m ∷ []) (told.forged x j) ];
  },
)
does_run keys taken farm later told (Is_turned n state took) = (
  Goes_on farm.processes farm.processes later.processes (Rests farm.processes) (Becomes_any n state took),
  none_told keys farm later.processes refl told,
)

pub every_run : EveryFarmIsARun
unfolding Goes
every_run keys taken farm later told Stays = (Rests farm.processes, told)
every_run keys taken farm later told (And_then next after early step) =
    let before = every_run keys taken farm next told early in
    let last = does_run keys taken next after before.1 step in
    (run_on taken farm.processes next.processes after.processes before.0 last.0, last.1)

is_farm : IsFarm content_digest farm_limits
unfolding empty_digest
is_farm = record { empty = refl; instances = omega arith }

first_told : (keys : NodeId → List ℕ) → IsTold keys first_farm
first_told keys = record { texts = λ text sealed m none offered is. absurd none; forged = λ m none. absurd none }

pub raided_stays_safe : RaidedProcessesAreAFarm → EveryRaidIsSafe → RaidedProcessesStaySafe → EveryRaidedFarmStaysSafe
raided_stays_safe is_raided raid_is_safe safe keys taken farm later early late =
    let before = every_run keys taken first_farm farm (first_told keys) early in
    let after = every_run keys taken farm later before.1 late in
    let all = run_on taken first_farm.processes farm.processes later.processes before.0 after.0 in
    let worlds = is_raided taken content_digest farm_limits is_farm NODES later.processes later.processes all (Rests later.processes) in (
      safe taken content_digest farm_limits is_farm NODES farm.processes later.processes before.0 after.0,
      λ slot. subst Rising (sym (worlds.before.lines slot)) ((raid_is_safe taken content_digest worlds.world worlds.raids).rising slot),
    )

pub raided_keeps_out : RaidedWithdrawnStaysOut → EveryRaidedFarmKeepsOut
raided_keeps_out out keys taken farm next later early ledger calls more ticket work lines memory may done part next_is told late =
    let before = every_run keys taken first_farm farm (first_told keys) early in
    let after = every_run keys taken next later told late in
    out taken content_digest farm_limits is_farm NODES farm.processes later.processes before.0 ledger calls more ticket work lines memory may done part
    (subst (λ p. RaidRuns taken content_digest farm_limits NODES p later.processes) next_is after.0)

pub stays_safe : ProcessesStaySafe → EveryFarmStaysSafe
stays_safe safe keys farm later early late =
    let before = every_run keys (λ node. false) first_farm farm (first_told keys) early in
    let after = every_run keys (λ node. false) farm later before.1 late in
    stays_safe_unraided safe content_digest farm_limits is_farm NODES farm.processes later.processes before.0 after.0
