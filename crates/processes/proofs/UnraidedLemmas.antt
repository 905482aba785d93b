-- Where no node was taken over, lines under no key add nothing to what processes do: a content that was sent to a node might
-- have been brought to it, and what asks for one changes no node.
use Rattle.std.proofs.Common.{◌≡◌, ◌⊎◌, ℕ, Bool, true, false, List, [], ◌∷◌, ◌++◌, Option, Some, None, Result, Ok, Err, inl, inr, refl, sym, ap, ◌∙◌, subst}
use Rattle.std.specs.Prelude.{if◌then◌else◌, ◌==◌}
use Rattle.std.proofs.lemmas.Bool.{cases_Bool, eqb-true}
use mathlib.Core.Path.{fun_ext}
use Rattle.farm_base.specs.declared.message.Message.{Message}
use Rattle.farm_base.specs.declared.message.Message.TheVariants as to
use Rattle.farm_base.specs.declared.message.ToNode.TheVariants as to_node
use Rattle.farm_base.specs.declared.message.Fetch.{Fetch}
use Rattle.events.specs.declared.answer.NodeRefusal.TheVariants as refusal
use Rattle.names.specs.declared.digest.Digest.{Digest}
use Rattle.names.specs.declared.number.NodeId.{NodeId}
use Rattle.protocol.specs.Lists.{In, put}
use Rattle.protocol.specs.Machine.{Blob, Said, Told, HasPart}
use Rattle.protocol.specs.Machine.HasPart.{Ends_part, Keeps, Leaves}
use Rattle.protocol.specs.Ledger.{Limits}
use Rattle.protocol.specs.Follows.{IsFarm}
use Rattle.protocol.specs.Hostile.{IsSealed}
use Rattle.protocol.specs.HostileProcesses.{RaidHappens, RaidRuns}
use Rattle.protocol.specs.HostileProcesses.RaidHappens.{Coordinator_does as Raided_coordinator, Node_does as Raided_node, Is_forged, Is_turned}
use Rattle.protocol.specs.HostileProcesses.RaidRuns.{Rests as Raid_rests, Goes_on as Raid_goes_on}
use Rattle.protocol.specs.Nodes.{NodeWork, NodeAnswer, guard, fetched}
use Rattle.protocol.specs.Processes.{Coordinator, Processes, Call, MayCome, AllMayCome, CoordinatorDoes, NodeCall, MayReach, node_decided, NodeDoes, Happens, Runs, IsOfLeases, StaySafe, ProcessesStaySafe, first_processes}
use Rattle.protocol.specs.Processes.Call.{Handle, Withdraw, Prune, Retire, Nudge}
use Rattle.protocol.specs.Processes.CoordinatorDoes.{Works, Fails, Is_killed, Starts}
use Rattle.protocol.specs.Processes.NodeCall.{Receive, Ask_lease, Ask_tenure, Begin, Finish, Abort, Resend, Bring, Forget}
use Rattle.protocol.specs.Processes.NodeDoes.{Acts, Begins_life, Loses, Is_spent}
use Rattle.protocol.specs.Processes.Happens.{Coordinator_does, Node_does}
use Rattle.protocol.specs.Processes.Runs.{Rests, Goes_on}
use Rattle.protocol.specs.World.{Node}
use Rattle.services.proofs.SaysLemmas.{still_in}

-- nobody was taken over
abbrev none : ℕ → Bool
none node = false

-- each line of leases that stands here stands there
abbrev Carries : List Message → List Message → Type 0
Carries written others = (m : Message) → IsOfLeases m → In m written → In m others

in_either : (m : Message) (xs ys : List Message) → In m (xs ++ ys) → In m xs ⊎ In m ys
in_either m [] ys i = inr i
in_either m (x ∷ xs) ys (inl e) = inl (inl e)
in_either m (x ∷ xs) ys (inr i) = elim (in_either m xs ys i) [ inl j ↦ inl (inr j) | inr j ↦ inr j ]

pub in_later : (m : Message) (xs ys : List Message) → In m ys → In m (xs ++ ys)
in_later m [] ys i = i
in_later m (x ∷ xs) ys i = inr (in_later m xs ys i)

carries_both : (written others lines : List Message) → Carries written others → Carries (written ++ lines) (others ++ lines)
carries_both written others lines h m of i = elim (in_either m written lines i) [
  | inl old ↦ still_in m others lines (h m of old)
  | inr new ↦ in_later m others lines new
]

carries_more : (written others lines : List Message) → Carries written others → ((m : Message) → IsOfLeases m → In m lines → ⊥) → Carries (written ++ lines) others
carries_more written others lines h loose m of i = elim (in_either m written lines i) [
  | inl old ↦ h m of old
  | inr new ↦ absurd (loose m of new)
]

part_in : (m : Message) (xs ys : List Message) → HasPart xs ys → In m ys → In m xs
part_in m xs ys Ends_part i = i
part_in m xs ys (Keeps x before after part) i = elim i [ inl e ↦ inl e | inr j ↦ inr (part_in m before after part j) ]
part_in m xs ys (Leaves x before after part) i = inr (part_in m before after part i)

module _ (sha : List ℕ → Digest) (k : Limits) (size : ℕ) where
  -- ---- the coordinator

  may_come : (written others : List Message) → Carries written others → (call : Call) → MayCome size written call → MayCome size others call
  may_come written others h (Handle saying) i = h (Said saying) tt i
  may_come written others h (Withdraw ticket) i = i
  may_come written others h (Prune slot) i = i
  may_come written others h (Retire node) i = i
  may_come written others h Nudge i = i

  all_may_come : (written others : List Message) → Carries written others → (calls : List Call) → AllMayCome size written calls → AllMayCome size others calls
  all_may_come written others h calls all call i = may_come written others h call (all call i)

  coordinator_same : (written others : List Message) → Carries written others → (c d : Coordinator) (lines : List Message)
      → CoordinatorDoes k size written c lines d → CoordinatorDoes k size others c lines d
  coordinator_same written others h c d lines (Works ledger calls ls memory all part) = Works ledger calls ls memory (all_may_come written others h calls all) part
  coordinator_same written others h c d lines (Fails ledger early late memory all) = Fails ledger early late memory (all_may_come written others h (early ++ late) all)
  coordinator_same written others h c d lines Is_killed = Is_killed
  coordinator_same written others h c d lines Starts = Starts

  -- ---- a node

  -- it does the same there, or nothing that counts
  abbrev Likewise : List Message → NodeId → Node → List Message → Node → Type 0
  Likewise others node x lines y = NodeDoes sha k others node x lines y ⊎ ((y ≡ x) × ((m : Message) → IsOfLeases m → In m lines → ⊥))

  -- what asks for a content changes nothing, and is answered with one
  by_fetch : (others : List Message) (node : NodeId) (count : ℕ) (g : Fetch) (x : Node) (v : NodeWork) (lines : List Message)
      → node_decided sha k (record { node = node; nodes = count }) x (Receive (to_node.Fetch g)) ≡ Ok v → HasPart v.sends lines → Likewise others node x lines v.node
  by_fetch others node count g x v lines ok part = by x.spent ok
    where
      said : (o : Option (List ℕ)) → fetched g.from x o ≡ v → Likewise others node x lines v.node
      said None e = inr (sym (ap (λ (w : NodeWork). w.node) e), λ m of i. (let j : In m [] = subst (λ (w : NodeWork). In m w.sends) (sym e) (part_in m v.sends lines part i) in absurd j))
      said (Some c) e = inr (
        sym (ap (λ (w : NodeWork). w.node) e),
        λ m of i. (let j : In m (Blob g.from c ∷ []) = subst (λ (w : NodeWork). In m w.sends) (sym e) (part_in m v.sends lines part i) in
            elim j [ inl same ↦ subst IsOfLeases same of | inr never ↦ absurd never ]),
      )

      by : (b : Bool) → guard b refusal.LivesSpent (Ok (fetched g.from x (x.store g.digest))) ≡ Ok v → Likewise others node x lines v.node
      by true h = (let bad : ◌≡◌ {A = NodeAnswer} (Err refusal.LivesSpent) (Ok v) = h in absurd (cc bad))
      by false h = said (x.store g.digest) (let good : ◌≡◌ {A = NodeAnswer} (Ok (fetched g.from x (x.store g.digest))) (Ok v) = h in cc good)

  acts_same : (written others : List Message) → Carries written others → (node : NodeId) (x : Node) (lines : List Message) (count : ℕ) (call : NodeCall) (v : NodeWork)
      → MayReach written node call → node_decided sha k (record { node = node; nodes = count }) x call ≡ Ok v → HasPart v.sends lines → Likewise others node x lines v.node
  acts_same written others h node x lines count (Receive (to_node.FromCoord told)) v may ok part =
      inl (Acts count (Receive (to_node.FromCoord told)) v lines (h (Told told) tt may.0, may.1) ok part)
  acts_same written others h node x lines count (Receive (to_node.Fetch g)) v may ok part = by_fetch others node count g x v lines ok part
  acts_same written others h node x lines count (Receive (to_node.Blob n c)) v may ok part = inl (Acts count (Bring c) v lines tt ok part)
  acts_same written others h node x lines count (Ask_lease wants) v may ok part = inl (Acts count (Ask_lease wants) v lines tt ok part)
  acts_same written others h node x lines count (Ask_tenure folder) v may ok part = inl (Acts count (Ask_tenure folder) v lines tt ok part)
  acts_same written others h node x lines count (Begin ticket) v may ok part = inl (Acts count (Begin ticket) v lines tt ok part)
  acts_same written others h node x lines count (Finish ticket lefts) v may ok part = inl (Acts count (Finish ticket lefts) v lines tt ok part)
  acts_same written others h node x lines count (Abort ticket) v may ok part = inl (Acts count (Abort ticket) v lines tt ok part)
  acts_same written others h node x lines count Resend v may ok part = inl (Acts count Resend v lines tt ok part)
  acts_same written others h node x lines count (Bring c) v may ok part = inl (Acts count (Bring c) v lines tt ok part)
  acts_same written others h node x lines count (Forget d) v may ok part = inl (Acts count (Forget d) v lines tt ok part)

  node_same : (written others : List Message) → Carries written others → (node : NodeId) (x y : Node) (lines : List Message)
      → NodeDoes sha k written node x lines y → Likewise others node x lines y
  node_same written others h node x y lines (Acts count call v ls may ok part) = acts_same written others h node x ls count call v may ok part
  node_same written others h node x y lines (Begins_life life ls up above below part) = inl (Begins_life life ls up above below part)
  node_same written others h node x y lines (Loses store known fewer fewer_known) = inl (Loses store known fewer fewer_known)
  node_same written others h node x y lines (Is_spent may) = inl (Is_spent may)

  -- a node that is as it was
  put_itself : (node : NodeId) (nodes : ℕ → Node) (y : Node) → y ≡ nodes node.0 → put node.0 y nodes ≡ nodes
  put_itself node nodes y same = fun_ext by
    where
      by : (n : ℕ) → put node.0 y nodes n ≡ nodes n
      by n = elim (cases_Bool (n == node.0)) [
        | inl here ↦ ap (λ b. if b then y else nodes n) here ∙ same ∙ ap nodes (sym (eqb-true n node.0 here))
        | inr apart ↦ ap (λ b. if b then y else nodes n) apart
      ]

  -- ---- runs

  -- the processes but for their written lines, of which these have all of leases
  abbrev with_lines : Processes → List Message → Processes
  with_lines p written = record p { written = written }

  record Shadowed (from : Processes) (p : Processes) : Type 0 where
    others : List Message
    runs : Runs sha k size from (with_lines p others)
    carries : Carries p.written others

  not_sealed : (m : Message) → (IsSealed none m → ⊥) → IsOfLeases m → ⊥
  not_sealed (to.ToCoord said) loose of = loose (said.node, refl, refl)
  not_sealed (to.ToNode (to_node.FromCoord told)) loose of = loose (_, refl, refl)
  not_sealed (to.ToNode (to_node.Fetch fetch)) loose of = of
  not_sealed (to.ToNode (to_node.Blob node content)) loose of = of

  next : (from p q : Processes) → Shadowed from p → RaidHappens none sha k size p q → Shadowed from q
  next from p q s (Raided_coordinator lines after does) = record {
    others = s.others ++ lines;
    runs = Goes_on from (with_lines p s.others) (with_lines q (s.others ++ lines)) s.runs
        (Coordinator_does lines after (coordinator_same p.written s.others s.carries p.coordinator after lines does));
    carries = carries_both p.written s.others lines s.carries;
  }
  next from p q s (Raided_node node lines after number honest does) = elim (node_same p.written s.others s.carries node (p.nodes node.0) after lines does) [
    | inl same ↦ record {
      others = s.others ++ lines;
      runs = Goes_on from (with_lines p s.others) (with_lines q (s.others ++ lines)) s.runs (Node_does node lines after number same);
      carries = carries_both p.written s.others lines s.carries;
    }
    | inr still ↦ record {
      others = s.others;
      runs = subst (λ (nodes : ℕ → Node). Runs sha k size from (record p { nodes = nodes; written = s.others })) (sym (put_itself node p.nodes after still.0)) s.runs;
      carries = carries_more p.written s.others lines s.carries still.1;
    }
  ]
  next from p q s (Is_forged m loose fits) = record {
    others = s.others;
    runs = s.runs;
    carries = carries_more p.written s.others (m ∷ []) s.carries (λ x of i. elim i [ inl e ↦ not_sealed m loose (subst IsOfLeases e of) | inr never ↦ absurd never ]);
  }
  next from p q s (Is_turned node state took) = (let bad : false ≡ true = took in absurd (cc bad))

  all_next : (from p q : Processes) → Shadowed from p → RaidRuns none sha k size p q → Shadowed from q
  all_next from p q s (Raid_rests same) = s
  all_next from p q s (Raid_goes_on a b c runs happens) = next from b c (all_next from p b s runs) happens

  itself : (p : Processes) → Shadowed p p
  itself p = record { others = p.written; runs = Rests p; carries = λ m of i. i }

-- of which no node was taken over, processes stay safe whatever lines come under no key
pub stays_safe_unraided : ProcessesStaySafe → (sha : List ℕ → Digest) (k : Limits) → IsFarm sha k → (size : ℕ) (p later : Processes)
    → RaidRuns none sha k size (first_processes sha) p → RaidRuns none sha k size p later → StaySafe sha p later
stays_safe_unraided safe sha k farm size p later runs more =
    let first = first_processes sha in
    let early = all_next sha k size first first p (itself sha k size first) runs in
    let q : Processes = record p { written = early.others } in
    let late = all_next sha k size q p later (record { others = early.others; runs = Rests q; carries = early.carries }) more in
    let s = safe sha k farm size q (record later { written = late.others }) early.runs late.runs in
    record {
      contents = s.contents;
      alone = s.alone;
      at_home = s.at_home;
      over = s.over;
      rising = s.rising;
      lines = s.lines;
      confirmed = λ n l t versions v i j. s.confirmed n l t versions v (early.carries (Told _) tt i) j;
      fenced = λ n l t i. s.fenced n l t (early.carries (Told _) tt i);
      tickets = λ g i. s.tickets g (early.carries (Told _) tt i);
    }
