-- What a node's filter does with lines, as a run of processes.
use Rattle.std.proofs.Common.{◌≡◌, ◌≢◌, ℕ, ◌+◌, ◌<◌, ◌≤◌, nat_lt, Bool, true, false, if◌then◌else◌, List, [], ◌∷◌, ◌++◌, Option, None, Some, Result, Ok, Err, inl, inr, refl, sym, ap, ◌∙◌, subst, append_assoc, ◌==◌, arith}
use mathlib.Core.Path.{fun_ext}
use Rattle.std.specs.String.{string_bytes}
use Rattle.std.proofs.lemmas.Bool.Decides.{nat_tests}
use Rattle.std.proofs.lemmas.Bool.{cases_Bool, eqb-true, eq-eqb}
use Rattle.std.proofs.lemmas.List.{append-nil}
use Rattle.names.specs.Contents.{content_digest}
use Rattle.farm_base.specs.Receivers.{receiver}
use Rattle.names.specs.declared.limits.TheConstants.{NODES}
use Rattle.farm_base.specs.declared.message.Message.{Message}
use Rattle.farm_base.specs.declared.message.Message.TheVariants as to
use Rattle.farm_base.specs.declared.message.ToNode.{ToNode}
use Rattle.farm_base.specs.declared.message.ToNode.TheVariants as to_node
use Rattle.names.specs.declared.number.Life.{Life}
use Rattle.names.specs.declared.number.NodeId.{NodeId}
use Rattle.nodecore.specs.declared.message.NodeDone.{NodeDone}
use Rattle.nodecore.specs.Shown.{Answers, hearing, work_of}
use Rattle.nodecontents.specs.Stored.{kept_node}
use Rattle.events.specs.declared.answer.NodeRefusal.{NodeRefusal}
use Rattle.events.specs.declared.answer.NodeRefusal.TheVariants as refusal
use Rattle.protocol.specs.Farm.{farm_limits}
use Rattle.protocol.specs.Lawful.{IsNumber}
use Rattle.protocol.specs.Lists.{In, put}
use Rattle.protocol.specs.Machine.{HasPart, hello}
use Rattle.protocol.specs.Names.{Digest}
use Rattle.protocol.specs.Machine.HasPart.{Ends_part, Keeps, Leaves}
use Rattle.protocol.specs.Nodes.{Place, NodeWork, guard, nothing, received, unless_spent}
use Rattle.protocol.specs.Processes as process
use Rattle.protocol.specs.Processes.{Processes, MayReach, node_decided, NodeDoes}
use Rattle.protocol.specs.Processes.NodeDoes.{Acts, Begins_life, Loses}
use Rattle.protocol.specs.HostileProcesses.RaidHappens.{Node_does}
use Rattle.protocol.specs.HostileProcesses.RaidRuns.{Rests, Goes_on}
use Rattle.protocol.specs.World.{Node, has_life}
use Rattle.services.specs.declared.lost.Lost.{Lost}
use Rattle.services.specs.Buffers.{IsKept}
use Rattle.services.specs.Says.{Says, AreOfTheFarm}
use Rattle.services.specs.Says.Says.{Says_nothing}
use Rattle.services.specs.Served as served
use Rattle.services.specs.Served.{joined, settled_text}
use Rattle.protocol.proofs.Following.{part_refl, part_none}
use Rattle.services.proofs.SaysLemmas.{still_in, said_of, said_both, both_say}
use Rattle.services.proofs.NoteLemmas.{lost_says, unread_says}
use Rattle.nodefilter.specs.declared.filter.NodeFilter.{NodeFilter}
use Rattle.nodelines.specs.declared.order.Call.{Call}
use Rattle.nodelines.specs.declared.order.Call.TheVariants as call
use Rattle.nodelines.specs.declared.order.Order.{Order}
use Rattle.nodelines.specs.declared.order.Order.TheVariants as order
use Rattle.nodelines.proofs.OwnLemmas.{no_message}
use Rattle.words.specs.Words.{words}
use Rattle.nodefilter.specs.Asked.{AsksFor, Orders}
use Rattle.nodefilter.specs.Asked.Orders.{Heard, Own}
use Rattle.nodefilter.specs.Carried.{node_answer, forgotten_by}
use Rattle.nodefilter.specs.Filters.{IsCallOf, Makes, Follows, Filters}
use Rattle.nodefilter.specs.Filters.Filters.{Is_down, Does, Drops}
use Rattle.nodefilter.specs.Filters.Follows.{Calls, Misses, Is_large, Hands, Has_not, Tells}
use Rattle.nodefilter.specs.Filters.IsCallOf.{Itself}
use Rattle.nodefilter.specs.Filters.Makes.{Made, Stopped}
use Rattle.nodefilter.specs.Rules.{with_node, MayBecome, node_steps, sends_of, made_messages, followed_messages, line_messages, messages_of, left_of, made_node, followed_node, line_node, node_after, ABatchIsARun, AKillIsARun, AStartIsARun}
use Rattle.nodefilter.specs.States.{Seen, seen}
use Rattle.nodestore.specs.Stores.{Kept, HadBytes}
use Rattle.nodefilter.proofs.SaysLemmas.{store_fault_says, followed_says, greeting_says}
use Rattle.nodefilter.proofs.StartLemmas.{kept_stands}
use Rattle.farmwire.specs.Sealed.{Keys, key_in}

-- ---- runs of a node

-- a node went on so far, and wrote these messages; all else of the processes stays
record Went_on (p : Processes) (me : NodeId) (node : Node) (messages : List Message) (later : Processes) : Type 0 where
  runs : MayBecome me p later
  node_is : later.nodes me.0 ≡ node
  others : (n : ℕ) → n ≢ me.0 → later.nodes n ≡ p.nodes n
  coordinator : later.coordinator ≡ p.coordinator
  written : later.written ≡ p.written ++ messages

-- so these are the processes
arrives : (p later : Processes) (me : NodeId) (node : Node) (messages : List Message) → Went_on p me node messages later
    → MayBecome me p (with_node p me node messages)
arrives p later me node messages h =
    subst (λ (q : Processes). MayBecome me p q) (λ i. record { coordinator = h.coordinator i; nodes = fun_ext nodes_are i; written = h.written i }) h.runs
  where
    nodes_are : (n : ℕ) → later.nodes n ≡ put me.0 node p.nodes n
    nodes_are n = elim (cases_Bool (n == me.0)) [
      | inl same ↦ ap later.nodes (eqb-true n me.0 same) ∙ h.node_is ∙ ap (λ b. if b then node else p.nodes n) (sym same)
      | inr apart ↦ h.others n (λ e. (let yes = eq-eqb n me.0 e in cc (yes, apart))) ∙ ap (λ b. if b then node else p.nodes n) (sym apart)
    ]

stays : (p : Processes) (me : NodeId) (node : Node) → p.nodes me.0 ≡ node → Went_on p me node [] p
stays p me node is = record {
  runs = λ took honest. Rests p;
  node_is = is;
  others = λ n differs. refl;
  coordinator = refl;
  written = sym (append-nil p.written);
}

-- one more thing that it does
acts : (p q : Processes) (me : NodeId) (x y : Node) (messages more : List Message) → IsNumber NODES me → Went_on p me x messages q
    → NodeDoes content_digest farm_limits q.written me x more y → (r : Processes) × Went_on p me y (messages ++ more) r
acts p q me x y messages more number h does =
    let r : Processes = record q { nodes = put me.0 y q.nodes; written = q.written ++ more } in (
      r,
      record {
        runs = λ took honest. Goes_on p q r (h.runs took honest) (Node_does me more y number honest (subst (λ z. NodeDoes content_digest farm_limits q.written me z more y) (sym h.node_is) does));
        node_is = ap (λ b. if b then y else q.nodes me.0) (eq-eqb me.0 me.0 refl);
        others = λ n differs. other n differs ∙ h.others n differs;
        coordinator = h.coordinator;
        written = ap (λ ms. ms ++ more) h.written ∙ append_assoc p.written messages more;
      },
    )
  where
    other : (n : ℕ) → n ≢ me.0 → put me.0 y q.nodes n ≡ q.nodes n
    other n differs = elim (cases_Bool (n == me.0)) [
      | inl same ↦ absurd (differs (eqb-true n me.0 same))
      | inr apart ↦ ap (λ b. if b then y else q.nodes n) apart
    ]

moved : (p q : Processes) (me : NodeId) (x y : Node) (messages : List Message) → y ≡ x → Went_on p me x messages q → Went_on p me y messages q
moved p q me x y messages same h = subst (λ z. Went_on p me z messages q) (sym same) h

silent : (p q : Processes) (me : NodeId) (x : Node) (messages said : List Message) → said ≡ [] → Went_on p me x messages q → Went_on p me x (messages ++ said) q
silent p q me x messages said none h = subst (λ ms. Went_on p me x ms q) (sym (append-nil messages) ∙ ap (λ more. messages ++ more) (sym none)) h

-- ---- calls

-- what is written of an answer: its messages, or nothing where they are lost
abbrev AreSaid : Result NodeDone NodeRefusal → List Message → Type 0
AreSaid (Ok done) said = HasPart done.sends said
AreSaid (Err e) said = said ≡ []

-- ---- lines from outside

-- what they say to the node was written
abbrev AreHeard : Keys → NodeId → List (List ℕ) → List Message → Type 0
AreHeard keys me lines written = (line : List ℕ) (message : ToNode) → In line lines → Orders keys me line (order.Call (call.Receive message))
    → In (to.ToNode message) written

are_heard : (keys : Keys) (me : NodeId) (lines : List (List ℕ)) (written : List Message) → AreOfTheFarm keys lines written → AreHeard keys me lines written
are_heard keys me lines written farm line m i (Heard sealed at is) =
    let same : m ≡ is.mine.message = cc is.mine.asked in
    subst (λ x. In x written) (is.mine.is ∙ ap to.ToNode (sym same)) (farm sealed is.message (subst (λ l. In l lines) at i) is.opened)
are_heard keys me lines written farm line m i (Own utf asked) = absurd (no_message (words line) m asked)

-- a line that is heard was written
abbrev MayBeHeard : List Message → Call → Type 0
MayBeHeard written (call.Receive message) = In (to.ToNode message) written
MayBeHeard written (call.Ask wants) = Unit {0}
MayBeHeard written (call.Tenure folder) = Unit {0}
MayBeHeard written (call.Begin ticket) = Unit {0}
MayBeHeard written (call.Finish ticket lefts) = Unit {0}
MayBeHeard written (call.Abort ticket) = Unit {0}
MayBeHeard written call.Resend = Unit {0}
MayBeHeard written (call.Bring content) = Unit {0}
MayBeHeard written (call.Forget digest) = Unit {0}

-- of nothing nothing is a part
part_of_none : (xs said : List Message) → HasPart xs said → xs ≡ [] → said ≡ []
part_of_none xs said Ends_part none = refl
part_of_none xs said (Keeps x ys zs part) none = absurd (cc none)
part_of_none xs said (Leaves x ys zs part) none = absurd (cc none)

-- what a node does that isn't down for good
work_is : (spent : Bool) (w v : NodeWork) → guard spent refusal.LivesSpent (Ok w) ≡ Ok v → w ≡ v
work_is true w v e = absurd (cc e)
work_is false w v e = cc e

same_node : (m n : NodeId) → m.0 ≡ n.0 → m ≡ n
same_node m n e = λ i. record { 0 = e i }

-- the place of a node that is itself
place_is : (at : Place) (me : NodeId) → at.node ≡ me → at ≡ record { node = me; nodes = at.nodes }
place_is at me itself = λ i. record { node = itself i; nodes = at.nodes }

-- the rules let the node do the call so
acted : (p q : Processes) (at : Place) (me : NodeId) (x new : Node) (messages said : List Message) (c : process.NodeCall) (done : NodeDone)
    → IsNumber NODES me → at.node ≡ me → MayReach q.written me c → node_decided content_digest farm_limits at x c ≡ Ok (work_of new done)
    → Went_on p me x messages q → HasPart done.sends said → (r : Processes) × Went_on p me new (messages ++ said) r
acted p q at me x new messages said c done number itself may is h part =
    acts p q me x new messages said number h
    (Acts at.nodes c (work_of new done) said may (subst (λ a. node_decided content_digest farm_limits a x c ≡ Ok (work_of new done)) (place_is at me itself) is) part)

-- a message for this node is received, and another one ignored
heard_by : (p q : Processes) (at : Place) (me : NodeId) (x new : Node) (messages said : List Message) (m : ToNode) (done : NodeDone) (here : Bool)
    → IsNumber NODES me → at.node ≡ me → In (to.ToNode m) q.written → ((receiver m).0 == at.node.0) ≡ here → unless_spent x (hearing at x m) ≡ Ok (work_of new done)
    → Went_on p me x messages q → HasPart done.sends said → (r : Processes) × Went_on p me new (messages ++ said) r
heard_by p q at me x new messages said m done true number itself written here is h part =
    acted p q at me x new messages said (process.Receive m) done number itself
    (written, same_node (receiver m) me (eqb-true (receiver m).0 at.node.0 here ∙ ap (λ (n : NodeId). n.0) itself))
    (ap (λ b. unless_spent x (if b then received content_digest farm_limits at m x else nothing x)) (sym here) ∙ is) h part
heard_by p q at me x new messages said m done false number itself written apart is h part =
    let same : nothing x ≡ work_of new done = work_is x.spent (nothing x) (work_of new done) (ap (λ b. unless_spent x (if b then received content_digest farm_limits at m x else nothing x)) (sym apart) ∙ is) in
    (q, silent p q me new messages said (part_of_none done.sends said part (sym (ap (λ (w : NodeWork). w.sends) same))) (moved p q me x new messages (sym (ap (λ (w : NodeWork). w.node) same)) h))

called_so : (p q : Processes) (at : Place) (me : NodeId) (x new : Node) (messages said : List Message) (c : Call) (done : NodeDone)
    → IsNumber NODES me → at.node ≡ me → MayBeHeard q.written c → node_answer me at x c ≡ Ok (work_of new done)
    → Went_on p me x messages q → HasPart done.sends said → (r : Processes) × Went_on p me new (messages ++ said) r
called_so p q at me x new messages said (call.Receive m) done number itself may is h part =
    heard_by p q at me x new messages said m done ((receiver m).0 == at.node.0) number itself may refl is h part
called_so p q at me x new messages said (call.Bring content) done number itself may is h part =
    acted p q at me x new messages said (process.Bring content) done number itself tt
    (ap (λ b. unless_spent x (if b then received content_digest farm_limits at (to_node.Blob me content) x else nothing x)) (sym (eq-eqb me.0 at.node.0 (ap (λ (n : NodeId). n.0) (sym itself)))) ∙ is) h part
called_so p q at me x new messages said (call.Ask wants) done number itself may is h part = acted p q at me x new messages said (process.Ask_lease wants) done number itself tt is h part
called_so p q at me x new messages said (call.Tenure folder) done number itself may is h part = acted p q at me x new messages said (process.Ask_tenure folder) done number itself tt is h part
called_so p q at me x new messages said (call.Begin ticket) done number itself may is h part = acted p q at me x new messages said (process.Begin ticket) done number itself tt is h part
called_so p q at me x new messages said (call.Finish ticket lefts) done number itself may is h part = acted p q at me x new messages said (process.Finish ticket lefts) done number itself tt is h part
called_so p q at me x new messages said (call.Abort ticket) done number itself may is h part = acted p q at me x new messages said (process.Abort ticket) done number itself tt is h part
called_so p q at me x new messages said call.Resend done number itself may is h part = acted p q at me x new messages said process.Resend done number itself tt is h part
called_so p q at me x new messages said (call.Forget digest) done number itself may is h part = acted p q at me x new messages said (process.Forget digest) done number itself tt is h part

call_done : (p q : Processes) (at : Place) (me : NodeId) (x new : Node) (messages said : List Message) (c : Call) (answer : Result NodeDone NodeRefusal)
    → IsNumber NODES me → at.node ≡ me → MayBeHeard q.written c → Answers (node_answer me at x c) x new answer
    → Went_on p me x messages q → AreSaid answer said → (r : Processes) × Went_on p me new (messages ++ said) r
call_done p q at me x new messages said c (Ok done) number itself may is h part = called_so p q at me x new messages said c done number itself may is h part
call_done p q at me x new messages said c (Err refusal.OutOfMemory) number itself may is h none = (q, silent p q me new messages said none (moved p q me x new messages is h))
call_done p q at me x new messages said c (Err refusal.NotHomeHere) number itself may is h none = (q, silent p q me new messages said none (moved p q me x new messages is.1 h))
call_done p q at me x new messages said c (Err refusal.NoSuchTicket) number itself may is h none = (q, silent p q me new messages said none (moved p q me x new messages is.1 h))
call_done p q at me x new messages said c (Err refusal.ContentsMissing) number itself may is h none = (q, silent p q me new messages said none (moved p q me x new messages is.1 h))
call_done p q at me x new messages said c (Err refusal.WrongNews) number itself may is h none = (q, silent p q me new messages said none (moved p q me x new messages is.1 h))
call_done p q at me x new messages said c (Err refusal.NotRunning) number itself may is h none = (q, silent p q me new messages said none (moved p q me x new messages is.1 h))
call_done p q at me x new messages said c (Err refusal.LivesSpent) number itself may is h none = (q, silent p q me new messages said none (moved p q me x new messages is.1 h))
call_done p q at me x new messages said c (Err refusal.AsksSpent) number itself may is h none = (q, silent p q me new messages said none (moved p q me x new messages is.1 h))
call_done p q at me x new messages said c (Err refusal.TenureHere) number itself may is h none = (q, silent p q me new messages said none (moved p q me x new messages is.1 h))
call_done p q at me x new messages said c (Err refusal.TenureInUse) number itself may is h none = (q, silent p q me new messages said none (moved p q me x new messages is.1 h))
call_done p q at me x new messages said c (Err refusal.NoSuchContent) number itself may is h none = (q, silent p q me new messages said none (moved p q me x new messages is.1 h))
call_done p q at me x new messages said c (Err refusal.Needed) number itself may is h none = (q, silent p q me new messages said none (moved p q me x new messages is.1 h))

-- ---- lines

are_said : (lost down : Bool) (answer : Result NodeDone NodeRefusal) → AreSaid answer (said_of lost (sends_of down answer))
are_said true down (Ok done) = part_none done.sends
are_said true down (Err e) = refl
are_said false true (Ok done) = part_none done.sends
are_said false true (Err e) = refl
are_said false false (Ok done) = part_refl done.sends
are_said false false (Err e) = refl

none_said : (lost : Bool) (answer : Result NodeDone NodeRefusal) → AreSaid answer (said_of lost [])
none_said true (Ok done) = part_none done.sends
none_said true (Err e) = refl
none_said false (Ok done) = part_none done.sends
none_said false (Err e) = refl

-- where the filter is down nothing of the call is said
said_none : (lost down : Bool) (answer : Result NodeDone NodeRefusal) → down ≡ true → said_of lost (sends_of down answer) ≡ []
said_none true down answer is = refl
said_none false true answer is = refl
said_none false false answer is = absurd (cc is)

none_more : (lost : Bool) → said_of lost [] ≡ []
none_more true = refl
none_more false = refl

-- the node that a call leaves, which may be the one before it
left_goes : (gone : Option Digest) (down : Bool) (p q : Processes) (me : NodeId) (x new : Node) (messages said : List Message) → (down ≡ true → said ≡ [])
    → Went_on p me x messages q → (r : Processes) × Went_on p me new (messages ++ said) r → (r : Processes) × Went_on p me (left_of gone down x new) (messages ++ said) r
left_goes (Some digest) true p q me x new messages said none h done = (q, silent p q me x messages said (none refl) h)
left_goes (Some digest) false p q me x new messages said none h done = done
left_goes None down p q me x new messages said none h done = done

left_is : (gone : Option Digest) (down : Bool) (x new : Node) → down ≡ false → left_of gone down x new ≡ new
left_is (Some digest) true x new up = absurd (cc up)
left_is (Some digest) false x new up = refl
left_is None down x new up = refl

-- a line was answered, and these are the messages so far, and the node then
record Goes {S : Type 0} (p : Processes) (messages : List Message) (node : Node) (old new : Seen S) : Type 0 where
  later : Processes
  went_on : Went_on p old.me node messages later
  node_is : new.down ≡ false → node ≡ new.node
  me_is : new.me ≡ old.me
  at_is : new.at ≡ old.at
  key_is : new.keys ≡ old.keys

-- while the filter is up, its state is this node
abbrev IsAt : {S : Type 0} → Node → Seen S → Type 0
IsAt x f = f.down ≡ false → x ≡ f.node

quiet : {S : Type 0} (p q : Processes) (messages : List Message) (lost : Bool) (x : Node) (old new : Seen S) → new ≡ old → IsAt x old → Went_on p old.me x messages q → Goes p (messages ++ said_of lost []) x old new
quiet {S} p q messages lost x old new same at h = record {
  later = q;
  went_on = silent p q old.me x messages (said_of lost []) (none_more lost) h;
  node_is = λ up. at (sym (ap (λ (f : Seen S). f.down) same) ∙ up) ∙ sym (ap (λ (f : Seen S). f.node) same);
  me_is = ap (λ f. f.me) same;
  at_is = ap (λ f. f.at) same;
  key_is = ap (λ f. f.keys) same;
}

made_goes : {S : Type 0} (kept : Kept S) (last_life : S → ℕ) (p q : Processes) (messages : List Message) (lost : Bool) (c : Call) (answer : List ℕ) (x : Node) (old new : Seen S) → IsNumber NODES old.me → old.at.node ≡ old.me
    → old.down ≡ false → MayBeHeard q.written c → (f : Makes kept last_life c old new answer) → IsAt x old → Went_on p old.me x messages q → Goes p (messages ++ said_of lost (made_messages f)) (made_node x f) old new
made_goes kept last_life p q messages lost c answer x old new number itself up may (Made done carries (inl written)) at h =
    let said : List Message = said_of lost (sends_of new.down done) in
    let went = call_done p q old.at old.me old.node new.node messages said c done number itself may carries.done (moved p q old.me x old.node messages (sym (at up)) h) (are_said lost new.down done) in
    let result = left_goes (forgotten_by c) new.down p q old.me x new.node messages said (said_none lost new.down done) h went in
    record {
      later = result.0;
      went_on = result.1;
      node_is = left_is (forgotten_by c) new.down x new.node;
      me_is = ap (λ f. f.me) carries.same;
      at_is = ap (λ f. f.at) carries.same;
      key_is = ap (λ f. f.keys) carries.same;
    }
made_goes kept last_life p q messages lost c answer x old new number itself up may (Made done carries (inr out)) at h =
    let went = call_done p q old.at old.me old.node new.node messages (said_of lost []) c done number itself may carries.done (moved p q old.me x old.node messages (sym (at up)) h) (none_said lost done) in
    let result = left_goes (forgotten_by c) new.down p q old.me x new.node messages (said_of lost []) (λ down. none_more lost) h went in
    record {
      later = result.0;
      went_on = result.1;
      node_is = left_is (forgotten_by c) new.down x new.node;
      me_is = ap (λ f. f.me) carries.same;
      at_is = ap (λ f. f.at) carries.same;
      key_is = ap (λ f. f.keys) carries.same;
    }
made_goes kept last_life p q messages lost c answer x old new number itself up may (Stopped same out) at h = quiet p q messages lost x old new same at h

-- what is handed on is the line
line_given : (limit : ℕ) (keys : Keys) (line : List ℕ) (me : NodeId) (given : Result (List ℕ) Lost) (o : Order) → IsKept limit line given → AsksFor keys me given o → Orders keys me line o
line_given limit keys line me (Ok text) o kept asks = subst (λ t. Orders keys me t o) kept.1 asks
line_given limit keys line me (Err lost) o kept asks = absurd asks

may_be_heard : (Had : List ℕ → List ℕ → Type 0) (keys : Keys) (line : List ℕ) (me : NodeId) (written : List Message) (o : Order) (c : Call) → ((message : ToNode) → Orders keys me line (order.Call (call.Receive message)) → In (to.ToNode message) written)
    → Orders keys me line o → IsCallOf Had o c → MayBeHeard written c
may_be_heard Had keys line me written o (call.Receive m) heard asks (Itself x) = heard m asks
may_be_heard Had keys line me written o (call.Ask wants) heard asks is = tt
may_be_heard Had keys line me written o (call.Tenure folder) heard asks is = tt
may_be_heard Had keys line me written o (call.Begin ticket) heard asks is = tt
may_be_heard Had keys line me written o (call.Finish ticket lefts) heard asks is = tt
may_be_heard Had keys line me written o (call.Abort ticket) heard asks is = tt
may_be_heard Had keys line me written o call.Resend heard asks is = tt
may_be_heard Had keys line me written o (call.Bring content) heard asks is = tt
may_be_heard Had keys line me written o (call.Forget digest) heard asks is = tt

followed_goes : {S : Type 0} (kept : Kept S) (last_life : S → ℕ) (had : HadBytes S) (limit : ℕ) (p q : Processes) (messages : List Message) (lost : Bool) (line answer : List ℕ) (given : Result (List ℕ) Lost) (o : Order) (x : Node) (old new : Seen S)
    → IsNumber NODES old.me → old.at.node ≡ old.me → old.down ≡ false → ((message : ToNode) → Orders old.keys old.me line (order.Call (call.Receive message)) → In (to.ToNode message) q.written)
    → IsKept limit line given → AsksFor old.keys old.me given o → (f : Follows kept last_life had o old new answer) → IsAt x old → Went_on p old.me x messages q → Goes p (messages ++ said_of lost (followed_messages f)) (followed_node x f) old new
followed_goes kept last_life had limit p q messages lost line answer given o x old new number itself up heard is asks (Calls c call_is makes) at h =
    made_goes kept last_life p q messages lost c answer x old new number itself up (may_be_heard (had old.store) old.keys line old.me q.written o c heard (line_given limit old.keys line old.me given o is asks) call_is) makes at h
followed_goes kept last_life had limit p q messages lost line answer given o x old new number itself up heard is asks (Misses file same text) at h = quiet p q messages lost x old new same at h
followed_goes kept last_life had limit p q messages lost line answer given o x old new number itself up heard is asks (Is_large large same text) at h = quiet p q messages lost x old new same at h
followed_goes kept last_life had limit p q messages lost line answer given o x old new number itself up heard is asks (Hands digest file content o_is stored written same text) at h = quiet p q messages lost x old new same at h
followed_goes kept last_life had limit p q messages lost line answer given o x old new number itself up heard is asks (Has_not digest file o_is none same text) at h = quiet p q messages lost x old new same at h
followed_goes kept last_life had limit p q messages lost line answer given o x old new number itself up heard is asks (Tells ask o_is same text) at h = quiet p q messages lost x old new same at h

line_goes : {S : Type 0} (kept : Kept S) (last_life : S → ℕ) (had : HadBytes S) (limit : ℕ) (p q : Processes) (messages : List Message) (lost : Bool) (line answer : List ℕ) (given : Result (List ℕ) Lost) (x : Node) (old new : Seen S)
    → IsNumber NODES old.me → old.at.node ≡ old.me → ((message : ToNode) → Orders old.keys old.me line (order.Call (call.Receive message)) → In (to.ToNode message) q.written)
    → IsKept limit line given → (f : Filters kept last_life had given answer old new) → IsAt x old → Went_on p old.me x messages q → Goes p (messages ++ said_of lost (line_messages f)) (line_node x f) old new
line_goes kept last_life had limit p q messages lost line answer given x old new number itself heard is (Is_down down same text) at h = quiet p q messages lost x old new same at h
line_goes kept last_life had limit p q messages lost line answer given x old new number itself heard is (Does o up asks follows) at h =
    followed_goes kept last_life had limit p q messages lost line answer given o x old new number itself up heard is asks follows at h
line_goes kept last_life had limit p q messages lost line answer given x old new number itself heard is (Drops why up nothing_asked same text) at h = quiet p q messages lost x old new same at h

-- all lines of a batch
lines_go : {S : Type 0} (kept : Kept S) (last_life : S → ℕ) (had : HadBytes S) (limit : ℕ) (p q : Processes) (messages : List Message) (lost : Bool) (x : Node) (lines answers : List (List ℕ)) (old new : NodeFilter S)
    → IsNumber NODES (seen old).me → (seen old).at.node ≡ (seen old).me → AreHeard (seen old).keys (seen old).me lines p.written
    → (h : served.Answers (node_steps kept last_life had) limit old lines answers new) → IsAt x (seen old) → Went_on p (seen old).me x messages q
    → (later : Processes) × Went_on p (seen old).me (node_after kept last_life had limit old new x lines answers h) (messages ++ said_of lost (messages_of kept last_life had limit old new lines answers h)) later
    × IsAt (node_after kept last_life had limit old new x lines answers h) (seen new)
lines_go kept last_life had limit p q messages lost x [] [] old new number itself heard h at w =
    (q, silent p q (seen old).me x messages (said_of lost []) (none_more lost) w, subst (λ f. IsAt x (seen f)) h at)
lines_go kept last_life had limit p q messages lost x [] (a ∷ answers) old new number itself heard h at w = absurd h
lines_go kept last_life had limit p q messages lost x (l ∷ lines) [] old new number itself heard h at w = absurd h
lines_go kept last_life had limit p q messages lost x (l ∷ lines) (a ∷ answers) old new number itself heard h at w =
    let mid = h.1 in
    let said : List Message = said_of lost (line_messages h.3) in
    let more : List Message = messages_of kept last_life had limit mid new lines answers h.4 in
    let y : Node = line_node x h.3 in
    let z : Node = node_after kept last_life had limit mid new y lines answers h.4 in
    let first = line_goes kept last_life had limit p q messages lost l a h.0 x (seen old) (seen mid) number itself
    (λ m asks. subst (In (to.ToNode m)) (sym w.written) (still_in (to.ToNode m) p.written messages (heard l m (inl refl) asks))) h.2 h.3 at w in
    let me_is = first.me_is in
    let rest = lines_go kept last_life had limit p first.later (messages ++ said) lost y lines answers mid new (subst (IsNumber NODES) (sym me_is) number)
    (ap (λ at. at.node) first.at_is ∙ itself ∙ sym me_is)
    (λ line m i asks. heard line m (inr i) (subst (λ k. Orders k (seen old).me line (order.Call (call.Receive m))) first.key_is (subst (λ n. Orders (seen mid).keys n line (order.Call (call.Receive m))) me_is asks)))
    h.4 first.node_is (subst (λ n. Went_on p n y (messages ++ said) first.later) (sym me_is) first.went_on) in (
      rest.0,
      subst (λ ms. Went_on p (seen old).me z ms rest.0) (append_assoc messages said (said_of lost more) ∙ ap (λ ms. messages ++ ms) (said_both lost (line_messages h.3) more))
          (subst (λ n. Went_on p n z ((messages ++ said) ++ said_of lost more) rest.0) me_is rest.1),
      rest.2,
    )

-- what is written says them
line_says : {S : Type 0} (kept : Kept S) (last_life : S → ℕ) (had : HadBytes S) (given : Result (List ℕ) Lost) (answer : List ℕ) (old new : Seen S) → (f : Filters kept last_life had given answer old new) → Says old.keys (line_messages f) answer
line_says kept last_life had given answer old new (Is_down down same (inl text)) = subst (Says old.keys []) (sym text) (store_fault_says old.keys)
line_says kept last_life had given answer old new (Is_down down same (inr out)) = subst (Says old.keys []) (sym out) (lost_says old.keys)
line_says kept last_life had given answer old new (Does o up asks follows) = followed_says kept last_life had o answer old new follows
line_says kept last_life had given answer old new (Drops why up nothing_asked same (inl text)) = subst (Says old.keys []) (sym text) (unread_says old.keys why)
line_says kept last_life had given answer old new (Drops why up nothing_asked same (inr out)) = subst (Says old.keys []) (sym out) (lost_says old.keys)

key_stays : {S : Type 0} (kept : Kept S) (last_life : S → ℕ) (had : HadBytes S) (given : Result (List ℕ) Lost) (answer : List ℕ) (old new : Seen S) → Filters kept last_life had given answer old new → new.keys ≡ old.keys
key_stays kept last_life had given answer old new (Is_down down same text) = ap (λ f. f.keys) same
key_stays kept last_life had given answer old new (Does o up asks (Calls c is (Made done carries text))) = ap (λ f. f.keys) carries.same
key_stays kept last_life had given answer old new (Does o up asks (Calls c is (Stopped same out))) = ap (λ f. f.keys) same
key_stays kept last_life had given answer old new (Does o up asks (Misses file same text)) = ap (λ f. f.keys) same
key_stays kept last_life had given answer old new (Does o up asks (Is_large large same text)) = ap (λ f. f.keys) same
key_stays kept last_life had given answer old new (Does o up asks (Hands digest file content is stored written same text)) = ap (λ f. f.keys) same
key_stays kept last_life had given answer old new (Does o up asks (Has_not digest file is none same text)) = ap (λ f. f.keys) same
key_stays kept last_life had given answer old new (Does o up asks (Tells ask is same text)) = ap (λ f. f.keys) same
key_stays kept last_life had given answer old new (Drops why up nothing_asked same text) = ap (λ f. f.keys) same

lines_say : {S : Type 0} (kept : Kept S) (last_life : S → ℕ) (had : HadBytes S) (limit : ℕ) (lines answers : List (List ℕ)) (old new : NodeFilter S) → (h : served.Answers (node_steps kept last_life had) limit old lines answers new)
    → Says (seen old).keys (messages_of kept last_life had limit old new lines answers h) (joined answers)
lines_say kept last_life had limit [] [] old new h = Says_nothing
lines_say kept last_life had limit [] (a ∷ answers) old new h = absurd h
lines_say kept last_life had limit (l ∷ lines) [] old new h = absurd h
lines_say kept last_life had limit (l ∷ lines) (a ∷ answers) old new h =
    let rest = lines_say kept last_life had limit lines answers h.1 new h.4 in
    both_say (seen old).keys (line_messages h.3) (messages_of kept last_life had limit h.1 new lines answers h.4) a (joined answers) (line_says kept last_life had h.0 a (seen old) (seen h.1) h.3)
    (subst (λ k. Says k (messages_of kept last_life had limit h.1 new lines answers h.4) (joined answers)) (key_stays kept last_life had h.0 a (seen old) (seen h.1) h.3) rest)

-- ---- batches

pub a_batch_is_a_run : {S : Type 0} (kept : Kept S) (last_life : S → ℕ) (had : HadBytes S) → ABatchIsARun kept last_life had
a_batch_is_a_run kept last_life had limit lines text old new p is heard b =
    let said : List Message = messages_of kept last_life had limit old b.answered_to lines b.answers b.answered in
    let x : Node = p.nodes (seen old).me.0 in
    let left : Node = node_after kept last_life had limit old b.answered_to x lines b.answers b.answered in
    let goes = lines_go kept last_life had limit p p [] false x lines b.answers old b.answered_to is.number is.itself (are_heard (seen old).keys (seen old).me lines p.written heard) b.answered is.node (stays p (seen old).me x refl) in
    let same : new ≡ b.answered_to = b.made.1 in (
      arrives p goes.0 (seen old).me left said goes.1,
      subst (Says (seen old).keys said) (sym (b.text_is ∙ ap (λ s. settled_text s b.answers) b.made.0)) (lines_say kept last_life had limit lines b.answers old b.answered_to b.answered),
      subst (λ f. IsAt left (seen f)) (sym same) goes.2,
    )

pub a_kill_is_a_run : {S : Type 0} (kept : Kept S) (last_life : S → ℕ) (had : HadBytes S) → AKillIsARun kept last_life had
a_kill_is_a_run kept last_life had limit lines answers old new p is heard h =
    let x : Node = p.nodes (seen old).me.0 in
    let goes = lines_go kept last_life had limit p p [] true x lines answers old new is.number is.itself (are_heard (seen old).keys (seen old).me lines p.written heard) h is.node (stays p (seen old).me x refl) in
    let left : Node = node_after kept last_life had limit old new x lines answers h in
    arrives p goes.0 (seen old).me left [] goes.1

-- ---- the next life

-- a restart isn't after the greatest life
below : (a b : ℕ) → nat_lt a b ≡ true → a + 1 ≤ b
below a b h = let less : a < b = grind (arith, nat_tests) in omega (arith, less)

pub a_start_is_a_run : {S : Type 0} (kept : Kept S) (last_life : S → ℕ) (had : HadBytes S) → AStartIsARun kept last_life had
a_start_is_a_run kept last_life had origin started p left begins =
    let me : NodeId = origin.me in
    let x : Node = p.nodes me.0 in
    let had : Node = kept_node origin.last origin.contents.items [] in
    let less : Node = record x { store = had.store; known = had.known } in
    let life : Life = record { 0 = origin.last.0 + 1 } in
    let greeting : List Message = hello me life ∷ [] in
    let loses = acts p p me x less [] [] left.number (stays p me x refl)
    (Loses had.store had.known (kept_stands x.store origin.contents.items left.found left.empty) (λ s number d none. absurd (cc none))) in
    let lives = acts p loses.0 me less (has_life less life.0) [] greeting left.number loses.1
    (Begins_life life greeting left.goes_on (omega (arith, left.last)) (below origin.last.0 farm_limits.greatest begins.in_range) (part_refl greeting)) in
    let lived : has_life less life.0 ≡ has_life had life.0 = λ i. record { life = life; asks = []; store = had.store; known = had.known; spent = left.goes_on i } in
    let is_node : (seen started.filter).node ≡ has_life less life.0 = sym (lived ∙ ap (λ (w : NodeWork). w.node) begins.begun) in
    let sends : greeting ≡ begins.done.sends = ap (λ (w : NodeWork). w.sends) begins.begun in (
      arrives p lives.0 me (seen started.filter).node begins.done.sends
          (subst (λ ms. Went_on p me (seen started.filter).node ms lives.0) sends (moved p lives.0 me (has_life less life.0) (seen started.filter).node greeting is_node lives.1)),
      greeting_says (key_in origin.keys) origin.skipped.items begins.done (string_bytes started.greeting) begins.written,
    )
