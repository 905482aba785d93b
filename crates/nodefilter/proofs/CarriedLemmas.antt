-- What a call leaves.
use Rattle.std.proofs.Common.{◌≡◌, ℕ, Bool, true, false, not, List, inl, inr, Option, Some, None, Result, Ok, Err, refl, subst, arith}
use Rattle.std.specs.Result.{is_ok}
use Rattle.nodecore.specs.declared.message.NodeDone.{NodeDone}
use Rattle.nodecore.specs.Shown.{Answers}
use Rattle.events.specs.declared.answer.NodeRefusal.{NodeRefusal}
use Rattle.events.specs.declared.answer.NodeRefusal.TheVariants as refusal
use Rattle.protocol.specs.Names.{Digest}
use Rattle.protocol.specs.Nodes.{NodeAnswer}
use Rattle.protocol.specs.World.{Node}
use Rattle.nodelines.specs.declared.order.Call.{Call}
use Rattle.nodelines.specs.declared.order.Call.TheVariants as call
use Rattle.nodefilter.specs.Carried.{node_answer, brought_by, forgotten_by}
use Rattle.nodefilter.specs.States.{Seen, AreKept, IsSound}
use Rattle.nodestore.specs.Stores.{Kept, StayKept, AllKept}
use Rattle.nodefilter.proofs.GainLemmas.{gains, goes}

-- what is refused leaves the node as it was
pub refused_same : (answer : NodeAnswer) (old new : Node) (e : NodeRefusal) → Answers answer old new (Err e) → new ≡ old
refused_same answer old new refusal.NotHomeHere h = h.1
refused_same answer old new refusal.NoSuchTicket h = h.1
refused_same answer old new refusal.ContentsMissing h = h.1
refused_same answer old new refusal.WrongNews h = h.1
refused_same answer old new refusal.NotRunning h = h.1
refused_same answer old new refusal.LivesSpent h = h.1
refused_same answer old new refusal.AsksSpent h = h.1
refused_same answer old new refusal.OutOfMemory h = h
refused_same answer old new refusal.TenureHere h = h.1
refused_same answer old new refusal.TenureInUse h = h.1
refused_same answer old new refusal.NoSuchContent h = h.1
refused_same answer old new refusal.Needed h = h.1

-- where what the call brings is kept, all that the node stores is
stays_kept : {S : Type 0} (kept : Kept S) (c : Call) (old new : Seen S) (done : NodeDone)
    → Answers (node_answer old.me old.at old.node c) old.node new.node (Ok done)
    → StayKept kept (forgotten_by c) old.store new.store → AllKept kept new.node.store (brought_by c) new.store → AreKept kept old → AreKept kept new
stays_kept kept c old new done h stay each sound d content is apart =
    let gained = gains old.me old.at old.node c _ h d content is in
    elim gained [
      | inl was ↦ stay d (λ gone. (let none = goes old.me old.at old.node c _ h d gone in absurd (cc (none, is)))) (sound d content was apart)
      | inr brought ↦ each d content brought is
    ]

-- what is refused changes nothing
same_kept : {S : Type 0} (kept : Kept S) (old new : Seen S) → new.node ≡ old.node → new.store ≡ old.store → AreKept kept old → AreKept kept new
same_kept kept old new node store sound d content is apart =
    rw store (sound d content (subst (λ (x : Node). x.store d ≡ Some content) node is) apart)

-- a call that forgets brings nothing
pub each_kept : {S : Type 0} (kept : Kept S) (c : Call) (store : Digest → Option (List ℕ)) (s : S) → (forgotten_by c ≡ None → AllKept kept store (brought_by c) s) → AllKept kept store (brought_by c) s
each_kept kept (call.Receive message) store s each = each refl
each_kept kept (call.Ask wants) store s each = each refl
each_kept kept (call.Tenure folder) store s each = each refl
each_kept kept (call.Begin ticket) store s each = each refl
each_kept kept (call.Finish ticket lefts) store s each = each refl
each_kept kept (call.Abort ticket) store s each = each refl
each_kept kept call.Resend store s each = each refl
each_kept kept (call.Bring content) store s each = each refl
each_kept kept (call.Forget digest) store s each = λ d content is_in is. (let none = is_in.1 in absurd (omega (arith, none)))

pub not_false : (b : Bool) → not b ≡ false → b ≡ true
not_false true is = refl
not_false false is = absurd (cc is)

pub not_true : (b : Bool) → not b ≡ true → b ≡ false
not_true true is = absurd (cc is)
not_true false is = refl

-- a filter that is up stays sound
pub stays_sound : {S : Type 0} (kept : Kept S) (c : Call) (old new : Seen S) (answer : Result NodeDone NodeRefusal) (fine : Bool)
    → Answers (node_answer old.me old.at old.node c) old.node new.node answer
    → StayKept kept (forgotten_by c) old.store new.store
    → (fine ≡ true → is_ok answer ≡ true → AllKept kept new.node.store (brought_by c) new.store)
    → (is_ok answer ≡ false → new.store ≡ old.store)
    → new.down ≡ not fine → old.down ≡ false → IsSound kept old → IsSound kept new
stays_sound kept c old new answer false h stay each idle down up sound e = cc (down, e)
stays_sound kept c old new (Ok done) true h stay each idle down up sound e = stays_kept kept c old new done h stay (each refl refl) (sound up)
stays_sound kept c old new (Err refusal) true h stay each idle down up sound e =
    same_kept kept old new (refused_same _ _ _ refusal h) (idle refl) (sound up)
