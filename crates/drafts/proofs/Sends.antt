-- How many messages one message makes the coordinator send.
use Rattle.std.proofs.Common.{◌≡◌, ℕ, ◌+◌, ◌≤◌, Bool, true, false, not, ◌&&◌, ◌||◌, cond, nat_lt, List, [], ◌∷◌, length, filter, Option, Some, None, arith}
use Rattle.std.proofs.lemmas.List.{length_push}
use Rattle.std.specs.List.{find, list_any}
use Rattle.farm_base.specs.declared.message.Request.{Request}
use Rattle.farm_base.specs.declared.message.Request.TheVariants.{Hello, Acquire, Commit, Release}
use Rattle.farm_base.specs.declared.message.FromCoord.TheVariants as told
use Rattle.protocol.specs.Lists.{is_nil}
use Rattle.protocol.specs.Names.{NodeId, Life, Ticket}
use Rattle.protocol.specs.Machine.{ToCoord, Parked, News}
use Rattle.protocol.specs.Ledger.{Limits, Ledger, Work, Lease, begin_work, decision, gives, denies, carried_out, waits, tried, stays, try_all, waiting, retried, recall, recalls, elsewhere, holds_wanted, decided, lease_of, is_parked, grant_of, acquiring, may_commit, may_release, lease_under, commits, confirms, answered, committing, on_all, released, ends, answering, is_older, is_older_ask, is_home, sees, newer_life, handled}
use Rattle.events.specs.declared.answer.Decision.{Decision}
use Rattle.events.specs.declared.answer.Decision.TheVariants.{Give, Deny, Wait}

-- one message more
gives_one : (k : Limits) (p : Parked) (w : Work) → length (gives k p w).sends ≡ length w.sends + 1
unfolding gives
gives_one k p w = length_push w.sends _

denies_one : (k : Limits) (why : _) (p : Parked) (w : Work) → length (denies why p w).sends ≡ length w.sends + 1
denies_one k why p w = length_push w.sends _

at_most_one : (b : Bool) → cond b 1 0 ≤ 1
at_most_one true = omega arith
at_most_one false = omega arith

-- an ask that makes it say something doesn't stay

carried_few : (d : Decision) (k : Limits) (p : Parked) (w : Work) → length (carried_out k d p w).sends + cond (waits d) 1 0 ≤ length w.sends + 1
carried_few Give k p w = omega (arith, gives_one k p w)
carried_few (Deny why) k p w = omega (arith, denies_one k why p w)
carried_few Wait k p w = omega arith

tried_few : (k : Limits) (p : Parked) (w : Work) → length (tried k p w).sends + cond (stays k p w) 1 0 ≤ length w.sends + 1
unfolding tried stays
tried_few k p w = carried_few (decision k w.ledger p) k p w

kept_length : (b : Bool) (p : Parked) (ps : List Parked) → length (cond b (p ∷ ps) ps) ≡ length ps + cond b 1 0
kept_length true p ps = omega arith
kept_length false p ps = omega arith

all_few : (k : Limits) (ps : List Parked) (w : Work) → length (try_all k ps w).sends + length (waiting k ps w) ≤ length w.sends + length ps
all_few k [] w = omega arith
all_few k (p ∷ ps) w = omega (arith, all_few k ps (tried k p w), tried_few k p w, kept_length (stays k p w) p (waiting k ps (tried k p w)))

-- what was said and the asks that wait, together
abbrev pub weight : Work → ℕ
weight w = length w.sends + length w.ledger.parked

-- trying the parked asks adds nothing to it
pub retried_few : (k : Limits) (w : Work) → weight (retried k w) ≤ weight w
unfolding retried
retried_few k w = all_few k w.ledger.parked w

-- Acquire

recall_few : (o : Option Lease) (w : Work) → length (recall o w).sends ≤ length w.sends + 1
recall_few None w = omega arith
recall_few (Some g) w = omega (arith, length_push w.sends (told.Recall g.node g.life g.ticket))

recalls_few : (b : Bool) (p : Parked) (w : Work) → length (recalls b p w).sends ≤ length w.sends + 1
recalls_few true p w = recall_few (find (holds_wanted p) w.ledger.live) w
recalls_few false p w = omega arith

decided_few : (d : Decision) (k : Limits) (p : Parked) (w : Work) → length (decided k d p w).sends ≤ length w.sends + 1
decided_few Give k p w = omega (arith, gives_one k p w)
decided_few (Deny why) k p w = omega (arith, denies_one k why p w)
decided_few Wait k p w = recalls_few (p.tenure && not (elsewhere w.ledger p)) p w

acquiring_few : (k : Limits) (o : Option Lease) (b : Bool) (p : Parked) (w : Work) → length (acquiring k o b p w).sends ≤ length w.sends + 1
acquiring_few k (Some g) b p w = omega (arith, length_push w.sends (told.Granted (grant_of k.empty w.ledger.line g)))
acquiring_few k None true p w = omega arith
acquiring_few k None false p w = decided_few (decision k w.ledger p) k p w

-- Commit and Release

answered_few : (b : Bool) (n : NodeId) (l : Life) (t : Ticket) (news : List News) (w : Work) → length (answered b n l t news w).sends ≡ length w.sends + 1
answered_few true n l t news w = length_push w.sends _
answered_few false n l t news w = length_push w.sends _

committing_few : (k : Limits) (b : Bool) (n : NodeId) (l : Life) (t : Ticket) (news : List News) (w : Work) → length (committing k b n l t news w).sends ≤ weight w + 1
committing_few k true n l t news w =
    let v = confirms n l t news (commits t news w) in
    let said : length v.sends ≡ length w.sends + 1 = length_push w.sends _ in
    omega (arith, retried_few k v, said)
committing_few k false n l t news w = omega (arith, answered_few (not (is_nil news) && on_all w.ledger.line t news) n l t news w)

released_few : (k : Limits) (b : Bool) (t : Ticket) (o : Option Lease) (w : Work) → length (released k b t o w).sends ≤ weight w
released_few k b t None w = omega arith
released_few k false t (Some g) w = omega arith
released_few k true t (Some g) w = omega (arith, retried_few k (ends g w))

answering_few : (k : Limits) (n : NodeId) (l : Life) (r : Request) (w : Work) → length (answering k n l r w).sends ≤ weight w + 1
answering_few k n l Hello w = omega arith
answering_few k n l (Acquire a wants tenure) w =
    omega (arith, acquiring_few k (lease_of w.ledger.live n l a) (is_parked w.ledger.parked n l a) (record { node = n; life = l; ask = a; wants = wants; tenure = tenure }) w)
answering_few k n l (Commit t news) w = committing_few k (may_commit n l news (lease_under w.ledger.live t)) n l t news w
answering_few k n l (Release t) w = omega (arith, released_few k (may_release n l (lease_under w.ledger.live t)) t (lease_under w.ledger.live t) w)

-- a newer life

pub filter_length : (test : Parked → Bool) (ps : List Parked) → length (filter test ps) ≤ length ps
filter_length test [] = omega arith
filter_length test (p ∷ ps) = omega (arith, kept_length (test p) p (filter test ps), at_most_one (test p), filter_length test ps)

sees_few : (n : NodeId) (l : Life) (w : Work) → weight (sees n l w) ≤ weight w
sees_few n l w = omega (arith, filter_length (λ p. not (is_older_ask n l p)) w.ledger.parked)

pub lighter : (b : Bool) (v w : Work) (n : ℕ) → weight v ≤ n → weight w ≤ n → weight (cond b v w) ≤ n
lighter true v w n h e = h
lighter false v w n h e = e

newer_few : (k : Limits) (n : NodeId) (l : Life) (w : Work) → weight (newer_life k n l w) ≤ weight w
unfolding newer_life
newer_few k n l w =
    let seen = sees_few n l w in
    lighter (list_any (is_older n l) w.ledger.live || is_home n w.ledger.old_home) (retried k (sees n l w)) (sees n l w) (weight w) (omega (arith, retried_few k (sees n l w), seen)) seen

-- a message

says_few : (b : Bool) (v w : Work) (n : ℕ) → length v.sends ≤ n → length w.sends ≤ n → length (cond b v w).sends ≤ n
says_few true v w n h e = h
says_few false v w n h e = e

-- it sends at most one for each parked ask, and one
pub handled_few : (k : Limits) (y : ToCoord) (q : Ledger) → length (handled k y (begin_work q)).sends ≤ length q.parked + 1
unfolding handled
handled_few k y q =
    let w = begin_work q in
    let same : length (answering k y.node y.life y.request w).sends ≤ length q.parked + 1 = omega (arith, answering_few k y.node y.life y.request w) in
    let newer : length (answering k y.node y.life y.request (newer_life k y.node y.life w)).sends ≤ length q.parked + 1 =
    omega (arith, answering_few k y.node y.life y.request (newer_life k y.node y.life w), newer_few k y.node y.life w) in
    says_few (q.gone y.node.0) _ _ (length q.parked + 1) (omega arith)
    (says_few (nat_lt y.life.0 (q.lives y.node.0)) _ _ (length q.parked + 1) (omega arith) (says_few (nat_lt (q.lives y.node.0) y.life.0) _ _ (length q.parked + 1) newer same))
