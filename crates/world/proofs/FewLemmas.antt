-- A call makes a node send one message at most.
use Rattle.std.proofs.Common.{◌≡◌, ℕ, ◌≤◌, Bool, true, false, not, ◌&&◌, ◌||◌, nat_lt, List, [], ◌∷◌, length, Option, Some, None, Ok, ap, subst, arith, if◌then◌else◌}
use Rattle.names.specs.Contents.{content_digest}
use Rattle.protocol.specs.Machine.{slots_of, written}
use Rattle.protocol.specs.Names.{Ticket, Want, Shared, slots_eq, digest_eq, tenure_wants}
use Rattle.protocol.specs.World.{Node, keep, without}
use Rattle.events.specs.declared.ask.KeptAsk.TheVariants.{Running}
use Rattle.protocol.specs.Nodes.{Place, Left, HeldGrant, NodeWork, NodeAnswer, guard, first, held, running, held_or_running, at_home, is_tenure_of, opens, beginning, becomes, all_stored, in_use, news_of, finishing, leaving, gives_up, aborting, is_stored, is_base, needs, brought, nothing, unless_spent}
use Rattle.events.specs.declared.answer.NodeRefusal.{NodeRefusal}
use Rattle.events.specs.declared.answer.NodeRefusal.TheVariants as refusal
use Rattle.events.specs.declared.answer.NodeNote.TheVariants as note
use Rattle.protocol.specs.Farm.{farm_limits}
use Rattle.std.specs.List.{list_any}
use Rattle.nodecore.specs.declared.message.NodeDone.{NodeDone}
use Rattle.nodecore.specs.Shown.{work_of}
use Rattle.world.specs.declared.call.Call.{Call}
use Rattle.world.specs.declared.call.Call.TheVariants as call
use Rattle.world.specs.Tables.{called}

-- a call that is refused under a test, and was done
pub guarded : (b : Bool) (e : NodeRefusal) (r : NodeAnswer) (w : NodeWork) → guard b e r ≡ Ok w → r ≡ Ok w
guarded true e r w h = absurd (cc)
guarded false e r w h = h

ok_is : (v w : NodeWork) → ◌≡◌ {A = NodeAnswer} (Ok v) (Ok w) → v ≡ w
ok_is v w h = cc

one : (v w : NodeWork) → length v.sends ≤ 1 → ◌≡◌ {A = NodeAnswer} (Ok v) (Ok w) → length w.sends ≤ 1
one v w few h = subst (λ (u : NodeWork). length u.sends ≤ 1) (ok_is v w h) few

begins_few : (t : Ticket) (x : Node) (o : Option (ℕ × HeldGrant)) (w : NodeWork) → beginning t x o ≡ Ok w → length w.sends ≤ 1
begins_few t x None w h = absurd (cc)
begins_few t x (Some (a, k)) w h =
    let v : NodeWork = record { node = becomes a (Running k.wants k.grant k.recalled) x; sends = []; note = note.Begun t } in
    one v w (omega arith) (guarded (not (all_stored x k.grant.slots)) refusal.ContentsMissing (Ok v) w h)

leaves_few : (p : Place) (a : ℕ) (k : HeldGrant) (lefts : List Left) (x : Node) → length (leaving content_digest p a k lefts x).sends ≤ 1
leaves_few p a k [] x = omega arith
leaves_few p a k (l ∷ ls) x = omega arith

finishes_few : (p : Place) (lefts : List Left) (x : Node) (o : Option (ℕ × HeldGrant)) (w : NodeWork) → finishing content_digest p lefts x o ≡ Ok w → length w.sends ≤ 1
finishes_few p lefts x None w h = absurd (cc)
finishes_few p lefts x (Some (a, k)) w h =
    let v : NodeWork = leaving content_digest p a k lefts x in
    let last : NodeAnswer = guard (not (slots_eq (slots_of (news_of content_digest lefts)) (written k.grant.slots))) refusal.WrongNews (Ok v) in
    one v w (leaves_few p a k lefts x) (guarded (not (slots_eq (slots_of (news_of content_digest lefts)) (written k.grant.slots))) refusal.WrongNews (Ok v) w (guarded (in_use x.asks a k.wants k.grant) refusal.TenureInUse last w h))

aborts_few : (p : Place) (x : Node) (o : Option (ℕ × HeldGrant)) (w : NodeWork) → aborting p x o ≡ Ok w → length w.sends ≤ 1
aborts_few p x None w h = absurd (cc)
aborts_few p x (Some (a, k)) w h =
    let v : NodeWork = gives_up p a k.grant.ticket (note.Aborted k.grant.ticket) x in
    one v w (omega arith) (guarded (in_use x.asks a k.wants k.grant) refusal.TenureInUse (Ok v) w h)

opens_few : (b c d : Bool) (e f g : NodeRefusal) (p : Place) (wants : List Want) (tenure : Bool) (x : Node) (w : NodeWork) → guard b e (guard c f (guard d g (Ok (opens p wants tenure x)))) ≡ Ok w → length w.sends ≤ 1
opens_few b c d e f g p wants tenure x w h =
    let v : NodeWork = opens p wants tenure x in
    one v w (omega arith) (guarded d g (Ok v) w (guarded c f (guard d g (Ok v)) w (guarded b e (guard c f (guard d g (Ok v))) w h)))

either_few : (b : Bool) (v w : NodeWork) → length v.sends ≤ 1 → length w.sends ≤ 1 → length (if b then v else w).sends ≤ 1
either_few true v w h k = h
either_few false v w h k = k

brings_few : (c : List ℕ) (x : Node) → length (brought content_digest c x).sends ≤ 1
brings_few c x = either_few (not (is_stored x (content_digest c)) && list_any (is_base (content_digest c)) x.asks) (record { node = record x { store = keep (content_digest c) c x.store }; sends = []; note = note.BlobTaken }) (nothing x) (omega arith) (omega arith)

called_few : (c : Call) (p : Place) (x : Node) (w : NodeWork) → called c p x ≡ Ok w → length w.sends ≤ 1
called_few (call.Ask wants) p x w h =
    opens_few x.spent (not (at_home x.asks wants)) (not (nat_lt (length x.asks) farm_limits.greatest)) refusal.LivesSpent refusal.NotHomeHere refusal.AsksSpent p wants false x w h
called_few (call.Tenure f) p x w h =
    opens_few x.spent (list_any (is_tenure_of (record f { mode = Shared })) x.asks) (not (nat_lt (length x.asks) farm_limits.greatest)) refusal.LivesSpent refusal.TenureHere refusal.AsksSpent p (tenure_wants f) true x w h
called_few (call.Begin t) p x w h = begins_few t x (first (held t) x.asks 0) w (guarded x.spent refusal.LivesSpent (beginning t x (first (held t) x.asks 0)) w h)
called_few (call.Finish t lefts) p x w h =
    finishes_few p lefts x (first (running t) x.asks 0) w (guarded x.spent refusal.LivesSpent (finishing content_digest p lefts x (first (running t) x.asks 0)) w h)
called_few (call.Abort t) p x w h = aborts_few p x (first (held_or_running t) x.asks 0) w (guarded x.spent refusal.LivesSpent (aborting p x (first (held_or_running t) x.asks 0)) w h)
called_few (call.Forge content) p x w h = one (brought content_digest content x) w (brings_few content x) (guarded x.spent refusal.LivesSpent (Ok (brought content_digest content x)) w h)
called_few (call.Forget d) p x w h =
    let v : NodeWork = record { node = record x { store = without d x.store }; sends = []; note = note.Forgot } in
    let free : NodeAnswer = guard (list_any (needs d) x.asks) refusal.Needed (Ok v) in
    let gone : Bool = digest_eq d farm_limits.empty || not (is_stored x d) in
    one v w (omega arith) (guarded (list_any (needs d) x.asks) refusal.Needed (Ok v) w (guarded gone refusal.NoSuchContent free w (guarded x.spent refusal.LivesSpent (guard gone refusal.NoSuchContent free) w h)))

pub few : (c : Call) (p : Place) (x y : Node) (d : NodeDone) → called c p x ≡ Ok (work_of y d) → length d.sends ≤ 1
few c p x y d h = called_few c p x (work_of y d) h

-- a node sends what the message makes it send
pub heard_count : (x y : Node) (w : NodeWork) (d : NodeDone) → unless_spent x w ≡ Ok (work_of y d) → length w.sends ≡ length d.sends
heard_count x y w d h = ap (λ (u : NodeWork). length u.sends) (ok_is w (work_of y d) (guarded x.spent refusal.LivesSpent (Ok w) (work_of y d) h))
