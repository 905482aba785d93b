-- What an event of a node does in the farm.
use Rattle.std.proofs.Common.{◌≡◌, ℕ, ◌==◌, Bool, true, false, if◌then◌else◌, List, [], ◌∷◌, ◌++◌, length, map, Result, Ok, Err, refl, sym, ap, ◌∙◌, subst}
use mathlib.Core.Path.{fun_ext}
use Rattle.std.proofs.lemmas.Bool.{eqb-true}
use Rattle.std.proofs.lemmas.List.{length-map}
use Rattle.protocol.specs.Lists.{put}
use Rattle.protocol.specs.Names.{NodeId}
use Rattle.protocol.specs.Machine.{Message, Told, FromCoord}
use Rattle.events.specs.declared.answer.CoordNote.{CoordNote}
use Rattle.protocol.specs.World.{Node}
use Rattle.protocol.specs.Nodes.{Place, NodeAnswer, may_restart, restarted, unless_spent}
use Rattle.protocol.specs.Ledger.{Work, Saved}
use Rattle.protocol.specs.Farm.{farm_limits}
use Rattle.protocol.specs.Replay.{Farm, Turn, first_sent, is_node, at, at_node, node_does, answered, done, moved, refused, restarts, after_work}
use Rattle.events.specs.declared.answer.NodeRefusal.{NodeRefusal}
use Rattle.events.specs.declared.answer.NodeRefusal.TheVariants as node
use Rattle.events.specs.declared.answer.EventNote.{EventNote}
use Rattle.events.specs.declared.answer.EventNote.TheVariants as note
use Rattle.events.specs.declared.answer.EventRefusal.{EventRefusal}
use Rattle.events.specs.declared.answer.EventRefusal.TheVariants as refusal
use Rattle.events.specs.declared.answer.Outcome.{Outcome}
use Rattle.nodecore.specs.declared.message.NodeDone.{NodeDone}
use Rattle.farm_base.specs.declared.message.ToNode.{ToNode}
use Rattle.nodecore.specs.Shown.{work_of, message_work, Answers}
use Rattle.world.specs.Turns.{Came, first_number, from_node, restarting}
use Rattle.world.specs.Tables.{Restarts}

put_here : (b : Bool) (v w x : Node) → v ≡ w → (b ≡ true → x ≡ w) → (if b then v else x) ≡ x
put_here true v w x e h = e ∙ sym (h refl)
put_here false v w x e h = refl

-- a node that is put where it was
pub put_same : (f : ℕ → Node) (n : ℕ) (v : Node) → v ≡ f n → put n v f ≡ f
put_same f n v e = fun_ext (λ m. put_here (m == n) v (f n) (f m) e (λ p. ap f (eqb-true m n p)))

first_is : (s : Farm) (sends : List Message) → first_sent s sends ≡ first_number (length s.pool) (length sends)
first_is s [] = refl
first_is s (x ∷ xs) = refl

told : (s t : Farm) (n : EventNote) (sends : List Message) (o : Outcome) → o ≡ record { note = n; first = first_number (length s.pool) (length sends); sent = length sends }
    → done n sends s t ≡ record { farm = t; outcome = Ok o }
told s t n sends o e = ap (λ (u : Outcome). record { farm = t; outcome = Ok u }) ((λ j. record { note = n; first = first_is s sends j; sent = length sends }) ∙ sym e)

-- the node isn't there
pub came_none : (s t : Farm) (n : NodeId) (f : Place → Node → NodeAnswer) → is_node s n ≡ false → t ≡ s → Came (node_does n f s) s t (Err refusal.NoSuchNode)
came_none s t n f none same = ap (λ (b : Bool). at_node b n (f (at s n) (s.nodes n.0)) s) none ∙ ap (refused refusal.NoSuchNode) (sym same)

-- the node did it
pub came_done : (s t : Farm) (n : NodeId) (f : Place → Node → NodeAnswer) (y : Node) (d : NodeDone) (o : Outcome) → is_node s n ≡ true → f (at s n) (s.nodes n.0) ≡ Ok (work_of y d)
    → t ≡ record s { nodes = put n.0 y s.nodes; pool = s.pool ++ d.sends }
    → o ≡ record { note = note.Node d.note; first = first_number (length s.pool) (length d.sends); sent = length d.sends } → Came (node_does n f s) s t (Ok o)
came_done s t n f y d o here answer after outcome =
    ap (λ (b : Bool). at_node b n (f (at s n) (s.nodes n.0)) s) here ∙ ap (λ (a : NodeAnswer). answered n a s) answer
    ∙ ap (λ (u : Farm). done (note.Node d.note) d.sends s u) (sym after) ∙ told s t (note.Node d.note) d.sends o outcome

refused_as : (s t : Farm) (n : NodeId) (f : Place → Node → NodeAnswer) (e : NodeRefusal) → is_node s n ≡ true → f (at s n) (s.nodes n.0) ≡ Err e → t ≡ s → node_does n f s ≡ record { farm = t; outcome = Err (refusal.Node e) }
refused_as s t n f e here answer same =
    ap (λ (b : Bool). at_node b n (f (at s n) (s.nodes n.0)) s) here ∙ ap (λ (a : NodeAnswer). answered n a s) answer ∙ ap (refused (refusal.Node e)) (sym same)

-- the node refused it
pub came_refused : (s t : Farm) (n : NodeId) (f : Place → Node → NodeAnswer) (y : Node) (e : NodeRefusal) → is_node s n ≡ true → Answers (f (at s n) (s.nodes n.0)) (s.nodes n.0) y (Err e)
    → (y ≡ s.nodes n.0 → t ≡ s) → Came (node_does n f s) s t (Err (from_node e))
came_refused s t n f y node.OutOfMemory here a same = same a
came_refused s t n f y node.NotHomeHere here a same = refused_as s t n f node.NotHomeHere here a.0 (same a.1)
came_refused s t n f y node.NoSuchTicket here a same = refused_as s t n f node.NoSuchTicket here a.0 (same a.1)
came_refused s t n f y node.ContentsMissing here a same = refused_as s t n f node.ContentsMissing here a.0 (same a.1)
came_refused s t n f y node.WrongNews here a same = refused_as s t n f node.WrongNews here a.0 (same a.1)
came_refused s t n f y node.NotRunning here a same = refused_as s t n f node.NotRunning here a.0 (same a.1)
came_refused s t n f y node.LivesSpent here a same = refused_as s t n f node.LivesSpent here a.0 (same a.1)
came_refused s t n f y node.AsksSpent here a same = refused_as s t n f node.AsksSpent here a.0 (same a.1)
came_refused s t n f y node.TenureHere here a same = refused_as s t n f node.TenureHere here a.0 (same a.1)
came_refused s t n f y node.TenureInUse here a same = refused_as s t n f node.TenureInUse here a.0 (same a.1)
came_refused s t n f y node.NoSuchContent here a same = refused_as s t n f node.NoSuchContent here a.0 (same a.1)
came_refused s t n f y node.Needed here a same = refused_as s t n f node.Needed here a.0 (same a.1)

-- nothing has changed
pub unmoved : (s : Farm) (n : NodeId) (size : ℕ) (nodes : ℕ → Node) (pool : List Message) → size ≡ s.size → nodes ≡ put n.0 (nodes n.0) s.nodes → pool ≡ s.pool → nodes n.0 ≡ s.nodes n.0
    → record s { size = size; nodes = nodes; pool = pool } ≡ s
unmoved s n size nodes pool e f g h = (let all : nodes ≡ s.nodes = f ∙ put_same s.nodes n.0 (nodes n.0) h in λ j. record s { size = e j; nodes = all j; pool = g j })

pub moved_to : (s : Farm) (n : NodeId) (size : ℕ) (nodes : ℕ → Node) (pool : List Message) → size ≡ s.size → nodes ≡ put n.0 (nodes n.0) s.nodes → pool ≡ s.pool
    → record s { size = size; nodes = nodes; pool = pool } ≡ record s { nodes = put n.0 (nodes n.0) s.nodes }
moved_to s n size nodes pool e f g = λ j. record s { size = e j; nodes = f j; pool = g j }

spent_as : (s t : Farm) (n : NodeId) (y : Node) → is_node s n ≡ true → may_restart farm_limits (s.nodes n.0) ≡ false → y ≡ record (s.nodes n.0) { spent = true } → t ≡ record s { nodes = put n.0 y s.nodes }
    → restarting n s ≡ record { farm = t; outcome = Err (refusal.Node node.LivesSpent) }
spent_as s t n y here not is after =
    ap (λ (b : Bool). if b then restarts farm_limits n s else refused refusal.NoSuchNode s) here
    ∙ ap (λ (b : Bool). if b then moved n (restarted (at s n) (s.nodes n.0)) s else refused (refusal.Node node.LivesSpent) (record s { nodes = put n.0 (record (s.nodes n.0) { spent = true }) s.nodes })) not
    ∙ ap (refused (refusal.Node node.LivesSpent)) (ap (λ (z : Node). record s { nodes = put n.0 z s.nodes }) (sym is) ∙ sym after)

-- the node didn't restart
pub came_stopped : (s t : Farm) (n : NodeId) (y : Node) (e : NodeRefusal) → is_node s n ≡ true → Restarts (at s n) (s.nodes n.0) y (Err e) → (y ≡ s.nodes n.0 → t ≡ s) → t ≡ record s { nodes = put n.0 y s.nodes }
    → Came (restarting n s) s t (Err (from_node e))
came_stopped s t n y node.OutOfMemory here a same after = same a
came_stopped s t n y node.LivesSpent here a same after = spent_as s t n y here a.0 a.1 after
came_stopped s t n y node.NotHomeHere here a same after = absurd a
came_stopped s t n y node.NoSuchTicket here a same after = absurd a
came_stopped s t n y node.ContentsMissing here a same after = absurd a
came_stopped s t n y node.WrongNews here a same after = absurd a
came_stopped s t n y node.NotRunning here a same after = absurd a
came_stopped s t n y node.AsksSpent here a same after = absurd a
came_stopped s t n y node.TenureHere here a same after = absurd a
came_stopped s t n y node.TenureInUse here a same after = absurd a
came_stopped s t n y node.NoSuchContent here a same after = absurd a
came_stopped s t n y node.Needed here a same after = absurd a

-- the result of a message to a node
abbrev pub hears : ToNode → Place → Node → NodeAnswer
hears m p x = unless_spent x (message_work p x m)

-- the coordinator did this work, and the record is this
pub worked_as : (s t : Farm) (w : Work) (saved : Saved) (sends : List FromCoord) (n : CoordNote) (o : Outcome) → sends ≡ w.sends → n ≡ w.note
    → t ≡ record s { ledger = w.ledger; saved = saved; pool = s.pool ++ map Told w.sends }
    → o ≡ record { note = note.Coord n; first = first_number (length s.pool) (length sends); sent = length sends }
    → after_work saved w s ≡ record { farm = t; outcome = Ok o }
worked_as s t w saved sends n o f g e i =
    let count : length sends ≡ length (map Told sends) = sym (length-map sends Told) in
    sym (λ j. done (note.Coord (g j)) (map Told (f j)) s (e j))
    ∙ told s t (note.Coord n) (map Told sends) o (i ∙ (λ j. record { note = note.Coord n; first = first_number (length s.pool) (count j); sent = count j }))

pub came_as : (a b : Turn) (s t : Farm) (r : Result Outcome EventRefusal) → a ≡ b → Came a s t r → Came b s t r
came_as a b s t r e h = subst (λ (z : Turn). Came z s t r) e h
