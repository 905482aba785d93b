-- Nodes by their numbers.
use Rattle.std.proofs.Common.{◌≡◌, ℕ, suc, zero, ◌+◌, ◌<◌, Bool, true, false, ◌==◌, if◌then◌else◌, List, [], ◌∷◌, ◌++◌, ◌⊎◌, inl, inr, length, get_or, Some, Result, Ok, Err, IfOk, OnOk, OnErr, slice_set, refl, sym, ap, ◌∙◌, subst, add-one}
use mathlib.Core.Path.{fun_ext}
use Rattle.std.proofs.lemmas.Option.{slice_get_read, slice_get_cases}
use Rattle.std.proofs.lemmas.List.{length-set, length_push}
use Rattle.std.proofs.lemmas.List.Elements.{All-push}
use Rattle.std.specs.Prelude.{All}
use Rattle.std.proofs.lemmas.Bool.{eqb-true, eqb-false}
use Rattle.protocol.specs.Lists.{nth, set_nth}
use Rattle.protocol.specs.Names.{NodeId}
use Rattle.protocol.specs.World.{Node, first_node}
use Rattle.protocol.specs.Nodes.{Place, NodeWork, NodeAnswer, may_restart, restarted, unless_spent}
use Rattle.events.specs.declared.answer.NodeRefusal.TheVariants as refusal
use Rattle.protocol.specs.Farm.{farm_limits}
use Rattle.events.specs.declared.answer.NodeRefusal.{NodeRefusal}
use Rattle.nodecore.specs.declared.message.NodeDone.{NodeDone}
use Rattle.protocol.proofs.Base.{eqb_same, nth_set_cases, nth-set_same, nth-set_other, nth_push_cases}
use Rattle.names.specs.Contents.{content_digest}
use Rattle.farm_base.specs.Receivers.{receiver}
use Rattle.farm_base.specs.declared.message.ToNode.{ToNode}
use Rattle.nodecore.specs.declared.node_core.NodeCore.{NodeCore}
use Rattle.nodeasks.specs.Rows.{none_lost}
use Rattle.nodecore.specs.Shown.{forgets, shown, place, work_of, message_work, hearing, Answers}
use Rattle.world.specs.Tables.{node_at, shown_or_first, seat, IsSeated, AreSeated, AreFirstOf, AreFirst, OnlyNode, Restarts}

-- the node of a number
pub nth_at : (cores : List NodeCore) (n i : ℕ) (x : NodeCore) → n ≡ i + 1 → i < length cores → x ≡ get_or cores i x → nth cores n ≡ Some x
nth_at cores n i x e h is = ap (nth cores) e ∙ rw add-one (slice_get_read cores (length cores) i x refl h is)

pub place_is : (cores : List NodeCore) (n : NodeId) (x : NodeCore) → IsSeated n.0 (length cores) x → place x ≡ seat cores n
place_is cores n x s = λ j. record { node = record { 0 = s.number j }; nodes = s.size j }

-- the node of this number is another one then
pub record Reseated (cores : List NodeCore) (n : NodeId) (i : ℕ) (y : NodeCore) : Type 0 where
  pub seated : AreSeated (slice_set cores i y)
  pub shown : node_at (slice_set cores i y) n.0 ≡ shown y
  pub others : OnlyNode n cores (slice_set cores i y)

set_is : (cores : List NodeCore) (n i : ℕ) (y : NodeCore) → n ≡ i + 1 → set_nth cores n y ≡ slice_set cores i y
set_is cores n i y e = ap (λ (m : ℕ). set_nth cores m y) e ∙ rw add-one refl

put_at : (b : Bool) (old new v : Node) → (b ≡ true → v ≡ new) → (b ≡ false → v ≡ old) → v ≡ if b then new else old
put_at true old new v here there = here refl
put_at false old new v here there = there refl

pub reseated : (cores : List NodeCore) (n : NodeId) (i : ℕ) (x y : NodeCore) → AreSeated cores → n.0 ≡ i + 1 → nth cores n.0 ≡ Some x → place y ≡ place x → forgets y ≡ none_lost → Reseated cores n i y
reseated cores n i x y all e at same told =
    let is : set_nth cores n.0 y ≡ slice_set cores i y = set_is cores n.0 i y e in
    let len : length (slice_set cores i y) ≡ length cores = length-set cores i y in
    let here : nth (slice_set cores i y) n.0 ≡ Some y = ap (λ (l : List NodeCore). nth l n.0) (sym is) ∙ nth-set_same cores n.0 y x at in
    let mine : IsSeated n.0 (length cores) y = record { number = ap (λ (p : Place). p.node.0) same ∙ (all n.0 x at).number; size = ap (λ (p : Place). p.nodes) same ∙ (all n.0 x at).size; told = told } in
    record {
      seated = λ m z h. subst (λ (k : ℕ). IsSeated m k z) (sym len) (elim (nth_set_cases cores n.0 y x m z at (ap (λ (l : List NodeCore). nth l m) is ∙ h)) [
        | inl same_node ↦ subst (λ (w : NodeCore). IsSeated m (length cores) w) (sym same_node.1) (subst (λ (k : ℕ). IsSeated k (length cores) y) (sym same_node.0) mine)
        | inr other ↦ all m z other.1
      ]);
      shown = ap shown_or_first here;
      others = record {
        size = len;
        nodes = fun_ext (λ m. put_at (m == n.0) (node_at cores m) (node_at (slice_set cores i y) n.0) (node_at (slice_set cores i y) m)
            (λ p. ap (node_at (slice_set cores i y)) (eqb-true m n.0 p))
            (λ p. ap shown_or_first (ap (λ (l : List NodeCore). nth l m) (sym is) ∙ nth-set_other cores n.0 m y (eqb-false m n.0 p))));
      };
    }

-- one node more
pub first_pushed : (all so_far : ℕ) (cores : List NodeCore) (x : NodeCore) → AreFirstOf all so_far cores → shown x ≡ first_node content_digest → place x ≡ record { node = record { 0 = so_far + 1 }; nodes = all } → forgets x ≡ none_lost
    → AreFirstOf all (so_far + 1) (cores ++ x ∷ [])
first_pushed all so_far cores x h is at told = record {
  len = length_push cores x ∙ ap (λ (k : ℕ). k + 1) h.len;
  first = All-push (λ z. shown z ≡ first_node content_digest) cores x h.first is;
  seated = λ n z e. elim (nth_push_cases cores x n z e) [
    | inl old ↦ h.seated n z old
    | inr new ↦ record { number = ap (λ (w : NodeCore). (place w).node.0) new.1 ∙ ap (λ (p : Place). p.node.0) at ∙ sym (new.0 ∙ ap (λ (k : ℕ). k + 1) h.len); size = ap (λ (w : NodeCore). (place w).nodes) new.1 ∙ ap (λ (p : Place). p.nodes) at; told = ap (λ (w : NodeCore). forgets w) new.1 ∙ told }
  ];
}

-- an answer told of other names for the same nodes
pub answers_at : (f : Place → Node → NodeAnswer) (p p' : Place) (x x' y y' : Node) (r : Result NodeDone NodeRefusal) → p ≡ p' → x ≡ x' → y ≡ y' → Answers (f p x) x y r → Answers (f p' x') x' y' r
answers_at f p p' x x' y y' r a b e h = subst (λ (z : Node). Answers (f p' x') x' z r) e (subst (λ (z : Node). Answers (f p' z) z y r) b (subst (λ (q : Place). Answers (f q x) x y r) a h))

-- a message that is for the node is heard
pub hears_own : (p : Place) (x : Node) (m : ToNode) → (receiver m).0 ≡ p.node.0 → hearing p x m ≡ message_work p x m
hears_own p x m e = (let same : ((receiver m).0 == p.node.0) ≡ true = subst (λ (z : ℕ). ((receiver m).0 == z) ≡ true) e (eqb_same (receiver m).0) in rw same refl)

-- so is its answer, told of other names for the same nodes
pub hears_at : (m : ToNode) (p p' : Place) (x x' y y' : Node) (r : Result NodeDone NodeRefusal) → p ≡ p' → x ≡ x' → y ≡ y' → (receiver m).0 ≡ p'.node.0 → Answers (unless_spent x (hearing p x m)) x y r
    → Answers (unless_spent x' (message_work p' x' m)) x' y' r
hears_at m p p' x x' y y' r a b e own h =
    subst (λ (w : NodeWork). Answers (unless_spent x' w) x' y' r) (hears_own p' x' m own) (answers_at (λ q z. unless_spent z (hearing q z m)) p p' x x' y y' r a b e h)

pub restarts_at : (p p' : Place) (x x' y y' : Node) (r : Result NodeDone NodeRefusal) → p ≡ p' → x ≡ x' → y ≡ y' → Restarts p x y r → Restarts p' x' y' r
restarts_at p p' x x' y y' r a b e h = subst (λ (z : Node). Restarts p' x' z r) e (subst (λ (z : Node). Restarts p' z y r) b (subst (λ (q : Place). Restarts q x y r) a h))

pub node_is : (cores : List NodeCore) (n : ℕ) (x : NodeCore) → nth cores n ≡ Some x → node_at cores n ≡ shown x
node_is cores n x at = ap shown_or_first at

-- the result of a restart, case by case
pub restarts_as : (p : Place) (x y : Node) (r : Result NodeDone NodeRefusal) → IfOk r (λ done. (may_restart farm_limits x ≡ true) × (restarted p x ≡ work_of y done))
    → (r ≡ Err refusal.LivesSpent → (may_restart farm_limits x ≡ false) × (y ≡ record x { spent = true })) → (r ≡ Err refusal.OutOfMemory → y ≡ x)
    → OnErr r ((r ≡ Err refusal.LivesSpent) ⊎ (r ≡ Err refusal.OutOfMemory)) → Restarts p x y r
restarts_as p x y (Ok done) d s m o = d
restarts_as p x y (Err refusal.LivesSpent) d s m o = s refl
restarts_as p x y (Err refusal.OutOfMemory) d s m o = m refl
restarts_as p x y (Err refusal.NotHomeHere) d s m o = elim o [ inl e ↦ absurd (cc) | inr e ↦ absurd (cc) ]
restarts_as p x y (Err refusal.NoSuchTicket) d s m o = elim o [ inl e ↦ absurd (cc) | inr e ↦ absurd (cc) ]
restarts_as p x y (Err refusal.ContentsMissing) d s m o = elim o [ inl e ↦ absurd (cc) | inr e ↦ absurd (cc) ]
restarts_as p x y (Err refusal.WrongNews) d s m o = elim o [ inl e ↦ absurd (cc) | inr e ↦ absurd (cc) ]
restarts_as p x y (Err refusal.NotRunning) d s m o = elim o [ inl e ↦ absurd (cc) | inr e ↦ absurd (cc) ]
restarts_as p x y (Err refusal.AsksSpent) d s m o = elim o [ inl e ↦ absurd (cc) | inr e ↦ absurd (cc) ]
restarts_as p x y (Err refusal.TenureHere) d s m o = elim o [ inl e ↦ absurd (cc) | inr e ↦ absurd (cc) ]
restarts_as p x y (Err refusal.TenureInUse) d s m o = elim o [ inl e ↦ absurd (cc) | inr e ↦ absurd (cc) ]
restarts_as p x y (Err refusal.NoSuchContent) d s m o = elim o [ inl e ↦ absurd (cc) | inr e ↦ absurd (cc) ]
restarts_as p x y (Err refusal.Needed) d s m o = elim o [ inl e ↦ absurd (cc) | inr e ↦ absurd (cc) ]

-- a restart forgets nothing more
pub told_again : (r : Result NodeDone NodeRefusal) (old new : ℕ → Bool) → OnOk r (new ≡ none_lost) → OnErr r (new ≡ old) → old ≡ none_lost → new ≡ none_lost
told_again (Ok done) old new began kept told = began
told_again (Err e) old new began kept told = kept ∙ told

first_here : (cores : List NodeCore) (n : ℕ) → All (λ x. shown x ≡ first_node content_digest) cores → node_at cores n ≡ first_node content_digest
first_here cores zero all = refl
first_here cores (suc i) all = elim (slice_get_cases cores i).1 [
  | inl found ↦ ap shown_or_first found.2 ∙ subst (λ (x : NodeCore). shown x ≡ first_node content_digest) found.3 (all i found.0 found.1)
  | inr past ↦ ap shown_or_first past.1
]

-- nodes that have just started
pub all_first : (count : ℕ) (cores : List NodeCore) → AreFirst count cores → node_at cores ≡ (λ n. first_node content_digest)
all_first count cores h = fun_ext (λ n. first_here cores n h.first)
