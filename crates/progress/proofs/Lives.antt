-- No life that the coordinator has heard of is above its node's.
use Rattle.std.proofs.Common.{None, ◌≡◌, ℕ, ◌≤◌, List, [], ◌∷◌, Some, refl, sym, ◌∙◌, ap, subst, inl, inr, arith}
use Rattle.protocol.specs.Lists.{In, put}
use Rattle.protocol.specs.Names.{NodeId, Life, Digest}
use Rattle.protocol.specs.Machine.{Said, Told, Message, FromCoord, ToCoord, Machine, cleared, WasHeard, Step, Grants, Ends, Prunes, Sees, Retires, Parks, Unparks, Raises, Steps, No_step, One_more}
use Rattle.protocol.specs.World.{World, Node, Act, Asks, Asks_tenure, Asks_again, Greets, Takes, Gives_back, Begins, Finishes, Gives_up, Sends_commit, Learns, Drops, Is_denied, Is_recalled, Is_recalled_running, Stores, Forgets, Asks_content, Sends_blob, Restarts, Stops, Move, Node_moves, Machine_moves, Machine_says, Fails, Recovers, Moves, Still, Then, start}
use Rattle.protocol.specs.Ledger.{Limits}
use Rattle.protocol.specs.Replay.{Event, scheduled}
use Rattle.protocol.specs.Follows.{IsFarm, EveryScheduleIsSafe}
use Rattle.protocol.proofs.Base.{in_append, in_one, some_is, none_some, put_all, put_same}

abbrev Below : (ℕ → ℕ) → (ℕ → Node) → Type 0
Below lives nodes = (n : ℕ) → lives n ≤ (nodes n).life.0

pub record AreHeard (w : World) : Type 0 where
  pub now : Below w.machine.lives w.nodes
  pub kept : (m : Machine) → w.down ≡ Some m → Below m.lives w.nodes
  pub said : (y : ToCoord) → In (Said y) w.pool → y.life.0 ≤ (w.nodes y.node.0).life.0
  -- no node is the old home
  pub no_home : w.machine.old_home ≡ None
  pub no_kept_home : (m : Machine) → w.down ≡ Some m → m.old_home ≡ None

said_is : (y z : ToCoord) → Said y ≡ Said z → y ≡ z
said_is y z e = cc

told_not : {P : Type 0} (y : ToCoord) (m : FromCoord) → Said y ≡ Told m → P
told_not y m e = absurd (cc e)

-- what a node says is of its life
record Speaks (node : NodeId) (before after : Node) (sends : List Message) : Type 0 where
  pub life : before.life.0 ≤ after.life.0
  pub said : (y : ToCoord) → In (Said y) sends → (y.node ≡ node) × (y.life.0 ≤ after.life.0)

silent : (node : NodeId) (x y : Node) → x.life ≡ y.life → Speaks node x y []
silent node x y e = record { life = (let f : x.life.0 ≡ y.life.0 = ap (λ (l : Life). l.0) e in omega arith); said = λ z i. absurd i }

says_one : (x y : Node) (z : ToCoord) → x.life.0 ≤ y.life.0 → z.life ≡ y.life → Speaks z.node x y (Said z ∷ [])
says_one x y z le e = record {
  life = le;
  said = λ v i. (let same : v ≡ z = said_is v z (in_one (Said v) (Said z) i) in
      (ap (λ (s : ToCoord). s.node) same, (let f : v.life.0 ≡ y.life.0 = ap (λ (s : ToCoord). s.life.0) same ∙ ap (λ (l : Life). l.0) e in omega arith)));
}

module _ (sha : List ℕ → Digest) where
  acts : (pool : List Message) (node : NodeId) (x : Node) (sends : List Message) (y : Node) → Act sha pool node x sends y → Speaks node x y sends
  acts pool node x sends y (Asks wants a) = says_one x y _ (omega arith) refl
  acts pool node x sends y (Asks_tenure f a) = says_one x y _ (omega arith) refl
  acts pool node x sends y (Asks_again ask wants tenure a) = says_one x y _ (omega arith) refl
  acts pool node x sends y Greets = says_one x y _ (omega arith) refl
  acts pool node x sends y (Takes g wants tenure a b c d) = silent node x y refl
  acts pool node x sends y (Gives_back g a b c d e) = says_one x y _ (omega arith) refl
  acts pool node x sends y (Begins wants g recalled place a b) = silent node x y refl
  acts pool node x sends y (Finishes wants g recalled place news store a b c d e) = says_one x y _ (omega arith) refl
  acts pool node x sends y (Gives_up wants g recalled place a b) = says_one x y _ (omega arith) refl
  acts pool node x sends y (Sends_commit wants g place news a) = says_one x y _ (omega arith) refl
  acts pool node x sends y (Learns wants g place news versions a b) = silent node x y refl
  acts pool node x sends y (Drops wants g place news a b) = silent node x y refl
  acts pool node x sends y (Is_denied ask why wants tenure a b) = silent node x y refl
  acts pool node x sends y (Is_recalled wants g place a b) = silent node x y refl
  acts pool node x sends y (Is_recalled_running wants g place a b) = silent node x y refl
  acts pool node x sends y (Stores c) = silent node x y refl
  acts pool node x sends y (Forgets d c a) = silent node x y refl
  acts pool node x sends y (Asks_content other d) = record { life = omega arith; said = λ z i. absurd (cc (in_one (Said z) _ i)) }
  acts pool node x sends y (Sends_blob other c) = record { life = omega arith; said = λ z i. absurd (cc (in_one (Said z) _ i)) }
  acts pool node x sends y Restarts = says_one x y _ (omega arith) refl
  acts pool node x sends y Stops = silent node x y refl

  stepped : (empty : Digest) (pool : List Message) (nodes : ℕ → Node) → ((y : ToCoord) → In (Said y) pool → y.life.0 ≤ (nodes y.node.0).life.0) → (m m' : Machine) → Step empty pool m m' → Below m.lives nodes → Below m'.lives nodes
  stepped empty pool nodes said m m' (Grants g wants a b c d e f h) old = old
  stepped empty pool nodes said m m' (Ends g how a b) old = old
  stepped empty pool nodes said m m' (Prunes t s a b c) old = old
  stepped empty pool nodes said m m' (Sees node life heard a b c d) old = put_all (λ n (l : ℕ). l ≤ (nodes n).life.0) node.0 life.0 m.lives (was heard) (λ n other. old n)
    where
      was : (h : WasHeard pool node life) → life.0 ≤ (nodes node.0).life.0
      was h = subst (λ (l : Life). l.0 ≤ (nodes node.0).life.0) h.3 (subst (λ (v : NodeId). h.0.life.0 ≤ (nodes v.0).life.0) h.2 (said h.0 h.1))
  stepped empty pool nodes said m m' (Retires node a b c d) old = old
  stepped empty pool nodes said m m' (Parks p a b) old = old
  stepped empty pool nodes said m m' (Unparks queue a) old = old
  stepped empty pool nodes said m m' (Raises c a) old = old

  many : (empty : Digest) (pool : List Message) (nodes : ℕ → Node) → ((y : ToCoord) → In (Said y) pool → y.life.0 ≤ (nodes y.node.0).life.0) → (m m' : Machine) → Steps empty pool m m' → Below m.lives nodes → Below m'.lives nodes
  many empty pool nodes said m m' (No_step x) old = old
  many empty pool nodes said m m' (One_more x n y more s) old = stepped empty pool nodes said n m' s (many empty pool nodes said m n more old)

  homeless : (empty : Digest) (pool : List Message) (m m' : Machine) → Step empty pool m m' → m.old_home ≡ None → m'.old_home ≡ None
  homeless empty pool m m' (Grants g wants a b c d e f h) old = old
  homeless empty pool m m' (Ends g how a b) old = old
  homeless empty pool m m' (Prunes t s a b c) old = old
  homeless empty pool m m' (Sees node life heard a b c d) old = ap (cleared node) old
  homeless empty pool m m' (Retires node a b c d) old = old
  homeless empty pool m m' (Parks p a b) old = old
  homeless empty pool m m' (Unparks queue a) old = old
  homeless empty pool m m' (Raises c a) old = old

  homeless_all : (empty : Digest) (pool : List Message) (m m' : Machine) → Steps empty pool m m' → m.old_home ≡ None → m'.old_home ≡ None
  homeless_all empty pool m m' (No_step x) old = old
  homeless_all empty pool m m' (One_more x n y more s) old = homeless empty pool n m' s (homeless_all empty pool m n more old)

  later_life : (w : World) (node : NodeId) (x : Node) → (w.nodes node.0).life.0 ≤ x.life.0 → (n : ℕ) → (w.nodes n).life.0 ≤ (put node.0 x w.nodes n).life.0
  later_life w node x le = put_all (λ n (z : Node). (w.nodes n).life.0 ≤ z.life.0) node.0 x w.nodes le (λ n other. omega arith)

  moved_heard : (w w' : World) → Move sha w w' → AreHeard w → AreHeard w'
  moved_heard w w' (Node_moves node sends x act) h =
      let s = acts w.pool node (w.nodes node.0) sends x act in
      let up = later_life w node x s.life in
      let nodes : ℕ → Node = put node.0 x w.nodes in
      record {
        now = λ n. (let a : w.machine.lives n ≤ (w.nodes n).life.0 = h.now n in let b : (w.nodes n).life.0 ≤ (nodes n).life.0 = up n in omega arith);
        no_home = h.no_home;
        no_kept_home = h.no_kept_home;
        kept = λ m e n. (let a : m.lives n ≤ (w.nodes n).life.0 = h.kept m e n in let b : (w.nodes n).life.0 ≤ (nodes n).life.0 = up n in omega arith);
        said = λ y i. elim (in_append (Said y) w.pool sends i) [
          | inl j ↦ (let a : y.life.0 ≤ (w.nodes y.node.0).life.0 = h.said y j in let b : (w.nodes y.node.0).life.0 ≤ (nodes y.node.0).life.0 = up y.node.0 in omega arith)
          | inr j ↦ (let r = s.said y j in subst (λ (v : NodeId). y.life.0 ≤ (nodes v.0).life.0) (sym r.0) (subst (λ (z : Node). y.life.0 ≤ z.life.0) (sym (put_same node.0 x w.nodes)) r.1))
        ];
      }
  moved_heard w w' (Machine_moves m up s) h = record { now = stepped (sha []) w.pool w.nodes h.said w.machine m s h.now; kept = h.kept; said = h.said; no_home = homeless (sha []) w.pool w.machine m s h.no_home; no_kept_home = h.no_kept_home }
  moved_heard w w' (Machine_says m up s) h = record {
    now = h.now;
    no_home = h.no_home;
    no_kept_home = h.no_kept_home;
    kept = h.kept;
    said = λ y i. elim (in_append (Said y) w.pool (Told m ∷ []) i) [ inl j ↦ h.said y j | inr j ↦ told_not y m (in_one (Said y) (Told m) j) ];
  }
  moved_heard w w' (Fails m up s) h = record {
    now = h.now;
    no_home = h.no_home;
    no_kept_home = λ x e. subst (λ (z : Machine). z.old_home ≡ None) (some_is m x e) (homeless_all (sha []) w.pool w.machine m s h.no_home);
    kept = λ x e. subst (λ (z : Machine). Below z.lives w.nodes) (some_is m x e) (many (sha []) w.pool w.nodes h.said w.machine m s h.now);
    said = h.said;
  }
  moved_heard w w' (Recovers m e) h = record { now = h.kept m e; kept = λ x f. none_some x f; said = h.said; no_home = h.no_kept_home m e; no_kept_home = λ x f. none_some x f }

  pub heard_all : (w w' : World) → Moves sha w w' → AreHeard w → AreHeard w'
  heard_all w w' (Still x) h = h
  heard_all w w' (Then x v y more m) h = moved_heard v w' m (heard_all w v more h)

  pub heard_start : AreHeard (start sha)
  heard_start = record { now = λ n. omega arith; kept = λ m e. none_some m e; said = λ y i. absurd i; no_home = refl; no_kept_home = λ m e. none_some m e }

-- in no farm that a schedule leads to is a node the old home
pub no_home : EveryScheduleIsSafe → (sha : List ℕ → Digest) (k : Limits) → IsFarm sha k → (size : ℕ) (events : List Event) → (scheduled sha k size events).ledger.old_home ≡ None
no_home safes sha k is_farm size events =
    let a = safes sha k is_farm size events in
    a.shows.now.old_home ∙ (heard_all sha _ a.world a.moves (heard_start sha)).no_home
