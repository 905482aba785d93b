-- What a node keeps of its grants is what was granted, and what it said is sent.
use Rattle.std.proofs.Common.{◌≡◌, ◌≢◌, ℕ, zero, suc, false, true, ◌<◌, List, [], ◌∷◌, ◌++◌, ◌⊎◌, Some, refl, sym, ◌∙◌, ap, subst, inl, inr, arith}
use Rattle.std.specs.Prelude.{⊤}
use Rattle.farm_base.specs.declared.message.FromCoord.TheVariants as told
use Rattle.protocol.specs.Lists.{In, put, nth, set_nth}
use Rattle.events.specs.declared.answer.How.TheVariants as how
use Rattle.protocol.specs.Names.{NodeId, Life, Digest, tenure_wants}
use Rattle.protocol.specs.Machine.{Told, Message, FromCoord, Grant, Granted, Machine, slots_of, written, commit, hello, Step, Grants, Ends, Prunes, Sees, Retires, Parks, Unparks, Raises, Steps, No_step, One_more, Says, Says_granted, Says_committed, Says_fenced, Says_denied, Says_recall}
use Rattle.protocol.specs.World.{KeptAsk, Open, Holding, Running, Finished, Over, World, Node, Act, Asks, Asks_tenure, Asks_again, Greets, Takes, Gives_back, Begins, Finishes, Gives_up, Sends_commit, Learns, Drops, Is_denied, Is_recalled, Is_recalled_running, Stores, Forgets, Asks_content, Sends_blob, Restarts, Stops, Move, Node_moves, Machine_moves, Machine_says, Fails, Recovers, Moves, Still, Then, start}
use Rattle.protocol.proofs.Base.{in_left, in_right, in_append, in_one, some_is, none_some, put_all, nth_set_cases, nth_push_cases, node_is}

-- the grant was made to this ask
abbrev pub Its : Machine → ℕ → Life → ℕ → Grant → Type 0
Its m n l a g = In (Granted g) m.made × (g.node.0 ≡ n) × (g.life ≡ l) × (g.ask.0 ≡ a)

abbrev pub StateIs : List Message → Machine → ℕ → Life → ℕ → KeptAsk → Type 0
StateIs pool m n l a (Open wants tenure) = ⊤
StateIs pool m n l a (Holding wants g r) = Its m n l a g
StateIs pool m n l a (Running wants g r) = Its m n l a g
StateIs pool m n l a (Finished wants g news) =
    Its m n l a g × (slots_of news ≡ written g.slots) × (news ≢ []) × In (commit g.node l g.ticket news) pool
StateIs pool m n l a (Over how) = ⊤

abbrev pub StatesAre : List Message → Machine → ℕ → Life → List KeptAsk → Type 0
StatesAre pool m n l asks = (a : ℕ) (s : KeptAsk) → nth asks a ≡ Some s → StateIs pool m n l a s

pub record AreKept (w : World) : Type 0 where
  pub told : (g : Grant) → In (Told (told.Granted g)) w.pool → In (Granted g) w.machine.made
  pub kept : (m : Machine) → w.down ≡ Some m → (g : Grant) → In (Granted g) w.machine.made → In (Granted g) m.made
  pub states : (n : ℕ) → StatesAre w.pool w.machine n (w.nodes n).life (w.nodes n).asks
  -- a node whose life isn't the first has said so
  pub greeted : (n : NodeId) → 1 < (w.nodes n.0).life.0 → In (hello n (w.nodes n.0).life) w.pool

its_more : (m m' : Machine) (n : ℕ) (l : Life) (a : ℕ) (g : Grant) → ((h : Grant) → In (Granted h) m.made → In (Granted h) m'.made) → Its m n l a g → Its m' n l a g
its_more m m' n l a g more i = (more g i.0, i.1, i.2, i.3)

state_more : (pool pool' : List Message) (m m' : Machine) (n : ℕ) (l : Life) (a : ℕ) (s : KeptAsk) → ((x : Message) → In x pool → In x pool') → ((h : Grant) → In (Granted h) m.made → In (Granted h) m'.made) → StateIs pool m n l a s → StateIs pool' m' n l a s
state_more pool pool' m m' n l a (Open wants tenure) sent more i = tt
state_more pool pool' m m' n l a (Holding wants g r) sent more i = its_more m m' n l a g more i
state_more pool pool' m m' n l a (Running wants g r) sent more i = its_more m m' n l a g more i
state_more pool pool' m m' n l a (Finished wants g news) sent more i = (its_more m m' n l a g more i.0, i.1, i.2, sent _ i.3)
state_more pool pool' m m' n l a (Over how) sent more i = tt

granted_told : (g h : Grant) → Told (told.Granted g) ≡ Told (told.Granted h) → g ≡ h
granted_told g h e = cc

set_states : (pool : List Message) (m : Machine) (n : ℕ) (l : Life) (asks : List KeptAsk) (place : ℕ) (x old : KeptAsk) → nth asks place ≡ Some old → StatesAre pool m n l asks → StateIs pool m n l place x → StatesAre pool m n l (set_nth asks place x)
set_states pool m n l asks place x old was all here a s e = elim (nth_set_cases asks place x old a s was e) [
  | inl b ↦ subst (λ z. StateIs pool m n l z s) (sym b.0) (subst (StateIs pool m n l place) (sym b.1) here)
  | inr b ↦ all a s b.1
]

push_states : (pool : List Message) (m : Machine) (n : ℕ) (l : Life) (asks : List KeptAsk) (x : KeptAsk) → StatesAre pool m n l asks → ((a : ℕ) → StateIs pool m n l a x) → StatesAre pool m n l (asks ++ x ∷ [])
push_states pool m n l asks x all here a s e = elim (nth_push_cases asks x a s e) [
  | inl b ↦ all a s b
  | inr b ↦ subst (StateIs pool m n l a) (sym b.1) (here a)
]

all_more : (pool sends : List Message) (m : Machine) (n : ℕ) (l : Life) (asks : List KeptAsk) → StatesAre pool m n l asks → StatesAre (pool ++ sends) m n l asks
all_more pool sends m n l asks old a s e = state_more pool (pool ++ sends) m m n l a s (λ z i. in_left z pool sends i) (λ h i. i) (old a s e)

none_at : (pool : List Message) (m : Machine) (n : ℕ) (l : Life) → StatesAre pool m n l []
none_at pool m n l zero s e = none_some s e
none_at pool m n l (suc a) s e = none_some s e

abbrev Tells : List Message → Machine → Type 0
Tells pool m = (g : Grant) → In (Told (told.Granted g)) pool → In (Granted g) m.made

module _ (sha : List ℕ → Digest) where
  -- what a node does keeps it
  acts : (pool : List Message) (m : Machine) (node : NodeId) (x : Node) (sends : List Message) (y : Node) → Tells pool m → StatesAre pool m node.0 x.life x.asks → Act sha pool node x sends y → StatesAre (pool ++ sends) m node.0 y.life y.asks
  acts pool m node x sends y was old (Asks wants a) = push_states (pool ++ sends) m node.0 x.life x.asks (Open wants false) (all_more pool sends m node.0 x.life x.asks old) (λ z. tt)
  acts pool m node x sends y was old (Asks_tenure f a) = push_states (pool ++ sends) m node.0 x.life x.asks (Open (tenure_wants f) true) (all_more pool sends m node.0 x.life x.asks old) (λ z. tt)
  acts pool m node x sends y was old (Asks_again ask wants tenure a) = all_more pool sends m node.0 x.life x.asks old
  acts pool m node x sends y was old Greets = all_more pool sends m node.0 x.life x.asks old
  acts pool m node x sends y was old (Takes g wants tenure a b c d) = set_states (pool ++ sends) m node.0 x.life x.asks g.ask.0 (Holding wants g false) (Open wants tenure) d (all_more pool sends m node.0 x.life x.asks old) (was g a, ap (λ (z : NodeId). z.0) b, c, refl)
  acts pool m node x sends y was old (Gives_back g a b c d e) = all_more pool sends m node.0 x.life x.asks old
  acts pool m node x sends y was old (Begins wants g r place a b) = set_states (pool ++ sends) m node.0 x.life x.asks place (Running wants g r) (Holding wants g r) a (all_more pool sends m node.0 x.life x.asks old) (old place (Holding wants g r) a)
  acts pool m node x sends y was old (Finishes wants g r place news store a b c d e) =
      let i : Its m node.0 x.life place g = old place (Running wants g r) a in
      let said : In (commit g.node x.life g.ticket news) (pool ++ sends) =
      subst (λ (z : NodeId). In (commit z x.life g.ticket news) (pool ++ commit node x.life g.ticket news ∷ [])) (sym (node_is g.node node i.1)) (in_right (commit node x.life g.ticket news) pool (commit node x.life g.ticket news ∷ []) (inl refl)) in
      set_states (pool ++ sends) m node.0 x.life x.asks place (Finished wants g news) (Running wants g r) a (all_more pool sends m node.0 x.life x.asks old) (i, c, d, said)
  acts pool m node x sends y was old (Gives_up wants g r place (inl a) b) = set_states (pool ++ sends) m node.0 x.life x.asks place (Over (how.Released g.ticket)) (Holding wants g r) a (all_more pool sends m node.0 x.life x.asks old) tt
  acts pool m node x sends y was old (Gives_up wants g r place (inr a) b) = set_states (pool ++ sends) m node.0 x.life x.asks place (Over (how.Released g.ticket)) (Running wants g r) a (all_more pool sends m node.0 x.life x.asks old) tt
  acts pool m node x sends y was old (Sends_commit wants g place news a) = all_more pool sends m node.0 x.life x.asks old
  acts pool m node x sends y was old (Learns wants g place news versions a b) = set_states (pool ++ sends) m node.0 x.life x.asks place (Over (how.Committed g.ticket versions)) (Finished wants g news) b (all_more pool sends m node.0 x.life x.asks old) tt
  acts pool m node x sends y was old (Drops wants g place news a b) = set_states (pool ++ sends) m node.0 x.life x.asks place (Over (how.Fenced g.ticket)) (Finished wants g news) b (all_more pool sends m node.0 x.life x.asks old) tt
  acts pool m node x sends y was old (Is_denied ask why wants tenure a b) = set_states (pool ++ sends) m node.0 x.life x.asks ask.0 (Over (how.Denied why)) (Open wants tenure) b (all_more pool sends m node.0 x.life x.asks old) tt
  acts pool m node x sends y was old (Is_recalled wants g place a b) = set_states (pool ++ sends) m node.0 x.life x.asks place (Holding wants g true) (Holding wants g false) b (all_more pool sends m node.0 x.life x.asks old) (old place (Holding wants g false) b)
  acts pool m node x sends y was old (Is_recalled_running wants g place a b) = set_states (pool ++ sends) m node.0 x.life x.asks place (Running wants g true) (Running wants g false) b (all_more pool sends m node.0 x.life x.asks old) (old place (Running wants g false) b)
  acts pool m node x sends y was old (Stores c) = all_more pool sends m node.0 x.life x.asks old
  acts pool m node x sends y was old (Forgets d c a) = all_more pool sends m node.0 x.life x.asks old
  acts pool m node x sends y was old (Asks_content other d) = all_more pool sends m node.0 x.life x.asks old
  acts pool m node x sends y was old (Sends_blob other c) = all_more pool sends m node.0 x.life x.asks old
  acts pool m node x sends y was old Restarts = none_at (pool ++ sends) m node.0 y.life
  acts pool m node x sends y was old Stops = all_more pool sends m node.0 x.life x.asks old

  -- no node says that something is granted
  not_told : (pool : List Message) (node : NodeId) (x : Node) (sends : List Message) (y : Node) → Act sha pool node x sends y → (g : Grant) → In (Told (told.Granted g)) sends → ⊥
  not_told pool node x sends y (Asks wants a) g i = cc (in_one _ _ i)
  not_told pool node x sends y (Asks_tenure f a) g i = cc (in_one _ _ i)
  not_told pool node x sends y (Asks_again ask wants tenure a) g i = cc (in_one _ _ i)
  not_told pool node x sends y Greets g i = cc (in_one _ _ i)
  not_told pool node x sends y (Takes g' wants tenure a b c d) g i = i
  not_told pool node x sends y (Gives_back g' a b c d e) g i = cc (in_one _ _ i)
  not_told pool node x sends y (Begins wants g' r place a b) g i = i
  not_told pool node x sends y (Finishes wants g' r place news store a b c d e) g i = cc (in_one _ _ i)
  not_told pool node x sends y (Gives_up wants g' r place a b) g i = cc (in_one _ _ i)
  not_told pool node x sends y (Sends_commit wants g' place news a) g i = cc (in_one _ _ i)
  not_told pool node x sends y (Learns wants g' place news versions a b) g i = i
  not_told pool node x sends y (Drops wants g' place news a b) g i = i
  not_told pool node x sends y (Is_denied ask why wants tenure a b) g i = i
  not_told pool node x sends y (Is_recalled wants g' place a b) g i = i
  not_told pool node x sends y (Is_recalled_running wants g' place a b) g i = i
  not_told pool node x sends y (Stores c) g i = i
  not_told pool node x sends y (Forgets d c a) g i = i
  not_told pool node x sends y (Asks_content other d) g i = cc (in_one _ _ i)
  not_told pool node x sends y (Sends_blob other c) g i = cc (in_one _ _ i)
  not_told pool node x sends y Restarts g i = cc (in_one _ _ i)
  not_told pool node x sends y Stops g i = i

  -- a node that is in another life now has said so
  greets : (pool : List Message) (node : NodeId) (x : Node) (sends : List Message) (y : Node) → Act sha pool node x sends y → (y.life ≡ x.life) ⊎ In (hello node y.life) sends
  greets pool node x sends y (Asks wants a) = inl refl
  greets pool node x sends y (Asks_tenure f a) = inl refl
  greets pool node x sends y (Asks_again ask wants tenure a) = inl refl
  greets pool node x sends y Greets = inl refl
  greets pool node x sends y (Takes g wants tenure a b c d) = inl refl
  greets pool node x sends y (Gives_back g a b c d e) = inl refl
  greets pool node x sends y (Begins wants g r place a b) = inl refl
  greets pool node x sends y (Finishes wants g r place news store a b c d e) = inl refl
  greets pool node x sends y (Gives_up wants g r place a b) = inl refl
  greets pool node x sends y (Sends_commit wants g place news a) = inl refl
  greets pool node x sends y (Learns wants g place news versions a b) = inl refl
  greets pool node x sends y (Drops wants g place news a b) = inl refl
  greets pool node x sends y (Is_denied ask why wants tenure a b) = inl refl
  greets pool node x sends y (Is_recalled wants g place a b) = inl refl
  greets pool node x sends y (Is_recalled_running wants g place a b) = inl refl
  greets pool node x sends y (Stores c) = inl refl
  greets pool node x sends y (Forgets d c a) = inl refl
  greets pool node x sends y (Asks_content other d) = inl refl
  greets pool node x sends y (Sends_blob other c) = inl refl
  greets pool node x sends y Restarts = inr (inl refl)
  greets pool node x sends y Stops = inl refl

  made_more : (empty : Digest) (pool : List Message) (m m' : Machine) → Step empty pool m m' → (g : Grant) → In (Granted g) m.made → In (Granted g) m'.made
  made_more empty pool m m' (Grants h wants a b c d e f i) g j = inr j
  made_more empty pool m m' (Ends h how a b) g j = j
  made_more empty pool m m' (Prunes t s a b c) g j = inr j
  made_more empty pool m m' (Sees node life heard a b c d) g j = j
  made_more empty pool m m' (Retires node a b c d) g j = j
  made_more empty pool m m' (Parks p a b) g j = j
  made_more empty pool m m' (Unparks queue a) g j = j
  made_more empty pool m m' (Raises c a) g j = j

  all_made : (empty : Digest) (pool : List Message) (m m' : Machine) → Steps empty pool m m' → (g : Grant) → In (Granted g) m.made → In (Granted g) m'.made
  all_made empty pool m m' (No_step x) g j = j
  all_made empty pool m m' (One_more x n y more s) g j = made_more empty pool n m' s g (all_made empty pool m n more g j)

  says_made : (pool : List Message) (m : Machine) (telling : FromCoord) → Says (sha []) pool m telling → (g : Grant) → told.Granted g ≡ telling → In (Granted g) m.made
  says_made pool m telling (Says_granted h live) g e = subst (λ z. In (Granted z) m.made) (let same : h ≡ g = cc in same) live.0
  says_made pool m telling (Says_committed n l t news versions a b c) g e = absurd (cc e)
  says_made pool m telling (Says_fenced n l t news a b c) g e = absurd (cc e)
  says_made pool m telling (Says_denied n l ask why wants tenure a) g e = absurd (cc e)
  says_made pool m telling (Says_recall h a b) g e = absurd (cc e)

  told_is : (x y : FromCoord) → Told x ≡ Told y → x ≡ y
  told_is x y e = cc

  moved_kept : (w w' : World) → Move sha w w' → AreKept w → AreKept w'
  moved_kept w w' (Node_moves node sends x act) h =
      let nodes : ℕ → Node = put node.0 x w.nodes in
      let pool : List Message = w.pool ++ sends in
      record {
        told = λ g i. elim (in_append (Told (told.Granted g)) w.pool sends i) [ inl j ↦ h.told g j | inr j ↦ absurd (not_told w.pool node (w.nodes node.0) sends x act g j) ];
        kept = h.kept;
        states = put_all (λ n (z : Node). StatesAre pool w.machine n z.life z.asks) node.0 x w.nodes
            (acts w.pool w.machine node (w.nodes node.0) sends x h.told (h.states node.0) act)
            (λ n other. all_more w.pool sends w.machine n (w.nodes n).life (w.nodes n).asks (h.states n));
        greeted = λ n. put_all (λ j (z : Node). (v : NodeId) → v.0 ≡ j → 1 < z.life.0 → In (hello v z.life) pool) node.0 x w.nodes
            (λ v e more. elim (greets w.pool node (w.nodes node.0) sends x act) [
              | inl same ↦ in_left (hello v x.life) w.pool sends (was h v x e same more)
              | inr said ↦ in_right (hello v x.life) w.pool sends (subst (λ (z : NodeId). In (hello z x.life) sends) (sym (node_is v node e)) said)
            ])
            (λ j other v e more. in_left (hello v (w.nodes j).life) w.pool sends (there h v j e more)) n.0 n refl;
      }
    where
      was : AreKept w → (v : NodeId) (y : Node) → v.0 ≡ node.0 → y.life ≡ (w.nodes node.0).life → 1 < y.life.0 → In (hello v y.life) w.pool
      was h v y e same more =
          let here : y.life ≡ (w.nodes v.0).life = subst (λ z. y.life ≡ (w.nodes z).life) (sym e) same in
          subst (λ (l : Life). In (hello v l) w.pool) (sym here) (h.greeted v (subst (λ (l : Life). 1 < l.0) here more))

      there : AreKept w → (v : NodeId) (j : ℕ) → v.0 ≡ j → 1 < (w.nodes j).life.0 → In (hello v (w.nodes j).life) w.pool
      there h v j e = subst (λ z. 1 < (w.nodes z).life.0 → In (hello v (w.nodes z).life) w.pool) e (h.greeted v)
  moved_kept w w' (Machine_moves m up s) h = record {
    told = λ g i. made_more (sha []) w.pool w.machine m s g (h.told g i);
    kept = λ x e. none_some x (sym up ∙ e);
    states = λ n a z e. state_more w.pool w.pool w.machine m n (w.nodes n).life a z (λ v i. i) (made_more (sha []) w.pool w.machine m s) (h.states n a z e);
    greeted = h.greeted;
  }
  moved_kept w w' (Machine_says telling up s) h = record {
    told = λ g i. elim (in_append (Told (told.Granted g)) w.pool (Told telling ∷ []) i) [
      | inl j ↦ h.told g j
      | inr j ↦ says_made w.pool w.machine telling s g (told_is (told.Granted g) telling (in_one (Told (told.Granted g)) (Told telling) j))
    ];
    kept = h.kept;
    states = λ n. all_more w.pool (Told telling ∷ []) w.machine n (w.nodes n).life (w.nodes n).asks (h.states n);
    greeted = λ n more. in_left (hello n (w.nodes n.0).life) w.pool (Told telling ∷ []) (h.greeted n more);
  }
  moved_kept w w' (Fails m up s) h = record {
    told = h.told;
    kept = λ x e. subst (λ (z : Machine). (g : Grant) → In (Granted g) w.machine.made → In (Granted g) z.made) (some_is m x e) (all_made (sha []) w.pool w.machine m s);
    states = h.states;
    greeted = h.greeted;
  }
  moved_kept w w' (Recovers m e) h = record {
    told = λ g i. h.kept m e g (h.told g i);
    kept = λ x f. none_some x f;
    states = λ n a z f. state_more w.pool w.pool w.machine m n (w.nodes n).life a z (λ v i. i) (h.kept m e) (h.states n a z f);
    greeted = h.greeted;
  }

  pub kept_all : (w w' : World) → Moves sha w w' → AreKept w → AreKept w'
  kept_all w w' (Still x) h = h
  kept_all w w' (Then x v y more m) h = moved_kept v w' m (kept_all w v more h)

  -- what was granted stays so
  pub made_later : (w w' : World) → Moves sha w w' → AreKept w → (g : Grant) → In (Granted g) w.machine.made → In (Granted g) w'.machine.made
  made_later w w' (Still x) h g i = i
  made_later w w' (Then x v y more move) h g i = by v w' move (kept_all w v more h) (made_later w v more h g i)
    where
      by : (u z : World) → Move sha u z → AreKept u → In (Granted g) u.machine.made → In (Granted g) z.machine.made
      by u z (Node_moves node sends state act) kept j = j
      by u z (Machine_moves m up s) kept j = made_more (sha []) u.pool u.machine m s g j
      by u z (Machine_says telling up s) kept j = j
      by u z (Fails m up s) kept j = j
      by u z (Recovers m e) kept j = kept.kept m e g j

  pub kept_start : AreKept (start sha)
  kept_start = record { told = λ g i. absurd i; kept = λ m e. none_some m e; states = λ n. none_at [] (start sha).machine n ((start sha).nodes n).life; greeted = λ n more. absurd (omega arith) }
