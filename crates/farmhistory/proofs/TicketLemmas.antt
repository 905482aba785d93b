-- In every run a node's asks have the leases that were sent for them, so no two of them have one ticket.
use Rattle.std.proofs.Common.{◌≡◌, ◌≢◌, ℕ, zero, suc, ◌+◌, ◌<◌, inl, inr, Bool, true, false, List, [], ◌∷◌, ◌++◌, length, ◌⊎◌, Option, Some, None, refl, ap, sym, subst, ◌∙◌, arith}
use Rattle.std.proofs.lemmas.Bool.{cases_eq}
use Rattle.protocol.specs.Lists.{In, put, nth, set_nth}
use Rattle.protocol.specs.Names.{NodeId, Ticket, Digest, Want}
use Rattle.protocol.specs.Machine.{Machine, Made, Grant, Granted, Pruned, ticket_of, Message, Told, Step, Grants, Ends, Prunes, Sees, Retires, Parks, Unparks, Raises, Steps, No_step, One_more, Says, Says_granted, Says_committed, Says_fenced, Says_denied, Says_recall}
use Rattle.farm_base.specs.declared.message.Message.TheVariants as to
use Rattle.farm_base.specs.declared.message.ToNode.TheVariants as to_node
use Rattle.farm_base.specs.declared.message.FromCoord.{FromCoord}
use Rattle.farm_base.specs.declared.message.FromCoord.TheVariants as told
use Rattle.events.specs.declared.ask.KeptAsk.{KeptAsk}
use Rattle.events.specs.declared.ask.KeptAsk.TheVariants.{Open, Holding, Running, Finished, Over}
use Rattle.protocol.specs.World.{World, Node, Act, Asks, Asks_tenure, Asks_again, Greets, Takes, Gives_back, Begins, Finishes, Gives_up, Sends_commit, Learns, Drops, Is_denied, Is_recalled, Is_recalled_running, Stores, Forgets, Asks_content, Sends_blob, Restarts, Stops, Move, Node_moves, Machine_moves, Machine_says, Fails, Recovers, Moves, Still, Then, start}
use Rattle.protocol.specs.Safe.{Falling}
use Rattle.protocol.proofs.Base.{put_same, put_other, in_one, in_left, in_append, nth_set_cases, nth_push_cases, some_is}
use Rattle.nodeasks.specs.Asks.{lease_in}

-- the leases of the asks were sent, each for its ask
abbrev pub AreTold : List KeptAsk → List Message → Type 0
AreTold asks pool = (a : ℕ) (s : KeptAsk) (g : Grant) → nth asks a ≡ Some s → lease_in s ≡ Some g → (g.ask.0 ≡ a) × In (Told (told.Granted g)) pool

pub record AllTold (w : World) : Type 0 where
  -- what was sent as granted was granted
  pub made : (g : Grant) → In (Told (told.Granted g)) w.pool → In (Granted g) w.machine.made
  -- a failed save forgets no grant
  pub kept : (m : Machine) → w.down ≡ Some m → (x : Made) → In x w.machine.made → In x m.made
  pub asks : (n : ℕ) → AreTold (w.nodes n).asks w.pool

-- ---- grants are kept

module _ (empty : Digest) (pool : List Message) (m : Machine) where
  step_keeps : (m' : Machine) → Step empty pool m m' → (x : Made) → In x m.made → In x m'.made
  step_keeps m' (Grants g wants a b c d e f h) x i = inr i
  step_keeps m' (Ends g y l e) x i = i
  step_keeps m' (Prunes t s a b c) x i = inr i
  step_keeps m' (Sees n l a b c d e) x i = i
  step_keeps m' (Retires n a b c d) x i = i
  step_keeps m' (Parks p a b) x i = i
  step_keeps m' (Unparks ps a) x i = i
  step_keeps m' (Raises t a) x i = i

steps_keep : (empty : Digest) (pool : List Message) (a b : Machine) → Steps empty pool a b → (x : Made) → In x a.made → In x b.made
steps_keep empty pool a b (No_step m) x i = i
steps_keep empty pool a b (One_more p q r steps step) x i = step_keeps empty pool q b step x (steps_keep empty pool a q steps x i)

-- ---- what was told

abbrev grants : FromCoord → Bool
grants (told.Granted g) = true
grants (told.Committed n l t versions) = false
grants (told.Fenced n l t) = false
grants (told.Denied n l a why) = false
grants (told.Recall n l t) = false

abbrev is_grant : Message → Bool
is_grant (to.ToCoord y) = false
is_grant (to.ToNode (to_node.FromCoord y)) = grants y
is_grant (to.ToNode (to_node.Fetch y)) = false
is_grant (to.ToNode (to_node.Blob n c)) = false

no_grant : {P : Type 0} (g : Grant) (y : Message) → is_grant y ≡ false → In (Told (told.Granted g)) (y ∷ []) → P
no_grant g y other i = (let bad : true ≡ false = ap is_grant (in_one (Told (told.Granted g)) y i) ∙ other in cc)

module _ (empty : Digest) (pool : List Message) (m : Machine) (g : Grant) where
  granted_is : (h : Grant) → told.Granted h ≡ told.Granted g → h ≡ g
  granted_is h e = cc

  says_made : (y : FromCoord) → Says empty pool m y → y ≡ told.Granted g → In (Granted g) m.made
  says_made y (Says_granted h live) e = subst (λ (z : Grant). In (Granted z) m.made) (granted_is h e) live.0
  says_made y (Says_committed n l t news versions a b c) e = absurd (cc)
  says_made y (Says_fenced n l t news a b c) e = absurd (cc)
  says_made y (Says_denied n l a why wants tenure i) e = absurd (cc)
  says_made y (Says_recall h live tenure) e = absurd (cc)

-- ---- the acts of a node

module _ (sha : List ℕ → Digest) (pool : List Message) (n : NodeId) (x : Node) where
  act_grants : (sends : List Message) (x' : Node) → Act sha pool n x sends x' → (g : Grant) → In (Told (told.Granted g)) sends → ⊥
  act_grants sends x' (Asks wants h) g z = no_grant g _ refl z
  act_grants sends x' (Asks_tenure f h) g z = no_grant g _ refl z
  act_grants sends x' (Asks_again b wants tenure at) g z = no_grant g _ refl z
  act_grants sends x' Greets g z = no_grant g _ refl z
  act_grants sends x' (Gives_back h i p q o keep') g z = no_grant g _ refl z
  act_grants sends x' (Finishes wants h r a news store at idle slots some ok) g z = no_grant g _ refl z
  act_grants sends x' (Gives_up wants h r a at idle) g z = no_grant g _ refl z
  act_grants sends x' (Sends_commit wants h a news at) g z = no_grant g _ refl z
  act_grants sends x' (Asks_content other d) g z = no_grant g _ refl z
  act_grants sends x' (Sends_blob other c) g z = no_grant g _ refl z
  act_grants sends x' Restarts g z = no_grant g _ refl z
  act_grants sends x' (Takes h wants tenure i p q e) g z = z
  act_grants sends x' (Begins wants h r a at all) g z = z
  act_grants sends x' (Learns wants h a news versions i at) g z = z
  act_grants sends x' (Drops wants h a news i at) g z = z
  act_grants sends x' (Is_denied a why wants tenure i at) g z = z
  act_grants sends x' (Is_recalled wants h a i at) g z = z
  act_grants sends x' (Is_recalled_running wants h a i at) g z = z
  act_grants sends x' (Stores c) g z = z
  act_grants sends x' (Forgets d c e) g z = z
  act_grants sends x' Stops g z = z

  module _ (so : AreTold x.asks pool) where
    pushed : (ws : List Want) (t : Bool) → AreTold (x.asks ++ Open ws t ∷ []) pool
    pushed ws t a s g at is = elim (nth_push_cases x.asks (Open ws t) a s at) [
      | inl k ↦ so a s g k is
      | inr k ↦ (let bad : ◌≡◌ {A = Option Grant} None (Some g) = sym (ap lease_in k.1) ∙ is in absurd (cc))
    ]

    was_set : (i : ℕ) (old new : KeptAsk) → nth x.asks i ≡ Some old → ((g : Grant) → lease_in new ≡ Some g → lease_in old ≡ Some g) → AreTold (set_nth x.asks i new) pool
    was_set i old new at keeps a s g here is = elim (nth_set_cases x.asks i new old a s at here) [
      | inl k ↦ (let r = so i old g at (keeps g (sym (ap lease_in k.1) ∙ is)) in (r.0 ∙ sym k.0, r.1))
      | inr k ↦ so a s g k.1 is
    ]

    none_left : (i : ℕ) (old new : KeptAsk) → nth x.asks i ≡ Some old → lease_in new ≡ None → AreTold (set_nth x.asks i new) pool
    none_left i old new at none = was_set i old new at (λ g e. (let bad : ◌≡◌ {A = Option Grant} None (Some g) = sym none ∙ e in absurd (cc)))

    taken : (h : Grant) (wants : List Want) (old : KeptAsk) → nth x.asks h.ask.0 ≡ Some old → In (Told (told.Granted h)) pool → AreTold (set_nth x.asks h.ask.0 (Holding wants h false)) pool
    taken h wants old at i a s g here is = elim (nth_set_cases x.asks h.ask.0 (Holding wants h false) old a s at here) [
      | inl k ↦ (let some : ◌≡◌ {A = Option Grant} (Some h) (Some g) = sym (ap lease_in k.1) ∙ is in let same : h ≡ g = some_is h g some in
          (ap (λ (z : Grant). z.ask.0) (sym same) ∙ sym k.0, subst (λ (z : Grant). In (Told (told.Granted z)) pool) same i))
      | inr k ↦ so a s g k.1 is
    ]

    act_tells : (sends : List Message) (x' : Node) → Act sha pool n x sends x' → AreTold x'.asks pool
    act_tells sends x' (Asks wants h) = pushed wants false
    act_tells sends x' (Asks_tenure f h) = pushed _ true
    act_tells sends x' (Asks_again b wants tenure at) = so
    act_tells sends x' Greets = so
    act_tells sends x' (Gives_back h i p q o keep') = so
    act_tells sends x' (Finishes wants h r a news store at idle slots some ok) = none_left a (Running wants h r) _ at refl
    act_tells sends x' (Gives_up wants h r a at idle) = elim at [ inl k ↦ none_left a (Holding wants h r) _ k refl | inr k ↦ none_left a (Running wants h r) _ k refl ]
    act_tells sends x' (Sends_commit wants h a news at) = so
    act_tells sends x' (Asks_content other d) = so
    act_tells sends x' (Sends_blob other c) = so
    act_tells sends x' Restarts = λ a s g at is. nothing a s at
      where
        nothing : {P : Type 0} (a : ℕ) (s : KeptAsk) → ◌≡◌ {A = Option KeptAsk} (nth [] a) (Some s) → P
        nothing zero s at = absurd (cc)
        nothing (suc a) s at = absurd (cc)
    act_tells sends x' (Takes h wants tenure i p q e) = taken h wants (Open wants tenure) e i
    act_tells sends x' (Begins wants h r a at all) = was_set a (Holding wants h r) (Running wants h r) at (λ g e. e)
    act_tells sends x' (Learns wants h a news versions i at) = none_left a (Finished wants h news) _ at refl
    act_tells sends x' (Drops wants h a news i at) = none_left a (Finished wants h news) _ at refl
    act_tells sends x' (Is_denied a why wants tenure i at) = none_left a.0 (Open wants tenure) _ at refl
    act_tells sends x' (Is_recalled wants h a i at) = was_set a (Holding wants h false) (Holding wants h true) at (λ g e. e)
    act_tells sends x' (Is_recalled_running wants h a i at) = was_set a (Running wants h false) (Running wants h true) at (λ g e. e)
    act_tells sends x' (Stores c) = so
    act_tells sends x' (Forgets d c e) = so
    act_tells sends x' Stops = so

-- ---- every run

more_told : (asks : List KeptAsk) (pool sends : List Message) → AreTold asks pool → AreTold asks (pool ++ sends)
more_told asks pool sends so a s g at is = (let r = so a s g at is in (r.0, in_left (Told (told.Granted g)) pool sends r.1))

module _ (sha : List ℕ → Digest) where
  move_told : (w u : World) → Move sha w u → AllTold w → AllTold u
  move_told w u (Node_moves n sends x act) t = record {
    made = λ g i. elim (in_append (Told (told.Granted g)) w.pool sends i) [ inl o ↦ t.made g o | inr q ↦ absurd (act_grants sha w.pool n (w.nodes n.0) sends x act g q) ];
    kept = t.kept;
    asks = λ j. more_told (put n.0 x w.nodes j).asks w.pool sends (at j);
  }
    where
      at : (j : ℕ) → AreTold (put n.0 x w.nodes j).asks w.pool
      at j = elim (cases_eq j n.0) [
        | inl e ↦ subst (λ (y : Node). AreTold y.asks w.pool) (sym (ap (put n.0 x w.nodes) e ∙ put_same n.0 x w.nodes)) (act_tells sha w.pool n (w.nodes n.0) (t.asks n.0) sends x act)
        | inr ne ↦ subst (λ (y : Node). AreTold y.asks w.pool) (sym (put_other n.0 x w.nodes j ne)) (t.asks j)
      ]
  move_told w u (Machine_moves m up step) t = record {
    made = λ g i. step_keeps (sha []) w.pool w.machine m step (Granted g) (t.made g i);
    kept = λ m' at x i. (let bad : ◌≡◌ {A = Option Machine} None (Some m') = sym up ∙ at in absurd (cc));
    asks = t.asks;
  }
  move_told w u (Machine_says y up says) t = record {
    made = λ g i. elim (in_append (Told (told.Granted g)) w.pool (Told y ∷ []) i) [
      | inl o ↦ t.made g o
      | inr q ↦ says_made (sha []) w.pool w.machine g y says (told_is g y (in_one (Told (told.Granted g)) (Told y) q))
    ];
    kept = t.kept;
    asks = λ j. more_told (w.nodes j).asks w.pool (Told y ∷ []) (t.asks j);
  }
    where
      told_is : (g : Grant) (y : FromCoord) → Told (told.Granted g) ≡ Told y → y ≡ told.Granted g
      told_is g y e = (let same : told.Granted g ≡ y = cc in sym same)
  move_told w u (Fails m up steps) t = record {
    made = t.made;
    kept = λ m' at x i. subst (λ (z : Machine). In x z.made) (some_is m m' at) (steps_keep (sha []) w.pool w.machine m steps x i);
    asks = t.asks;
  }
  move_told w u (Recovers m at) t = record {
    made = λ g i. t.kept m at (Granted g) (t.made g i);
    kept = λ m' none x i. absurd (cc);
    asks = t.asks;
  }

  moves_told : (w u : World) → Moves sha w u → AllTold w → AllTold u
  moves_told w u (Still v) t = t
  moves_told w u (Then a v b moves move) t = move_told v u move (moves_told w v moves t)

  start_told : AllTold (start sha)
  start_told = record {
    made = λ g i. absurd i;
    kept = λ m at x i. absurd i;
    asks = λ n a s g at is. nothing a s at;
  }
    where
      nothing : {P : Type 0} (a : ℕ) (s : KeptAsk) → ◌≡◌ {A = Option KeptAsk} (nth [] a) (Some s) → P
      nothing zero s at = absurd (cc)
      nothing (suc a) s at = absurd (cc)

  pub run_told : (w : World) → Moves sha (start sha) w → AllTold w
  run_told w moves = moves_told (start sha) w moves start_told

-- tickets fall, the newest first, so one ticket is of one grant
pub falling_one : (made : List Made) (g g' : Grant) → Falling made → In (Granted g) made → In (Granted g') made → g.ticket ≡ g'.ticket → g ≡ g'
falling_one [] g g' f i i' e = absurd i
falling_one (x ∷ xs) g g' f (inl i) (inl i') e = (let same : Granted g ≡ Granted g' = i ∙ sym i' in cc)
falling_one (x ∷ xs) g g' f (inl i) (inr i') e =
    (let less = f.0 (Granted g') i' in let at : ticket_of x ≡ g.ticket.0 = ap ticket_of (sym i) in let same : g.ticket.0 ≡ g'.ticket.0 = ap (λ (t : Ticket). t.0) e in absurd (omega (arith, less, at, same)))
falling_one (x ∷ xs) g g' f (inr i) (inl i') e =
    (let less = f.0 (Granted g) i in let at : ticket_of x ≡ g'.ticket.0 = ap ticket_of (sym i') in let same : g.ticket.0 ≡ g'.ticket.0 = ap (λ (t : Ticket). t.0) e in absurd (omega (arith, less, at, same)))
falling_one (x ∷ xs) g g' f (inr i) (inr i') e = falling_one xs g g' f.1 i i' e

-- no two asks of a node have one ticket
pub one_ask : (w : World) → AllTold w → Falling w.machine.made → (n a a' : ℕ) (s s' : KeptAsk) (g g' : Grant) → nth (w.nodes n).asks a ≡ Some s → lease_in s ≡ Some g → nth (w.nodes n).asks a' ≡ Some s' → lease_in s' ≡ Some g'
    → g.ticket ≡ g'.ticket → a ≡ a'
one_ask w t f n a a' s s' g g' at is at' is' e =
    let r = t.asks n a s g at is in
    let r' = t.asks n a' s' g' at' is' in
    let same = falling_one w.machine.made g g' f (t.made g r.1) (t.made g' r'.1) e in
    sym r.0 ∙ ap (λ (z : Grant). z.ask.0) same ∙ r'.0
