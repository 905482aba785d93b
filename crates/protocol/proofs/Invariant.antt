-- The invariant of the world, and what of it stays as the world goes on.
use Rattle.std.proofs.Common.{◌≡◌, ◌≢◌, ℕ, ◌<◌, ◌≤◌, List, [], ◌⊎◌, Bool, true, false, not, eqb, Some, subst, inl, inr, arith, ap}
use Rattle.std.specs.Prelude.{⊤}
use Rattle.farm_base.specs.Kinds.{is_tenure}
use Rattle.protocol.specs.Lists.{In, nth}
use Rattle.protocol.specs.Names.{Slot, NodeId, Life, Ticket, Digest, Want, FolderName, wants_shared, tenure_wants}
use Rattle.protocol.specs.Machine.{Grant, News, Confirmed, Ending, Committed, Released, Withdrawn, Died, Granted, Message, Said, ToCoord, FromCoord, acquire, WasHeard, Machine, AnswersAsk, line, written, slots_of, Names, Stands}
use Rattle.farm_base.specs.declared.message.Message.TheVariants as to
use Rattle.farm_base.specs.declared.message.ToNode.TheVariants as to_node
use Rattle.farm_base.specs.declared.message.Request.{Request}
use Rattle.farm_base.specs.declared.message.Request.TheVariants.{Hello, Acquire, Commit, Release}
use Rattle.farm_base.specs.declared.message.FromCoord.TheVariants as told
use Rattle.protocol.specs.World.{KeptAsk, Open, Holding, Running, Finished, Over, Node, World, WantsNow, for_tenure}
use Rattle.protocol.proofs.Base.{front_get}
use Rattle.protocol.proofs.Steps.{Sound, Later, names_later}

-- the ask was made with these wants
abbrev pub Wanted : KeptAsk → List Want → Bool → Type 0
Wanted (Open ws t) wants tenure = (ws ≡ wants) × (t ≡ tenure)
Wanted (Holding ws g r) wants tenure = (ws ≡ wants) × (is_tenure g.kind ≡ tenure)
Wanted (Running ws g r) wants tenure = (ws ≡ wants) × (is_tenure g.kind ≡ tenure)
Wanted (Finished ws g news) wants tenure = (ws ≡ wants) × (is_tenure g.kind ≡ tenure)
Wanted (Over how) wants tenure = ⊤

-- under this ticket the ask neither executes nor will
abbrev pub spent : KeptAsk → ℕ → Bool
spent (Open ws t) k = false
spent (Holding ws g r) k = not (eqb g.ticket.0 k)
spent (Running ws g r) k = not (eqb g.ticket.0 k)
spent (Finished ws g news) k = true
spent (Over how) k = true

abbrev pub WasAsked : Node → Life → ℕ → List Want → Bool → Type 0
WasAsked x l a wants tenure = (l.0 < x.life.0) ⊎ ((l ≡ x.life) × ((s : KeptAsk) × (nth x.asks a ≡ Some s) × Wanted s wants tenure))

-- the execution of the grant is over and can't begin
abbrev pub Spent : Node → Grant → Type 0
Spent x g = (g.life.0 < x.life.0) ⊎ ((g.life ≡ x.life) × ((s : KeptAsk) × (nth x.asks g.ask.0 ≡ Some s) × (spent s g.ticket.0 ≡ true)))

-- a tenure is asked for with its folder alone
abbrev pub ForTenure : Bool → List Want → Type 0
ForTenure tenure wants = tenure ≡ true → (f : FolderName) × (wants ≡ tenure_wants f)

-- a grant to this node, life and ask
abbrev pub Its : Machine → NodeId → Life → ℕ → Grant → Type 0
Its m n l a g = In (Granted g) m.made × (g.node ≡ n) × (g.life ≡ l) × (g.ask.0 ≡ a)

abbrev pub StateOk : Machine → NodeId → Life → ℕ → KeptAsk → Type 0
StateOk m n l a (Open wants tenure) = ForTenure tenure wants
StateOk m n l a (Holding wants g r) = Its m n l a g × AnswersAsk g wants
StateOk m n l a (Running wants g r) = Its m n l a g × AnswersAsk g wants
StateOk m n l a (Finished wants g news) = Its m n l a g × AnswersAsk g wants × (slots_of news ≡ written g.slots) × (news ≢ [])
StateOk m n l a (Over how) = ⊤

-- a tenure of the folder is in use
abbrev pub HasTenure : List KeptAsk → FolderName → Type 0
HasTenure asks f = (b : ℕ) × (wants : List Want) × (g : Grant) × (r : Bool) × (v : Want) × (nth asks b ≡ Some (Running wants g r)) × (is_tenure g.kind ≡ true) × In v wants × (v.folder ≡ f)

-- each ask with a SHARED want, but the tenures themselves, is where its tenure is in use
abbrev pub AtHome : List KeptAsk → Type 0
AtHome asks = (a : ℕ) (s : KeptAsk) (w : Want) → nth asks a ≡ Some s → WantsNow s w → wants_shared w ≡ true → for_tenure s ≡ false → HasTenure asks w.folder

pub record NodeOk (sha : List ℕ → Digest) (m : Machine) (n : NodeId) (x : Node) : Type 0 where
  pub states : (a : ℕ) (s : KeptAsk) → nth x.asks a ≡ Some s → StateOk m n x.life a s
  pub known : (s : Slot) (k : ℕ) (d : Digest) → x.known s k ≡ Some d → Names (sha []) (line (sha []) m s) k d
  pub stored : (d : Digest) (c : List ℕ) → x.store d ≡ Some c → sha c ≡ d
  pub homes : AtHome x.asks

-- a grant of this ticket to this life of this node was made
abbrev pub WasGiven : Machine → NodeId → Life → Ticket → Grant → Type 0
WasGiven m n l t g = In (Granted g) m.made × (g.ticket ≡ t) × (g.node ≡ n) × (g.life ≡ l)

abbrev pub RequestOk : Machine → Node → NodeId → Life → Request → Type 0
RequestOk m x n l Hello = l.0 ≤ x.life.0
RequestOk m x n l (Acquire a wants tenure) = WasAsked x l a.0 wants tenure × ForTenure tenure wants
RequestOk m x n l (Commit t news) = (g : Grant) × WasGiven m n l t g × (slots_of news ≡ written g.slots) × (news ≢ []) × Spent x g
RequestOk m x n l (Release t) = (g : Grant) × WasGiven m n l t g × Spent x g

abbrev pub ToldOk : Digest → Machine → FromCoord → Type 0
ToldOk empty m (told.Granted g) = In (Granted g) m.made
ToldOk empty m (told.Committed n l t versions) = ((v : Confirmed) → In v versions → Stands empty m t v) × (versions ≢ [])
ToldOk empty m (told.Fenced n l t) = (y : Ending) × (m.ending t.0 ≡ Some y) × ((news : List News) → y ≢ Committed news)
ToldOk empty m (told.Denied n l a why) = ⊤
ToldOk empty m (told.Recall n l t) = ⊤

abbrev pub MessageOk : Digest → Machine → (ℕ → Node) → Message → Type 0
MessageOk empty m nodes (to.ToCoord y) = RequestOk m (nodes y.node.0) y.node y.life y.request
MessageOk empty m nodes (to.ToNode (to_node.FromCoord y)) = ToldOk empty m y
MessageOk empty m nodes (to.ToNode (to_node.Fetch y)) = ⊤
MessageOk empty m nodes (to.ToNode (to_node.Blob n c)) = ⊤

-- what an ending says of the node
abbrev pub Fate : (ℕ → Node) → Grant → Ending → Type 0
Fate nodes g (Committed news) = Spent (nodes g.node.0) g
Fate nodes g Released = Spent (nodes g.node.0) g
Fate nodes g Withdrawn = ⊤
Fate nodes g Died = g.life.0 < (nodes g.node.0).life.0

-- the grant answers an ask that was sent
abbrev pub WasWanted : List Message → Grant → Type 0
WasWanted pool g = (wants : List Want) × In (acquire g.node g.life g.ask wants (is_tenure g.kind)) pool × AnswersAsk g wants

pub record Inv (sha : List ℕ → Digest) (w : World) : Type 0 where
  pub sound : Sound (sha []) w.machine
  pub messages : (x : Message) → In x w.pool → MessageOk (sha []) w.machine w.nodes x
  pub fates : (g : Grant) (y : Ending) → In (Granted g) w.machine.made → w.machine.ending g.ticket.0 ≡ Some y → Fate w.nodes g y
  pub nodes : (n : NodeId) → NodeOk sha w.machine n (w.nodes n.0)
  pub asked : (g : Grant) → In (Granted g) w.machine.made → WasWanted w.pool g

-- a node goes on
pub record Ahead (x x' : Node) : Type 0 where
  pub life : x.life.0 ≤ x'.life.0
  pub asked : (l : Life) (a : ℕ) (wants : List Want) (tenure : Bool) → WasAsked x l a wants tenure → WasAsked x' l a wants tenure
  pub spent : (g : Grant) → Spent x g → Spent x' g

pub ahead_refl : (x : Node) → Ahead x x
ahead_refl x = record { life = omega arith; asked = λ l a wants tenure h. h; spent = λ g h. h }

pub stands_later : (empty : Digest) (m m' : Machine) (t : Ticket) (v : Confirmed) → Later empty m m' → Stands empty m t v → Stands empty m' t v
stands_later empty m m' t v later h = (h.0, h.1, front_get (line empty m v.slot) (line empty m' v.slot) h.0 (record { ticket = t; digest = v.digest }) (later.lines v.slot) h.2)

given_later : (empty : Digest) (m m' : Machine) (n : NodeId) (l : Life) (t : Ticket) (g : Grant) → Later empty m m' → WasGiven m n l t g → WasGiven m' n l t g
given_later empty m m' n l t g later h = (later.made (Granted g) h.0, h.1, h.2, h.3)

request_later : (empty : Digest) (m m' : Machine) (x x' : Node) (n : NodeId) (l : Life) (r : Request) → Later empty m m' → Ahead x x' → RequestOk m x n l r → RequestOk m' x' n l r
request_later empty m m' x x' n l Hello later ahead h = (let le : x.life.0 ≤ x'.life.0 = ahead.life in let was : l.0 ≤ x.life.0 = h in omega arith)
request_later empty m m' x x' n l (Acquire a wants tenure) later ahead h = (ahead.asked l a.0 wants tenure h.0, h.1)
request_later empty m m' x x' n l (Commit t news) later ahead h = (h.0, given_later empty m m' n l t h.0 later h.1, h.2, h.3, ahead.spent h.0 h.4)
request_later empty m m' x x' n l (Release t) later ahead h = (h.0, given_later empty m m' n l t h.0 later h.1, ahead.spent h.0 h.2)

told_later : (empty : Digest) (m m' : Machine) (y : FromCoord) → Later empty m m' → ToldOk empty m y → ToldOk empty m' y
told_later empty m m' (told.Granted g) later h = later.made (Granted g) h
told_later empty m m' (told.Committed n l t versions) later h = (λ v i. stands_later empty m m' t v later (h.0 v i), h.1)
told_later empty m m' (told.Fenced n l t) later h = (h.0, later.ending t.0 h.0 h.1, h.2)
told_later empty m m' (told.Denied n l a why) later h = tt
told_later empty m m' (told.Recall n l t) later h = tt

pub message_later : (empty : Digest) (m m' : Machine) (nodes nodes' : ℕ → Node) (x : Message) → Later empty m m' → ((n : ℕ) → Ahead (nodes n) (nodes' n)) → MessageOk empty m nodes x → MessageOk empty m' nodes' x
message_later empty m m' nodes nodes' (to.ToCoord y) later ahead h = request_later empty m m' (nodes y.node.0) (nodes' y.node.0) y.node y.life y.request later (ahead y.node.0) h
message_later empty m m' nodes nodes' (to.ToNode (to_node.FromCoord y)) later ahead h = told_later empty m m' y later h
message_later empty m m' nodes nodes' (to.ToNode (to_node.Fetch y)) later ahead h = tt
message_later empty m m' nodes nodes' (to.ToNode (to_node.Blob n c)) later ahead h = tt

pub fate_later : (nodes nodes' : ℕ → Node) (g : Grant) (y : Ending) → ((n : ℕ) → Ahead (nodes n) (nodes' n)) → Fate nodes g y → Fate nodes' g y
fate_later nodes nodes' g (Committed news) ahead h = (ahead g.node.0).spent g h
fate_later nodes nodes' g Released ahead h = (ahead g.node.0).spent g h
fate_later nodes nodes' g Withdrawn ahead h = tt
fate_later nodes nodes' g Died ahead h = (let le : (nodes g.node.0).life.0 ≤ (nodes' g.node.0).life.0 = (ahead g.node.0).life in let was : g.life.0 < (nodes g.node.0).life.0 = h in omega arith)

its_later : (empty : Digest) (m m' : Machine) (n : NodeId) (l : Life) (a : ℕ) (g : Grant) → Later empty m m' → Its m n l a g → Its m' n l a g
its_later empty m m' n l a g later h = (later.made (Granted g) h.0, h.1, h.2, h.3)

state_later : (empty : Digest) (m m' : Machine) (n : NodeId) (l : Life) (a : ℕ) (s : KeptAsk) → Later empty m m' → StateOk m n l a s → StateOk m' n l a s
state_later empty m m' n l a (Open wants tenure) later h = h
state_later empty m m' n l a (Holding wants g r) later h = (its_later empty m m' n l a g later h.0, h.1)
state_later empty m m' n l a (Running wants g r) later h = (its_later empty m m' n l a g later h.0, h.1)
state_later empty m m' n l a (Finished wants g news) later h = (its_later empty m m' n l a g later h.0, h.1, h.2, h.3)
state_later empty m m' n l a (Over how) later h = tt

pub node_later : (sha : List ℕ → Digest) (m m' : Machine) (n : NodeId) (x : Node) → Later (sha []) m m' → NodeOk sha m n x → NodeOk sha m' n x
node_later sha m m' n x later ok = record {
  states = λ a s e. state_later (sha []) m m' n x.life a s later (ok.states a s e);
  known = λ s k d e. names_later (sha []) (line (sha []) m s) (line (sha []) m' s) k d (later.lines s) (ok.known s k d e);
  stored = ok.stored;
  homes = ok.homes;
}

asked_life : (x : Node) (l : Life) (a : ℕ) (wants : List Want) (tenure : Bool) → WasAsked x l a wants tenure → l.0 ≤ x.life.0
asked_life x l a wants tenure (inl lt) = omega arith
asked_life x l a wants tenure (inr k) = (let e : l.0 ≡ x.life.0 = ap (λ (z : Life). z.0) k.0 in omega arith)

spent_life : (x : Node) (g : Grant) → Spent x g → g.life.0 ≤ x.life.0
spent_life x g (inl lt) = omega arith
spent_life x g (inr k) = (let e : g.life.0 ≡ x.life.0 = ap (λ (z : Life). z.0) k.0 in omega arith)

request_life : (m : Machine) (x : Node) (n : NodeId) (l : Life) (r : Request) → RequestOk m x n l r → l.0 ≤ x.life.0
request_life m x n l Hello h = h
request_life m x n l (Acquire a wants tenure) h = asked_life x l a.0 wants tenure h.0
request_life m x n l (Commit t news) h = subst (λ (z : Life). z.0 ≤ x.life.0) h.1.3 (spent_life x h.0 h.4)
request_life m x n l (Release t) h = subst (λ (z : Life). z.0 ≤ x.life.0) h.1.3 (spent_life x h.0 h.2)

-- no message is of a life that hasn't begun
pub heard_life : (empty : Digest) (m : Machine) (nodes : ℕ → Node) (pool : List Message) (n : NodeId) (l : Life) → ((x : Message) → In x pool → MessageOk empty m nodes x) → WasHeard pool n l → l.0 ≤ (nodes n.0).life.0
heard_life empty m nodes pool n l ok heard =
    let y : ToCoord = heard.0 in
    let le : y.life.0 ≤ (nodes y.node.0).life.0 = request_life m (nodes y.node.0) y.node y.life y.request (ok (Said y) heard.1) in
    subst (λ (z : NodeId). l.0 ≤ (nodes z.0).life.0) heard.2 (subst (λ (z : Life). z.0 ≤ (nodes y.node.0).life.0) heard.3 le)
