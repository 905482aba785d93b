-- How an ask of a node goes on.
use Rattle.std.proofs.Common.{◌≡◌, ◌≢◌, ℕ, false, true, ◌<◌, List, [], ◌∷◌, ◌++◌, ◌⊎◌, Bool, Some, refl, sym, ◌∙◌, ap, subst, inl, inr, arith, append_assoc, append-nil}
use Rattle.events.specs.declared.answer.How.TheVariants as how
use Rattle.protocol.specs.Lists.{In, put, nth, set_nth}
use Rattle.protocol.specs.Names.{NodeId, Life, Digest, Want, tenure_wants}
use Rattle.protocol.specs.Machine.{Told, Message, Grant, News, slots_of, written, commit, release}
use Rattle.protocol.specs.World.{KeptAsk, Open, Holding, Running, Finished, Over, World, Node, Act, Asks, Asks_tenure, Asks_again, Greets, Takes, Gives_back, Begins, Finishes, Gives_up, Sends_commit, Learns, Drops, Is_denied, Is_recalled, Is_recalled_running, Stores, Forgets, Asks_content, Sends_blob, Restarts, Stops, Move, Node_moves, Machine_moves, Machine_says, Fails, Recovers, Moves, Still, Then}
use Rattle.protocol.proofs.Base.{in_left, in_right, some_is, put_same, put_other, nth-set_same, nth-set_other, nth-append, node_is}
use Rattle.std.proofs.lemmas.Bool.{cases_eq}
use Rattle.progress.specs.Progress.{is_open}

-- the execution under the grant hasn't ended
abbrev pub IsUnder : Grant → KeptAsk → Type 0
IsUnder g (Open wants tenure) = ⊥
IsUnder g (Holding wants other r) = other ≡ g
IsUnder g (Running wants other r) = other ≡ g
IsUnder g (Finished wants other news) = ⊥
IsUnder g (Over ending) = ⊥

-- it ended with a Release, or with a Commit
abbrev pub HasSaid : NodeId → Life → Grant → List Message → Type 0
HasSaid n l g pool = In (release n l g.ticket) pool ⊎ ((news : List News) × In (commit n l g.ticket news) pool × (slots_of news ≡ written g.slots) × (news ≢ []))

abbrev pub Goes : NodeId → Life → List Message → KeptAsk → KeptAsk → Type 0
Goes n l sends (Open wants tenure) after = (after ≡ Open wants tenure) ⊎ (is_open after ≡ false)
Goes n l sends (Holding wants g r) after = (is_open after ≡ false) × (IsUnder g after ⊎ HasSaid n l g sends)
Goes n l sends (Running wants g r) after = (is_open after ≡ false) × (IsUnder g after ⊎ HasSaid n l g sends)
Goes n l sends (Finished wants g news) after = is_open after ≡ false
Goes n l sends (Over ending) after = is_open after ≡ false

stays : (n : NodeId) (l : Life) (sends : List Message) (st : KeptAsk) → Goes n l sends st st
stays n l sends (Open wants tenure) = inl refl
stays n l sends (Holding wants g r) = (refl, inl refl)
stays n l sends (Running wants g r) = (refl, inl refl)
stays n l sends (Finished wants g news) = refl
stays n l sends (Over ending) = refl

abbrev AllGo : NodeId → Life → List Message → List KeptAsk → List KeptAsk → Type 0
AllGo n l sends asks later = (a : ℕ) (st : KeptAsk) → nth asks a ≡ Some st → (after : KeptAsk) × (nth later a ≡ Some after) × Goes n l sends st after

all_stay : (n : NodeId) (l : Life) (sends : List Message) (asks : List KeptAsk) → AllGo n l sends asks asks
all_stay n l sends asks a st e = (st, e, stays n l sends st)

all_push : (n : NodeId) (l : Life) (sends : List Message) (asks : List KeptAsk) (x : KeptAsk) → AllGo n l sends asks (asks ++ x ∷ [])
all_push n l sends asks x a st e = (st, nth-append asks (x ∷ []) a st e, stays n l sends st)

one_goes : (n : NodeId) (l : Life) (sends : List Message) (asks : List KeptAsk) (place : ℕ) (x old : KeptAsk) → nth asks place ≡ Some old → Goes n l sends old x → AllGo n l sends asks (set_nth asks place x)
one_goes n l sends asks place x old was goes a st e = elim (cases_eq a place) [
  | inl same ↦ (
      let is : old ≡ st = some_is old st (sym was ∙ ap (nth asks) (sym same) ∙ e) in
      (x, ap (nth (set_nth asks place x)) same ∙ nth-set_same asks place x old was, subst (λ z. Goes n l sends z x) is goes))
  | inr other ↦ (st, nth-set_other asks place a x other ∙ e, stays n l sends st)
]

-- the node is in a newer life, or its asks go on
abbrev GoesOn : NodeId → Node → List Message → Node → Type 0
GoesOn n x sends y = (x.life.0 < y.life.0) ⊎ ((y.life ≡ x.life) × AllGo n x.life sends x.asks y.asks)

module _ (sha : List ℕ → Digest) where
  acts : (pool : List Message) (n : NodeId) (x : Node) (sends : List Message) (y : Node) → Act sha pool n x sends y → GoesOn n x sends y
  acts pool n x sends y (Asks wants a) = inr (refl, all_push n x.life sends x.asks (Open wants false))
  acts pool n x sends y (Asks_tenure f a) = inr (refl, all_push n x.life sends x.asks (Open (tenure_wants f) true))
  acts pool n x sends y (Asks_again ask wants tenure a) = inr (refl, all_stay n x.life sends x.asks)
  acts pool n x sends y Greets = inr (refl, all_stay n x.life sends x.asks)
  acts pool n x sends y (Takes g wants tenure a b c d) = inr (refl, one_goes n x.life sends x.asks g.ask.0 (Holding wants g false) (Open wants tenure) d (inr refl))
  acts pool n x sends y (Gives_back g a b c d e) = inr (refl, all_stay n x.life sends x.asks)
  acts pool n x sends y (Begins wants g r place a b) = inr (refl, one_goes n x.life sends x.asks place (Running wants g r) (Holding wants g r) a (refl, inl refl))
  acts pool n x sends y (Finishes wants g r place news store a b c d e) = inr (refl, one_goes n x.life sends x.asks place (Finished wants g news) (Running wants g r) a (refl, inr (inr (news, inl refl, c, d))))
  acts pool n x sends y (Gives_up wants g r place (inl a) b) = inr (refl, one_goes n x.life sends x.asks place (Over (how.Released g.ticket)) (Holding wants g r) a (refl, inr (inl (inl refl))))
  acts pool n x sends y (Gives_up wants g r place (inr a) b) = inr (refl, one_goes n x.life sends x.asks place (Over (how.Released g.ticket)) (Running wants g r) a (refl, inr (inl (inl refl))))
  acts pool n x sends y (Sends_commit wants g place news a) = inr (refl, all_stay n x.life sends x.asks)
  acts pool n x sends y (Learns wants g place news versions a b) = inr (refl, one_goes n x.life sends x.asks place (Over (how.Committed g.ticket versions)) (Finished wants g news) b refl)
  acts pool n x sends y (Drops wants g place news a b) = inr (refl, one_goes n x.life sends x.asks place (Over (how.Fenced g.ticket)) (Finished wants g news) b refl)
  acts pool n x sends y (Is_denied ask why wants tenure a b) = inr (refl, one_goes n x.life sends x.asks ask.0 (Over (how.Denied why)) (Open wants tenure) b (inr refl))
  acts pool n x sends y (Is_recalled wants g place a b) = inr (refl, one_goes n x.life sends x.asks place (Holding wants g true) (Holding wants g false) b (refl, inl refl))
  acts pool n x sends y (Is_recalled_running wants g place a b) = inr (refl, one_goes n x.life sends x.asks place (Running wants g true) (Running wants g false) b (refl, inl refl))
  acts pool n x sends y (Stores c) = inr (refl, all_stay n x.life sends x.asks)
  acts pool n x sends y (Forgets d c a) = inr (refl, all_stay n x.life sends x.asks)
  acts pool n x sends y (Asks_content other d) = inr (refl, all_stay n x.life sends x.asks)
  acts pool n x sends y (Sends_blob other c) = inr (refl, all_stay n x.life sends x.asks)
  acts pool n x sends y Restarts = inl (omega arith)
  acts pool n x sends y Stops = inr (refl, all_stay n x.life sends x.asks)

  -- ---- over any moves

  -- what was sent stands at the front of what is sent later
  pub pool_later : (w w' : World) → Moves sha w w' → (more : List Message) × (w'.pool ≡ w.pool ++ more)
  pool_later w w' (Still x) = ([], sym (append-nil w.pool))
  pool_later w w' (Then x v y some move) = (let r = pool_later w v some in by v w' move r.0 r.1)
    where
      by : (u z : World) → Move sha u z → (more : List Message) → u.pool ≡ w.pool ++ more → (after : List Message) × (z.pool ≡ w.pool ++ after)
      by u z (Node_moves node sends x act) more e = (more ++ sends, ap (λ (l : List Message). l ++ sends) e ∙ append_assoc w.pool more sends)
      by u z (Machine_moves machine up s) more e = (more, e)
      by u z (Machine_says telling up s) more e = (more ++ Told telling ∷ [], ap (λ (l : List Message). l ++ Told telling ∷ []) e ∙ append_assoc w.pool more (Told telling ∷ []))
      by u z (Fails machine up s) more e = (more, e)
      by u z (Recovers machine f) more e = (more, e)

  -- what a node comes to in any moves: P of it, which stays so at what the node does, and while more is sent
  module _ (n : NodeId) (P : List Message → Node → Type 0)
      (more : (pool sends : List Message) (x : Node) → P pool x → P (pool ++ sends) x)
      (does : (pool sends : List Message) (x y : Node) → GoesOn n x sends y → P pool x → P (pool ++ sends) y) where
    abbrev At : World → Type 0
    At w = P w.pool (w.nodes n.0)

    node_moved : (w w' : World) → Move sha w w' → At w → At w'
    node_moved w w' (Node_moves node sends x act) old = elim (cases_eq n.0 node.0) [
      | inl same ↦ (
          let is : n ≡ node = node_is n node same in
          let goes : GoesOn n (w.nodes n.0) sends x = subst (λ (v : NodeId). GoesOn v (w.nodes v.0) sends x) (sym is) (acts w.pool node (w.nodes node.0) sends x act) in
          let now : put node.0 x w.nodes n.0 ≡ x = subst (λ z. put node.0 x w.nodes z ≡ x) (sym same) (put_same node.0 x w.nodes) in
          subst (P (w.pool ++ sends)) (sym now) (does w.pool sends (w.nodes n.0) x goes old))
      | inr other ↦ subst (P (w.pool ++ sends)) (sym (put_other node.0 x w.nodes n.0 other)) (more w.pool sends (w.nodes n.0) old)
    ]
    node_moved w w' (Machine_moves machine up s) old = old
    node_moved w w' (Machine_says telling up s) old = more w.pool (Told telling ∷ []) (w.nodes n.0) old
    node_moved w w' (Fails machine up s) old = old
    node_moved w w' (Recovers machine e) old = old

    pub node_later : (w w' : World) → Moves sha w w' → At w → At w'
    node_later w w' (Still x) old = old
    node_later w w' (Then x v y some move) old = node_moved v w' move (node_later w v some old)

  -- ---- an open ask, and an execution

  -- the node is in a newer life, or the ask is open still or answered
  abbrev pub OpenOr : Life → ℕ → List Want → Bool → Node → Type 0
  OpenOr l a wants tenure x = (l.0 < x.life.0) ⊎ ((x.life ≡ l) × ((st : KeptAsk) × (nth x.asks a ≡ Some st) × ((st ≡ Open wants tenure) ⊎ (is_open st ≡ false))))

  -- or the execution under the grant goes on, or what it ended with was sent
  abbrev pub UnderOr : NodeId → Life → ℕ → Grant → List Message → Node → Type 0
  UnderOr n l a g pool x = (l.0 < x.life.0) ⊎ ((x.life ≡ l) × (((st : KeptAsk) × (nth x.asks a ≡ Some st) × IsUnder g st) ⊎ HasSaid n l g pool))

  lifts : (l : Life) (x y : Node) → l.0 < x.life.0 → (x.life.0 < y.life.0) ⊎ (y.life ≡ x.life) → l.0 < y.life.0
  lifts l x y old (inl up) = omega arith
  lifts l x y old (inr same) = subst (λ (z : Life). l.0 < z.0) (sym same) old

  goes_life : (n : NodeId) (x : Node) (sends : List Message) (y : Node) → GoesOn n x sends y → (x.life.0 < y.life.0) ⊎ (y.life ≡ x.life)
  goes_life n x sends y (inl up) = inl up
  goes_life n x sends y (inr on) = inr on.0

  open_does : (n : NodeId) (l : Life) (a : ℕ) (wants : List Want) (tenure : Bool) (sends : List Message) (x y : Node) → GoesOn n x sends y → OpenOr l a wants tenure x → OpenOr l a wants tenure y
  open_does n l a wants tenure sends x y goes (inl newer) = inl (lifts l x y newer (goes_life n x sends y goes))
  open_does n l a wants tenure sends x y (inl up) (inr was) = inl (subst (λ (z : Life). z.0 < y.life.0) was.0 up)
  open_does n l a wants tenure sends x y (inr on) (inr (same, (st, e, c))) = inr (on.0 ∙ same, (let r = on.1 a st e in (r.0, r.1, by st r.0 r.2 c)))
    where
      by : (st after : KeptAsk) → Goes n x.life sends st after → (st ≡ Open wants tenure) ⊎ (is_open st ≡ false) → (after ≡ Open wants tenure) ⊎ (is_open after ≡ false)
      by st after g (inl e) = subst (λ z. Goes n x.life sends z after) e g
      by (Open ws t) after g (inr e) = (let bad : true ≡ false = e in cc)
      by (Holding ws h r) after g (inr e) = inr g.0
      by (Running ws h r) after g (inr e) = inr g.0
      by (Finished ws h news) after g (inr e) = inr g
      by (Over ending) after g (inr e) = inr g

  said_more : (n : NodeId) (l : Life) (g : Grant) (pool sends : List Message) → HasSaid n l g pool → HasSaid n l g (pool ++ sends)
  said_more n l g pool sends (inl i) = inl (in_left (release n l g.ticket) pool sends i)
  said_more n l g pool sends (inr (news, i, a, b)) = inr (news, in_left (commit n l g.ticket news) pool sends i, a, b)

  said_right : (n : NodeId) (l : Life) (g : Grant) (pool sends : List Message) → HasSaid n l g sends → HasSaid n l g (pool ++ sends)
  said_right n l g pool sends (inl i) = inl (in_right (release n l g.ticket) pool sends i)
  said_right n l g pool sends (inr (news, i, a, b)) = inr (news, in_right (commit n l g.ticket news) pool sends i, a, b)

  under_more : (n : NodeId) (l : Life) (a : ℕ) (g : Grant) (pool sends : List Message) (x : Node) → UnderOr n l a g pool x → UnderOr n l a g (pool ++ sends) x
  under_more n l a g pool sends x (inl newer) = inl newer
  under_more n l a g pool sends x (inr (same, inl on)) = inr (same, inl on)
  under_more n l a g pool sends x (inr (same, inr said)) = inr (same, inr (said_more n l g pool sends said))

  under_goes : (n : NodeId) (l : Life) (g : Grant) (sends : List Message) (st after : KeptAsk) → IsUnder g st → Goes n l sends st after → IsUnder g after ⊎ HasSaid n l g sends
  under_goes n l g sends (Open ws t) after u goes = absurd u
  under_goes n l g sends (Holding ws h r) after u goes = subst (λ z. IsUnder z after ⊎ HasSaid n l z sends) u goes.1
  under_goes n l g sends (Running ws h r) after u goes = subst (λ z. IsUnder z after ⊎ HasSaid n l z sends) u goes.1
  under_goes n l g sends (Finished ws h news) after u goes = absurd u
  under_goes n l g sends (Over ending) after u goes = absurd u

  under_does : (n : NodeId) (l : Life) (a : ℕ) (g : Grant) (pool sends : List Message) (x y : Node) → GoesOn n x sends y → UnderOr n l a g pool x → UnderOr n l a g (pool ++ sends) y
  under_does n l a g pool sends x y goes (inl newer) = inl (lifts l x y newer (goes_life n x sends y goes))
  under_does n l a g pool sends x y (inl up) (inr was) = inl (subst (λ (z : Life). z.0 < y.life.0) was.0 up)
  under_does n l a g pool sends x y (inr on) (inr (same, inr said)) = inr (on.0 ∙ same, inr (said_more n l g pool sends said))
  under_does n l a g pool sends x y (inr on) (inr (same, inl (st, e, u))) =
      let r = on.1 a st e in
      inr (
        on.0 ∙ same,
        elim (under_goes n l g sends st r.0 u (subst (λ (z : Life). Goes n z sends st r.0) same r.2)) [
          | inl still ↦ inl (r.0, r.1, still)
          | inr said ↦ inr (said_right n l g pool sends said)
        ],
      )

  pub open_later : (n : NodeId) (l : Life) (a : ℕ) (wants : List Want) (tenure : Bool) (w w' : World) → Moves sha w w' → OpenOr l a wants tenure (w.nodes n.0) → OpenOr l a wants tenure (w'.nodes n.0)
  open_later n l a wants tenure = node_later n (λ pool x. OpenOr l a wants tenure x) (λ pool sends x old. old) (λ pool sends x y goes old. open_does n l a wants tenure sends x y goes old)

  pub under_later : (n : NodeId) (l : Life) (a : ℕ) (g : Grant) (w w' : World) → Moves sha w w' → UnderOr n l a g w.pool (w.nodes n.0) → UnderOr n l a g w'.pool (w'.nodes n.0)
  under_later n l a g = node_later n (UnderOr n l a g) (under_more n l a g) (under_does n l a g)
