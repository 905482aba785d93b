-- An ask is always sent with the same wants.
use Rattle.std.proofs.Common.{◌≡◌, ℕ, zero, suc, ◌+◌, List, [], ◌∷◌, ◌++◌, ◌⊎◌, Bool, true, false, length, Some, slice_get, refl, sym, ◌∙◌, ap, subst, inl, inr, arith}
use Rattle.protocol.specs.Lists.{In, nth}
use Rattle.protocol.specs.Names.{NodeId, Life, Ask, Digest, Want, tenure_wants}
use Rattle.protocol.specs.Machine.{Message, ToCoord, Parked, Told, Said, acquire}
use Rattle.farm_base.specs.declared.message.Message.TheVariants as to
use Rattle.farm_base.specs.declared.message.Request.{Request}
use Rattle.farm_base.specs.declared.message.Request.TheVariants.{Hello, Acquire, Commit, Release}
use Rattle.protocol.specs.World.{KeptAsk, Open, Node, Act, Asks, Asks_tenure, Asks_again, Greets, Takes, Gives_back, Begins, Finishes, Gives_up, Sends_commit, Learns, Drops, Is_denied, Is_recalled, Is_recalled_running, Stores, Forgets, Asks_content, Sends_blob, Restarts, Stops, World, Move, Node_moves, Machine_moves, Machine_says, Fails, Recovers, Moves, Still, Then, start}
use Rattle.protocol.specs.Ledger.{Limits, begin_work}
use Rattle.protocol.specs.Replay.{Event, run, opening}
use Rattle.protocol.specs.Follows.{Shows, IsFarm, OnlyItself}
use Rattle.protocol.specs.Chronicle.{FittingMessageIsGranted}
use Rattle.protocol.proofs.Base.{in_append, in_one, none_some, some_is, nth_in, request_is}
use Rattle.protocol.proofs.Invariant.{Inv, Wanted, WasAsked}
use Rattle.protocol.proofs.Worlds.{moves_inv, start_whole}
use Rattle.protocol.proofs.Schedules.{from_opening}
use Rattle.protocol.proofs.Parking.{no_parked_ask_is_ready}
use Rattle.protocol.proofs.Answering.{fitting_ask_is_granted}

-- what is asked under one name is one
abbrev pub OneAsk : List Message → Type 0
OneAsk pool = (n : NodeId) (l : Life) (a : Ask) (ws ws' : List Want) (t t' : Bool) → In (acquire n l a ws t) pool → In (acquire n l a ws' t') pool → (ws ≡ ws') × (t ≡ t')

said_is : (y z : ToCoord) → Said y ≡ Said z → y ≡ z
said_is y z e = cc

acquire_is : (n n' : NodeId) (l l' : Life) (a a' : Ask) (ws ws' : List Want) (t t' : Bool) → acquire n l a ws t ≡ acquire n' l' a' ws' t' → (n ≡ n') × (l ≡ l') × (a ≡ a') × (ws ≡ ws') × (t ≡ t')
acquire_is n n' l l' a a' ws ws' t t' e =
    let y : ToCoord = record { node = n; life = l; request = Acquire a ws t } in
    let z : ToCoord = record { node = n'; life = l'; request = Acquire a' ws' t' } in
    let same : y ≡ z = said_is y z e in
    let r : Acquire a ws t ≡ Acquire a' ws' t' = ap (λ (x : ToCoord). x.request) same in
    let parts = request_is a a' ws ws' t t' r in
    (ap (λ (x : ToCoord). x.node) same, ap (λ (x : ToCoord). x.life) same, parts.0, parts.1, parts.2)

-- an Acquire that is sent is of a new ask, or of an open one
abbrev Sent : NodeId → Node → NodeId → Life → Ask → List Want → Bool → Type 0
Sent n x m l a ws t = (m ≡ n) × (l ≡ x.life) × ((a.0 ≡ length x.asks + 1) ⊎ (nth x.asks a.0 ≡ Some (Open ws t)))

no_get : {A : Type 0} (xs : List A) (v : A) → slice_get xs (length xs) ≡ Some v → ⊥
no_get [] v e = none_some v e
no_get (x ∷ xs) v e = no_get xs v e

past_end : (asks : List KeptAsk) (a : ℕ) (s : KeptAsk) → a ≡ length asks + 1 → nth asks a ≡ Some s → ⊥
past_end asks zero s e h = none_some s h
past_end asks (suc a) s e h = (let same : a ≡ length asks = omega arith in no_get asks s (ap (slice_get asks) (sym same) ∙ h))

module _ (sha : List ℕ → Digest) (w : World) (inv : Inv sha w) where
  -- an earlier Acquire of the same name has the same wants
  old_wants : (n : NodeId) (l : Life) (a : Ask) (ws ws' : List Want) (t t' : Bool) → Sent n (w.nodes n.0) n l a ws t → In (acquire n l a ws' t') w.pool → (ws' ≡ ws) × (t' ≡ t)
  old_wants n l a ws ws' t t' sent i = by (inv.messages (acquire n l a ws' t') i).0
    where
      by : WasAsked (w.nodes n.0) l a.0 ws' t' → (ws' ≡ ws) × (t' ≡ t)
      by (inl lt) = (let same : l.0 ≡ (w.nodes n.0).life.0 = ap (λ (z : Life). z.0) sent.1 in absurd (omega arith))
      by (inr k) = elim sent.2 [
        | inl new ↦ absurd (past_end (w.nodes n.0).asks a.0 k.1.0 new k.1.1)
        | inr now ↦ (let is : k.1.0 ≡ Open ws t = some_is k.1.0 (Open ws t) (sym k.1.1 ∙ now) in
            let wanted : Wanted (Open ws t) ws' t' = subst (λ s. Wanted s ws' t') is k.1.2 in
            (sym wanted.0, sym wanted.1))
      ]

abbrev by_request : Request → Bool
by_request Hello = false
by_request (Acquire a wants tenure) = true
by_request (Commit t news) = false
by_request (Release t) = false

abbrev is_acquire : Message → Bool
is_acquire (to.ToCoord y) = by_request y.request
is_acquire (to.ToNode y) = false

other_message : {P : Type 0} (m : NodeId) (l : Life) (a : Ask) (ws : List Want) (t : Bool) (y : Message) → is_acquire y ≡ false → In (acquire m l a ws t) (y ∷ []) → P
other_message m l a ws t y other i = (let bad : true ≡ false = ap is_acquire (in_one (acquire m l a ws t) y i) ∙ other in cc)

module _ (sha : List ℕ → Digest) (pool : List Message) (n : NodeId) (x : Node) where
  act_sends : (sends : List Message) (x' : Node) → Act sha pool n x sends x' → (m : NodeId) (l : Life) (a : Ask) (ws : List Want) (t : Bool) → In (acquire m l a ws t) sends → Sent n x m l a ws t
  act_sends sends x' (Asks wants h) m l a ws t i = (let e = acquire_is m n l x.life a (record { 0 = length x.asks + 1 }) ws wants t false (in_one (acquire m l a ws t) (acquire n x.life (record { 0 = length x.asks + 1 }) wants false) i) in (e.0, e.1, inl (ap (λ (z : Ask). z.0) e.2)))
  act_sends sends x' (Asks_tenure f h) m l a ws t i = (let e = acquire_is m n l x.life a (record { 0 = length x.asks + 1 }) ws (tenure_wants f) t true (in_one (acquire m l a ws t) (acquire n x.life (record { 0 = length x.asks + 1 }) (tenure_wants f) true) i) in (e.0, e.1, inl (ap (λ (z : Ask). z.0) e.2)))
  act_sends sends x' (Asks_again b wants tenure at) m l a ws t i = (let e = acquire_is m n l x.life a b ws wants t tenure (in_one (acquire m l a ws t) (acquire n x.life b wants tenure) i) in (e.0, e.1, inr (ap (λ (z : Ask). nth x.asks z.0) e.2 ∙ at ∙ ap (λ z. Some (Open z tenure)) (sym e.3) ∙ ap (λ z. Some (Open ws z)) (sym e.4))))
  act_sends sends x' Greets m' l' a' ws' t' z = other_message m' l' a' ws' t' _ refl z
  act_sends sends x' (Gives_back g i p q o keep') m' l' a' ws' t' z = other_message m' l' a' ws' t' _ refl z
  act_sends sends x' (Finishes wants g r a news store at idle slots some ok) m' l' a' ws' t' z = other_message m' l' a' ws' t' _ refl z
  act_sends sends x' (Gives_up wants g r a at idle) m' l' a' ws' t' z = other_message m' l' a' ws' t' _ refl z
  act_sends sends x' (Sends_commit wants g a news at) m' l' a' ws' t' z = other_message m' l' a' ws' t' _ refl z
  act_sends sends x' (Asks_content other d) m' l' a' ws' t' z = other_message m' l' a' ws' t' _ refl z
  act_sends sends x' (Sends_blob other c) m' l' a' ws' t' z = other_message m' l' a' ws' t' _ refl z
  act_sends sends x' Restarts m' l' a' ws' t' z = other_message m' l' a' ws' t' _ refl z
  act_sends sends x' (Takes g wants tenure i p q e) m' l' a' ws' t' z = absurd z
  act_sends sends x' (Begins wants g r a at all) m' l' a' ws' t' z = absurd z
  act_sends sends x' (Learns wants g a news versions i at) m' l' a' ws' t' z = absurd z
  act_sends sends x' (Drops wants g a news i at) m' l' a' ws' t' z = absurd z
  act_sends sends x' (Is_denied a why wants tenure i at) m' l' a' ws' t' z = absurd z
  act_sends sends x' (Is_recalled wants g a i at) m' l' a' ws' t' z = absurd z
  act_sends sends x' (Is_recalled_running wants g a i at) m' l' a' ws' t' z = absurd z
  act_sends sends x' (Stores c) m' l' a' ws' t' z = absurd z
  act_sends sends x' (Forgets d c e) m' l' a' ws' t' z = absurd z
  act_sends sends x' Stops m' l' a' ws' t' z = absurd z

  act_one : (sends : List Message) (x' : Node) → Act sha pool n x sends x' → (y z : Message) → In y sends → In z sends → y ≡ z
  act_one sends x' (Asks wants h) y z j k = in_one y _ j ∙ sym (in_one z _ k)
  act_one sends x' (Asks_tenure f h) y z j k = in_one y _ j ∙ sym (in_one z _ k)
  act_one sends x' (Asks_again b wants tenure e) y z j k = in_one y _ j ∙ sym (in_one z _ k)
  act_one sends x' Greets y z j k = in_one y _ j ∙ sym (in_one z _ k)
  act_one sends x' (Gives_back g i p q o keep') y z j k = in_one y _ j ∙ sym (in_one z _ k)
  act_one sends x' (Finishes wants g r a news store at idle slots some ok) y z j k = in_one y _ j ∙ sym (in_one z _ k)
  act_one sends x' (Gives_up wants g r a at idle) y z j k = in_one y _ j ∙ sym (in_one z _ k)
  act_one sends x' (Sends_commit wants g a news at) y z j k = in_one y _ j ∙ sym (in_one z _ k)
  act_one sends x' (Asks_content other d) y z j k = in_one y _ j ∙ sym (in_one z _ k)
  act_one sends x' (Sends_blob other c) y z j k = in_one y _ j ∙ sym (in_one z _ k)
  act_one sends x' Restarts y z j k = in_one y _ j ∙ sym (in_one z _ k)
  act_one sends x' (Takes g wants tenure i p q e) y z j k = absurd j
  act_one sends x' (Begins wants g r a at all) y z j k = absurd j
  act_one sends x' (Learns wants g a news versions i at) y z j k = absurd j
  act_one sends x' (Drops wants g a news i at) y z j k = absurd j
  act_one sends x' (Is_denied a why wants tenure i at) y z j k = absurd j
  act_one sends x' (Is_recalled wants g a i at) y z j k = absurd j
  act_one sends x' (Is_recalled_running wants g a i at) y z j k = absurd j
  act_one sends x' (Stores c) y z j k = absurd j
  act_one sends x' (Forgets d c e) y z j k = absurd j
  act_one sends x' Stops y z j k = absurd j

module _ (sha : List ℕ → Digest) where
  move_asks : (w u : World) → Inv sha w → Move sha w u → OneAsk w.pool → OneAsk u.pool
  move_asks w u inv (Node_moves n sends x act) one = λ m l a ws ws' t t' i j. elim (in_append (acquire m l a ws t) w.pool sends i) [
    | inl o ↦ elim (in_append (acquire m l a ws' t') w.pool sends j) [
      | inl p ↦ one m l a ws ws' t t' o p
      | inr q ↦ from_new m l a ws' ws t' t q o
    ]
    | inr q ↦ elim (in_append (acquire m l a ws' t') w.pool sends j) [
      | inl p ↦ (let r = from_new m l a ws ws' t t' q p in (sym r.0, sym r.1))
      | inr r ↦ (let e = acquire_is m m l l a a ws ws' t t' (act_one sha w.pool n (w.nodes n.0) sends x act (acquire m l a ws t) (acquire m l a ws' t') q r) in (e.3, e.4))
    ]
  ]
    where
      from_new : (m : NodeId) (l : Life) (a : Ask) (ws ws' : List Want) (t t' : Bool) → In (acquire m l a ws t) sends → In (acquire m l a ws' t') w.pool → (ws' ≡ ws) × (t' ≡ t)
      from_new m l a ws ws' t t' q p =
          let s = act_sends sha w.pool n (w.nodes n.0) sends x act m l a ws t q in
          let s' : Sent n (w.nodes n.0) n l a ws t = (refl, s.1, s.2) in
          old_wants sha w inv n l a ws ws' t t' s' (subst (λ z. In (acquire z l a ws' t') w.pool) s.0 p)
  move_asks w u inv (Machine_moves m up step) one = one
  move_asks w u inv (Machine_says y up says) one = λ m l a ws ws' t t' i j. one m l a ws ws' t t' (told m l a ws t i) (told m l a ws' t' j)
    where
      told : (m : NodeId) (l : Life) (a : Ask) (ws : List Want) (t : Bool) → In (acquire m l a ws t) (w.pool ++ Told y ∷ []) → In (acquire m l a ws t) w.pool
      told m l a ws t i = elim (in_append (acquire m l a ws t) w.pool (Told y ∷ []) i) [ inl o ↦ o | inr q ↦ other_message m l a ws t (Told y) refl q ]
  move_asks w u inv (Fails m up steps) one = one
  move_asks w u inv (Recovers m e) one = one

  moves_ask : (w u : World) → Moves sha (start sha) w → Moves sha w u → OneAsk w.pool → OneAsk u.pool
  moves_ask w u run (Still v) one = one
  moves_ask w u run (Then a v b moves move) one =
      let before = moves_ask w v run moves one in
      let whole = moves_inv sha (start sha) w (start_whole sha) run in
      move_asks v u (moves_inv sha w v whole.0 moves).0.now move before

-- in every world of a run
pub one_ask : (sha : List ℕ → Digest) (u : World) → Moves sha (start sha) u → OneAsk u.pool
one_ask sha u moves = moves_ask sha (start sha) u (Still (start sha)) moves (λ n l a ws ws' t t' i j. absurd i)

-- where an ask of this name is parked in a farm of a run, it is this one
pub only_itself : (sha : List ℕ → Digest) (k : Limits) → IsFarm sha k → (size : ℕ) (events : List Event) (u : World) → Moves sha (start sha) u → Shows sha u (run sha k events (opening sha size)) → (p : Parked)
    → In (acquire p.node p.life p.ask p.wants p.tenure) u.pool → OnlyItself (run sha k events (opening sha size)).ledger p
only_itself sha k farm size events u moves shows p sent z i n l a =
    let one : OneAsk u.pool = one_ask sha u moves in
    let was = (shows.now.asked z i).0 in
    let named : In (acquire p.node p.life p.ask z.wants z.tenure) u.pool = subst (λ (x : NodeId). In (acquire x p.life p.ask z.wants z.tenure) u.pool) n (subst (λ (x : Life). In (acquire z.node x p.ask z.wants z.tenure) u.pool) l (subst (λ (x : Ask). In (acquire z.node z.life x z.wants z.tenure) u.pool) a was)) in
    let same = one p.node p.life p.ask z.wants p.wants z.tenure p.tenure named sent in
    λ i. record { node = n i; life = l i; ask = a i; wants = same.0 i; tenure = same.1 i }

pub fitting_message_is_granted : FittingMessageIsGranted
fitting_message_is_granted sha k farm size events number p here gone current may =
    let r = from_opening sha k farm size events in
    let sent : In (acquire p.node p.life p.ask p.wants p.tenure) r.world.pool = subst (In (acquire p.node p.life p.ask p.wants p.tenure)) (sym r.shows.pool) (nth_in (run sha k events (opening sha size)).pool number (acquire p.node p.life p.ask p.wants p.tenure) here) in
    fitting_ask_is_granted k p (begin_work (run sha k events (opening sha size)).ledger) (no_parked_ask_is_ready sha k size events) (only_itself sha k farm size events r.world r.moves r.shows p sent) gone current may
