-- How many messages one message makes a node send.
use Rattle.std.proofs.Common.{◌≡◌, ℕ, zero, suc, ◌+◌, ◌*◌, ◌≤◌, ◌==◌, Bool, true, false, not, ◌&&◌, cond, List, [], ◌∷◌, ◌++◌, length, filter, Option, Some, None, refl, ap, arith, length-append}
use Rattle.std.proofs.lemmas.List.{length-map}
use Rattle.std.specs.List.{list_any}
use Rattle.names.specs.declared.digest.Digest.{Digest}
use Rattle.farm_base.specs.declared.message.FromCoord.{FromCoord}
use Rattle.farm_base.specs.declared.message.FromCoord.TheVariants as coord
use Rattle.names.specs.Contents.{content_digest}
use Rattle.protocol.specs.Farm.{farm_limits}
use Rattle.protocol.specs.Lists.{nth}
use Rattle.protocol.specs.Names.{NodeId, Ticket, Ask}
use Rattle.protocol.specs.Ledger.{Limits}
use Rattle.protocol.specs.Machine.{Message, Grant, GrantedSlot, Confirmed, Why}
use Rattle.protocol.specs.World.{Node, keeps}
use Rattle.events.specs.declared.ask.KeptAsk.{KeptAsk}
use Rattle.events.specs.declared.ask.KeptAsk.TheVariants.{Open, Holding, Running, Finished, Over}
use Rattle.protocol.specs.Nodes.{NodeWork, Place, Sent, nodes_from, fetches, fetches_of, is_missing, is_stored, is_base, gives_back, granted, learned, dropped, denied, recalled, first, finished, recallable, fetched, heard}
use Rattle.farm_base.specs.declared.message.ToNode.{ToNode}
use Rattle.farm_base.specs.declared.message.ToNode.TheVariants.{FromCoord as Told, Fetch, Blob}
use Rattle.nodecore.specs.Shown.{message_work, granted_slots, slots_told}
use Rattle.nodecore.proofs.FetchLemmas.{fetches_slot, fetches_end, is_other}

nodes_length : (i k : ℕ) → length (nodes_from i k) ≡ k
nodes_length i zero = refl
nodes_length i (suc k) = ap suc (nodes_length (i + 1) k)

kept_length : {A : Type 0} (b : Bool) (x : A) (ys : List A) (n : ℕ) → length ys ≤ n → length (cond b (x ∷ ys) ys) ≤ suc n
kept_length true x ys n h = omega (arith, h)
kept_length false x ys n h = omega (arith, h)

filter_length : {A : Type 0} (p : A → Bool) (xs : List A) → length (filter p xs) ≤ length xs
filter_length p [] = omega arith
filter_length p (x ∷ xs) = kept_length (p x) x (filter p xs) (length xs) (filter_length p xs)

-- one digest is asked for at most once of each node
one_digest : (at : Place) (d : Digest) → length (fetches_of at d) ≤ at.nodes
one_digest at d = rw length-map (omega (arith, filter_length (is_other at) (nodes_from 1 at.nodes), nodes_length 1 at.nodes))

slot_length : (b : Bool) (xs ys : List Message) (m n : ℕ) → length xs ≤ m → length ys ≤ n → length (cond b xs [] ++ ys) ≤ m + n
slot_length true xs ys m n h e = rw (length-append xs ys) (omega (arith, h, e))
slot_length false xs ys m n h e = omega (arith, e)

-- the Fetches of slots are at most one for each slot and node
pub fetches_length : (k : Limits) (at : Place) (x : Node) (slots : List GrantedSlot) → length (fetches k at x slots) ≤ length slots * at.nodes
fetches_length k at x [] = omega (arith, ap length (fetches_end k at x))
fetches_length k at x (u ∷ us) =
    let rest = fetches_length k at x us in
    let here = slot_length (is_missing k x u) (fetches_of at u.digest) (fetches k at x us) at.nodes (length us * at.nodes) (one_digest at u.digest) rest in
    omega (arith, here, ap length (fetches_slot k at x u us (is_missing k x u) refl))

-- any other rule sends at most one

gives_back_one : (at : Place) (g : Grant) (b : Bool) (x : Node) → length (gives_back at g b x).sends ≤ 1
gives_back_one at g true x = omega arith
gives_back_one at g false x = omega arith

granted_few : (k : Limits) (at : Place) (g : Grant) (x : Node) (o : Option KeptAsk) (n : ℕ) → length g.slots * at.nodes ≤ n → 1 ≤ n → length (granted k at g x o).sends ≤ n
granted_few k at g x None n h e = omega (arith, gives_back_one at g false x, e)
granted_few k at g x (Some (Open wants tenure)) n h e = omega (arith, fetches_length k at x g.slots, h)
granted_few k at g x (Some (Holding wants l r)) n h e = omega (arith, gives_back_one at g (keeps (Holding wants l r) g.ticket) x, e)
granted_few k at g x (Some (Running wants l r)) n h e = omega (arith, gives_back_one at g (keeps (Running wants l r) g.ticket) x, e)
granted_few k at g x (Some (Finished wants l news)) n h e = omega (arith, gives_back_one at g (keeps (Finished wants l news) g.ticket) x, e)
granted_few k at g x (Some (Over how)) n h e = omega (arith, gives_back_one at g false x, e)

learned_none : (t : Ticket) (versions : List Confirmed) (x : Node) (o : Option (ℕ × Sent)) → length (learned t versions x o).sends ≡ 0
learned_none t versions x None = refl
learned_none t versions x (Some (a, s)) = refl

dropped_none : (t : Ticket) (x : Node) (o : Option (ℕ × Sent)) → length (dropped t x o).sends ≡ 0
dropped_none t x None = refl
dropped_none t x (Some (a, s)) = refl

denied_none : (a : Ask) (why : Why) (x : Node) (o : Option KeptAsk) → length (denied a why x o).sends ≡ 0
denied_none a why x None = refl
denied_none a why x (Some (Open wants tenure)) = refl
denied_none a why x (Some (Holding wants g r)) = refl
denied_none a why x (Some (Running wants g r)) = refl
denied_none a why x (Some (Finished wants g news)) = refl
denied_none a why x (Some (Over how)) = refl

recalled_none : (t : Ticket) (x : Node) (o : Option (ℕ × KeptAsk)) → length (recalled t x o).sends ≡ 0
recalled_none t x None = refl
recalled_none t x (Some (a, s)) = refl

fetched_few : (from : NodeId) (x : Node) (o : Option (List ℕ)) → length (fetched from x o).sends ≤ 1
fetched_few from x None = omega arith
fetched_few from x (Some c) = omega arith

-- what is done where a test says so
chosen_few : (b : Bool) (w v : NodeWork) (n : ℕ) → length w.sends ≤ n → length v.sends ≤ n → length (cond b w v).sends ≤ n
chosen_few true w v n h e = h
chosen_few false w v n h e = e

heard_few : (k : Limits) (at : Place) (x : Node) (m : FromCoord) (n : ℕ) → length (slots_told m) * at.nodes ≤ n → 1 ≤ n → length (heard k at m x).sends ≤ n
heard_few k at x (coord.Granted g) n h e = chosen_few (g.life.0 == x.life.0) _ _ n (granted_few k at g x (nth x.asks g.ask.0) n h e) (omega arith)
heard_few k at x (coord.Committed m l t versions) n h e = chosen_few (l.0 == x.life.0) _ _ n (omega (arith, learned_none t versions x (first (finished t) x.asks 0))) (omega arith)
heard_few k at x (coord.Fenced m l t) n h e = chosen_few (l.0 == x.life.0) _ _ n (omega (arith, dropped_none t x (first (finished t) x.asks 0))) (omega arith)
heard_few k at x (coord.Denied m l a why) n h e = chosen_few (l.0 == x.life.0) _ _ n (omega (arith, denied_none a why x (nth x.asks a.0))) (omega arith)
heard_few k at x (coord.Recall m l t) n h e = chosen_few (l.0 == x.life.0) _ _ n (omega (arith, recalled_none t x (first (recallable t) x.asks 0))) (omega arith)

-- what a message makes a node send
pub sends_few : (at : Place) (x : Node) (m : ToNode) (n : ℕ) → length (granted_slots m) * at.nodes ≤ n → 1 ≤ n → length (message_work at x m).sends ≤ n
sends_few at x (Told m) n h e = heard_few farm_limits at x m n h e
sends_few at x (Fetch m) n h e = omega (arith, fetched_few m.from x (x.store m.digest), e)
sends_few at x (Blob to c) n h e = chosen_few (not (is_stored x (content_digest c)) && list_any (is_base (content_digest c)) x.asks) _ _ n (omega arith) (omega arith)
