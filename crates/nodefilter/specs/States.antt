-- What contracts see of a node's filter.
use Rattle.std.specs.Prelude.{◌≡◌, ◌≢◌, ℕ, Bool, true, false, List, [], Some}
use Rattle.names.specs.Contents.{content_digest}
use Rattle.nodecore.specs.HeldAsks.{asks_held_by}
use Rattle.nodecore.specs.Shown.{forgets, shown, place}
use Rattle.protocol.specs.Names.{Digest, NodeId}
use Rattle.protocol.specs.Nodes.{Place}
use Rattle.protocol.specs.World.{Node}
use Rattle.nodestore.specs.Stores.{Kept}
use Rattle.nodefilter.specs.declared.filter.NodeFilter.{NodeFilter}
use Rattle.farmwire.specs.Sealed.{Keys, key_in}

pub record Seen (S : Type 0) : Type 0 where
  -- the protocol's node, and which one it is
  pub node : Node
  pub at : Place
  -- the asks that are over, and of which it isn't told any more how they ended
  pub forgets : ℕ → Bool
  -- how many asks are held
  pub held : ℕ
  pub me : NodeId
  pub keys : Keys
  pub store : S
  -- a content of the node could not be kept or forgotten
  pub down : Bool

abbrev pub seen : {S : Type 0} → NodeFilter S → Seen S
seen f =
    record { node = shown f.core; at = place f.core; forgets = forgets f.core; held = asks_held_by f.core; me = f.me; keys = key_in f.keys; store = f.store; down = f.down }

-- each content that the node stores is kept, but the empty one, which each node has
abbrev pub AreKept : {S : Type 0} → Kept S → Seen S → Type 0
AreKept kept f = (d : Digest) (c : List ℕ) → f.node.store d ≡ Some c → d ≢ content_digest [] → kept f.store d ≡ true

-- so it is while the filter is up
abbrev pub IsSound : {S : Type 0} → Kept S → Seen S → Type 0
IsSound kept f = f.down ≡ false → AreKept kept f
