-- The keys that a process has, and lines under them (this project's own).
use Rattle.std.specs.Prelude.{◌≡◌, ℕ, ◌==◌, if◌then◌else◌, List, Option, Some, None}
use Rattle.names.specs.declared.number.NodeId.{NodeId}
use Rattle.seals.specs.declared.keyring.Keyring.{Keyring}
use Rattle.seals.specs.declared.keyring.Keyring.TheVariants.{Farm, Node}
use Rattle.seals.specs.Macs.{node_key}
use Rattle.seals.specs.Seals.{with_mac}

-- which keys are known, as far as they are
abbrev pub Keys : Type 0
Keys = NodeId → Option (List ℕ)

-- those of a process: whoever has the farm's key has each node's, in its first epoch
abbrev pub key_in : Keyring → Keys
key_in (Farm farm) node = Some (node_key farm node.0 0)
key_in (Node owner key) node = if owner.0 == node.0 then Some key else None

-- the line is this text and its MAC, under the key of the node
pub record HasMac (keys : Keys) (node : NodeId) (text line : List ℕ) : Type 0 where
  pub key : List ℕ
  pub known : keys node ≡ Some key
  pub sealed : line ≡ with_mac key text
