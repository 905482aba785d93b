-- Hashers that have taken in a key (RFC 2104, section 4: the intermediate results of the key's two blocks, computed once).
use Rattle.std.specs.Prelude.{ℕ, List}
use Rattle.sha2.specs.Hashers.{Holds256}
use Rattle.seals.specs.declared.hmac.KeyedHashers.{KeyedHashers}
use Rattle.seals.specs.Macs.{key_block, block_xor}

-- the hashers hold the key's block with ipad and with opad
pub record HasTaken (hashers : KeyedHashers) (key : List ℕ) : Type 0 where
  pub inner : Holds256 hashers.inner (block_xor (key_block key) 0x36)
  pub outer : Holds256 hashers.outer (block_xor (key_block key) 0x5c)
