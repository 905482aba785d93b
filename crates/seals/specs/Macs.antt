-- The MAC of a text under a key: HMAC-SHA256, as RFC 2104 defines it in section 2 over FIPS 180-4's SHA-256.
use Rattle.std.specs.Prelude.{ℕ, ◌-◌, nat_lt, nat_eq, if◌then◌else◌, List, ◌++◌, length, take, map, replicate, slice_index, bit_xor, codes, decimal}
use Rattle.hex.specs.Hex.{encode_lower}
use Rattle.sha2.specs.Sha256.{sha256}

-- a key of more than one block is hashed first
abbrev pub short_key : List ℕ → List ℕ
short_key key = if nat_lt 64 (length key) then sha256 key else key

-- the key K, filled up with zeros to a block of 64 bytes
abbrev pub key_block : List ℕ → List ℕ
key_block key = short_key key ++ replicate (64 - length (short_key key)) 0

-- K XOR ipad or opad: a block with this byte added to each of its bytes, without carry
abbrev pub block_xor : List ℕ → ℕ → List ℕ
block_xor block pad = map (λ byte. bit_xor byte pad) block

-- H(K XOR opad, H(K XOR ipad, text)), where ipad repeats the byte 0x36 and opad the byte 0x5c
unfoldable pub hmac_sha256 : List ℕ → List ℕ → List ℕ
hmac_sha256 key text = sha256 (block_xor (key_block key) 0x5c ++ sha256 (block_xor (key_block key) 0x36 ++ text))

-- the bytes of a key's file, without a last LF
abbrev pub without_end : List ℕ → List ℕ
without_end file = if nat_eq (slice_index file (length file - 1)) 10 then take (length file - 1) file else file

-- what is said of a node and an epoch
abbrev pub node_name : ℕ → ℕ → List ℕ
node_name node epoch = codes "key of node " ++ (decimal node ++ (codes " in epoch " ++ decimal epoch))

-- the key of the node in the epoch, under the farm's key: the digits of the MAC of this. As digits it has no LF at its end,
-- which would not be of the key of a file
abbrev pub node_key : List ℕ → ℕ → ℕ → List ℕ
node_key key node epoch = encode_lower (hmac_sha256 key (node_name node epoch))
