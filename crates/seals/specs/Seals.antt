-- A sealed line, without its end: a text, a space, and the digits of its MAC under a key (this project's own).
use Rattle.std.specs.Prelude.{ℕ, List, ◌∷◌, ◌++◌}
use Rattle.hex.specs.Hex.{encode_lower}
use Rattle.seals.specs.Macs.{hmac_sha256}

-- the text, and its MAC
abbrev pub with_mac : List ℕ → List ℕ → List ℕ
with_mac key text = text ++ 32 ∷ encode_lower (hmac_sha256 key text)
