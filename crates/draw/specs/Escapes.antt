-- How a text is written in XML.
use Rattle.std.specs.Prelude.{ℕ, ◌==◌, nat_le, nat_lt, ◌&&◌, ◌||◌, if◌then◌else◌, List, [], ◌∷◌, codes, length, take}
use Rattle.std.specs.List.{flat_map}

-- a visible ASCII byte, a space or a line feed stands for itself, unless XML means something by it; any other byte is
-- `?`
unfoldable pub escaped : ℕ → List ℕ
escaped b =
    if b == 38 then codes "&amp;"
    else (if b == 60 then codes "&lt;"
    else (if b == 62 then codes "&gt;"
    else (if b == 39 then codes "&#39;"
    else (if b == 34 then codes "&quot;"
    else (if (b == 10) || (nat_le 32 b && nat_le b 126) then b ∷ []
    else codes "?")))))

-- a text, or the first bytes of a longer one, and what stands for the rest
abbrev pub front_of : ℕ → List ℕ → List ℕ
front_of most bytes = if nat_lt most (length bytes) then take most bytes else bytes

abbrev pub dots_of : ℕ → List ℕ → List ℕ
dots_of most bytes = if nat_lt most (length bytes) then codes ".." else []

abbrev pub escaped_text : List ℕ → List ℕ
escaped_text bytes = flat_map escaped bytes
