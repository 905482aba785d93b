-- Versions of slots.
use Rattle.std.specs.Prelude.{Bool, ◌&&◌, nat_eq}
use Rattle.farm_base.specs.declared.message.Version.{Version}
use Rattle.names.specs.Slots.{slot_eq}

-- the same slot and number
abbrev pub version_eq : Version → Version → Bool
version_eq a b = slot_eq a.slot b.slot && nat_eq a.number b.number
