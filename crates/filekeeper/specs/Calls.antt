-- The calls of a device, of which the newest comes first.
use Rattle.std.specs.Prelude.{ℕ, List, [], ◌∷◌}
use Rattle.filekeeper.specs.declared.device_call.DeviceCall.{DeviceCall}

-- a call, and the bytes that it gave, or was given
abbrev pub Called : Type 0
Called = DeviceCall × List ℕ

-- the calls were made with these bytes, after earlier ones
abbrev pub noted : List DeviceCall → List ℕ → List Called → List Called
noted [] bytes earlier = earlier
noted (call ∷ calls) bytes earlier = noted calls bytes ((call, bytes) ∷ earlier)
