-- The order of modes: those of `sharing` in the Dockerfile reference of `RUN --mount=type=cache`.
use Rattle.std.specs.Prelude.{ℕ}
use Rattle.names.specs.declared.folder.Mode.{Mode}
use Rattle.names.specs.declared.folder.Mode.TheVariants.{Shared, Private, Locked}

-- the place of a mode
abbrev pub mode_index : Mode → ℕ
mode_index Shared = 0
mode_index Private = 1
mode_index Locked = 2
