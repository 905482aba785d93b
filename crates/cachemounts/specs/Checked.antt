-- What a graph knows of a mount (this project's own).
use Rattle.std.specs.Prelude.{ℕ, None}
use Rattle.opsproto.specs.Scalars.{Text}
use Rattle.opsproto.specs.declared.exec.Mount.{Mount}
use Rattle.vertices.specs.OpChecks.{MountCheck}

-- it passed the checks of a vertex with `inputs` inputs
abbrev pub IsChecked : ℕ → Mount Text → Type 0
IsChecked inputs mount = (place : ℕ) × MountCheck place inputs mount None
