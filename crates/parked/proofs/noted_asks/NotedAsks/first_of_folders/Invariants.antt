use Rattle.std.proofs.Common.{◌≡◌, ◌≤◌, ◌<◌, ℕ, true, get_or}
use Rattle.protocol.specs.Names.{FolderName}
use Rattle.parked.specs.Noted.{notes_want, Reaches}
use Rattle.parked.proofs.noted_asks.NotedAsks.first_of_folders.Given as goal

abbrev pub invariant-loop-folder : goal.invariant-loop-folder
invariant-loop-folder l = (n : ℕ) (k : ℕ) (d : FolderName) → l.from ≤ n → k < l.folder-index → notes_want l.self (get_or l.folders k d) n ≡ true → Reaches l.first n
