use Rattle.std.proofs.Common.{◌≡◌, take, None}
use Rattle.vertices.specs.Loaded.{IsReadTo}
use Rattle.vertices.specs.Loading.{ReadChecks}
use Rattle.vertices.proofs.loading.Loading.of.Given as goal

-- the entries so far are read, and have their table and their vertices
abbrev pub invariant-loop-place : goal.invariant-loop-place
invariant-loop-place l = record {
  reads : ReadChecks 0 (take l.place l.fn.entries) None;
  entries : l.loading.entries ≡ l.fn.entries;
  read : IsReadTo l.place l.loading;
}
