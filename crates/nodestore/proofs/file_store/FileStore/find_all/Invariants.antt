use Rattle.nodestore.specs.Stores.{HasFound}
use Rattle.nodestore.proofs.file_store.FileStore.find_all.Given as goal

abbrev pub invariant-loop-digest : goal.invariant-loop-digest
invariant-loop-digest g l = HasFound l.self l.found
