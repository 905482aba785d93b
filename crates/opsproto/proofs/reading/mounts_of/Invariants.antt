use Rattle.std.proofs.Common.{◌≡◌, drop}
use Rattle.protowire.specs.Seen.{entries}
use Rattle.protowire.specs.Lookups.{bodies}
use Rattle.opsproto.specs.Reading.{each_of, mount_of}
use Rattle.opsproto.proofs.ReadingLemmas.{with_front}
use Rattle.opsproto.proofs.reading.mounts_of.Given as goal

abbrev pub invariant-loop-field : goal.invariant-loop-field
invariant-loop-field l = with_front l.mounts.items (each_of mount_of (bodies 2 (entries (drop l.field-index l.fields)))) ≡ each_of mount_of (bodies 2 (entries l.fields))
