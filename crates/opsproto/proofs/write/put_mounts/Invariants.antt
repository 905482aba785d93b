use Rattle.std.proofs.Common.{◌≡◌, ◌++◌, map, take, drop}
use Rattle.std.specs.List.{AllByRecursion}
use Rattle.protowire.specs.Fields.{message}
use Rattle.opsproto.specs.Writing.{each_fields, mount_text}
use Rattle.opsproto.specs.Written.{IsMount}
use Rattle.opsproto.proofs.write.put_mounts.Given as goal

abbrev pub invariant-loop-mount : goal.invariant-loop-mount
invariant-loop-mount l = record {
  written : l.out.items ++ message (each_fields 2 (map mount_text (drop l.mount-index l.mounts))) ≡ l.fn.out.items ++ message (each_fields 2 (map mount_text l.mounts));
  valid : AllByRecursion IsMount (take l.mount-index l.mounts);
}
