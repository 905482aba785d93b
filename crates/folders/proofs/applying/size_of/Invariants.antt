use Rattle.std.proofs.Common.{◌≡◌, ◌+◌, ◌≤◌, length, map}
use Rattle.std.specs.List.{AllByRecursion}
use Rattle.std.specs.Map.{keys_of}
use Rattle.std.specs.Map.Iter.{deref_pair}
use Rattle.std.specs.Str.{IsUtf8}
use Rattle.folders.specs.Edits.{lent}
use Rattle.folders.specs.Files.{folder_bytes, most_bytes}
use Rattle.folders.proofs.applying.size_of.Given as goal

abbrev pub invariant-loop-path : goal.invariant-loop-path
invariant-loop-path l = record {
  sum : l.size + length (folder_bytes (map deref_pair l.path-iterator)) ≡ length (folder_bytes (lent l.plan));
  small : l.size ≤ most_bytes;
  utf8 : AllByRecursion IsUtf8 (keys_of (map deref_pair l.path-iterator)) → AllByRecursion IsUtf8 (keys_of (lent l.plan));
}
