use Rattle.std.proofs.Common.{◌≡◌, ◌++◌, take, drop}
use Rattle.std.specs.List.{flat_map, AllByRecursion}
use Rattle.recordlists.specs.EntrySpelling.{counted}
use Rattle.recordlists.proofs.entry.put_counted.Given as goal

abbrev pub invariant-loop-entry : goal.invariant-loop-entry
invariant-loop-entry g l = record {
  spelled : l.out.items ++ flat_map g.X.Entry.spells (drop l.entry-index l.entries) ≡ l.fn.out.items ++ counted g.X.Entry.spells l.entries;
  typed : AllByRecursion g.X.Entry.typed (take l.entry-index l.entries);
}
