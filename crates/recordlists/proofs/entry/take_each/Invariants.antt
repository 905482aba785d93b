use Rattle.std.proofs.Common.{◌≡◌, ◌-◌, None}
use Rattle.recordlists.specs.Entries.{each_at}
use Rattle.recordlists.proofs.EntryLoop.{with_front, last_of}
use Rattle.recordlists.proofs.entry.take_each.Given as goal

abbrev pub invariant-loop : goal.invariant-loop
invariant-loop g l =
    with_front l.entries.items (each_at g.X.Entry.reads l.layout (last_of l.entries.items) (l.count - l.counter) l.rest) ≡ each_at g.X.Entry.reads l.layout None l.count l.bytes
