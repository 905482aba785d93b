use Rattle.keytable.specs.Adding.{IsAdding, IsFront}
use Rattle.keytable.specs.Tables.{IsTable}
use Rattle.keytable.proofs.adding.add_all.Given as goal

abbrev pub invariant-loop-number : goal.invariant-loop-number
invariant-loop-number l = record {
  table : IsTable l.table;
  front : IsFront l.fn.table l.table;
  adding : IsAdding l.graph l.keys l.fn.table.entries.items l.number l.table.entries.items;
}
