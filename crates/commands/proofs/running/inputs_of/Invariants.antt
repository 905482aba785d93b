use Rattle.std.proofs.Common.{◌≡◌, List, ◌++◌}
use Rattle.std.specs.Prelude.{map}
use Rattle.std.specs.List.{AllZip}
use Rattle.std.specs.String.{string_bytes}
use Rattle.commands.specs.Acts.{File}
use Rattle.commands.specs.Runs.{names_of, IsJobOf}
use Rattle.commands.proofs.running.inputs_of.Given as goal

-- the files so far have these names and jobs
abbrev pub invariant-loop-name : goal.invariant-loop-name
invariant-loop-name l = record {
  can_next : (goal.iterator-loop-name).can_next l.name-iterator;
  is_finite : (goal.iterator-loop-name).is_finite l.name-iterator;
  so_far : (done : List File) × (done ++ l.name-iterator.rest.items ≡ l.fn.files.items)
      × (map string_bytes l.inputs.names.items ≡ names_of done) × AllZip IsJobOf done l.inputs.jobs.items;
}
