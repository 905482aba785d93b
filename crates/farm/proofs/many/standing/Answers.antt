use Rattle.std.proofs.Common.{◌≡◌, length, map, take, sym}
use Rattle.std.proofs.lemmas.List.{take-map}
use Rattle.farmend.specs.declared.hired.Hired.{Hired}
use Rattle.farm.proofs.many.standing.Goals as goal

pub returns-clause-calls : goal.returns-clause-calls
returns-clause-calls g c =
    rw (c.as_slice-2.ensures.value, c.in_ok-ends.ensures, c.as_slice.ensures.value, c.truncate.ensures.items, sym (take-map (λ (each : Hired). each.had.items) (length c.args.executors.now) c.args.hired.items)) at c.check_standing.ensures.calls
