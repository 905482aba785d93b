use Rattle.std.proofs.Common.{◌<◌, ◌≤◌, length, refl, arith}
use Rattle.std.proofs.lemmas.Bool.Decides.{nat_tests}
use Rattle.std.proofs.lemmas.Option.{slice_get_read}
use Rattle.jobs.proofs.ReadyLemmas.{one_missing, one_more, all_there}
use Rattle.jobs.proofs.ready.are_there.Goals as goal

pub returns-then-is_none-clause-there : goal.returns-then-is_none-clause-there
returns-then-is_none-clause-there c =
    let inputs = c.args.inputs.now in
    let k = c.loop-input.cursor in
    let input = c.in-Some.input.now in
    let look = c.in-Some.ensures.lookup in
    let within : k < length inputs = (let test = look.0 in grind (arith, nat_tests)) in
    one_missing c.args.table.now.entries.items inputs k input c.output_of.result c.is_none.result (slice_get_read inputs (length inputs) k input refl within look.1) c.is_none.ensures c.if-is_none.true
    c.output_of.ensures.missing

pub loop-input-preserved : goal.loop-input-preserved
loop-input-preserved c =
    let inputs = c.args.inputs.now in
    let k = c.loop-input.cursor in
    let input = c.in-Some.input.now in
    let look = c.in-Some.ensures.lookup in
    let inv = c.loop-input.invariant in
    let within : k < length inputs = (let test = look.0 in grind (arith, nat_tests)) in
    record {
      before = one_more c.args.table.now.entries.items inputs k input c.output_of.result c.is_none.result inv.before (slice_get_read inputs (length inputs) k input refl within look.1) c.is_none.ensures c.if-is_none.false
          c.output_of.ensures.there;
      moves = let m = inv.moves in omega (arith, m);
    }

pub returns-clause-there : goal.returns-clause-there
returns-clause-there c =
    let inputs = c.args.inputs.now in
    let k = c.loop-input.cursor in
    let past : length inputs ≤ k = (let test = c.in_default.ensures.lookup.0 in grind (arith, nat_tests)) in
    all_there c.args.table.now.entries.items inputs k past c.loop-input.invariant.before
