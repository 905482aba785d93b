use Rattle.keytable.proofs.OutputLemmas.{has_no_none, zip_more}
use Rattle.keytable.proofs.outputs.outputs_of.Goals as goal

pub unreachable-requires : goal.unreachable-requires
unreachable-requires c =
    has_no_none c.args.table.now.entries.items c.args.inputs.now c.loop-input.input-index _ c.loop-input-test.true c.requires.there c.in-None.ensures.missing

pub loop-input-preserved : goal.loop-input-preserved
loop-input-preserved c =
    zip_more c.args.table.now.entries.items c.args.inputs.now c.loop-input.input-index _ c.loop-input.outputs.items c.push.new.self.items c.in-Some.output c.loop-input-test.true
    c.loop-input.invariant c.in-Some.ensures.there c.in_ok-push-in-Some.ensures.items
