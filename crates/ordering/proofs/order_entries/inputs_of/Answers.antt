use Rattle.std.proofs.Common.{◌+◌, List, take, subst, sym, arith}
use Rattle.std.proofs.lemmas.List.{take_all}
use Rattle.std.proofs.lemmas.Option.{slice_get-get_or}
use Rattle.names.specs.declared.digest.Digest.{Digest}
use Rattle.ordering.specs.Entries.{AreResolved}
use Rattle.ordering.proofs.EntryLemmas.{resolved_more}
use Rattle.ordering.proofs.order_entries.inputs_of.Goals as goal

pub loop-input-preserved : goal.loop-input-preserved
loop-input-preserved c = λ digests h.
    subst (AreResolved digests (take (c.loop-input.input-index + 1) c.args.inputs.now)) (sym c.in_ok-push.ensures.items)
    (resolved_more digests c.args.inputs.now c.loop-input.row.items c.loop-input.input-index c.in-Some.place _
    (slice_get-get_or c.args.inputs.now c.loop-input.input-index _ c.loop-input-test.true)
    (c.in-Some.ensures.found digests h) (c.loop-input.invariant digests h))

pub returns-clause-found : goal.returns-clause-found
returns-clause-found c = λ digests h.
    subst (λ (xs : List Digest). AreResolved digests xs c.loop-input.row.items)
    (take_all c.loop-input.input-index c.args.inputs.now (omega arith)) (c.loop-input.invariant digests h)
