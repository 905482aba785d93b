use Rattle.std.proofs.Common.{Some, arith}
use Rattle.std.proofs.lemmas.Option.{slice_get_within}
use Rattle.keytable.specs.Needs.{NeedsOutput}
use Rattle.keytable.proofs.NeedLemmas.{later_is, later_covers, linked_needed, needed_linked, job_needs, all_covered}
use Rattle.keytable.proofs.needing.last_needed.Goals as goal

pub returns-in_default-clause-greatest : goal.returns-in_default-clause-greatest
returns-in_default-clause-greatest c =
    all_covered c.args.results.now c.args.table.now.entries.items c.args.key.now c.last_named-by_job.result c.last_named-by_job.ensures.greatest
    (λ number index entry at has. absurd (let s = c.requires.closed number entry (c.args.key.now, index) at has in c.in_default.ensures.none s.1.number s.0 s.1.at s.1.named))

pub last_linked-requires-clause-within : goal.last_linked-requires-clause-within
last_linked-requires-clause-within c =
    let found = c.in-Some.ensures.found in
    let within = slice_get_within c.args.table.now.entries.items c.in-Some.number found.0 found.1 in
    let count = c.requires.count in
    omega (arith, within, count)

pub returns-in-Some-last_linked-clause-needed : goal.returns-in-Some-last_linked-clause-needed
returns-in-Some-last_linked-clause-needed c =
    let es = c.args.table.now.entries.items in
    let key = c.args.key.now in
    let found = c.in-Some.ensures.found in
    let by_job = c.last_named-by_job in
    later_is (NeedsOutput c.args.results.now es key) by_job.result c.in-Some-last_linked.index c.later.result c.later.ensures.is_one
    (job_needs c.args.results.now es key by_job.result by_job.ensures.named)
    (linked_needed es c.args.users.now c.requires.users c.in-Some.number found.0 found.1 key found.2 c.args.results.now c.in-Some-last_linked.index c.in-Some-last_linked.ensures.linked)

pub returns-in-Some-last_linked-clause-greatest : goal.returns-in-Some-last_linked-clause-greatest
returns-in-Some-last_linked-clause-greatest c =
    let es = c.args.table.now.entries.items in
    let key = c.args.key.now in
    let found = c.in-Some.ensures.found in
    let by_job = c.last_named-by_job in
    let e = c.later.ensures in
    all_covered c.args.results.now es key (Some c.later.result) (λ index has. later_covers by_job.result c.later.result index e.last (by_job.ensures.greatest index has))
    (λ number index entry at has.
    let covered = c.in-Some-last_linked.ensures.greatest index (needed_linked es c.args.users.now c.requires.users c.in-Some.number found.0 found.1 key found.2 c.requires.count number index entry at has) in
    let own = e.own in
    omega (arith, covered, own))

pub returns-in-None-clause-greatest : goal.returns-in-None-clause-greatest
returns-in-None-clause-greatest c =
    let es = c.args.table.now.entries.items in
    let key = c.args.key.now in
    let found = c.in-Some.ensures.found in
    let by_job = c.last_named-by_job in
    all_covered c.args.results.now es key by_job.result by_job.ensures.greatest
    (λ number index entry at has. absurd (c.in-None.ensures.greatest index
    (needed_linked es c.args.users.now c.requires.users c.in-Some.number found.0 found.1 key found.2 c.requires.count number index entry at has)))
