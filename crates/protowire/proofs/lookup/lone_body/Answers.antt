use Rattle.std.proofs.Common.{sym, ◌∙◌, ap}
use Rattle.std.specs.Option.{option_map}
use Rattle.protowire.specs.Seen.{entries}
use Rattle.protowire.specs.Lookups.{Member, lone, bodies, joined_body}
use Rattle.protowire.proofs.LookupLoop.{single, single_some, single_none, lone_single}
use Rattle.protowire.proofs.lookup.lone_body.Goals as goal

pub returns-in_err-body-clause-value : goal.returns-in_err-body-clause-value
returns-in_err-body-clause-value c =
    let es = entries c.args.fields.now in
    let none = single_none c.args.number (lone (bodies c.args.number es)) (c.in_err-body.ensures.value ∙ lone_single c.args.number es) in
    ap (option_map (λ body. body.now)) c.from_residual.ensures ∙ none

pub returns-clause-value : goal.returns-clause-value
returns-clause-value c =
    let es = entries c.args.fields.now in
    let m : Member = (c.in_ok-body.field-0-0, c.in_ok-body.body.now) in
    single_some c.args.number m (lone (bodies c.args.number es)) (c.in_ok-body.ensures.value ∙ lone_single c.args.number es)

pub returns-clause-counts : goal.returns-clause-counts
returns-clause-counts c =
    let es = entries c.args.fields.now in
    let m : Member = (c.in_ok-body.field-0-0, c.in_ok-body.body.now) in
    sym (single_some c.args.number m (joined_body c.args.number es) (sym c.in_ok-body.ensures.counts ∙ single c.args.number es))
