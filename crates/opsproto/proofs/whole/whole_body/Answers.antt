use Rattle.std.proofs.Common.{sym, ◌∙◌, ap}
use Rattle.std.specs.Option.{option_map}
use Rattle.protowire.specs.Seen.{entries}
use Rattle.protowire.specs.Lookups.{Member, joined_body}
use Rattle.protowire.proofs.LookupLoop.{single, single_some, single_none}
use Rattle.opsproto.proofs.whole.whole_body.Goals as goal

pub returns-in-Some : goal.returns-in-Some
returns-in-Some c =
    let es = entries c.args.fields.now in
    let m : Member = (c.in-Some.field-0-0, c.in-Some.body.now) in
    single_some c.args.number m (joined_body c.args.number es)
    (ap (option_map (λ found. (found.0, found.1.now))) (sym c.in-Some.is) ∙ c.in_ok-body.ensures ∙ single c.args.number es)

pub returns-in-None : goal.returns-in-None
returns-in-None c =
    let es = entries c.args.fields.now in
    single_none c.args.number (joined_body c.args.number es)
    (ap (option_map (λ found. (found.0, found.1.now))) (sym c.in-None.is) ∙ c.in_ok-body.ensures ∙ single c.args.number es)
