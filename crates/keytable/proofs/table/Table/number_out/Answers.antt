use Rattle.keytable.proofs.MarkLemmas.{not_out}
use Rattle.keytable.proofs.table.Table.number_out.Goals as goal

pub returns-in_default : goal.returns-in_default
returns-in_default c =
    let found = c.in_ok-number.ensures.found in
    record { found = tt; none = not_out c.args.self.now c.requires c.args.key.now c.in_ok-number.number found.0 c.index.result.now found.1 found.2 c.index.ensures c.in_default.not-Out }
