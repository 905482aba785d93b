use Rattle.keytable.proofs.TableLemmas.{looked_up, if_found, if_missing}
use Rattle.keytable.proofs.table.Table.number.Goals as goal

pub returns-clause-found : goal.returns-clause-found
returns-clause-found c =
    let t = c.args.self.now in
    if_found t.entries.items c.args.key.now c.get_index_of.result
    (looked_up t.entries.items t.numbers.keys c.args.key.now c.get_index_of.result c.requires.listed c.get_index_of.ensures.index)

pub returns-clause-none : goal.returns-clause-none
returns-clause-none c =
    let t = c.args.self.now in
    if_missing t.entries.items c.args.key.now c.get_index_of.result
    (looked_up t.entries.items t.numbers.keys c.args.key.now c.get_index_of.result c.requires.listed c.get_index_of.ensures.index)
