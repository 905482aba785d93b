use Rattle.std.proofs.Common.{◌<◌, length, refl, sym, subst, arith}
use Rattle.solverkeys.specs.GraphKeys.{TakesKeys}
use Rattle.keytable.proofs.AddLemmas.{edges_keys, key_known, key_added}
use Rattle.keytable.proofs.TableLemmas.{if_none, if_some}
use Rattle.keytable.proofs.adding.add.Goals as goal

pub inputs_of-requires-then-is_none : goal.inputs_of-requires-then-is_none
inputs_of-requires-then-is_none c = edges_keys c.args.graph.now c.args.keys.now c.args.number c.inputs_of.result.now c.requires.graph c.inputs_of.ensures c.requires.keys

pub returns-in_ok-push-clause-added : goal.returns-in_ok-push-clause-added
returns-in_ok-push-clause-added c =
    let within : c.args.number < length c.args.keys.now = (let w = c.requires.within in let k = c.requires.keys in omega arith) in
    key_added c.args.graph.now c.args.keys.now c.args.number _ _ within refl c.args.table.now.entries.items c.push.new.self.entries.items c.inputs_of.result.now c.new.result
    c.inputs_of.ensures (subst (TakesKeys c.args.keys.now c.inputs_of.result.now) (sym c.new.ensures) c.in_ok-inputs.ensures) (if_none c.number.result c.is_none.result c.is_none.ensures c.if-is_none.true c.number.ensures.none) c.in_ok-push.ensures.entries

pub returns-else-is_none-clause-added : goal.returns-else-is_none-clause-added
returns-else-is_none-clause-added c =
    let within : c.args.number < length c.args.keys.now = (let w = c.requires.within in let k = c.requires.keys in omega arith) in
    let found = if_some c.number.result c.is_none.result c.is_none.ensures c.if-is_none.false c.number.ensures.found in
    key_known c.args.graph.now c.args.keys.now c.args.number _ _ within refl c.args.table.now.entries.items found.0 found.1.0 found.1.1 found.1.2
