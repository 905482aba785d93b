use Rattle.std.proofs.Common.{◌≡◌, length, arith}
use Rattle.keytable.proofs.CauseLemmas.{never_last}
use Rattle.keytable.proofs.MarkLemmas.{distinct}
use Rattle.keytable.proofs.blaming.first_cause.Goals as goal

pub unreachable-requires : goal.unreachable-requires
unreachable-requires c =
    let t = c.args.table.now in
    let f = c.requires.fails in
    let count = c.len-count.ensures in
    let len = t.entries.ok.0 in
    let all : length t.entries.items ≡ c.loop-number.number = omega (arith, count, len) in
    never_last t.entries.items c.args.users.now c.requires.users (distinct t c.requires.table) c.requires.count c.args.wanted f.0 f.1 c.loop-number.number c.loop-number.flags all c.loop-number.invariant.looking f.2
