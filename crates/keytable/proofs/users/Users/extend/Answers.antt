use Rattle.std.proofs.Common.{sym, subst, arith, List}
use Rattle.keytable.specs.declared.users.Link.{Link}
use Rattle.keytable.specs.Users.{AreInputs, IsNoted}
use Rattle.keytable.proofs.UserLemmas.{source_within}
use Rattle.keytable.proofs.users.Users.extend.Goals as goal

pub link_all-requires-clause-sources : goal.link_all-requires-clause-sources
link_all-requires-clause-sources c place link at =
    let e = c.in-Ok.ensures in
    let within = source_within c.args.table.now.entries.items c.grow.new.self.links.items e.inputs place link at in
    let count = e.count in
    omega (arith, within, count)

pub returns-in-Ok-clause-users : goal.returns-in-Ok-clause-users
returns-in-Ok-clause-users c =
    let es = c.args.table.now.entries.items in
    let e = c.in-Ok.ensures in
    let l = c.link_all.ensures in
    record {
      linked = l.linked;
      all = l.all;
      inputs = subst (AreInputs es) (sym l.links) e.inputs;
      noted = λ n less. subst (λ (xs : List Link). IsNoted es xs n) (sym l.links) (e.noted n (let count = e.count in let lasts = l.lasts in omega (arith, less, count, lasts)));
    }
