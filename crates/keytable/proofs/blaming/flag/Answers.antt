use Rattle.keytable.proofs.CauseLemmas.{gets_follows}
use Rattle.keytable.proofs.blaming.flag.Goals as goal

pub returns-clause-only : goal.returns-clause-only
returns-clause-only c = λ other f.
    gets_follows c.args.users.now.links.items c.args.flags.now c.mark.new.marks c.args.number c.requires.closed c.mark.ensures.only other (c.spread.ensures.only other f)
