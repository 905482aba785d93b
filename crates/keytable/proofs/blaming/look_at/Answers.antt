use Rattle.std.proofs.Common.{refl, arith}
use Rattle.lists.proofs.Places.{at_place}
use Rattle.keytable.proofs.CauseLemmas.{found_first, look_next}
use Rattle.keytable.proofs.MarkLemmas.{distinct}
use Rattle.keytable.proofs.UserLemmas.{user_within}
use Rattle.keytable.proofs.blaming.look_at.Goals as goal

pub returns-in_err-cause-clause-none : goal.returns-in_err-cause-clause-none
returns-in_err-cause-clause-none c =
    let es = c.args.table.now.entries.items in
    let own = at_place es c.args.number c.requires.number in
    let flags = c.args.flags.now in
    let h = c.requires.looking in
    rw c.from_residual.ensures (look_next es c.args.users.now c.requires.users c.args.wanted c.args.number own.0 flags flags own.1 h refl h.closed (λ m f. f)
    (λ fails. absurd (c.in_err-cause.ensures.none own.0 own.1 fails)) h.missed)

pub flag-requires-clause-users : goal.flag-requires-clause-users
flag-requires-clause-users c = λ place link at.
    let within = user_within c.args.table.now.entries.items c.args.users.now c.requires.users place link at in
    let size = c.requires.looking.size in
    omega (arith, within, size)

pub returns-then-flags-wanted-clause-found : goal.returns-then-flags-wanted-clause-found
returns-then-flags-wanted-clause-found c = λ entry at.
    let t = c.args.table.now in
    let own = at_place t.entries.items c.args.number c.requires.number in
    found_first t.entries.items c.args.users.now c.requires.users (distinct t c.requires.table) c.requires.count c.args.wanted entry at c.args.number own.0 c.in_ok-cause.cause c.args.flags.now c.flag.new.flags own.1
    (c.in_ok-cause.ensures.found own.0 own.1) c.requires.looking c.flag.ensures.only c.if-flags-wanted.true

pub returns-clause-none : goal.returns-clause-none
returns-clause-none c =
    let es = c.args.table.now.entries.items in
    let own = at_place es c.args.number c.requires.number in
    let e = c.flag.ensures in
    look_next es c.args.users.now c.requires.users c.args.wanted c.args.number own.0 c.args.flags.now c.flag.new.flags own.1 c.requires.looking c.flag.auto.flags e.closed e.keeps (λ fails. e.flagged) c.if-flags-wanted.false
