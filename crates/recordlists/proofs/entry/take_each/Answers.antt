use Rattle.std.proofs.Common.{◌≡◌, ap, ◌∙◌, sym, None, Ok, option_copied}
use Rattle.recordlists.specs.Entries.{each_at}
use Rattle.recordlists.proofs.EntryLoop.{last_of, goes_on, ends, is_done}
use Rattle.recordlists.proofs.entry.take_each.Goals as goal

pub returns-in-Err : goal.returns-in-Err
returns-in-Err g c =
    let last : option_copied c.last.result ≡ last_of c.loop.entries.items = c.last.ensures.value ∙ ap last_of c.deref.ensures.value in
    ends g.X.Entry.reads c.args.layout c.in-Err.refusal c.loop.entries.items c.args.count c.loop.counter c.loop.rest.now (each_at g.X.Entry.reads c.args.layout None c.args.count c.args.bytes.now) c.loop-test.true
    (rw (← last) c.in-Err.ensures) c.loop.invariant

pub loop-preserved : goal.loop-preserved
loop-preserved g c =
    let last : option_copied c.last.result ≡ last_of c.loop.entries.items = c.last.ensures.value ∙ ap last_of c.deref.ensures.value in
    rw c.in_ok-push.ensures.items
    (goes_on g.X.Entry.reads c.args.layout c.loop.entries.items c.args.count c.loop.counter c.loop.rest.now c.in-Ok.read.0 c.in-Ok.read.1.now (each_at g.X.Entry.reads c.args.layout None c.args.count c.args.bytes.now) c.loop-test.true
    (rw (← last) c.in-Ok.ensures) c.loop.invariant)

pub returns : goal.returns
returns g c =
    is_done g.X.Entry.reads c.args.layout c.loop.entries.items c.args.count c.loop.counter c.loop.rest.now (each_at g.X.Entry.reads c.args.layout None c.args.count c.args.bytes.now) c.loop-test.false c.loop.invariant
    ∙ ap (λ xs. Ok (xs, c.loop.rest.now)) (sym c.new.ensures)
