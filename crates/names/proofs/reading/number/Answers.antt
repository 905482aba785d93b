use Rattle.names.proofs.ReadingLemmas.{number_found, number_only, number_starts}
use Rattle.names.proofs.reading.number.Goals as goal

pub returns-then-not-starts_number-clause-only : goal.returns-then-not-starts_number-clause-only
returns-then-not-starts_number-clause-only c = λ n lt e.
    let starts = rw (← e) at (number_starts n lt) in
    let yes = c.starts_number.ensures.1 (rw c.as_bytes.ensures.value starts) in
    cc (yes, c.if-not-starts_number.true)

pub returns-clause-found : goal.returns-clause-found
returns-clause-found c =
    rw c.ok.ensures.value (number_found c.args.text.now _ c.parse.ensures.value.0
    (rw (← c.as_bytes.ensures.value) (c.starts_number.ensures.0 c.if-not-starts_number.false)))

pub returns-clause-only : goal.returns-clause-only
returns-clause-only c = rw c.ok.ensures.value (number_only c.args.text.now _ c.parse.ensures.value.0)
