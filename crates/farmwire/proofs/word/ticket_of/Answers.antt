use Rattle.std.proofs.Common.{◌≡◌, sym, ap, ◌∙◌, arith}
use Rattle.names.specs.declared.number.Ticket.{Ticket}
use Rattle.words.proofs.Spelling.{ticket_same}
use Rattle.farmwire.proofs.word.ticket_of.Goals as goal

pub returns-else-ticket-ge1-clause-only : goal.returns-else-ticket-ge1-clause-only
returns-else-ticket-ge1-clause-only c = λ ticket fits e.
    let read = c.in_ok-ticket.ensures in
    let same = ticket_same c.in_ok-ticket.ticket ticket read.fits fits.1 (sym read.found ∙ e) in
    let number : c.in_ok-ticket.ticket.0 ≡ ticket.0 = ap (λ (t : Ticket). t.0) same in
    omega arith
