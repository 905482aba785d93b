use Rattle.std.proofs.Common.{◌≡◌, ◌∷◌, [], List, ap, sym, ◌∙◌, option_copied, subst, length, eqb-true}
use Rattle.std.proofs.lemmas.List.{nil_from_length}
use Rattle.std.specs.Prelude.{IfOk}
use Rattle.farm_base.specs.declared.lease.Lease.{Lease}
use Rattle.protocol.specs.Names.{Ticket}
use Rattle.leases.specs.Changes.{Change, saved_tickets, ticket_of_saved}
use Rattle.holdings.specs.declared.ending.Ending.{Ending}
use Rattle.holdings.specs.declared.ending.Ending.TheVariants as ending
use Rattle.leases.proofs.SavedLemmas.{saved_tickets-none, saved_tickets-one, saved_tickets-last}
use Rattle.leases.proofs.changes.TableChange.saved_ended.Goals as goal

pub returns-then-is_empty : goal.returns-then-is_empty
returns-then-is_empty c =
    let same : c.as_slice-ended.result.now ≡ c.args.self.now.ended = c.as_slice-ended.ensures.value ∙ ap (λ (x : Change). x.ended) c.self.view_is in
    let none : c.as_slice-ended.result.now ≡ [] = nil_from_length c.as_slice-ended.result.now (eqb-true (length c.as_slice-ended.result.now) 0 (sym c.if-is_empty.ensures)) in
    c.new.ensures.items ∙ saved_tickets-none c.args.table.now.live ∙ ap (λ (es : List Ending). saved_tickets es c.args.table.now.live) (sym none ∙ same)

pub returns-in-Some-Ticket : goal.returns-in-Some-Ticket
returns-in-Some-Ticket c =
    let live : List Lease = c.args.table.now.live in
    let same : c.as_slice-ended.result.now ≡ c.args.self.now.ended = c.as_slice-ended.ensures.value ∙ ap (λ (x : Change). x.ended) c.self.view_is in
    let one : c.as_slice-ended.result.now ≡ ending.Ticket c.in-Some-Ticket.ticket ∷ [] = c.in-Some-Ticket.ensures ∙ ap (λ (e : Ending). e ∷ []) c.in-Some-Ticket.field-0-is in
    let all : ticket_of_saved (option_copied c.lease.result) ≡ saved_tickets c.args.self.now.ended live =
    ap ticket_of_saved c.lease.ensures.value ∙ saved_tickets-one c.in-Some-Ticket.ticket live c.lease.ensures.sound.tickets ∙ ap (λ (es : List Ending). saved_tickets es live) (sym one ∙ same) in
    let P : List Ticket → Type 0 = λ ts. IfOk c.ticket_of_saved.result (λ tickets. tickets.items ≡ ts) in
    subst P all c.ticket_of_saved.ensures

pub returns-in-Some : goal.returns-in-Some
returns-in-Some c =
    let live : List Lease = c.args.table.now.live in
    let last : List Lease = c.last_ending.result.now in
    let same : c.as_slice-ended.result.now ≡ c.args.self.now.ended = c.as_slice-ended.ensures.value ∙ ap (λ (x : Change). x.ended) c.self.view_is in
    let all : saved_tickets c.as_slice-ended.result.now last ≡ saved_tickets c.args.self.now.ended live =
    ap (λ (es : List Ending). saved_tickets es last) c.in-Some.ensures
    ∙ saved_tickets-last c.in-Some.ending last live c.last_ending.ensures
    ∙ ap (λ (es : List Ending). saved_tickets es live) (sym c.in-Some.ensures ∙ same) in
    subst (λ (ts : List Ticket). IfOk c.saved_tickets.result (λ tickets. tickets.items ≡ ts)) all c.saved_tickets.ensures
