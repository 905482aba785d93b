use Rattle.std.proofs.Common.{◌≡◌, Bool, List, true, false, ◌||◌, sym, ◌∙◌, ap}
use Rattle.std.proofs.lemmas.List.Folds.{list_any-append}
use Rattle.protocol.specs.Machine.{Parked}
use Rattle.protocol.specs.Ledger.{is_parked}
use Rattle.parked.specs.Over.{still_waiting}
use Rattle.parked.specs.Queue.{asks_of}
use Rattle.parked.proofs.WaitingWords.{still-none}
use Rattle.parked.proofs.parked_change.ParkedChange.waits.Goals as goal

pub returns-then-still_waits : goal.returns-then-still_waits
returns-then-still_waits c =
    let is : (List Parked → Bool) = λ ps. is_parked ps c.args.node c.args.life c.args.ask in
    let before : is (still_waiting c.args.self.now.over.places.items (asks_of c.args.parked.now)) ≡ true = sym c.still_waits.ensures ∙ c.if-still_waits.true in
    c.if-still_waits.true ∙ ap (λ (b : Bool). b || is c.args.self.now.since.items) (sym before)
    ∙ sym (list_any-append _ (still_waiting c.args.self.now.over.places.items (asks_of c.args.parked.now)) c.args.self.now.since.items)

pub returns-else-still_waits : goal.returns-else-still_waits
returns-else-still_waits c =
    let is : (List Parked → Bool) = λ ps. is_parked ps c.args.node c.args.life c.args.ask in
    let before : is (still_waiting c.args.self.now.over.places.items (asks_of c.args.parked.now)) ≡ false = sym c.still_waits.ensures ∙ c.if-still_waits.false in
    c.still_waits-else-still_waits.ensures
    ∙ ap is (still-none 0 c.as_slice.result.now ∙ c.as_slice.ensures.value)
    ∙ ap (λ (b : Bool). b || is c.args.self.now.since.items) (sym before)
    ∙ sym (list_any-append _ (still_waiting c.args.self.now.over.places.items (asks_of c.args.parked.now)) c.args.self.now.since.items)
