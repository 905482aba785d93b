use Rattle.std.proofs.Common.{◌≡◌, ◌++◌, ℕ, Bool, false, List, not, filter, sym, ◌∙◌, ap}
use Rattle.std.proofs.lemmas.List.Elements.{filter-append}
use Rattle.protocol.specs.Machine.{Parked}
use Rattle.parked.specs.Over.{still_waiting}
use Rattle.parked.specs.Queue.{asks_of}
use Rattle.parked.specs.Waiting.{ends_ask}
use Rattle.parked.specs.declared.parked_change.ParkedChange.{ParkedChange}
use Rattle.parked.proofs.NewestWords.{all-still}
use Rattle.parked.proofs.NotedWords.{none-passes}
use Rattle.parked.proofs.parked_change.ParkedChange.end.Goals as goal
use Rattle.parked.proofs.parked_change.ParkedChange.end.Goals.{then-may_end+in_ok-self, else-may_end}

pub returns : goal.returns
returns c =
    let ends : Parked → Bool = ends_ask c.args.ending in
    let keeps : (List Parked → List Parked) = λ ps. filter (λ p. not (ends p)) ps in
    let asks : List Parked = asks_of c.args.parked.now in
    let over : List ℕ = c.args.self.now.over.places.items in
    let was : List Parked = still_waiting over asks in
    let both : (still_waiting c.if-may_end.self.over.places.items asks ≡ keeps was) × (c.if-may_end.self.since.items ≡ c.args.self.now.since.items) = elim c.if-may_end.branch [
      | then-may_end+in_ok-self w ↦ (
        ap (λ (x : ParkedChange). still_waiting x.over.places.items asks) w.self-is
            ∙ ap (still_waiting w.in_ok-self.field-0.places.items) (sym w.waiting.ensures)
            ∙ w.in_ok-self.ensures
            ∙ (λ j. keeps (still_waiting (w.as_slice.ensures j) (w.waiting.ensures j))),
        ap (λ (x : ParkedChange). x.since.items) w.self-is,
      )
      | else-may_end w ↦ (
        ap (λ (x : ParkedChange). still_waiting x.over.places.items asks) w.self-is
            ∙ sym (none-passes ends was (all-still (λ p. ends p ≡ false) 0 over asks (c.may_end.ensures w.if-may_end.false))),
        ap (λ (x : ParkedChange). x.since.items) w.self-is,
      )
    ] in
    ap (λ (ps : List Parked). ps ++ c.drop_ending.new.asks.items) both.0
    ∙ ap (λ (ps : List Parked). keeps was ++ ps) (c.drop_ending.ensures ∙ ap keeps both.1)
    ∙ sym (filter-append (λ p. not (ends p)) was c.args.self.now.since.items)
