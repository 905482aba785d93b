use Rattle.std.proofs.Common.{◌≡◌, List, Bool, drop, [], ap, sym, ◌∙◌, arith}
use Rattle.protocol.specs.Names.{Slot, slots_eq}
use Rattle.protocol.specs.Machine.{slots_of}
use Rattle.protocol.specs.Ledger.{writable_slots}
use Rattle.std.proofs.lemmas.Grind.{common_steps}
use Rattle.drafts.proofs.StateWords.{fit_end}
use Rattle.drafts.proofs.fitting.fit_slots.Goals as goal

pub returns : goal.returns
returns c =
    let none : drop c.loop-held.held-index c.args.slots.now ≡ [] = grind (arith, common_steps) in
    sym (c.loop-held.invariant.rest ∙ ap (λ (xs : List (Slot × Bool)). slots_eq (slots_of (drop c.loop-held.place c.args.news.now)) (writable_slots xs)) none ∙ fit_end c.args.news.now c.loop-held.place c.loop-held.invariant.within)
