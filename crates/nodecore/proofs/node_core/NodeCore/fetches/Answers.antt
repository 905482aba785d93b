use Rattle.std.proofs.Common.{rules, ◌≡◌, ◌<◌, ◌+◌, suc, ◌∷◌, [], ◌++◌, List, true, false, length, drop, get_or, ap, sym, ◌∙◌, append_assoc, append-nil, arith}
use Rattle.std.proofs.Math.Seq.{drop-cons}
use Rattle.protocol.specs.Farm.{farm_limits}
use Rattle.protocol.specs.Machine.{Message, GrantedSlot}
use Rattle.protocol.specs.Nodes.{fetches, fetches_of, is_missing}
use Rattle.nodecore.specs.Shown.{shown, place}
use Rattle.nodecore.proofs.FetchLemmas.{fetches_slot, fetches_end}
use Rattle.nodecontents.proofs.MapLemmas.{drop_end}
use Rattle.nodecore.proofs.node_core.NodeCore.fetches.Goals as goal
use Rattle.nodecore.proofs.node_core.NodeCore.fetches.Goals.{then-is_missing+in_ok-push_fetches, else-is_missing}

pub loop-slot-preserved : goal.loop-slot-preserved
loop-slot-preserved c =
    let i = c.loop-slot.slot-index in
    let slots = c.args.slots.now in
    let at = place c.args.self.now in
    let x = shown c.args.self.now in
    let slot = c.slot-item.result in
    let rest = fetches farm_limits at x (drop (i + 1) slots) in
    let sent = c.loop-slot.sends.items in
    let inside : i < length slots = search rules in
    let here : get_or slots i slot ≡ slot = search rules in
    let next : suc i ≡ i + 1 = search arith in
    let parts : drop i slots ≡ slot ∷ drop (i + 1) slots = drop-cons slots i slot inside ∙ (λ j. here j ∷ drop (next j) slots) in
    elim c.if-is_missing.branch [
      | then-is_missing+in_ok-push_fetches w ↦
          let missing : is_missing farm_limits x slot ≡ true = search rules in
          let items : c.if-is_missing.sends.items ≡ sent ++ fetches_of at slot.digest = ap (λ v. v.items) w.sends-is ∙ w.in_ok-push_fetches.ensures in
          ap (λ (m : List Message). m ++ rest) items
          ∙ append_assoc sent (fetches_of at slot.digest) rest
          ∙ sym (ap (λ (m : List Message). sent ++ m) (ap (λ (s : List GrantedSlot). fetches farm_limits at x s) parts ∙ fetches_slot farm_limits at x slot (drop (i + 1) slots) true missing))
          ∙ c.loop-slot.invariant
      | else-is_missing w ↦
          let there : is_missing farm_limits x slot ≡ false = search rules in
          ap (λ v. v.items ++ rest) w.sends-is
          ∙ sym (ap (λ (m : List Message). sent ++ m) (ap (λ (s : List GrantedSlot). fetches farm_limits at x s) parts ∙ fetches_slot farm_limits at x slot (drop (i + 1) slots) false there))
          ∙ c.loop-slot.invariant
    ]

pub returns : goal.returns
returns c =
    let sent = c.loop-slot.sends.items in
    let slots = c.args.slots.now in
    let none : drop c.loop-slot.slot-index slots ≡ [] = drop_end slots c.loop-slot.slot-index (omega arith) in
    sym (append-nil sent)
    ∙ sym (ap (λ (m : List Message). sent ++ m) (ap (λ (s : List GrantedSlot). fetches farm_limits (place c.args.self.now) (shown c.args.self.now) s) none ∙ fetches_end farm_limits (place c.args.self.now) (shown c.args.self.now)))
    ∙ c.loop-slot.invariant
