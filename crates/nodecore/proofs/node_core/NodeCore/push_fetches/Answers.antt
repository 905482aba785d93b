use Rattle.std.proofs.Common.{rules, ◌≡◌, ◌<◌, ◌+◌, ◌∷◌, [], ◌++◌, List, true, false, ap, sym, ◌∙◌, append_assoc}
use Rattle.protocol.specs.Machine.{Message}
use Rattle.nodecore.specs.Shown.{place}
use Rattle.nodecore.proofs.FetchLemmas.{fetches_above, fetches-next, fetch_to, is_other}
use Rattle.nodecore.proofs.node_core.NodeCore.push_fetches.Goals as goal
use Rattle.nodecore.proofs.node_core.NodeCore.push_fetches.Goals.{then-ne+in_ok-push, else-ne}

pub loop-number-preserved : goal.loop-number-preserved
loop-number-preserved c =
    let i = c.loop-number.number in
    let n = c.args.self.now.nodes in
    let at = place c.args.self.now in
    let digest = c.args.digest in
    let less : i < n = search rules in
    elim c.if-ne.branch [
      | then-ne+in_ok-push w ↦
          let other : is_other at (record { 0 = i + 1 }) ≡ true = search rules in
          let items = ap (λ v. v.items) w.sends-is ∙ w.in_ok-push.ensures.items in
          ap (λ (m : List Message). m ++ fetches_above at digest (i + 1) n) items
          ∙ append_assoc c.loop-number.sends.items (fetch_to at digest (record { 0 = i + 1 }) ∷ []) (fetches_above at digest (i + 1) n)
          ∙ sym (ap (λ (m : List Message). c.loop-number.sends.items ++ m) (fetches-next at digest i n true less other))
          ∙ c.loop-number.invariant
      | else-ne w ↦
          let same : is_other at (record { 0 = i + 1 }) ≡ false = search rules in
          ap (λ v. v.items ++ fetches_above at digest (i + 1) n) w.sends-is
          ∙ sym (ap (λ (m : List Message). c.loop-number.sends.items ++ m) (fetches-next at digest i n false less same))
          ∙ c.loop-number.invariant
    ]
