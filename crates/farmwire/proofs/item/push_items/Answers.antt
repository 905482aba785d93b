use Rattle.std.proofs.Common.{◌≡◌, ℕ, List, ◌++◌, [], ◌∷◌, ap, ◌∙◌, arith}
use Rattle.std.specs.String.{string_bytes}
use Rattle.farmwire.specs.Words.{spaced}
use Rattle.farmwire.proofs.WriteLemmas.{spaced-more, spaced_word}
use Rattle.farmwire.proofs.item.push_items.Goals as goal

pub loop-item-preserved : goal.loop-item-preserved
loop-item-preserved g c =
    let old : List ℕ = string_bytes c.loop-item.text in
    let item = c.item-item.result in
    let word : List ℕ = g.T.Item.spelling item in
    let more = spaced-more g.T.Item.spelling (string_bytes c.args.text.now) old c.args.items.now c.loop-item.item-index item c.loop-item-test.true c.loop-item.invariant in
    let space : string_bytes c.push.new.self ≡ old ++ 32 ∷ [] = c.in_ok-push.ensures.bytes ∙ ap (λ (byte : List ℕ). old ++ byte) (c.in_ok-push.ensures.ascii (omega arith)) in
    let pushed : string_bytes c.push-in-loop-item.new.text ≡ string_bytes c.push.new.self ++ word = c.in_ok-push-2.ensures in
    let behind : string_bytes c.push.new.self ++ word ≡ (old ++ 32 ∷ []) ++ word = ap (λ (text : List ℕ). text ++ word) space in
    let here : old ++ spaced (word ∷ []) ≡ old ++ spaced (g.T.Item.spelling _ ∷ []) = ap (λ x. old ++ spaced (g.T.Item.spelling x ∷ [])) c.item-item.is in
    pushed ∙ behind ∙ spaced_word old word ∙ here ∙ more
