use Rattle.std.proofs.Common.{rules, ◌≡◌, ◌<◌, ◌+◌, ◌-◌, List, [], ◌∷◌, ◌++◌, length, map, ap, sym, ◌∙◌, append_assoc}
use Rattle.std.specs.List.{range_with_len}
use Rattle.world.specs.Shown.{shown}
use Rattle.draw.specs.declared.frame.Sent.{Sent}
use Rattle.draw.specs.Pictures.{sent_of}
use Rattle.draw.proofs.NextNumbers.{next_range}
use Rattle.draw.proofs.picture.sent_after.Goals as goal

pub loop-place-preserved : goal.loop-place-preserved
loop-place-preserved c =
    let pool = (shown c.args.world.now).pool in
    let place = c.loop-place.place in
    let below : place < length pool = search rules in
    let rest : List Sent = map (sent_of pool) (range_with_len (place + 1 + 1) (length pool - (place + 1))) in
    let next : map (sent_of pool) (range_with_len (place + 1) (length pool - place)) ≡ sent_of pool (place + 1) ∷ rest
    = ap (map (sent_of pool)) (next_range place (length pool) below) in
    let pushed : c.push.new.self.items ≡ c.loop-place.sent.items ++ sent_of pool (place + 1) ∷ [] = search rules in
    ap (λ (ls : List Sent). ls ++ rest) pushed ∙ append_assoc c.loop-place.sent.items (sent_of pool (place + 1) ∷ []) rest
    ∙ ap (λ (t : List Sent). c.loop-place.sent.items ++ t) (sym next) ∙ c.loop-place.invariant
