use Rattle.std.proofs.Common.{◌++◌, length, drop, replicate, ap, ◌∙◌}
use Rattle.seals.proofs.MacLemmas.{zeros_behind}
use Rattle.seals.proofs.hmac.filled.Goals as goal

pub returns : goal.returns
returns c =
    ap (λ front. front ++ drop (length c.args.key.now) (replicate 64 0)) c.copy_from_slice.ensures.after
    ∙ ap (λ zeros. c.args.key.now ++ zeros) (zeros_behind (length c.args.key.now))
