use Rattle.std.proofs.Common.{◌<◌, ◌^◌, get_or, sym, arith}
use Rattle.std.proofs.lemmas.Bool.{true≢false}
use Rattle.leaseindex.proofs.InstanceLemmas.{zero_word}
use Rattle.leaseindex.proofs.instances.Instances.is_empty.Goals as goal

pub returns-then-word-ne0 : goal.returns-then-word-ne0
returns-then-word-ne0 c =
    let words = c.args.self.now.words in
    let below : get_or words c.loop-word.word-index 0 < 2 ^ 64 = omega arith in
    ((λ is i. absurd (true≢false (sym is))), (λ none. absurd (c.if-word-ne0.true (zero_word words c.loop-word.word-index below none))))
