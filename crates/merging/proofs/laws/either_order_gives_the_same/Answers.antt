use Rattle.merging.proofs.MergeLaws.{orders_agree, one_merge}
use Rattle.merging.proofs.laws.either_order_gives_the_same.Goals as goal

pub returns : goal.returns
returns c = λ rule base one two theirs with_one with_two one_last two_last m1 m2 m12 m21 f1 f2 f12 f21.
    one_merge rule rule base one with_two base two with_one one_last two_last m12 m21 (orders_agree rule base one two theirs with_one with_two m1 m2 f1 f2 f12 f21)
