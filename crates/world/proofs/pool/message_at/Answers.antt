use Rattle.std.proofs.Common.{◌<◌, length, arith, rules}
use Rattle.world.proofs.PoolLemmas.{number_at}
use Rattle.world.proofs.pool.message_at.Goals as goal

pub returns : goal.returns
returns c =
    let inside : c.in_ok-place.place < length c.args.pool.now = omega (arith, c.in_ok-place.ensures.inside) in
    number_at c.args.pool.now c.args.number c.in_ok-place.place c.index-pool-place.result c.in_ok-place.ensures.found inside (search rules)
