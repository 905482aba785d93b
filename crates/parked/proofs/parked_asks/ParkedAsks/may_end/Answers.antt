use Rattle.std.proofs.Common.{Bool, ◌&&◌, get_or, ap, ◌∙◌}
use Rattle.std.specs.Prelude.{nat_lt}
use Rattle.holdings.specs.declared.ending.Ending.{Ending}
use Rattle.protocol.specs.Machine.{Parked}
use Rattle.parked.specs.Queue.{asks_of}
use Rattle.parked.specs.Waiting.{ends_ask}
use Rattle.parked.proofs.parked_asks.ParkedAsks.may_end.Goals as goal

pub returns-in-LivesBelow : goal.returns-in-LivesBelow
returns-in-LivesBelow c none k d inside =
    let p : Parked = get_or (asks_of c.args.self.now) k d in
    ap (λ (e : Ending). ends_ask e p) c.in-LivesBelow.is ∙ ap (λ (b : Bool). b && nat_lt p.life.0 c.in-LivesBelow.field-1.0) (c.may_have_of-in-LivesBelow.ensures none k d inside)
