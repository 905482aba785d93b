use Rattle.std.proofs.Common.{subst}
use Rattle.std.specs.Prelude.{IfOk}
use Rattle.std.specs.String.{string_bytes}
use Rattle.protocol.specs.Replay.{Farm}
use Rattle.draw.specs.Drawings.{IsPictureIn}
use Rattle.draw.proofs.drawing.draw.Goals as goal

pub returns : goal.returns
returns c = subst (λ (s : Farm). IfOk c.drawn.result (λ text. IsPictureIn s c.args.setup.nodes c.args.events.now c.args.range (string_bytes text))) c.in_ok-world.ensures c.drawn.ensures
