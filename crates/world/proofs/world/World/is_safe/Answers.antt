use Rattle.std.proofs.Math.Logic.{∥∥₁_map}
use Rattle.world.specs.Shown.{shown}
use Rattle.world.proofs.world.World.is_safe.Goals as goal

pub returns : goal.returns
unfolding shown
returns c = ∥∥₁_map c.args.self.now.sound (λ w. w.safe)
