use Rattle.std.proofs.Common.{rules, append_assoc}
use Rattle.draw.proofs.shape.push_rect.Goals as goal

pub returns : goal.returns
returns c = search (rules, append_assoc)
