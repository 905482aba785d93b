use Rattle.std.proofs.Common.{take}
use Rattle.reasons.specs.Solved.{AreGiven, news_in}
use Rattle.reasons.proofs.solved.flags_of.Given as goal

-- the keys so far have their flags
abbrev pub invariant-loop-key : goal.invariant-loop-key
invariant-loop-key l = AreGiven (news_in l.made) (take l.key-index l.keys) l.flags.items
