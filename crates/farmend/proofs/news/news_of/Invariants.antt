use Rattle.std.proofs.Common.{map, take}
use Rattle.farmend.specs.NewCalls.{AreNew}
use Rattle.farmend.proofs.news.news_of.Given as goal

-- the executors so far, with their new calls
abbrev pub invariant-loop-place : goal.invariant-loop-place
invariant-loop-place l = AreNew (map (λ each. each.node) (take l.place l.hired)) (map (λ each. each.had.items) (take l.place l.hired)) (map (λ calls. calls.now) (take l.place l.ends)) l.news.items
