use Rattle.std.proofs.Common.{◌≡◌, ◌<◌, [], length}
use Rattle.std.specs.Prelude.{IfSome, vec_len}
use Rattle.std.specs.Vec.{vec_capacity}
use Rattle.services.proofs.ServingLemmas.{SoFar}
use Rattle.services.proofs.serving.serve.Given as goal

abbrev pub invariant-loop : goal.invariant-loop
invariant-loop g l = record {
  limit : l.buffer.limit ≡ l.limit;
  empty : l.answers.items ≡ [];
  room : vec_len l.answers < vec_capacity l.answers;
  chunk : 0 < length l.chunk.items;
  so_far : IfSome (g.R.Read.remaining l.fn.reader) (λ text. SoFar g.S.Step.steps g.S.Step.settles l.limit l.fn.greeting text l.fn.step l.step
      (g.W.Write.contents l.fn.writer) (g.W.Write.contents l.writer) l.buffer (g.R.Read.remaining l.reader));
}
