use Rattle.std.proofs.Common.{◌≡◌, ℕ, List, ◌<◌, take}
use Rattle.std.specs.Prelude.{vec_len}
use Rattle.std.specs.Vec.{vec_capacity}
use Rattle.services.specs.Buffers.{HasRead}
use Rattle.services.proofs.ServingLemmas.{Gathering}
use Rattle.services.proofs.serving.take.Given as goal

abbrev pub invariant-loop-byte : goal.invariant-loop-byte
invariant-loop-byte g l = record {
  limit : l.buffer.limit ≡ l.fn.buffer.limit;
  capacity : vec_capacity l.answers ≡ vec_capacity l.fn.answers;
  room : vec_len l.answers < vec_capacity l.answers;
  gathering : (front : List ℕ) → HasRead l.fn.buffer front → Gathering g.S.Step.steps g.S.Step.settles l.fn.buffer.limit (take l.byte-index l.bytes) l.fn.step l.step l.buffer
      (g.W.Write.contents l.fn.writer) (g.W.Write.contents l.writer) l.answers.items front;
}
