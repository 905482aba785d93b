use Rattle.std.proofs.Common.{◌≡◌, ◌+◌, ◌∙◌, ℕ, List, take, refl, subst, get_or, arith}
use Rattle.std.proofs.lemmas.List.{take_more, take_all}
use Rattle.std.proofs.lemmas.Grind.{common_steps}
use Rattle.services.specs.Buffers.{HasRead}
use Rattle.services.proofs.ServingLemmas.{at_first, goes_on, one_more, all_written, at_last, Gathering}
use Rattle.services.proofs.serving.take.Goals.{then-are_enough+in_ok-settle, else-are_enough+else-len-capacity}
use Rattle.services.proofs.serving.take.Goals as goal

pub loop-byte-init : goal.loop-byte-init
loop-byte-init g c = record {
  limit = refl;
  capacity = refl;
  room = c.requires.room;
  gathering = λ front read. at_first g.S.Step.steps g.S.Step.settles c.args.buffer.now.limit c.args.step.now c.args.buffer.now (g.W.Write.contents c.args.writer.now) c.args.answers.now.items c.requires.empty front read;
}

pub loop-byte-preserved-in_default : goal.loop-byte-preserved-in_default
loop-byte-preserved-in_default g c =
    let inv = c.loop-byte.invariant in
    let i = c.loop-byte.byte-index in
    let bytes = c.args.bytes.now in
    record {
      limit = c.push.ensures.limit ∙ inv.limit;
      capacity = inv.capacity;
      room = inv.room;
      gathering = λ front read. goes_on g.S.Step.steps g.S.Step.settles c.args.buffer.now.limit (take i bytes) (take (i + 1) bytes) c.args.step.now c.loop-byte.step c.loop-byte.buffer c.push.new.self
          (g.W.Write.contents c.args.writer.now) (g.W.Write.contents c.loop-byte.writer) c.loop-byte.answers.items front (get_or bytes i 0) c.push.result
          (take_more bytes i 0 c.loop-byte-test.true) c.in_default.is c.push.ensures.ends c.push.ensures.grows (inv.gathering front read);
    }

pub loop-byte-preserved : goal.loop-byte-preserved
loop-byte-preserved g c =
    let inv = c.loop-byte.invariant in
    let i = c.loop-byte.byte-index in
    let bytes = c.args.bytes.now in
    let more : (front : List ℕ) → HasRead c.args.buffer.now front → Gathering g.S.Step.steps g.S.Step.settles c.args.buffer.now.limit (take (i + 1) bytes) c.args.step.now c.step.new.self c.push.new.self
    (g.W.Write.contents c.args.writer.now) (g.W.Write.contents c.loop-byte.writer) c.push_reserved.new.self.items front =
    λ front read. one_more g.S.Step.steps g.S.Step.settles c.args.buffer.now.limit (take i bytes) (take (i + 1) bytes) c.args.step.now c.loop-byte.step c.step.new.self c.loop-byte.buffer c.push.new.self
    (g.W.Write.contents c.args.writer.now) (g.W.Write.contents c.loop-byte.writer) c.loop-byte.answers.items c.push_reserved.new.self.items c.step.result front (get_or bytes i 0) c.push.result c.in-Some.line
    (take_more bytes i 0 c.loop-byte-test.true) c.in-Some.is inv.limit c.push.ensures.ends c.push.ensures.grows c.step.ensures c.push_reserved.ensures.items (inv.gathering front read) in
    elim c.if-are_enough.branch [
      | then-are_enough+in_ok-settle w ↦ rw (w.writer-is, w.step-is, w.answers-is) (record {
        limit = c.push.ensures.limit ∙ inv.limit;
        capacity = w.settle.ensures.capacity ∙ c.push_reserved.ensures.capacity ∙ inv.capacity;
        room = omega (arith, w.in_ok-settle.ensures.none, w.settle.ensures.capacity, c.push_reserved.ensures.capacity, inv.capacity, c.requires.room);
        gathering = λ front read. all_written g.S.Step.steps g.S.Step.settles c.args.buffer.now.limit (take (i + 1) bytes) c.args.step.now c.step.new.self w.settle.new.step c.push.new.self
            (g.W.Write.contents c.args.writer.now) (g.W.Write.contents c.loop-byte.writer) (g.W.Write.contents w.settle.new.writer) c.push_reserved.new.self.items w.settle.new.answers.items front
            w.in_ok-settle.ensures.empty w.in_ok-settle.ensures.written (more front read);
      })
      | else-are_enough+else-len-capacity w ↦ rw (w.writer-is, w.step-is, w.answers-is) (record {
        limit = c.push.ensures.limit ∙ inv.limit;
        capacity = c.push_reserved.ensures.capacity ∙ inv.capacity;
        room = omega (arith, w.if-len-capacity.false, w.len.ensures, w.capacity.ensures);
        gathering = more;
      })
    ]

pub returns-in_ok-settle-2-clause-taken : goal.returns-in_ok-settle-2-clause-taken
returns-in_ok-settle-2-clause-taken g c =
    let inv = c.loop-byte.invariant in
    let i = c.loop-byte.byte-index in
    let all : take i c.args.bytes.now ≡ c.args.bytes.now = take_all i c.args.bytes.now (omega (arith, c.loop-byte-test.false, c.loop-byte.auto.byte-index-end)) in
    λ front read. at_last g.S.Step.steps g.S.Step.settles c.args.buffer.now.limit c.args.bytes.now c.args.step.now c.settle-then-not-is_empty.new.step c.loop-byte.buffer (g.W.Write.contents c.args.writer.now) (g.W.Write.contents c.settle-then-not-is_empty.new.writer)
    c.settle-then-not-is_empty.new.answers.items front c.in_ok-settle-2.ensures.empty
    (all_written g.S.Step.steps g.S.Step.settles c.args.buffer.now.limit c.args.bytes.now c.args.step.now c.loop-byte.step c.settle-then-not-is_empty.new.step c.loop-byte.buffer
    (g.W.Write.contents c.args.writer.now) (g.W.Write.contents c.loop-byte.writer) (g.W.Write.contents c.settle-then-not-is_empty.new.writer) c.loop-byte.answers.items c.settle-then-not-is_empty.new.answers.items front
    c.in_ok-settle-2.ensures.empty c.in_ok-settle-2.ensures.written
    (subst (λ bs. Gathering g.S.Step.steps g.S.Step.settles c.args.buffer.now.limit bs c.args.step.now c.loop-byte.step c.loop-byte.buffer (g.W.Write.contents c.args.writer.now) (g.W.Write.contents c.loop-byte.writer) c.loop-byte.answers.items front) all
    (inv.gathering front read)))

pub returns-else-not-is_empty-clause-taken : goal.returns-else-not-is_empty-clause-taken
returns-else-not-is_empty-clause-taken g c =
    let inv = c.loop-byte.invariant in
    let i = c.loop-byte.byte-index in
    let all : take i c.args.bytes.now ≡ c.args.bytes.now = take_all i c.args.bytes.now (omega (arith, c.loop-byte-test.false, c.loop-byte.auto.byte-index-end)) in
    λ front read. at_last g.S.Step.steps g.S.Step.settles c.args.buffer.now.limit c.args.bytes.now c.args.step.now c.loop-byte.step c.loop-byte.buffer (g.W.Write.contents c.args.writer.now) (g.W.Write.contents c.loop-byte.writer)
    c.loop-byte.answers.items front (grind (arith, common_steps, c.is_empty.ensures, c.if-not-is_empty))
    (subst (λ bs. Gathering g.S.Step.steps g.S.Step.settles c.args.buffer.now.limit bs c.args.step.now c.loop-byte.step c.loop-byte.buffer (g.W.Write.contents c.args.writer.now) (g.W.Write.contents c.loop-byte.writer) c.loop-byte.answers.items front) all
    (inv.gathering front read))
