use Rattle.std.proofs.Common.{◌<◌, ◌∙◌, take, sym, ap, subst, arith}
use Rattle.std.proofs.lemmas.Grind.{common_steps}
use Rattle.services.specs.Served.{Takes}
use Rattle.services.proofs.ServingLemmas.{kept_after, at_start, more_read, none_read, at_end}
use Rattle.services.proofs.serving.serve.Goals.{in-Ok+in_ok-take-in-Ok, in-Err+else-ne}
use Rattle.services.proofs.serving.serve.Goals as goal

pub loop-init : goal.loop-init
loop-init g c = record {
  limit = c.new-buffer.ensures.limit;
  empty = c.in_ok-answers.ensures.items;
  room = omega (arith, c.in_ok-answers.ensures.len, c.in_ok-answers.ensures.capacity);
  chunk = grind (arith, common_steps, c.in_ok-chunk.ensures);
  so_far = at_start g.S.Step.steps g.S.Step.settles c.args.limit c.args.greeting.now c.args.step.now (g.W.Write.contents c.args.writer.now) (g.W.Write.contents c.flush.new.self)
      c.new-buffer.result (g.R.Read.remaining c.args.reader) c.new-buffer.ensures.empty
      (kept_after (g.W.Write.contents c.args.writer.now) (g.W.Write.contents c.write_all.new.self) (g.W.Write.contents c.flush.new.self) c.args.greeting.now
      c.in_ok-write_all.ensures.bytes c.flush.ensures.bytes);
}

pub returns-in-Ok-eq0 : goal.returns-in-Ok-eq0
returns-in-Ok-eq0 g c =
    let inv = c.loop.invariant in
    let read = rw c.in-Ok-eq0.is at c.read_some.ensures.bytes in
    at_end g.S.Step.steps g.S.Step.settles c.args.limit c.args.greeting.now (take c.in-Ok-eq0.field-0 c.read_some.new.chunk.items) c.args.step.now c.loop.step (g.W.Write.contents c.args.writer.now) (g.W.Write.contents c.loop.writer)
    c.loop.buffer (g.R.Read.remaining c.args.reader) (g.R.Read.remaining c.loop.reader) (g.R.Read.remaining c.read_some.new.reader)
    (ap (λ n. take n c.read_some.new.chunk.items) c.in-Ok-eq0.field-0-test) read.0 (read.1 c.in-Ok-eq0.field-0-test (subst (λ n. 0 < n) (sym c.read_some.ensures.len) inv.chunk)) inv.so_far

pub loop-preserved : goal.loop-preserved
loop-preserved g c =
    let inv = c.loop.invariant in
    elim c.match-read_some.branch [
      | in-Ok+in_ok-take-in-Ok w ↦ rw (w.writer-is, w.step-is, w.buffer-is, w.answers-is) (
          let read = rw w.in-Ok.is at c.read_some.ensures.bytes in
          record {
            limit = w.take.ensures.limit ∙ inv.limit;
            empty = w.in_ok-take-in-Ok.ensures.empty;
            room = w.in_ok-take-in-Ok.ensures.room;
            chunk = subst (λ n. 0 < n) (sym c.read_some.ensures.len) inv.chunk;
            so_far = more_read g.S.Step.steps g.S.Step.settles c.args.limit c.args.greeting.now (take w.in-Ok.read c.read_some.new.chunk.items) c.args.step.now c.loop.step w.take.new.step
                (g.W.Write.contents c.args.writer.now) (g.W.Write.contents c.loop.writer) (g.W.Write.contents w.take.new.writer) c.loop.buffer w.take.new.buffer (g.R.Read.remaining c.args.reader)
                (g.R.Read.remaining c.loop.reader) (g.R.Read.remaining c.read_some.new.reader) read.0
                (λ front had. subst (λ n. Takes g.S.Step.steps g.S.Step.settles n (take w.in-Ok.read c.read_some.new.chunk.items) c.loop.step w.take.new.step w.take.new.buffer (g.W.Write.contents c.loop.writer) (g.W.Write.contents w.take.new.writer) front) inv.limit
                (subst (λ xs. Takes g.S.Step.steps g.S.Step.settles c.loop.buffer.limit (take w.in-Ok.read xs) c.loop.step w.take.new.step w.take.new.buffer (g.W.Write.contents c.loop.writer) (g.W.Write.contents w.take.new.writer) front) w.as_slice.ensures.value
                (w.in_ok-take-in-Ok.ensures.taken front had))) inv.so_far;
          })
      | in-Err+else-ne w ↦ rw (w.writer-is, w.step-is, w.buffer-is, w.answers-is) (record {
        limit = inv.limit;
        empty = inv.empty;
        room = inv.room;
        chunk = subst (λ n. 0 < n) (sym c.read_some.ensures.len) inv.chunk;
        so_far = none_read g.S.Step.steps g.S.Step.settles c.args.limit c.args.greeting.now c.args.step.now c.loop.step (g.W.Write.contents c.args.writer.now) (g.W.Write.contents c.loop.writer) c.loop.buffer
            (g.R.Read.remaining c.args.reader) (g.R.Read.remaining c.loop.reader) (g.R.Read.remaining c.read_some.new.reader) (rw w.in-Err.is at c.read_some.ensures.bytes) inv.so_far;
      })
    ]
