use Rattle.std.proofs.Common.{◌++◌, List, length, refl, ap, ◌∙◌, arith}
use Rattle.std.proofs.lemmas.Option.{slice_get_read}
use Rattle.executions.specs.declared.call.Call.{Call}
use Rattle.farmend.proofs.NewsLemmas.{new_at}
use Rattle.farmend.proofs.news.news_of.Goals as goal

pub loop-place-preserved : goal.loop-place-preserved
loop-place-preserved c =
    let hired = c.args.hired.now in
    let ends = c.args.ends.now in
    let k = c.loop-place.place in
    let h = c.index-hired-place.result in
    let end = c.index-ends-place.result in
    let more = c.in-Some.more in
    let at_hired = slice_get_read hired (length hired) k h refl c.loop-place-test.true c.index-hired-place.is in
    let at_ends = slice_get_read ends (length hired) k end (omega (arith, c.if-hired-ends.false)) c.loop-place-test.true c.index-ends-place.is in
    let grew = c.in-Some.ensures ∙ ap (λ (had : List Call). had ++ more.now) c.as_slice.ensures.value in
    new_at hired ends k c.loop-place.news.items c.push.new.self.items h end more at_hired at_ends c.in_ok-push.ensures.items grew c.loop-place.invariant
