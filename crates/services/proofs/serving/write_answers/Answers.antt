use Rattle.std.proofs.Common.{◌≡◌, ◌+◌, ◌∙◌, ◌++◌, ◌∷◌, ℕ, List, [], take, sym, ap, subst}
use Rattle.std.specs.Io.KnownBytes.{Appends}
use Rattle.std.proofs.lemmas.List.{take_more, get_or_read}
use Rattle.services.proofs.ServingLemmas.{more_joined}
use Rattle.services.proofs.serving.write_answers.Goals as goal

pub loop-answer-preserved : goal.loop-answer-preserved
loop-answer-preserved g c =
    let i = c.loop-answer.answer-index in
    let answers = c.args.answers.now in
    let item : List ℕ = c.answer-item.result in
    let longer : take (i + 1) answers ≡ take i answers ++ item ∷ [] =
    take_more answers i item c.loop-answer-test.true ∙ ap (λ (x : List ℕ). take i answers ++ x ∷ []) (sym (get_or_read answers i item c.loop-answer-test.true c.answer-item.is item)) in
    more_joined (g.W.Write.contents c.args.writer.now) (g.W.Write.contents c.loop-answer.writer) (g.W.Write.contents c.write_all.new.self) (take i answers) (take (i + 1) answers)
    item longer c.loop-answer.invariant
    (subst (Appends (g.W.Write.contents c.loop-answer.writer) (g.W.Write.contents c.write_all.new.self)) (c.as_bytes.ensures.value ∙ c.text.ensures) c.in_ok-write_all.ensures.bytes)
