use Rattle.std.proofs.Common.{◌≡◌, ◌∷◌, List, length, Result, ap, sym, ◌∙◌, arith}
use Rattle.std.specs.Vec.Iter.{into_iter_items}
use Rattle.codec.specs.Steps.{◌>>=◌}
use Rattle.versions.specs.Lines.{LineOf, line_at}
use Rattle.versions.specs.declared.lines.SlotLine.{SlotLine}
use Rattle.recordparts.specs.declared.refusal.RecordRefusal.{RecordRefusal}
use Rattle.saverecord.specs.Logs.{with_versions}
use Rattle.saverecord.proofs.folding.with_versions.Goals as goal

pub loop-line-preserved : goal.loop-line-preserved
loop-line-preserved c =
    let rest : List SlotLine = into_iter_items c.next.new.self in
    let first : into_iter_items c.loop-line.line-iterator ≡ c.in-Some.line ∷ rest = c.in-Some.ensures.steps.0 in
    let less = c.in-Some.ensures.steps.1 in
    let size : length (into_iter_items c.loop-line.line-iterator) ≡ length (c.in-Some.line ∷ rest) = ap length first in
    let was = c.loop-line.invariant.count in
    record {
      can = tt;
      finite = tt;
      lines = ap (λ (r : Result LineOf RecordRefusal). r >>= with_versions rest) (sym c.in_ok-lines.ensures) ∙ ap (λ (ls : List SlotLine). with_versions ls (line_at c.loop-line.lines)) (sym first) ∙ c.loop-line.invariant.lines;
      count = omega arith;
    }
