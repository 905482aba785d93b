use Rattle.std.proofs.Common.{ℕ, Bor, List, [], ◌∷◌, map, ap, ◌∙◌, arith}
use Rattle.std.specs.Option.{option_copied}
use Rattle.std.proofs.lemmas.List.{map-append, nil_from_length}
use Rattle.merging.specs.Views.{seen, picked, lines_of, conflicts_of}
use Rattle.merging.proofs.DecideLoop.{steps, ends, map-reverse}
use Rattle.merging.proofs.merging.decide.Goals as goal

pub loop-row-preserved : goal.loop-row-preserved
loop-row-preserved c =
    steps c.args.rule (map seen c.args.rows.items) (map seen c.loop-row.rows.items) (map seen c.pop.new.self.items) (seen c.in-Some.row)
    (option_copied c.loop-row.next) (option_copied c.next_taken-next.result)
    (lines_of c.loop-row.merged) (lines_of c.push.new.self) (conflicts_of c.loop-row.merged) (conflicts_of c.push.new.self)
    c.loop-row.invariant
    (ap (map seen) c.in-Some.ensures.items ∙ map-append seen c.pop.new.self.items (c.in-Some.row ∷ []))
    c.next_taken-next.ensures c.in_ok-push.ensures.lines c.in_ok-push.ensures.conflicts

pub returns-clause-lines : goal.returns-clause-lines
returns-clause-lines c =
    ap (map picked) c.reverse.ensures.items ∙ map-reverse picked c.loop-row.merged.lines.items
    ∙ (ends c.args.rule (map seen c.args.rows.items) (map seen c.loop-row.rows.items) (option_copied c.loop-row.next) (lines_of c.loop-row.merged) (conflicts_of c.loop-row.merged)
    c.loop-row.invariant (ap (map seen) (nil_from_length c.loop-row.rows.items (let none = c.in_default.ensures.cases.0 in omega arith)))).0

pub returns-clause-conflicts : goal.returns-clause-conflicts
returns-clause-conflicts c =
    ap (map (λ (path : Bor (List ℕ)). path.now)) c.reverse-2.ensures.items ∙ map-reverse (λ (path : Bor (List ℕ)). path.now) c.loop-row.merged.conflicts.items
    ∙ (ends c.args.rule (map seen c.args.rows.items) (map seen c.loop-row.rows.items) (option_copied c.loop-row.next) (lines_of c.loop-row.merged) (conflicts_of c.loop-row.merged)
    c.loop-row.invariant (ap (map seen) (nil_from_length c.loop-row.rows.items (let none = c.in_default.ensures.cases.0 in omega arith)))).1
