use Rattle.std.proofs.Common.{Bool, ◌||◌, sym, ◌∙◌, ap, arith}
use Rattle.std.proofs.lemmas.Bool.{ne_eqb}
use Rattle.leaseindex.specs.Instances.{has}
use Rattle.leases.specs.Table.{is_free}
use Rattle.leases.proofs.TableLemmas.{lowest-missing, lowest-all_there}
use Rattle.leases.proofs.view.TableView.lowest.Goals as goal

pub returns-then-lowest-le-INSTANCES-clause-value :
    goal.returns-then-lowest-le-INSTANCES-clause-value
returns-then-lowest-le-INSTANCES-clause-value c =
    sym (lowest-missing (is_free c.args.self.now) c.args.folder.now (has c.insert.new.self) c.lowest_missing-lowest.result
    (λ i from to. c.insert.ensures i to ∙ ap (λ (b : Bool). b || has c.taken-taken.result i) (ne_eqb 0 i (λ same. omega arith)) ∙ c.taken-taken.ensures i from to)
    (c.insert.ensures 0 (omega arith)) c.if-lowest-le-INSTANCES.true (c.lowest_missing-lowest.ensures.missing c.if-lowest-le-INSTANCES.true) c.lowest_missing-lowest.ensures.below)

pub returns-else-lowest-le-INSTANCES-clause-value :
    goal.returns-else-lowest-le-INSTANCES-clause-value
returns-else-lowest-le-INSTANCES-clause-value c =
    sym (lowest-all_there (is_free c.args.self.now) c.args.folder.now (has c.insert.new.self) c.lowest_missing-lowest.result
    (λ i from to. c.insert.ensures i to ∙ ap (λ (b : Bool). b || has c.taken-taken.result i) (ne_eqb 0 i (λ same. omega arith)) ∙ c.taken-taken.ensures i from to)
    (omega arith) c.lowest_missing-lowest.ensures.below)
