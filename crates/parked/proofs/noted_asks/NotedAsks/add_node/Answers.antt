use Rattle.std.proofs.Common.{refl, ◌∙◌}
use Rattle.indexmap.specs.IndexMap.{get}
use Rattle.holdings.specs.Lives.{node_eq}
use Rattle.parked.specs.declared.noted_asks.NotedAsks.{NotedAsks}
use Rattle.parked.proofs.NotedWords.{keeps-node, none-kept}
use Rattle.parked.proofs.noted_asks.NotedAsks.add_node.Goals as goal

pub returns-in_err-note_more-clause-kept : goal.returns-in_err-note_more-clause-kept
returns-in_err-note_more-clause-kept c =
    let x : NotedAsks = c.args.self.now in
    keeps-node x (record { by_folder = x.by_folder; by_node = c.note_more.new.noted }) c.args.node (λ f. refl) c.note_more.ensures.kept c.note_more.ensures.others

pub returns-else-not-branch-clause-kept : goal.returns-else-not-branch-clause-kept
returns-else-not-branch-clause-kept c =
    let x : NotedAsks = c.args.self.now in
    keeps-node x (record { by_folder = x.by_folder; by_node = c.note_more.new.noted }) c.args.node (λ f. refl) c.note_more.ensures.kept c.note_more.ensures.others

pub returns-in_err-note_first-clause-kept : goal.returns-in_err-note_first-clause-kept
returns-in_err-note_first-clause-kept c =
    let x : NotedAsks = c.args.self.now in
    keeps-node x (record { by_folder = x.by_folder; by_node = c.note_first.new.noted }) c.args.node (λ f. refl)
    (λ n h. none-kept (get node_eq c.note_more.new.noted c.args.node) n (c.in_ok-note_more.ensures.none c.if-not-branch.true) (c.note_more.ensures.kept n h))
    (λ m e. c.note_first.ensures.others m e ∙ c.note_more.ensures.others m e)

pub returns-in_ok-note_first-clause-kept : goal.returns-in_ok-note_first-clause-kept
returns-in_ok-note_first-clause-kept c =
    let x : NotedAsks = c.args.self.now in
    keeps-node x (record { by_folder = x.by_folder; by_node = c.note_first.new.noted }) c.args.node (λ f. refl)
    (λ n h. none-kept (get node_eq c.note_more.new.noted c.args.node) n (c.in_ok-note_more.ensures.none c.if-not-branch.true) (c.note_more.ensures.kept n h))
    (λ m e. c.note_first.ensures.others m e ∙ c.note_more.ensures.others m e)
