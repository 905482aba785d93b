use Rattle.std.proofs.Common.{refl, ap, ◌∙◌}
use Rattle.indexmap.specs.IndexMap.{get}
use Rattle.names.specs.Folders.{folder_eq}
use Rattle.protocol.specs.Names.{FolderName}
use Rattle.parked.specs.declared.noted_asks.NotedAsks.{NotedAsks}
use Rattle.parked.proofs.NotedWords.{keeps-folder, none-kept}
use Rattle.parked.proofs.noted_asks.NotedAsks.add.Goals as goal

pub returns-in_err-note_more-clause-kept : goal.returns-in_err-note_more-clause-kept
returns-in_err-note_more-clause-kept c =
    let x : NotedAsks = c.args.self.now in
    keeps-folder x (record { by_folder = c.note_more.new.noted; by_node = x.by_node }) c.args.folder.now (λ m. refl) c.note_more.ensures.kept c.note_more.ensures.others

pub returns-in_err-copy-clause-kept : goal.returns-in_err-copy-clause-kept
returns-in_err-copy-clause-kept c =
    let x : NotedAsks = c.args.self.now in
    keeps-folder x (record { by_folder = c.note_more.new.noted; by_node = x.by_node }) c.args.folder.now (λ m. refl) c.note_more.ensures.kept c.note_more.ensures.others

pub returns-else-not-branch-clause-kept : goal.returns-else-not-branch-clause-kept
returns-else-not-branch-clause-kept c =
    let x : NotedAsks = c.args.self.now in
    keeps-folder x (record { by_folder = c.note_more.new.noted; by_node = x.by_node }) c.args.folder.now (λ m. refl) c.note_more.ensures.kept c.note_more.ensures.others

pub returns-in_err-note_first-clause-kept : goal.returns-in_err-note_first-clause-kept
returns-in_err-note_first-clause-kept c =
    let x : NotedAsks = c.args.self.now in
    let f : FolderName = c.args.folder.now in
    keeps-folder x (record { by_folder = c.note_first.new.noted; by_node = x.by_node }) f (λ m. refl)
    (λ n h. none-kept (get folder_eq c.note_more.new.noted f) n (c.in_ok-note_more.ensures.none c.if-not-branch.true) (c.note_more.ensures.kept n h))
    (λ g e. c.note_first.ensures.others g (ap (λ (k : FolderName). folder_eq k g) c.in_ok-copy.ensures ∙ e) ∙ c.note_more.ensures.others g e)

pub returns-in_ok-note_first-clause-kept : goal.returns-in_ok-note_first-clause-kept
returns-in_ok-note_first-clause-kept c =
    let x : NotedAsks = c.args.self.now in
    let f : FolderName = c.args.folder.now in
    keeps-folder x (record { by_folder = c.note_first.new.noted; by_node = x.by_node }) f (λ m. refl)
    (λ n h. none-kept (get folder_eq c.note_more.new.noted f) n (c.in_ok-note_more.ensures.none c.if-not-branch.true) (c.note_more.ensures.kept n h))
    (λ g e. c.note_first.ensures.others g (ap (λ (k : FolderName). folder_eq k g) c.in_ok-copy.ensures ∙ e) ∙ c.note_more.ensures.others g e)
