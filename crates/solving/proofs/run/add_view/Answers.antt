use Rattle.std.proofs.Common.{List, sym, subst}
use Rattle.names.specs.declared.folder.FolderName.{FolderName}
use Rattle.folders.specs.Files.{Files}
use Rattle.solving.specs.Places.{IsSeenIn}
use Rattle.solving.proofs.ViewLemmas.{seen_here, seen_push}
use Rattle.solving.proofs.run.add_view.Goals as goal

pub returns-in_ok-push-clause-kept : goal.returns-in_ok-push-clause-kept
returns-in_ok-push-clause-kept c = λ other seen.
    subst (λ (views : List (FolderName × Files)). IsSeenIn views other) (sym c.in_ok-push.ensures.items) (seen_push c.args.views.now.items _ other seen)

pub returns-in_ok-push-clause-seen : goal.returns-in_ok-push-clause-seen
returns-in_ok-push-clause-seen c =
    subst (λ (views : List (FolderName × Files)). IsSeenIn views c.args.want.now) (sym c.in_ok-push.ensures.items)
    (seen_here c.args.views.now.items _ c.args.want.now c.in_ok-copy.ensures)
