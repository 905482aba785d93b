use Rattle.std.proofs.Common.{[], ◌∷◌, ◌++◌, refl, ◌∙◌, ap, inl}
use Rattle.std.specs.Prelude.{List}
use Rattle.names.specs.Folders.{folder_eq}
use Rattle.names.proofs.CompareLaws.{folder_eq-itself}
use Rattle.protocol.specs.Names.{FolderName}
use Rattle.protocol.proofs.Base.{any_in, in_right}
use Rattle.parked.specs.Noted.{is_noted}
use Rattle.effects.proofs.spent_folders.SpentFolders.note.Goals as goal

pub returns-clause-noted : goal.returns-clause-noted
returns-clause-noted c = λ spent.
    ap (λ (fs : List FolderName). is_noted fs c.args.folder.now) c.in_ok-push.ensures.items
    ∙ any_in (λ (g : FolderName). folder_eq g c.args.folder.now) c.in_ok-copy.field-0 (c.args.self.now.folders.items ++ c.in_ok-copy.field-0 ∷ []) (in_right c.in_ok-copy.field-0 c.args.self.now.folders.items (c.in_ok-copy.field-0 ∷ []) (inl refl))
    (ap (λ (f : FolderName). folder_eq f c.args.folder.now) c.in_ok-copy.ensures ∙ folder_eq-itself c.args.folder.now)
