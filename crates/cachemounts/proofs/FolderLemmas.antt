-- A cache mount has one folder.
use Rattle.std.proofs.Common.{◌≡◌, List, refl, sym, ap, ◌∙◌}
use Rattle.names.specs.declared.folder.Base.{Base}
use Rattle.names.specs.declared.folder.FolderName.{FolderName}
use Rattle.names.specs.declared.folder.Mode.{Mode}
use Rattle.names.specs.declared.folder.Mode.TheVariants.{Shared, Private, Locked}
use Rattle.opsproto.specs.Scalars.{Text}
use Rattle.opsproto.specs.declared.exec.CacheOpt.{CacheOpt}
use Rattle.opsproto.specs.declared.exec.Mount.{Mount}
use Rattle.cachemounts.specs.CacheFolders.{id_or_dest, sharing_of, HasFolder}

-- a sharing is that of one mode
modes_are : (one other : Mode) → sharing_of one ≡ sharing_of other → one ≡ other
modes_are Shared Shared e = refl
modes_are Shared Private e = absurd (cc e)
modes_are Shared Locked e = absurd (cc e)
modes_are Private Shared e = absurd (cc e)
modes_are Private Private e = refl
modes_are Private Locked e = absurd (cc e)
modes_are Locked Shared e = absurd (cc e)
modes_are Locked Private e = absurd (cc e)
modes_are Locked Locked e = refl

-- a mount has one folder
pub one_folder : (outputs : List Base) (mount : Mount Text) (one other : FolderName) → HasFolder outputs mount one → HasFolder outputs mount other → one ≡ other
one_folder outputs mount one other h k =
    let same : h.cache ≡ k.cache = let a = h.option in let b = k.option in cc (a, b) in
    let id : one.id ≡ other.id = h.id ∙ ap (λ (c : CacheOpt Text). id_or_dest c.id mount.dest) same ∙ sym k.id in
    let mode : one.mode ≡ other.mode = modes_are one.mode other.mode (h.mode ∙ ap (λ (c : CacheOpt Text). c.sharing) same ∙ sym k.mode) in
    let base : one.base ≡ other.base = h.base ∙ sym k.base in
    λ j. record { id = id j; mode = mode j; base = base j }
