use Rattle.std.proofs.Common.{◌≡◌, ◌⊎◌, true, inl, inr, sym, ap, subst}
use Rattle.filekeeper.specs.Keepers.{LeavesAny, MayLast}
use Rattle.filekeeper.specs.RecordFiles.{calls_in}
use Rattle.filekeeper.proofs.KeptLemmas.{either, synced}
use Rattle.filekeeper.proofs.file_keeper.FileKeeper.write.Goals as goal

pub returns-then-is_err-clause-any_moment : goal.returns-then-is_err-clause-any_moment
returns-then-is_err-clause-any_moment g c =
    let x = c.self.inside.files in
    let y = c.sync.new.self in
    let same : (calls_in y ≡ calls_in x) ⊎ (x.settled ≡ true) = elim (either c.sync.result (y ≡ x) (x.settled ≡ true) c.sync.ensures.settled c.sync.ensures.unsettled) [ inl is ↦ inl (ap calls_in is) | inr settled ↦ inr settled ] in
    subst (LeavesAny (MayLast c.args.self.now) c.args.self.now) (sym c.failed.ensures.exact) (rw (← c.self.view_is) (synced x.log x.lasting (calls_in x) x.settled (calls_in y) same c.sync.ensures.any_moment))

pub returns-clause-any_moment : goal.returns-clause-any_moment
returns-clause-any_moment g c =
    let x = c.self.inside.files in
    let y = c.sync.new.self in
    let same : (calls_in y ≡ calls_in x) ⊎ (x.settled ≡ true) = elim (either c.sync.result (y ≡ x) (x.settled ≡ true) c.sync.ensures.settled c.sync.ensures.unsettled) [ inl is ↦ inl (ap calls_in is) | inr settled ↦ inr settled ] in
    rw (← c.self.view_is) (synced x.log x.lasting (calls_in x) x.settled (calls_in y) same c.sync.ensures.any_moment)
