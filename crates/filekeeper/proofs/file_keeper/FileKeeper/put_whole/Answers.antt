use Rattle.std.proofs.Common.{◌≡◌, ◌⊎◌, true, inl, inr, sym, ap, subst}
use Rattle.filekeeper.specs.Keepers.{LeavesAny, MayLast}
use Rattle.filekeeper.specs.RecordFiles.{calls_in}
use Rattle.saverecord.specs.Texts.{whole_alone}
use Rattle.filekeeper.proofs.KeptLemmas.{either, replaced}
use Rattle.filekeeper.proofs.file_keeper.FileKeeper.put_whole.Goals as goal

pub returns-then-is_err-clause-any_moment : goal.returns-then-is_err-clause-any_moment
returns-then-is_err-clause-any_moment g c =
    let x = c.self.inside.files in
    let y = c.replace.new.self in
    let new = whole_alone c.args.bytes.items in
    let same : (calls_in y ≡ calls_in x) ⊎ (x.settled ≡ true) = elim (either c.replace.result (y ≡ x) (x.settled ≡ true) c.replace.ensures.settled c.replace.ensures.unsettled) [ inl is ↦ inl (ap calls_in is) | inr settled ↦ inr settled ] in
    subst (LeavesAny (λ left. MayLast c.args.self.now left ⊎ (left ≡ new)) c.args.self.now) (sym c.failed.ensures.exact)
    (rw (← c.self.view_is) (replaced x.log x.lasting (calls_in x) new x.settled (calls_in y) same c.replace.ensures.any_moment))

pub returns-clause-any_moment : goal.returns-clause-any_moment
returns-clause-any_moment g c =
    let x = c.self.inside.files in
    let y = c.replace.new.self in
    let new = whole_alone c.args.bytes.items in
    let same : (calls_in y ≡ calls_in x) ⊎ (x.settled ≡ true) = elim (either c.replace.result (y ≡ x) (x.settled ≡ true) c.replace.ensures.settled c.replace.ensures.unsettled) [ inl is ↦ inl (ap calls_in is) | inr settled ↦ inr settled ] in
    rw (← c.self.view_is) (replaced x.log x.lasting (calls_in x) new x.settled (calls_in y) same c.replace.ensures.any_moment)
