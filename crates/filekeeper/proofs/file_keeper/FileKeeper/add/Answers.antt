use Rattle.std.proofs.Common.{◌≡◌, ◌⊎◌, false, Result, Ok, Err, OnOk, inl, sym, subst}
use Rattle.std.specs.Result.{is_err}
use Rattle.filekeeper.specs.Disks.Leaves.{Begins}
use Rattle.filekeeper.specs.Disks.{Leaves, MayLeave}
use Rattle.filekeeper.specs.Keepers.{MayLast}
use Rattle.filekeeper.specs.RecordFiles.{calls_in, texts_in, how_many_last, is_settled}
use Rattle.filekeeper.specs.Settled.{HoldsAny}
use Rattle.saverecord.specs.Texts.{with_text}
use Rattle.filekeeper.proofs.KeptLemmas.{added}
use Rattle.filekeeper.proofs.file_keeper.FileKeeper.add.Goals as goal

ok_of : {T E : Type 0} (result : Result T E) (P : Type 0) → false ≡ is_err result → OnOk result P → P
ok_of (Ok done) P is ok = ok
ok_of (Err error) P is ok = absurd (cc is)

pub returns-then-is_err-clause-any_moment : goal.returns-then-is_err-clause-any_moment
returns-then-is_err-clause-any_moment g c =
    let old = c.args.self.now in
    let same : calls_in c.gather.new.self ≡ old.calls = rw (← c.self.view_is) c.gather.ensures.calls in
    subst (Leaves (λ f. MayLeave old.calls f ⊎ HoldsAny (λ left. MayLast old left ⊎ (left ≡ with_text c.args.entry.items old.texts)) f) old.calls) (sym same) (Begins (λ f left. inl left))

pub returns-then-is_err-2-clause-any_moment : goal.returns-then-is_err-2-clause-any_moment
returns-then-is_err-2-clause-any_moment g c =
    let old = c.args.self.now in
    let x = c.gather.new.self in
    let ok = ok_of c.gather.result _ c.if-is_err.ensures.value c.gather.ensures.ok in
    let wrote = added c.args.entry.items old (record { texts = texts_in x; lasting = how_many_last x; settled = is_settled x; calls = calls_in x; failures = c.self.inside.failures }) c.write.new.self
    (rw (← c.self.view_is) c.gather.ensures.calls) (rw (← c.self.view_is) ok) (rw (← c.self.view_is) c.gather.ensures.lasting) c.write.ensures.any_moment in
    let same : calls_in c.drop_last.new.self ≡ c.write.new.self.calls = rw (← c.self-2.view_is) c.drop_last.ensures.calls in
    subst (Leaves (λ f. MayLeave old.calls f ⊎ HoldsAny (λ left. MayLast old left ⊎ (left ≡ with_text c.args.entry.items old.texts)) f) old.calls) (sym same) wrote

pub returns-clause-any_moment : goal.returns-clause-any_moment
returns-clause-any_moment g c =
    let x = c.gather.new.self in
    let ok = ok_of c.gather.result _ c.if-is_err.ensures.value c.gather.ensures.ok in
    added c.args.entry.items c.args.self.now (record { texts = texts_in x; lasting = how_many_last x; settled = is_settled x; calls = calls_in x; failures = c.self.inside.failures }) c.write.new.self
    (rw (← c.self.view_is) c.gather.ensures.calls) (rw (← c.self.view_is) ok) (rw (← c.self.view_is) c.gather.ensures.lasting) c.write.ensures.any_moment
