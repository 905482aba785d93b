use Rattle.std.proofs.Common.{◌≡◌, ◌≢◌, [], ◌∷◌, true, sym, ap, ◌∙◌, subst}
use Rattle.std.proofs.lemmas.Bool.Decides.{Decides-eqb}
use Rattle.std.proofs.lemmas.Slice.Eq.{slice_eq-Decides}
use Rattle.std.proofs.lemmas.Bool.{true≢false}
use Rattle.std.proofs.lemmas.List.Elements.{All-take}
use Rattle.filekeeper.specs.Disks.{Files, calls_of, Leaves}
use Rattle.filekeeper.specs.Framing.{IsTold}
use Rattle.filekeeper.specs.RecordFiles.{lasting_in}
use Rattle.filekeeper.specs.Settled.{HoldsOneOf}
use Rattle.saverecord.specs.Texts.{whole_alone}
use Rattle.filekeeper.specs.declared.device_call.DeviceCall.TheVariants.{WriteDraft, RenameDraft}
use Rattle.filekeeper.proofs.ReplacingLemmas.{not_begun, emptied, sees_draft}
use Rattle.filekeeper.proofs.record_files.RecordFiles.replace.Goals as goal

pub returns-then-clashes-clause-any_moment : goal.returns-then-clashes-clause-any_moment
returns-then-clashes-clause-any_moment g c = λ settled.
    let x = c.args.self.now in
    not_begun (lasting_in x) c.args.bytes.items (calls_of x.disk) (x.left settled) (All-take IsTold x.lasting x.log.entries x.told)

pub returns-then-eq-clause-any_moment : goal.returns-then-eq-clause-any_moment
returns-then-eq-clause-any_moment g c = λ settled.
    let x = c.args.self.now in
    let bytes = c.args.bytes.items in
    let same : bytes ≡ x.log.whole = sym c.as_slice-2.ensures.value ∙ (slice_eq-Decides Decides-eqb c.as_slice-2.result.now c.whole.result.now c.eq.result c.eq.ensures).0 c.if-eq.true ∙ c.whole.ensures in
    let told = All-take IsTold x.lasting x.log.entries x.told in
    emptied (lasting_in x) bytes (calls_of x.disk) (x.left settled) told (calls_of x.disk) (calls_of c.empty.new.self.disk) (not_begun (lasting_in x) bytes (calls_of x.disk) (x.left settled) told)
    (λ f seen. ap (λ (h : Files). h.whole) ((x.left settled).seen f seen) ∙ sym same) c.empty.ensures.any_moment

pub returns-clause-any_moment : goal.returns-clause-any_moment
returns-clause-any_moment g c = λ settled.
    let x = c.args.self.now in
    let bytes = c.args.bytes.items in
    let differ : bytes ≢ x.log.whole = λ e. true≢false (sym ((slice_eq-Decides Decides-eqb c.as_slice-2.result.now c.whole.result.now c.eq.result c.eq.ensures).1 (c.as_slice-2.ensures.value ∙ e ∙ sym c.whole.ensures)) ∙ c.if-eq.false) in
    let told = All-take IsTold x.lasting x.log.entries x.told in
    let put = subst (λ bs. bs ≢ x.log.whole → Leaves (HoldsOneOf (lasting_in x) (whole_alone bs)) (calls_of x.disk) (calls_of c.put.new.self.disk)) c.as_slice-3.ensures.value c.put.ensures.any_moment differ in
    let renamed = c.in_ok-put.ensures.done ∙ ap (λ bs. (RenameDraft true, []) ∷ (WriteDraft true, bs) ∷ calls_of x.disk) c.as_slice-3.ensures.value in
    emptied (lasting_in x) bytes (calls_of x.disk) (x.left settled) told (calls_of c.put.new.self.disk) (calls_of c.empty-2.new.self.disk) put (sees_draft (calls_of x.disk) (calls_of c.put.new.self.disk) bytes renamed) c.empty-2.ensures.any_moment
