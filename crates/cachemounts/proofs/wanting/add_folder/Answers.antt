use Rattle.std.proofs.Common.{◌≡◌, Bool, true, false, List, Vec, Some, sym, ap, ◌∙◌, subst}
use Rattle.std.specs.Global.{Global}
use Rattle.std.specs.Prelude.{IsTrue}
use Rattle.std.specs.List.{Contains, IsDistinct, slice_get}
use Rattle.std.proofs.lemmas.Option.{get_or_from_slice_get}
use Rattle.names.specs.declared.folder.FolderName.{FolderName}
use Rattle.farm_base.specs.declared.want.Want.{Want}
use Rattle.names.specs.Folders.{folder_eq}
use Rattle.farm_base.specs.Wanted.{folders}
use Rattle.cachemounts.specs.Adding.{Adds}
use Rattle.cachemounts.proofs.AddingLemmas.{adds_writable, adds_read, adds_pushed, distinct_pushed, folders_set}
use Rattle.cachemounts.proofs.wanting.add_folder.Goals as goal
use Rattle.cachemounts.proofs.wanting.add_folder.Goals.{then-writable, else-writable}

pub returns-after-writable-clause-adds : goal.returns-after-writable-clause-adds
returns-after-writable-clause-adds c =
    let wants = c.args.wants.now.items in
    let folder = c.args.folder in
    let found = c.in-Some.ensures.found in
    let at : slice_get wants c.in-Some.place ≡ Some found.0 = subst (λ (ws : List Want). slice_get ws c.in-Some.place ≡ Some found.0) c.as_slice.ensures.value found.1 in
    let adds = λ (b : Bool) (new : List Want). Adds (λ (other : FolderName). folder ≡ other) (λ (other : FolderName). (folder ≡ other) × IsTrue b) wants new in
    elim c.if-writable.branch [
      | then-writable w ↦
          let want = w.index_mut-want.result.now in
          let same : want ≡ found.0 = w.index_mut-want.ensures.value ∙ get_or_from_slice_get wants c.in-Some.place found.0 want at in
          let there : slice_get wants c.in-Some.place ≡ Some want = at ∙ ap (λ (x : Want). Some x) (sym same) in
          subst (λ (b : Bool). adds b c.if-writable.wants.items) (sym w.if-writable.true)
          (subst (λ (v : Vec Want Global). adds true v.items) (sym w.wants-is)
          (adds_writable wants c.in-Some.place want folder there (ap (λ (x : Want). x.folder) same ∙ found.2)))
      | else-writable w ↦
          subst (λ (b : Bool). adds b c.if-writable.wants.items) (sym w.if-writable.false)
          (subst (λ (v : Vec Want Global). adds false v.items) (sym w.wants-is) (adds_read wants c.in-Some.place found.0 folder at found.2))
    ]

pub returns-after-writable-clause-distinct : goal.returns-after-writable-clause-distinct
returns-after-writable-clause-distinct c = λ distinct.
    let wants = c.args.wants.now.items in
    let found = c.in-Some.ensures.found in
    let at : slice_get wants c.in-Some.place ≡ Some found.0 = subst (λ (ws : List Want). slice_get ws c.in-Some.place ≡ Some found.0) c.as_slice.ensures.value found.1 in
    let after = λ (v : Vec Want Global). IsDistinct folder_eq (folders v.items) in
    elim c.if-writable.branch [
      | then-writable w ↦
          let want = w.index_mut-want.result.now in
          let same : want ≡ found.0 = w.index_mut-want.ensures.value ∙ get_or_from_slice_get wants c.in-Some.place found.0 want at in
          subst after (sym w.wants-is)
          (subst (IsDistinct folder_eq)
          (sym (folders_set wants c.in-Some.place found.0 (record want { writable = true }) at (ap (λ (x : Want). x.folder) (sym same)))) distinct)
      | else-writable w ↦ subst after (sym w.wants-is) distinct
    ]

pub returns-in_ok-push-in-None-clause-adds : goal.returns-in_ok-push-in-None-clause-adds
returns-in_ok-push-in-None-clause-adds c =
    subst (Adds (λ (other : FolderName). c.args.folder ≡ other) (λ (other : FolderName). (c.args.folder ≡ other) × IsTrue c.args.writable) c.args.wants.now.items)
    (sym c.in_ok-push-in-None.ensures.items) (adds_pushed c.args.wants.now.items c.args.folder c.args.writable)

pub returns-in_ok-push-in-None-clause-distinct : goal.returns-in_ok-push-in-None-clause-distinct
returns-in_ok-push-in-None-clause-distinct c = λ distinct.
    let apart : Contains (folders c.args.wants.now.items) c.args.folder → ⊥
    = subst (λ (ws : List Want). Contains (folders ws) c.args.folder → ⊥) c.as_slice.ensures.value c.in-None.ensures.none in
    subst (λ (ws : List Want). IsDistinct folder_eq (folders ws)) (sym c.in_ok-push-in-None.ensures.items)
    (distinct_pushed c.args.wants.now.items c.args.folder c.args.writable apart distinct)
