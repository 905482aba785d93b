-- Texts that stand in whatever a crash leaves of their record.
use Rattle.std.proofs.Common.{◌≡◌, ℕ, Bool, true, List, [], ◌∷◌, ◌++◌, length, take, inl, inr, refl, sym, ap, ◌∙◌, subst, append-nil}
use Rattle.std.proofs.lemmas.List.{take_at}
use Rattle.filekeeper.specs.Calls.{Called}
use Rattle.filekeeper.specs.Disks.{Files, cut_to, MayLeave, Leaves}
use Rattle.filekeeper.specs.Framing.{log_bytes}
use Rattle.filekeeper.specs.Settled.{files_of, AreStanding, IsAddedTo, IsCut, IsSettled}
use Rattle.filekeeper.specs.declared.device_call.DeviceCall.TheVariants.{WriteDraft, RenameDraft}
use Rattle.saverecord.specs.Texts.{Texts, whole_alone}
use Rattle.filekeeper.proofs.DiskLemmas.{at_last}

module _ (texts : Texts) where
  abbrev bytes : List ℕ
  bytes = log_bytes texts.whole texts.entries

  begins : (f : Files) (rest : List ℕ) → f.log ≡ bytes ++ rest → f.whole ≡ texts.whole → cut_to (length bytes) f ≡ files_of texts
  begins f rest log same = λ i. record { whole = same i; log = (ap (take (length bytes)) log ∙ take_at bytes rest (length bytes) refl) i }

  of_files : (f : Files) → f.log ≡ bytes → f.whole ≡ texts.whole → cut_to (length bytes) f ≡ files_of texts
  of_files f log same = begins f [] (log ∙ sym (append-nil bytes)) same

  pub settled_stand : (calls : List Called) → IsSettled calls texts → AreStanding calls texts
  settled_stand calls settled f left same = of_files f (ap (λ (h : Files). h.log) (settled.left f left)) same

  pub drafted_stand : (first calls : List Called) (done : Bool) (draft : List ℕ) → IsSettled first texts → calls ≡ (WriteDraft done, draft) ∷ first → AreStanding calls texts
  drafted_stand first calls done draft settled is f left same = settled_stand first settled f (subst (λ cs. MayLeave cs f) is left) same

  pub renamed_stand : (first calls mid : List Called) (done : Bool) (draft : List ℕ) → IsSettled first texts → mid ≡ (WriteDraft true, draft) ∷ first → calls ≡ (RenameDraft done, []) ∷ mid
      → AreStanding calls texts
  renamed_stand first calls mid done draft settled is_mid is f left same =
      here (subst (λ cs. MayLeave cs f) (is ∙ ap (λ (cs : List Called). (RenameDraft done, []) ∷ cs) is_mid) left)
    where
      here : MayLeave ((RenameDraft done, []) ∷ (WriteDraft true, draft) ∷ first) f → cut_to (length bytes) f ≡ files_of texts
      here (inl old) = settled_stand first settled f old same
      here (inr (whole, has_draft, (d, old, changed))) = of_files f (ap (λ (h : Files). h.log) changed ∙ ap (λ (h : Files). h.log) (settled.left d old)) same

  pub added_stand : (more : List (List ℕ)) (first last : List Called) → Leaves (IsAddedTo texts more) first last → AreStanding last texts
  added_stand more first last leaves f left same =
      let added = at_last (IsAddedTo texts more) first last leaves f left in
      begins f (take added.1.0 (log_bytes texts.whole more)) added.1.1 same

  pub cut_stand : (old new : List Called) → AreStanding old texts → Leaves (IsCut texts old) old new → AreStanding new texts
  cut_stand old new stand leaves f left same = here (at_last (IsCut texts old) old new leaves f left)
    where
      here : IsCut texts old f → cut_to (length bytes) f ≡ files_of texts
      here (d, was, inl is) = subst (λ (h : Files). cut_to (length bytes) h ≡ files_of texts) (sym is) (stand d was (ap (λ (h : Files). h.whole) (sym is) ∙ same))
      here (d, was, inr (its, is)) = of_files f (ap (λ (h : Files). h.log) (is ∙ stand d was its)) same

-- texts without entries stand anywhere
pub none_stand : (whole : List ℕ) (calls : List Called) → AreStanding calls (whole_alone whole)
none_stand whole calls f left same = λ i. record { whole = same i; log = [] }
