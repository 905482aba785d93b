-- What a crash leaves while a record takes another one's place.
use Rattle.std.proofs.Common.{◌≡◌, ◌≢◌, ℕ, Bool, true, List, [], ◌∷◌, All, Result, Ok, Err, OnOk, inl, inr, refl, sym, ap, ◌∙◌, subst}
use Rattle.std.proofs.lemmas.List.Elements.{All-nil}
use Rattle.filekeeper.specs.Calls.{Called}
use Rattle.filekeeper.specs.Disks.{Files, with_whole, MaySee, MayLeave, IsTidied, Leaves}
use Rattle.filekeeper.specs.Disks.Leaves.{Begins}
use Rattle.filekeeper.specs.Framing.{IsTold}
use Rattle.filekeeper.specs.Settled.{files_of, Clashes, HoldsOneOf, IsPutOver, IsSettled}
use Rattle.saverecord.specs.Texts.{Texts, whole_alone}
use Rattle.filekeeper.specs.declared.device_call.DeviceCall.TheVariants.{WriteDraft, RenameDraft, SyncNames, Cut, SyncLog}
use Rattle.filekeeper.proofs.CrashLemmas.{holds, holds_new}
use Rattle.filekeeper.proofs.DiskLemmas.{at_last, goes_on, and_then}

-- once a draft has the record's name, a read gives it
seen_draft : (first : List Called) (bytes : List ℕ) (f : Files) → MaySee ((RenameDraft true, []) ∷ (WriteDraft true, bytes) ∷ first) f → f.whole ≡ bytes
seen_draft first bytes f (whole, has_draft, (d, seen, is)) = ap (λ (g : Files). g.whole) is ∙ has_draft bytes refl

pub sees_draft : (first last : List Called) (bytes : List ℕ) → last ≡ (RenameDraft true, []) ∷ (WriteDraft true, bytes) ∷ first → (f : Files) → MaySee last f → f.whole ≡ bytes
sees_draft first last bytes is f seen = seen_draft first bytes f (subst (λ cs. MaySee cs f) is seen)

-- ---- over any files

module _ (bytes : List ℕ) (first : List Called) where
  abbrev Over : Files → Type 0
  Over = IsPutOver bytes first

  pub draft_over : (done : Bool) (last : List Called) → last ≡ (WriteDraft done, bytes) ∷ first → Leaves Over first last
  draft_over done last is = goes_on Over first first (WriteDraft done, bytes) last is (Begins (λ f left. (f, left, inl refl))) (λ f left. (f, left, inl refl))

  pub put_over : (done : Bool) (mid last : List Called) → mid ≡ (WriteDraft true, bytes) ∷ first → last ≡ (RenameDraft done, []) ∷ mid → Leaves Over first last
  put_over done mid last is_mid is =
      goes_on Over first ((WriteDraft true, bytes) ∷ first) (RenameDraft done, []) last (is ∙ ap (λ (cs : List Called). (RenameDraft done, []) ∷ cs) is_mid) (draft_over true ((WriteDraft true, bytes) ∷ first) refl) here
    where
      here : (f : Files) → MayLeave ((RenameDraft done, []) ∷ (WriteDraft true, bytes) ∷ first) f → Over f
      here f (inl left) = (f, left, inl refl)
      here f (inr (whole, has_draft, (d, left, changed))) = (d, left, inr (inl (changed ∙ ap (λ w. with_whole w d) (has_draft bytes refl))))

  pub emptied_over : (mid last : List Called) → mid ≡ (RenameDraft true, []) ∷ (WriteDraft true, bytes) ∷ first → Leaves Over first mid → Leaves (IsTidied 0 mid) mid last → Leaves Over first last
  emptied_over mid last is before more = and_then Over (IsTidied 0 mid) first mid last before more so
    where
      so : (f : Files) → IsTidied 0 mid f → Over f
      so f (inl left) = at_last Over first mid before f left
      so f (inr (d, g, left, sees, same, cut)) =
          let was = at_last Over first mid before d left in
          (was.0, was.1, inr (inr (cut ∙ ap (λ w. record { whole = w; log = [] }) (same ∙ sees_draft first mid bytes is g sees))))

  abbrev Cut_behind : List Called
  Cut_behind = (Cut 0 true, []) ∷ (SyncNames true, []) ∷ (RenameDraft true, []) ∷ (WriteDraft true, bytes) ∷ first

  sees_alone : (f : Files) → MaySee Cut_behind f → f ≡ files_of (whole_alone bytes)
  sees_alone f (d, sees, cut) = cut ∙ ap (λ w. record { whole = w; log = [] }) (seen_draft first bytes d sees)

  leaves_alone : (f : Files) → MayLeave Cut_behind f → f.whole ≡ bytes
  leaves_alone f (inl (left, (g, sees, same))) = same ∙ seen_draft first bytes g sees
  leaves_alone f (inr (d, (left, (g, sees, same)), is)) = ap (λ (h : Files). h.whole) is ∙ same ∙ seen_draft first bytes g sees

  -- once the log is emptied, and synced, the record is alone
  pub settled_over : {T E : Type 0} (result : Result T E) (last new : List Called) → last ≡ (RenameDraft true, []) ∷ (WriteDraft true, bytes) ∷ first
      → OnOk result (new ≡ (SyncLog true, []) ∷ (Cut 0 true, []) ∷ (SyncNames true, []) ∷ last) → OnOk result (IsSettled new (whole_alone bytes))
  settled_over (Ok done) last new was is =
      subst (λ cs. IsSettled cs (whole_alone bytes)) (sym (is ∙ ap (λ (cs : List Called). (SyncLog true, []) ∷ (Cut 0 true, []) ∷ (SyncNames true, []) ∷ cs) was)) (record {
        seen = sees_alone;
        left = λ f left. (λ i. record { whole = leaves_alone f left.0 i; log = (left.1.2 ∙ ap (λ (h : Files). h.log) (sees_alone left.1.0 left.1.1)) i });
      })
  settled_over (Err why) last new was is = is

-- ---- over files that hold some texts

module _ (old : Texts) (new : List ℕ) (first : List Called) (settled : IsSettled first old) (told : All IsTold old.entries) where
  abbrev P : Files → Type 0
  P = HoldsOneOf old (whole_alone new)

  old_left : (f : Files) → MayLeave first f → P f
  old_left f left = inl (holds old f told (settled.left f left))

  pub not_begun : Leaves P first first
  not_begun = Begins old_left

  pub drafted : (done : Bool) (last : List Called) → last ≡ (WriteDraft done, new) ∷ first → Leaves P first last
  drafted done last is = goes_on P first first (WriteDraft done, new) last is not_begun old_left

  pub renamed : (done : Bool) (mid last : List Called) → new ≢ old.whole → ¬ Clashes new old → mid ≡ (WriteDraft true, new) ∷ first → last ≡ (RenameDraft done, []) ∷ mid → Leaves P first last
  renamed done mid last differs no_clash is_mid is =
      goes_on P first ((WriteDraft true, new) ∷ first) (RenameDraft done, []) last (is ∙ ap (λ (cs : List Called). (RenameDraft done, []) ∷ cs) is_mid) (drafted true ((WriteDraft true, new) ∷ first) refl) here
    where
      here : (f : Files) → MayLeave ((RenameDraft done, []) ∷ (WriteDraft true, new) ∷ first) f → P f
      here f (inl left) = old_left f left
      here f (inr (whole, has_draft, (d, left, changed))) = inr (holds_new old new f differs no_clash (changed ∙ ap (with_whole whole) (settled.left d left) ∙ ap (λ w. with_whole w (files_of old)) (has_draft new refl)))

  -- the log is emptied then
  pub emptied : (mid last : List Called) → Leaves P first mid → ((f : Files) → MaySee mid f → f.whole ≡ new) → Leaves (IsTidied 0 mid) mid last → Leaves P first last
  emptied mid last before seen more = and_then P (IsTidied 0 mid) first mid last before more so
    where
      so : (f : Files) → IsTidied 0 mid f → P f
      so f (inl left) = at_last P first mid before f left
      so f (inr (d, g, left, sees, same, is)) = inr (holds (whole_alone new) f (All-nil IsTold) (is ∙ ap (λ w. record { whole = w; log = [] }) (same ∙ seen g sees)))
