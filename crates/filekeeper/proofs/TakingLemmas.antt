-- What a crash leaves while files are read, and their log cut behind its entries.
use Rattle.std.proofs.Common.{◌≡◌, ℕ, true, List, [], ◌∷◌, ◌++◌, length, take, inl, inr, refl, sym, ap, ◌∙◌, subst}
use Rattle.std.proofs.lemmas.List.{take_at}
use Rattle.protocol.specs.Lists.{In}
use Rattle.filekeeper.specs.Calls.{Called}
use Rattle.filekeeper.specs.Disks.{Files, with_log, cut_to, MaySee, MayLeave, IsTidied, Leaves}
use Rattle.filekeeper.specs.Disks.Leaves.{Begins, Goes_on}
use Rattle.filekeeper.specs.Framing.{log_bytes, HasNone, AreTextsOf}
use Rattle.filekeeper.specs.Settled.{files_of, HasRead, IsCut, IsSettled, IsTakenUp, StandsIn}
use Rattle.saverecord.specs.Texts.{Texts}
use Rattle.filekeeper.specs.declared.device_call.DeviceCall.TheVariants.{ReadRecord, ReadLog, SyncNames, Cut, SyncLog}
use Rattle.filekeeper.proofs.DiskLemmas.{and_then}

-- a call that was made stays made
still_in : (P : Files → Type 0) (first last : List Called) (x : Called) → Leaves P first last → In x first → In x last
still_in P first last x (Begins here) was = was
still_in P first last x (Goes_on call earlier before here) was = inr (still_in P first earlier x before was)

module _ (old : List Called) (whole tail : List ℕ) where
  abbrev one : List Called
  one = (ReadRecord, whole) ∷ old

  abbrev reads : List Called
  reads = (ReadLog, tail) ∷ one

  module _ (new : List Called) where
    pub begins : Leaves (IsTakenUp old new) old old
    begins = Begins (λ f left. (f, left, inl refl))

    pub record_read : Leaves (IsTakenUp old new) old one
    record_read = Goes_on (ReadRecord, whole) old begins (λ f left. (f, left, inl refl))

    pub log_read : Leaves (IsTakenUp old new) old reads
    log_read = Goes_on (ReadLog, tail) one record_read (λ f left. (f, left, inl refl))

    seen : (g : Files) → MaySee reads g → g.whole ≡ whole
    seen g (d, (e, sees, was), is) = ap (λ (x : Files). x.whole) is ∙ ap (λ (x : Files). x.whole) was

    pub tidied : (texts : Texts) (len : ℕ) → AreTextsOf whole tail texts → len ≡ length (log_bytes texts.whole texts.entries) → Leaves (IsTidied len reads) reads new → Leaves (IsTakenUp old new) old new
    tidied texts len h len_is more = and_then (IsTakenUp old new) (IsTidied len reads) old reads new log_read more so
      where
        so : (f : Files) → IsTidied len reads f → IsTakenUp old new f
        so f (inl left) = (f, left, inl refl)
        so f (inr (d, g, left, sees, same, is)) =
            let whole_is : d.whole ≡ whole = same ∙ seen g sees in
            let read : tail ≡ log_bytes d.whole texts.entries ++ h.behind = h.has.bytes_are ∙ ap (λ w. log_bytes w texts.entries ++ h.behind) (sym whole_is) in (
              d,
              left,
              inr (
                texts.entries,
                h.behind,
                subst (λ bytes. In (ReadLog, bytes) new) read (still_in (IsTidied len reads) reads new (ReadLog, tail) more (inl refl)),
                subst (λ w. HasNone w h.behind) (sym whole_is) h.has.ends,
                is ∙ ap (λ n. cut_to n d) (len_is ∙ ap (λ w. length (log_bytes w texts.entries)) (h.whole_is ∙ sym whole_is)),
              ),
            )

    pub has_read : (texts : Texts) (len : ℕ) → AreTextsOf whole tail texts → new ≡ (SyncLog true, []) ∷ (Cut len true, []) ∷ (SyncNames true, []) ∷ reads → HasRead old texts new
    has_read texts len h is = (whole, tail, (SyncLog true, []) ∷ (Cut len true, []) ∷ (SyncNames true, []) ∷ [], is, h)

  -- ---- while the files are read again

  module _ (texts : Texts) where
    pub again_begins : Leaves (IsCut texts old) old old
    again_begins = Begins (λ f left. (f, left, inl refl))

    pub record_again : Leaves (IsCut texts old) old one
    record_again = Goes_on (ReadRecord, whole) old again_begins (λ f left. (f, left, inl refl))

    pub log_again : Leaves (IsCut texts old) old reads
    log_again = Goes_on (ReadLog, tail) one record_again (λ f left. (f, left, inl refl))

    module _ (len : ℕ) (len_is : len ≡ length (log_bytes texts.whole texts.entries)) (there : StandsIn texts whole tail) (new : List Called) where
      pub tidied_again : Leaves (IsTidied len reads) reads new → Leaves (IsCut texts old) old new
      tidied_again more = and_then (IsCut texts old) (IsTidied len reads) old reads new log_again more so
        where
          so : (f : Files) → IsTidied len reads f → IsCut texts old f
          so f (inl left) = (f, left, inl refl)
          so f (inr (d, g, left, sees, same, is)) = (d, left, inr (same ∙ seen new g sees ∙ there.0, is ∙ ap (λ n. cut_to n d) len_is))

      cut_is : take len tail ≡ log_bytes texts.whole texts.entries
      cut_is = ap (take len) there.1.1 ∙ take_at (log_bytes texts.whole texts.entries) there.1.0 len (sym len_is)

      sees_texts : (f : Files) → MaySee ((Cut len true, []) ∷ (SyncNames true, []) ∷ reads) f → f ≡ files_of texts
      sees_texts f (d, (e, (e', sees, was), is), cut) =
          let bytes = is ∙ ap (with_log tail) was in
          cut ∙ ap (cut_to len) bytes ∙ (λ i. record { whole = there.0 i; log = cut_is i })

      leaves_whole : (f : Files) → MayLeave ((Cut len true, []) ∷ (SyncNames true, []) ∷ reads) f → f.whole ≡ texts.whole
      leaves_whole f (inl (left, (g, sees, same))) = same ∙ seen new g sees ∙ there.0
      leaves_whole f (inr (d, (left, (g, sees, same)), is)) = ap (λ (h : Files). h.whole) is ∙ same ∙ seen new g sees ∙ there.0

      pub settles : new ≡ (SyncLog true, []) ∷ (Cut len true, []) ∷ (SyncNames true, []) ∷ reads → IsSettled new texts
      settles is = subst (λ cs. IsSettled cs texts) (sym is) (record {
        seen = sees_texts;
        left = λ f left. (λ i. record { whole = leaves_whole f left.0 i; log = (left.1.2 ∙ ap (λ (h : Files). h.log) (sees_texts left.1.0 left.1.1)) i });
      })
