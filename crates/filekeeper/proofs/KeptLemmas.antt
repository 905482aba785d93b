-- The texts that a crash leaves of those that a keeper keeps.
use Rattle.std.proofs.Common.{◌≡◌, ◌⊎◌, ℕ, Bool, true, List, [], ◌++◌, length, take, drop, All, Result, Ok, Err, OnOk, OnErr, inl, inr, refl, sym, ap, ◌∙◌, subst, append_assoc, append-nil, take_all, take-append-drop, arith}
use Rattle.std.proofs.Math.Seq.{take-nil}
use Rattle.std.proofs.lemmas.List.{drop_all}
use Rattle.std.proofs.lemmas.List.Elements.{All-take}
use Rattle.filekeeper.specs.Calls.{Called}
use Rattle.filekeeper.specs.Disks.{Files, MayLeave, Leaves}
use Rattle.filekeeper.specs.Disks.Leaves.{Begins}
use Rattle.filekeeper.specs.Framing.{IsTold}
use Rattle.filekeeper.specs.Keepers.{Filed, IsLeft, LeavesAny, MayLast, file_texts}
use Rattle.filekeeper.specs.Settled.{files_of, AreStanding, Holds, HoldsAny, HoldsOneOf, HoldsSome, IsCut, IsSettled, WhatIsHeldIsGiven}
use Rattle.saverecord.specs.Texts.{Texts, with_text, with_texts}
use Rattle.filekeeper.proofs.CrashLemmas.{holds}
use Rattle.filekeeper.proofs.DiskLemmas.{at_last, and_then, so_leaves}
use Rattle.filekeeper.proofs.FramingLemmas.{one_list}
use Rattle.filekeeper.proofs.LeftLemmas.{left_before}
use Rattle.filekeeper.proofs.LoadLemmas.{firsts}

module _ (texts : Texts) (n : ℕ) where
  abbrev L : Texts
  L = firsts n texts

  abbrev more : List (List ℕ)
  more = drop n texts.entries

  split : take n texts.entries ++ more ≡ texts.entries
  split = take-append-drop n texts.entries

  -- the first entries last, or these are all
  abbrev pub Counts : ℕ → Type 0
  Counts m = (m ≡ n) ⊎ (m ≡ length texts.entries)

  -- some of the gathered entries are left, or none, or all
  some_left : (k : ℕ) → IsLeft L texts (with_texts (take k more) L)
  some_left k = record {
    first = take k more;
    rest = drop k more;
    left_is = refl;
    kept_is = λ i. record { whole = texts.whole; entries = all i };
  }
    where
      all : texts.entries ≡ (take n texts.entries ++ take k more) ++ drop k more
      all = sym (append_assoc (take n texts.entries) (take k more) (drop k more) ∙ ap (λ zs. take n texts.entries ++ zs) (take-append-drop k more) ∙ split)

  pub none_left : IsLeft L texts L
  none_left = record {
    first = [];
    rest = more;
    left_is = λ i. record { whole = texts.whole; entries = sym (append-nil (take n texts.entries)) i };
    kept_is = λ i. record { whole = texts.whole; entries = sym split i };
  }

  pub whole_left : IsLeft L texts texts
  whole_left = record {
    first = more;
    rest = [];
    left_is = λ i. record { whole = texts.whole; entries = sym split i };
    kept_is = λ i. record { whole = texts.whole; entries = sym (append-nil texts.entries) i };
  }

  pub some_any : (f : Files) → HoldsSome L more f → HoldsAny (IsLeft L texts) f
  some_any f h = (with_texts (take h.0 more) L, some_left h.0, h.1)

  pub one_any : (new : Texts) (f : Files) → HoldsOneOf L new f → HoldsAny (λ left. IsLeft L texts left ⊎ (left ≡ new)) f
  one_any new f (inl old) = (L, inl none_left, old)
  one_any new f (inr is) = (new, inr refl, is)

  firsts_left : (m : ℕ) → Counts m → IsLeft L texts (firsts m texts)
  firsts_left m (inl same) = subst (λ k. IsLeft L texts (firsts k texts)) (sym same) none_left
  firsts_left m (inr all) = subst (IsLeft L texts) (sym (ap (λ es. record { whole = texts.whole; entries = es }) (take_all m texts.entries (omega (arith, all))))) whole_left

  -- what a sync leaves, whether it is the first of a load or the last
  pub synced_any : (m : ℕ) → Counts m → (f : Files) → HoldsSome (firsts m texts) (drop m texts.entries) f → HoldsAny (IsLeft L texts) f
  synced_any m (inl same) f h = some_any f (subst (λ k. HoldsSome (firsts k texts) (drop k texts.entries) f) same h)
  synced_any m (inr all) f h = (firsts m texts, firsts_left m (inr all), subst (λ t. Holds t f) is h.1)
    where
      is : with_texts (take h.0 (drop m texts.entries)) (firsts m texts) ≡ firsts m texts
      is = ap (λ es. record { whole = texts.whole; entries = es })
          (ap (λ es. take m texts.entries ++ take h.0 es) (drop_all m texts.entries (omega (arith, all))) ∙ ap (λ es. take m texts.entries ++ es) (take-nil h.0) ∙ append-nil (take m texts.entries))

  -- what reading the files again leaves
  pub cut_any : (m : ℕ) (calls : List Called) → Counts m → All IsTold texts.entries → AreStanding calls (firsts m texts) → (f : Files) → IsCut (firsts m texts) calls f
      → MayLeave calls f ⊎ HoldsAny (IsLeft L texts) f
  cut_any m calls counts told stand f (d, left, inl is) = inl (subst (MayLeave calls) (sym is) left)
  cut_any m calls counts told stand f (d, left, inr (same, is)) = inr (firsts m texts, firsts_left m counts, holds (firsts m texts) f (All-take IsTold m texts.entries told) (is ∙ stand d left same))

  -- what might be left before, or what lasted, and the first of the gathered entries
  abbrev pub Kept : List Called → Files → Type 0
  Kept first f = MayLeave first f ⊎ HoldsAny (IsLeft L texts) f

  module _ (first : List Called) where
    pub nothing_called : Leaves (Kept first) first first
    nothing_called = Begins (λ f left. inl left)

    pub first_synced : (last : List Called) → Leaves (HoldsSome L more) first last → Leaves (Kept first) first last
    first_synced last leaves = so_leaves (Kept first) (HoldsSome L more) first last leaves (λ f some. inr (some_any f some))

    -- a sync that did nothing, or whose files were settled
    pub synced : (settled : Bool) (last : List Called) → (last ≡ first) ⊎ (settled ≡ true) → (settled ≡ true → Leaves (HoldsSome L more) first last) → Leaves (Kept first) first last
    synced settled last (inl same) leaves = subst (Leaves (Kept first) first) (sym same) nothing_called
    synced settled last (inr is) leaves = first_synced last (leaves is)

    -- the same of a record that was put in the place of all texts
    pub replaced : (new : Texts) (settled : Bool) (last : List Called) → (last ≡ first) ⊎ (settled ≡ true) → (settled ≡ true → Leaves (HoldsOneOf L new) first last)
        → Leaves (λ f. MayLeave first f ⊎ HoldsAny (λ left. IsLeft L texts left ⊎ (left ≡ new)) f) first last
    replaced new settled last (inl same) leaves =
        subst (Leaves (λ f. MayLeave first f ⊎ HoldsAny (λ left. IsLeft L texts left ⊎ (left ≡ new)) f) first) (sym same) (Begins (λ f left. inl left))
    replaced new settled last (inr is) leaves =
        so_leaves (λ f. MayLeave first f ⊎ HoldsAny (λ left. IsLeft L texts left ⊎ (left ≡ new)) f) (HoldsOneOf L new) first last (leaves is) (λ f one. inr (one_any new f one))

    -- the files are read again then
    read_again : (mid last : List Called) (m : ℕ) → Counts m → All IsTold texts.entries → AreStanding mid (firsts m texts) → Leaves (IsCut (firsts m texts) mid) mid last
        → Leaves (Kept first) first mid → Leaves (Kept first) first last
    read_again mid last m counts told stand leaves before =
        and_then (Kept first) (IsCut (firsts m texts) mid) first mid last before leaves so
      where
        so : (f : Files) → IsCut (firsts m texts) mid f → Kept first f
        so f cut = elim (cut_any m mid counts told stand f cut) [ inl left ↦ at_last (Kept first) first mid before f left | inr any ↦ inr any ]

    -- and then the last entries are written
    synced_again : (mid last : List Called) (m : ℕ) → Counts m → Leaves (HoldsSome (firsts m texts) (drop m texts.entries)) mid last → Leaves (Kept first) first mid → Leaves (Kept first) first last
    synced_again mid last m counts leaves before =
        and_then (Kept first) (HoldsSome (firsts m texts) (drop m texts.entries)) first mid last before leaves (λ f some. inr (synced_any m counts f some))

    -- the same where the texts are called otherwise
    pub reloaded : (mid last : List Called) (other : Texts) (m : ℕ) → other ≡ texts → (m ≡ n) ⊎ (m ≡ length other.entries) → All IsTold other.entries → AreStanding mid (firsts m other)
        → Leaves (IsCut (firsts m other) mid) mid last → Leaves (Kept first) first mid → Leaves (Kept first) first last
    reloaded mid last other m same =
        subst (λ (t : Texts). (m ≡ n) ⊎ (m ≡ length t.entries) → All IsTold t.entries → AreStanding mid (firsts m t) → Leaves (IsCut (firsts m t) mid) mid last → Leaves (Kept first) first mid
        → Leaves (Kept first) first last) (sym same) (read_again mid last m)

    pub last_synced : (mid last : List Called) (other : Texts) (m : ℕ) → other ≡ texts → (m ≡ n) ⊎ (m ≡ length other.entries) → Leaves (HoldsSome (firsts m other) (drop m other.entries)) mid last
        → Leaves (Kept first) first mid → Leaves (Kept first) first last
    last_synced mid last other m same =
        subst (λ (t : Texts). (m ≡ n) ⊎ (m ≡ length t.entries) → Leaves (HoldsSome (firsts m t) (drop m t.entries)) mid last → Leaves (Kept first) first mid → Leaves (Kept first) first last)
        (sym same) (synced_again mid last m)

-- where the files are settled, and all entries last, each crash leaves files that hold the texts
pub durable : (texts : Texts) (m : ℕ) (calls : List Called) → All IsTold texts.entries → m ≡ length texts.entries → IsSettled calls (firsts m texts) → (f : Files) → MayLeave calls f → Holds texts f
durable texts m calls told all settled f left =
    holds texts f told (settled.left f left ∙ ap (λ es. files_of (record texts { entries = es })) (take_all m texts.entries (omega (arith, all))))

pub durable_ok : {T E : Type 0} (result : Result T E) (texts : Texts) (m : ℕ) (calls : List Called) (settled : Bool) → All IsTold texts.entries → (settled ≡ true → IsSettled calls (firsts m texts))
    → OnOk result ((m ≡ length texts.entries) × (settled ≡ true)) → OnOk result ((f : Files) → MayLeave calls f → Holds texts f)
durable_ok (Ok done) texts m calls settled told is ok = durable texts m calls told ok.0 (is ok.1)
durable_ok (Err error) texts m calls settled told is ok = tt

-- a call did nothing, or found the files settled
pub either : {T E : Type 0} (result : Result T E) (Same Settled : Type 0) → OnOk result Settled → OnErr result (Same ⊎ Settled) → Same ⊎ Settled
either (Ok done) Same Settled ok err = inr ok
either (Err error) Same Settled ok err = err

-- an entry was gathered, and then written
pub added : (entry : List ℕ) (old mid new : Filed) → mid.calls ≡ old.calls → mid.texts ≡ with_text entry old.texts → file_texts mid ≡ file_texts old → LeavesAny (MayLast mid) mid new
    → LeavesAny (λ left. MayLast old left ⊎ (left ≡ with_text entry old.texts)) old new
added entry old mid new same texts lasting leaves =
    subst (λ cs. Leaves (λ f. MayLeave cs f ⊎ HoldsAny (λ left. MayLast old left ⊎ (left ≡ with_text entry old.texts)) f) cs new.calls) same
    (so_leaves (λ f. MayLeave mid.calls f ⊎ HoldsAny (λ left. MayLast old left ⊎ (left ≡ with_text entry old.texts)) f) (λ f. MayLeave mid.calls f ⊎ HoldsAny (MayLast mid) f) mid.calls new.calls leaves so)
  where
    so : (f : Files) → MayLeave mid.calls f ⊎ HoldsAny (MayLast mid) f → MayLeave mid.calls f ⊎ HoldsAny (λ left. MayLast old left ⊎ (left ≡ with_text entry old.texts)) f
    so f (inl left) = inl left
    so f (inr (left, may, held)) =
        inr (left, elim (left_before old.texts (file_texts old) mid.texts (file_texts mid) left entry texts lasting may) [ inl all ↦ inr (all ∙ texts) | inr before ↦ inl before ], held)

-- files that hold texts give these
pub held_is_given : WhatIsHeldIsGiven
held_is_given f held texts h opened =
    let entries : texts.entries ≡ held.entries = one_list f.whole f.log held.entries texts.entries h.behind opened.behind h.has opened.has in
    λ i. record { whole = (opened.whole_is ∙ sym h.whole_is) i; entries = entries i }
