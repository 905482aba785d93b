-- What was read while files were loaded.
use Rattle.std.proofs.Common.{◌≡◌, ℕ, List, [], length, ◌∷◌, ◌++◌, take, drop, Result, Ok, Err, OnOk, refl, sym, ap, ◌∙◌, subst, append_assoc, take_all, take-append-drop, arith}
use Rattle.std.proofs.lemmas.Grind.{flat_map-append}
use Rattle.filekeeper.specs.Calls.{Called}
use Rattle.filekeeper.specs.Disks.{Files, Leaves}
use Rattle.filekeeper.specs.Disks.Leaves.{Begins, Goes_on}
use Rattle.filekeeper.specs.Framing.{framed, log_bytes}
use Rattle.filekeeper.specs.Settled.{StandsIn, WereRead}
use Rattle.filekeeper.specs.declared.device_call.DeviceCall.TheVariants.{ReadRecord, ReadLog}
use Rattle.saverecord.specs.Texts.{Texts}

-- the later calls are these, and more
abbrev pub Grow : List Called → List Called → Type 0
Grow old new = (since : List Called) × (new ≡ since ++ old)

pub grow : (P : Files → Type 0) (first last : List Called) → Leaves P first last → Grow first last
grow P first last (Begins so) = ([], refl)
grow P first last (Goes_on call earlier before so) = let h = grow P first earlier before in (call ∷ h.0, ap (λ cs. call ∷ cs) h.1)

-- where texts stand those with their first entries do
pub first_stand : (texts : Texts) (n : ℕ) (whole log : List ℕ) → StandsIn texts whole log → StandsIn (record texts { entries = take n texts.entries }) whole log
first_stand texts n whole log stands =
    let later = log_bytes texts.whole (drop n texts.entries) in
    let some = log_bytes texts.whole (take n texts.entries) in
    let split : log_bytes texts.whole texts.entries ≡ some ++ later
    = sym (ap (log_bytes texts.whole) (take-append-drop n texts.entries)) ∙ flat_map-append (framed texts.whole) (take n texts.entries) (drop n texts.entries) in
    (stands.0, (later ++ stands.1.0, stands.1.1 ∙ ap (λ bytes. bytes ++ stands.1.0) split ∙ append_assoc some later stands.1.0))

-- the texts with their first entries alone
abbrev pub firsts : ℕ → Texts → Texts
firsts n texts = record texts { entries = take n texts.entries }

all_first : (texts : Texts) (n : ℕ) → n ≡ length texts.entries → firsts n texts ≡ texts
all_first texts n is = ap (λ es. record { whole = texts.whole; entries = es }) (ap (λ k. take k texts.entries) is ∙ take_all (length texts.entries) texts.entries (omega arith))

-- where all texts were read the first ones were
pub read_first : (old new : Texts) (n m : ℕ) (first last : List Called) → new ≡ old → m ≡ length new.entries → WereRead (firsts m new) first last → WereRead (firsts n old) first last
read_first old new n m first last same all read =
    let stands : StandsIn old read.0 read.1 = subst (λ (t : Texts). StandsIn t read.0 read.1) (all_first new m all ∙ same) read.5 in
    (read.0, read.1, read.2, read.3, read.4, first_stand old n read.0 read.1 stands)

-- what was read before and after other calls
pub read_amid : (texts : Texts) (first begun done last : List Called) → Grow first begun → WereRead texts begun done → Grow done last → WereRead texts first last
read_amid texts first begun done last before read after =
    let whole = read.0 in
    let log = read.1 in
    let b = read.2 in
    let s = read.3 in
    let back : List Called → List Called = λ cs. (ReadLog, log) ∷ (ReadRecord, whole) ∷ cs in
    let is : done ≡ s ++ back (b ++ begun) = read.4 in (
      whole,
      log,
      b ++ before.0,
      after.0 ++ s,
      after.1 ∙ ap (λ cs. after.0 ++ cs) (is ∙ ap (λ cs. s ++ back (b ++ cs)) before.1 ∙ ap (λ cs. s ++ back cs) (sym (append_assoc b before.0 first)))
          ∙ sym (append_assoc after.0 s (back ((b ++ before.0) ++ first))),
      read.5,
    )

pub on_ok : {T E : Type 0} (result : Result T E) (P : Type 0) → P → OnOk result P
on_ok (Ok done) P holds = holds
on_ok (Err error) P holds = tt
