use Rattle.std.proofs.Common.{◌≡◌, ◌≤◌, ◌⊎◌, ℕ, List, [], ◌∷◌, length, take, Result, Ok, Err, OnOk, OnErr, inl, inr, All, sym, ap, ◌∙◌, subst, arith, length-append}
use Rattle.std.proofs.lemmas.List.{take-append-le}
use Rattle.std.proofs.lemmas.List.Elements.{All-push}
use Rattle.filekeeper.specs.Disks.{calls_of}
use Rattle.filekeeper.specs.Framing.{log_bytes, IsTold}
use Rattle.filekeeper.specs.Settled.{AreStanding, IsSettled}
use Rattle.saverecord.specs.Texts.{Texts, with_text}
use Rattle.filekeeper.proofs.record_files.RecordFiles.gather.Goals as goal

-- the texts have the entry too, or are the same
abbrev Added : Texts → List ℕ → Texts → Type 0
Added old entry new = (new ≡ with_text entry old) ⊎ (new ≡ old)

added : {T E : Type 0} (result : Result T E) (old new : Texts) (entry : List ℕ) → OnOk result (new ≡ with_text entry old) → OnErr result (new ≡ old) → Added old entry new
added (Ok done) old new entry ok err = inl ok
added (Err error) old new entry ok err = inr err

all_told : (old new : Texts) (entry : List ℕ) → IsTold entry → All IsTold old.entries → Added old entry new → All IsTold new.entries
all_told old new entry told all (inl is) = subst (λ (t : Texts). All IsTold t.entries) (sym is) (All-push IsTold old.entries entry all told)
all_told old new entry told all (inr is) = subst (λ (t : Texts). All IsTold t.entries) (sym is) all

as_many : (n : ℕ) (old new : Texts) (entry : List ℕ) → n ≤ length old.entries → Added old entry new → n ≤ length new.entries
as_many n old new entry within (inl is) = let l = length-append old.entries (entry ∷ []) in subst (λ (t : Texts). n ≤ length t.entries) (sym is) (omega (arith, within, l))
as_many n old new entry within (inr is) = subst (λ (t : Texts). n ≤ length t.entries) (sym is) within

-- the texts with their first entries alone
abbrev firsts : ℕ → Texts → Texts
firsts n t = record t { entries = take n t.entries }

same_firsts : (n : ℕ) (old new : Texts) (entry : List ℕ) → n ≤ length old.entries → Added old entry new → firsts n old ≡ firsts n new
same_firsts n old new entry within (inl is) = sym (ap (firsts n) is ∙ ap (λ es. record { whole = old.whole; entries = es }) (take-append-le n old.entries (entry ∷ []) within))
same_firsts n old new entry within (inr is) = sym (ap (firsts n) is)

pub invariant_of-self : goal.invariant_of-self
invariant_of-self g c =
    let x = c.args.self.now in
    let new = c.push.new.self in
    let entry = c.args.entry.items in
    let more = added c.push.result x.log new entry c.push.ensures.ok c.push.ensures.err in
    let same = same_firsts x.lasting x.log new entry x.within more in
    record {
      told = all_told x.log new entry (omega (arith, c.args.entry.small)) x.told more;
      within = as_many x.lasting x.log new entry x.within more;
      lens = x.lens ∙ ap (λ (t : Texts). length (log_bytes t.whole t.entries)) same;
      left = λ settled. subst (IsSettled (calls_of x.disk)) same (x.left settled);
      standing = subst (AreStanding (calls_of x.disk)) same x.standing;
    }
