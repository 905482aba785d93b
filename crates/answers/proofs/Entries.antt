-- The first entries of texts, with one more.
use Rattle.std.proofs.lemmas.List.{take_more}
use Rattle.std.proofs.Common.{◌≡◌, ℕ, ◌+◌, ◌<◌, List, length, get_or, ap, ◌∙◌, sym}
use Rattle.saverecord.specs.Texts.{Texts, with_text}
use Rattle.answers.specs.Records.{first_entries}

-- a copy of the first entries, with a copy of the next one
pub copied-more : (t part next : Texts) (n : ℕ) (entry d : List ℕ) → n < length t.entries → part ≡ first_entries n t → entry ≡ get_or t.entries n d
    → next ≡ with_text entry part → next ≡ first_entries (n + 1) t
copied-more t part next n entry d below copied is pushed =
    pushed ∙ ap (with_text entry) copied ∙ ap (λ (e : List ℕ). with_text e (first_entries n t)) is
    ∙ ap (λ (es : List (List ℕ)). record t { entries = es }) (sym (take_more t.entries n d below))
