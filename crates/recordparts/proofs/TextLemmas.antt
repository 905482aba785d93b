-- Ids that are UTF-8.
use Rattle.std.proofs.Common.{◌≡◌, ℕ, List, Ok, Err, refl}
use Rattle.std.specs.Str.{IsUtf8, is_utf8}
use Rattle.std.proofs.lemmas.Str.{IsUtf8-from_is_utf8, is_utf8-from_IsUtf8}
use Rattle.std.proofs.lemmas.Bool.{false_from_ne_true}
use Rattle.recordparts.specs.declared.refusal.Flaw.TheVariants.{Utf8}
use Rattle.recordparts.specs.declared.refusal.RecordRefusal.TheVariants.{NotCanonical}
use Rattle.recordparts.specs.Parts.{text_of}

pub text_passes : (bytes : List ℕ) → IsUtf8 bytes → text_of bytes ≡ Ok bytes
text_passes bytes h = rw (is_utf8-from_IsUtf8 bytes h) refl

pub text_fails : (bytes : List ℕ) → (IsUtf8 bytes → ⊥) → text_of bytes ≡ Err (NotCanonical Utf8)
text_fails bytes no-text = rw (false_from_ne_true (is_utf8 bytes) (λ e. no-text (IsUtf8-from_is_utf8 bytes e))) refl
