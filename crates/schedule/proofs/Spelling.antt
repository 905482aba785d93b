-- No two values have the same text.
use Rattle.std.proofs.Common.{◌≡◌, refl}
use Rattle.names.proofs.TextLemmas.{encode-lacks, encode-injective}
use Rattle.schedule.specs.Lines.{Left, IsLeft, left_text}
use Rattle.words.proofs.Spelling.{slot_same}

pub left_text-injective : (a b : Left) → IsLeft a → IsLeft b → left_text a ≡ left_text b → a ≡ b
left_text-injective a b ha hb e =
    let parts = slot_same a.slot b.slot _ _ ha.slot hb.slot (encode-lacks 61 refl a.content ha.content) (encode-lacks 61 refl b.content hb.content) e in
    let content = encode-injective a.content b.content ha.content hb.content parts.1 in
    λ i. record { slot = parts.0 i; content = content i }
