-- What was left in a slot is spelled by visible ASCII bytes.
use Rattle.std.proofs.Common.{List, map}
use Rattle.std.specs.List.{All}
use Rattle.std.proofs.lemmas.List.Elements.{All-map, All-weaker}
use Rattle.hex.specs.Hex.{encode_lower}
use Rattle.schedule.specs.Lines.{left_text, IsLeft, Left}
use Rattle.words.proofs.PlainLemmas.{IsWord, hex_word, with_word}

left_word : (l : Left) → IsLeft l → IsWord (left_text l)
left_word l h = with_word l.slot (encode_lower l.content) h.slot (hex_word l.content h.content)

pub left_words : (lefts : List Left) → All IsLeft lefts → All IsWord (map left_text lefts)
left_words lefts h = All-map IsWord left_text lefts (All-weaker IsLeft (λ l. IsWord (left_text l)) left_word lefts h)
