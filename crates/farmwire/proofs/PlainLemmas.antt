-- What stands in a line has only visible ASCII bytes.
use Rattle.std.proofs.Common.{◌≡◌, ℕ, zero, suc, ◌+◌, ◌*◌, length, replicate, ◌/◌, ◌%◌, ◌<◌, ◌^◌, List, [], ◌∷◌, slice_index, refl, sym, subst, arith}
use Rattle.std.specs.Prelude.{decimal}
use Rattle.std.specs.List.{All}
use Rattle.std.proofs.lemmas.List.Elements.{All-nil, All-cons, All-append, All-map, All-weaker}
use Rattle.hex.specs.Hex.{IsBytes}
use Rattle.names.specs.declared.digest.Digest.{Digest}
use Rattle.farm_base.specs.declared.message.Confirmed.{Confirmed}
use Rattle.farm_base.specs.declared.message.GrantedSlot.{GrantedSlot}
use Rattle.farm_base.specs.declared.message.News.{News}
use Rattle.names.specs.Digests.{IsDigest}
use Rattle.base64.specs.Rfc4648.{encode_one, encode_two, encode_group, encode_symbols, padding_len}
use Rattle.base64.specs.Engines.{standard}
use Rattle.words.specs.Words.{access_text, digits_text, slot_with}
use Rattle.farmwire.specs.Lawful.{IsNews, IsConfirmed, IsGranted}
use Rattle.farmwire.specs.Lines.{bytes_text, version_text, news_text, confirmed_text, granted_text}
use Rattle.farmwire.specs.Words.{SpellAll}
use Rattle.words.proofs.PlainLemmas.{IsVisible, IsWord, IsWord-from_test, table_word, decimal_word, access_word, digest_word, with_word}

-- ---- items

version_word : (number : ℕ) (d : Digest) → number < 2 ^ 64 → IsDigest d → IsWord (version_text number d)
version_word number d lt h =
    All-append IsVisible (decimal number) (58 ∷ digits_text d) (decimal_word number lt) (All-cons IsVisible 58 (digits_text d) (omega arith, omega arith) (digest_word d h))

pub news_word : (news : News) → IsNews news → IsWord (news_text news)
news_word news h = with_word news.slot (digits_text news.digest) h.slot (digest_word news.digest h.digest)

pub confirmed_word : (version : Confirmed) → IsConfirmed version → IsWord (confirmed_text version)
confirmed_word version h = with_word version.slot (version_text version.number version.digest) h.slot (version_word version.number version.digest h.number h.digest)

pub granted_word : (granted : GrantedSlot) → IsGranted granted → IsWord (granted_text granted)
granted_word granted h =
    All-append IsVisible (access_text granted.writable) (slot_with granted.slot (version_text granted.base granted.digest)) (access_word granted.writable)
    (with_word granted.slot (version_text granted.base granted.digest) h.slot (version_word granted.base granted.digest h.base h.digest))

-- the words of items
pub item_words : {X : Type 0} (spelling : X → List ℕ) (Is : X → Type 0) → ((x : X) → Is x → IsWord (spelling x))
    → (ws : List (List ℕ)) (xs : List X) → SpellAll spelling Is ws xs → All IsWord ws
item_words spelling Is one ws xs h =
    subst (All IsWord) (sym h.text) (All-map IsWord spelling xs (All-weaker Is (λ x. IsWord (spelling x)) one xs h.each))

-- ---- base64

-- the symbols of standard base64
abbrev table : List ℕ
table = standard.encode_table

symbol_table : IsWord table
symbol_table = IsWord-from_test table refl

symbol : (d : ℕ) → d < 64 → IsVisible (slice_index table d)
symbol d lt = let len : length table ≡ 64 = refl in table_word table d symbol_table (omega arith)

-- one more symbol
then_symbol : (d : ℕ) (word : List ℕ) → d < 64 → IsWord word → IsWord (slice_index table d ∷ word)
then_symbol d word lt h = All-cons IsVisible (slice_index table d) word (symbol d lt) h

one_word : (a : ℕ) → a < 256 → IsWord (encode_one table a)
one_word a la =
    then_symbol (a / 4) (slice_index table (a % 4 * 16) ∷ []) (omega arith)
    (then_symbol (a % 4 * 16) [] (omega arith) (All-nil IsVisible))

two_word : (a b : ℕ) → a < 256 → b < 256 → IsWord (encode_two table a b)
two_word a b la lb =
    then_symbol (a / 4) (slice_index table (a % 4 * 16 + b / 16) ∷ slice_index table (b % 16 * 4) ∷ []) (omega arith)
    (then_symbol (a % 4 * 16 + b / 16) (slice_index table (b % 16 * 4) ∷ []) (omega arith)
    (then_symbol (b % 16 * 4) [] (omega arith) (All-nil IsVisible)))

group_word : (a b c : ℕ) → a < 256 → b < 256 → c < 256 → IsWord (encode_group table a b c)
group_word a b c la lb lc =
    then_symbol (a / 4) (slice_index table (a % 4 * 16 + b / 16) ∷ slice_index table (b % 16 * 4 + c / 64) ∷ slice_index table (c % 64) ∷ []) (omega arith)
    (then_symbol (a % 4 * 16 + b / 16) (slice_index table (b % 16 * 4 + c / 64) ∷ slice_index table (c % 64) ∷ []) (omega arith)
    (then_symbol (b % 16 * 4 + c / 64) (slice_index table (c % 64) ∷ []) (omega arith)
    (then_symbol (c % 64) [] (omega arith) (All-nil IsVisible))))

symbols_word : (m : List ℕ) → IsBytes m → IsWord (encode_symbols table m)
unfolding encode_symbols
symbols_word [] h = All-nil IsVisible
symbols_word (a ∷ []) h = one_word a (h 0)
symbols_word (a ∷ b ∷ []) h = two_word a b (h 0) (h 1)
symbols_word (a ∷ b ∷ c ∷ rest) h =
    All-append IsVisible (encode_group table a b c) (encode_symbols table rest) (group_word a b c (h 0) (h 1) (h 2))
    (symbols_word rest (λ i. h (suc (suc (suc i)))))

padding_word : (n : ℕ) → IsWord (replicate n 61)
padding_word zero = All-nil IsVisible
padding_word (suc n) = All-cons IsVisible 61 (replicate n 61) (omega arith, omega arith) (padding_word n)

pub bytes_word : (m : List ℕ) → IsBytes m → IsWord (bytes_text m)
bytes_word m h = All-append IsVisible (encode_symbols table m) (replicate (padding_len (length m)) 61) (symbols_word m h) (padding_word (padding_len (length m)))
