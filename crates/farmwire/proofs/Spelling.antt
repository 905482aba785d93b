-- No two values have the same text.
use Rattle.std.proofs.Common.{◌≡◌, ◌≢◌, ℕ, ◌<◌, ◌^◌, List, ◌∷◌, ◌++◌, get_or, slice_index, refl, ap, subst, arith}
use Rattle.std.specs.Prelude.{decimal}
use Rattle.std.specs.Str.Parse.{AllDigits, digits_value}
use Rattle.std.proofs.lemmas.Fmt.{decimal_injective, digits_decimal}
use Rattle.std.proofs.lemmas.Str.Parse.{digit_at, IsNumeralModel, numerals_by_value, tells_digits}
use Rattle.base64.specs.Engines.{standard}
use Rattle.base64.specs.GeneralPurpose.{decode_of}
use Rattle.base64.proofs.EngineFacts.{decode_of-encode_of}
use Rattle.hex.specs.Hex.{IsBytes}
use Rattle.names.specs.declared.digest.Digest.{Digest}
use Rattle.names.specs.declared.folder.Mode.{Mode}
use Rattle.names.specs.declared.folder.Mode.TheVariants.{Shared, Private, Locked}
use Rattle.farm_base.specs.declared.lease.LeaseKind.{LeaseKind}
use Rattle.farm_base.specs.declared.lease.LeaseKind.TheVariants as kind
use Rattle.farm_base.specs.declared.message.Confirmed.{Confirmed}
use Rattle.farm_base.specs.declared.message.GrantedSlot.{GrantedSlot}
use Rattle.farm_base.specs.declared.message.News.{News}
use Rattle.farm_base.specs.declared.message.Why.{Why}
use Rattle.farm_base.specs.declared.message.Why.TheVariants.{InstancesSpent, TicketsSpent}
use Rattle.names.specs.declared.number.Ask.{Ask}
use Rattle.names.specs.declared.number.Life.{Life}
use Rattle.names.specs.declared.number.NodeId.{NodeId}
use Rattle.names.specs.Decimals.{Lacks}
use Rattle.names.specs.Digests.{IsDigest}
use Rattle.names.specs.Names.{mode_text, slot_text}
use Rattle.names.specs.Slots.{SlotParts}
use Rattle.names.proofs.TextLemmas.{Lacks-append, Lacks-middle, Lacks-cons, split_same, encode-lacks}
use Rattle.words.specs.Words.{digits_text, why_text}
use Rattle.farmwire.specs.Lawful.{IsNode, IsCounted, IsLife, IsAsk, IsNews, IsConfirmed, IsGranted}
use Rattle.farmwire.specs.Lines.{life_text, ask_text, bytes_text, version_text, news_text, confirmed_text, granted_text, kind_text}
use Rattle.words.proofs.Spelling.{access_same, digest_same, slot_same}

-- ---- numbers

own : IsNumeralModel (AllDigits 10) (digits_value 10)
own = numerals_by_value (AllDigits 10) tells_digits

-- a byte above the digits is in no decimal
pub decimal-lacks_high : (c n : ℕ) → n < 2 ^ 64 → 57 < c → Lacks c (decimal n)
decimal-lacks_high c n lt high i inside =
    let range = digit_at (decimal n) i (digits_decimal own n lt) inside in
    λ e. omega arith

-- each node of a farm is one of the program
pub node_fits : (n : NodeId) → IsNode n → n.0 < 2 ^ 32
node_fits n h = omega arith

pub counted_same : (m n : ℕ) → IsCounted m → IsCounted n → decimal m ≡ decimal n → m ≡ n
counted_same m n hm hn e = decimal_injective m n hm.1 hn.1 e

-- a life is counted
pub life_counted : (l : Life) → IsLife l → IsCounted l.0
life_counted l h = (h.0, omega (arith, h.1))

pub life_same : (a b : Life) → IsLife a → IsLife b → life_text a ≡ life_text b → a ≡ b
life_same a b ha hb e = let same = counted_same a.0 b.0 (life_counted a ha) (life_counted b hb) e in λ i. record { 0 = same i }

pub ask_same : (a b : Ask) → IsAsk a → IsAsk b → ask_text a ≡ ask_text b → a ≡ b
ask_same a b ha hb e = let same = counted_same a.0 b.0 ha hb e in λ i. record { 0 = same i }

-- ---- bytes

pub bytes_same : (a b : List ℕ) → IsBytes a → IsBytes b → bytes_text a ≡ bytes_text b → a ≡ b
bytes_same a b ha hb e =
    let x = decode_of-encode_of standard a refl ha in
    let y = decode_of-encode_of standard b refl hb in
    cc (x, y, ap (decode_of standard) e)

-- ---- kinds and reasons

pub kind_same : (a b : LeaseKind) → kind_text a ≡ kind_text b → a ≡ b
kind_same kind.Plain kind.Plain e = refl
kind_same kind.Shared kind.Shared e = refl
kind_same kind.Tenure kind.Tenure e = refl
kind_same kind.Plain kind.Shared e = let first = ap (λ t. get_or t 0 0) e in absurd (omega arith)
kind_same kind.Plain kind.Tenure e = let first = ap (λ t. get_or t 0 0) e in absurd (omega arith)
kind_same kind.Shared kind.Plain e = let first = ap (λ t. get_or t 0 0) e in absurd (omega arith)
kind_same kind.Shared kind.Tenure e = let first = ap (λ t. get_or t 0 0) e in absurd (omega arith)
kind_same kind.Tenure kind.Plain e = let first = ap (λ t. get_or t 0 0) e in absurd (omega arith)
kind_same kind.Tenure kind.Shared e = let first = ap (λ t. get_or t 0 0) e in absurd (omega arith)

pub why_same : (a b : Why) → why_text a ≡ why_text b → a ≡ b
why_same InstancesSpent InstancesSpent e = refl
why_same InstancesSpent TicketsSpent e = let first = ap (λ t. get_or t 0 0) e in absurd (omega arith)
why_same TicketsSpent InstancesSpent e = let first = ap (λ t. get_or t 0 0) e in absurd (omega arith)
why_same TicketsSpent TicketsSpent e = refl

-- ---- what may only be read

first_of_mode : (m : Mode) (x y z : List ℕ) → slice_index (((mode_text m ++ x) ++ y) ++ z) 0 ≢ 114
first_of_mode Shared x y z e = omega arith
first_of_mode Private x y z e = omega arith
first_of_mode Locked x y z e = omega arith

-- no slot does
pub slot-no_r : (s : SlotParts) (z : List ℕ) → slice_index (slot_text s ++ z) 0 ≢ 114
slot-no_r s z e = first_of_mode s.folder.mode _ _ z e

-- ---- items

-- neither a version nor a digest has a `=`
pub digits-lack : (d : Digest) → IsDigest d → Lacks 61 (digits_text d)
digits-lack d h = encode-lacks 61 refl d.0 h.1

pub version-lacks : (n : ℕ) (d : Digest) → n < 2 ^ 64 → IsDigest d → Lacks 61 (version_text n d)
version-lacks n d lt h =
    Lacks-append 61 (decimal n) (58 ∷ digits_text d) (decimal-lacks_high 61 n lt (omega arith)) (Lacks-cons 61 58 (digits_text d) (λ e. omega arith) (digits-lack d h))

-- the parts of a version are determined
pub version_parts : (n : ℕ) (d : Digest) (x y : List ℕ) → n < 2 ^ 64 → Lacks 58 x → x ++ 58 ∷ y ≡ version_text n d → (x ≡ decimal n) × (y ≡ digits_text d)
version_parts n d x y lt lx e = split_same 58 x (decimal n) y (digits_text d) e lx (decimal-lacks_high 58 n lt (omega arith))

pub version_same : (m n : ℕ) (c d : Digest) → m < 2 ^ 64 → n < 2 ^ 64 → IsDigest c → IsDigest d → version_text m c ≡ version_text n d → (m ≡ n) × (c ≡ d)
version_same m n c d hm hn hc hd e =
    let parts = version_parts n d (decimal m) (digits_text c) hn (decimal-lacks_high 58 m hm (omega arith)) e in
    (decimal_injective m n hm hn parts.0, digest_same c d hc hd parts.1)

-- a word without `:` has no version
pub version_without : (word : List ℕ) (n : ℕ) (d : Digest) → Lacks 58 word → word ≡ version_text n d → ⊥
version_without word n d l e = Lacks-middle 58 (decimal n) (digits_text d) (subst (Lacks 58) e l)

pub news_same : (a b : News) → IsNews a → IsNews b → news_text a ≡ news_text b → a ≡ b
news_same a b ha hb e =
    let parts = slot_same a.slot b.slot _ _ ha.slot hb.slot (digits-lack a.digest ha.digest) (digits-lack b.digest hb.digest) e in
    let digest = digest_same a.digest b.digest ha.digest hb.digest parts.1 in
    λ i. record { slot = parts.0 i; digest = digest i }

pub confirmed_same : (a b : Confirmed) → IsConfirmed a → IsConfirmed b → confirmed_text a ≡ confirmed_text b → a ≡ b
confirmed_same a b ha hb e =
    let parts = slot_same a.slot b.slot _ _ ha.slot hb.slot (version-lacks a.number a.digest ha.number ha.digest) (version-lacks b.number b.digest hb.number hb.digest) e in
    let version = version_same a.number b.number a.digest b.digest ha.number hb.number ha.digest hb.digest parts.1 in
    λ i. record { slot = parts.0 i; number = version.0 i; digest = version.1 i }

pub granted_same : (a b : GrantedSlot) → IsGranted a → IsGranted b → granted_text a ≡ granted_text b → a ≡ b
granted_same a b ha hb e =
    let access = access_same a.writable b.writable _ _ (slot-no_r a.slot _) (slot-no_r b.slot _) e in
    let parts = slot_same a.slot b.slot _ _ ha.slot hb.slot (version-lacks a.base a.digest ha.base ha.digest) (version-lacks b.base b.digest hb.base hb.digest) access.1 in
    let version = version_same a.base b.base a.digest b.digest ha.base hb.base ha.digest hb.digest parts.1 in
    λ i. record { slot = parts.0 i; writable = access.0 i; base = version.0 i; digest = version.1 i }
