-- Fields as formats: what is read is spelled so, and what is spelled so is read.
use Rattle.std.proofs.Common.{◌≡◌, ℕ, zero, suc, ◌^◌, ◌<◌, ◌≤◌, Bool, true, false, leb, ◌&&◌, List, [], ◌∷◌, ◌++◌, length, Option, Some, None, Ok, refl, sym, ap, subst, arith}
use Rattle.std.specs.Int.{Width, w32, w64, byte_len, from_be_bytes, to_be_bytes}
use Rattle.std.specs.Str.{IsUtf8, is_utf8}
use Rattle.std.proofs.lemmas.Bool.{leb-true, le-leb, and_parts}
use Rattle.codec.proofs.Formats.{Any, IsSpelled, IsFormat, if_then, if_passed, ◌and_then◌, one_byte, begins, then_takes, then_again, last_again, refit, front_format}
use Rattle.codec.proofs.Fronts.{IsBytes-front, Takes, IsWide, wide32, wide64}
use Rattle.names.specs.Digests.{IsBytes}
use Rattle.names.specs.declared.digest.Digest.{Digest}
use Rattle.names.specs.declared.number.NodeId.{NodeId}
use Rattle.recordparts.specs.declared.refusal.Flaw.{Flaw}
use Rattle.recordparts.specs.declared.refusal.RecordRefusal.TheVariants.{Truncated}
use Rattle.recordparts.specs.Parts.{passed, front_at, number_at, flag_at, digest_at, text_of, id_at, home_of, home_at}
use Rattle.recordparts.specs.Spelling.{flag_bytes, id_bytes, home_bytes}
use Rattle.recordparts.specs.Fits.{IsHome}
use Rattle.recordparts.proofs.TextLemmas.{text_passes}

-- a test that was passed
pub passed_ok : {A : Type 0} (flaw : Flaw) (b : Bool) (x y : A) → passed flaw b x ≡ Ok y → (b ≡ true) × (x ≡ y)
passed_ok flaw true x y e = (refl, cc)
passed_ok flaw false x y e = absurd cc

-- ---- numbers

pub number_format : (w : Width) (limit : ℕ) → IsWide w limit → (low high : ℕ) → high < limit → IsFormat (number_at w low high) (to_be_bytes w) (λ n. (low ≤ n) × (n ≤ high)) Any
unfolding number_at front_at
number_format w limit wide low high below = record {
  takes = λ bytes fits. then_takes (front_format Truncated (byte_len w)) bytes fits _ _ λ front rest t len.
      let n = from_be_bytes w front in
      let same : to_be_bytes w n ≡ front = wide.back front len (IsBytes-front front rest (subst IsBytes t.parts fits)) in
      if_passed (leb low n && leb n high) _ _ _ λ h.
      let both = and_parts (leb low n) (leb n high) h in
      (subst (λ (text : List ℕ). Takes bytes text rest) (sym same) t, (leb-true low n both.0, leb-true n high both.1));
  again = λ n rest fits typed.
      last_again (front_format Truncated (byte_len w)) (to_be_bytes w n) (begins (to_be_bytes w n) rest) (wide.len n) tt _
      (rw (wide.again n (omega arith), le-leb low n fits.0, le-leb n high fits.1) refl);
}

abbrev pub greatest : ℕ
greatest = 0xffff_ffff_ffff_ffff

-- any number of eight bytes
pub any64 : IsFormat (number_at w64 0 greatest) (to_be_bytes w64) Any (λ n. n < 2 ^ 64)
any64 = refit (number_format w64 (2 ^ 64) wide64 0 greatest (omega arith)) (λ n fits. tt) (λ n fits typed. ((omega arith, omega arith), tt))

-- any number of four bytes
pub any32 : IsFormat (number_at w32 0 0xffff_ffff) (to_be_bytes w32) Any (λ n. n < 2 ^ 32)
any32 = refit (number_format w32 (2 ^ 32) wide32 0 0xffff_ffff (omega arith)) (λ n fits. tt) (λ n fits typed. ((omega arith, omega arith), tt))

-- ---- flags, digests and ids

flag_takes : IsSpelled flag_at flag_bytes Any
unfolding flag_at
flag_takes [] fits = tt
flag_takes (zero ∷ rest) fits = (one_byte 0 rest fits, tt)
flag_takes (suc zero ∷ rest) fits = (one_byte 1 rest fits, tt)
flag_takes (suc (suc n) ∷ rest) fits = tt

pub flag_format : IsFormat flag_at flag_bytes Any Any
unfolding flag_at
flag_format = record {
  takes = flag_takes;
  again = λ flag rest fits typed. elim flag as (λ b. flag_at (flag_bytes b ++ rest) ≡ Ok (b, rest)) [ false ↦ refl | true ↦ refl ];
}

pub digest_format : IsFormat digest_at (λ (d : Digest). d.0) Any (λ d. length d.0 ≡ 32)
unfolding digest_at front_at
digest_format = record {
  takes = λ bytes fits. then_takes (front_format Truncated 32) bytes fits _ _ λ front rest t len. (t, tt);
  again = λ d rest fits typed. last_again (front_format Truncated 32) d.0 (begins d.0 rest) typed tt _ refl;
}

pub id_format : IsFormat id_at id_bytes Any (λ id. (length id < 2 ^ 64) × IsUtf8 id)
unfolding id_at front_at
id_format = record {
  takes = λ bytes fits.
      then_takes any64 bytes fits _ _ λ n after tn any.
      then_takes (front_format Truncated n) after tn.rest_fits _ _ λ id rest ti len.
      let whole : Takes bytes (id_bytes id) rest = subst (λ (k : ℕ). Takes bytes (to_be_bytes w64 k ++ id) rest) (sym len) (tn and_then ti) in
      if_then (text_of id) (λ text. Takes bytes (id_bytes text) rest) (if_passed (is_utf8 id) _ _ _ (λ h. whole)) _ _ λ text t. (t, tt);
  again = λ id rest fits typed.
      then_again any64 (length id) _ (begins (id_bytes id) rest) tt typed.0 _ λ after is.
      last_again (front_format Truncated (length id)) id is refl tt _ (rw (text_passes id typed.1) refl);
}

-- ---- the home

home_number : IsFormat (number_at w32 0 1024) (to_be_bytes w32) (λ n. (0 ≤ n) × (n ≤ 1024)) Any
home_number = number_format w32 (2 ^ 32) wide32 0 1024 (omega arith)

home_fits : (n : ℕ) (bytes rest : List ℕ) → Takes bytes (to_be_bytes w32 n) rest → n ≤ 1024 → Takes bytes (home_bytes (home_of n)) rest × IsHome (home_of n)
unfolding home_bytes
home_fits zero bytes rest t le = (t, tt)
home_fits (suc n) bytes rest t le = (t, (omega arith, le))

some_home : (n : ℕ) → 1 ≤ n → home_of n ≡ Some (record { 0 = n })
some_home zero le = absurd (omega arith)
some_home (suc n) le = refl

home_again : (o : Option NodeId) (rest : List ℕ) → IsHome o → Any o → home_at (home_bytes o ++ rest) ≡ Ok (o, rest)
unfolding home_at home_bytes
home_again None rest fits typed = last_again home_number 0 (begins (to_be_bytes w32 0) rest) (omega arith, omega arith) tt _ refl
home_again (Some n) rest fits typed = last_again home_number n.0 (begins (to_be_bytes w32 n.0) rest) (omega arith, fits.1) tt _ (ap (λ (o : Option NodeId). Ok (o, rest)) (some_home n.0 fits.0))

pub home_format : IsFormat home_at home_bytes IsHome Any
unfolding home_at
home_format = record { takes = λ bytes fits. then_takes home_number bytes fits _ _ λ n rest t between. home_fits n bytes rest t between.1; again = home_again }
