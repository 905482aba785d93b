-- What a store in files knows to be kept.
use Rattle.std.proofs.Common.{◌≡◌, ◌≢◌, ℕ, Bool, true, false, ◌||◌, not, if◌then◌else◌, List, [], ◌∷◌, ◌++◌, filter, Some, Result, Ok, Err, OnOk, refl, sym, ap, ◌∙◌, subst}
use Rattle.std.specs.List.{All, list_any}
use Rattle.std.specs.Result.{is_err}
use Rattle.std.proofs.lemmas.List.Elements.{All-push, All-weaker}
use Rattle.std.proofs.lemmas.Bool.{or_left, or_right}
use Rattle.std.proofs.lemmas.List.Folds.{list_any-append}
use Rattle.names.proofs.CompareLaws.{digest_exact, digest_eq-itself}
use Rattle.names.specs.Contents.{content_digest}
use Rattle.names.specs.Digests.{digest_eq}
use Rattle.protocol.specs.Names.{Digest}

-- the digest is one of these
abbrev pub is_among : List Digest → Digest → Bool
is_among ds d = list_any (λ e. digest_eq e d) ds

-- the digest of each content is one of these
abbrev pub AreAmong : List Digest → List (List ℕ) → Type 0
AreAmong ds cs = All (λ (c : List ℕ). is_among ds (content_digest c) ≡ true) cs

pub among_more : (ds : List Digest) (e d : Digest) → is_among ds d ≡ true → is_among (ds ++ e ∷ []) d ≡ true
among_more ds e d h = list_any-append (λ (x : Digest). digest_eq x d) ds (e ∷ []) ∙ or_left (is_among ds d) (is_among (e ∷ []) d) h

pub among_last : (ds : List Digest) (d : Digest) → is_among (ds ++ d ∷ []) d ≡ true
among_last ds d =
    list_any-append (λ (x : Digest). digest_eq x d) ds (d ∷ [])
    ∙ or_right (is_among ds d) (is_among (d ∷ []) d) (or_left (digest_eq d d) false (digest_eq-itself d))

pub all_more : (ds : List Digest) (e : Digest) (cs : List (List ℕ)) → AreAmong ds cs → AreAmong (ds ++ e ∷ []) cs
all_more ds e cs h =
    All-weaker (λ (c : List ℕ). is_among ds (content_digest c) ≡ true) (λ (c : List ℕ). is_among (ds ++ e ∷ []) (content_digest c) ≡ true)
    (λ c is. among_more ds e (content_digest c) is) cs h

-- one more content, and its digest
pub all_push : (ds : List Digest) (e : Digest) (cs : List (List ℕ)) (c : List ℕ) → e ≡ content_digest c → AreAmong ds cs → AreAmong (ds ++ e ∷ []) (cs ++ c ∷ [])
all_push ds e cs c is h =
    All-push (λ (x : List ℕ). is_among (ds ++ e ∷ []) (content_digest x) ≡ true) cs c (all_more ds e cs h)
    (subst (λ (d : Digest). is_among (ds ++ e ∷ []) d ≡ true) is (among_last ds e))

-- the others are among what is left
kept_front : (gone d e : Digest) (rest : List Digest) (is_gone is_it : Bool) → digest_eq e gone ≡ is_gone → digest_eq e d ≡ is_it → Some gone ≢ Some d
    → (is_among rest d ≡ true → is_among (filter (λ (x : Digest). not (digest_eq x gone)) rest) d ≡ true) → (is_it || is_among rest d) ≡ true
    → is_among (if not is_gone then e ∷ filter (λ (x : Digest). not (digest_eq x gone)) rest else filter (λ (x : Digest). not (digest_eq x gone)) rest) d ≡ true
kept_front gone d e rest true true g i apart more h = absurd (apart (ap (λ (x : Digest). Some x) (sym (digest_exact e gone g) ∙ digest_exact e d i)))
kept_front gone d e rest true false g i apart more h = more h
kept_front gone d e rest false true g i apart more h = rw i refl
kept_front gone d e rest false false g i apart more h = or_right (digest_eq e d) _ (more h)

pub still_among : (gone d : Digest) (ds : List Digest) → Some gone ≢ Some d → is_among ds d ≡ true → is_among (filter (λ (x : Digest). not (digest_eq x gone)) ds) d ≡ true
still_among gone d [] apart h = absurd (cc h)
still_among gone d (e ∷ ds) apart h = kept_front gone d e ds (digest_eq e gone) (digest_eq e d) refl refl apart (still_among gone d ds apart) h

-- and what was taken away isn't
gone_front : (gone e : Digest) (rest : List Digest) (is_gone : Bool) → digest_eq e gone ≡ is_gone → is_among (filter (λ (x : Digest). not (digest_eq x gone)) rest) gone ≡ false
    → is_among (if not is_gone then e ∷ filter (λ (x : Digest). not (digest_eq x gone)) rest else filter (λ (x : Digest). not (digest_eq x gone)) rest) gone ≡ false
gone_front gone e rest true g more = more
gone_front gone e rest false g more = rw g more

pub is_gone : (gone : Digest) (ds : List Digest) → is_among (filter (λ (x : Digest). not (digest_eq x gone)) ds) gone ≡ false
is_gone gone [] = refl
is_gone gone (e ∷ ds) = gone_front gone e ds (digest_eq e gone) refl (is_gone gone ds)

-- what holds where the call went well
pub went_well : {T E : Type 0} (r : Result T E) (P : Type 0) → is_err r ≡ false → OnOk r P → P
went_well (Ok x) P fine h = h
went_well (Err e) P fine h = absurd (cc fine)
