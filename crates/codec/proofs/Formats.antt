-- Formats: a reader, and the spelling that belongs to it. The laws of a format that is made of others come from theirs.
use Rattle.std.proofs.Common.{◌≡◌, ℕ, ◌≤◌, Bool, true, false, cond, ltb, List, [], ◌∷◌, ◌++◌, length, Result, Ok, Err, refl, sym, ap, ◌∙◌, append_assoc, arith}
use Rattle.std.specs.Prelude.{IfOk}
use Rattle.std.proofs.lemmas.Bool.{ltb-false}
use Rattle.std.proofs.lemmas.List.{take-append-drop, length-take}
use Rattle.std.proofs.lemmas.Result.{IfOk-weaker, IfOk-at_ok}
use Rattle.hex.specs.Hex.{IsBytes}
use Rattle.codec.specs.Steps.{◌>>=◌, front_or}
use Rattle.codec.proofs.Fronts.{IsBytes-drop, IsBytes-rest, Takes, Takes-then, front_of_length}

-- nothing is asked
abbrev pub Any : {X : Type 0} → X → Type 0
Any x = Unit {0}

-- what is read of bytes is spelled so, and fits
abbrev pub IsSpelled : {X E : Type 0} → (List ℕ → Result (X × List ℕ) E) → (X → List ℕ) → (X → Type 0) → Type 0
IsSpelled read spell Fits = (bytes : List ℕ) → IsBytes bytes → IfOk (read bytes) (λ p. Takes bytes (spell p.0) p.1 × Fits p.0)

-- a reader and a spelling that belong together: what is read is spelled so, and what fits and is typed is read from its spelling
pub record IsFormat {X E : Type 0} (read : List ℕ → Result (X × List ℕ) E) (spell : X → List ℕ) (Fits Typed : X → Type 0) : Type 0 where
  pub takes : IsSpelled read spell Fits
  pub again : (x : X) (rest : List ℕ) → Fits x → Typed x → read (spell x ++ rest) ≡ Ok (x, rest)

-- ---- what is read, step by step

-- a step, and what follows it
pub if_then : {A Z E : Type 0} (r : Result A E) (P : A → Type 0) → IfOk r P → (f : A → Result Z E) (Q : Z → Type 0) → ((x : A) → P x → IfOk (f x) Q) → IfOk (r >>= f) Q
if_then (Ok x) P h f Q next = next x h
if_then (Err e) P h f Q next = tt

-- a choice
pub if_chosen : {A E : Type 0} (b : Bool) (x y : Result A E) (Q : A → Type 0) → (b ≡ true → IfOk x Q) → (b ≡ false → IfOk y Q) → IfOk (cond b x y) Q
if_chosen true x y Q h k = h refl
if_chosen false x y Q h k = k refl

-- a test
pub if_passed : {A E : Type 0} (b : Bool) (d : E) (x : A) (Q : A → Type 0) → (b ≡ true → Q x) → IfOk (cond b (Ok x) (Err d)) Q
if_passed b d x Q h = if_chosen b (Ok x) (Err d) Q h (λ _. tt)

-- two parts that were taken, one behind the other
infixr 20 ◌and_then◌
pub ◌and_then◌ : {a x b y c : List ℕ} → Takes a x b → Takes b y c → Takes a (x ++ y) c
t and_then u = Takes-then _ _ _ _ _ t u

pub one_byte : (b : ℕ) (rest : List ℕ) → IsBytes (b ∷ rest) → Takes (b ∷ rest) (b ∷ []) rest
one_byte b rest fits = record { parts = refl; rest_fits = IsBytes-rest b rest fits }

-- ---- what is read again, step by step

-- the bytes are a text and a rest
pub record Begins (bytes text rest : List ℕ) : Type 0 where
  pub parts : bytes ≡ text ++ rest

pub begins : (text rest : List ℕ) → Begins (text ++ rest) text rest
begins text rest = record { parts = refl }

pub begins_assoc : {bytes rest : List ℕ} (a b c : List ℕ) → Begins bytes ((a ++ b) ++ c) rest → Begins bytes (a ++ (b ++ c)) rest
begins_assoc {bytes} {rest} a b c h = record { parts = h.parts ∙ ap (λ (text : List ℕ). text ++ rest) (append_assoc a b c) }

-- ---- a format as a step of another

module _ {X E : Type 0} {read : List ℕ → Result (X × List ℕ) E} {spell : X → List ℕ} {Fits Typed : X → Type 0} (format : IsFormat read spell Fits Typed) where
  -- what was read
  pub took : (bytes : List ℕ) (x : X) (rest : List ℕ) → IsBytes bytes → read bytes ≡ Ok (x, rest) → Takes bytes (spell x) rest × Fits x
  took bytes x rest fits e = IfOk-at_ok (λ (p : X × List ℕ). Takes bytes (spell p.0) p.1 × Fits p.0) e (format.takes bytes fits)

  -- it is read, and then what follows
  pub then_takes : {Z : Type 0} (bytes : List ℕ) → IsBytes bytes → (f : X × List ℕ → Result Z E) (Q : Z → Type 0)
      → ((x : X) (rest : List ℕ) → Takes bytes (spell x) rest → Fits x → IfOk (f (x, rest)) Q) → IfOk (read bytes >>= f) Q
  then_takes bytes fits f Q next = if_then (read bytes) _ (format.takes bytes fits) f Q (λ p t. next p.0 p.1 t.0 t.1)

  -- its value is read again, and then what follows
  pub then_again : {Z : Type 0} {bytes rest : List ℕ} (x : X) (text : List ℕ) → Begins bytes (spell x ++ text) rest → Fits x → Typed x → (f : X × List ℕ → Result Z E) {y : Result Z E}
      → ((after : List ℕ) → Begins after text rest → f (x, after) ≡ y) → (read bytes >>= f) ≡ y
  then_again {bytes = bytes} {rest = rest} x text is fits typed f next =
      ap (λ (b : List ℕ). read b >>= f) (is.parts ∙ append_assoc (spell x) text rest) ∙ ap (λ (r : Result (X × List ℕ) E). r >>= f) (format.again x (text ++ rest) fits typed) ∙ next (text ++ rest) (begins text rest)

  -- its value is the last part
  pub last_again : {Z : Type 0} {bytes rest : List ℕ} (x : X) → Begins bytes (spell x) rest → Fits x → Typed x → (f : X × List ℕ → Result Z E) {y : Result Z E} → f (x, rest) ≡ y → (read bytes >>= f) ≡ y
  last_again {rest = rest} x is fits typed f e = ap (λ (b : List ℕ). read b >>= f) is.parts ∙ ap (λ (r : Result (X × List ℕ) E). r >>= f) (format.again x rest fits typed) ∙ e

  -- the same format, in other words
  pub refit : {G U : X → Type 0} → ((x : X) → Fits x → G x) → ((x : X) → G x → U x → Fits x × Typed x) → IsFormat read spell G U
  refit to from = record {
    takes = λ bytes fits. IfOk-weaker (read bytes) _ _ (λ p t. (t.0, to p.0 t.1)) (format.takes bytes fits);
    again = λ x rest fits typed. let both = from x fits typed in format.again x rest both.0 both.1;
  }

-- the first len bytes
pub front_format : {E : Type 0} (short : E) (len : ℕ) → IsFormat (front_or short len) (λ front. front) (λ front. length front ≡ len) Any
front_format short len = record {
  takes = λ bytes fits. if_chosen (ltb (length bytes) len) _ _ _ (λ _. tt) (λ e.
      let long : len ≤ length bytes = ltb-false _ _ e in
      (record { parts = sym (take-append-drop len bytes); rest_fits = IsBytes-drop len bytes fits }, omega (arith, length-take len bytes)));
  again = λ front rest is typed. front_of_length short len front rest is;
}
