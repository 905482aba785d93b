-- Trying asks in order, but for those that are over.
use Rattle.std.proofs.Common.{◌≡◌, ◌+◌, ℕ, Bool, true, false, not, ◌||◌, cond, List, [], ◌∷◌, ◌++◌, refl, sym, ◌∙◌, ap}
use Rattle.protocol.specs.Machine.{Parked}
use Rattle.protocol.specs.Ledger.{Limits, Work, tried, stays, try_all, waiting, retried, parks}
use Rattle.parked.specs.Over.{is_over_at, later_over, Begins, still_at}
use Rattle.parked.proofs.WaitingWords.{over-first, stays-first}
use Rattle.drafts.proofs.Trying.{try_all-parks, waiting-parks, retried-is}

-- one ask more was tried, unless it was over
pub try-next : (k : Limits) (p : Parked) (i : ℕ) (os : List ℕ) (ps : List Parked) (w w' : Work) (b : Bool) → b ≡ is_over_at i os → w' ≡ cond b w (tried k p w)
    → try_all k (still_at (i + 1) (later_over i os) ps) w' ≡ try_all k (still_at i os (p ∷ ps)) w
try-next k p i os ps w w' true e f =
    ap (try_all k (still_at (i + 1) (later_over i os) ps)) f
    ∙ ap (λ (x : Bool). try_all k (cond x (still_at (i + 1) (later_over i os) ps) (p ∷ still_at (i + 1) (later_over i os) ps)) w) e
try-next k p i os ps w w' false e f =
    ap (try_all k (still_at (i + 1) (later_over i os) ps)) f
    ∙ ap (λ (x : Bool). try_all k (cond x (still_at (i + 1) (later_over i os) ps) (p ∷ still_at (i + 1) (later_over i os) ps)) w) e

-- and it is noted whether it is over now
pub stay-one : (k : Limits) (p : Parked) (i : ℕ) (ms : List ℕ) (ps qs : List Parked) (w : Work) (o : Bool) → o ≡ not (stays k p w) → Begins (i + 1) ms
    → still_at (i + 1) ms ps ≡ waiting k qs (tried k p w)
    → still_at i (cond o (i ∷ ms) ms) (p ∷ ps) ≡ waiting k (p ∷ qs) w
stay-one k p i ms ps qs w true e begins h =
    let stay : true ≡ not (stays k p w) = e in
    over-first i ms p ps ∙ h ∙ by (stays k p w) refl
  where
    by : (x : Bool) → stays k p w ≡ x → waiting k qs (tried k p w) ≡ waiting k (p ∷ qs) w
    by true f = (let bad : true ≡ false = e ∙ ap not f in absurd (cc bad))
    by false f = rw f refl
stay-one k p i ms ps qs w false e begins h = stays-first i ms p ps begins ∙ ap (λ (xs : List Parked). p ∷ xs) h ∙ by (stays k p w) refl
  where
    by : (x : Bool) → stays k p w ≡ x → p ∷ waiting k qs (tried k p w) ≡ waiting k (p ∷ qs) w
    by true f = rw f refl
    by false f = (let bad : false ≡ true = e ∙ ap not f in absurd (cc bad))

pub stay-next : (k : Limits) (p : Parked) (i : ℕ) (os ms : List ℕ) (ps : List Parked) (w w' : Work) (b o : Bool) → b ≡ is_over_at i os → w' ≡ cond b w (tried k p w) → o ≡ (b || not (stays k p w)) → Begins (i + 1) ms
    → still_at (i + 1) ms ps ≡ waiting k (still_at (i + 1) (later_over i os) ps) w'
    → still_at i (cond o (i ∷ ms) ms) (p ∷ ps) ≡ waiting k (still_at i os (p ∷ ps)) w
stay-next k p i os ms ps w w' true true e f g begins h =
    over-first i ms p ps ∙ h ∙ ap (waiting k (still_at (i + 1) (later_over i os) ps)) f
    ∙ ap (λ (x : Bool). waiting k (cond x (still_at (i + 1) (later_over i os) ps) (p ∷ still_at (i + 1) (later_over i os) ps)) w) e
stay-next k p i os ms ps w w' true false e f g begins h = (let bad : false ≡ true = g in absurd (cc bad))
stay-next k p i os ms ps w w' false o e f g begins h =
    stay-one k p i ms ps (still_at (i + 1) (later_over i os) ps) w o g begins (h ∙ ap (waiting k (still_at (i + 1) (later_over i os) ps)) f)
    ∙ ap (λ (x : Bool). waiting k (cond x (still_at (i + 1) (later_over i os) ps) (p ∷ still_at (i + 1) (later_over i os) ps)) w) e

try_all-append : (k : Limits) (xs ys : List Parked) (w : Work) → try_all k (xs ++ ys) w ≡ try_all k ys (try_all k xs w)
try_all-append k [] ys w = refl
try_all-append k (x ∷ xs) ys w = try_all-append k xs ys (tried k x w)

waiting-append : (k : Limits) (xs ys : List Parked) (w : Work) → waiting k (xs ++ ys) w ≡ waiting k xs w ++ waiting k ys (try_all k xs w)
waiting-append k [] ys w = refl
waiting-append k (x ∷ xs) ys w = later x xs ys w (waiting-append k xs ys (tried k x w)) (stays k x w) refl
  where
    later : (x : Parked) (xs ys : List Parked) (w : Work) → waiting k (xs ++ ys) (tried k x w) ≡ waiting k xs (tried k x w) ++ waiting k ys (try_all k xs (tried k x w))
        → (b : Bool) → stays k x w ≡ b → waiting k (x ∷ xs ++ ys) w ≡ waiting k (x ∷ xs) w ++ waiting k ys (try_all k xs (tried k x w))
    later x xs ys w rest true e = rw e (ap (λ (qs : List Parked). x ∷ qs) rest)
    later x xs ys w rest false e = rw e rest

-- first some of the asks were tried and then the others, while others stood in their place
pub retried-split : (k : Limits) (w mid last : Work) (xs ys others stay since : List Parked) → w.ledger.parked ≡ xs ++ ys
    → mid ≡ try_all k xs (parks others w) → stay ≡ waiting k xs (parks others w) → last ≡ try_all k ys mid → since ≡ waiting k ys mid
    → parks (stay ++ since) last ≡ retried k w
retried-split k w mid last xs ys others stay since parked first stays second waits =
    let m : mid ≡ parks others (try_all k xs w) = first ∙ try_all-parks k xs w others in
    let l : last ≡ parks others (try_all k (xs ++ ys) w) =
    second ∙ ap (try_all k ys) m ∙ try_all-parks k ys (try_all k xs w) others ∙ ap (parks others) (sym (try_all-append k xs ys w)) in
    let s : stay ≡ waiting k xs w = stays ∙ waiting-parks k xs w others in
    let n : since ≡ waiting k ys (try_all k xs w) = waits ∙ ap (waiting k ys) m ∙ waiting-parks k ys (try_all k xs w) others in
    let all : stay ++ since ≡ waiting k (xs ++ ys) w = ap (λ (qs : List Parked). qs ++ since) s ∙ ap (λ (qs : List Parked). waiting k xs w ++ qs) n ∙ sym (waiting-append k xs ys w) in
    ap (λ (qs : List Parked). parks qs last) all ∙ ap (parks (waiting k (xs ++ ys) w)) l
    ∙ ap (λ (qs : List Parked). parks (waiting k qs w) (try_all k qs w)) (sym parked) ∙ sym (retried-is k w)
