use Rattle.std.proofs.Common.{◌≡◌, ◌<◌, ◌+◌, ◌∷◌, ℕ, Bool, true, false, not, ◌&&◌, ◌||◌, eqb, List, drop, get_or, length, refl, ap, sym, ◌∙◌, arith}
use Rattle.protocol.specs.Machine.{Parked}
use Rattle.protocol.specs.Ledger.{is_parked}
use Rattle.holdings.proofs.PlaceLemmas.{drop-item}
use Rattle.parked.specs.Over.{still_at, later_over}
use Rattle.parked.proofs.WaitingWords.{any_ask, any-still}
use Rattle.parked.proofs.PassedWords.{other_default}
use Rattle.parked.proofs.parked_change.still_waits.Goals as goal
use Rattle.parked.proofs.parked_change.still_waits.Goals.{else-not-is_over-via-then-not-is_over+else-is_ask, else-not-is_over-via-else-not-is_over}

pub loop-place-preserved : goal.loop-place-preserved
loop-place-preserved c =
    let items : List Parked = c.args.parked.now in
    let i = c.loop-place.place in
    let inside : i < length items = c.loop-place-test.true in
    let p : Parked = get_or items i any_ask in
    let b : Bool = c.split_over-is_over.result.0 in
    let is : (Parked → Bool) = λ q. (eqb q.node.0 c.args.node.0) && (eqb q.life.0 c.args.life.0) && (eqb q.ask.0 c.args.ask.0) in
    let rest : (List ℕ → List Parked) = λ os. still_at (i + 1) os (drop (i + 1) items) in
    let parked : (List Parked → Bool) = λ ps. is_parked ps c.args.node c.args.life c.args.ask in
    let first : drop i items ≡ p ∷ drop (i + 1) items = drop-item items i any_ask inside in
    let not_here : (not b && is p) ≡ false = elim c.else-not-is_over.branch [
      | else-not-is_over-via-then-not-is_over+else-is_ask w ↦
          (let same : w.index-parked-place.result ≡ p = w.index-parked-place.is ∙ other_default items i w.index-parked-place.result any_ask inside in
          let no : is p ≡ false = ap is (sym same) ∙ sym w.is_ask.ensures ∙ w.if-is_ask.false in
          ap (λ (x : Bool). not b && x) no ∙ none (not b))
      | else-not-is_over-via-else-not-is_over w ↦ ap (λ (x : Bool). not x && is p) w.if-not-is_over.false
    ] in
    record {
      inside = omega arith;
      same = ap (λ (os : List ℕ). parked (rest os)) c.split_over-is_over.ensures.rest
          ∙ sym (any-still is i c.loop-place.rest.now p (drop (i + 1) items) b c.split_over-is_over.ensures.first
          ∙ ap (λ (x : Bool). x || parked (rest (later_over i c.loop-place.rest.now))) not_here)
          ∙ ap (λ (ps : List Parked). parked (still_at i c.loop-place.rest.now ps)) (sym first) ∙ c.loop-place.invariant.same;
    }
  where
    none : (x : Bool) → (x && false) ≡ false
    none true = refl
    none false = refl
