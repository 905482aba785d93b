use Rattle.std.proofs.Common.{◌≡◌, ◌<◌, ◌+◌, ◌++◌, ◌∷◌, [], ℕ, Bool, List, cond, drop, drop_of_length-le, filter, get_or, length, not, ◌||◌, ap, sym, ◌∙◌, arith, append-nil}
use Rattle.protocol.specs.Machine.{Parked}
use Rattle.holdings.proofs.PlaceLemmas.{drop-item}
use Rattle.parked.specs.Over.{still_at}
use Rattle.parked.specs.Waiting.{ends_ask}
use Rattle.parked.proofs.WaitingWords.{ended-next, noted-append, noted-below, begins-noted}
use Rattle.parked.proofs.parked_change.ended.Goals as goal

pub loop-place-preserved : goal.loop-place-preserved
loop-place-preserved c =
    let items : List Parked = c.args.parked.now in
    let i = c.loop-place.place in
    let p : Parked = get_or items i c.index-parked-place.result in
    let o : Bool = c.is_over_after.result in
    let done : List ℕ = c.loop-place.done.places.items in
    let inside : i < length items = c.loop-place-test.true in
    let first : drop i items ≡ p ∷ drop (i + 1) items = drop-item items i c.index-parked-place.result inside in
    let noted : c.note_if.new.self.places.items ≡ cond o (done ++ i ∷ []) done = c.in_ok-note_if.ensures in
    let keeps : (List Parked → List Parked) = λ ps. filter (λ q. not (ends_ask c.args.ending q)) ps in
    record {
      inside = omega arith;
      below = λ k less. noted-below o i done c.note_if.new.self.places.items k noted c.loop-place.invariant.below less;
      done = λ ms begins h.
          (let one = ended-next (ends_ask c.args.ending) i c.loop-place.rest.now ms p (drop (i + 1) items) c.split_over-is_over.result.0 o c.split_over-is_over.ensures.first
          (c.is_over_after.ensures ∙ ap (λ (q : Parked). c.split_over-is_over.result.0 || ends_ask c.args.ending q) c.index-parked-place.is) begins
          (h ∙ ap (λ (os : List ℕ). keeps (still_at (i + 1) os (drop (i + 1) items))) c.split_over-is_over.ensures.rest) in
          ap (λ (os : List ℕ). still_at 0 os items) (noted-append o i done c.note_if.new.self.places.items ms noted)
          ∙ c.loop-place.invariant.done (cond o (i ∷ ms) ms) (begins-noted o i ms begins)
          (ap (still_at i (cond o (i ∷ ms) ms)) first ∙ one ∙ ap (λ (ps : List Parked). keeps (still_at i c.loop-place.rest.now ps)) (sym first)));
    }

pub returns : goal.returns
returns c =
    let items : List Parked = c.args.parked.now in
    let none : drop c.loop-place.place items ≡ [] = drop_of_length-le items c.loop-place-test.false in
    let keeps : (List Parked → List Parked) = λ ps. filter (λ q. not (ends_ask c.args.ending q)) ps in
    ap (λ (os : List ℕ). still_at 0 os items) (sym (append-nil c.loop-place.done.places.items))
    ∙ c.loop-place.invariant.done [] tt (ap (still_at c.loop-place.place []) none ∙ sym (ap (λ (ps : List Parked). keeps (still_at c.loop-place.place c.loop-place.rest.now ps)) none))
