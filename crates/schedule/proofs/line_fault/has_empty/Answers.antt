use Rattle.std.proofs.Common.{Bor, ◌≡◌, ◌≢◌, false, ℕ, ◌+◌, ◌<◌, List, [], length, get_or, ap, ◌==◌, sym, ◌∙◌, inl, inr, arith}
use Rattle.std.proofs.lemmas.Bool.{cases_lt}
use Rattle.std.proofs.lemmas.List.{get_or-map}
use Rattle.words.specs.Words.{texts}
use Rattle.schedule.proofs.line_fault.has_empty.Goals as goal

-- one more word that isn't empty
one_more : (ws : List (Bor (List ℕ))) (n : ℕ) (w : Bor (List ℕ)) → n < length ws → ((k : ℕ) (d : List ℕ) → k < n → get_or (texts ws) k d ≢ [])
    → (length (get_or ws n w).now == 0) ≡ false → (k : ℕ) (d : List ℕ) → k < n + 1 → get_or (texts ws) k d ≢ []
one_more ws n w lt before this k d below e =
    elim (cases_lt k n) [
      | inl early ↦ before k d early e
      | inr late ↦
          let same : k ≡ n = omega arith in
          let at = get_or-map (λ (x : Bor (List ℕ)). x.now) ws n w d lt in
          let empty : (get_or ws n w).now ≡ [] = sym at ∙ ap (λ i. get_or (texts ws) i d) (sym same) ∙ e in
          cc (ap (λ (t : List ℕ). length t == 0) empty, this)
    ]

pub loop-word-preserved : goal.loop-word-preserved
loop-word-preserved c = one_more c.args.words.now c.loop-word.word-index _ c.loop-word-test.true c.loop-word.invariant
    (sym c.is_empty.ensures ∙ c.if-is_empty.false)
