use Rattle.std.proofs.Common.{◌≡◌, ◌≢◌, ◌<◌, ◌≤◌, ℕ, List, [], length, take, length-take, eqb, not, refl, sym, ap, ◌∙◌, arith}
use Rattle.std.specs.Cmp.Lexicographic.{pointwise}
use Rattle.std.proofs.lemmas.Bool.Decides.{Decides-eqb, Decides-at, Decides-ltb, Decides-not}
use Rattle.std.proofs.lemmas.Slice.Eq.{slice_eq-Decides}
use Rattle.filekeeper.specs.Framing.{name_of}
use Rattle.filekeeper.proofs.record_files.RecordFiles.clashes.Goals as goal
use Rattle.filekeeper.proofs.record_files.RecordFiles.clashes.Goals.{then-self-gt0, else-self-gt0}

-- where entries last there are some
some_last : (n : ℕ) (entries : List (List ℕ)) → 0 < n → n ≤ length entries → take n entries ≢ []
some_last n entries some within none = let len = length-take n entries in let zero = ap length none in omega (arith, some, within, len, zero)

-- a number above 0 isn't at most 0
not_both : (n : ℕ) → 0 < n → n ≤ 0 → ⊥
not_both n some none = omega (arith, some, none)

pub returns-then-are_same : goal.returns-then-are_same
returns-then-are_same g c =
    let x = c.args.self.now in
    let bytes = c.args.bytes.now in
    let whole = c.whole-whole.result.now in
    let same = pointwise eqb bytes whole in
    let differs = Decides-at c.ne.result (not same) c.ne.ensures (Decides-not same (slice_eq-Decides Decides-eqb bytes whole same refl)) in
    let clash : (name_of bytes ≡ name_of x.log.whole) × (take x.lasting x.log.entries ≢ []) = elim c.if-self-gt0.branch [
      | then-self-gt0 w ↦ (
        sym w.name_of.ensures ∙ w.are_same.ensures.0 (sym w.value-is ∙ c.if-are_same.true) ∙ w.name_of-then-self-gt0.ensures ∙ ap name_of c.whole-whole.ensures,
        some_last x.lasting x.log.entries (omega (arith, w.if-self-gt0.true)) x.within,
      )
      | else-self-gt0 w ↦ absurd (not_both x.lasting ((Decides-ltb 0 x.lasting).0 (sym w.value-is ∙ c.if-are_same.true)) w.if-self-gt0.false)
    ] in
    (λ is. ((λ e. differs.0 is (e ∙ sym c.whole-whole.ensures)), clash.0, clash.1), λ other. differs.1 (λ e. other.0 (e ∙ c.whole-whole.ensures)))
