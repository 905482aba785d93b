-- A list is a format where its entries are.
use Rattle.std.proofs.Common.{◌≡◌, ℕ, zero, suc, ◌^◌, ◌<◌, ◌≤◌, Bool, true, List, [], ◌∷◌, ◌++◌, length, Option, Some, None, Ok, refl, sym, ap, subst, arith}
use Rattle.std.specs.Int.{w64, to_be_bytes}
use Rattle.std.specs.List.{flat_map, AllByRecursion}
use Rattle.std.specs.Option.{option_map}
use Rattle.std.proofs.lemmas.List.Concat.{flat_map-cons}
use Rattle.std.proofs.lemmas.Result.{IfOk-weaker}
use Rattle.recordparts.specs.declared.layout.Layout.{Layout}
use Rattle.recordparts.specs.declared.layout.Layout.TheVariants.{Third}
use Rattle.recordlists.specs.Entries.{Reader, each_at, counted_at, list_at}
use Rattle.recordlists.specs.EntrySpelling.{counted}
use Rattle.recordlists.specs.EntryFits.{IsTypedList}
use Rattle.codec.proofs.Formats.{IsSpelled, IsFormat, if_then, ◌and_then◌, begins, then_takes, then_again, refit}
use Rattle.codec.proofs.Fronts.{Takes, wide64}
use Rattle.recordparts.proofs.Fields.{number_format, greatest}
use Rattle.lists.proofs.Rising.{Row}

-- an entry: a format after each entry, which its key has to be above
pub record IsEntry {X K : Type 0} (read : Reader X) (layout : Layout) (spell : X → List ℕ) (above : Option K → K → Bool) (key : X → K) (P T : X → Type 0) : Type 0 where
  pub format : (before : Option X) → IsFormat (read layout before) spell (λ x. (above (option_map key before) (key x) ≡ true) × P x) (λ x. (layout ≡ Third) × T x)

-- a list whose length fits, in order, of entries that fit
pub record FitsList {X K : Type 0} (above : Option K → K → Bool) (key : X → K) (P : X → Type 0) (low high : ℕ) (xs : List X) : Type 0 where
  pub low_fits : low ≤ length xs
  pub high_fits : length xs ≤ high
  pub row : Row above key None xs
  pub each : AllByRecursion P xs

module _ {X K : Type 0} {read : Reader X} {layout : Layout} {spell : X → List ℕ} {above : Option K → K → Bool} {key : X → K} {P T : X → Type 0} (entry : IsEntry read layout spell above key P T) where
  each_takes : (before : Option X) (n : ℕ) → IsSpelled (each_at read layout before n) (flat_map spell) (λ xs. (length xs ≡ n) × Row above key (option_map key before) xs × AllByRecursion P xs)
  unfolding each_at
  each_takes before zero bytes fits = (record { parts = refl; rest_fits = fits }, (refl, tt, tt))
  each_takes before (suc n) bytes fits =
      then_takes (entry.format before) bytes fits _ _ λ x after tx first.
      if_then (each_at read layout (Some x) n after) _ (each_takes (Some x) n after tx.rest_fits) _ _ λ xs t.
      (rw flat_map-cons (tx and_then t.0), (ap suc t.1.0, (first.0, t.1.1), (first.1, t.1.2)))

  each_again : (before : Option X) (xs : List X) (rest : List ℕ) → Row above key (option_map key before) xs → AllByRecursion P xs → layout ≡ Third → AllByRecursion T xs
      → each_at read layout before (length xs) (flat_map spell xs ++ rest) ≡ Ok (xs, rest)
  unfolding each_at
  each_again before [] rest row fits third typed = refl
  each_again before (x ∷ xs) rest row fits third typed =
      then_again (entry.format before) x (flat_map spell xs) (record { parts = ap (λ (text : List ℕ). text ++ rest) (flat_map-cons spell x xs) }) (row.0, fits.0) (third, typed.0) _ λ after is.
      rw (is.parts, each_again (Some x) xs rest row.1 fits.1 third typed.1) refl

  pub counted_format : (low high : ℕ) → high < 2 ^ 64 → IsFormat (counted_at read layout low high) (counted spell) (FitsList above key P low high) (λ xs. (layout ≡ Third) × AllByRecursion T xs)
  unfolding counted_at
  counted_format low high below = record {
    takes = λ bytes fits. then_takes (number_format w64 (2 ^ 64) wide64 low high below) bytes fits _ _ λ n after tn between.
        IfOk-weaker (each_at read layout None n after) _ _ (λ xs t.
        let len = t.1.0 in
        (subst (λ (k : ℕ). Takes bytes (to_be_bytes w64 k ++ flat_map spell xs.0) xs.1) (sym len) (tn and_then t.0), record { low_fits = omega arith; high_fits = omega arith; row = t.1.1; each = t.1.2 }))
        (each_takes None n after tn.rest_fits);
    again = λ xs rest fits typed.
        then_again (number_format w64 (2 ^ 64) wide64 low high below) (length xs) _ (begins (counted spell xs) rest) (fits.low_fits, fits.high_fits) tt _ λ after is.
        rw is.parts (each_again None xs rest fits.row fits.each typed.0 typed.1);
  }

  -- of any length
  pub list_format : IsFormat (list_at read layout) (counted spell) (λ xs. Row above key None xs × AllByRecursion P xs) (λ xs. (layout ≡ Third) × IsTypedList T xs)
  list_format = refit (counted_format 0 greatest (omega arith)) (λ xs fits. (fits.row, fits.each))
      (λ xs fits typed. let few = typed.1.0 in (record { low_fits = omega arith; high_fits = omega arith; row = fits.0; each = fits.1 }, (typed.0, typed.1.1)))
