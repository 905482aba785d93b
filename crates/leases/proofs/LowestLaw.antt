-- `lowest` is the lowest free instance.
use Rattle.std.proofs.Common.{◌≡◌, ◌≢◌, ℕ, zero, suc, ◌+◌, ◌<◌, ◌≤◌, Bool, true, false, refl, sym, ◌∙◌, subst, inl, inr, arith}
use Rattle.std.proofs.lemmas.Bool.{cases_Bool, cases_eq}
use Rattle.protocol.specs.Names.{Slot, FolderName}
use Rattle.protocol.specs.Ledger.{lowest}
use Rattle.leases.specs.Lowest.{LowestIsLowest}
use Rattle.leases.proofs.TableLemmas.{lowest-end, lowest-free, lowest-taken}

-- the same for the k instances from i on
record IsLowestFrom (free : Slot → Bool) (f : FolderName) (i k : ℕ) : Type 0 where
  found : lowest free f i k ≢ 0 → (i ≤ lowest free f i k) × (lowest free f i k < i + k) × (free (record { folder = f; instance = lowest free f i k }) ≡ true)
  below : (j : ℕ) → i ≤ j → j < i + k → (lowest free f i k ≢ 0 → j < lowest free f i k) → free (record { folder = f; instance = j }) ≡ false

at : (free : Slot → Bool) (f : FolderName) (i j : ℕ) (b : Bool) → i ≡ j → free (record { folder = f; instance = i }) ≡ b → free (record { folder = f; instance = j }) ≡ b
at free f i j b e h = subst (λ (n : ℕ). free (record { folder = f; instance = n }) ≡ b) e h

lowest_from : (free : Slot → Bool) (f : FolderName) (k i : ℕ) → 1 ≤ i → IsLowestFrom free f i k
lowest_from free f zero i h = record { found = λ ne. absurd (ne (lowest-end free f i 0 refl)); below = λ j low high before. absurd (omega arith) }
lowest_from free f (suc k) i h = elim (cases_Bool (free (record { folder = f; instance = i }))) [
  | inl e ↦ (
      let is : lowest free f i (suc k) ≡ i = lowest-free free f i (suc k) (omega arith) e in
      record {
        found = λ ne. (omega arith, omega arith, at free f i (lowest free f i (suc k)) true (sym is) e);
        below = λ j low high before. (let lt : j < lowest free f i (suc k) = before (λ z. omega arith) in absurd (omega arith));
      })
  | inr e ↦ (
      let is : lowest free f i (suc k) ≡ lowest free f (i + 1) k = lowest-taken free f i (suc k) k refl e in
      let r = lowest_from free f k (i + 1) (omega arith) in
      record {
        found = λ ne. (
            let s = r.found (λ z. ne (is ∙ z)) in
            let low : i + 1 ≤ lowest free f (i + 1) k = s.0 in
            let high : lowest free f (i + 1) k < i + 1 + k = s.1 in
            (omega arith, omega arith, at free f (lowest free f (i + 1) k) (lowest free f i (suc k)) true (sym is) s.2));
        below = λ j low high before. elim (cases_eq i j) [
          | inl same ↦ at free f i j false same e
          | inr other ↦ r.below j (omega arith) (omega arith) (λ ne. (let lt : j < lowest free f i (suc k) = before (λ z. ne (sym is ∙ z)) in omega arith))
        ];
      })
]

pub lowest_is_lowest : (free : Slot → Bool) (f : FolderName) → LowestIsLowest free f
lowest_is_lowest free f =
    let r = lowest_from free f 4096 1 (omega arith) in
    record {
      found = λ ne. (let s = r.found ne in let low : 1 ≤ lowest free f 1 4096 = s.0 in let high : lowest free f 1 4096 < 4097 = s.1 in
          record { range = (low, omega arith); is_free = s.2; below = λ j from lt. r.below j from (omega arith) (λ ne. lt) });
      none = λ z j from to. r.below j from (omega arith) (λ ne. absurd (ne z));
    }
