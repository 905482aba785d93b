-- Asks that may wait.
use Rattle.std.proofs.Common.{◌≡◌, ℕ, ◌+◌, Bool, true, false, ◌||◌, List, [], ◌∷◌, refl, ◌∙◌, ap, inl, inr}
use Rattle.std.specs.Prelude.{All}
use Rattle.std.proofs.lemmas.Bool.{cases_Bool}
use Rattle.std.proofs.lemmas.List.Elements.{All-head, All-tail, All-cons}
use Rattle.protocol.specs.Names.{NodeId, Life, Ask}
use Rattle.protocol.specs.Machine.{Parked}
use Rattle.protocol.specs.Ledger.{is_parked}
use Rattle.parked.specs.Newest.{knows, AreKnown}
use Rattle.parked.specs.declared.newest_asks.NewestAsks.{NewestAsks}
use Rattle.parked.proofs.NewestLemmas.{unknown-other}
use Rattle.parked.specs.Over.{is_over_at, later_over, still_at}

-- an ask that is newer than each of its node doesn't wait
pub unknown-not-parked : (x : NewestAsks) (ps : List Parked) (n : NodeId) (l : Life) (a : Ask) → AreKnown x ps → knows x n l a ≡ false → is_parked ps n l a ≡ false
unknown-not-parked x [] n l a known new = refl
unknown-not-parked x (p ∷ ps) n l a known new =
    let here : knows x p.node p.life p.ask ≡ true = All-head (λ q. knows x q.node q.life q.ask ≡ true) p ps known in
    ap (λ (b : Bool). b || is_parked ps n l a) (unknown-other x p.node n p.life l p.ask a here new) ∙ unknown-not-parked x ps n l a (All-tail (λ q. knows x q.node q.life q.ask ≡ true) p ps known) new

-- what holds of all holds of those that stay
pub all-still : {A : Type 0} (P : A → Type 0) (i : ℕ) (os : List ℕ) (xs : List A) → All P xs → All P (still_at i os xs)
all-still P i os [] h = h
all-still P i os (x ∷ xs) h = elim (cases_Bool (is_over_at i os)) [
  | inl e ↦ rw e (all-still P (i + 1) (later_over i os) xs (All-tail P x xs h))
  | inr e ↦ rw e (All-cons P x (still_at (i + 1) (later_over i os) xs) (All-head P x xs h) (all-still P (i + 1) (later_over i os) xs (All-tail P x xs h)))
]
