-- Asks that may have been noted.
use Rattle.std.proofs.Common.{◌≡◌, ℕ, Bool, true, false, not, ◌&&◌, ◌||◌, cond, Option, Some, None, refl, sym, ◌∙◌, ap, inl, inr, arith}
use Rattle.std.specs.Prelude.{◌==◌, nat_lt}
use Rattle.std.proofs.lemmas.Bool.{cases_Bool, and_parts, eqb-true}
use Rattle.std.proofs.lemmas.Bool.Decides.{nat_tests}
use Rattle.protocol.specs.Names.{NodeId, Life, Ask}
use Rattle.indexmap.specs.IndexMap.{IndexMap, get}
use Rattle.holdings.specs.Lives.{node_eq}
use Rattle.parked.specs.Newest.{newest_of, is_known, is_newer, knows}
use Rattle.parked.specs.declared.newest_asks.NewestAsk.{NewestAsk}
use Rattle.parked.specs.declared.newest_asks.NewestAsks.{NewestAsks}

-- an ask that is newer than each of its node is another one than one that was noted
pub unknown-other : (x : NewestAsks) (m n : NodeId) (k l : Life) (b a : Ask) → knows x m k b ≡ true → knows x n l a ≡ false → ((m.0 == n.0) && (k.0 == l.0) && (b.0 == a.0)) ≡ false
unknown-other x m n k l b a known new = elim (cases_Bool ((m.0 == n.0) && (k.0 == l.0) && (b.0 == a.0))) [
  | inl e ↦ (
      let both = and_parts ((m.0 == n.0) && (k.0 == l.0)) (b.0 == a.0) e in
      let first = and_parts (m.0 == n.0) (k.0 == l.0) both.0 in
      let node : m.0 ≡ n.0 = eqb-true m.0 n.0 first.0 in
      let life : k.0 ≡ l.0 = eqb-true k.0 l.0 first.1 in
      let ask : b.0 ≡ a.0 = eqb-true b.0 a.0 both.1 in
      let there : knows x n l a ≡ true = (λ j. knows x (record { 0 = sym node j }) (record { 0 = sym life j }) (record { 0 = sym ask j })) ∙ known in
      let bad : true ≡ false = sym there ∙ new in
      absurd (cc bad)
      )
  | inr e ↦ e
]

newer_not : (l a : ℕ) → not (nat_lt l l || ((l == l) && nat_lt a a)) ≡ true
newer_not l a = grind (arith, nat_tests)

-- the newest ask isn't newer than itself
pub known-itself : (l : Life) (a : Ask) → is_known (Some (record { life = l; ask = a })) l a ≡ true
known-itself l a = newer_not l.0 a.0

newer_between : (xl xa pl pa ql qa : ℕ) → not (nat_lt xl pl || ((xl == pl) && nat_lt xa pa)) ≡ false → not (nat_lt xl ql || ((xl == ql) && nat_lt xa qa)) ≡ true → not (nat_lt pl ql || ((pl == ql) && nat_lt pa qa)) ≡ true
newer_between xl xa pl pa ql qa h i = grind (arith, nat_tests)

-- what was known is known beside a newer ask
pub known-later : (o : Option NewestAsk) (l : Life) (a : Ask) (ql : Life) (qa : Ask) → is_known o l a ≡ false → is_known o ql qa ≡ true → is_known (Some (record { life = l; ask = a })) ql qa ≡ true
known-later None l a ql qa h i = (let bad : false ≡ true = i in absurd (cc bad))
known-later (Some x) l a ql qa h i = newer_between x.life.0 x.ask.0 l.0 a.0 ql.0 qa.0 h i

-- after the newest ask of a node is set what was known still is
pub known-set : {S : Type 0} (m n : IndexMap NodeId NewestAsk S) (node : NodeId) (l : Life) (a : Ask) → ((q : NodeId) → get node_eq n q ≡ cond (node_eq node q) (Some (record { life = l; ask = a })) (get node_eq m q))
    → is_known (newest_of m node) l a ≡ false → (q : NodeId) (ql : Life) (qa : Ask) → is_known (newest_of m q) ql qa ≡ true → is_known (newest_of n q) ql qa ≡ true
known-set m n node l a set unknown q ql qa known = by (node_eq node q) refl
  where
    by : (b : Bool) → node_eq node q ≡ b → is_known (newest_of n q) ql qa ≡ true
    by false e = ap (λ (o : Option NewestAsk). is_known o ql qa) (set q ∙ ap (λ (b : Bool). cond b (Some (record { life = l; ask = a })) (get node_eq m q)) e) ∙ known
    by true e =
        let same : node.0 ≡ q.0 = eqb-true node.0 q.0 e in
        let here : is_known (newest_of m node) ql qa ≡ true = (λ j. is_known (newest_of m (record { 0 = same j })) ql qa) ∙ known in
        ap (λ (o : Option NewestAsk). is_known o ql qa) (set q ∙ ap (λ (b : Bool). cond b (Some (record { life = l; ask = a })) (get node_eq m q)) e)
        ∙ known-later (newest_of m node) l a ql qa unknown here

-- and of what wasn't known only what isn't newer than this ask is
pub known-only : {S : Type 0} (m n : IndexMap NodeId NewestAsk S) (node : NodeId) (l : Life) (a : Ask) → ((q : NodeId) → get node_eq n q ≡ cond (node_eq node q) (Some (record { life = l; ask = a })) (get node_eq m q))
    → (q : NodeId) (ql : Life) (qa : Ask) → is_known (newest_of m q) ql qa ≡ false → (node_eq node q && not (is_newer (record { life = l; ask = a }) ql qa)) ≡ false → is_known (newest_of n q) ql qa ≡ false
known-only m n node l a set q ql qa unknown newer = by (node_eq node q) refl
  where
    by : (b : Bool) → node_eq node q ≡ b → is_known (newest_of n q) ql qa ≡ false
    by false e = ap (λ (o : Option NewestAsk). is_known o ql qa) (set q ∙ ap (λ (b : Bool). cond b (Some (record { life = l; ask = a })) (get node_eq m q)) e) ∙ unknown
    by true e =
        ap (λ (o : Option NewestAsk). is_known o ql qa) (set q ∙ ap (λ (b : Bool). cond b (Some (record { life = l; ask = a })) (get node_eq m q)) e)
        ∙ ap (λ (b : Bool). b && not (is_newer (record { life = l; ask = a }) ql qa)) (sym e) ∙ newer
