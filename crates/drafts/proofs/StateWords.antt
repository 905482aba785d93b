-- Decisions, lives, and the slots of news.
use Rattle.std.proofs.Common.{◌≡◌, ◌≢◌, ℕ, zero, suc, ◌≤◌, List, [], ◌∷◌, Bool, true, false, not, eqb, length, drop, refl, sym, ◌∙◌, arith}
use Rattle.std.proofs.lemmas.Bool.{ne_eqb}
use Rattle.std.specs.Prelude.{nat_lt}
use Rattle.std.proofs.lemmas.Bool.Decides.{nat_tests}
use Rattle.farm_base.specs.declared.message.Why.TheVariants.{InstancesSpent, TicketsSpent}
use Rattle.leases.specs.declared.lease_table.Fit.TheVariants as fit
use Rattle.leases.specs.Table.{first_fit}
use Rattle.protocol.specs.Names.{slots_eq, leased_wants}
use Rattle.protocol.specs.Machine.{News, slots_of, Parked}
use Rattle.protocol.specs.Ledger.{Limits, Ledger, pick, decision, elsewhere, all_taken, busy, is_free, is_leased}
use Rattle.events.specs.declared.answer.Decision.TheVariants.{Give, Deny, Wait}

pub decision-is : (k : Limits) (q : Ledger) (p : Parked) → decision k q p ≡ pick (elsewhere q p) (all_taken k.instances (is_free q) (leased_wants p.tenure p.wants)) (busy (is_leased q) (leased_wants p.tenure p.wants)) (not (nat_lt q.last k.greatest))
unfolding decision
decision-is k q p = refl

-- whether the leases leave room for the ask
abbrev pub room_for : Limits → Ledger → Parked → fit.the_data
room_for k q p = first_fit (all_taken k.instances (is_free q) (leased_wants p.tenure p.wants)) (busy (is_leased q) (leased_wants p.tenure p.wants))

picks_spent : (a b c d : Bool) → a ≡ false → first_fit b c ≡ fit.InstancesSpent → pick a b c d ≡ Deny InstancesSpent
picks_spent true b c d e h = (let bad : true ≡ false = e in absurd (cc bad))
picks_spent false true c d e h = refl
picks_spent false false true d e h = absurd (cc h)
picks_spent false false false d e h = absurd (cc h)

picks_wait : (a b c d : Bool) → a ≡ false → first_fit b c ≡ fit.Busy → pick a b c d ≡ Wait
picks_wait true b c d e h = refl
picks_wait false true c d e h = absurd (cc h)
picks_wait false false true d e h = refl
picks_wait false false false d e h = absurd (cc h)

picks_give : (a b c d : Bool) → a ≡ false → first_fit b c ≡ fit.Fits → d ≡ false → pick a b c d ≡ Give
picks_give true b c d e h f = (let bad : true ≡ false = e in absurd (cc bad))
picks_give false true c d e h f = absurd (cc h)
picks_give false false true d e h f = absurd (cc h)
picks_give false false false true e h f = (let bad : true ≡ false = f in absurd (cc bad))
picks_give false false false false e h f = refl

picks_last : (a b c d : Bool) → a ≡ false → first_fit b c ≡ fit.Fits → d ≡ true → pick a b c d ≡ Deny TicketsSpent
picks_last true b c d e h f = (let bad : true ≡ false = e in absurd (cc bad))
picks_last false true c d e h f = absurd (cc h)
picks_last false false true d e h f = absurd (cc h)
picks_last false false false true e h f = refl
picks_last false false false false e h f = (let bad : false ≡ true = f in absurd (cc bad))

picks_elsewhere : (a b c d : Bool) → a ≡ true → pick a b c d ≡ Wait
picks_elsewhere true b c d e = refl
picks_elsewhere false b c d e = (let bad : false ≡ true = e in absurd (cc bad))

pub decision-elsewhere : (k : Limits) (q : Ledger) (p : Parked) → elsewhere q p ≡ true → decision k q p ≡ Wait
decision-elsewhere k q p e = decision-is k q p ∙ picks_elsewhere _ _ _ _ e

pub decision-instances : (k : Limits) (q : Ledger) (p : Parked) → elsewhere q p ≡ false → room_for k q p ≡ fit.InstancesSpent → decision k q p ≡ Deny InstancesSpent
decision-instances k q p e h = decision-is k q p ∙ picks_spent _ _ _ _ e h

pub decision-busy : (k : Limits) (q : Ledger) (p : Parked) → elsewhere q p ≡ false → room_for k q p ≡ fit.Busy → decision k q p ≡ Wait
decision-busy k q p e h = decision-is k q p ∙ picks_wait _ _ _ _ e h

lower : (a b : ℕ) → a ≤ b → a ≢ b → not (nat_lt a b) ≡ false
lower a b h ne = grind (arith, nat_tests)

equal : (a b : ℕ) → a ≡ b → not (nat_lt a b) ≡ true
equal a b e = grind (arith, nat_tests)

pub decision-give : (k : Limits) (q : Ledger) (p : Parked) → elsewhere q p ≡ false → room_for k q p ≡ fit.Fits → q.last ≤ k.greatest → q.last ≢ k.greatest → decision k q p ≡ Give
decision-give k q p e h le ne = decision-is k q p ∙ picks_give _ _ _ _ e h (lower q.last k.greatest le ne)

pub decision-tickets : (k : Limits) (q : Ledger) (p : Parked) → elsewhere q p ≡ false → room_for k q p ≡ fit.Fits → q.last ≡ k.greatest → decision k q p ≡ Deny TicketsSpent
decision-tickets k q p e h same = decision-is k q p ∙ picks_last _ _ _ _ e h (equal q.last k.greatest same)

-- ---- the slots of news

-- at the end of the slots that may be written the news are at their end too
pub fit_end : (news : List News) (i : ℕ) → i ≤ length news → slots_eq (slots_of (drop i news)) [] ≡ eqb i (length news)
fit_end [] zero h = refl
fit_end [] (suc i) h = absurd (omega arith)
fit_end (x ∷ news) zero h = (let other : eqb 0 (suc (length news)) ≡ false = ne_eqb 0 (suc (length news)) (λ e. omega arith) in sym other)
fit_end (x ∷ news) (suc i) h = fit_end news i (omega arith) ∙ same_after i (length news)
  where
    same_after : (a b : ℕ) → eqb a b ≡ eqb (suc a) (suc b)
    same_after a b = grind (arith, nat_tests)
