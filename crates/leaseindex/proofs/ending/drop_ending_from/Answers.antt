use Rattle.std.proofs.Common.{◌≡◌, ◌≤◌, ◌+◌, ℕ, List, Bool, not, filter, length, take, get_or, vec_len, refl, sym, ◌∙◌, ap, subst, arith}
use Rattle.std.proofs.lemmas.List.{take_all}
use Rattle.std.specs.Vec.{vec_capacity}
use Rattle.farm_base.specs.declared.lease.Lease.{Lease}
use Rattle.holdings.specs.Endings.{ends_lease}
use Rattle.leaseindex.proofs.LastLemmas.{all_stay}
use Rattle.leaseindex.proofs.MovedLemmas.{moved_later, stays_next, goes_next}
use Rattle.leaseindex.proofs.ending.drop_ending_from.Goals as goal
use Rattle.leaseindex.proofs.ending.drop_ending_from.Goals.{then-not-ends, else-not-ends}

pub loop-place-init : goal.loop-place-init
loop-place-init c = record {
  kept = omega arith;
  end = c.len-place-end.ensures;
  len = refl;
  capacity = refl;
  left = sym (all_stay (ends_lease c.args.ending) (take c.args.from c.args.leases.now.items) c.requires.before);
  same = λ k d from. refl;
}

pub loop-place-preserved : goal.loop-place-preserved
loop-place-preserved c =
    let was : List Lease = c.args.leases.now.items in
    let xs : List Lease = c.loop-place.leases.items in
    let place : ℕ = c.loop-place.place in
    let kept : ℕ = c.loop-place.kept in
    let gone : Lease → Bool = ends_lease c.args.ending in
    let g : Lease = c.index.result.now in
    let i = c.loop-place.invariant in
    let before = c.loop-place-test.true in
    let end = i.end in
    let same_len = i.len in
    let low = i.kept in
    let len : vec_len c.loop-place.leases ≡ length xs = c.loop-place.leases.ok.0 in
    let were : vec_len c.args.leases.now ≡ length was = c.args.leases.now.ok.0 in
    let here : get_or xs place g ≡ get_or was place g = i.same place g (omega arith) in
    let is : g ≡ get_or was place g = c.index.ensures ∙ here in
    elim c.if-not-ends.branch [
      | then-not-ends w ↦ record {
        kept = subst (λ (n : ℕ). n ≤ place + 1) (sym w.kept-is) (omega arith);
        end = i.end ∙ sym (ap vec_len w.leases-is ∙ w.swap.ensures.len);
        len = ap vec_len w.leases-is ∙ w.swap.ensures.len ∙ i.len;
        capacity = ap vec_capacity w.leases-is ∙ w.swap.ensures.capacity ∙ i.capacity;
        left = (λ j. take (w.kept-is j) (w.leases-is j).items)
            ∙ ap (take (kept + 1)) w.swap.ensures.items
            ∙ stays_next gone was xs kept place g (omega arith) (omega arith) (omega arith) is here (sym c.ends.ensures ∙ w.if-not-ends.true) i.left;
        same = λ k d behind.
            ap (λ v. get_or v.items k d) w.leases-is ∙ ap (λ (gs : List Lease). get_or gs k d) w.swap.ensures.items ∙ moved_later xs kept place k g d (omega arith) (omega arith) (omega arith) ∙ i.same k d (omega arith);
      }
      | else-not-ends w ↦ record {
        kept = subst (λ (n : ℕ). n ≤ place + 1) (sym w.kept-is) (omega arith);
        end = i.end ∙ sym (ap vec_len w.leases-is);
        len = ap vec_len w.leases-is ∙ i.len;
        capacity = ap vec_capacity w.leases-is ∙ i.capacity;
        left = (λ j. take (w.kept-is j) (w.leases-is j).items) ∙ goes_next gone was place g (take kept xs) (omega arith) is (sym c.ends.ensures ∙ w.if-not-ends.false) i.left;
        same = λ k d behind. ap (λ v. get_or v.items k d) w.leases-is ∙ i.same k d (omega arith);
      }
    ]

pub returns-clause-items : goal.returns-clause-items
returns-clause-items c =
    let was : List Lease = c.args.leases.now.items in
    let were : vec_len c.args.leases.now ≡ length was = c.args.leases.now.ok.0 in
    let all = c.loop-place-test.false in
    let len = c.len-place-end.ensures in
    c.truncate.ensures.items ∙ c.loop-place.invariant.left ∙ ap (filter (λ g. not (ends_lease c.args.ending g))) (take_all c.loop-place.place was (omega arith))
