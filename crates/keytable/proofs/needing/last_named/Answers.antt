use Rattle.std.proofs.Common.{◌≡◌, ◌∙◌, ℕ, [], Some, get_or, slice_get, sym, ap, subst, arith}
use Rattle.std.specs.List.{Contains}
use Rattle.std.proofs.lemmas.Option.{slice_get_within, slice_get-get_or}
use Rattle.names.specs.declared.digest.Key.{Key}
use Rattle.lists.proofs.Places.{Contains-at, at_Contains}
use Rattle.keytable.proofs.TableLemmas.{key_same, key_eq_is}
use Rattle.keytable.proofs.NeedLemmas.{later_is, later_covers, named_more}
use Rattle.keytable.proofs.needing.last_named.Goals as goal
use Rattle.keytable.proofs.needing.last_named.Goals.{then-eq, else-eq}

pub loop-other-preserved : goal.loop-other-preserved
loop-other-preserved c =
    let xs = c.args.named.now in
    let key = c.args.key.now in
    let n = c.loop-other.other-index in
    let none : Key = record { 0 = record { 0 = [] } } in
    let x : Key × ℕ = get_or xs n (none, 0) in
    let at : slice_get xs n ≡ Some x = slice_get-get_or xs n (none, 0) c.loop-other-test.true in
    let last = c.loop-other.last in
    let inv = c.loop-other.invariant in
    elim c.if-eq.branch [
      | then-eq w ↦ (let e = w.later.ensures in
          let by_key : Key → Key × ℕ = λ k. (k, x.1) in
          let here = subst (Contains xs) (ap by_key (key_same x.0 key (sym c.eq.ensures ∙ w.if-eq.true))) (Contains-at xs n x at) in
          rw w.last-is (record {
            named = later_is (λ (i : ℕ). Contains xs (key, i)) last x.1 w.later.result e.is_one inv.named here;
            greatest = named_more xs key n x last (Some w.later.result) at inv.greatest (λ index covered. later_covers last w.later.result index e.last covered) (λ same. e.own);
          }))
      | else-eq w ↦ rw w.last-is (record {
        named = inv.named;
        greatest = named_more xs key n x last last at inv.greatest (λ index covered. covered)
            (λ same. absurd (let met = key_eq_is x.0 key same in let told = c.eq.ensures in let unmet = w.if-eq.false in cc (met, told, unmet)));
      })
    ]

pub returns-clause-greatest : goal.returns-clause-greatest
returns-clause-greatest c = λ index has.
    let place = at_Contains c.args.named.now (c.args.key.now, index) has in
    let within = slice_get_within c.args.named.now place.0 (c.args.key.now, index) place.1 in
    c.loop-other.invariant.greatest place.0 index (omega (arith, within)) place.1
