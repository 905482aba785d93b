use Rattle.std.proofs.Common.{◌≡◌, ◌<◌, ◌≤◌, ◌+◌, ℕ, List, length, false, nat_lt, Some, None, slice_get, sym, ap, subst, ◌∙◌, refl, rules, arith}
use Rattle.std.proofs.lemmas.Bool.Decides.{nat_tests}
use Rattle.std.proofs.lemmas.List.Sorted.{IsPartitionPoint-from_clause}
use Rattle.std.proofs.lemmas.Option.{slice_get_read, slice_get_past}
use Rattle.protocol.proofs.Base.{some_is}
use Rattle.nodeasks.specs.declared.ask_row.AskRow.{AskRow}
use Rattle.nodeasks.specs.Rows.{row, HaveRows, has_row}
use Rattle.nodeasks.proofs.TableLemmas.{partitioned, not_found}
use Rattle.nodeasks.proofs.ask_table.AskTable.row_at.Goals as goal

pub returns-in_default-clause-none : goal.returns-in_default-clause-none
returns-in_default-clause-none c =
    let rows = c.args.self.now.rows.items in
    let all = c.args.self.now.all.asks in
    let place = c.args.place in
    let i = c.partition_point-row.result in
    let sorted : HaveRows all 0 c.deref.result.now = subst (HaveRows all 0) (sym c.deref.ensures.value) c.args.self.now.tied in
    let point = IsPartitionPoint-from_clause (λ (r : AskRow). nat_lt r.place place) c.deref.result.now i c.partition_point-row.ensures.partitioned (partitioned all c.deref.result.now place sorted) (λ a r f' k. search rules) in
    let same : c.deref.result.now ≡ rows = c.deref.ensures.value in
    let look = c.in_default.ensures.lookup.0 in
    let past : length c.deref-2.result.now ≤ i = grind (arith, nat_tests) in
    let none : slice_get c.deref.result.now i ≡ None = ap (λ (l : List AskRow). slice_get l i) (same ∙ sym c.deref-2.ensures.value) ∙ slice_get_past c.deref-2.result.now i past in
    subst (λ (l : List AskRow). has_row l (place + 1) ≡ false) same
    (not_found all c.deref.result.now place i sorted point (λ x get. (let bad : None ≡ Some x = sym none ∙ get in absurd (cc bad))))

pub returns-then-found-place-clause-found : goal.returns-then-found-place-clause-found
returns-then-found-place-clause-found c =
    let rows = c.args.self.now.rows.items in
    let i = c.partition_point-row.result in
    let x = c.in-Some.found.now in
    let look = c.in-Some.ensures.lookup in
    let inside = look.0 in
    let within : i < length c.deref-2.result.now = grind (arith, nat_tests) in
    let get : slice_get rows i ≡ Some x = ap (λ (l : List AskRow). slice_get l i) (sym c.deref-2.ensures.value) ∙ slice_get_read c.deref-2.result.now (length c.deref-2.result.now) i x refl within look.1 in
    record { kept = x.kept; get = get ∙ ap (λ (p : ℕ). Some (row p x.kept)) c.if-found-place.true }

pub returns-else-found-place-clause-none : goal.returns-else-found-place-clause-none
returns-else-found-place-clause-none c =
    let rows = c.args.self.now.rows.items in
    let all = c.args.self.now.all.asks in
    let place = c.args.place in
    let i = c.partition_point-row.result in
    let x = c.in-Some.found.now in
    let sorted : HaveRows all 0 c.deref.result.now = subst (HaveRows all 0) (sym c.deref.ensures.value) c.args.self.now.tied in
    let point = IsPartitionPoint-from_clause (λ (r : AskRow). nat_lt r.place place) c.deref.result.now i c.partition_point-row.ensures.partitioned (partitioned all c.deref.result.now place sorted) (λ a r f' k. search rules) in
    let same : c.deref.result.now ≡ rows = c.deref.ensures.value in
    let look = c.in-Some.ensures.lookup in
    let inside = look.0 in
    let within : i < length c.deref-2.result.now = grind (arith, nat_tests) in
    let get : slice_get c.deref.result.now i ≡ Some x =
    ap (λ (l : List AskRow). slice_get l i) (same ∙ sym c.deref-2.ensures.value) ∙ slice_get_read c.deref-2.result.now (length c.deref-2.result.now) i x refl within look.1 in
    subst (λ (l : List AskRow). has_row l (place + 1) ≡ false) same
    (not_found all c.deref.result.now place i sorted point (λ y at is. c.if-found-place.false (ap (λ (r : AskRow). r.place) (some_is x y (sym get ∙ at)) ∙ is)))
