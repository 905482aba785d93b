use Rattle.std.proofs.Common.{◌≡◌, ℕ, List, subst, sym, ◌∙◌, Some}
use Rattle.std.specs.List.{slice_get}
use Rattle.names.specs.declared.digest.Digest.{Digest}
use Rattle.ordering.specs.Firsts.{IsTable, IsFirstAt}
use Rattle.ordering.specs.Entries.{Entry, digests_of, IsVertex, IsRowOf, LacksInput, AreResolved, HasUnknown}
use Rattle.ordering.proofs.EntryLemmas.{if_ok_some, if_ok_none, resolved_row, resolved_known, named_of, digest_at, lacks, no_vertex, no_row}
use Rattle.ordering.proofs.order_entries.row_of.Goals as goal
use Rattle.ordering.proofs.order_entries.row_of.Goals.{in_default-via-in-Some+else-first-place, in_default-via-in_default}

pub returns-in-Some-clause-found : goal.returns-in-Some-clause-found
returns-in-Some-clause-found c = if_ok_some c.inputs_of.result
    (λ row. (digests : List Digest) → IsTable digests c.args.table.now → AreResolved digests c.as_slice.result.now row.items)
    (λ row. (entries : List Entry) → IsTable (digests_of entries) c.args.table.now → slice_get entries c.args.place ≡ Some c.args.entry.now
    → IsRowOf entries c.args.place row.items)
    (λ row h entries is at. resolved_row entries c.args.place c.args.entry.now row.items at
    (subst (λ (p : ℕ). IsFirstAt (digests_of entries) p c.args.entry.now.0) c.if-first-place.true (c.in-Some.ensures.found (digests_of entries) is))
    (subst (λ (xs : List Digest). AreResolved (digests_of entries) xs row.items) c.as_slice.ensures.value (h (digests_of entries) is)))
    c.inputs_of.ensures.found

pub returns-in-Some-clause-known : goal.returns-in-Some-clause-known
returns-in-Some-clause-known c = if_ok_some c.inputs_of.result
    (λ row. (digests : List Digest) → IsTable digests c.args.table.now → AreResolved digests c.as_slice.result.now row.items)
    (λ row. (entries : List Entry) → IsTable (digests_of entries) c.args.table.now → slice_get entries c.args.place ≡ Some c.args.entry.now
    → LacksInput entries c.args.place → ⊥)
    (λ row h entries is at l. resolved_known entries c.args.place l row.items
    (subst (λ (xs : List Digest). AreResolved (digests_of entries) xs row.items) (c.as_slice.ensures.value ∙ sym (named_of entries c.args.place c.args.entry.now at))
    (h (digests_of entries) is)))
    c.inputs_of.ensures.found

pub returns-in-Some-clause-missing : goal.returns-in-Some-clause-missing
returns-in-Some-clause-missing c = if_ok_none c.inputs_of.result
    ((digests : List Digest) → IsTable digests c.args.table.now → HasUnknown digests c.as_slice.result.now)
    ((entries : List Entry) → IsTable (digests_of entries) c.args.table.now → slice_get entries c.args.place ≡ Some c.args.entry.now
    → LacksInput entries c.args.place)
    (λ h entries is at. lacks entries c.args.place c.args.entry.now at
    (subst (λ (p : ℕ). IsFirstAt (digests_of entries) p c.args.entry.now.0) c.if-first-place.true (c.in-Some.ensures.found (digests_of entries) is))
    (subst (HasUnknown (digests_of entries)) c.as_slice.ensures.value (h (digests_of entries) is)))
    c.inputs_of.ensures.missing

pub returns-in_default-clause-found : goal.returns-in_default-clause-found
returns-in_default-clause-found c = λ entries is at.
    let none : IsVertex entries c.args.place → ⊥ = elim c.in_default.branch [
      | in_default-via-in-Some+else-first-place w ↦ no_vertex entries c.args.place w.in-Some.first c.args.entry.now at
          (w.in-Some.ensures.found (digests_of entries) is) w.if-first-place.false
      | in_default-via-in_default w ↦ λ v. w.in_default.ensures.missing (digests_of entries) is c.args.place (digest_at entries c.args.place c.args.entry.now at)
    ] in
    subst (IsRowOf entries c.args.place) (sym c.new.ensures.items) (no_row entries c.args.place none)

pub returns-in_default-clause-known : goal.returns-in_default-clause-known
returns-in_default-clause-known c = λ entries is at l.
    elim c.in_default.branch [
      | in_default-via-in-Some+else-first-place w ↦ no_vertex entries c.args.place w.in-Some.first c.args.entry.now at
          (w.in-Some.ensures.found (digests_of entries) is) w.if-first-place.false l.vertex
      | in_default-via-in_default w ↦ w.in_default.ensures.missing (digests_of entries) is c.args.place (digest_at entries c.args.place c.args.entry.now at)
    ]
