-- The parts of a record as a format: those that are read are those that were written, and what was written is read again.
use Rattle.std.proofs.Common.{◌≡◌, ℕ, eqb, List, [], ◌++◌, length, None, Ok, refl, sym, ap, subst, ◌∙◌}
use Rattle.std.specs.List.{AllByRecursion}
use Rattle.std.specs.List.Sorted.{IsStrictlySortedBy}
use Rattle.std.proofs.lemmas.Bool.{eqb-true}
use Rattle.std.proofs.lemmas.List.{append-nil, nil_from_length, map-id}
use Rattle.farm_base.specs.declared.lease.Lease.{Lease}
use Rattle.names.specs.declared.number.NodeId.{NodeId}
use Rattle.names.specs.Slots.{slot_cmp}
use Rattle.recordparts.specs.declared.layout.Layout.{Layout}
use Rattle.recordparts.specs.declared.layout.Layout.TheVariants.{First, Second, Third}
use Rattle.saverecord.specs.declared.record.Record.{Record}
use Rattle.recordparts.specs.declared.refusal.Flaw.TheVariants.{Trailing}
use Rattle.recordparts.specs.Parts.{passed}
use Rattle.recordparts.specs.Slots.{is_slot_above}
use Rattle.recordlists.specs.Entries.{is_above}
use Rattle.saverecord.specs.Records.{retired_nodes_at, body_at, whole_body}
use Rattle.recordparts.specs.Spelling.{slot_bytes}
use Rattle.recordlists.specs.EntrySpelling.{counted, node_bytes, node_life_bytes, line_bytes}
use Rattle.saverecord.specs.Spelling.{first_bytes, nodes_bytes, slots_bytes, body_bytes}
use Rattle.recordparts.specs.Fits.{IsNode}
use Rattle.recordlists.specs.EntryFits.{IsTypedNode, IsTypedList}
use Rattle.saverecord.specs.Fits.{HasParts, IsTypedRecord}
use Rattle.codec.proofs.Formats.{IsFormat, ◌and_then◌, begins, begins_assoc, took, then_takes, then_again, last_again}
use Rattle.codec.proofs.Steps.{bind_ok}
use Rattle.names.specs.Digests.{IsBytes}
use Rattle.recordparts.proofs.Fields.{passed_ok, any64, home_format}
use Rattle.lists.proofs.Rising.{Row, sorted-from_row, row-from_sorted}
use Rattle.recordlists.proofs.Rows.{slot_tests, numbers-from_row, row-from_numbers}
use Rattle.recordlists.proofs.EntryLaws.{list_format}
use Rattle.recordlists.proofs.PartLaws.{node_key, life_key, slot_key, line_key, ticket_key, all_any, retired_node_format, node_life_format, retired_format, line_format, lease_bytes_in, lease_bytes-third, lease_format}

-- ---- the retired nodes

abbrev retired_nodes_bytes : Layout → List NodeId → List ℕ
retired_nodes_bytes First ns = []
retired_nodes_bytes Second ns = []
retired_nodes_bytes Third ns = counted node_bytes ns

retired_nodes_format : (layout : Layout) → IsFormat (retired_nodes_at layout) (retired_nodes_bytes layout) (λ ns. Row is_above node_key None ns × AllByRecursion IsNode ns) (λ ns. (layout ≡ Third) × IsTypedList IsTypedNode ns)
unfolding retired_nodes_at
retired_nodes_format First = record { takes = λ bytes fits. (record { parts = refl; rest_fits = fits }, (tt, tt)); again = λ ns rest fits typed. let third = typed.0 in absurd cc }
retired_nodes_format Second = record { takes = λ bytes fits. (record { parts = refl; rest_fits = fits }, (tt, tt)); again = λ ns rest fits typed. let third = typed.0 in absurd cc }
retired_nodes_format Third = list_format (retired_node_format Third)

-- ---- the parts

-- the parts in each layout
abbrev pub body_bytes_in : Layout → Record → List ℕ
body_bytes_in layout r = first_bytes r ++ ((counted node_life_bytes r.lives ++ retired_nodes_bytes layout r.retired_nodes)
    ++ (counted (lease_bytes_in layout) r.leases ++ (counted slot_bytes r.retired ++ counted line_bytes r.lines)))

pub body_bytes-third : (r : Record) → body_bytes_in Third r ≡ body_bytes r
unfolding nodes_bytes slots_bytes
body_bytes-third r = ap (λ (spell : Lease → List ℕ). first_bytes r ++ ((counted node_life_bytes r.lives ++ counted node_bytes r.retired_nodes) ++ (counted spell r.leases ++ (counted slot_bytes r.retired ++ counted line_bytes r.lines))))
    (λ i l. lease_bytes-third l i)

body_format : (layout : Layout) → IsFormat (body_at layout) (body_bytes_in layout) HasParts (λ r. (layout ≡ Third) × IsTypedRecord r)
unfolding body_at first_bytes
body_format layout =
    let lives = list_format (node_life_format layout) in
    let nodes = retired_nodes_format layout in
    let leases = list_format (lease_format layout) in
    let retired = list_format (retired_format layout) in
    let lines = list_format (line_format layout) in
    record {
      takes = λ bytes fits.
          then_takes any64 bytes fits _ _ λ last behind_last a _.
          then_takes home_format behind_last a.rest_fits _ _ λ home behind_home b is_home.
          then_takes lives behind_home b.rest_fits _ _ λ xs behind_lives c are_lives.
          then_takes nodes behind_lives c.rest_fits _ _ λ ns behind_nodes d are_nodes.
          then_takes leases behind_nodes d.rest_fits _ _ λ ls behind_leases l are_leases.
          then_takes retired behind_leases l.rest_fits _ _ λ ss behind_retired s are_retired.
          then_takes lines behind_retired s.rest_fits _ _ λ vs rest v are_lines. (
            (a and_then b) and_then (c and_then d) and_then l and_then s and_then v,
            record {
              home = is_home;
              lives_rise = numbers-from_row life_key xs are_lives.0;
              lives = are_lives.1;
              nodes_rise = numbers-from_row node_key ns are_nodes.0;
              nodes = are_nodes.1;
              leases_rise = numbers-from_row ticket_key ls are_leases.0;
              leases = are_leases.1;
              retired_rise = subst (IsStrictlySortedBy slot_cmp) (map-id ss) (sorted-from_row is_slot_above slot_cmp slot_tests slot_key None ss are_retired.0);
              lines_rise = sorted-from_row is_slot_above slot_cmp slot_tests line_key None vs are_lines.0;
              lines = are_lines.1;
            },
          );
      again = λ r rest fits typed.
          let third = typed.0 in
          let own = typed.1 in
          let retired_rise = subst (IsStrictlySortedBy slot_cmp) (sym (map-id r.retired)) fits.retired_rise in
          then_again any64 r.last.0 _ (begins (body_bytes_in layout r) rest) tt own.last _ λ behind_last a.
          then_again home_format r.old_home _ a fits.home tt _ λ behind_home b.
          let b' = begins_assoc (counted node_life_bytes r.lives) (retired_nodes_bytes layout r.retired_nodes) _ b in
          then_again lives r.lives _ b' (row-from_numbers life_key r.lives fits.lives_rise, fits.lives) (third, own.lives) _ λ behind_lives c.
          then_again nodes r.retired_nodes _ c (row-from_numbers node_key r.retired_nodes fits.nodes_rise, fits.nodes) (third, own.nodes) _ λ behind_nodes d.
          then_again leases r.leases _ d (row-from_numbers ticket_key r.leases fits.leases_rise, fits.leases) (third, own.leases) _ λ behind_leases l.
          then_again retired r.retired _ l (row-from_sorted is_slot_above slot_cmp slot_tests slot_key r.retired retired_rise, all_any r.retired) (third, own.retired) _ λ behind_retired s.
          last_again lines r.lines s (row-from_sorted is_slot_above slot_cmp slot_tests line_key r.lines fits.lines_rise, fits.lines) (third, own.lines) _ refl;
    }

-- ---- the whole

pub whole_takes : (layout : Layout) (bytes : List ℕ) (r : Record) → IsBytes bytes → whole_body layout bytes ≡ Ok r → (bytes ≡ body_bytes_in layout r) × HasParts r
unfolding whole_body
whole_takes layout bytes r fits e =
    let a = bind_ok (body_at layout bytes) (λ body. passed Trailing (eqb (length body.1) 0) body.0) r e in
    let p = passed_ok Trailing (eqb (length a.0.1) 0) a.0.0 r a.2 in
    let t = took (body_format layout) bytes a.0.0 a.0.1 fits a.1 in
    let nothing : a.0.1 ≡ [] = nil_from_length a.0.1 (eqb-true _ _ p.0) in
    let whole : bytes ≡ body_bytes_in layout a.0.0 = t.0.parts ∙ ap (λ (x : List ℕ). body_bytes_in layout a.0.0 ++ x) nothing ∙ append-nil (body_bytes_in layout a.0.0) in
    subst (λ (y : Record). (bytes ≡ body_bytes_in layout y) × HasParts y) p.1 (whole, t.1)

pub whole_again : (r : Record) → HasParts r → IsTypedRecord r → whole_body Third (body_bytes r) ≡ Ok r
unfolding whole_body
whole_again r fits typed = rw (ap (body_at Third) (sym (body_bytes-third r) ∙ sym (append-nil (body_bytes_in Third r))) ∙ (body_format Third).again r [] fits (refl, typed)) refl
