-- An entry of a log as a format: the entry that is read is the one that was written, and what was written is read again.
use Rattle.std.proofs.Common.{◌≡◌, ℕ, eqb, List, [], ◌++◌, length, take, Result, Ok, Err, refl, sym, ap, subst, ◌∙◌}
use Rattle.std.specs.Prelude.{IfOk, OnOk, codes}
use Rattle.std.specs.Global.{Vec}
use Rattle.std.specs.declared.alloc.AllocError.{AllocError}
use Rattle.std.specs.List.Sorted.{IsStrictlySortedBy}
use Rattle.std.proofs.lemmas.Bool.{eqb-true}
use Rattle.std.proofs.lemmas.List.{append-nil, nil_from_length, map-id}
use Rattle.farm_base.specs.declared.lease.Lease.{Lease}
use Rattle.names.specs.Digests.{IsBytes}
use Rattle.names.specs.Slots.{slot_cmp}
use Rattle.lists.proofs.Rising.{sorted-from_row, row-from_sorted}
use Rattle.codec.proofs.Formats.{IsFormat, ◌and_then◌, begins, begins_assoc, took, then_takes, then_again, last_again}
use Rattle.codec.proofs.Steps.{bind_ok, passed_ok as test_ok}
use Rattle.sha2.specs.Sha256.{sha256}
use Rattle.recordparts.specs.declared.layout.Layout.{Layout}
use Rattle.recordparts.specs.declared.layout.Layout.TheVariants.{Third}
use Rattle.saverecord.specs.declared.log_entry.LogEntry.{LogEntry}
use Rattle.recordparts.specs.declared.refusal.Flaw.TheVariants.{Trailing}
use Rattle.recordparts.specs.declared.refusal.RecordRefusal.{RecordRefusal}
use Rattle.recordparts.specs.declared.refusal.RecordRefusal.TheVariants.{BadMagic}
use Rattle.saverecord.specs.LogEntries.{place_bytes, nodes_bytes, leases_bytes, slots_bytes, parts_bytes, entry_bytes, parts_at, whole_parts, entry_layout, entry_of, IsLogEntry, IsTypedLogEntry}
use Rattle.recordparts.specs.Parts.{Gives, passed}
use Rattle.saverecord.specs.Records.{is_same, opened_by}
use Rattle.recordparts.specs.Slots.{is_slot_above}
use Rattle.recordparts.specs.Spelling.{slot_bytes}
use Rattle.recordlists.specs.EntrySpelling.{counted, ticket_bytes, node_bytes, node_life_bytes, line_bytes}
use Rattle.recordparts.proofs.Fields.{home_format, passed_ok, any64}
use Rattle.recordlists.proofs.EntryLaws.{list_format}
use Rattle.recordlists.proofs.PartLaws.{node_key, life_key, ended_key, slot_key, line_key, ticket_key, all_any, retired_node_format, node_life_format, ended_format, retired_format, line_format, lease_bytes_in, lease_bytes-third, lease_format}
use Rattle.saverecord.proofs.RecordLaws.{same_bytes, opened_takes, opened_again}
use Rattle.recordlists.proofs.Rows.{slot_tests, numbers-from_row, row-from_numbers}

-- ---- the parts

-- the parts, leases being spelled so
abbrev parts_by : (Lease → List ℕ) → LogEntry → List ℕ
parts_by spell e = place_bytes e ++ ((counted node_life_bytes e.lives ++ counted node_bytes e.retired_nodes) ++ ((counted ticket_bytes e.ended ++ counted spell e.leases) ++ (counted slot_bytes e.retired ++ counted line_bytes e.lines)))

parts-third : (e : LogEntry) → parts_by (lease_bytes_in Third) e ≡ parts_bytes e
unfolding nodes_bytes leases_bytes slots_bytes
parts-third e = ap (λ (spell : Lease → List ℕ). parts_by spell e) (λ i l. lease_bytes-third l i)

parts_format : IsFormat parts_at (parts_by (lease_bytes_in Third)) IsLogEntry IsTypedLogEntry
unfolding parts_at place_bytes
parts_format =
    let lives = list_format (node_life_format Third) in
    let nodes = list_format (retired_node_format Third) in
    let ended = list_format (ended_format Third) in
    let leases = list_format (lease_format Third) in
    let retired = list_format (retired_format Third) in
    let lines = list_format (line_format Third) in
    record {
      takes = λ bytes fits.
          then_takes any64 bytes fits _ _ λ last behind_last a _.
          then_takes home_format behind_last a.rest_fits _ _ λ home behind_home b is_home.
          then_takes lives behind_home b.rest_fits _ _ λ xs behind_lives c are_lives.
          then_takes nodes behind_lives c.rest_fits _ _ λ ns behind_nodes d are_nodes.
          then_takes ended behind_nodes d.rest_fits _ _ λ ts behind_ended t are_ended.
          then_takes leases behind_ended t.rest_fits _ _ λ ls behind_leases l are_leases.
          then_takes retired behind_leases l.rest_fits _ _ λ ss behind_retired s are_retired.
          then_takes lines behind_retired s.rest_fits _ _ λ vs rest v are_lines. (
            (a and_then b) and_then (c and_then d) and_then (t and_then l) and_then s and_then v,
            record {
              home = is_home;
              lives_rise = numbers-from_row life_key xs are_lives.0;
              lives = are_lives.1;
              nodes_rise = numbers-from_row node_key ns are_nodes.0;
              nodes = are_nodes.1;
              ended_rise = numbers-from_row ended_key ts are_ended.0;
              ended = are_ended.1;
              leases_rise = numbers-from_row ticket_key ls are_leases.0;
              leases = are_leases.1;
              retired_rise = subst (IsStrictlySortedBy slot_cmp) (map-id ss) (sorted-from_row is_slot_above slot_cmp slot_tests slot_key _ ss are_retired.0);
              lines_rise = sorted-from_row is_slot_above slot_cmp slot_tests line_key _ vs are_lines.0;
              lines = are_lines.1;
            },
          );
      again = λ e rest fits own.
          let retired_rise = subst (IsStrictlySortedBy slot_cmp) (sym (map-id e.retired)) fits.retired_rise in
          then_again any64 e.last.0 _ (begins (parts_by (lease_bytes_in Third) e) rest) tt own.last _ λ behind_last a.
          then_again home_format e.old_home _ a fits.home tt _ λ behind_home b.
          let b' = begins_assoc (counted node_life_bytes e.lives) (counted node_bytes e.retired_nodes) _ b in
          then_again lives e.lives _ b' (row-from_numbers life_key e.lives fits.lives_rise, fits.lives) (refl, own.lives) _ λ behind_lives c.
          then_again nodes e.retired_nodes _ c (row-from_numbers node_key e.retired_nodes fits.nodes_rise, fits.nodes) (refl, own.nodes) _ λ behind_nodes d.
          let d' = begins_assoc (counted ticket_bytes e.ended) (counted (lease_bytes_in Third) e.leases) _ d in
          then_again ended e.ended _ d' (row-from_numbers ended_key e.ended fits.ended_rise, fits.ended) (refl, own.ended) _ λ behind_ended t.
          then_again leases e.leases _ t (row-from_numbers ticket_key e.leases fits.leases_rise, fits.leases) (refl, own.leases) _ λ behind_leases l.
          then_again retired e.retired _ l (row-from_sorted is_slot_above slot_cmp slot_tests slot_key e.retired retired_rise, all_any e.retired) (refl, own.retired) _ λ behind_retired s.
          last_again lines e.lines s (row-from_sorted is_slot_above slot_cmp slot_tests line_key e.lines fits.lines_rise, fits.lines) (refl, own.lines) _ refl;
    }

-- ---- the whole

whole_takes : (bytes : List ℕ) (e : LogEntry) → IsBytes bytes → whole_parts bytes ≡ Ok e → (bytes ≡ parts_bytes e) × IsLogEntry e
unfolding whole_parts
whole_takes bytes e fits h =
    let a = bind_ok (parts_at bytes) (λ parts. passed Trailing (eqb (length parts.1) 0) parts.0) e h in
    let p = passed_ok Trailing (eqb (length a.0.1) 0) a.0.0 e a.2 in
    let t = took parts_format bytes a.0.0 a.0.1 fits a.1 in
    let nothing : a.0.1 ≡ [] = nil_from_length a.0.1 (eqb-true _ _ p.0) in
    let spell : LogEntry → List ℕ = parts_by (lease_bytes_in Third) in
    let whole : bytes ≡ parts_bytes a.0.0 = t.0.parts ∙ ap (λ (x : List ℕ). spell a.0.0 ++ x) nothing ∙ append-nil (spell a.0.0) ∙ parts-third a.0.0 in
    subst (λ (y : LogEntry). (bytes ≡ parts_bytes y) × IsLogEntry y) p.1 (whole, t.1)

whole_again : (e : LogEntry) → IsLogEntry e → IsTypedLogEntry e → whole_parts (parts_bytes e) ≡ Ok e
unfolding whole_parts
whole_again e fits typed = rw (ap parts_at (sym (parts-third e) ∙ sym (append-nil (parts_by (lease_bytes_in Third) e))) ∙ parts_format.again e [] fits typed) refl

abbrev magic : List ℕ
magic = codes "BKENTR01"

magic_is : entry_layout magic ≡ Ok Third
unfolding entry_layout
magic_is = refl

only_magic : (text : List ℕ) (layout : Layout) → entry_layout text ≡ Ok layout → text ≡ magic
unfolding entry_layout
only_magic text layout e =
    let third : Result Layout RecordRefusal = Ok Third in
    same_bytes text magic (test_ok (is_same text magic) BadMagic third layout e).0

-- an entry that is read fits, and the bytes are those that spell it
entry_takes : (bytes : List ℕ) (e : LogEntry) → IsBytes bytes → entry_of bytes ≡ Ok e → IsLogEntry e × (bytes ≡ entry_bytes e)
unfolding entry_of
entry_takes bytes e fits h =
    let a = bind_ok (opened_by entry_layout bytes) (λ parts. whole_parts parts.1) e h in
    let o = opened_takes entry_layout bytes a.0.0 a.0.1 fits a.1 in
    let w = whole_takes a.0.1 e o.0.fits a.2 in
    let first : take 8 bytes ≡ magic = only_magic (take 8 bytes) a.0.0 o.1 in
    (w.1, o.0.parts ∙ ap (λ (x : List ℕ). (x ++ a.0.1) ++ sha256 (x ++ a.0.1)) first ∙ ap (λ (x : List ℕ). (magic ++ x) ++ sha256 (magic ++ x)) w.0)

pub entry_again : (e : LogEntry) → IsLogEntry e → IsTypedLogEntry e → entry_of (entry_bytes e) ≡ Ok e
unfolding entry_of
entry_again e fits typed = rw (opened_again entry_layout magic Third (parts_bytes e) refl magic_is) (whole_again e fits typed)

-- ---- what a function that reads or writes returns

pub is_entry : (bytes : List ℕ) (r : Result LogEntry RecordRefusal) → IsBytes bytes → Gives (λ x. x) r (entry_of bytes) → IfOk r (λ e. IsLogEntry e × (bytes ≡ entry_bytes e))
is_entry bytes (Ok e) fits given = entry_takes bytes e fits given
is_entry bytes (Err d) fits given = tt

pub is_again : (e : LogEntry) (r : Result (Vec ℕ) AllocError) → IsLogEntry e → IfOk r (λ v. v.items ≡ entry_bytes e) → OnOk r (IsTypedLogEntry e) → IfOk r (λ v. entry_of v.items ≡ Ok e)
is_again e (Ok v) fits spelled typed = ap entry_of spelled ∙ entry_again e fits typed
is_again e (Err d) fits spelled typed = tt
