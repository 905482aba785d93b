-- What is read has the ranges, orders and relations of a record, in each layout.
use Rattle.std.proofs.Common.{◌≡◌, ℕ, zero, suc, Bool, true, false, cond, eqb, ltb, not, ◌&&◌, ◌||◌, List, [], ◌∷◌, take, Option, Some, None, Result, Ok, Err, refl, ap, subst, ◌∙◌, arith}
use Rattle.std.specs.Prelude.{IfOk, OnOk, codes}
use Rattle.std.specs.Global.{Vec}
use Rattle.std.specs.declared.alloc.AllocError.{AllocError}
use Rattle.std.specs.List.{list_any, list_all, AllByRecursion, insert}
use Rattle.std.proofs.Math.Bool.{or-true}
use Rattle.std.proofs.lemmas.Bool.{ltb-false, lt-ltb, and_parts, or_parts, eqb-false}
use Rattle.farm_base.specs.declared.lease.Lease.{Lease}
use Rattle.names.specs.declared.number.NodeId.{NodeId}
use Rattle.protocol.specs.Names.{is_private}
use Rattle.recordparts.specs.declared.layout.Layout.{Layout}
use Rattle.recordparts.specs.declared.layout.Layout.TheVariants.{First, Second, Third}
use Rattle.farm_base.specs.declared.lease.NodeLife.{NodeLife}
use Rattle.saverecord.specs.declared.record.Record.{Record}
use Rattle.recordparts.specs.declared.refusal.Flaw.TheVariants.{Relation}
use Rattle.recordparts.specs.declared.refusal.RecordRefusal.{RecordRefusal}
use Rattle.codec.specs.Steps.{◌>>=◌}
use Rattle.recordparts.specs.Parts.{Gives}
use Rattle.recordlists.specs.Entries.{is_above}
use Rattle.saverecord.specs.Records.{whole_body, layout_of, opened, place_for, has_life, with_life, with_home, from_first, judged, record_of}
use Rattle.recordlists.specs.Relations.{no_two, tickets_up_to, lines_up_to, lives_there, clash, has_retired, is_same_private, fits_tenure, is_gone, is_above_lines}
use Rattle.saverecord.specs.Relations.{fits_record, agrees, is_at_home}
use Rattle.saverecord.specs.Spelling.{record_bytes}
use Rattle.recordparts.specs.Fits.{IsNode, IsHome}
use Rattle.recordlists.specs.EntryFits.{IsNodeLife}
use Rattle.saverecord.specs.Fits.{HasParts, IsRecord, IsTypedRecord}
use Rattle.codec.proofs.Steps.{bind_ok}
use Rattle.names.specs.Digests.{IsBytes}
use Rattle.recordparts.proofs.Fields.{passed_ok}
use Rattle.lists.proofs.Rising.{Row}
use Rattle.recordlists.proofs.Rows.{numbers-from_row, row-from_numbers}
use Rattle.recordlists.proofs.PartLaws.{life_key}
use Rattle.saverecord.proofs.BodyLaws.{whole_takes}
use Rattle.saverecord.proofs.RecordLaws.{opened_takes, third_takes, third_again}

-- ---- adding a life

all_insert : {X : Type 0} (P : X → Type 0) (xs : List X) (k : ℕ) (y : X) → AllByRecursion P xs → P y → AllByRecursion P (insert xs k y)
all_insert P [] zero y all here = (here, tt)
all_insert P [] (suc k) y all here = (here, tt)
all_insert P (x ∷ xs) zero y all here = (here, all)
all_insert P (x ∷ xs) (suc k) y all here = (all.0, all_insert P xs k y all.1 here)

or_kept : (a b c : Bool) → (b ≡ true → c ≡ true) → (a || b) ≡ true → (a || c) ≡ true
or_kept true b c more h = refl
or_kept false b c more h = more h

any_insert : {X : Type 0} (p : X → Bool) (xs : List X) (k : ℕ) (y : X) → list_any p xs ≡ true → list_any p (insert xs k y) ≡ true
any_insert p [] k y h = absurd cc
any_insert p (x ∷ xs) zero y h = rw h (or-true (p y))
any_insert p (x ∷ xs) (suc k) y h = or_kept (p x) (list_any p xs) (list_any p (insert xs k y)) (any_insert p xs k y) h

abbrev new_life : NodeId → NodeLife
new_life n = record { node = n; life = record { 0 = 1 } }

row_insert : (before : Option ℕ) (lives : List NodeLife) (n : NodeId) → Row is_above life_key before lives → is_above before n.0 ≡ true → has_life n lives ≡ false
    → Row is_above life_key before (insert lives (place_for n lives) (new_life n))
row_insert before [] n row above none = (above, tt)
row_insert before (x ∷ xs) n row above none = by_test (ltb n.0 x.node.0) refl (row_insert (Some x.node.0) xs n row.1)
  where
    by_test : (b : Bool) → ltb n.0 x.node.0 ≡ b → (is_above (Some x.node.0) n.0 ≡ true → has_life n xs ≡ false → Row is_above life_key (Some x.node.0) (insert xs (place_for n xs) (new_life n))) → Row is_above life_key before (insert (x ∷ xs) (cond b 0 (suc (place_for n xs))) (new_life n))
    by_test true lt others = (above, (lt, row.1))
    by_test false ge others =
        let parts = or_parts (eqb x.node.0 n.0) (has_life n xs) none in
        let le = ltb-false n.0 x.node.0 ge in
        let other = eqb-false x.node.0 n.0 parts.0 in
        let next : ltb x.node.0 n.0 ≡ true = lt-ltb x.node.0 n.0 (grind (arith, other, le)) in
        (row.0, others next parts.1)

-- the lives with one more
record HasLives (lives : List NodeLife) : Type 0 where
  row : Row is_above life_key None lives
  each : AllByRecursion IsNodeLife lives

with_life_fits : (n : NodeId) (lives : List NodeLife) → IsNode n → HasLives lives → HasLives (with_life n lives)
unfolding with_life
with_life_fits n lives node fits = by_test (has_life n lives) refl
  where
    by_test : (b : Bool) → has_life n lives ≡ b → HasLives (cond b lives (insert lives (place_for n lives) (new_life n)))
    by_test true e = fits
    by_test false e = record {
      row = row_insert None lives n fits.row refl e;
      each = all_insert IsNodeLife lives (place_for n lives) (new_life n) fits.each (record { node = node; life = omega arith });
    }

with_life_there : (n : NodeId) (lives : List NodeLife) (l : Lease) → lives_there lives l ≡ true → lives_there (with_life n lives) l ≡ true
unfolding with_life
with_life_there n lives l h = by_test (has_life n lives)
  where
    by_test : (b : Bool) → lives_there (cond b lives (insert lives (place_for n lives) (new_life n))) l ≡ true
    by_test true = h
    by_test false = any_insert (λ seen. eqb seen.node.0 l.node.0 && eqb seen.life.0 l.life.0) lives (place_for n lives) (new_life n) h

with_home_fits : (o : Option NodeId) (lives : List NodeLife) → IsHome o → HasLives lives → HasLives (with_home o lives)
with_home_fits None lives home fits = fits
with_home_fits (Some n) lives home fits = with_life_fits n lives home fits

with_home_there : (o : Option NodeId) (lives : List NodeLife) (l : Lease) → lives_there lives l ≡ true → lives_there (with_home o lives) l ≡ true
with_home_there None lives l h = h
with_home_there (Some n) lives l h = with_life_there n lives l h

-- ---- a record of version 1

first_parts : (r : Record) → HasParts r → HasParts (from_first r)
first_parts r fits =
    let lives = with_home_fits r.old_home r.lives fits.home (record { row = row-from_numbers life_key r.lives fits.lives_rise; each = fits.lives }) in
    record {
      home = fits.home;
      lives_rise = numbers-from_row life_key (with_home r.old_home r.lives) lives.row;
      lives = lives.each;
      nodes_rise = fits.nodes_rise;
      nodes = fits.nodes;
      leases_rise = fits.leases_rise;
      leases = fits.leases;
      retired_rise = fits.retired_rise;
      lines_rise = fits.lines_rise;
      lines = fits.lines;
    }

first_lease : (r : Record) (l : Lease) → fits_record r l ≡ true → fits_record (from_first r) l ≡ true
unfolding fits_record
first_lease r l h =
    let parts = and_parts (lives_there r.lives l) (not (has_retired r.retired l) && (no_two is_same_private l.slots && (fits_tenure l && (not (is_gone r.retired_nodes l) && is_above_lines r.lines l)))) h in
    rw (with_home_there r.old_home r.lives l parts.0) parts.1

first_leases : (r : Record) (ls : List Lease) → list_all (fits_record r) ls ≡ true → list_all (fits_record (from_first r)) ls ≡ true
first_leases r [] h = refl
first_leases r (l ∷ ls) h =
    let parts = and_parts (fits_record r l) (list_all (fits_record r) ls) h in
    rw (first_lease r l parts.0) (first_leases r ls parts.1)

first_agrees : (r : Record) → agrees r ≡ true → agrees (from_first r) ≡ true
unfolding agrees
first_agrees r h =
    let a = and_parts (tickets_up_to r.last.0 r.leases) (lines_up_to r.last.0 r.lines && (list_all (λ s. is_private s.folder.mode) r.retired && (list_all (fits_record r) r.leases && no_two clash r.leases))) h in
    let b = and_parts (lines_up_to r.last.0 r.lines) (list_all (λ s. is_private s.folder.mode) r.retired && (list_all (fits_record r) r.leases && no_two clash r.leases)) a.1 in
    let c = and_parts (list_all (λ s. is_private s.folder.mode) r.retired) (list_all (fits_record r) r.leases && no_two clash r.leases) b.1 in
    let d = and_parts (list_all (fits_record r) r.leases) (no_two clash r.leases) c.1 in
    rw (a.0, b.0, c.0, first_leases r r.leases d.0) d.1

-- ---- what is read

judged_fits : (layout : Layout) (r s : Record) → HasParts r → judged layout r ≡ Ok s → IsRecord s
unfolding judged
judged_fits First r s fits e =
    let p = passed_ok Relation (agrees r && is_at_home r) (from_first r) s e in
    let both = and_parts (agrees r) (is_at_home r) p.0 in
    subst IsRecord p.1 (record { parts = first_parts r fits; relations = first_agrees r both.0 })
judged_fits Second r s fits e =
    let p = passed_ok Relation (agrees r) r s e in
    subst IsRecord p.1 (record { parts = fits; relations = p.0 })
judged_fits Third r s fits e =
    let p = passed_ok Relation (agrees r) r s e in
    subst IsRecord p.1 (record { parts = fits; relations = p.0 })

pub read_fits : (bytes : List ℕ) (r : Record) → IsBytes bytes → record_of bytes ≡ Ok r → IsRecord r
unfolding record_of
read_fits bytes r fits e =
    let a = bind_ok (opened bytes) (λ parts. whole_body parts.0 parts.1 >>= λ body. judged parts.0 body) r e in
    let b = bind_ok (whole_body a.0.0 a.0.1) (λ body. judged a.0.0 body) r a.2 in
    let o = opened_takes layout_of bytes a.0.0 a.0.1 fits a.1 in
    let w = whole_takes a.0.0 a.0.1 b.0 o.0.fits b.1 in
    judged_fits a.0.0 b.0 r w.1 b.2

-- ---- what a function that reads returns

pub is_record : (bytes : List ℕ) (r : Result Record RecordRefusal) → IsBytes bytes → Gives (λ x. x) r (record_of bytes) → IfOk r IsRecord
is_record bytes (Ok r) fits given = read_fits bytes r fits given
is_record bytes (Err e) fits given = tt

pub is_spelled : (bytes : List ℕ) (r : Result Record RecordRefusal) → IsBytes bytes → Gives (λ x. x) r (record_of bytes) → IfOk r (λ x. take 8 bytes ≡ codes "BKFARM03" → bytes ≡ record_bytes x)
is_spelled bytes (Ok r) fits given = λ is_third. third_takes bytes r fits is_third given
is_spelled bytes (Err e) fits given = tt

pub is_given : (bytes : List ℕ) (r : Result Record RecordRefusal) → Gives (λ x. x) r (record_of bytes) → (s : Record) → IsRecord s → IsTypedRecord s → bytes ≡ record_bytes s → Gives (λ x. x) r (Ok s)
is_given bytes r given s fits typed e = subst (λ read. Gives (λ x. x) r read) (ap record_of e ∙ third_again s fits typed) given

-- what was written is read again
pub is_again : (s : Record) (r : Result (Vec ℕ) AllocError) → IsRecord s → IfOk r (λ v. v.items ≡ record_bytes s) → OnOk r (IsTypedRecord s) → IfOk r (λ v. record_of v.items ≡ Ok s)
is_again s (Ok v) fits spelled typed = ap record_of spelled ∙ third_again s fits typed
is_again s (Err e) fits spelled typed = tt
