-- Entries behind the texts that are kept.
use mathlib.Core.Path.{fun_ext}
use Rattle.std.proofs.Common.{◌≡◌, ℕ, List, [], ◌∷◌, ◌++◌, not, filter, true, false, Ok, Result, inl, inr, refl, sym, ap, ◌∙◌, subst}
use Rattle.std.specs.Prelude.{All, map, ◌&&◌}
use Rattle.std.specs.List.{list_all}
use Rattle.std.specs.Ordering.{is_eq}
use Rattle.std.specs.declared.cmp.Ordering.TheVariants.{Less}
use Rattle.std.proofs.lemmas.Bool.{cases_Bool, and_parts}
use Rattle.std.proofs.lemmas.List.{append-nil}
use Rattle.std.proofs.lemmas.List.Elements.{All-append, All-filter, All-head, All-tail}
use Rattle.std.proofs.lemmas.Map.Keys.{sorted_head, sorted_tail}
use Rattle.codec.specs.Steps.{◌>>=◌}
use Rattle.codec.proofs.Steps.{bind_ok, ok_is, passed_ok as test_ok}
use Rattle.names.specs.Slots.{slot_cmp}
use Rattle.names.specs.declared.limits.TheConstants.{NODES}
use Rattle.names.proofs.CompareLaws.{slot_eq-by_cmp}
use Rattle.holdings.specs.Leases.{IsOpen}
use Rattle.protocol.specs.Farm.{farm_limits}
use Rattle.protocol.specs.Lists.{In}
use Rattle.protocol.specs.Names.{Slot, slot_eq, Ticket}
use Rattle.protocol.specs.Machine.{LineVersion}
use Rattle.protocol.specs.Ledger.{Ledger, Lease, Saved, saves, reads, is_saved, has_ticket, without}
use Rattle.protocol.proofs.Base.{in_map, true_false, from_filter}
use Rattle.protocol.proofs.Moving.{all_in as each_passes}
use Rattle.protocol.proofs.Lawfulness.{every_ledger_stays_lawful}
use Rattle.protocol.proofs.Saving.{saved_twice}
use Rattle.versions.specs.Additions.{adds}
use Rattle.versions.specs.Line.{is_above_all}
use Rattle.versions.specs.Lines.{LineOf, line_at}
use Rattle.versions.specs.declared.lines.SlotLine.{SlotLine}
use Rattle.versions.proofs.Ordered.{Rise}
use Rattle.saverecord.specs.declared.log_entry.LogEntry.{LogEntry}
use Rattle.saverecord.specs.declared.record.Record.{Record}
use Rattle.recordparts.specs.declared.refusal.Flaw.TheVariants.{Relation}
use Rattle.recordparts.specs.declared.refusal.RecordRefusal.{RecordRefusal}
use Rattle.recordparts.specs.declared.refusal.RecordRefusal.TheVariants.{NotCanonical}
use Rattle.saverecord.specs.Ledgers.{IsKept, ledger_of, record_in}
use Rattle.saverecord.specs.LogEntries.{entry_of}
use Rattle.saverecord.specs.Logs.{Holds, Follows, with_version, with_versions, without_one, without_all, are_newer, with_leases, is_coherent, may_follow, changed, with_entry, after_text, with_entries, fits, agreed, ledger_in}
use Rattle.recordparts.specs.Parts.{passed}
use Rattle.saverecord.specs.Records.{opened_by, record_of}
use Rattle.recordlists.specs.Relations.{no_two, clash}
use Rattle.saverecord.specs.Texts.{Texts, whole_alone, with_text}
use Rattle.recordparts.proofs.Fields.{passed_ok}
use Rattle.saverecord.proofs.FoldLemmas.{followed, lawful_agrees}
use Rattle.saverecord.proofs.LedgerLemmas.{all_from_in, each_in, line_from}

-- ---- the lines after an entry

module _ (l : SlotLine) (es : List SlotLine) (up : Rise (l ∷ es)) where
  tail_rises : Rise es
  tail_rises = sorted_tail slot_cmp l.slot (map (λ (e : SlotLine). e.slot) es) up

  other : (m : SlotLine) → In m es → slot_eq l.slot m.slot ≡ false
  other m i =
      let slots : List Slot = map (λ (e : SlotLine). e.slot) es in
      let less : slot_cmp l.slot m.slot ≡ Less = each_in (λ s. slot_cmp l.slot s ≡ Less) slots (sorted_head slot_cmp l.slot slots up) m.slot (in_map (λ (e : SlotLine). e.slot) m es i) in
      slot_eq-by_cmp l.slot m.slot ∙ ap is_eq less

  no_other : (x : Slot) → slot_eq l.slot x ≡ true → line_at es x ≡ []
  no_other x e = elim (line_from es x) [
    | inl none ↦ none
    | inr r ↦ (
        let differ : slot_eq l.slot x ≡ false = subst (λ (z : Slot). slot_eq l.slot z ≡ false) r.2 (other r.0 r.1) in
        true_false (slot_eq l.slot x) e differ
        )
  ]

  regrouped : (line : LineOf) (v : LineVersion) → l.line ≡ v ∷ [] → (x : Slot) → adds l.slot v line x ++ line_at es x ≡ line x ++ line_at (l ∷ es) x
  regrouped line v one x = elim (cases_Bool (slot_eq l.slot x)) [
    | inl e ↦ rw (e, no_other x e, one) (append-nil (line x ++ v ∷ []))
    | inr e ↦ rw e refl
  ]

  next_follows : (line : LineOf) (v : LineVersion) → ((m : SlotLine) → In m es → Follows line m) → (m : SlotLine) → In m es → Follows (adds l.slot v line) m
  next_follows line v h m i = (
      let f : Follows line m = h m i in
      let same : adds l.slot v line m.slot ≡ line m.slot = rw (other m i) refl in
      (f.0, f.1, subst (λ (vs : List LineVersion). is_above_all f.0.ticket vs ≡ true) (sym same) f.2)
      )

pushes : (s : Slot) (vs : List LineVersion) (v : LineVersion) (line : LineOf) → vs ≡ v ∷ [] → is_above_all v.ticket (line s) ≡ true → with_version s vs line ≡ Ok (adds s v line)
pushes s vs v line one above = rw one (rw above refl)

-- rising lines of one version each, above those that are there, are added to them
pub added_all : (es : List SlotLine) (line : LineOf) → Rise es → ((l : SlotLine) → In l es → Follows line l) → with_versions es line ≡ Ok (λ x. line x ++ line_at es x)
added_all [] line up h = ap Ok (fun_ext (λ x. sym (append-nil (line x))))
added_all (l ∷ es) line up h =
    let f : Follows line l = h l (inl refl) in
    let v : LineVersion = f.0 in
    let first : with_version l.slot l.line line ≡ Ok (adds l.slot v line) = pushes l.slot l.line v line f.1 f.2 in
    let rest : with_versions es (adds l.slot v line) ≡ Ok (λ x. adds l.slot v line x ++ line_at es x) = added_all es (adds l.slot v line) (tail_rises l es up) (next_follows l es up line v (λ m i. h m (inr i))) in
    ap (λ (r : Result LineOf RecordRefusal). r >>= with_versions es) first ∙ rest ∙ ap Ok (fun_ext (regrouped l es up line v f.1))

-- ---- the texts with an entry

pushed : (texts : List (List ℕ)) (text : List ℕ) (q k next : Ledger) → with_entries texts q ≡ Ok k → after_text text k ≡ Ok next → with_entries (texts ++ text ∷ []) q ≡ Ok next
pushed [] text q k next h e =
    let same : q ≡ k = cc h in
    ap (λ (r : Result Ledger RecordRefusal). r >>= with_entries []) (ap (after_text text) same ∙ e)
pushed (t ∷ texts) text q k next h e =
    let b = bind_ok (after_text t q) (with_entries texts) k h in
    ap (λ (r : Result Ledger RecordRefusal). r >>= with_entries (texts ++ text ∷ [])) b.1 ∙ pushed texts text b.0 k next b.2 e

-- the ledger that texts hold was read of a whole record and of entries
pub record HoldsRead (t : Texts) (k : Ledger) : Type 0 where
  pub whole : Record
  pub first : record_in t.whole ≡ Ok whole
  pub rest : with_entries t.entries (reads (saves (ledger_of whole))) ≡ Ok k

pub read_of : (t : Texts) (k : Ledger) → ledger_in t ≡ Ok k → HoldsRead t k
read_of t k h =
    let b = bind_ok (record_in t.whole) (λ r. with_entries t.entries (reads (saves (ledger_of r))) >>= agreed) k h in
    let c = bind_ok (with_entries t.entries (reads (saves (ledger_of b.0)))) agreed k b.2 in
    let p = passed_ok Relation (list_all (fits c.0) c.0.live && no_two clash c.0.live) c.0 k c.2 in
    record { whole = b.0; first = b.1; rest = subst (λ (q : Ledger). with_entries t.entries (reads (saves (ledger_of b.0))) ≡ Ok q) p.1 c.1 }

-- a ledger that agrees
pub agreed_is : (q : Ledger) → (list_all (fits q) q.live && no_two clash q.live) ≡ true → agreed q ≡ Ok q
agreed_is q h = rw h refl

pub pushed_in : (t : Texts) (text : List ℕ) (k next : Ledger) → ledger_in t ≡ Ok k → after_text text k ≡ Ok next → agreed next ≡ Ok next → ledger_in (with_text text t) ≡ Ok next
pushed_in t text k next h e fit =
    let r = read_of t k h in
    let all : with_entries (t.entries ++ text ∷ []) (reads (saves (ledger_of r.whole))) ≡ Ok next = pushed t.entries text (reads (saves (ledger_of r.whole))) k next r.rest e in
    ap (λ (x : Result Record RecordRefusal). x >>= λ w. with_entries (t.entries ++ text ∷ []) (reads (saves (ledger_of w))) >>= agreed) r.first ∙ ap (λ (x : Result Ledger RecordRefusal). x >>= agreed) all ∙ fit

-- ---- the leases that texts hold are saved ones

abbrev pub AreSaved : List Lease → Type 0
AreSaved live = All (λ g. is_saved g ≡ true) live

-- a filter that all pass
pub filter_saved : (live : List Lease) → AreSaved live → filter is_saved live ≡ live
filter_saved [] all = refl
filter_saved (g ∷ live) all =
    let here = All-head (λ (g : Lease). is_saved g ≡ true) g live all in
    rw here (ap (λ (gs : List Lease). g ∷ gs) (filter_saved live (All-tail (λ (g : Lease). is_saved g ≡ true) g live all)))

left_saved : (ts : List Ticket) (live left : List Lease) → without_all ts live ≡ Ok left → AreSaved live → AreSaved left
left_saved [] live left e all = (let same : live ≡ left = cc e in subst AreSaved same all)
left_saved (t ∷ ts) live left e all =
    let b = bind_ok (without_one t live) (without_all ts) left e in
    let p = passed_ok Relation _ (without t live) b.0 b.1 in
    left_saved ts b.0 left b.2 (subst AreSaved p.1 (All-filter (λ g. not (has_ticket t g)) (λ (g : Lease). is_saved g ≡ true) live all))

entry_saved : (e : LogEntry) (q next : Ledger) → with_entry e q ≡ Ok next → AreSaved q.live → AreSaved next.live
entry_saved e q next h all =
    let p = test_ok (may_follow q.ceiling e) (NotCanonical Relation) (with_versions e.lines q.line >>= λ line. with_leases e.ended e.leases q.live >>= λ live. Ok (changed e line live q)) next h in
    let a = bind_ok (with_versions e.lines q.line) (λ line. with_leases e.ended e.leases q.live >>= λ live. Ok (changed e line live q)) next p.1 in
    let b = bind_ok (with_leases e.ended e.leases q.live) (λ live. Ok (changed e a.0 live q)) next a.2 in
    let c = bind_ok (without_all e.ended q.live) (λ left. passed Relation (are_newer left e.leases) (left ++ e.leases)) b.0 b.1 in
    let d = passed_ok Relation (are_newer c.0 e.leases) (c.0 ++ e.leases) b.0 c.2 in
    let new : AreSaved e.leases = all_from_in (λ (g : Lease). is_saved g ≡ true) e.leases (λ g i. (and_parts _ _ (each_passes is_coherent e.leases (followed q.ceiling e p.0).leases g i)).0) in
    let both : AreSaved b.0 = subst AreSaved d.1 (All-append (λ (g : Lease). is_saved g ≡ true) c.0 e.leases (left_saved e.ended q.live c.0 c.1 all) new) in
    subst (λ (z : Ledger). AreSaved z.live) (ok_is {E = RecordRefusal} (changed e a.0 b.0 q) next b.2) both

texts_saved : (texts : List (List ℕ)) (q next : Ledger) → with_entries texts q ≡ Ok next → AreSaved q.live → AreSaved next.live
texts_saved [] q next h all = (let same : q ≡ next = cc h in subst (λ (z : Ledger). AreSaved z.live) same all)
texts_saved (t ∷ texts) q next h all =
    let b = bind_ok (after_text t q) (with_entries texts) next h in
    let a = bind_ok (entry_of t) (λ e. with_entry e q) b.0 b.1 in
    texts_saved texts b.0 next b.2 (entry_saved a.0 q b.0 a.2 all)

pub read_saved : (t : Texts) (k : Ledger) → ledger_in t ≡ Ok k → AreSaved k.live
read_saved t k h =
    let r = read_of t k h in
    texts_saved t.entries (reads (saves (ledger_of r.whole))) k r.rest (all_from_in (λ (g : Lease). is_saved g ≡ true) (filter is_saved r.whole.leases) (λ g i. (from_filter is_saved g r.whole.leases i).1))

-- ---- a whole record alone

-- the bytes of a record are some
read_in : (bytes : List ℕ) (r : Record) → record_of bytes ≡ Ok r → record_in bytes ≡ Ok r
unfolding record_of opened_by
read_in [] r e = absurd (cc e)
read_in (b ∷ bytes) r e = e

-- it holds what is saved of its ledger
pub whole_in : (bytes : List ℕ) (r : Record) → IsKept r → record_of bytes ≡ Ok r → ledger_in (whole_alone bytes) ≡ Ok (reads (saves (ledger_of r)))
whole_in bytes r kept again =
    let q : Ledger = reads (saves (ledger_of r)) in
    let fit = lawful_agrees q (every_ledger_stays_lawful NODES farm_limits (ledger_of r) kept.lawful).restart (All-filter is_saved (IsOpen (line_at r.lines)) r.leases kept.ahead) in
    ap (λ (x : Result Record RecordRefusal). x >>= λ w. with_entries [] (reads (saves (ledger_of w))) >>= agreed) (read_in bytes r again) ∙ agreed_is q fit

pub whole_holds : (bytes : List ℕ) (r : Record) (s : Saved) → IsKept r → record_of bytes ≡ Ok r → saves (ledger_of r) ≡ s → Holds (whole_alone bytes) s
whole_holds bytes r s kept again saved = record {
  kept = reads (saves (ledger_of r));
  read = whole_in bytes r kept again;
  saved = ap (λ gs. record (saves (ledger_of r)) { live = gs }) (saved_twice r.leases) ∙ saved;
}

-- a record that was read of texts alone holds the same
pub read_alone : (t : Texts) (bytes : List ℕ) (r : Record) → IsKept r → record_of bytes ≡ Ok r → ledger_in t ≡ Ok (ledger_of r) → ledger_in (whole_alone bytes) ≡ ledger_in t
read_alone t bytes r kept again h =
    let same : reads (saves (ledger_of r)) ≡ ledger_of r = ap (λ gs. record (ledger_of r) { live = gs }) (filter_saved r.leases (read_saved t (ledger_of r) h)) in
    whole_in bytes r kept again ∙ ap Ok same ∙ sym h
