-- What holds of what was read of texts, entry by entry, and of the record that is made at the end.
use Rattle.std.proofs.Common.{◌≡◌, ℕ, suc, ◌≤◌, ◌<◌, ◌-◌, List, [], ◌∷◌, ◌++◌, Bool, true, false, ◌&&◌, not, ltb, leb, length, map, Result, Ok, Err, inl, inr, refl, sym, ap, ◌∙◌, subst, arith}
use Rattle.std.specs.Prelude.{All, AllPairs, IfOk, slice_get}
use Rattle.std.specs.List.{list_all, AllByRecursion}
use Rattle.std.specs.List.Sorted.{IsStrictlyIncreasing, IsStrictlySortedBy}
use Rattle.std.specs.Ordering.{nat_cmp}
use Rattle.std.specs.declared.cmp.Ordering.TheVariants.{Less}
use Rattle.std.proofs.lemmas.Bool.{cases_Bool, ltb-true, lt-ltb, leb-true, le-leb, eqb-true, eq-eqb, and_parts, and_from, not-true, not_from_false, or_cases}
use Rattle.std.proofs.lemmas.List.Elements.{All-append, All-filter, All-from_recursion}
use Rattle.std.proofs.lemmas.List.Kept.{AllPairs-filter, AllPairs-cons}
use Rattle.std.proofs.lemmas.Map.Keys.{sorted_from_strictly_increasing}
use Rattle.codec.specs.Steps.{◌>>=◌}
use Rattle.codec.proofs.Steps.{bind_ok, ok_is, passed_ok as test_ok}
use Rattle.names.specs.Slots.{slot_cmp}
use Rattle.names.specs.Contents.{content_digest}
use Rattle.farm_base.specs.declared.lease.NodeLife.{NodeLife}
use Rattle.names.specs.declared.limits.TheConstants.{NODES}
use Rattle.holdings.specs.Leases.{IsBefore, IsOpen, Rises}
use Rattle.holdings.specs.Lives.{AreLives}
use Rattle.holdings.specs.Leases.{among}
use Rattle.holdings.specs.Lives.{is_among, life_at}
use Rattle.holdings.proofs.LeaseLemmas.{tickets_rise}
use Rattle.holdings.proofs.LeaseLemmas.{AllPairs-head, AllPairs-tail}
use Rattle.lists.proofs.Rising.{less-from_cmp}
use Rattle.protocol.specs.Lists.{In}
use Rattle.protocol.specs.Names.{Slot, slot_eq, is_private, NodeId, Ticket}
use Rattle.protocol.specs.Machine.{LineVersion}
use Rattle.protocol.specs.Ledger.{Ledger, Lease, has_slot, has_ticket, without, is_saved, saves, reads}
use Rattle.protocol.specs.Lawful.{IsLawful, IsCore, IsHolder, IsNumber, AllApart}
use Rattle.protocol.proofs.Base.{all_in, any_in, any_none, from_any, in_map, put_all, slot_eq_is, slot_eq_same}
use Rattle.protocol.proofs.LawfulFarms.{every_opening_is_lawful}
use Rattle.protocol.proofs.Moving.{all_in as each_passes}
use Rattle.versions.specs.Additions.{adds}
use Rattle.versions.specs.Line.{is_above_all}
use Rattle.versions.specs.Lines.{LineOf, line_at}
use Rattle.versions.specs.Ordered.{AreLines}
use Rattle.versions.specs.declared.lines.SlotLine.{SlotLine}
use Rattle.saverecord.specs.declared.folded.Folded.{Folded}
use Rattle.saverecord.specs.declared.log_entry.LogEntry.{LogEntry}
use Rattle.saverecord.specs.declared.record.Record.{Record}
use Rattle.recordparts.specs.declared.refusal.Flaw.TheVariants.{Relation}
use Rattle.recordparts.specs.declared.refusal.RecordRefusal.{RecordRefusal}
use Rattle.recordparts.specs.declared.refusal.RecordRefusal.TheVariants.{NotCanonical}
use Rattle.recordparts.specs.Fits.{IsNode}
use Rattle.recordlists.specs.EntryFits.{IsNodeLife, IsLease, IsSlotLine}
use Rattle.saverecord.specs.Ledgers.{IsKept, HasInstances, blank, ledger_of}
use Rattle.saverecord.specs.LogEntries.{IsLogEntry}
use Rattle.saverecord.specs.Logs.{with_version, with_versions, without_one, without_all, ticket_of, are_newer, with_leases, with_lives, with_gone, with_retired, is_coherent, may_follow, changed, with_entry, is_open, some_retired, fits, IsAsked, IsReadable, folded_ledger}
use Rattle.recordparts.specs.Parts.{Gives, passed}
use Rattle.recordlists.specs.Relations.{no_two, lines_up_to, versions_up_to, clash, is_same_private, fits_tenure}
use Rattle.recordparts.proofs.Fields.{passed_ok}
use Rattle.saverecord.proofs.KeptLemmas.{none_clash}
use Rattle.saverecord.proofs.LedgerLemmas.{all_from_in, each_in, passes_from_in, none_from_in}
use Rattle.saverecord.proofs.ReadLemmas.{all_apart, folders_rise, wanted, home_is}

-- ---- what holds of each version

added_version : (P : LineVersion → Type 0) (s : Slot) (v : LineVersion) (line : LineOf) → P v → ((x : Slot) → All P (line x)) → (x : Slot) → All P (adds s v line x)
added_version P s v line here all x = elim (cases_Bool (slot_eq s x)) [
  | inl e ↦ rw e (All-append P (line x) (v ∷ []) (all x) (all_from_in P (v ∷ []) (λ w i. one w i)))
  | inr e ↦ rw e (all x)
]
  where
    one : (w : LineVersion) → In w (v ∷ []) → P w
    one w (inl e) = subst P (sym e) here
    one w (inr i) = absurd i

one_version : (P : LineVersion → Type 0) (s : Slot) (vs : List LineVersion) (line next : LineOf) → with_version s vs line ≡ Ok next → All P vs → ((x : Slot) → All P (line x)) → (x : Slot) → All P (next x)
one_version P s [] line next e here all = absurd (cc e)
one_version P s (v ∷ []) line next e here all =
    let p = passed_ok Relation (is_above_all v.ticket (line s)) (adds s v line) next e in
    subst (λ (f : LineOf). (x : Slot) → All P (f x)) p.1 (added_version P s v line (here 0 v (omega arith)) all)
one_version P s (v ∷ w ∷ vs) line next e here all = absurd (cc e)

each_version : (P : LineVersion → Type 0) (es : List SlotLine) (line after : LineOf) → with_versions es line ≡ Ok after → ((l : SlotLine) → In l es → All P l.line) → ((x : Slot) → All P (line x)) → (x : Slot) → All P (after x)
each_version P [] line after e here all = (let same : line ≡ after = cc e in subst (λ (f : LineOf). (x : Slot) → All P (f x)) same all)
each_version P (l ∷ es) line after e here all =
    let b = bind_ok (with_version l.slot l.line line) (with_versions es) after e in
    each_version P es b.0 after b.2 (λ m i. here m (inr i)) (one_version P l.slot l.line line b.0 b.1 (here l (inl refl)) all)

-- ---- the leases after an entry

-- what is left keeps what holds of each lease, and the order
record IsLeft (P : Lease → Type 0) (left : List Lease) : Type 0 where
  tickets : AllPairs IsBefore left
  each : All P left

left_fits : (P : Lease → Type 0) (ts : List Ticket) (live left : List Lease) → without_all ts live ≡ Ok left → IsLeft P live → IsLeft P left
left_fits P [] live left e h = (let same : live ≡ left = cc e in subst (IsLeft P) same h)
left_fits P (t ∷ ts) live left e h =
    let b = bind_ok (without_one t live) (without_all ts) left e in
    let p = passed_ok Relation _ (without t live) b.0 b.1 in
    let one : IsLeft P (without t live) = record {
      tickets = AllPairs-filter IsBefore (λ g. not (has_ticket t g)) live h.tickets;
      each = All-filter (λ g. not (has_ticket t g)) P live h.each;
    } in
    left_fits P ts b.0 left b.2 (subst (IsLeft P) p.1 one)

-- the last of leases has the greatest ticket
last_is_top : (left : List Lease) → AllPairs IsBefore left → (h : Lease) → In h left → h.ticket.0 ≤ ticket_of (slice_get left (length left - 1))
last_is_top [] up h i = absurd i
last_is_top (x ∷ []) up h (inl e) = (let same : h.ticket.0 ≡ x.ticket.0 = ap (λ (g : Lease). g.ticket.0) e in omega arith)
last_is_top (x ∷ []) up h (inr i) = absurd i
last_is_top (x ∷ y ∷ left) up h i =
    let whole : length (x ∷ y ∷ left) - 1 ≡ suc (length left) = omega arith in
    let rest : length (y ∷ left) - 1 ≡ length left = omega arith in
    let behind : (g : Lease) → In g (y ∷ left) → g.ticket.0 ≤ ticket_of (slice_get (y ∷ left) (length left)) = λ g j. rw rest at (last_is_top (y ∷ left) (AllPairs-tail IsBefore x (y ∷ left) up) g j) in
    rw whole (of_first behind i)
  where
    of_first : ((g : Lease) → In g (y ∷ left) → g.ticket.0 ≤ ticket_of (slice_get (y ∷ left) (length left))) → In h (x ∷ y ∷ left) → h.ticket.0 ≤ ticket_of (slice_get (y ∷ left) (length left))
    of_first behind (inr j) = behind h j
    of_first behind (inl e) =
        let first : x.ticket.0 < y.ticket.0 = all_in (IsBefore x) (y ∷ left) (AllPairs-head IsBefore x (y ∷ left) up) y (inl refl) in
        let second = behind y (inl refl) in
        let same : h.ticket.0 ≡ x.ticket.0 = ap (λ (g : Lease). g.ticket.0) e in
        omega arith

pairs_rise : (gs : List Lease) → IsStrictlySortedBy nat_cmp (map (λ g. g.ticket.0) gs) → AllPairs IsBefore gs
unfolding IsStrictlySortedBy
pairs_rise [] up = λ i j d lt inside. absurd (omega arith)
pairs_rise (g ∷ gs) up =
    let key : Lease → ℕ = λ h. h.ticket.0 in
    AllPairs-cons IsBefore g gs (all_from_in (IsBefore g) gs (λ h i. less-from_cmp g.ticket.0 h.ticket.0 (each_in (λ n. nat_cmp g.ticket.0 n ≡ Less) (map key gs) up.0 h.ticket.0 (in_map key h gs i)))) (pairs_rise gs up.1)

append_rises : (left more : List Lease) → AllPairs IsBefore left → AllPairs IsBefore more → ((h g : Lease) → In h left → In g more → h.ticket.0 < g.ticket.0) → AllPairs IsBefore (left ++ more)
append_rises [] more up rest below = rest
append_rises (h ∷ left) more up rest below =
    AllPairs-cons IsBefore h (left ++ more) (All-append (IsBefore h) left more (AllPairs-head IsBefore h left up) (all_from_in (IsBefore h) more (λ g i. below h g (inl refl) i)))
    (append_rises left more (AllPairs-tail IsBefore h left up) rest (λ x g i j. below x g (inr i) j))

leases_fit : (P : Lease → Type 0) (ended : List Ticket) (more live next : List Lease) → with_leases ended more live ≡ Ok next → IsLeft P live → IsStrictlyIncreasing (map (λ g. g.ticket.0) more) → All P more → IsLeft P next
leases_fit P ended more live next e h up each =
    let b = bind_ok (without_all ended live) (λ left. passed Relation (are_newer left more) (left ++ more)) next e in
    let left : List Lease = b.0 in
    let p = passed_ok Relation (are_newer left more) (left ++ more) next b.2 in
    let was = left_fits P ended live left b.1 h in
    let below : (x g : Lease) → In x left → In g more → x.ticket.0 < g.ticket.0 = λ x g i j.
    (let top = last_is_top left was.tickets x i in
    let newer = ltb-true (ticket_of (slice_get left (length left - 1))) g.ticket.0 (each_passes (λ (g : Lease). ltb (ticket_of (slice_get left (length left - 1))) g.ticket.0) more p.0 g j) in
    omega arith) in
    subst (IsLeft P) p.1 (record {
      tickets = append_rises left more was.tickets (pairs_rise more (sorted_from_strictly_increasing (map (λ (g : Lease). g.ticket.0) more) up)) below;
      each = All-append P left more was.each each;
    })

-- ---- what an entry says by itself

pub record Followed (last : ℕ) (e : LogEntry) : Type 0 where
  pub low : last ≤ e.last.0
  pub lines : lines_up_to e.last.0 e.lines ≡ true
  pub retired : list_all (λ s. is_private s.folder.mode) e.retired ≡ true
  pub leases : list_all is_coherent e.leases ≡ true

pub followed : (last : ℕ) (e : LogEntry) → may_follow last e ≡ true → Followed last e
followed last e h =
    let a = and_parts _ _ h in
    let b = and_parts _ _ a.1 in
    let c = and_parts _ _ b.1 in
    record { low = leb-true last e.last.0 a.0; lines = b.0; retired = c.0; leases = c.1 }

asked_is : (g : Lease) → IsLease g → HasInstances g → is_coherent g ≡ true → IsAsked g
asked_is g l typed h =
    let saved = and_parts (is_saved g) (no_two is_same_private g.slots && fits_tenure g) h in
    let own = and_parts (no_two is_same_private g.slots) (fits_tenure g) saved.1 in
    record {
      speaker = record { node = l.node; life = l.life };
      ask = l.ask;
      ticket = l.ticket;
      wants = wanted g.tenure g.slots l.few (folders_rise g.slots l.rise typed own.0) own.1;
      rise = l.rise;
    }

abbrev Numbered : ℕ → Type 0
Numbered n = IsNumber NODES (record { 0 = n })

lives_numbered : (xs : List NodeLife) (f : ℕ → ℕ) → AllByRecursion IsNodeLife xs → ((n : ℕ) → 1 ≤ f n → Numbered n) → (n : ℕ) → 1 ≤ with_lives xs f n → Numbered n
lives_numbered [] f all h = h
lives_numbered (x ∷ xs) f all h = lives_numbered xs _ all.1 (put_all (λ n (l : ℕ). 1 ≤ l → Numbered n) x.node.0 x.life.0 f (λ some. all.0.node) (λ n other. h n))

gone_numbered : (ns : List NodeId) (f : ℕ → Bool) → AllByRecursion IsNode ns → ((n : ℕ) → f n ≡ true → Numbered n) → (n : ℕ) → with_gone ns f n ≡ true → Numbered n
gone_numbered [] f all h = h
gone_numbered (x ∷ ns) f all h = gone_numbered ns _ all.1 (put_all (λ n (b : Bool). b ≡ true → Numbered n) x.0 true f (λ is. all.0) (λ n other. h n))

-- ---- after an entry

module _ (e : LogEntry) (q : Ledger) (fits : IsLogEntry e) (typed : All HasInstances e.leases) (readable : IsReadable q) (f : Followed q.ceiling e) where
  asked : All IsAsked e.leases
  asked = all_from_in IsAsked e.leases (λ g i. asked_is g (each_in IsLease e.leases fits.leases g i) (all_in HasInstances e.leases typed g i) (each_passes is_coherent e.leases f.leases g i))

  retired_private : (s : Slot) → with_retired e.retired q.retired s ≡ true → is_private s.folder.mode ≡ true
  retired_private s h = elim (or_cases (q.retired s) (among e.retired s) h) [
    | inl was ↦ readable.retired s was
    | inr new ↦ (let x = from_any (λ (x : Slot). slot_eq x s) e.retired new in
        subst (λ (z : Slot). is_private z.folder.mode ≡ true) (slot_eq_is x.0 s x.2) (each_passes (λ (s : Slot). is_private s.folder.mode) e.retired f.retired x.0 x.1))
  ]

  abbrev Counted : LineVersion → Type 0
  Counted v = 1 ≤ v.ticket.0

  abbrev UpTo : LineVersion → Type 0
  UpTo v = v.ticket.0 ≤ e.last.0

  new_counted : (l : SlotLine) → In l e.lines → All Counted l.line
  new_counted l i = All-from_recursion Counted l.line (each_in IsSlotLine e.lines fits.lines l i).versions

  new_up_to : (l : SlotLine) → In l e.lines → All UpTo l.line
  new_up_to l i =
      let low = each_passes (λ (l : SlotLine). versions_up_to e.last.0 l.line) e.lines f.lines l i in
      all_from_in UpTo l.line (λ v k. leb-true v.ticket.0 e.last.0 (each_passes (λ (v : LineVersion). leb v.ticket.0 e.last.0) l.line low v k))

  changed_readable : (line : LineOf) (live : List Lease) → with_versions e.lines q.line ≡ Ok line → with_leases e.ended e.leases q.live ≡ Ok live → IsReadable (changed e line live q)
  changed_readable line live lines leases =
      let left = leases_fit IsAsked e.ended e.leases q.live live leases (record { tickets = readable.tickets; each = readable.leases }) fits.leases_rise asked in
      record {
        tickets = left.tickets;
        leases = left.each;
        retired = retired_private;
        versions = each_version Counted e.lines q.line line lines new_counted readable.versions;
        past = each_version UpTo e.lines q.line line lines new_up_to (λ s k d lt. (let under = readable.past s k d lt in omega (arith, under, f.low)));
        home = λ h is. home_is e.old_home h is fits.home;
        lives = lives_numbered e.lives q.lives fits.lives readable.lives;
        gone = gone_numbered e.retired_nodes q.gone fits.nodes readable.gone;
      }

-- the steps of an entry, each of which went well
pub entry_gives : (e : LogEntry) (q : Ledger) (line : LineOf) (live : List Lease) (next : Ledger) → may_follow q.ceiling e ≡ true → with_versions e.lines q.line ≡ Ok line → with_leases e.ended e.leases q.live ≡ Ok live
    → changed e line live q ≡ next → with_entry e q ≡ Ok next
entry_gives e q line live next follow lines leases made =
    let first : with_entry e q ≡ (with_versions e.lines q.line >>= λ line. with_leases e.ended e.leases q.live >>= λ live. Ok (changed e line live q)) = rw follow refl in
    first ∙ ap (λ (r : Result LineOf RecordRefusal). r >>= λ line. with_leases e.ended e.leases q.live >>= λ live. Ok (changed e line live q)) lines
    ∙ ap (λ (r : Result (List Lease) RecordRefusal). r >>= λ live. Ok (changed e line live q)) leases ∙ ap Ok made

entry_readable : (e : LogEntry) (q next : Ledger) → IsLogEntry e → All HasInstances e.leases → IsReadable q → with_entry e q ≡ Ok next → IsReadable next
entry_readable e q next fits typed readable h =
    let p = test_ok (may_follow q.ceiling e) (NotCanonical Relation) (with_versions e.lines q.line >>= λ line. with_leases e.ended e.leases q.live >>= λ live. Ok (changed e line live q)) next h in
    let a = bind_ok (with_versions e.lines q.line) (λ line. with_leases e.ended e.leases q.live >>= λ live. Ok (changed e line live q)) next p.1 in
    let b = bind_ok (with_leases e.ended e.leases q.live) (λ live. Ok (changed e a.0 live q)) next a.2 in
    subst IsReadable (ok_is {E = RecordRefusal} (changed e a.0 b.0 q) next b.2) (changed_readable e q fits typed readable (followed q.ceiling e p.0) a.0 b.0 a.1 b.1)

-- so where a function gave it
pub given_readable : (e : LogEntry) (q : Ledger) (r : Result Folded RecordRefusal) → IsLogEntry e → All HasInstances e.leases → IsReadable q → Gives folded_ledger r (with_entry e q) → IfOk r (λ f. IsReadable (folded_ledger f))
given_readable e q (Ok f) fits typed readable given = entry_readable e q (folded_ledger f) fits typed readable given
given_readable e q (Err d) fits typed readable given = tt

-- ---- a whole record

-- of leases that are apart, tickets rise
pub pairs_of : (leases : List Lease) → AllApart leases → AllPairs IsBefore leases
pairs_of [] all = λ i j d lt inside. absurd (omega arith)
pairs_of (g ∷ leases) all = AllPairs-cons IsBefore g leases (all_from_in (IsBefore g) leases (λ h i. (all.0 h i).ticket)) (pairs_of leases all.1)

pub kept_readable : (r : Record) → IsKept r → IsReadable (reads (saves (ledger_of r)))
kept_readable r kept =
    let holder : (g : Lease) → In g r.leases → IsHolder NODES (life_at r.lives) (is_among r.retired_nodes) (among r.retired) g = kept.lawful.core.holders in
    let asked : All IsAsked r.leases = all_from_in IsAsked r.leases (λ g i. record {
      speaker = (holder g i).asker.speaker;
      ask = (holder g i).asker.ask;
      ticket = (holder g i).ticket;
      wants = (holder g i).wants;
      rise = all_in Rises r.leases kept.slots_rise g i;
    }) in
    record {
      tickets = AllPairs-filter IsBefore is_saved r.leases (pairs_of r.leases kept.lawful.core.apart);
      leases = All-filter is_saved IsAsked r.leases asked;
      retired = kept.lawful.core.retired;
      versions = λ s. all_from_in (λ (v : LineVersion). 1 ≤ v.ticket.0) (line_at r.lines s) (kept.lawful.core.versions s);
      past = kept.past;
      home = kept.lawful.core.home;
      lives = kept.lawful.core.lives;
      gone = kept.lawful.core.gone;
    }

-- ---- the leases of a lawful ledger fit it

pub above_all : (t : Ticket) (vs : List LineVersion) → All (λ v. v.ticket.0 < t.0) vs → is_above_all t vs ≡ true
above_all t vs all = passes_from_in (λ (v : LineVersion). ltb v.ticket.0 t.0) vs (λ v j. lt-ltb v.ticket.0 t.0 (all_in (λ (v : LineVersion). v.ticket.0 < t.0) vs all v j))

pub lawful_agrees : (q : Ledger) → IsLawful NODES q → All (IsOpen q.line) q.live → (list_all (fits q) q.live && no_two clash q.live) ≡ true
lawful_agrees q lawful ahead = and_from _ _ (passes_from_in (fits q) q.live fit) (none_clash q.live lawful.core.apart)
  where
    fit : (g : Lease) → In g q.live → fits q g ≡ true
    fit g i =
        let h = lawful.core.holders g i in
        let opened : IsOpen q.line g = all_in (IsOpen q.line) q.live ahead g i in
        let has : (x : Slot × Bool) → In x g.slots → has_slot g.slots x.0 ≡ true = λ x j. any_in (λ (y : Slot × Bool). slot_eq y.0 x.0) x g.slots j (slot_eq_same x.0) in
        and_from _ _ (le-leb g.ticket.0 q.last (lawful.core.given g i))
        (and_from _ _ (eq-eqb (q.lives g.node.0) g.life.0 h.asker.life)
        (and_from _ _ (not_from_false (q.gone g.node.0) h.asker.stays)
        (and_from _ _ (not_from_false (some_retired q.retired g) (none_from_in (λ (x : Slot × Bool). q.retired x.0) g.slots (λ x j. h.kept x.0 (has x j))))
        (passes_from_in (λ (x : Slot × Bool). is_above_all g.ticket (q.line x.0)) g.slots (λ x j. above_all g.ticket (q.line x.0) (opened x.0 (has x j)))))))

-- ---- the record that is made

record Fitted (q : Ledger) (g : Lease) : Type 0 where
  given : g.ticket.0 ≤ q.last
  life : q.lives g.node.0 ≡ g.life.0
  stays : q.gone g.node.0 ≡ false
  unretired : some_retired q.retired g ≡ false
  opened : is_open q.line g ≡ true

fitted : (q : Ledger) (g : Lease) → fits q g ≡ true → Fitted q g
fitted q g h =
    let a = and_parts _ _ h in
    let b = and_parts _ _ a.1 in
    let c = and_parts _ _ b.1 in
    let d = and_parts _ _ c.1 in
    record {
      given = leb-true g.ticket.0 q.last a.0;
      life = eqb-true (q.lives g.node.0) g.life.0 b.0;
      stays = not-true (q.gone g.node.0) c.0;
      unretired = not-true (some_retired q.retired g) d.0;
      opened = d.1;
    }

open_is : (line : LineOf) (g : Lease) → is_open line g ≡ true → IsOpen line g
open_is line g h s i =
    let x = from_any (λ (x : Slot × Bool). slot_eq x.0 s) g.slots i in
    let above : is_above_all g.ticket (line x.0.0) ≡ true = each_passes (λ (x : Slot × Bool). is_above_all g.ticket (line x.0)) g.slots h x.0 x.1 in
    let here : is_above_all g.ticket (line s) ≡ true = subst (λ (z : Slot). is_above_all g.ticket (line z) ≡ true) (slot_eq_is x.0.0 s x.2) above in
    all_from_in (λ (v : LineVersion). v.ticket.0 < g.ticket.0) (line s) (λ v j. ltb-true v.ticket.0 g.ticket.0 (each_passes (λ (v : LineVersion). ltb v.ticket.0 g.ticket.0) (line s) here v j))

holder_is : (q : Ledger) (g : Lease) → IsAsked g → Fitted q g → IsHolder NODES q.lives q.gone q.retired g
holder_is q g asked f = record {
  asker = record { speaker = asked.speaker; ask = asked.ask; life = f.life; stays = f.stays };
  ticket = asked.ticket;
  wants = asked.wants;
  kept = λ s has.
      (let x = from_any (λ (x : Slot × Bool). slot_eq x.0 s) g.slots has in
      subst (λ (z : Slot). q.retired z ≡ false) (slot_eq_is x.0.0 s x.2) (any_none (λ (x : Slot × Bool). q.retired x.0) x.0 g.slots f.unretired x.1));
}

pub made_kept : (r : Record) → IsReadable (ledger_of r) → AreLives r.lives → IsStrictlyIncreasing (map (λ n. n.0) r.retired_nodes) → IsStrictlySortedBy slot_cmp r.retired → AreLines r.lines
    → list_all (fits (ledger_of r)) r.leases ≡ true → no_two clash r.leases ≡ true → IsKept r
made_kept r readable lives nodes retired lines all apart = record {
  lawful = record { core = core; parked = record { each = λ p i. absurd i; waits = tt } };
  lives_rise = lives.rise;
  lives = lives.counted;
  nodes_rise = nodes;
  retired_rise = retired;
  slots_rise = all_from_in Rises r.leases (λ g i. (asked g i).rise);
  lines = lines;
  past = readable.past;
  ahead = all_from_in (IsOpen (line_at r.lines)) r.leases (λ g i. open_is (line_at r.lines) g (fit g i).opened);
}
  where
    asked : (g : Lease) → In g r.leases → IsAsked g
    asked = all_in IsAsked r.leases readable.leases

    fit : (g : Lease) → In g r.leases → Fitted (ledger_of r) g
    fit g i = fitted (ledger_of r) g (each_passes (fits (ledger_of r)) r.leases all g i)

    core : IsCore NODES (ledger_of r)
    core = record {
      holders = λ g i. holder_is (ledger_of r) g (asked g i) (fit g i);
      apart = all_apart r.leases (sorted_from_strictly_increasing (map (λ (g : Lease). g.ticket.0) r.leases) (tickets_rise r.leases readable.tickets)) apart;
      given = λ g i. (fit g i).given;
      retired = readable.retired;
      versions = λ s. all_in (λ (v : LineVersion). 1 ≤ v.ticket.0) (line_at r.lines s) (readable.versions s);
      block = omega arith;
      home = readable.home;
      lives = readable.lives;
      gone = readable.gone;
    }

-- ---- a record of a farm where nothing happened

nothing_rises : IsStrictlyIncreasing []
nothing_rises = λ k h. absurd (omega (arith, h))

nothing_sorted : IsStrictlySortedBy slot_cmp []
unfolding IsStrictlySortedBy
nothing_sorted = tt

pub blank_kept : IsKept blank
blank_kept = record {
  lawful = (every_opening_is_lawful content_digest NODES 0 (omega arith)).ledger;
  lives_rise = nothing_rises;
  lives = λ k d lt. absurd (omega arith);
  nodes_rise = nothing_rises;
  retired_rise = nothing_sorted;
  slots_rise = λ k d lt. absurd (omega arith);
  lines = record { rise = nothing_sorted; filled = λ k d lt. absurd (omega arith); tickets = λ k d lt. absurd (omega arith) };
  past = λ s k d lt. absurd (omega arith);
  ahead = λ k d lt. absurd (omega arith);
}
