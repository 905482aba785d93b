-- The entry of what an event changed can be written, and behind texts that hold the ledger before it holds the one after.
use mathlib.Core.Path.{fun_ext}
use Rattle.std.proofs.Common.{◌≡◌, ◌≢◌, ℕ, zero, suc, ◌<◌, ◌≤◌, ◌-◌, List, [], ◌∷◌, ◌++◌, Bool, true, false, not, ◌||◌, eqb, leb, length, map, filter, Ok, Result, inl, inr, refl, sym, ap, ◌∙◌, subst, arith}
use Rattle.std.specs.Prelude.{All, slice_get, is_some}
use Rattle.std.specs.List.{AllByRecursion}
use Rattle.std.specs.List.Sorted.{IsStrictlyIncreasing, IsStrictlySortedBy}
use Rattle.std.specs.Ordering.{nat_cmp}
use Rattle.std.specs.declared.cmp.Ordering.TheVariants.{Less}
use Rattle.std.proofs.Math.Bool.{or-true}
use Rattle.std.proofs.lemmas.Bool.{cases_Bool, and_from, eqb-true, ne_eqb, le-leb, lt-ltb}
use Rattle.std.proofs.lemmas.List.Elements.{All-head, All-tail}
use Rattle.std.proofs.lemmas.Map.Keys.{sorted_from_strictly_increasing, IsStrictlyIncreasing-from_sorted}
use Rattle.codec.specs.Steps.{◌>>=◌}
use Rattle.farm_base.specs.declared.lease.NodeLife.{NodeLife}
use Rattle.names.specs.declared.limits.TheConstants.{NODES}
use Rattle.holdings.specs.Leases.{Rises}
use Rattle.holdings.specs.Leases.{among}
use Rattle.lists.proofs.Rising.{less-from_cmp}
use Rattle.protocol.specs.Lists.{In, put}
use Rattle.protocol.specs.Names.{Slot, slot_eq, is_private, NodeId, Ticket}
use Rattle.protocol.specs.Machine.{LineVersion}
use Rattle.protocol.specs.Ledger.{Ledger, Lease, Saved, saves, reads, has_ticket, lease_under, without, is_saved}
use Rattle.protocol.specs.Lawful.{AllApart, IsHolder}
use Rattle.protocol.proofs.Base.{all_in, any_in, in_map, in_right, put_same, slot_eq_same}
use Rattle.versions.specs.Lines.{LineOf, line_at}
use Rattle.versions.specs.declared.lines.SlotLine.{SlotLine}
use Rattle.versions.proofs.Ordered.{Rise}
use Rattle.saverecord.specs.declared.log_entry.LogEntry.{LogEntry}
use Rattle.recordparts.specs.declared.refusal.Flaw.TheVariants.{Relation}
use Rattle.recordparts.specs.declared.refusal.RecordRefusal.{RecordRefusal}
use Rattle.recordparts.specs.Fits.{IsNode}
use Rattle.recordlists.specs.EntryFits.{IsTicket, IsNodeLife, IsLease, IsVersion, IsSlotLine}
use Rattle.saverecord.specs.LogEntries.{entry_of, IsLogEntry}
use Rattle.saverecord.specs.Logs.{Holds, Follows, IsChange, IsSaved, AreInOrder, is_ended, with_versions, without_one, without_all, ticket_of, are_newer, with_leases, with_lives, with_gone, is_coherent, may_follow, changed, with_entry, after_text}
use Rattle.recordparts.specs.Parts.{passed}
use Rattle.recordlists.specs.Relations.{versions_up_to}
use Rattle.saverecord.specs.Texts.{Texts, with_text}
use Rattle.saverecord.proofs.FoldLemmas.{entry_gives, lawful_agrees}
use Rattle.saverecord.proofs.KeptLemmas.{home_fits, lease_folders, lease_is, own_folders, tenure_fits, tickets_rise}
use Rattle.saverecord.proofs.LedgerLemmas.{each_in, each_from_in, passes_from_in, line_in}
use Rattle.saverecord.proofs.LogLemmas.{added_all, agreed_is, filter_saved, pushed_in, read_saved}

-- ---- leases that ended

filter_two : (t : Ticket) (ts : List Ticket) (live : List Lease) → filter (λ g. not (is_ended ts g)) (without t live) ≡ filter (λ g. not (is_ended (t ∷ ts) g)) live
filter_two t ts [] = refl
filter_two t ts (g ∷ live) = elim (cases_Bool (has_ticket t g)) [
  | inl e ↦ rw e (filter_two t ts live)
  | inr e ↦ elim (cases_Bool (is_ended ts g)) [
    | inl f ↦ rw (e, f) (filter_two t ts live)
    | inr f ↦ rw (e, f) (ap (λ (gs : List Lease). g ∷ gs) (filter_two t ts live))
  ]
]

none_ended : (live : List Lease) → filter (λ g. not (is_ended [] g)) live ≡ live
none_ended [] = refl
none_ended (g ∷ live) = ap (λ (gs : List Lease). g ∷ gs) (none_ended live)

-- a lease of another ticket stays
stays_under : (t u : Ticket) → t.0 ≢ u.0 → (live : List Lease) → lease_under (without t live) u ≡ lease_under live u
stays_under t u apart [] = refl
stays_under t u apart (g ∷ live) = elim (cases_Bool (has_ticket t g)) [
  | inl e ↦ (
      let same : g.ticket.0 ≡ t.0 = eqb-true g.ticket.0 t.0 e in
      let other : has_ticket u g ≡ false = ne_eqb g.ticket.0 u.0 (λ h. apart (sym same ∙ h)) in
      rw (e, other) (stays_under t u apart live))
  | inr e ↦ elim (cases_Bool (has_ticket u g)) [
    | inl f ↦ rw (e, f) refl
    | inr f ↦ rw (e, f) (stays_under t u apart live)
  ]
]

without_each : (ts : List Ticket) (live : List Lease) → IsStrictlySortedBy nat_cmp (map (λ t. t.0) ts) → ((t : Ticket) → In t ts → is_some (lease_under live t) ≡ true) → without_all ts live ≡ Ok (filter (λ g. not (is_ended ts g)) live)
unfolding IsStrictlySortedBy
without_each [] live up there = ap Ok (sym (none_ended live))
without_each (t ∷ ts) live up there =
    let one : without_one t live ≡ Ok (without t live) = rw (there t (inl refl)) refl in
    let key : Ticket → ℕ = λ u. u.0 in
    let others : (u : Ticket) → In u ts → is_some (lease_under (without t live) u) ≡ true = λ u i.
    (let less : t.0 < u.0 = less-from_cmp t.0 u.0 (each_in (λ n. nat_cmp t.0 n ≡ Less) (map key ts) up.0 u.0 (in_map key u ts i)) in
    ap is_some (stays_under t u (λ same. omega arith) live) ∙ there u (inr i)) in
    ap (λ (r : Result (List Lease) RecordRefusal). r >>= without_all ts) one ∙ without_each ts (without t live) up.1 others ∙ ap Ok (filter_two t ts live)

-- ---- leases that were granted

newest_below : (left : List Lease) (k n : ℕ) → 1 ≤ n → ((h : Lease) → In h left → h.ticket.0 < n) → ticket_of (slice_get left k) < n
newest_below [] k n some below = some
newest_below (x ∷ left) zero n some below = below x (inl refl)
newest_below (x ∷ left) (suc k) n some below = newest_below left k n some (λ h i. below h (inr i))

tickets_apart : (left more : List Lease) → AllApart (left ++ more) → (h g : Lease) → In h left → In g more → h.ticket.0 < g.ticket.0
tickets_apart [] more all h g i j = absurd i
tickets_apart (x ∷ left) more all h g (inl e) j = (let above = (all.0 g (in_right g left more j)).ticket in subst (λ (z : Lease). z.ticket.0 < g.ticket.0) (sym e) above)
tickets_apart (x ∷ left) more all h g (inr i) j = tickets_apart left more all.1 h g i j

apart_behind : (left more : List Lease) → AllApart (left ++ more) → AllApart more
apart_behind [] more all = all
apart_behind (x ∷ left) more all = apart_behind left more all.1

-- ---- what changed

module _ (before after : Saved) (e : LogEntry) (saved : IsSaved after) (change : IsChange before after e) where
  abbrev left : List Lease
  left = filter (λ g. not (is_ended e.ended g)) before.live

  granted : (g : Lease) → In g e.leases → In g after.live
  granted g i = subst (In g) (sym change.live) (in_right g left e.leases i)

  holder : (g : Lease) → In g e.leases → IsHolder NODES after.lives after.gone after.retired g
  holder g i = saved.lawful.core.holders g (granted g i)

  coherent : (g : Lease) → In g e.leases → is_coherent g ≡ true
  coherent g i =
      let w = (holder g i).wants in
      and_from _ _ (all_in (λ (g : Lease). is_saved g ≡ true) after.live saved.each g (granted g i)) (and_from _ _ (own_folders g.slots (lease_folders g w)) (tenure_fits g.tenure g.slots w.0 w.1 w.2))

  slot_private : (s : Slot) → In s e.retired → is_private s.folder.mode ≡ true
  slot_private s i =
      let new : among e.retired s ≡ true = any_in (λ (x : Slot). slot_eq x s) s e.retired i (slot_eq_same s) in
      saved.lawful.core.retired s (change.retired s ∙ ap (λ b. before.retired s || b) new ∙ or-true (before.retired s))

  apart : AllApart (left ++ e.leases)
  apart = subst AllApart change.live saved.lawful.core.apart

  newer : are_newer left e.leases ≡ true
  newer = passes_from_in _ e.leases (λ g i. lt-ltb (ticket_of (slice_get left (length left - 1))) g.ticket.0 (newest_below left (length left - 1) g.ticket.0 (holder g i).ticket (λ h j. tickets_apart left e.leases apart h g j i)))

  -- the versions of an entry's line stand on that of its slot
  added : Rise e.lines → (l : SlotLine) → In l e.lines → (v : LineVersion) → In v l.line → In v (after.line l.slot)
  added up l i v j = subst (In v) (sym (change.line l.slot)) (in_right v (before.line l.slot) (line_at e.lines l.slot) (subst (In v) (sym (line_in e.lines up l i)) j))

-- ---- the entry can be written

lives_kept : (xs : List NodeLife) (f : ℕ → ℕ) (n : ℕ) → All (λ x. 1 ≤ x.life.0) xs → 1 ≤ f n → 1 ≤ with_lives xs f n
lives_kept [] f n all h = h
lives_kept (x ∷ xs) f n all h = lives_kept xs (put x.node.0 x.life.0 f) n (All-tail (λ (x : NodeLife). 1 ≤ x.life.0) x xs all) (elim (cases_Bool (eqb n x.node.0)) [
  | inl e ↦ rw e (All-head (λ (x : NodeLife). 1 ≤ x.life.0) x xs all)
  | inr e ↦ rw e h
])

lives_there : (xs : List NodeLife) (f : ℕ → ℕ) (x : NodeLife) → All (λ x. 1 ≤ x.life.0) xs → In x xs → 1 ≤ with_lives xs f x.node.0
lives_there [] f x all i = absurd i
lives_there (y ∷ xs) f x all (inl e) =
    let here : 1 ≤ put y.node.0 y.life.0 f y.node.0 = rw (put_same y.node.0 y.life.0 f) (All-head (λ (x : NodeLife). 1 ≤ x.life.0) y xs all) in
    subst (λ (z : NodeLife). 1 ≤ with_lives xs (put y.node.0 y.life.0 f) z.node.0) (sym e) (lives_kept xs (put y.node.0 y.life.0 f) y.node.0 (All-tail (λ (x : NodeLife). 1 ≤ x.life.0) y xs all) here)
lives_there (y ∷ xs) f x all (inr i) = lives_there xs (put y.node.0 y.life.0 f) x (All-tail (λ (x : NodeLife). 1 ≤ x.life.0) y xs all) i

gone_kept : (ns : List NodeId) (f : ℕ → Bool) (n : ℕ) → f n ≡ true → with_gone ns f n ≡ true
gone_kept [] f n h = h
gone_kept (x ∷ ns) f n h = gone_kept ns (put x.0 true f) n (elim (cases_Bool (eqb n x.0)) [ inl e ↦ rw e refl | inr e ↦ rw e h ])

gone_there : (ns : List NodeId) (f : ℕ → Bool) (x : NodeId) → In x ns → with_gone ns f x.0 ≡ true
gone_there [] f x i = absurd i
gone_there (y ∷ ns) f x (inl e) = subst (λ (z : NodeId). with_gone ns (put y.0 true f) z.0 ≡ true) (sym e) (gone_kept ns (put y.0 true f) y.0 (put_same y.0 true f))
gone_there (y ∷ ns) f x (inr i) = gone_there ns (put y.0 true f) x i

ticket_counted : (t : Ticket) (live : List Lease) → ((g : Lease) → In g live → 1 ≤ g.ticket.0) → is_some (lease_under live t) ≡ true → 1 ≤ t.0
ticket_counted t [] each h = absurd (cc h)
ticket_counted t (g ∷ live) each h = elim (cases_Bool (has_ticket t g)) [
  | inl e ↦ subst (λ n. 1 ≤ n) (eqb-true g.ticket.0 t.0 e) (each g (inl refl))
  | inr e ↦ ticket_counted t live (λ x i. each x (inr i)) (rw e at h)
]

one_rises : (n : ℕ) → IsStrictlyIncreasing (n ∷ [])
one_rises n k inside = absurd (omega (arith, inside))

one_line : (l : SlotLine) (v : LineVersion) → l.line ≡ v ∷ [] → 1 ≤ v.ticket.0 → IsSlotLine l
one_line l v e counted = record {
  some = subst (λ (vs : List LineVersion). 1 ≤ length vs) (sym e) (omega arith);
  rise = subst (λ (vs : List LineVersion). IsStrictlyIncreasing (map (λ v. v.ticket.0) vs)) (sym e) (one_rises v.ticket.0);
  versions = subst (AllByRecursion IsVersion) (sym e) (counted, tt);
}

pub change_is_entry : (before after : Saved) (e : LogEntry) → IsSaved before → IsSaved after → AreInOrder e → IsChange before after e → IsLogEntry e
change_is_entry before after e was saved order change = record {
  home = home_fits e.old_home (λ h is. saved.lawful.core.home h (sym change.old_home ∙ is));
  lives_rise = order.lives_rise;
  lives = each_from_in IsNodeLife e.lives (λ x i. record {
    node = saved.lawful.core.lives x.node.0 (subst (λ (f : ℕ → ℕ). 1 ≤ f x.node.0) (sym change.lives) (lives_there e.lives before.lives x order.counted i));
    life = all_in (λ (x : NodeLife). 1 ≤ x.life.0) e.lives order.counted x i;
  });
  nodes_rise = order.nodes_rise;
  nodes = each_from_in IsNode e.retired_nodes (λ n i. saved.lawful.core.gone n.0 (ap (λ (f : ℕ → Bool). f n.0) change.gone ∙ gone_there e.retired_nodes before.gone n i));
  ended_rise = order.ended_rise;
  ended = each_from_in IsTicket e.ended (λ t i. ticket_counted t before.live (λ g j. (was.lawful.core.holders g j).ticket) (all_in (λ t. is_some (lease_under before.live t) ≡ true) e.ended change.ended t i));
  leases_rise = IsStrictlyIncreasing-from_sorted (map (λ (g : Lease). g.ticket.0) e.leases) (tickets_rise e.leases (apart_behind (left before after e saved change) e.leases (apart before after e saved change)));
  leases = each_from_in IsLease e.leases (λ g i. lease_is g (holder before after e saved change g i) (all_in Rises after.live saved.rise g (granted before after e saved change g i)));
  retired_rise = order.retired_rise;
  lines_rise = order.lines_rise;
  lines = each_from_in IsSlotLine e.lines (λ l i.
      (let f = all_in (Follows before.line) e.lines change.above l i in
      one_line l f.0 f.1 (saved.lawful.core.versions l.slot f.0 (added before after e saved change order.lines_rise l i f.0 (subst (In f.0) (sym f.1) (inl refl))))));
}

-- ---- the entry behind the texts

module _ (before after : Saved) (e : LogEntry) (fits : IsLogEntry e) (saved : IsSaved after) (change : IsChange before after e) where
  abbrev rest : List Lease
  rest = left before after e saved change

  abbrev line : LineOf
  line x = before.line x ++ line_at e.lines x

  line_low : (l : SlotLine) → In l e.lines → versions_up_to e.last.0 l.line ≡ true
  line_low l i = passes_from_in (λ (v : LineVersion). leb v.ticket.0 e.last.0) l.line (λ v j. le-leb v.ticket.0 e.last.0
      (subst (λ n. v.ticket.0 ≤ n) (sym change.last) (all_in (λ (v : LineVersion). v.ticket.0 ≤ after.ceiling) (after.line l.slot) (saved.past l.slot) v (added before after e saved change fits.lines_rise l i v j))))

  follows : may_follow before.ceiling e ≡ true
  follows = and_from _ _ (le-leb before.ceiling e.last.0 (subst (λ n. before.ceiling ≤ n) (sym change.last) change.rises))
      (and_from _ _ (passes_from_in (λ (l : SlotLine). versions_up_to e.last.0 l.line) e.lines line_low)
      (and_from _ _ (passes_from_in (λ (s : Slot). is_private s.folder.mode) e.retired (slot_private before after e saved change)) (passes_from_in is_coherent e.leases (coherent before after e saved change))))

  lines_are : with_versions e.lines before.line ≡ Ok line
  lines_are = added_all e.lines before.line fits.lines_rise (all_in (Follows before.line) e.lines change.above)

  leases_are : with_leases e.ended e.leases before.live ≡ Ok (rest ++ e.leases)
  leases_are =
      ap (λ (r : Result (List Lease) RecordRefusal). r >>= λ left. passed Relation (are_newer left e.leases) (left ++ e.leases)) (without_each e.ended before.live (sorted_from_strictly_increasing (map (λ (t : Ticket). t.0) e.ended) fits.ended_rise) (all_in (λ t. is_some (lease_under before.live t) ≡ true) e.ended change.ended))
      ∙ (rw (newer before after e saved change) refl)

  same : changed e line (rest ++ e.leases) (reads before) ≡ reads after
  same = λ i. record {
    live = sym change.live i;
    retired = fun_ext (λ s. sym (change.retired s)) i;
    gone = sym change.gone i;
    line = fun_ext (λ s. sym (change.line s)) i;
    last = change.last i;
    ceiling = change.last i;
    old_home = change.old_home i;
    lives = sym change.lives i;
    parked = [];
  }

  entry_after : with_entry e (reads before) ≡ Ok (reads after)
  entry_after = entry_gives e (reads before) line (rest ++ e.leases) (reads after) follows lines_are leases_are same

  -- behind a ledger of which that is saved, as texts hold it
  entry_behind : (k : Ledger) → filter is_saved k.live ≡ k.live → saves k ≡ before → with_entry e k ≡ Ok (reads after)
  entry_behind k all is = ap (λ (gs : List Lease). with_entry e (record k { live = gs })) (sym all) ∙ ap (λ (s : Saved). with_entry e (reads s)) is ∙ entry_after

  saved_again : saves (reads after) ≡ after
  saved_again = ap (λ gs. record after { live = gs }) (filter_saved after.live saved.each)

pub entry_holds : (before after : Saved) (e : LogEntry) → IsLogEntry e → IsSaved after → IsChange before after e → (text : List ℕ) → entry_of text ≡ Ok e → (t : Texts) → Holds t before → Holds (with_text text t) after
entry_holds before after e fits saved change text is t h =
    let next : with_entry e h.kept ≡ Ok (reads after) = entry_behind before after e fits saved change h.kept (filter_saved h.kept.live (read_saved t h.kept h.read)) h.saved in
    let read : after_text text h.kept ≡ Ok (reads after) = ap (λ (r : Result LogEntry RecordRefusal). r >>= λ e. with_entry e h.kept) is ∙ next in
    let fit = agreed_is (reads after) (lawful_agrees (reads after) saved.lawful saved.ahead) in
    record { kept = reads after; read = pushed_in t text h.kept (reads after) h.read read fit; saved = saved_again before after e fits saved change }
