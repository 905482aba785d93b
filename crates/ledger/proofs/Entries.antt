-- What an entry has of an event: the leases that ended and were granted, the lines that it adds.
use Rattle.std.proofs.Common.{◌≡◌, ◌≢◌, ◌<◌, ℕ, Bool, List, [], ◌∷◌, ◌++◌, true, false, not, eq-eqb, filter, Option, Some, None, is_some, inl, inr, refl, sym, ap, ◌∙◌, subst, arith}
use Rattle.std.specs.Prelude.{All, AllPairs, map, ◌&&◌}
use Rattle.std.specs.List.Sorted.{IsStrictlyIncreasing}
use Rattle.std.proofs.lemmas.Bool.{cases_Bool, ne_eqb}
use Rattle.std.proofs.lemmas.List.{append-nil}
use Rattle.std.proofs.lemmas.List.Elements.{All-filter, filter-append}
use Rattle.std.proofs.lemmas.List.Kept.{AllPairs-filter}
use Rattle.names.specs.declared.limits.TheConstants.{NODES}
use Rattle.holdings.specs.Endings.{has_ended}
use Rattle.leases.specs.Changes.{saved_tickets}
use Rattle.holdings.specs.declared.ending.Ending.{Ending}
use Rattle.holdings.specs.Leases.{IsBefore, IsOpen, Rises}
use Rattle.holdings.proofs.LeaseLemmas.{AllPairs-head, AllPairs-tail, tickets_rise}
use Rattle.protocol.specs.Farm.{farm_limits}
use Rattle.protocol.specs.Lists.{In}
use Rattle.protocol.specs.Names.{Slot, slot_eq, Ticket}
use Rattle.protocol.specs.Machine.{digest_for, version_of}
use Rattle.protocol.specs.Ledger.{Ledger, Lease, is_saved, saves, has_ticket, lease_under}
use Rattle.protocol.proofs.Base.{all_in, any_in, eqb_same, from_filter, from_map, in_filter, in_map, slot_eq_is, true_false}
use Rattle.protocol.proofs.Lawfulness.{every_ledger_stays_lawful}
use Rattle.versions.specs.Additions.{AreReady, IsReady}
use Rattle.versions.specs.Line.{is_above_all}
use Rattle.versions.specs.Lines.{LineOf, line_at, news_of}
use Rattle.versions.specs.Ordered.{AreLines}
use Rattle.versions.specs.declared.lines.Added.{Added}
use Rattle.versions.specs.declared.lines.Addition.{Addition}
use Rattle.versions.specs.declared.lines.SlotLine.{SlotLine}
use Rattle.saverecord.specs.Logs.{Follows, IsSaved}
use Rattle.saverecord.specs.Logs.{is_ended}
use Rattle.saverecord.proofs.FoldLemmas.{above_all}
use Rattle.saverecord.proofs.LedgerLemmas.{all_from_in, line_in, none_from_in}
use Rattle.effects.specs.Shown.{lines_with}
use Rattle.effects.specs.Sound.{IsRightful}
use Rattle.ledger.proofs.Records.{up_to}

-- ---- the lines that an event adds

-- the lines with what is added are the lines, followed by what is added
pub split_lines : (lines : List SlotLine) (o : Option Added) (s : Slot) → lines_with lines o s ≡ line_at lines s ++ lines_with [] o s
split_lines lines None s = sym (append-nil (line_at lines s))
split_lines lines (Some a) s = refl

none_ready : (lines : List SlotLine) (t : Ticket) (xs : List Addition) → AreReady lines t xs → AreReady [] t xs
none_ready lines t [] h = tt
none_ready lines t (a ∷ xs) h = (record { room = (let room = h.0.room in omega arith); line = h.0.line }, λ k d lt. absurd (omega arith), h.2, none_ready lines t xs h.3)

pub ready_alone : (lines : List SlotLine) (o : Option Added) → IsReady lines o → IsReady [] o
ready_alone lines None h = tt
ready_alone lines (Some a) h = none_ready lines a.ticket a.additions.items h

-- ---- what is added is above the lines

one_added : (lines : List SlotLine) (t : Ticket) (xs : List Addition) (l : SlotLine) → AreReady lines t xs → l.line ≡ version_of t (digest_for l.slot (map news_of xs)) → l.line ≢ [] → Follows (line_at lines) l
one_added lines t [] l ready is full = absurd (full is)
one_added lines t (a ∷ xs) l ready is full = elim (cases_Bool (slot_eq a.slot l.slot)) [
  | inl e ↦ (
      let line : l.line ≡ record { ticket = t; digest = a.digest } ∷ [] = rw e at is in
      let above : is_above_all t (line_at lines l.slot) ≡ true = subst (λ (z : Slot). is_above_all t (line_at lines z) ≡ true) (slot_eq_is a.slot l.slot e) (above_all t (line_at lines a.slot) ready.1) in
      (record { ticket = t; digest = a.digest }, line, above)
      )
  | inr e ↦ one_added lines t xs l ready.3 (rw e at is) full
]

each_added : (lines : List SlotLine) (o : Option Added) (l : SlotLine) → IsReady lines o → l.line ≡ lines_with [] o l.slot → l.line ≢ [] → Follows (line_at lines) l
each_added lines None l ready is full = absurd (full is)
each_added lines (Some a) l ready is full = one_added lines a.ticket a.additions.items l ready is full

-- each line that is added has one version, above those that its slot has
pub added_follow : (lines : List SlotLine) (o : Option Added) (more : List SlotLine) → IsReady lines o → AreLines more → line_at more ≡ lines_with [] o → All (Follows (line_at lines)) more
added_follow lines o more ready sound same = all_from_in (Follows (line_at lines)) more
    (λ l i. each_added lines o l ready (sym (line_in more sound.rise l i) ∙ ap (λ (f : LineOf). f l.slot) same) (all_in (λ (l : SlotLine). l.line ≢ []) more sound.filled l i))

-- ---- the leases that ended

-- rising tickets are of one lease each
pub own_tickets : (live : List Lease) → AllPairs IsBefore live → (x y : Lease) → In x live → In y live → x.ticket.0 ≡ y.ticket.0 → x ≡ y
own_tickets [] h x y i j e = absurd i
own_tickets (g ∷ live) h x y (inl i) (inl j) e = i ∙ sym j
own_tickets (g ∷ live) h x y (inl i) (inr j) e =
    let above : g.ticket.0 < y.ticket.0 = all_in (IsBefore g) live (AllPairs-head IsBefore g live h) y j in
    let same : x.ticket.0 ≡ g.ticket.0 = ap (λ (z : Lease). z.ticket.0) i in
    absurd (omega arith)
own_tickets (g ∷ live) h x y (inr i) (inl j) e =
    let above : g.ticket.0 < x.ticket.0 = all_in (IsBefore g) live (AllPairs-head IsBefore g live h) x i in
    let same : y.ticket.0 ≡ g.ticket.0 = ap (λ (z : Lease). z.ticket.0) j in
    absurd (omega arith)
own_tickets (g ∷ live) h x y (inr i) (inr j) e = own_tickets live (AllPairs-tail IsBefore g live h) x y i j e

-- a lease with the ticket is found
found_under : (live : List Lease) (t : Ticket) (g : Lease) → In g live → has_ticket t g ≡ true → is_some (lease_under live t) ≡ true
found_under [] t g i has = elim i [ ]
found_under (x ∷ live) t g (inl i) has = (let here : has_ticket t x ≡ true = ap (has_ticket t) (sym i) ∙ has in rw here refl)
found_under (x ∷ live) t g (inr i) has = elim (cases_Bool (has_ticket t x)) [
  | inl e ↦ rw e refl
  | inr e ↦ rw e (found_under live t g i has)
]

-- a ticket of these is that of a lease that ended and that the record has
of_saved : (ended : List Ending) (live : List Lease) (t : Ticket) → In t (saved_tickets ended live) → (g : Lease) × In g live × ((has_ended ended g && is_saved g) ≡ true) × (t ≡ g.ticket)
of_saved ended live t i =
    let g = from_map (λ (g : Lease). g.ticket) t (filter (λ g. has_ended ended g && is_saved g) live) i in
    let at = from_filter (λ g. has_ended ended g && is_saved g) g.0 live g.1 in
    (g.0, at.0, at.1, g.2)

second : (a b : Bool) → (a && b) ≡ true → b ≡ true
second true b h = h
second false b h = (let bad : false ≡ true = h in absurd (cc bad))

-- each ticket that ended is that of a lease that the record has
pub ended_there : (ended : List Ending) (live : List Lease) → All (λ t. is_some (lease_under (filter is_saved live) t) ≡ true) (saved_tickets ended live)
ended_there ended live = all_from_in (λ (t : Ticket). is_some (lease_under (filter is_saved live) t) ≡ true) (saved_tickets ended live)
    (λ t i. (let o = of_saved ended live t i in
    found_under (filter is_saved live) t o.0 (in_filter is_saved o.0 live o.1 (second _ _ o.2)) (eq-eqb o.0.ticket.0 t.0 (ap (λ (x : Ticket). x.0) (sym o.3)))))

-- the ticket of a lease is among these exactly where the lease ended and the record has it
listed : (ended : List Ending) (live : List Lease) → AllPairs IsBefore live → (g : Lease) → In g live → is_ended (saved_tickets ended live) g ≡ (has_ended ended g && is_saved g)
listed ended live up g i = elim (cases_Bool (has_ended ended g && is_saved g)) [
  | inl e ↦
      let there = in_map (λ (h : Lease). h.ticket) g (filter (λ h. has_ended ended h && is_saved h) live) (in_filter (λ h. has_ended ended h && is_saved h) g live i e) in
      any_in (λ (t : Ticket). has_ticket t g) g.ticket (saved_tickets ended live) there (eqb_same g.ticket.0) ∙ sym e
  | inr e ↦ none_from_in (λ (t : Ticket). has_ticket t g) (saved_tickets ended live)
      (λ t j. (let o = of_saved ended live t j in
      ne_eqb g.ticket.0 t.0 (λ same.
      (let one : g ≡ o.0 = own_tickets live up g o.0 i o.1 (same ∙ ap (λ (x : Ticket). x.0) o.3) in
      true_false (has_ended ended g && is_saved g) (ap (λ (h : Lease). has_ended ended h && is_saved h) one ∙ o.2) e)))) ∙ sym e
]

-- what is left of the saved leases without those that are listed
left_saved : (test : Lease → Bool) (ended : List Ending) (live : List Lease) → ((g : Lease) → In g live → test g ≡ (has_ended ended g && is_saved g))
    → filter is_saved (filter (λ g. not (has_ended ended g)) live) ≡ filter (λ g. not (test g)) (filter is_saved live)
left_saved test ended [] h = refl
left_saved test ended (g ∷ live) h =
    let rest = left_saved test ended live (λ x i. h x (inr i)) in
    let here = h g (inl refl) in
    elim (cases_Bool (is_saved g)) [
      | inl s ↦ elim (cases_Bool (has_ended ended g)) [
        | inl e ↦ (let gone : test g ≡ true = rw (e, s) at here in rw (s, e, gone) rest)
        | inr e ↦ (let stays : test g ≡ false = rw e at here in rw (e, s, stays) (ap (λ (gs : List Lease). g ∷ gs) rest))
      ]
      | inr s ↦ elim (cases_Bool (has_ended ended g)) [
        | inl e ↦ rw (e, s) rest
        | inr e ↦ rw (e, s) rest
      ]
    ]

-- the saved leases after an event: those before it without what ended, and those that were granted
pub live_after : (ended : List Ending) (live granted : List Lease) → AllPairs IsBefore live
    → filter is_saved (filter (λ g. not (has_ended ended g)) live ++ granted) ≡ filter (λ g. not (is_ended (saved_tickets ended live) g)) (filter is_saved live) ++ filter is_saved granted
live_after ended live granted up =
    filter-append is_saved (filter (λ g. not (has_ended ended g)) live) granted
    ∙ ap (λ (gs : List Lease). gs ++ filter is_saved granted) (left_saved (is_ended (saved_tickets ended live)) ended live (listed ended live up))

numbers_of : (gs : List Lease) → map (λ g. g.ticket.0) gs ≡ map (λ t. t.0) (map (λ g. g.ticket) gs)
numbers_of [] = refl
numbers_of (g ∷ gs) = ap (λ (ns : List ℕ). g.ticket.0 ∷ ns) (numbers_of gs)

-- their tickets rise
pub ended_rise : (ended : List Ending) (live : List Lease) → AllPairs IsBefore live → IsStrictlyIncreasing (map (λ t. t.0) (saved_tickets ended live))
ended_rise ended live up =
    subst (λ (ns : List ℕ). IsStrictlyIncreasing ns) (numbers_of (filter (λ g. has_ended ended g && is_saved g) live))
    (tickets_rise (filter (λ g. has_ended ended g && is_saved g) live) (AllPairs-filter IsBefore (λ g. has_ended ended g && is_saved g) live up))

-- ---- what a rightful ledger saves

pub rightful_saves : (q : Ledger) → IsRightful q → IsSaved (saves q)
rightful_saves q h = record {
  lawful = (every_ledger_stays_lawful NODES farm_limits q h.lawful).restart;
  past = λ x. up_to q.last q.ceiling (q.line x) h.lawful.core.block (h.sound.past x);
  ahead = All-filter is_saved (IsOpen q.line) q.live h.sound.ahead;
  rise = All-filter is_saved Rises q.live h.sound.leases.slots;
  each = all_from_in (λ (g : Lease). is_saved g ≡ true) (filter is_saved q.live) (λ g i. (from_filter is_saved g q.live i).1);
}
