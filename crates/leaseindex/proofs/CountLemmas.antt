-- The live leases by ask and by node.
use Rattle.std.proofs.Common.{◌≡◌, ℕ, suc, ◌+◌, ◌^◌, ◌<◌, ◌≤◌, List, [], ◌∷◌, ◌++◌, Bool, true, false, not, cond, ◌&&◌, length, length-append, get_or, take, drop, filter, Option, Some, None, refl, sym, ◌∙◌, ap, subst, inl, inr, append-nil, eqb-true, drop_of_length-le, drop-cons, arith}
use Rattle.std.specs.Prelude.{◌==◌, nat_lt, All, AllPairs}
use Rattle.std.specs.List.{find}
use Rattle.std.proofs.lemmas.Bool.{cases_Bool, and_parts, le-ltb}
use Rattle.std.proofs.lemmas.List.{take_more, take_all, take-append-drop}
use Rattle.std.proofs.lemmas.List.Elements.{All-nil, All-cons, All-head, All-tail, All-weaker, filter-append}
use Rattle.farm_base.specs.declared.lease.Lease.{Lease}
use Rattle.protocol.specs.Names.{NodeId, Ticket}
use Rattle.protocol.specs.Ledger.{has_ticket, is_at}
use Rattle.protocol.proofs.Base.{all_in}
use Rattle.protocol.proofs.Leases.{find_some}
use Rattle.holdings.specs.Lives.{node_eq}
use Rattle.leaseindex.specs.Counts.{ask_eq, name_of, has_ask, ask_count, node_count, times_in, oldest_in, oldest_of, Counts, AreCounted, AreLast}
use Rattle.holdings.specs.Leases.{IsBefore}
use Rattle.leaseindex.specs.declared.lease_counts.LeaseCount.{LeaseCount}
use Rattle.leaseindex.specs.declared.lease_counts.LeaseCounts.{LeaseCounts}
use Rattle.leaseindex.specs.declared.lease_counts.AskName.{AskName}
use Rattle.holdings.proofs.PlaceLemmas.{drop-item}
use Rattle.holdings.proofs.LeaseLemmas.{AllPairs-head, AllPairs-tail}

-- ---- what an index has of one ask

all_without : (P : Lease → Type 0) (front : List Lease) (g : Lease) (back : List Lease) → All P (front ++ g ∷ back) → All P (front ++ back)
all_without P [] g back h = All-tail P g back h
all_without P (x ∷ front) g back h = All-cons P x (front ++ back) (All-head P x (front ++ g ∷ back) h) (all_without P front g back (All-tail P x (front ++ g ∷ back) h))

-- one lease less
pub counts-less : (o r : Option LeaseCount) (front : List Lease) (g : Lease) (back : List Lease) → (times_in r + 1 < 2 ^ 64 → (times_in o + 1 < 2 ^ 64) × (times_in o ≤ times_in r + 1)) → oldest_in r ≤ oldest_in o
    → Counts o (front ++ g ∷ back) → Counts r (front ++ back)
counts-less o r front g back fewer lower h = record {
  times = λ lt. (
      let bounds = fewer lt in
      let some = h.times bounds.0 in
      let before = length-append front (g ∷ back) in
      let after = length-append front back in
      let close = bounds.1 in
      omega arith
      );
  oldest = All-weaker (λ x. oldest_in o ≤ x.ticket.0) (λ x. oldest_in r ≤ x.ticket.0) (λ x le. omega arith) (front ++ back) (all_without (λ x. oldest_in o ≤ x.ticket.0) front g back h.oldest);
}

-- ---- the index

name_exact : (a b : AskName) → ask_eq a b ≡ true → a ≡ b
name_exact a b e =
    let parts = and_parts (a.node.0 == b.node.0) ((a.life.0 == b.life.0) && (a.ask.0 == b.ask.0)) e in
    let later = and_parts (a.life.0 == b.life.0) (a.ask.0 == b.ask.0) parts.1 in
    let node = eqb-true a.node.0 b.node.0 parts.0 in
    let life = eqb-true a.life.0 b.life.0 later.0 in
    let ask = eqb-true a.ask.0 b.ask.0 later.1 in
    λ j. record { node = record { 0 = node j }; life = record { 0 = life j }; ask = record { 0 = ask j } }

both_ways : (a b c : Bool) → ((a && b) && c) ≡ (a && (b && c))
both_ways true b c = refl
both_ways false b c = refl

has_name : (g : Lease) (k : AskName) → has_ask k g ≡ ask_eq (name_of g) k
has_name g k = both_ways (g.node.0 == k.node.0) (g.life.0 == k.life.0) (g.ask.0 == k.ask.0)

node_exact : (a b : NodeId) → node_eq a b ≡ true → a ≡ b
node_exact a b e = (let same : a.0 ≡ b.0 = eqb-true a.0 b.0 e in λ j. record { 0 = same j })

-- after a lease is counted by one of its names
more_named : {K : Type 0} (eq : K → K → Bool) (name : Lease → K) (has : K → Lease → Bool) (exact : (a b : K) → eq a b ≡ true → a ≡ b) (named : (g : Lease) (k : K) → has k g ≡ eq (name g) k)
    (before after : K → Option LeaseCount) (g : Lease) (live : List Lease) → ((others : List Lease) → Counts (before (name g)) others → Counts (after (name g)) (others ++ g ∷ []))
    → ((k : K) → eq (name g) k ≡ false → after k ≡ before k) → ((k : K) → Counts (before k) (filter (has k) live)) → (k : K) → Counts (after k) (filter (has k) (live ++ g ∷ []))
more_named {K} eq name has exact named before after g live more same all k = elim (cases_Bool (eq (name g) k)) [
  | inl is ↦ (
      let own : name g ≡ k = exact (name g) k is in
      let kept : filter (has k) (live ++ g ∷ []) ≡ filter (has k) live ++ g ∷ [] =
      filter-append (has k) live (g ∷ []) ∙ ap (λ (b : Bool). filter (has k) live ++ cond b (g ∷ []) []) (named g k ∙ is) in
      let was : Counts (before (name g)) (filter (has k) live) = subst (λ (q : K). Counts (before q) (filter (has k) live)) (sym own) (all k) in
      subst (λ (q : K). Counts (after q) (filter (has k) (live ++ g ∷ []))) own (subst (Counts (after (name g))) (sym kept) (more (filter (has k) live) was))
      )
  | inr is ↦ (
      let kept : filter (has k) (live ++ g ∷ []) ≡ filter (has k) live =
      filter-append (has k) live (g ∷ []) ∙ ap (λ (b : Bool). filter (has k) live ++ cond b (g ∷ []) []) (named g k ∙ is) ∙ append-nil (filter (has k) live) in
      subst (λ (o : Option LeaseCount). Counts o (filter (has k) (live ++ g ∷ []))) (sym (same k is)) (subst (Counts (before k)) (sym kept) (all k))
      )
]

-- after a lease is counted no more by one of its names
less_named : {K : Type 0} (eq : K → K → Bool) (name : Lease → K) (has : K → Lease → Bool) (exact : (a b : K) → eq a b ≡ true → a ≡ b) (named : (g : Lease) (k : K) → has k g ≡ eq (name g) k)
    (before after : K → Option LeaseCount) (g : Lease) (front back : List Lease) → ((fs : List Lease) (h : Lease) (bs : List Lease) → Counts (before (name g)) (fs ++ h ∷ bs) → Counts (after (name g)) (fs ++ bs))
    → ((k : K) → eq (name g) k ≡ false → after k ≡ before k) → ((k : K) → Counts (before k) (filter (has k) (front ++ g ∷ back))) → (k : K) → Counts (after k) (filter (has k) (front ++ back))
less_named {K} eq name has exact named before after g front back less same all k =
    let fs : List Lease = filter (has k) front in
    let bs : List Lease = filter (has k) back in
    elim (cases_Bool (eq (name g) k)) [
      | inl is ↦ (
          let own : name g ≡ k = exact (name g) k is in
          let were : filter (has k) (front ++ g ∷ back) ≡ fs ++ g ∷ bs = filter-append (has k) front (g ∷ back) ∙ ap (λ (b : Bool). fs ++ cond b (g ∷ bs) bs) (named g k ∙ is) in
          let was : Counts (before (name g)) (filter (has k) (front ++ g ∷ back)) = subst (λ (q : K). Counts (before q) (filter (has k) (front ++ g ∷ back))) (sym own) (all k) in
          subst (λ (q : K). Counts (after q) (filter (has k) (front ++ back))) own
          (subst (Counts (after (name g))) (sym (filter-append (has k) front back)) (less fs g bs (subst (Counts (before (name g))) were was)))
          )
      | inr is ↦ (
          let were : filter (has k) (front ++ g ∷ back) ≡ filter (has k) (front ++ back) =
          filter-append (has k) front (g ∷ back) ∙ ap (λ (b : Bool). fs ++ cond b (g ∷ bs) bs) (named g k ∙ is) ∙ sym (filter-append (has k) front back) in
          subst (λ (o : Option LeaseCount). Counts o (filter (has k) (front ++ back))) (sym (same k is)) (subst (Counts (before k)) were (all k))
          )
    ]

-- after a lease is counted by its ask and its node
pub counted-more : (x y : LeaseCounts) (g : Lease) (live : List Lease)
    → ((others : List Lease) → Counts (ask_count x (name_of g)) others → Counts (ask_count y (name_of g)) (others ++ g ∷ [])) → ((k : AskName) → ask_eq (name_of g) k ≡ false → ask_count y k ≡ ask_count x k)
    → ((others : List Lease) → Counts (node_count x g.node) others → Counts (node_count y g.node) (others ++ g ∷ [])) → ((n : NodeId) → node_eq g.node n ≡ false → node_count y n ≡ node_count x n)
    → AreCounted x live → AreCounted y (live ++ g ∷ [])
counted-more x y g live ask other_asks node other_nodes all = record {
  asks = more_named ask_eq name_of has_ask name_exact has_name (ask_count x) (ask_count y) g live ask other_asks all.asks;
  nodes = more_named node_eq (λ h. h.node) is_at node_exact (λ h n. refl) (node_count x) (node_count y) g live node other_nodes all.nodes;
}

-- after it is counted no more
pub counted-less : (x y : LeaseCounts) (g : Lease) (front back : List Lease)
    → ((fs : List Lease) (h : Lease) (bs : List Lease) → Counts (ask_count x (name_of g)) (fs ++ h ∷ bs) → Counts (ask_count y (name_of g)) (fs ++ bs)) → ((k : AskName) → ask_eq (name_of g) k ≡ false → ask_count y k ≡ ask_count x k)
    → ((fs : List Lease) (h : Lease) (bs : List Lease) → Counts (node_count x g.node) (fs ++ h ∷ bs) → Counts (node_count y g.node) (fs ++ bs)) → ((n : NodeId) → node_eq g.node n ≡ false → node_count y n ≡ node_count x n)
    → AreCounted x (front ++ g ∷ back) → AreCounted y (front ++ back)
counted-less x y g front back ask other_asks node other_nodes all = record {
  asks = less_named ask_eq name_of has_ask name_exact has_name (ask_count x) (ask_count y) g front back ask other_asks all.asks;
  nodes = less_named node_eq (λ h. h.node) is_at node_exact (λ h n. refl) (node_count x) (node_count y) g front back node other_nodes all.nodes;
}

-- ---- looking an ask up

nothing_kept : (test : Lease → Bool) (live : List Lease) → length (filter test live) ≤ 0 → find test live ≡ None
nothing_kept test [] few = refl
nothing_kept test (g ∷ live) few = elim (cases_Bool (test g)) [
  | inl e ↦ (let some : length (g ∷ filter test live) ≤ 0 = rw e at few in absurd (omega arith))
  | inr e ↦ rw e (nothing_kept test live (rw e at few))
]

-- without an entry no lease passes
pub unasked : (o : Option LeaseCount) (test : Lease → Bool) (live : List Lease) → Counts o (filter test live) → oldest_of o ≡ None → find test live ≡ None
unasked None test live h none = (let few = h.times (omega arith) in nothing_kept test live (omega arith))
unasked (Some e) test live h none = absurd (cc none)

none_here : (test : Lease → Bool) (live : List Lease) → length (filter test live) ≤ 0 → All (λ g. test g ≡ false) live
none_here test [] few = All-nil (λ g. test g ≡ false)
none_here test (g ∷ live) few = elim (cases_Bool (test g)) [
  | inl e ↦ (let some : length (g ∷ filter test live) ≤ 0 = rw e at few in absurd (omega arith))
  | inr e ↦ All-cons (λ h. test h ≡ false) g live e (none_here test live (rw e at few))
]

-- the same of the last leases
pub none_counted : (o : Option LeaseCount) (test : Lease → Bool) (live : List Lease) → Counts o (filter test live) → oldest_of o ≡ None → AreLast test [] live
none_counted None test live h none = (let few = h.times (omega arith) in record { before = live; whole = sym (append-nil live); none = none_here test live (omega arith) })
none_counted (Some e) test live h none = absurd (cc none)

below_oldest : (test : Lease → Bool) (t : ℕ) (before last : List Lease) → All (λ g. t ≤ g.ticket.0) (filter test (before ++ last)) → All (λ g. not (nat_lt g.ticket.0 t) ≡ false) before → All (λ g. test g ≡ false) before
below_oldest test t [] last low below = All-nil (λ g. test g ≡ false)
below_oldest test t (g ∷ before) last low below =
    let later = All-tail (λ h. not (nat_lt h.ticket.0 t) ≡ false) g before below in
    elim (cases_Bool (test g)) [
      | inl e ↦ (
          let all : All (λ h. t ≤ h.ticket.0) (g ∷ filter test (before ++ last)) = rw e at low in
          let first : t ≤ g.ticket.0 = All-head (λ h. t ≤ h.ticket.0) g (filter test (before ++ last)) all in
          let here : not (nat_lt g.ticket.0 t) ≡ false = All-head (λ h. not (nat_lt h.ticket.0 t) ≡ false) g before below in
          let bad : true ≡ false = sym (ap not (le-ltb g.ticket.0 t first)) ∙ here in
          absurd (cc bad)
          )
      | inr e ↦ All-cons (λ h. test h ≡ false) g before e (below_oldest test t before last (rw e at low) later)
    ]

-- with an entry none passes before its oldest ticket
pub none_before : (o : Option LeaseCount) (test : Lease → Bool) (t : Ticket) (last live : List Lease) → Counts o (filter test live) → oldest_of o ≡ Some t → AreLast (λ g. not (nat_lt g.ticket.0 t.0)) last live → AreLast test last live
none_before None test t last live h is from = absurd (cc is)
none_before (Some e) test t last live h is from =
    let same : e.oldest ≡ t = cc is in
    let low : All (λ g. t.0 ≤ g.ticket.0) (filter test live) = subst (λ (u : Ticket). All (λ x. u.0 ≤ x.ticket.0) (filter test live)) same h.oldest in
    record {
      before = from.before;
      whole = from.whole;
      none = below_oldest test t.0 from.before last (subst (λ (gs : List Lease). All (λ g. t.0 ≤ g.ticket.0) (filter test gs)) from.whole low) from.none;
    }

-- where no lease that passes has a lower ticket, that of the ticket is the first to pass, if it does
oldest_asked : (test : Lease → Bool) (t : Ticket) (live : List Lease) (g : Lease) → AllPairs IsBefore live → All (λ h. t.0 ≤ h.ticket.0) (filter test live) → find (has_ticket t) live ≡ Some g → test g ≡ true
    → find test live ≡ Some g
oldest_asked test t [] g rise low found passes = absurd (cc found)
oldest_asked test t (h ∷ live) g rise low found passes = elim (cases_Bool (has_ticket t h)) [
  | inl e ↦ (
      let is : Some h ≡ Some g = rw e at found in
      let same : h ≡ g = cc is in
      let here : test h ≡ true = ap test same ∙ passes in
      rw here is
      )
  | inr e ↦ (
      let later : find (has_ticket t) live ≡ Some g = rw e at found in
      let there = find_some (has_ticket t) live g later in
      let own : g.ticket.0 ≡ t.0 = eqb-true g.ticket.0 t.0 there.1 in
      let above : h.ticket.0 < g.ticket.0 = all_in (IsBefore h) live (AllPairs-head IsBefore h live rise) g there.0 in
      elim (cases_Bool (test h)) [
        | inl p ↦ (
            let all : All (λ x. t.0 ≤ x.ticket.0) (h ∷ filter test live) = rw p at low in
            let first : t.0 ≤ h.ticket.0 = All-head (λ x. t.0 ≤ x.ticket.0) h (filter test live) all in
            absurd (omega arith)
            )
        | inr p ↦ (
            let rest : All (λ x. t.0 ≤ x.ticket.0) (filter test live) = rw p at low in
            rw p (oldest_asked test t live g (AllPairs-tail IsBefore h live rise) rest later passes)
            )
      ]
      )
]

-- the same by an entry
pub first_asked : (o : Option LeaseCount) (test : Lease → Bool) (t : Ticket) (live : List Lease) (g : Lease) → AllPairs IsBefore live → Counts o (filter test live) → oldest_of o ≡ Some t → find (has_ticket t) live ≡ Some g → test g ≡ true
    → find test live ≡ Some g
first_asked None test t live g rise h is found passes = absurd (cc is)
first_asked (Some e) test t live g rise h is found passes =
    let same : e.oldest ≡ t = cc is in
    oldest_asked test t live g rise (subst (λ (u : Ticket). All (λ x. u.0 ≤ x.ticket.0) (filter test live)) same h.oldest) found passes

-- a first one that is kept is the first of those that are kept
pub first_kept : (test gone : Lease → Bool) (live : List Lease) (g : Lease) → find test live ≡ Some g → gone g ≡ false → find test (filter (λ h. not (gone h)) live) ≡ Some g
first_kept test gone [] g found stays = absurd (cc found)
first_kept test gone (h ∷ live) g found stays = elim (cases_Bool (test h)) [
  | inl e ↦ (
      let is : Some h ≡ Some g = rw e at found in
      let same : h ≡ g = cc is in
      let here : gone h ≡ false = ap gone same ∙ stays in
      rw (here, e) is
      )
  | inr e ↦ (
      let rest : find test (filter (λ x. not (gone x)) live) ≡ Some g = first_kept test gone live g (rw e at found) stays in
      elim (cases_Bool (gone h)) [ inl x ↦ rw x rest | inr x ↦ rw (x, e) rest ]
      )
]

-- where none is found, none of those that are kept is
pub none_kept : (test gone : Lease → Bool) (live : List Lease) → find test live ≡ None → find test (filter (λ h. not (gone h)) live) ≡ None
none_kept test gone [] none = refl
none_kept test gone (h ∷ live) none = elim (cases_Bool (test h)) [
  | inl e ↦ (let bad : Some h ≡ None = rw e at none in absurd (cc bad))
  | inr e ↦ (
      let rest : find test (filter (λ x. not (gone x)) live) ≡ None = none_kept test gone live (rw e at none) in
      elim (cases_Bool (gone h)) [ inl x ↦ rw x rest | inr x ↦ rw (x, e) rest ]
      )
]

-- ---- leases in turn, of which some are taken out

-- the lease at a place
pub split_at : (leases : List Lease) (k : ℕ) (g : Lease) → k < length leases → g ≡ get_or leases k g → leases ≡ take k leases ++ g ∷ drop (suc k) leases
split_at leases k g inside is =
    sym (take-append-drop k leases) ∙ ap (λ (gs : List Lease). take k leases ++ gs) (drop-cons leases k g inside ∙ ap (λ (h : Lease). h ∷ drop (suc k) leases) (sym is))

-- the next lease
pub gone_next : (leases : List Lease) (k : ℕ) (g : Lease) → k < length leases → g ≡ get_or leases k g → drop k leases ≡ g ∷ drop (k + 1) leases
gone_next leases k g inside is = drop-item leases k g inside ∙ ap (λ (h : Lease). h ∷ drop (k + 1) leases) (sym is)

-- those that are kept up to the next
pub kept_next : (gone : Lease → Bool) (leases : List Lease) (k : ℕ) (g : Lease) → k < length leases → g ≡ get_or leases k g
    → filter (λ h. not (gone h)) (take (k + 1) leases) ≡ filter (λ h. not (gone h)) (take k leases) ++ cond (not (gone g)) (g ∷ []) []
kept_next gone leases k g inside is =
    ap (filter (λ h. not (gone h))) (take_more leases k g inside ∙ ap (λ (h : Lease). take k leases ++ h ∷ []) (sym is)) ∙ filter-append (λ h. not (gone h)) (take k leases) (g ∷ [])

-- no lease is left
pub kept_all : (gone : Lease → Bool) (leases : List Lease) (k : ℕ) → length leases ≤ k → filter (λ h. not (gone h)) (take k leases) ++ drop k leases ≡ filter (λ h. not (gone h)) leases
kept_all gone leases k past =
    ap (λ (gs : List Lease). filter (λ h. not (gone h)) (take k leases) ++ gs) (drop_of_length-le leases past)
    ∙ append-nil (filter (λ h. not (gone h)) (take k leases))
    ∙ ap (filter (λ h. not (gone h))) (take_all k leases past)
