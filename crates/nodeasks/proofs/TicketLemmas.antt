-- The index of tickets finds each ask that has its lease under one.
use Rattle.std.proofs.Common.{◌≡◌, ◌≢◌, ℕ, zero, suc, ◌+◌, ◌<◌, inl, inr, Bool, true, false, not, ◌&&◌, cond, List, [], ◌∷◌, ◌++◌, set, Option, Some, None, slice_get, is_some, refl, sym, ap, ◌∙◌, arith}
use Rattle.std.specs.Prelude.{◌==◌}
use Rattle.std.specs.List.{position, position_from}
use Rattle.std.proofs.lemmas.Bool.{cases_Bool, eqb-true, eq-eqb, ne_eqb}
use Rattle.std.proofs.lemmas.Iterator.Adapters.{position_from-zero}
use Rattle.farm_base.specs.Kinds.{is_tenure}
use Rattle.protocol.proofs.Base.{nth_set_cases, get_push_cases, some_is}
use Rattle.protocol.specs.Names.{Want, Ticket}
use Rattle.protocol.specs.Machine.{Grant, News}
use Rattle.protocol.specs.World.{keeps}
use Rattle.protocol.specs.Nodes.{recalled_if}
use Rattle.events.specs.declared.answer.How.{How}
use Rattle.events.specs.declared.ask.KeptAsk.{KeptAsk}
use Rattle.events.specs.declared.ask.KeptAsk.TheVariants.{Open, Holding, Running, Finished, Over}
use Rattle.nodeasks.specs.declared.asks.Sought.{Sought}
use Rattle.nodeasks.specs.declared.asks.Sought.TheVariants as sought
use Rattle.nodeasks.specs.declared.ticket_index.Holders.{Holders}
use Rattle.nodeasks.specs.declared.ticket_index.Holders.TheVariants.{One, Several}
use Rattle.nodeasks.specs.declared.ticket_index.TicketIndex.{TicketIndex}
use Rattle.nodeasks.specs.Asks.{is_sought, holds, runs, recalls, ends_with}
use Rattle.nodeasks.specs.Tickets.{ticket_eq, holders_of, has_place, may_have, with_holder, without_holder, AreIndexed}

-- the first that a test picks, where it picks none before
picked_at : (p : KeptAsk → Bool) (i : ℕ) (xs : List KeptAsk) (n : ℕ) (x : KeptAsk) → ((k : ℕ) (y : KeptAsk) → k < n → slice_get xs k ≡ Some y → p y ≡ false) → slice_get xs n ≡ Some x → p x ≡ true → position_from p i xs ≡ Some (i + n)
picked_at p i [] zero x none at is = absurd (cc)
picked_at p i [] (suc n) x none at is = absurd (cc)
picked_at p i (y ∷ xs) zero x none at is =
    let same : y ≡ x = some_is y x at in
    let e : i ≡ i + 0 = omega arith in
    ap (λ (b : Bool). cond b (Some i) (position_from p (i + 1) xs)) (ap p same ∙ is) ∙ ap (λ (k : ℕ). Some k) e
picked_at p i (y ∷ xs) (suc n) x none at is =
    let not_so : p y ≡ false = none 0 y (omega arith) refl in
    let e : (i + 1) + n ≡ i + suc n = omega arith in
    ap (λ (b : Bool). cond b (Some i) (position_from p (i + 1) xs)) not_so
    ∙ picked_at p (i + 1) xs n x (λ k z less get. none (suc k) z (omega (arith, less)) get) at is ∙ ap (λ (k : ℕ). Some k) e

none_picked : (p : KeptAsk → Bool) (i : ℕ) (xs : List KeptAsk) → ((k : ℕ) (y : KeptAsk) → slice_get xs k ≡ Some y → p y ≡ false) → position_from p i xs ≡ None
none_picked p i [] none = refl
none_picked p i (y ∷ xs) none =
    ap (λ (b : Bool). cond b (Some i) (position_from p (i + 1) xs)) (none 0 y refl) ∙ none_picked p (i + 1) xs (λ k z get. none (suc k) z get)

under_is : {A : Type 0} (b : Bool) (x : A) → is_some (cond b (Some x) None) ≡ true → b ≡ true
under_is true x e = refl
under_is false x e = absurd (cc)

recallable_is : (b c d : Bool) (x : KeptAsk) → is_some (recalled_if (b && c && d) x) ≡ true → b ≡ true
recallable_is true c d x e = refl
recallable_is false c d x e = absurd (cc)

-- an ask that is sought by a ticket has its lease under it
sought_keeps : (what : Sought) (t : Ticket) (x : KeptAsk) → is_sought what t x ≡ true → keeps x t ≡ true
sought_keeps sought.Held t (Open w b) e = absurd (cc)
sought_keeps sought.Held t (Holding w g r) e = under_is (g.ticket.0 == t.0) _ e
sought_keeps sought.Held t (Running w g r) e = absurd (cc)
sought_keeps sought.Held t (Finished w g news) e = absurd (cc)
sought_keeps sought.Held t (Over how) e = absurd (cc)
sought_keeps sought.Running t (Open w b) e = absurd (cc)
sought_keeps sought.Running t (Holding w g r) e = absurd (cc)
sought_keeps sought.Running t (Running w g r) e = under_is (g.ticket.0 == t.0) _ e
sought_keeps sought.Running t (Finished w g news) e = absurd (cc)
sought_keeps sought.Running t (Over how) e = absurd (cc)
sought_keeps sought.HeldOrRunning t (Open w b) e = absurd (cc)
sought_keeps sought.HeldOrRunning t (Holding w g r) e = under_is (g.ticket.0 == t.0) _ e
sought_keeps sought.HeldOrRunning t (Running w g r) e = under_is (g.ticket.0 == t.0) _ e
sought_keeps sought.HeldOrRunning t (Finished w g news) e = absurd (cc)
sought_keeps sought.HeldOrRunning t (Over how) e = absurd (cc)
sought_keeps sought.Finished t (Open w b) e = absurd (cc)
sought_keeps sought.Finished t (Holding w g r) e = absurd (cc)
sought_keeps sought.Finished t (Running w g r) e = absurd (cc)
sought_keeps sought.Finished t (Finished w g news) e = under_is (g.ticket.0 == t.0) _ e
sought_keeps sought.Finished t (Over how) e = absurd (cc)
sought_keeps sought.Recallable t (Open w b) e = absurd (cc)
sought_keeps sought.Recallable t (Holding w g r) e = recallable_is (g.ticket.0 == t.0) (is_tenure g.kind) (not r) (Holding w g true) e
sought_keeps sought.Recallable t (Running w g r) e = recallable_is (g.ticket.0 == t.0) (is_tenure g.kind) (not r) (Running w g true) e
sought_keeps sought.Recallable t (Finished w g news) e = absurd (cc)
sought_keeps sought.Recallable t (Over how) e = absurd (cc)

-- the index has each ask that is sought
sought_noted : (x : TicketIndex) (asks : List KeptAsk) (what : Sought) (t : Ticket) (h : Option Holders) → AreIndexed x asks → holders_of x t ≡ h → (k : ℕ) (y : KeptAsk) → slice_get asks k ≡ Some y → is_sought what t y ≡ true → has_place h k ≡ true
sought_noted x asks what t h indexed is k y at is_so = ap (λ (o : Option Holders). has_place o k) (sym is) ∙ indexed.found k y t at (sought_keeps what t y is_so)

not_sought : (what : Sought) (t : Ticket) (h : Option Holders) (k : ℕ) (y : KeptAsk) → has_place h k ≡ false → (is_sought what t y ≡ true → has_place h k ≡ true) → is_sought what t y ≡ false
not_sought what t h k y not_so noted = elim (cases_Bool (is_sought what t y)) [
  | inl is_so ↦ (let bad : true ≡ false = sym (noted is_so) ∙ not_so in absurd (cc bad))
  | inr e ↦ e
]

-- no ask is sought by a ticket that wasn't granted
pub none_indexed : (x : TicketIndex) (asks : List KeptAsk) (what : Sought) (t : Ticket) → AreIndexed x asks → holders_of x t ≡ None → position (is_sought what t) asks ≡ None
none_indexed x asks what t indexed is =
    position_from-zero (is_sought what t) asks
    ∙ none_picked (is_sought what t) 0 asks (λ k y at. not_sought what t None k y refl (sought_noted x asks what t None indexed is k y at))

-- the one that was granted the ticket is the first that is sought by it, if it is sought
pub one_found : (x : TicketIndex) (asks : List KeptAsk) (what : Sought) (t : Ticket) (place : ℕ) (ask : KeptAsk) → AreIndexed x asks → holders_of x t ≡ Some (One place) → slice_get asks place ≡ Some ask → is_sought what t ask ≡ true → position (is_sought what t) asks ≡ Some place
one_found x asks what t place ask indexed is at is_so =
    let h : Option Holders = Some (One place) in
    let zero_more : 0 + place ≡ place = omega arith in
    position_from-zero (is_sought what t) asks
    ∙ picked_at (is_sought what t) 0 asks place ask (λ k y less get. not_sought what t h k y (ne_eqb place k (λ e. omega (arith, e, less))) (sought_noted x asks what t h indexed is k y get)) at is_so
    ∙ ap (λ (k : ℕ). Some k) zero_more

-- if it isn't, no ask is
pub one_missed : (x : TicketIndex) (asks : List KeptAsk) (what : Sought) (t : Ticket) (place : ℕ) → AreIndexed x asks → holders_of x t ≡ Some (One place) → ((y : KeptAsk) → slice_get asks place ≡ Some y → is_sought what t y ≡ false) → position (is_sought what t) asks ≡ None
one_missed x asks what t place indexed is gone =
    let h : Option Holders = Some (One place) in
    position_from-zero (is_sought what t) asks
    ∙ none_picked (is_sought what t) 0 asks (λ k y get. elim (cases_Bool (place == k)) [
      | inl e ↦ (let here : place ≡ k = eqb-true place k e in gone y (ap (slice_get asks) here ∙ get))
      | inr e ↦ not_sought what t h k y e (sought_noted x asks what t h indexed is k y get)
    ])

with_self : (h : Option Holders) (i : ℕ) → has_place (Some (with_holder h i)) i ≡ true
with_self None i = eq-eqb i i refl
with_self (Some (One place)) i = by (place == i)
  where
    by : (b : Bool) → has_place (Some (cond b (One i) Several)) i ≡ true
    by true = eq-eqb i i refl
    by false = refl
with_self (Some Several) i = refl

with_more : (h : Option Holders) (i k : ℕ) → has_place h k ≡ true → has_place (Some (with_holder h i)) k ≡ true
with_more None i k known = absurd (cc)
with_more (Some (One place)) i k known = by (place == i) refl
  where
    by : (b : Bool) → (place == i) ≡ b → has_place (Some (cond b (One i) Several)) k ≡ true
    by true e = ap (λ (j : ℕ). j == k) (sym (eqb-true place i e)) ∙ known
    by false e = refl
with_more (Some Several) i k known = refl

-- after a ticket was noted its new holder is among them
pub noted_here : (x y : TicketIndex) (t : Ticket) (i : ℕ) → ((u : Ticket) → holders_of y u ≡ cond (ticket_eq t u) (Some (with_holder (holders_of x t) i)) (holders_of x u)) → may_have y t i ≡ true
noted_here x y t i noted =
    ap (λ (o : Option Holders). has_place o i) (noted t ∙ ap (λ (b : Bool). cond b (Some (with_holder (holders_of x t) i)) (holders_of x t)) (eq-eqb t.0 t.0 refl))
    ∙ with_self (holders_of x t) i

-- and so are the old ones
pub noted_more : (x y : TicketIndex) (t : Ticket) (i : ℕ) → ((u : Ticket) → holders_of y u ≡ cond (ticket_eq t u) (Some (with_holder (holders_of x t) i)) (holders_of x u)) → (u : Ticket) (k : ℕ) → may_have x u k ≡ true → may_have y u k ≡ true
noted_more x y t i noted u k known = by (ticket_eq t u) refl
  where
    by : (b : Bool) → ticket_eq t u ≡ b → may_have y u k ≡ true
    by false e = ap (λ (o : Option Holders). has_place o k) (noted u ∙ ap (λ (b : Bool). cond b (Some (with_holder (holders_of x t) i)) (holders_of x u)) e) ∙ known
    by true e =
        let same : t.0 ≡ u.0 = eqb-true t.0 u.0 e in
        let here : may_have x t k ≡ true = (λ j. may_have x (record { 0 = same j }) k) ∙ known in
        ap (λ (o : Option Holders). has_place o k) (noted u ∙ ap (λ (b : Bool). cond b (Some (with_holder (holders_of x t) i)) (holders_of x u)) e)
        ∙ with_more (holders_of x t) i k here

-- another ask at a place, which has its lease under no further ticket
pub indexed_set : (x : TicketIndex) (asks : List KeptAsk) (i : ℕ) (old new : KeptAsk) → AreIndexed x asks → slice_get asks i ≡ Some old → ((t : Ticket) → keeps new t ≡ true → may_have x t i ≡ true) → AreIndexed x (set asks i new)
indexed_set x asks i old new h at told = record {
  found = λ k ask t e kept. elim (nth_set_cases asks (suc i) new old (suc k) ask at e) [
    | inl same ↦ (let here : i ≡ k = omega (arith, same.0) in ap (may_have x t) (sym here) ∙ told t (ap (λ (z : KeptAsk). keeps z t) (sym same.1) ∙ kept))
    | inr other ↦ h.found k ask t other.1 kept
  ];
}

-- an ask at a place changes so
pub indexed_changed : (f : KeptAsk → KeptAsk) (x : TicketIndex) (asks : List KeptAsk) (i : ℕ) (old : KeptAsk) → ((ask : KeptAsk) (t : Ticket) → keeps (f ask) t ≡ true → keeps ask t ≡ true) → AreIndexed x asks → slice_get asks i ≡ Some old → AreIndexed x (set asks i (f old))
indexed_changed f x asks i old less h get = indexed_set x asks i old (f old) h get (λ t kept. h.found i old t get (less old t kept))

-- an ask at a place is over
pub ends_all : (how : How) (ask : KeptAsk) (t : Ticket) → keeps (Over how) t ≡ true → keeps ask t ≡ true
ends_all how ask t kept = absurd (cc kept)

released_more : (h : Option Holders) (i k : ℕ) → k ≢ i → has_place h k ≡ true → has_place (without_holder h i) k ≡ true
released_more None i k other known = absurd (cc)
released_more (Some (One place)) i k other known = by (place == i) refl
  where
    by : (b : Bool) → (place == i) ≡ b → has_place (cond b None (Some (One place))) k ≡ true
    by true e =
        let here : place ≡ i = eqb-true place i e in
        let there : place ≡ k = eqb-true place k known in
        let same : k ≡ i = sym there ∙ here in
        absurd (other same)
    by false e = known
released_more (Some Several) i k other known = refl

still_there : (x y : TicketIndex) (i : ℕ) (t : Ticket) → ((u : Ticket) → holders_of y u ≡ cond (ticket_eq t u) (without_holder (holders_of x t) i) (holders_of x u)) → (u : Ticket) (k : ℕ) (b : Bool) → ticket_eq t u ≡ b → k ≢ i → may_have x u k ≡ true → may_have y u k ≡ true
still_there x y i t released u k false e other known = ap (λ (o : Option Holders). has_place o k) (released u ∙ ap (λ (b : Bool). cond b (without_holder (holders_of x t) i) (holders_of x u)) e) ∙ known
still_there x y i t released u k true e other known =
    let same : t.0 ≡ u.0 = eqb-true t.0 u.0 e in
    let here : may_have x t k ≡ true = (λ j. may_have x (record { 0 = same j }) k) ∙ known in
    ap (λ (o : Option Holders). has_place o k) (released u ∙ ap (λ (b : Bool). cond b (without_holder (holders_of x t) i) (holders_of x u)) e)
    ∙ released_more (holders_of x t) i k other here

-- an ask at a place is over, and its ticket is released
pub indexed_released : (x y : TicketIndex) (asks : List KeptAsk) (i : ℕ) (old : KeptAsk) (how : How) (t : Ticket) → AreIndexed x asks → slice_get asks i ≡ Some old
    → ((u : Ticket) → holders_of y u ≡ cond (ticket_eq t u) (without_holder (holders_of x t) i) (holders_of x u)) → AreIndexed y (set asks i (Over how))
indexed_released x y asks i old how t h at released = record {
  found = λ k ask u e kept. elim (nth_set_cases asks (suc i) (Over how) old (suc k) ask at e) [
    | inl same ↦ (let bad : false ≡ true = ap (λ (z : KeptAsk). keeps z u) (sym same.1) ∙ kept in absurd (cc bad))
    | inr other ↦ still_there x y i t released u k (ticket_eq t u) refl (λ is. other.0 (ap suc is)) (h.found k ask u other.1 kept)
  ];
}

pub indexed_push : (x : TicketIndex) (asks : List KeptAsk) (w : List Want) (b : Bool) → AreIndexed x asks → AreIndexed x (asks ++ Open w b ∷ [])
indexed_push x asks w b h = record {
  found = λ k ask t e kept. elim (get_push_cases asks (Open w b) k ask e) [
    | inl old ↦ h.found k ask t old kept
    | inr new ↦ (let bad : false ≡ true = ap (λ (z : KeptAsk). keeps z t) (sym new.1) ∙ kept in absurd (cc bad))
  ];
}

pub indexed_more : (x y : TicketIndex) (asks : List KeptAsk) → ((t : Ticket) (k : ℕ) → may_have x t k ≡ true → may_have y t k ≡ true) → AreIndexed x asks → AreIndexed y asks
indexed_more x y asks more h = record { found = λ k ask t e kept. more t k (h.found k ask t e kept) }

pub indexed_same : (x y : TicketIndex) (asks : List KeptAsk) → ((t : Ticket) → holders_of y t ≡ holders_of x t) → AreIndexed x asks → AreIndexed y asks
indexed_same x y asks same h = indexed_more x y asks (λ t k known. ap (λ (o : Option Holders). has_place o k) (same t) ∙ known) h

pub indexed_none : (x : TicketIndex) → AreIndexed x []
indexed_none x = record { found = λ k ask t e kept. absurd (cc e) }

-- the ask at the place has its lease, if it was open
held_told : (x : TicketIndex) (i : ℕ) (g : Grant) (old : KeptAsk) → ((t : Ticket) → keeps old t ≡ true → may_have x t i ≡ true) → may_have x g.ticket i ≡ true → (t : Ticket) → keeps (holds g old) t ≡ true → may_have x t i ≡ true
held_told x i g (Open w b) was told t kept =
    let same : t.0 ≡ g.ticket.0 = sym (eqb-true g.ticket.0 t.0 kept) in
    (λ j. may_have x (record { 0 = same j }) i) ∙ told
held_told x i g (Holding w h r) was told t kept = was t kept
held_told x i g (Running w h r) was told t kept = was t kept
held_told x i g (Finished w h news) was told t kept = was t kept
held_told x i g (Over how) was told t kept = was t kept

pub indexed_held : (x : TicketIndex) (asks : List KeptAsk) (i : ℕ) (g : Grant) (old : KeptAsk) → AreIndexed x asks → slice_get asks i ≡ Some old → may_have x g.ticket i ≡ true → AreIndexed x (set asks i (holds g old))
indexed_held x asks i g old h get told = indexed_set x asks i old (holds g old) h get (λ t kept. held_told x i g old (λ u k. h.found i old u get k) told t kept)

-- what begins, is recalled or ends has its lease under the ticket that it had
pub runs_less : (ask : KeptAsk) (t : Ticket) → keeps (runs ask) t ≡ true → keeps ask t ≡ true
runs_less (Open w b) t e = e
runs_less (Holding w g r) t e = e
runs_less (Running w g r) t e = e
runs_less (Finished w g news) t e = e
runs_less (Over how) t e = e

pub recalls_less : (ask : KeptAsk) (t : Ticket) → keeps (recalls ask) t ≡ true → keeps ask t ≡ true
recalls_less (Open w b) t e = e
recalls_less (Holding w g r) t e = e
recalls_less (Running w g r) t e = e
recalls_less (Finished w g news) t e = e
recalls_less (Over how) t e = e

pub ends_less : (news : List News) (ask : KeptAsk) (t : Ticket) → keeps (ends_with news ask) t ≡ true → keeps ask t ≡ true
ends_less news (Open w b) t e = e
ends_less news (Holding w g r) t e = e
ends_less news (Running w g r) t e = e
ends_less news (Finished w g old) t e = e
ends_less news (Over how) t e = e
