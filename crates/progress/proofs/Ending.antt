-- Where executions end and what is sent again comes each open ask for a lease is answered.
use Rattle.std.proofs.Common.{length, ◌<◌, ◌≡◌, ℕ, zero, suc, ◌+◌, ◌*◌, ◌≤◌, List, [], ◌∷◌, ◌++◌, map, filter, Bool, true, false, not, ◌&&◌, ◌||◌, eqb, Option, Some, None, refl, sym, ◌∙◌, ap, subst, inl, inr, arith, length-append}
use Rattle.std.proofs.lemmas.Bool.{cases_Bool, and_parts}
use Rattle.std.specs.List.{list_any}
use Rattle.std.specs.Prelude.{nat_lt, nat_le}
use Rattle.protocol.specs.Lists.{In, nth}
use Rattle.protocol.specs.Names.{NodeId, Life, Ask, Want, Digest, wants_shared, only_slot, leased_wants}
use Rattle.protocol.specs.Machine.{Said, Told, Grant, Granted, Message, Machine, ToCoord, Parked, acquire}
use Rattle.protocol.specs.Ledger.{Limits, Ledger, Lease, Work, begin_work, Decision, Give, Deny, Wait, decision, gives, decided, acquiring, recalls, elsewhere, is_of, has_slot, is_older, is_older_ask, is_home, sees, newer_life, handled, lease_of, is_parked, lease_for, holds_wanted}
use Rattle.protocol.specs.World.{KeptAsk, Open, Holding, Running, Finished, Over, Node}
use Rattle.protocol.specs.Replay.{Event, Deliver, Resend, Farm, at, is_node, moved, opening, step, run, scheduled}
use Rattle.protocol.specs.Replay as replay
use Rattle.protocol.specs.Meaning.{IsAnswered}
use Rattle.protocol.specs.Lawful.{IsEvent, EveryFarmStaysLawful, EveryOpeningIsLawful}
use Rattle.protocol.specs.Follows.{IsFarm, EveryScheduleIsSafe, lease_from, NoLease, Waits}
use Rattle.protocol.specs.Rules.{EveryEventKeepsTheFarm}
use Rattle.protocol.specs.Chronicle.{EveryScheduleMeans}
use Rattle.protocol.specs.Hostile.{EveryMessageTouchesItsOwn}
use Rattle.protocol.proofs.Base.{in_left, in_right, in_append, from_any, true_false, names_same, node_is, life_is, ask_is, put_same, put_all}
use Rattle.protocol.proofs.Wanting.{names_are}
use Rattle.progress.specs.Progress.{size_of, AreEvents, IsGivingBack, EveryLeaseCanBeGivenBack, NoneIsDown, is_open, IsWaiting, EveryOpenAskIsAnsweredByGivingBack}
use Rattle.progress.proofs.Progressing.{waits_for, run_held, run_lawful, served_is, recalling, length_push, retried_size, filter_le, some_in}
use Rattle.progress.proofs.Freeing.{other_shared, no_tenure, answered_right, more_pool, IsAfter}
use Rattle.progress.proofs.Reaching.{run_more, handled_met, saying, delivery_is}
use Rattle.progress.proofs.Asking.{Knows, lives_below, length_more, new_nth, not_below, answer_known, delivery_same}
use Rattle.progress.proofs.Keeping.{Its, StateIs, kept_all, kept_start}
use Rattle.progress.proofs.Giving.{Here, Given, IsOwn, IsItsOwn, one_made, granted_is, one_more, lease_there, resend_work, resend_step, again_of, give_back}

-- ---- what a farm of a schedule has

run_size : EveryEventKeepsTheFarm → (sha : List ℕ → Digest) (k : Limits) (events : List Event) (s : Farm) → (run sha k events s).size ≡ s.size
run_size keeps sha k [] s = refl
run_size keeps sha k (e ∷ events) s = run_size keeps sha k events (step sha k s e).farm ∙ (keeps sha k s e).size

abbrev OneLease : Machine → Lease → Type 0
OneLease m h = (g : Grant) → In (Granted g) m.made → g.ticket.0 ≡ h.ticket.0 → lease_from g ≡ h

own_grant : (m : Machine) (h : Lease) → OneLease m h → (n place : ℕ) (l : Life) (g : Grant) → Its m n l place g → IsItsOwn h n place g
own_grant m h one n place l g i same = (let e = one g i.0 same in (e, sym i.1 ∙ ap (λ (z : Lease). z.node.0) e, sym i.3 ∙ ap (λ (z : Lease). z.ask.0) e))

own_state : (pool : List Message) (m : Machine) (h : Lease) → OneLease m h → (n place : ℕ) (l : Life) (st : KeptAsk) → StateIs pool m n l place st → IsOwn h n place st
own_state pool m h one n place l (Open wants tenure) i = tt
own_state pool m h one n place l (Holding wants g r) i = own_grant m h one n place l g i
own_state pool m h one n place l (Running wants g r) i = own_grant m h one n place l g i
own_state pool m h one n place l (Finished wants g news) i = (own_grant m h one n place l g i.0, i.1, i.2)
own_state pool m h one n place l (Over ending) i = tt

pub record Laws : Type 0 where
  pub opens : EveryOpeningIsLawful
  pub farms : EveryFarmStaysLawful
  pub safes : EveryScheduleIsSafe
  pub keeps : EveryEventKeepsTheFarm
  pub touches : EveryMessageTouchesItsOwn

module _ (laws : Laws) (sha : List ℕ → Digest) (k : Limits) (is_farm : IsFarm sha k) (size : ℕ) where
  pub here_of : (events : List Event) → AreEvents events → (scheduled sha k size events).down ≡ false → (scheduled sha k size events).armed ≡ None → Here size (scheduled sha k size events)
  here_of events are up safe =
      let s : Farm = scheduled sha k size events in
      let a = laws.safes sha k is_farm size events in
      let kept = kept_all sha _ a.world a.moves (kept_start sha) in
      record {
        lawful = run_lawful k laws.farms sha size events (opening sha size) are (laws.opens sha size size (omega arith));
        size = run_size laws.keeps sha k events (opening sha size);
        held = run_held k sha events (opening sha size) (λ p i. absurd i);
        lives = lives_below laws.safes sha k is_farm size events;
        up = up;
        safe = safe;
        own = λ h i n place st e.
            let live = a.shows.now.live_made h i in
            let was = subst (λ (x : Node). nth x.asks place ≡ Some st) (sym (a.shows.nodes n)) e in
            own_state a.world.pool a.world.machine h
            (λ g j same. subst (λ z. lease_from z ≡ h) (sym (granted_is g live.0 (one_made a.world.machine.made a.safe.tickets (Granted g) (Granted live.0) j live.1.0 (same ∙ ap (λ (l : Lease). l.ticket.0) (sym live.2))))) live.2)
            n place (a.world.nodes n).life st (kept.states n place st was);
      }

-- ---- a lease that is no tenure

unused_plain : (tenure b : Bool) → tenure ≡ false → (tenure && b) ≡ false
unused_plain tenure b e = rw e refl

pub every_lease_can_be_given_back : Laws → EveryLeaseCanBeGivenBack
every_lease_can_be_given_back laws sha k is_farm size events are up safe h i plain alive =
    let s : Farm = scheduled sha k size events in
    let b = give_back sha k size laws.touches s (here_of laws sha k is_farm size events are up safe) h i alive (λ same st e. unused_plain h.tenure _ plain) in
    (b.0, record { own = b.1; few = b.2; ended = b.3.ended; fewer = (let f : size_of (run sha k b.0 s).ledger + 1 ≤ size_of s.ledger = b.3.fewer in omega arith) })

-- ---- a parked ask is answered

waits_in : (live : List Lease) (queue : List Parked) → Waits live queue → (p : Parked) → In p queue → NoLease live p
waits_in live [] w p i = absurd i
waits_in live (r ∷ queue) w p (inl e) = subst (NoLease live) (sym e) w.0
waits_in live (r ∷ queue) w p (inr i) = waits_in live queue w.2 p i

abbrev pub Givings : ℕ → List Event → Type 0
Givings before events = (e : Event) → In e events → IsGivingBack before e

pub giving_event : (before : ℕ) (e : Event) → IsGivingBack before e → IsEvent e
giving_event before (replay.Ask n wants) i = absurd i
giving_event before (replay.Tenure n f) i = tt
giving_event before (Deliver number) i = tt
giving_event before (replay.Begin n t) i = tt
giving_event before (replay.Finish n t lefts) i = tt
giving_event before (replay.Abort n t) i = tt
giving_event before (Resend n) i = tt
giving_event before replay.Nudge i = tt
giving_event before (replay.Withdraw t) i = tt
giving_event before (replay.Prune slot) i = tt
giving_event before (replay.Retire n) i = tt
giving_event before (replay.RestartNode n) i = tt
giving_event before replay.RestartCoordinator i = tt
giving_event before (replay.Forge n c) i = tt
giving_event before (replay.Forget n d) i = tt
giving_event before (replay.FailSave kept) i = tt

pub less_giving : (a b : ℕ) (e : Event) → a ≤ b → IsGivingBack b e → IsGivingBack a e
less_giving a b (replay.Ask n wants) le i = i
less_giving a b (replay.Tenure n f) le i = i
less_giving a b (Deliver number) le i = (let j : b < number = i in let r : a < number = omega arith in r)
less_giving a b (replay.Begin n t) le i = i
less_giving a b (replay.Finish n t lefts) le i = i
less_giving a b (replay.Abort n t) le i = tt
less_giving a b (Resend n) le i = tt
less_giving a b replay.Nudge le i = tt
less_giving a b (replay.Withdraw t) le i = i
less_giving a b (replay.Prune slot) le i = i
less_giving a b (replay.Retire n) le i = i
less_giving a b (replay.RestartNode n) le i = i
less_giving a b replay.RestartCoordinator le i = i
less_giving a b (replay.Forge n c) le i = i
less_giving a b (replay.Forget n d) le i = i
less_giving a b (replay.FailSave kept) le i = i

pub more_events : (xs ys : List Event) → AreEvents xs → (before : ℕ) → Givings before ys → AreEvents (xs ++ ys)
more_events xs ys are before own e j = elim (in_append e xs ys j) [ inl b ↦ are e b | inr b ↦ giving_event before e (own e b) ]

pub both_giving : (before : ℕ) (xs ys : List Event) → Givings before xs → Givings before ys → Givings before (xs ++ ys)
both_giving before xs ys f g e j = elim (in_append e xs ys j) [ inl b ↦ f e b | inr b ↦ g e b ]

-- the ask stands open at its node, in the life that asked
pub record Stands (s : Farm) (p : Parked) : Type 0 where
  pub life : (s.nodes p.node.0).life ≡ p.life
  pub stays_open : nth (s.nodes p.node.0).asks p.ask.0 ≡ Some (Open p.wants p.tenure)

-- what comes of some events that give back
pub record Met (before : ℕ) (s : Farm) (p : Parked) (more : List Event) (t : Farm) : Type 0 where
  pub own : Givings before more
  pub sent : List Message
  pub pool : t.pool ≡ s.pool ++ sent
  pub answered : IsAnswered p sent
  pub stands : Stands t p
  pub down : t.down ≡ false
  pub armed : t.armed ≡ None
  pub size : t.size ≡ s.size
  pub gone : t.ledger.gone ≡ s.ledger.gone
  pub spent : (n : ℕ) → (t.nodes n).spent ≡ (s.nodes n).spent

none_down_later : (s t : Farm) → t.size ≡ s.size → t.ledger.gone ≡ s.ledger.gone → ((n : ℕ) → (t.nodes n).spent ≡ (s.nodes n).spent) → NoneIsDown s → NoneIsDown t
none_down_later s t size gone spent none who there here =
    spent who.0 ∙ none who (subst (λ (c : ℕ). (nat_le 1 who.0 && nat_le who.0 c) ≡ true) size there) (subst (λ (f : ℕ → Bool). f who.0 ≡ false) gone here)

module _ (laws : Laws) (sha : List ℕ → Digest) (k : Limits) (is_farm : IsFarm sha k) (size : ℕ) where
  abbrev F : List Event → Farm
  F events = scheduled sha k size events

  -- the holder is a node of the farm, in a life of which the ledger knows, and its ask is another one
  other_ask : (s : Farm) → Here size s → (p : Parked) → In p s.ledger.parked → (h : Lease) → In h s.ledger.live → p.node.0 ≡ h.node.0 → p.ask.0 ≡ h.ask.0 → ⊥
  other_ask s here p i h j n a =
      let q : Ledger = s.ledger in
      let node : h.node ≡ p.node = node_is h.node p.node (sym n) in
      let ask : h.ask ≡ p.ask = ask_is h.ask p.ask (sym a) in
      let life : h.life ≡ p.life = life_is h.life p.life (sym (here.lawful.ledger.core.holders h j).asker.life ∙ ap q.lives (sym n) ∙ (here.lawful.ledger.parked.each p i).asker.life) in
      true_false (is_of p.node p.life p.ask h) (names_same h.node p.node h.life p.life h.ask p.ask node life ask) (waits_in q.live q.parked here.lawful.ledger.parked.waits p i h j)

  holder_there : (s : Farm) → Here size s → (h : Lease) → In h s.ledger.live → is_node s h.node ≡ true
  holder_there s here h j = lease_there size s here h j

  holder_up : (s : Farm) → Here size s → NoneIsDown s → (h : Lease) → In h s.ledger.live → (s.nodes h.node.0).spent ≡ false
  holder_up s here none h j = none h.node (holder_there s here h j) (here.lawful.ledger.core.holders h j).asker.stays

  -- an ask for a lease waits for one that is no tenure
  plain_holder : (s : Farm) → Here size s → (p : Parked) → p.tenure ≡ false → (h : Lease) → In h s.ledger.live → holds_wanted p h ≡ true → h.tenure ≡ false
  plain_holder s here p free h j holds =
      let x = from_any (λ (w : Want). has_slot h.slots (only_slot w.folder)) (leased_wants p.tenure p.wants) holds in
      let other : wants_shared x.0 ≡ false = other_shared p.wants x.0 (subst (λ b. In x.0 (leased_wants b p.wants)) free x.1) in
      let its = (here.lawful.ledger.core.holders h j).wants in
      no_tenure h its.0 x.0 its.2 x.2 other

  abbrev Result_of : ℕ → List Event → Parked → Type 0
  Result_of before events p = (more : List Event) × (length more ≤ 4 * size_of (F events).ledger) × Met before (F events) p more (run sha k more (F events))

  answer_loop : (fuel before : ℕ) (events : List Event) → AreEvents events → (F events).down ≡ false → (F events).armed ≡ None → before ≤ length (F events).pool → NoneIsDown (F events)
      → (p : Parked) → In p (F events).ledger.parked → p.tenure ≡ false → Stands (F events) p → size_of (F events).ledger ≤ fuel → Result_of before events p
  answer_loop zero before events are up safe longer none p i free stands le = (let one : 1 ≤ length (F events).ledger.parked = some_in (F events).ledger.parked p i in absurd (omega arith))
  answer_loop (suc fuel) before events are up safe longer none p i free stands le =
      let s : Farm = F events in
      let here = here_of laws sha k is_farm size events are up safe in
      elim (waits_for s.ledger p (here.held p i)) [
        | inl away ↦ (let b = and_parts p.tenure _ away in true_false p.tenure b.0 free)
        | inr (h, j, holds) ↦
            let plain : h.tenure ≡ false = plain_holder s here p free h j holds in
            let b = give_back sha k size laws.touches s here h j (holder_up s here none h j) (λ same st e. unused_plain h.tenure _ plain) in
            let t : Farm = run sha k b.0 s in
            let g : Given sha k h s t = b.3 in
            let own : Givings before b.0 = λ e q. less_giving before (length s.pool) e longer (b.1 e q) in
            let later_stands : Stands t p = record {
              life = g.life p.node.0 ∙ stands.life;
              stays_open = g.asks p.node.0 p.ask.0 (other_ask s here p i h j) ∙ stands.stays_open;
            } in
            elim (g.served p i stands.life) [
              | inr answered ↦ (
                b.0,
                (let f : size_of t.ledger + 1 ≤ size_of s.ledger = g.fewer in let c : length b.0 ≤ 4 = b.2 in omega arith),
                record { own = own; sent = g.sent; pool = g.pool; answered = answered; stands = later_stands; down = g.down; armed = g.armed; size = g.size; gone = g.gone; spent = g.spent },
              )
              | inl still ↦
                  let same : F (events ++ b.0) ≡ t = run_more sha k events b.0 (opening sha size) in
                  let longer' : before ≤ length t.pool = (let d : length s.pool ≤ length t.pool = subst (λ (l : List Message). length s.pool ≤ length l) (sym g.pool) (length_more s.pool g.sent) in omega arith) in
                  let r = answer_loop fuel before (events ++ b.0) (more_events events b.0 are (length s.pool) b.1)
                  (subst (λ (f : Farm). f.down ≡ false) (sym same) g.down) (subst (λ (f : Farm). f.armed ≡ None) (sym same) g.armed)
                  (subst (λ (f : Farm). before ≤ length f.pool) (sym same) longer')
                  (subst NoneIsDown (sym same) (none_down_later s t g.size g.gone g.spent none))
                  p (subst (λ (f : Farm). In p f.ledger.parked) (sym same) still) free (subst (λ (f : Farm). Stands f p) (sym same) later_stands)
                  (subst (λ (f : Farm). size_of f.ledger ≤ fuel) (sym same) (let f : size_of t.ledger + 1 ≤ size_of s.ledger = g.fewer in omega arith)) in
                  let few : length r.0 ≤ 4 * size_of t.ledger = subst (λ (f : Farm). length r.0 ≤ 4 * size_of f.ledger) same r.1 in
                  let m : Met before t p r.0 (run sha k r.0 t) = subst (λ (f : Farm). Met before f p r.0 (run sha k r.0 f)) same r.2 in (
                    b.0 ++ r.0,
                    (let f : size_of t.ledger + 1 ≤ size_of s.ledger = g.fewer in let c : length b.0 ≤ 4 = b.2 in let d : length (b.0 ++ r.0) ≡ length b.0 + length r.0 = length-append b.0 r.0 in omega arith),
                    subst (Met before s p (b.0 ++ r.0)) (sym (run_more sha k b.0 r.0 s)) (record {
                      own = both_giving before b.0 r.0 own m.own;
                      sent = g.sent ++ m.sent;
                      pool = more_pool k sha 0 s.pool t.pool (run sha k r.0 t).pool g.sent m.sent g.pool m.pool;
                      answered = answered_right k sha 0 p g.sent m.sent m.answered;
                      stands = m.stands;
                      down = m.down;
                      armed = m.armed;
                      size = m.size ∙ g.size;
                      gone = m.gone ∙ g.gone;
                      spent = λ n. m.spent n ∙ g.spent n;
                    }),
                  )
            ]
      ]

-- ---- how many leases and parked asks an Acquire leaves

module _ (k : Limits) where
  decided_size : (d : Decision) (p : Parked) (w : Work) → size_of (decided k d p w).ledger ≤ size_of w.ledger + 1
  unfolding gives
  decided_size Give p w = (let e = length_push w.ledger.live (lease_for k w.ledger p) in omega arith)
  decided_size (Deny why) p w = omega arith
  decided_size Wait p w =
      let b : Bool = p.tenure && not (elsewhere w.ledger p) in
      let live : (recalls b p w).ledger.live ≡ w.ledger.live = ap (λ (q : Ledger). q.live) (recalling b _ p w refl) in
      let e : length (w.ledger.parked ++ p ∷ []) ≡ length w.ledger.parked + 1 = length_push w.ledger.parked p in
      let f : length (recalls b p w).ledger.live ≡ length w.ledger.live = ap length live in
      omega arith

  acquiring_size : (o : Option Lease) (b : Bool) (p : Parked) (w : Work) → size_of (acquiring k o b p w).ledger ≤ size_of w.ledger + 1
  acquiring_size (Some h) b p w = omega arith
  acquiring_size None true p w = omega arith
  acquiring_size None false p w = decided_size (decision k w.ledger p) p w

  newer_size : (n : NodeId) (l : Life) (w : Work) → size_of (newer_life k n l w).ledger ≤ size_of w.ledger
  unfolding newer_life
  newer_size n l w =
      let a : length (filter (λ (h : Lease). not (is_older n l h)) w.ledger.live) ≤ length w.ledger.live = filter_le (λ (h : Lease). not (is_older n l h)) w.ledger.live in
      let b : length (filter (λ (p : Parked). not (is_older_ask n l p)) w.ledger.parked) ≤ length w.ledger.parked = filter_le (λ (p : Parked). not (is_older_ask n l p)) w.ledger.parked in
      elim (cases_Bool (list_any (is_older n l) w.ledger.live || is_home n w.ledger.old_home)) [
        | inl t ↦ rw t (let c = retried_size k (sees n l w) in omega arith)
        | inr t ↦ rw t (omega arith)
      ]

  asked_size : (p : Parked) (w : Work) → size_of (handled k (saying k p) w).ledger ≤ size_of w.ledger + 1
  unfolding handled
  asked_size p w = elim (cases_Bool (w.ledger.gone p.node.0)) [
    | inl t ↦ rw t (omega arith)
    | inr here ↦ rw here (elim (cases_Bool (nat_lt p.life.0 (w.ledger.lives p.node.0))) [
      | inl t ↦ rw t (omega arith)
      | inr t ↦ rw t (elim (cases_Bool (nat_lt (w.ledger.lives p.node.0) p.life.0)) [
        | inl newer ↦ rw newer (
            let v : Work = newer_life k p.node p.life w in
            let a = newer_size p.node p.life w in
            let b = acquiring_size (lease_of v.ledger.live p.node p.life p.ask) (is_parked v.ledger.parked p.node p.life p.ask) p v in
            omega arith)
        | inr same ↦ rw same (acquiring_size (lease_of w.ledger.live p.node p.life p.ask) (is_parked w.ledger.parked p.node p.life p.ask) p w)
      ])
    ])
  ]

-- ---- an open ask is answered

parked_is : (r p : Parked) → r.node ≡ p.node → r.life ≡ p.life → r.ask ≡ p.ask → r.wants ≡ p.wants → r.tenure ≡ p.tenure → r ≡ p
parked_is r p n l a w t = λ i. record { node = n i; life = l i; ask = a i; wants = w i; tenure = t i }

module _ (laws : Laws) (means : EveryScheduleMeans) (sha : List ℕ → Digest) (k : Limits) (is_farm : IsFarm sha k) (size : ℕ) (events : List Event) (are : AreEvents events) (who : NodeId) (ask : Ask) (wants : List Want) (tenure : Bool) where
  abbrev s : Farm
  s = scheduled sha k size events

  abbrev pub its_ask : Parked
  its_ask = record { node = who; life = (s.nodes who.0).life; ask = ask; wants = wants; tenure = tenure }

  -- once the ask is parked some events answer it
  abbrev pub Loop : ℕ → Type 0
  Loop bound = (later : List Event) → AreEvents later → (scheduled sha k size later).down ≡ false → (scheduled sha k size later).armed ≡ None
      → length s.pool ≤ length (scheduled sha k size later).pool → NoneIsDown (scheduled sha k size later) → size_of (scheduled sha k size later).ledger ≤ size_of s.ledger + 1
      → In its_ask (scheduled sha k size later).ledger.parked → Stands (scheduled sha k size later) its_ask
      → (more : List Event) × (length more ≤ bound) × Met (length s.pool) (scheduled sha k size later) its_ask more (run sha k more (scheduled sha k size later))

  pub record Answered (bound : ℕ) : Type 0 where
    pub more : List Event
    pub own : (e : Event) → In e more → IsGivingBack (length s.pool) e
    pub few : length more ≤ bound + 3
    pub kept : KeptAsk
    pub here : nth ((run sha k more s).nodes who.0).asks ask.0 ≡ Some kept
    pub answered : is_open kept ≡ false

  abbrev before : ℕ
  before = length s.pool

  -- the answer comes
  comes : (bound : ℕ) (early : List Event) → Givings before early → length early ≡ 2 → (more : List Event) → Givings before more → length more ≤ bound → (v : Farm) → v ≡ run sha k more (run sha k early s)
      → (base sent : List Message) → before ≤ length base → v.pool ≡ base ++ sent → IsAnswered its_ask sent → is_node v who ≡ true → (v.nodes who.0).spent ≡ false → Stands v its_ask → Answered bound
  unfolding Knows
  comes bound early own two more also few v is base sent longer pool answered there up stands =
      let r = answer_known sha k v its_ask base sent wants tenure pool answered there up (sym stands.life) stands.stays_open in
      let last : List Event = Deliver r.0 ∷ [] in
      let all : run sha k (early ++ (more ++ last)) s ≡ (step sha k v (Deliver r.0)).farm = run_more sha k early (more ++ last) s ∙ run_more sha k more last (run sha k early s) ∙ ap (λ (f : Farm). (step sha k f (Deliver r.0)).farm) (sym is) in
      let fresh : before < r.0 = (let l : length base < r.0 = r.1 in omega arith) in
      record {
        more = early ++ (more ++ last);
        own = both_giving before early (more ++ last) own (both_giving before more last also (one_more (IsGivingBack before) (Deliver r.0) fresh [] (λ v j. absurd j)));
        few = (let a : length (early ++ (more ++ last)) ≡ length early + length (more ++ last) = length-append early (more ++ last) in let b : length (more ++ last) ≡ length more + 1 = length-append more last in omega arith);
        kept = r.2.0;
        here = subst (λ (f : Farm). nth (f.nodes who.0).asks ask.0 ≡ Some r.2.0) (sym all) r.2.1;
        answered = r.2.2;
      }

  -- what is parked under its name is it
  pub its_parked : (later : List Event) → is_parked (scheduled sha k size later).ledger.parked who (s.nodes who.0).life ask ≡ true → In (acquire who (s.nodes who.0).life ask wants tenure) (scheduled sha k size later).pool → In its_ask (scheduled sha k size later).ledger.parked
  its_parked later queued own =
      let t : Farm = scheduled sha k size later in
      let p : Parked = its_ask in
      let r = from_any (λ (r : Parked). (eqb r.node.0 p.node.0) && (eqb r.life.0 p.life.0) && (eqb r.ask.0 p.ask.0)) t.ledger.parked queued in
      let name = names_are r.0.node p.node r.0.life p.life r.0.ask p.ask r.2 in
      let sa = laws.safes sha k is_farm size later in
      let asked : In (acquire r.0.node r.0.life r.0.ask r.0.wants r.0.tenure) t.pool = subst (In (acquire r.0.node r.0.life r.0.ask r.0.wants r.0.tenure)) sa.shows.pool (sa.shows.now.asked r.0 r.1).0 in
      let named : In (acquire p.node p.life p.ask r.0.wants r.0.tenure) t.pool =
      subst (λ (m : NodeId). In (acquire m p.life p.ask r.0.wants r.0.tenure) t.pool) name.0
      (subst (λ (m : Life). In (acquire r.0.node m p.ask r.0.wants r.0.tenure) t.pool) name.1
      (subst (λ (m : Ask). In (acquire r.0.node r.0.life m r.0.wants r.0.tenure) t.pool) name.2 asked)) in
      let one = (means sha k is_farm size later).also.one_ask p.node p.life p.ask r.0.wants wants r.0.tenure tenure named own in
      subst (λ (z : Parked). In z t.ledger.parked) (parked_is r.0 p name.0 name.1 name.2 one.0 one.1) r.1

  pub answer_it : (bound : ℕ) → s.down ≡ false → s.armed ≡ None → NoneIsDown s → IsWaiting s who ask wants tenure → Loop bound → Answered bound
  answer_it bound up safe none is loop =
      let x : Node = s.nodes who.0 in
      let lawful = (here_of laws sha k is_farm size events are up safe).lawful in
      let work = resend_work sha k s who in
      let t : Farm = (moved who work s).farm in
      let sent_again : (step sha k s (Resend who)).farm ≡ t = resend_step sha k s who is.there is.runs in
      let y : ToCoord = saying k its_ask in
      let said : In (Said y) work.sends = inr (again_of sha k (at s who) x (Open wants tenure) (Said y) ask.0 is.asks (λ a q. inl (ap (λ (z : Ask). acquire who x.life z wants tenure) (ask_is ask a (sym q))))) in
      let m = new_nth s.pool work.sends (Said y) said in
      let w : Work = handled k y (begin_work s.ledger) in
      let u : Farm = (step sha k t (Deliver m.0)).farm in
      let after : IsAfter k sha 0 t w u = delivery_is sha k t m.0 y m.2 up safe in
      let stays = delivery_same sha k t m.0 y m.2 in
      let early : List Event = Resend who ∷ Deliver m.0 ∷ [] in
      let comes_to : run sha k early s ≡ u = ap (λ (f : Farm). (step sha k f (Deliver m.0)).farm) sent_again in
      let own : Givings before early = one_more (IsGivingBack before) (Resend who) tt (Deliver m.0 ∷ []) (one_more (IsGivingBack before) (Deliver m.0) m.1 [] (λ v j. absurd j)) in
      let node : u.nodes who.0 ≡ x = ap (λ (f : ℕ → Node). f who.0) stays.nodes ∙ put_same who.0 x s.nodes in
      let stands : Stands u its_ask = record { life = ap (λ (z : Node). z.life) node; stays_open = ap (λ (z : Node). nth z.asks ask.0) node ∙ is.asks } in
      let spent : (n : ℕ) → (u.nodes n).spent ≡ (s.nodes n).spent = λ n. ap (λ (f : ℕ → Node). (f n).spent) stays.nodes ∙ put_all (λ j (z : Node). z.spent ≡ (s.nodes j).spent) who.0 x s.nodes refl (λ j other. refl) n in
      let gone : u.ledger.gone ≡ s.ledger.gone = ap (λ (q : Ledger). q.gone) after.ledger ∙ (laws.touches size k s.ledger lawful.ledger y).gone in
      let few : size_of u.ledger ≤ size_of s.ledger + 1 = subst (λ (q : Ledger). size_of q ≤ size_of s.ledger + 1) (sym after.ledger) (asked_size k its_ask (begin_work s.ledger)) in
      let there : is_node u who ≡ true = subst (λ (c : ℕ). (nat_le 1 who.0 && nat_le who.0 c) ≡ true) (sym stays.size) is.there in
      let runs : (u.nodes who.0).spent ≡ false = spent who.0 ∙ is.runs in
      let long : before ≤ length t.pool = length_more s.pool work.sends in
      elim (handled_met k its_ask (begin_work s.ledger) is.stays (not_below x.life.0 (s.ledger.lives who.0) (lives_below laws.safes sha k is_farm size events who.0))) [
        | inr served ↦ comes bound early own refl [] (λ v j. absurd j) (omega arith) u (sym comes_to) t.pool (map Told w.sends) long after.pool (served_is k its_ask w.sends served) there runs stands
        | inl queued ↦
            let later : List Event = events ++ early in
            let v : Farm = scheduled sha k size later in
            let same : v ≡ u = run_more sha k events early (opening sha size) ∙ comes_to in
            let all : AreEvents later = more_events events early are before own in
            let parked : In its_ask v.ledger.parked = its_parked later (subst (λ (f : Farm). is_parked f.ledger.parked who x.life ask ≡ true) (sym same) (subst (λ (q : Ledger). is_parked q.parked who x.life ask ≡ true) (sym after.ledger) queued))
            (subst (λ (f : Farm). In (Said y) f.pool) (sym same) (subst (λ (l : List Message). In (Said y) l) (sym after.pool) (in_left (Said y) t.pool (map Told w.sends) (in_right (Said y) s.pool work.sends said)))) in
            let longer : before ≤ length u.pool = subst (λ (l : List Message). before ≤ length l) (sym after.pool) (let a = length_more t.pool (map Told w.sends) in omega arith) in
            let r = loop later all (subst (λ (f : Farm). f.down ≡ false) (sym same) after.down) (subst (λ (f : Farm). f.armed ≡ None) (sym same) after.armed) (subst (λ (f : Farm). before ≤ length f.pool) (sym same) longer)
            (subst NoneIsDown (sym same) (none_down_later s u stays.size gone spent none)) (subst (λ (f : Farm). size_of f.ledger ≤ size_of s.ledger + 1) (sym same) few) parked (subst (λ (f : Farm). Stands f its_ask) (sym same) stands) in
            let z : Farm = run sha k r.0 v in
            let met : Met before v its_ask r.0 z = r.2 in
            comes bound early own refl r.0 met.own r.1 z (ap (run sha k r.0) (same ∙ sym comes_to)) v.pool met.sent (subst (λ (f : Farm). before ≤ length f.pool) (sym same) longer) met.pool met.answered
            (subst (λ (c : ℕ). (nat_le 1 who.0 && nat_le who.0 c) ≡ true) (sym (met.size ∙ ap (λ (f : Farm). f.size) same)) there)
            (met.spent who.0 ∙ subst (λ (f : Farm). (f.nodes who.0).spent ≡ false) (sym same) runs) met.stands
      ]

pub every_open_ask_is_answered_by_giving_back : Laws → EveryScheduleMeans → EveryOpenAskIsAnsweredByGivingBack
every_open_ask_is_answered_by_giving_back laws means sha k is_farm size events are up safe none who ask wants is =
    let s : Farm = scheduled sha k size events in
    let p : Parked = its_ask laws means sha k is_farm size events are who ask wants false in
    let bound : ℕ = 4 * (size_of s.ledger + 1) in
    let loop : Loop laws means sha k is_farm size events are who ask wants false bound = λ later all up' safe' long none' few parked stands.
    (let r = answer_loop laws sha k is_farm size (size_of (scheduled sha k size later).ledger) (length s.pool) later all up' safe' long none' p parked refl stands (omega arith) in
    let a : length r.0 ≤ 4 * size_of (scheduled sha k size later).ledger = r.1 in
    (r.0, omega arith, r.2)) in
    let a = answer_it laws means sha k is_farm size events are who ask wants false bound up safe none is loop in
    (a.more, record { own = a.own; few = (let f : length a.more ≤ bound + 3 = a.few in omega arith); answered = record { kept = a.kept; here = a.here; answered = a.answered } })
