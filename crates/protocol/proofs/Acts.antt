-- What each act of a node keeps.
use Rattle.std.proofs.Common.{◌≡◌, ◌≢◌, ℕ, zero, suc, ◌+◌, ◌≤◌, List, [], ◌∷◌, ◌++◌, ◌⊎◌, Bool, true, false, not, eqb, length, Option, Some, refl, sym, ◌∙◌, ap, subst, inl, inr, arith}
use Rattle.std.proofs.lemmas.Bool.{cases_Bool, eqb-true, cases_eq}
use Rattle.farm_base.specs.Kinds.{is_tenure}
use Rattle.protocol.specs.Lists.{In, nth, set_nth}
use Rattle.protocol.specs.Names.{Slot, slot_eq, digest_eq, NodeId, Life, Ask, Ticket, Digest, Want, FolderName, wants_shared, tenure_wants}
use Rattle.protocol.specs.Machine.{GrantedSlot, Grant, News, Confirmed, Granted, Message, Told, Fetches, Blob, hello, acquire, commit, release, Machine, AnswersAsk, line, written, slots_of, Names, Stands}
use Rattle.farm_base.specs.declared.message.FromCoord.TheVariants as told
use Rattle.events.specs.declared.answer.How.TheVariants as how
use Rattle.protocol.specs.World.{KeptAsk, Open, Holding, Running, Finished, Over, Node, keeps, learn, learn_bases, learn_versions, keep, without, has_life, RunsTenure, WantsNow, for_tenure, Idle, Act, Asks, Asks_tenure, Asks_again, Greets, Takes, Gives_back, Begins, Finishes, Gives_up, Sends_commit, Learns, Drops, Is_denied, Is_recalled, Is_recalled_running, Stores, Forgets, Asks_content, Sends_blob, Restarts, Stops, World}
use Rattle.names.proofs.CompareLaws.{digest_exact}
use Rattle.protocol.proofs.Base.{slot_eq_is, in_one, some_is, none_some, nth-set_same, nth-set_other, nth_set_cases, nth-append, nth-push, nth_push_cases}
use Rattle.protocol.proofs.Invariant.{Wanted, spent, WasAsked, Spent, ForTenure, Its, StateOk, HasTenure, AtHome, NodeOk, WasGiven, MessageOk, Inv, Ahead, ahead_refl}

-- ---- what is known

-- the answer after one more version is known
learn_cases : (s : Slot) (k : ℕ) (d : Digest) (known : Slot → ℕ → Option Digest) (s' : Slot) (k' : ℕ) (d' : Digest) → learn s k d known s' k' ≡ Some d' → ((s' ≡ s) × (k' ≡ k) × (d' ≡ d)) ⊎ (known s' k' ≡ Some d')
learn_cases s k d known s' k' d' h =
    elim (cases_Bool (slot_eq s' s)) [
      | inl p ↦ elim (cases_Bool (eqb k' k)) [
        | inl q ↦ (let is : learn s k d known s' k' ≡ Some d = rw (p, q) in
            inl (slot_eq_is s' s p, eqb-true k' k q, some_is d' d (sym h ∙ is)))
        | inr q ↦ (let is : learn s k d known s' k' ≡ known s' k' = rw (p, q) in inr (sym is ∙ h))
      ]
      | inr p ↦ (let is : learn s k d known s' k' ≡ known s' k' = rw p in inr (sym is ∙ h))
    ]

abbrev pub KnownOk : Digest → Machine → (Slot → ℕ → Option Digest) → Type 0
KnownOk empty m known = (s : Slot) (k : ℕ) (d : Digest) → known s k ≡ Some d → Names empty (line empty m s) k d

learn_ok : (empty : Digest) (m : Machine) (s : Slot) (k : ℕ) (d : Digest) (known : Slot → ℕ → Option Digest) → Names empty (line empty m s) k d → KnownOk empty m known → KnownOk empty m (learn s k d known)
learn_ok empty m s k d known here ok s' k' d' h =
    elim (learn_cases s k d known s' k' d' h) [
      | inl q ↦ subst (λ z. Names empty (line empty m z) k' d') (sym q.0) (subst (λ z. Names empty (line empty m s) z d') (sym q.1) (subst (λ z. Names empty (line empty m s) k z) (sym q.2) here))
      | inr old ↦ ok s' k' d' old
    ]

bases_ok : (empty : Digest) (m : Machine) (us : List GrantedSlot) (known : Slot → ℕ → Option Digest) → ((u : GrantedSlot) → In u us → Names empty (line empty m u.slot) u.base u.digest) → KnownOk empty m known → KnownOk empty m (learn_bases us known)
bases_ok empty m [] known all ok = ok
bases_ok empty m (u ∷ us) known all ok = bases_ok empty m us (learn u.slot u.base u.digest known) (λ v i. all v (inr i)) (learn_ok empty m u.slot u.base u.digest known (all u (inl refl)) ok)

versions_ok : (empty : Digest) (m : Machine) (t : Ticket) (vs : List Confirmed) (known : Slot → ℕ → Option Digest) → ((v : Confirmed) → In v vs → Stands empty m t v) → KnownOk empty m known → KnownOk empty m (learn_versions vs known)
versions_ok empty m t [] known all ok = ok
versions_ok empty m t (v ∷ vs) known all ok =
    let h = all v (inl refl) in
    versions_ok empty m t vs (learn v.slot v.number v.digest known) (λ v i. all v (inr i)) (learn_ok empty m v.slot v.number v.digest known (inr (h.0, record { ticket = t; digest = v.digest }, h.1, h.2, refl)) ok)

pub keep_ok : (sha : List ℕ → Digest) (c : List ℕ) (store : Digest → Option (List ℕ)) → ((d : Digest) (c' : List ℕ) → store d ≡ Some c' → sha c' ≡ d) → (d : Digest) (c' : List ℕ) → keep (sha c) c store d ≡ Some c' → sha c' ≡ d
keep_ok sha c store ok d c' h = elim (cases_Bool (digest_eq d (sha c))) [
  | inl e ↦ (let is : keep (sha c) c store d ≡ Some c = rw e in ap sha (some_is c' c (sym h ∙ is)) ∙ sym (digest_exact d (sha c) e))
  | inr e ↦ (let is : keep (sha c) c store d ≡ store d = rw e in ok d c' (sym is ∙ h))
]

without_ok : (sha : List ℕ → Digest) (d : Digest) (store : Digest → Option (List ℕ)) → ((e : Digest) (c : List ℕ) → store e ≡ Some c → sha c ≡ e) → (e : Digest) (c : List ℕ) → without d store e ≡ Some c → sha c ≡ e
without_ok sha d store ok e c h = elim (cases_Bool (digest_eq e d)) [
  | inl t ↦ none_some c (rw t at h)
  | inr f ↦ ok e c (rw f at h)
]

-- ---- asks that go on as their node stays in its life

-- what was asked stays so, and what is over
pub record GoesOn (s s' : KeptAsk) : Type 0 where
  pub asked : (wants : List Want) (tenure : Bool) → Wanted s wants tenure → Wanted s' wants tenure
  pub over : (k : ℕ) → spent s k ≡ true → spent s' k ≡ true

stays_on : (s : KeptAsk) → GoesOn s s
stays_on s = record { asked = λ ws t h. h; over = λ k h. h }

abbrev AllGoOn : List KeptAsk → List KeptAsk → Type 0
AllGoOn asks asks' = (b : ℕ) (s : KeptAsk) → nth asks b ≡ Some s → (s' : KeptAsk) × (nth asks' b ≡ Some s') × GoesOn s s'

ahead_from : (x x' : Node) → x'.life ≡ x.life → AllGoOn x.asks x'.asks → Ahead x x'
ahead_from x x' life go = record {
  life = (let e : x'.life.0 ≡ x.life.0 = ap (λ (z : Life). z.0) life in omega arith);
  asked = λ l b wants tenure h. elim h [
    | inl lt ↦ inl (let e : x'.life.0 ≡ x.life.0 = ap (λ (z : Life). z.0) life in omega arith)
    | inr k ↦ (let r = go b k.1.0 k.1.1 in inr (k.0 ∙ sym life, (r.0, r.1, r.2.asked wants tenure k.1.2)))
  ];
  spent = λ g h. elim h [
    | inl lt ↦ inl (let e : x'.life.0 ≡ x.life.0 = ap (λ (z : Life). z.0) life in omega arith)
    | inr k ↦ (let r = go g.ask.0 k.1.0 k.1.1 in inr (k.0 ∙ sym life, (r.0, r.1, r.2.over g.ticket.0 k.1.2)))
  ];
}

go_same : (asks : List KeptAsk) → AllGoOn asks asks
go_same asks b s e = (s, e, stays_on s)

go_set : (asks : List KeptAsk) (a : ℕ) (old new : KeptAsk) → nth asks a ≡ Some old → GoesOn old new → AllGoOn asks (set_nth asks a new)
go_set asks a old new at goes b s e = elim (cases_eq b a) [
  | inl q ↦ (let was : s ≡ old = some_is s old (sym e ∙ ap (nth asks) q ∙ at) in
      (new, ap (nth (set_nth asks a new)) q ∙ nth-set_same asks a new old at, subst (λ z. GoesOn z new) (sym was) goes))
  | inr ne ↦ (s, nth-set_other asks a b new ne ∙ e, stays_on s)
]

go_push : (asks : List KeptAsk) (new : KeptAsk) → AllGoOn asks (asks ++ new ∷ [])
go_push asks new b s e = (s, nth-append asks (new ∷ []) b s e, stays_on s)

pub ahead_restart : (x x' : Node) → x'.life.0 ≡ x.life.0 + 1 → Ahead x x'
ahead_restart x x' life = record {
  life = omega arith;
  asked = λ l b wants tenure h. elim h [ inl lt ↦ inl (omega arith) | inr k ↦ inl (let e : l.0 ≡ x.life.0 = ap (λ (z : Life). z.0) k.0 in omega arith) ];
  spent = λ g h. elim h [ inl lt ↦ inl (omega arith) | inr k ↦ inl (let e : g.life.0 ≡ x.life.0 = ap (λ (z : Life). z.0) k.0 in omega arith) ];
}

-- ---- tenures in use

abbrev KeepsTenures : List KeptAsk → List KeptAsk → Type 0
KeepsTenures asks asks' = (b : ℕ) (wants : List Want) (g : Grant) (r : Bool) → nth asks b ≡ Some (Running wants g r) → (r' : Bool) × (nth asks' b ≡ Some (Running wants g r'))

has_later : (asks asks' : List KeptAsk) (f : FolderName) → KeepsTenures asks asks' → HasTenure asks f → HasTenure asks' f
has_later asks asks' f runs h = (let r = runs h.0 h.1 h.2 h.3 h.5 in (h.0, h.1, h.2, r.0, h.4, r.1, h.6, h.7, h.8))

runs_push : (asks : List KeptAsk) (new : KeptAsk) → KeepsTenures asks (asks ++ new ∷ [])
runs_push asks new b wants g r e = (r, nth-append asks (new ∷ []) b (Running wants g r) e)

abbrev NotRunning : KeptAsk → Type 0
NotRunning s = (wants : List Want) (g : Grant) (r : Bool) → s ≢ Running wants g r

runs_set : (asks : List KeptAsk) (a : ℕ) (old new : KeptAsk) → nth asks a ≡ Some old → NotRunning old → KeepsTenures asks (set_nth asks a new)
runs_set asks a old new at idle b wants g r e = elim (cases_eq b a) [
  | inl q ↦ absurd (idle wants g r (some_is old (Running wants g r) (sym at ∙ ap (nth asks) (sym q) ∙ e)))
  | inr ne ↦ (r, nth-set_other asks a b new ne ∙ e)
]

runs_recalled : (asks : List KeptAsk) (a : ℕ) (wants : List Want) (g : Grant) (r r' : Bool) → nth asks a ≡ Some (Running wants g r) → KeepsTenures asks (set_nth asks a (Running wants g r'))
runs_recalled asks a wants g r r' at b ws h q e = elim (cases_eq b a) [
  | inl p ↦ (let same : Running wants g r ≡ Running ws h q = some_is (Running wants g r) (Running ws h q) (sym at ∙ ap (nth asks) (sym p) ∙ e) in
      let w : wants ≡ ws = cc in
      let i : g ≡ h = cc in
      (r', ap (nth (set_nth asks a (Running wants g r'))) p ∙ nth-set_same asks a (Running wants g r') (Running wants g r) at ∙ ap (λ z. Some (Running z g r')) w ∙ ap (λ z. Some (Running ws z r')) i))
  | inr ne ↦ (q, nth-set_other asks a b (Running wants g r') ne ∙ e)
]

-- an ask that is set to a state that wants no more than before
home_set : (asks : List KeptAsk) (a : ℕ) (old new : KeptAsk) → nth asks a ≡ Some old → KeepsTenures asks (set_nth asks a new)
    → ((w : Want) → WantsNow new w → WantsNow old w × (for_tenure new ≡ false → for_tenure old ≡ false)) → AtHome asks → AtHome (set_nth asks a new)
home_set asks a old new at runs less home b s w e wants shared free = elim (nth_set_cases asks a new old b s at e) [
  | inl q ↦ (let l = less w (subst (λ z. WantsNow z w) q.1 wants) in
      has_later asks (set_nth asks a new) w.folder runs (home a old w at l.0 shared (l.1 (subst (λ z. for_tenure z ≡ false) q.1 free))))
  | inr q ↦ has_later asks (set_nth asks a new) w.folder runs (home b s w q.1 wants shared free)
]

home_push : (asks : List KeptAsk) (new : KeptAsk) → ((w : Want) → WantsNow new w → wants_shared w ≡ true → for_tenure new ≡ false → HasTenure asks w.folder) → AtHome asks → AtHome (asks ++ new ∷ [])
home_push asks new here home b s w e wants shared free = elim (nth_push_cases asks new b s e) [
  | inl q ↦ has_later asks (asks ++ new ∷ []) w.folder (runs_push asks new) (home b s w q wants shared free)
  | inr q ↦ has_later asks (asks ++ new ∷ []) w.folder (runs_push asks new)
      (here w (subst (λ z. WantsNow z w) q.1 wants) shared (subst (λ z. for_tenure z ≡ false) q.1 free))
]

-- an execution that ends with no other ask in its folders
home_end : (asks : List KeptAsk) (a : ℕ) (wants : List Want) (g : Grant) (r : Bool) (new : KeptAsk) → nth asks a ≡ Some (Running wants g r) → Idle asks a wants g
    → ((w : Want) → WantsNow new w → ⊥) → AtHome asks → AtHome (set_nth asks a new)
home_end asks a wants g r new at idle none home b s w e now shared free = elim (nth_set_cases asks a new (Running wants g r) b s at e) [
  | inl q ↦ absurd (none w (subst (λ z. WantsNow z w) q.1 now))
  | inr q ↦ (let h = home b s w q.1 now shared free in elim (cases_eq h.0 a) [
    | inl p ↦ (let same : Running wants g r ≡ Running h.1 h.2 h.3 = some_is (Running wants g r) (Running h.1 h.2 h.3) (sym at ∙ ap (nth asks) (sym p) ∙ h.5) in
        let w' : h.1 ≡ wants = cc in
        let g' : h.2 ≡ g = cc in
        absurd (idle (subst (λ (z : Grant). is_tenure z.kind ≡ true) g' h.6) h.4 (subst (In h.4) w' h.7) b s q.1 q.0 (w, now, sym h.8)))
    | inr ne ↦ (h.0, h.1, h.2, h.3, h.4, nth-set_other asks a h.0 new ne ∙ h.5, h.6, h.7, h.8)
  ])
]

runs_has : (asks : List KeptAsk) (f : FolderName) (r : Bool) → RunsTenure asks f r → HasTenure asks f
runs_has asks f r h = (h.0, h.1, h.2, r, h.3, h.4, h.5, h.6, h.7)

-- ---- a node that acts in a world under the invariant

pub open_not_running : (wants : List Want) (t : Bool) → NotRunning (Open wants t)
open_not_running wants t ws g r e = cc

pub held_not_running : (wants : List Want) (h : Grant) (q : Bool) → NotRunning (Holding wants h q)
held_not_running wants h q ws g r e = cc

finished_not_running : (wants : List Want) (h : Grant) (news : List News) → NotRunning (Finished wants h news)
finished_not_running wants h news ws g r e = cc

spent_from : (s : KeptAsk) (t : Ticket) → ((ws : List Want) (b : Bool) → s ≢ Open ws b) → keeps s t ≡ false → spent s t.0 ≡ true
spent_from (Open ws b) t opened kept = absurd (opened ws b refl)
spent_from (Holding ws g r) t opened kept = ap not kept
spent_from (Running ws g r) t opened kept = ap not kept
spent_from (Finished ws g news) t opened kept = refl
spent_from (Over how) t opened kept = refl

module _ (sha : List ℕ → Digest) (w : World) (inv : Inv sha w) (n : NodeId) where
  abbrev x : Node
  x = w.nodes n.0

  x_ok : NodeOk sha w.machine n x
  x_ok = inv.nodes n

  state_is : (a : ℕ) (s : KeptAsk) → nth x.asks a ≡ Some s → StateOk w.machine n x.life a s
  state_is a s e = x_ok.states a s e

  set_states : (a : ℕ) (old new : KeptAsk) → nth x.asks a ≡ Some old → StateOk w.machine n x.life a new → (b : ℕ) (s : KeptAsk) → nth (set_nth x.asks a new) b ≡ Some s → StateOk w.machine n x.life b s
  set_states a old new at ok b s e = elim (nth_set_cases x.asks a new old b s at e) [
    | inl q ↦ subst (λ z. StateOk w.machine n x.life z s) (sym q.0) (subst (StateOk w.machine n x.life a) (sym q.1) ok)
    | inr q ↦ x_ok.states b s q.1
  ]

  push_states : (new : KeptAsk) → ((b : ℕ) → StateOk w.machine n x.life b new) → (b : ℕ) (s : KeptAsk) → nth (x.asks ++ new ∷ []) b ≡ Some s → StateOk w.machine n x.life b s
  push_states new ok b s e = elim (nth_push_cases x.asks new b s e) [
    | inl q ↦ x_ok.states b s q
    | inr q ↦ subst (StateOk w.machine n x.life b) (sym q.1) (ok b)
  ]

  -- the node with one ask changed
  one_ask : (a : ℕ) (old new : KeptAsk) → nth x.asks a ≡ Some old → StateOk w.machine n x.life a new → AtHome (set_nth x.asks a new) → NodeOk sha w.machine n (record x { asks = set_nth x.asks a new })
  one_ask a old new at ok home = record { states = set_states a old new at ok; known = x_ok.known; stored = x_ok.stored; homes = home }

  -- a Grant that was sent to this life answers the ask that it names, with its wants
  grant_wanted : (g : Grant) → In (Granted g) w.machine.made → g.node ≡ n → g.life ≡ x.life → (s : KeptAsk) → nth x.asks g.ask.0 ≡ Some s
      → (wants : List Want) × Wanted s wants (is_tenure g.kind) × AnswersAsk g wants × ForTenure (is_tenure g.kind) wants
  grant_wanted g made at life s e =
      let r = inv.asked g made in
      let ok = inv.messages (acquire g.node g.life g.ask r.0 (is_tenure g.kind)) r.1 in
      let here : WasAsked x g.life g.ask.0 r.0 (is_tenure g.kind) = subst (λ (z : NodeId). WasAsked (w.nodes z.0) g.life g.ask.0 r.0 (is_tenure g.kind)) at ok.0 in (
        r.0,
        elim here [
          | inl lt ↦ (let e' : g.life.0 ≡ x.life.0 = ap (λ (z : Life). z.0) life in absurd (omega arith))
          | inr k ↦ subst (λ z. Wanted z r.0 (is_tenure g.kind)) (some_is k.1.0 s (sym k.1.1 ∙ e)) k.1.2
        ],
        r.2,
        ok.1,
      )

  taken : (g : Grant) (wants : List Want) (tenure : Bool) → In (Told (told.Granted g)) w.pool → g.node ≡ n → g.life ≡ x.life → nth x.asks g.ask.0 ≡ Some (Open wants tenure) → AnswersAsk g wants × (tenure ≡ is_tenure g.kind)
  taken g wants tenure i at life e =
      let r = grant_wanted g (inv.messages (Told (told.Granted g)) i) at life (Open wants tenure) e in
      (subst (AnswersAsk g) (sym r.1.0) r.2, r.1.1)

  pub act_ahead : (sends : List Message) (x' : Node) → Act sha w.pool n x sends x' → Ahead x x'
  act_ahead sends x' (Asks wants h) = ahead_from x (record x { asks = x.asks ++ Open wants false ∷ [] }) refl (go_push x.asks (Open wants false))
  act_ahead sends x' (Asks_tenure f h) = ahead_from x (record x { asks = x.asks ++ Open (tenure_wants f) true ∷ [] }) refl (go_push x.asks (Open (tenure_wants f) true))
  act_ahead sends x' (Asks_again a wants tenure e) = ahead_refl x
  act_ahead sends x' Greets = ahead_refl x
  act_ahead sends x' (Takes g wants tenure i p q e) =
      let t = (taken g wants tenure i p q e).1 in
      ahead_from x (record x { asks = set_nth x.asks g.ask.0 (Holding wants g false); known = learn_bases g.slots x.known }) refl
      (go_set x.asks g.ask.0 (Open wants tenure) (Holding wants g false) e (record { asked = λ ws b h. (h.0, sym t ∙ h.1); over = λ k h. (let bad : false ≡ true = h in cc) }))
  act_ahead sends x' (Gives_back g i p q o k) = ahead_refl x
  act_ahead sends x' (Begins wants g r a e all) =
      ahead_from x (record x { asks = set_nth x.asks a (Running wants g r) }) refl (go_set x.asks a (Holding wants g r) (Running wants g r) e (record { asked = λ ws b h. h; over = λ k h. h }))
  act_ahead sends x' (Finishes wants g r a news store e idle p q s) =
      ahead_from x (record x { asks = set_nth x.asks a (Finished wants g news); store = store }) refl (go_set x.asks a (Running wants g r) (Finished wants g news) e (record { asked = λ ws b h. h; over = λ k h. refl }))
  act_ahead sends x' (Gives_up wants g r a (inl e) idle) =
      ahead_from x (record x { asks = set_nth x.asks a (Over (how.Released g.ticket)) }) refl (go_set x.asks a (Holding wants g r) (Over (how.Released g.ticket)) e (record { asked = λ ws b h. tt; over = λ k h. refl }))
  act_ahead sends x' (Gives_up wants g r a (inr e) idle) =
      ahead_from x (record x { asks = set_nth x.asks a (Over (how.Released g.ticket)) }) refl (go_set x.asks a (Running wants g r) (Over (how.Released g.ticket)) e (record { asked = λ ws b h. tt; over = λ k h. refl }))
  act_ahead sends x' (Sends_commit wants g a news e) = ahead_refl x
  act_ahead sends x' (Learns wants g a news versions i e) =
      ahead_from x (record x { asks = set_nth x.asks a (Over (how.Committed g.ticket versions)); known = learn_versions versions x.known }) refl (go_set x.asks a (Finished wants g news) (Over (how.Committed g.ticket versions)) e (record { asked = λ ws b h. tt; over = λ k h. refl }))
  act_ahead sends x' (Drops wants g a news i e) =
      ahead_from x (record x { asks = set_nth x.asks a (Over (how.Fenced g.ticket)) }) refl (go_set x.asks a (Finished wants g news) (Over (how.Fenced g.ticket)) e (record { asked = λ ws b h. tt; over = λ k h. refl }))
  act_ahead sends x' (Is_denied a why wants tenure i e) =
      ahead_from x (record x { asks = set_nth x.asks a.0 (Over (how.Denied why)) }) refl (go_set x.asks a.0 (Open wants tenure) (Over (how.Denied why)) e (record { asked = λ ws b h. tt; over = λ k h. refl }))
  act_ahead sends x' (Is_recalled wants g a i e) =
      ahead_from x (record x { asks = set_nth x.asks a (Holding wants g true) }) refl (go_set x.asks a (Holding wants g false) (Holding wants g true) e (record { asked = λ ws b h. h; over = λ k h. h }))
  act_ahead sends x' (Is_recalled_running wants g a i e) =
      ahead_from x (record x { asks = set_nth x.asks a (Running wants g true) }) refl (go_set x.asks a (Running wants g false) (Running wants g true) e (record { asked = λ ws b h. h; over = λ k h. h }))
  act_ahead sends x' (Stores c) = ahead_from x (record x { store = keep (sha c) c x.store }) refl (go_same x.asks)
  act_ahead sends x' (Forgets d c e) = ahead_from x (record x { store = without d x.store }) refl (go_same x.asks)
  act_ahead sends x' (Asks_content other d) = ahead_refl x
  act_ahead sends x' (Sends_blob other c) = ahead_refl x
  act_ahead sends x' Restarts = ahead_restart x (has_life x (x.life.0 + 1)) refl
  act_ahead sends x' Stops = ahead_from x (record x { spent = true }) refl (go_same x.asks)

  pub act_ok : (sends : List Message) (x' : Node) → Act sha w.pool n x sends x' → NodeOk sha w.machine n x'
  act_ok sends x' (Asks wants h) = record {
    states = push_states (Open wants false) (λ b t. (let bad : false ≡ true = t in cc));
    known = x_ok.known;
    stored = x_ok.stored;
    homes = home_push x.asks (Open wants false) (λ v i shared free. runs_has x.asks v.folder false (h v i shared)) x_ok.homes;
  }
  act_ok sends x' (Asks_tenure f h) = record {
    states = push_states (Open (tenure_wants f) true) (λ b t. (f, refl));
    known = x_ok.known;
    stored = x_ok.stored;
    homes = home_push x.asks (Open (tenure_wants f) true) (λ v i shared free. (let bad : true ≡ false = free in cc)) x_ok.homes;
  }
  act_ok sends x' (Asks_again a wants tenure e) = x_ok
  act_ok sends x' Greets = x_ok
  act_ok sends x' (Takes g wants tenure i p q e) =
      let made = inv.messages (Told (told.Granted g)) i in
      let t = taken g wants tenure i p q e in
      record {
        states = set_states g.ask.0 (Open wants tenure) (Holding wants g false) e ((made, p, q, refl), t.0);
        known = bases_ok (sha []) w.machine g.slots x.known (λ u k. inv.sound.named g u made k) x_ok.known;
        stored = x_ok.stored;
        homes = home_set x.asks g.ask.0 (Open wants tenure) (Holding wants g false) e (runs_set x.asks g.ask.0 (Open wants tenure) (Holding wants g false) e (open_not_running wants tenure)) (λ v k. (k, λ free. t.1 ∙ free)) x_ok.homes;
      }
  act_ok sends x' (Gives_back g i p q o k) = x_ok
  act_ok sends x' (Begins wants g r a e all) =
      one_ask a (Holding wants g r) (Running wants g r) e (state_is a (Holding wants g r) e)
      (home_set x.asks a (Holding wants g r) (Running wants g r) e (runs_set x.asks a (Holding wants g r) (Running wants g r) e (held_not_running wants g r)) (λ v k. (k, λ free. free)) x_ok.homes)
  act_ok sends x' (Finishes wants g r a news store e idle p q s) =
      let ok = state_is a (Running wants g r) e in
      record {
        states = set_states a (Running wants g r) (Finished wants g news) e (ok.0, ok.1, p, q);
        known = x_ok.known;
        stored = λ d c h. elim (s d c h) [ inl old ↦ x_ok.stored d c old | inr new ↦ new ];
        homes = home_end x.asks a wants g r (Finished wants g news) e idle (λ v k. k) x_ok.homes;
      }
  act_ok sends x' (Gives_up wants g r a (inl e) idle) =
      one_ask a (Holding wants g r) (Over (how.Released g.ticket)) e tt
      (home_set x.asks a (Holding wants g r) (Over (how.Released g.ticket)) e (runs_set x.asks a (Holding wants g r) (Over (how.Released g.ticket)) e (held_not_running wants g r)) (λ v k. absurd k) x_ok.homes)
  act_ok sends x' (Gives_up wants g r a (inr e) idle) = one_ask a (Running wants g r) (Over (how.Released g.ticket)) e tt (home_end x.asks a wants g r (Over (how.Released g.ticket)) e idle (λ v k. k) x_ok.homes)
  act_ok sends x' (Sends_commit wants g a news e) = x_ok
  act_ok sends x' (Learns wants g a news versions i e) = record {
    states = set_states a (Finished wants g news) (Over (how.Committed g.ticket versions)) e tt;
    known = versions_ok (sha []) w.machine g.ticket versions x.known (inv.messages (Told (told.Committed n x.life g.ticket versions)) i).0 x_ok.known;
    stored = x_ok.stored;
    homes = home_set x.asks a (Finished wants g news) (Over (how.Committed g.ticket versions)) e (runs_set x.asks a (Finished wants g news) (Over (how.Committed g.ticket versions)) e (finished_not_running wants g news)) (λ v k. absurd k) x_ok.homes;
  }
  act_ok sends x' (Drops wants g a news i e) =
      one_ask a (Finished wants g news) (Over (how.Fenced g.ticket)) e tt
      (home_set x.asks a (Finished wants g news) (Over (how.Fenced g.ticket)) e (runs_set x.asks a (Finished wants g news) (Over (how.Fenced g.ticket)) e (finished_not_running wants g news)) (λ v k. absurd k) x_ok.homes)
  act_ok sends x' (Is_denied a why wants tenure i e) =
      one_ask a.0 (Open wants tenure) (Over (how.Denied why)) e tt
      (home_set x.asks a.0 (Open wants tenure) (Over (how.Denied why)) e (runs_set x.asks a.0 (Open wants tenure) (Over (how.Denied why)) e (open_not_running wants tenure)) (λ v k. absurd k) x_ok.homes)
  act_ok sends x' (Is_recalled wants g a i e) =
      one_ask a (Holding wants g false) (Holding wants g true) e (state_is a (Holding wants g false) e)
      (home_set x.asks a (Holding wants g false) (Holding wants g true) e (runs_set x.asks a (Holding wants g false) (Holding wants g true) e (held_not_running wants g false)) (λ v k. (k, λ free. free)) x_ok.homes)
  act_ok sends x' (Is_recalled_running wants g a i e) =
      one_ask a (Running wants g false) (Running wants g true) e (state_is a (Running wants g false) e)
      (home_set x.asks a (Running wants g false) (Running wants g true) e (runs_recalled x.asks a wants g false true e) (λ v k. (k, λ free. free)) x_ok.homes)
  act_ok sends x' (Stores c) = record { states = x_ok.states; known = x_ok.known; stored = keep_ok sha c x.store x_ok.stored; homes = x_ok.homes }
  act_ok sends x' (Forgets d c e) = record { states = x_ok.states; known = x_ok.known; stored = without_ok sha d x.store x_ok.stored; homes = x_ok.homes }
  act_ok sends x' (Asks_content other d) = x_ok
  act_ok sends x' (Sends_blob other c) = x_ok
  act_ok sends x' Restarts = record {
    states = λ a s e. none_at a s e;
    known = x_ok.known;
    stored = x_ok.stored;
    homes = λ a s v e wants shared free. none_at a s e;
  }
    where
      none_at : {P : Type 0} (a : ℕ) (s : KeptAsk) → nth [] a ≡ Some s → P
      none_at zero s e = none_some s e
      none_at (suc a) s e = none_some s e
  act_ok sends x' Stops = record { states = x_ok.states; known = x_ok.known; stored = x_ok.stored; homes = x_ok.homes }

  -- a grant whose ask is now in a state that is over is spent
  set_spent : (g : Grant) (a : ℕ) (old new : KeptAsk) → nth x.asks a ≡ Some old → Its w.machine n x.life a g → spent new g.ticket.0 ≡ true → (g.life ≡ x.life) × ((s : KeptAsk) × (nth (set_nth x.asks a new) g.ask.0 ≡ Some s) × (spent s g.ticket.0 ≡ true))
  set_spent g a old new at its over = (its.2, (new, ap (nth (set_nth x.asks a new)) its.3 ∙ nth-set_same x.asks a new old at, over))

  -- what a message says of its sender's next state
  module _ (x' : Node) (nodes' : ℕ → Node) (same : x' ≡ nodes' n.0) (y : Message) where
    abbrev Ok : Message → Type 0
    Ok = MessageOk (sha []) w.machine nodes'

    is_ask : (l : Life) (a : Ask) (wants : List Want) (tenure : Bool) → In y (acquire n l a wants tenure ∷ []) → WasAsked x' l a.0 wants tenure → ForTenure tenure wants → Ok y
    is_ask l a wants tenure h asked for = subst Ok (sym (in_one y (acquire n l a wants tenure) h)) (subst (λ z. WasAsked z l a.0 wants tenure) same asked, for)

    is_release : (l : Life) (t : Ticket) (g : Grant) → In y (release n l t ∷ []) → WasGiven w.machine n l t g → Spent x' g → Ok y
    is_release l t g h given s = subst Ok (sym (in_one y (release n l t) h)) (g, given, subst (λ z. Spent z g) same s)

    is_commit : (l : Life) (t : Ticket) (news : List News) (g : Grant) → In y (commit n l t news ∷ []) → WasGiven w.machine n l t g → (slots_of news ≡ written g.slots) → (news ≢ []) → Spent x' g → Ok y
    is_commit l t news g h given slots some s = subst Ok (sym (in_one y (commit n l t news) h)) (g, given, slots, some, subst (λ z. Spent z g) same s)

    is_hello : (l : Life) → In y (hello n l ∷ []) → l.0 ≤ x'.life.0 → Ok y
    is_hello l h le = subst Ok (sym (in_one y (hello n l) h)) (subst (λ (z : Node). l.0 ≤ z.life.0) same le)

  pub act_sends : (sends : List Message) (x' : Node) → Act sha w.pool n x sends x' → (nodes' : ℕ → Node) → x' ≡ nodes' n.0 → (y : Message) → In y sends → MessageOk (sha []) w.machine nodes' y
  act_sends sends x' (Asks wants p) nodes' same y h =
      is_ask x' nodes' same y x.life (record { 0 = length x.asks + 1 }) wants false h (inr (refl, (Open wants false, pushed, (refl, refl)))) (λ t. (let bad : false ≡ true = t in cc))
    where
      pushed : nth (x.asks ++ Open wants false ∷ []) (length x.asks + 1) ≡ Some (Open wants false)
      pushed = subst (λ k. nth (x.asks ++ Open wants false ∷ []) k ≡ Some (Open wants false)) (let e : suc (length x.asks) ≡ length x.asks + 1 = omega arith in e) (nth-push x.asks (Open wants false))
  act_sends sends x' (Asks_tenure f p) nodes' same y h =
      is_ask x' nodes' same y x.life (record { 0 = length x.asks + 1 }) (tenure_wants f) true h (inr (refl, (Open (tenure_wants f) true, pushed, (refl, refl)))) (λ t. (f, refl))
    where
      pushed : nth (x.asks ++ Open (tenure_wants f) true ∷ []) (length x.asks + 1) ≡ Some (Open (tenure_wants f) true)
      pushed = subst (λ k. nth (x.asks ++ Open (tenure_wants f) true ∷ []) k ≡ Some (Open (tenure_wants f) true)) (let e : suc (length x.asks) ≡ length x.asks + 1 = omega arith in e) (nth-push x.asks (Open (tenure_wants f) true))
  act_sends sends x' (Asks_again a wants tenure e) nodes' same y h =
      is_ask x' nodes' same y x.life a wants tenure h (inr (refl, (Open wants tenure, e, (refl, refl)))) (state_is a.0 (Open wants tenure) e)
  act_sends sends x' Greets nodes' same y h = is_hello x' nodes' same y x.life h (omega arith)
  act_sends sends x' (Takes g wants tenure i p q e) nodes' same y h = absurd h
  act_sends sends x' (Gives_back g i p q o k) nodes' same y h =
      let made = inv.messages (Told (told.Granted g)) i in
      let r = inv.asked g made in
      let ok = inv.messages (acquire g.node g.life g.ask r.0 (is_tenure g.kind)) r.1 in
      let here : WasAsked x g.life g.ask.0 r.0 (is_tenure g.kind) = subst (λ (z : NodeId). WasAsked (w.nodes z.0) g.life g.ask.0 r.0 (is_tenure g.kind)) p ok.0 in
      let s : Spent x g = elim here [
        | inl lt ↦ inl lt
        | inr a ↦ inr (q, (a.1.0, a.1.1, spent_from a.1.0 g.ticket (λ ws b e. o ws b (a.1.1 ∙ ap Some e)) (k a.1.0 a.1.1)))
      ] in
      is_release x' nodes' same y x.life g.ticket g h (made, refl, p, q) s
  act_sends sends x' (Begins wants g r a e all) nodes' same y h = absurd h
  act_sends sends x' (Finishes wants g r a news store e idle p q s) nodes' same y h =
      let its = (state_is a (Running wants g r) e).0 in
      is_commit x' nodes' same y x.life g.ticket news g h (its.0, refl, its.1, its.2) p q (inr (set_spent g a (Running wants g r) (Finished wants g news) e its refl))
  act_sends sends x' (Gives_up wants g r a (inl e) idle) nodes' same y h =
      let its = (state_is a (Holding wants g r) e).0 in
      is_release x' nodes' same y x.life g.ticket g h (its.0, refl, its.1, its.2) (inr (set_spent g a (Holding wants g r) (Over (how.Released g.ticket)) e its refl))
  act_sends sends x' (Gives_up wants g r a (inr e) idle) nodes' same y h =
      let its = (state_is a (Running wants g r) e).0 in
      is_release x' nodes' same y x.life g.ticket g h (its.0, refl, its.1, its.2) (inr (set_spent g a (Running wants g r) (Over (how.Released g.ticket)) e its refl))
  act_sends sends x' (Sends_commit wants g a news e) nodes' same y h =
      let ok = state_is a (Finished wants g news) e in
      let its = ok.0 in
      is_commit x' nodes' same y x.life g.ticket news g h (its.0, refl, its.1, its.2) ok.2 ok.3 (inr (its.2, (Finished wants g news, ap (nth x.asks) its.3 ∙ e, refl)))
  act_sends sends x' (Learns wants g a news versions i e) nodes' same y h = absurd h
  act_sends sends x' (Drops wants g a news i e) nodes' same y h = absurd h
  act_sends sends x' (Is_denied a why wants tenure i e) nodes' same y h = absurd h
  act_sends sends x' (Is_recalled wants g a i e) nodes' same y h = absurd h
  act_sends sends x' (Is_recalled_running wants g a i e) nodes' same y h = absurd h
  act_sends sends x' (Stores c) nodes' same y h = absurd h
  act_sends sends x' (Forgets d c e) nodes' same y h = absurd h
  act_sends sends x' (Asks_content other d) nodes' same y h = subst (MessageOk (sha []) w.machine nodes') (sym (in_one y (Fetches (record { node = other; from = n; digest = d })) h)) tt
  act_sends sends x' (Sends_blob other c) nodes' same y h = subst (MessageOk (sha []) w.machine nodes') (sym (in_one y (Blob other c) h)) tt
  act_sends sends x' Restarts nodes' same y h = is_hello x' nodes' same y (record { 0 = x.life.0 + 1 }) h (omega arith)
  act_sends sends x' Stops nodes' same y h = absurd h
