-- Each open ask for a lease can be answered.
use Rattle.std.proofs.Common.{length, ◌<◌, ◌≡◌, ℕ, zero, suc, ◌+◌, ◌≤◌, List, [], ◌∷◌, ◌++◌, Bool, true, false, ◌&&◌, eqb, Option, Some, None, Result, Ok, Err, slice_get, refl, sym, ◌∙◌, ap, subst, inl, inr, arith}
use Rattle.std.proofs.lemmas.Bool.Decides.{nat_tests}
use Rattle.std.specs.Prelude.{nat_lt, nat_le}
use Rattle.farm_base.specs.declared.message.FromCoord.TheVariants as told
use Rattle.farm_base.specs.declared.message.Why.{Why}
use Rattle.events.specs.declared.answer.CoordRefusal.{CoordRefusal}
use Rattle.events.specs.declared.answer.Kept.{Kept}
use Rattle.events.specs.declared.answer.Kept.TheVariants.{Old, New}
use Rattle.events.specs.declared.answer.How.TheVariants as how
use Rattle.events.specs.declared.answer.NodeNote.TheVariants as note
use Rattle.events.specs.declared.answer.NodeRefusal.TheVariants as refusal
use Rattle.protocol.specs.Lists.{In, nth}
use Rattle.protocol.specs.Names.{NodeId, Life, Ask, Ticket, Want, Digest}
use Rattle.protocol.specs.Machine.{Said, Told, Grant, Message, ToCoord, Parked, acquire, hello}
use Rattle.protocol.specs.Ledger.{Limits, Ledger, Work, begin_work, handled, withdrawn}
use Rattle.protocol.specs.World.{KeptAsk, Open, Holding, Over, Node}
use Rattle.protocol.specs.Nodes.{Place, guard, all_again, again}
use Rattle.protocol.specs.Replay.{Event, Deliver, Resend, Withdraw, Farm, opening, settled, coordinated, delivered, at, at_node, is_node, step, run, scheduled}
use Rattle.protocol.specs.Meaning.{IsAnswered}
use Rattle.protocol.specs.Lawful.{IsEvent, EveryFarmStaysLawful, EveryOpeningIsLawful}
use Rattle.protocol.specs.Follows.{IsFarm, EveryScheduleIsSafe}
use Rattle.protocol.specs.Chronicle.{EveryScheduleMeans}
use Rattle.protocol.proofs.Base.{in_left, in_right, in_append, in_one, none_some, some_is, put_same, nth-set_same, eqb_same, ask_is}
use Rattle.progress.specs.Progress.{AreEvents, withdrawals, is_open, EveryOpenAskCanBeAnswered}
use Rattle.progress.proofs.Reaching.{run_more, every_ask_can_be_answered}
use Rattle.progress.proofs.Lives.{heard_all, heard_start}

pub in_nth : {A : Type 0} (xs : List A) (x : A) → In x xs → (number : ℕ) × (nth xs number ≡ Some x)
in_nth [] x i = absurd i
in_nth (y ∷ ys) x (inl e) = (1, ap Some (sym e))
in_nth (y ∷ ys) x (inr i) = (let r = in_nth ys x i in later r.0 r.1)
  where
    later : (number : ℕ) → nth ys number ≡ Some x → (number : ℕ) × (nth (y ∷ ys) number ≡ Some x)
    later zero e = none_some x e
    later (suc k) e = (suc (suc k), e)

pub new_nth : {A : Type 0} (xs ys : List A) (x : A) → In x ys → (number : ℕ) × (length xs < number) × (nth (xs ++ ys) number ≡ Some x)
new_nth [] ys x i = (let r = in_nth ys x i in first r.0 r.1)
  where
    first : (number : ℕ) → nth ys number ≡ Some x → (number : ℕ) × (0 < number) × (nth ys number ≡ Some x)
    first zero e = none_some x e
    first (suc k) e = (suc k, omega arith, e)
new_nth (z ∷ xs) ys x i = (let r = new_nth xs ys x i in later r.0 r.1 r.2)
  where
    later : (number : ℕ) → length xs < number → nth (xs ++ ys) number ≡ Some x → (number : ℕ) × (suc (length xs) < number) × (nth (z ∷ (xs ++ ys)) number ≡ Some x)
    later zero le e = none_some x e
    later (suc k) le e = (suc (suc k), omega arith, e)

pub length_more : {A : Type 0} (xs ys : List A) → length xs ≤ length (xs ++ ys)
length_more [] ys = omega arith
length_more (x ∷ xs) ys = (let r = length_more xs ys in omega arith)

pub not_below : (a b : ℕ) → b ≤ a → nat_lt a b ≡ false
not_below a b le = grind (arith, nat_tests)

-- ---- what stays

pub record StaysAs (s later : Farm) : Type 0 where
  pub nodes : later.nodes ≡ s.nodes
  pub size : later.size ≡ s.size

settled_same : (changed : Bool) (armed : Option Kept) (w : Work) (s : Farm) → StaysAs s (settled changed armed w s).farm
settled_same false armed w s = record { nodes = refl; size = refl }
settled_same true None w s = record { nodes = refl; size = refl }
settled_same true (Some Old) w s = record { nodes = refl; size = refl }
settled_same true (Some New) w s = record { nodes = refl; size = refl }

pub coordinated_same : (d : Bool) (r : Result Work CoordRefusal) (s : Farm) → StaysAs s (coordinated d r s).farm
coordinated_same true r s = record { nodes = refl; size = refl }
coordinated_same false (Err e) s = record { nodes = refl; size = refl }
coordinated_same false (Ok w) s = settled_same w.changed s.armed w s

module _ (sha : List ℕ → Digest) (k : Limits) where
  withdrawals_same : (tickets : List Ticket) (s : Farm) → StaysAs s (run sha k (withdrawals tickets) s)
  unfolding step
  withdrawals_same [] s = record { nodes = refl; size = refl }
  withdrawals_same (t ∷ ts) s =
      let a = coordinated_same s.down (withdrawn k t (begin_work s.ledger)) s in
      let b = withdrawals_same ts (step sha k s (Withdraw t)).farm in
      record { nodes = b.nodes ∙ a.nodes; size = b.size ∙ a.size }

  pub delivery_same : (s : Farm) (number : ℕ) (y : ToCoord) → nth s.pool number ≡ Some (Said y) → StaysAs s (step sha k s (Deliver number)).farm
  unfolding step
  delivery_same s number y e = subst (λ o. StaysAs s (delivered sha k o s).farm) (sym e) (coordinated_same s.down (Ok (handled k y (begin_work s.ledger))) s)

  -- ---- a resend

  again_in : (here : Place) (x : Node) (ask : Ask) (wants : List Want) (tenure : Bool) (asks : List KeptAsk) (before place : ℕ) → ask.0 ≡ before + 1 + place → slice_get asks place ≡ Some (Open wants tenure) → In (acquire here.node x.life ask wants tenure) (all_again k here x asks before)
  again_in here x ask wants tenure [] before place e h = none_some (Open wants tenure) h
  again_in here x ask wants tenure (kept ∷ asks) before zero e h =
      let same : kept ≡ Open wants tenure = some_is kept (Open wants tenure) h in
      in_left (acquire here.node x.life ask wants tenure) (again k here x (record { 0 = before + 1 }) kept) (all_again k here x asks (before + 1))
      (subst (λ (z : KeptAsk). In (acquire here.node x.life ask wants tenure) (again k here x (record { 0 = before + 1 }) z)) (sym same)
      (inl (ap (λ (a : Ask). acquire here.node x.life a wants tenure) (ask_is ask (record { 0 = before + 1 }) (omega arith)))))
  again_in here x ask wants tenure (kept ∷ asks) before (suc place) e h =
      in_right (acquire here.node x.life ask wants tenure) (again k here x (record { 0 = before + 1 }) kept) (all_again k here x asks (before + 1))
      (again_in here x ask wants tenure asks (before + 1) place (omega arith) h)

  asked_again : (here : Place) (x : Node) (ask : Ask) (number : ℕ) (wants : List Want) (tenure : Bool) → ask.0 ≡ number → nth x.asks number ≡ Some (Open wants tenure) → In (acquire here.node x.life ask wants tenure) (all_again k here x x.asks 0)
  asked_again here x ask zero wants tenure e h = none_some (Open wants tenure) h
  asked_again here x ask (suc place) wants tenure e h = again_in here x ask wants tenure x.asks 0 place (omega arith) h

  record IsResent (s : Farm) (who : NodeId) (later : Farm) : Type 0 where
    pub ledger : later.ledger ≡ s.ledger
    pub down : later.down ≡ s.down
    pub armed : later.armed ≡ s.armed
    pub size : later.size ≡ s.size
    pub node : later.nodes who.0 ≡ s.nodes who.0
    pub longer : length s.pool ≤ length later.pool
    pub sends : (m : Message) → In m (all_again k (at s who) (s.nodes who.0) (s.nodes who.0).asks 0) → In m later.pool

  resending : (s : Farm) (who : NodeId) (b c : Bool) → b ≡ true → c ≡ false → IsResent s who (at_node b who (guard c refusal.LivesSpent (Ok (record { node = s.nodes who.0; sends = hello who (s.nodes who.0).life ∷ all_again k (at s who) (s.nodes who.0) (s.nodes who.0).asks 0; note = note.Resent }))) s).farm
  resending s who b c e f = rw (e, f) (record {
    ledger = refl;
    down = refl;
    armed = refl;
    size = refl;
    node = put_same who.0 (s.nodes who.0) s.nodes;
    longer = length_more s.pool (hello who (s.nodes who.0).life ∷ all_again k (at s who) (s.nodes who.0) (s.nodes who.0).asks 0);
    sends = λ m i. in_right m s.pool (hello who (s.nodes who.0).life ∷ all_again k (at s who) (s.nodes who.0) (s.nodes who.0).asks 0) (inr i);
  })

  resend_is : (s : Farm) (who : NodeId) → is_node s who ≡ true → (s.nodes who.0).spent ≡ false → IsResent s who (step sha k s (Resend who)).farm
  unfolding step
  resend_is s who there up = resending s who (is_node s who) (s.nodes who.0).spent there up

  -- ---- the answer

  unfoldable pub Knows : Farm → NodeId → Ask → Type 0
  Knows s who ask = (kept : KeptAsk) × (nth (s.nodes who.0).asks ask.0 ≡ Some kept) × (is_open kept ≡ false)

  pub granted_known : (s : Farm) (number : ℕ) (g : Grant) (wants : List Want) (tenure : Bool) → nth s.pool number ≡ Some (Told (told.Granted g)) → is_node s g.node ≡ true → (s.nodes g.node.0).spent ≡ false → g.life ≡ (s.nodes g.node.0).life → nth (s.nodes g.node.0).asks g.ask.0 ≡ Some (Open wants tenure) → Knows (step sha k s (Deliver number)).farm g.node g.ask
  unfolding step Knows
  granted_known s number g wants tenure e there up life here =
      let x : Node = s.nodes g.node.0 in
      let alive : eqb g.life.0 x.life.0 ≡ true = subst (λ (l : Life). eqb g.life.0 l.0 ≡ true) life (eqb_same g.life.0) in
      rw (e, there, up, alive, here) (Holding wants g false, ap (λ (z : Node). nth z.asks g.ask.0) (put_same g.node.0 _ s.nodes) ∙ nth-set_same x.asks g.ask.0 (Holding wants g false) (Open wants tenure) here, refl)

  pub denied_known : (s : Farm) (number : ℕ) (n : NodeId) (l : Life) (a : Ask) (why : Why) (wants : List Want) (tenure : Bool) → nth s.pool number ≡ Some (Told (told.Denied n l a why)) → is_node s n ≡ true → (s.nodes n.0).spent ≡ false → l ≡ (s.nodes n.0).life → nth (s.nodes n.0).asks a.0 ≡ Some (Open wants tenure) → Knows (step sha k s (Deliver number)).farm n a
  unfolding step Knows
  denied_known s number n l a why wants tenure e there up life here =
      let x : Node = s.nodes n.0 in
      let alive : eqb l.0 x.life.0 ≡ true = subst (λ (m : Life). eqb l.0 m.0 ≡ true) life (eqb_same l.0) in
      rw (e, there, up, alive, here) (Over (how.Denied why), ap (λ (z : Node). nth z.asks a.0) (put_same n.0 _ s.nodes) ∙ nth-set_same x.asks a.0 (Over (how.Denied why)) (Open wants tenure) here, refl)

  pub answer_known : (s : Farm) (p : Parked) (base sent : List Message) (wants : List Want) (tenure : Bool) → s.pool ≡ base ++ sent → IsAnswered p sent → is_node s p.node ≡ true → (s.nodes p.node.0).spent ≡ false → p.life ≡ (s.nodes p.node.0).life → nth (s.nodes p.node.0).asks p.ask.0 ≡ Some (Open wants tenure) → (last : ℕ) × (length base < last) × Knows (step sha k s (Deliver last)).farm p.node p.ask
  answer_known s p base sent wants tenure pool (inl (g, i, n, l, a)) there up life here =
      let r = new_nth base sent (Told (told.Granted g)) i in
      let known = granted_known s r.0 g wants tenure (subst (λ (l : List Message). nth l r.0 ≡ Some (Told (told.Granted g))) (sym pool) r.2) (subst (λ (z : NodeId). is_node s z ≡ true) (sym n) there) (subst (λ (z : NodeId). (s.nodes z.0).spent ≡ false) (sym n) up)
      (l ∙ subst (λ (z : NodeId). p.life ≡ (s.nodes z.0).life) (sym n) life)
      (subst (λ (z : NodeId). nth (s.nodes z.0).asks g.ask.0 ≡ Some (Open wants tenure)) (sym n) (subst (λ (z : Ask). nth (s.nodes p.node.0).asks z.0 ≡ Some (Open wants tenure)) (sym a) here)) in
      (r.0, r.1, subst (λ (z : NodeId). Knows (step sha k s (Deliver r.0)).farm z p.ask) n (subst (λ (z : Ask). Knows (step sha k s (Deliver r.0)).farm g.node z) a known))
  answer_known s p base sent wants tenure pool (inr (why, i)) there up life here =
      let r = new_nth base sent (Told (told.Denied p.node p.life p.ask why)) i in
      (r.0, r.1, denied_known s r.0 p.node p.life p.ask why wants tenure (subst (λ (l : List Message). nth l r.0 ≡ Some (Told (told.Denied p.node p.life p.ask why))) (sym pool) r.2) there up life here)

-- no life that the coordinator has heard of is above its node's
pub lives_below : EveryScheduleIsSafe → (sha : List ℕ → Digest) (k : Limits) → IsFarm sha k → (size : ℕ) (events : List Event) (n : ℕ) → (scheduled sha k size events).ledger.lives n ≤ ((scheduled sha k size events).nodes n).life.0
lives_below safes sha k is_farm size events n =
    let s : Farm = scheduled sha k size events in
    let a = safes sha k is_farm size events in
    let h = heard_all sha _ a.world a.moves (heard_start sha) in
    subst (λ (f : ℕ → ℕ). f n ≤ (s.nodes n).life.0) (sym a.shows.now.lives) (subst (λ (x : Node). a.world.machine.lives n ≤ x.life.0) (a.shows.nodes n) (h.now n))

pub every_open_ask_can_be_answered : EveryOpeningIsLawful → EveryFarmStaysLawful → EveryScheduleIsSafe → EveryScheduleMeans → EveryOpenAskCanBeAnswered
unfolding Knows
every_open_ask_can_be_answered opens farms safes means sha k is_farm size events are up safe who ask wants is =
    let s : Farm = scheduled sha k size events in
    let x : Node = s.nodes who.0 in
    let longer : List Event = events ++ Resend who ∷ [] in
    let t : Farm = scheduled sha k size longer in
    let same : t ≡ (step sha k s (Resend who)).farm = run_more sha k events (Resend who ∷ []) (opening sha size) in
    let r : IsResent sha k s who t = subst (IsResent sha k s who) (sym same) (resend_is sha k s who is.there is.runs) in
    let p : Parked = record { node = who; life = x.life; ask = ask; wants = wants; tenure = false } in
    let m = in_nth t.pool (acquire who x.life ask wants false) (r.sends (acquire who x.life ask wants false) (asked_again sha k (at s who) x ask ask.0 wants false refl is.asks)) in
    let young : nat_lt x.life.0 (t.ledger.lives who.0) ≡ false = not_below x.life.0 (t.ledger.lives who.0) (subst (λ (l : Ledger). l.lives who.0 ≤ x.life.0) (sym r.ledger) (lives_below safes sha k is_farm size events who.0)) in
    let all : AreEvents longer = λ e j. elim (in_append e events (Resend who ∷ []) j) [ inl b ↦ are e b | inr b ↦ subst IsEvent (sym (in_one e (Resend who) b)) tt ] in
    let f = every_ask_can_be_answered opens farms safes means sha k is_farm size longer all (r.down ∙ up) (r.armed ∙ safe) m.0 p m.1 (subst (λ (l : Ledger). l.gone who.0 ≡ false) (sym r.ledger) is.stays) young refl in
    let v : Farm = run sha k (Deliver m.0 ∷ withdrawals f.0) t in
    let d = delivery_same sha k t m.0 _ m.1 in
    let b = withdrawals_same sha k f.0 (step sha k t (Deliver m.0)).farm in
    let node : v.nodes who.0 ≡ x = ap (λ (g : ℕ → Node). g who.0) (b.nodes ∙ d.nodes) ∙ r.node in
    let count : v.size ≡ s.size = b.size ∙ d.size ∙ r.size in
    let known = answer_known sha k v p t.pool f.1.sent wants false f.1.sends f.1.answered
    (there v count) (subst (λ (z : Node). z.spent ≡ false) (sym node) is.runs) (sym (ap (λ (z : Node). z.life) node)) (subst (λ (z : Node). nth z.asks ask.0 ≡ Some (Open wants false)) (sym node) is.asks) in (
      m.0,
      f.0,
      known.0,
      (let a : length t.pool < known.0 = known.1 in let b : length s.pool ≤ length t.pool = r.longer in omega arith),
      record {
        kept = known.2.0;
        here = subst (λ (g : Farm). nth (g.nodes who.0).asks ask.0 ≡ Some known.2.0) (last_is t m.0 f.0 known.0 ∙ ap (λ (g : Farm). run sha k ((Deliver m.0 ∷ withdrawals f.0) ++ Deliver known.0 ∷ []) g) same) known.2.1;
        answered = known.2.2;
      },
    )
  where
    there : (v : Farm) → v.size ≡ (scheduled sha k size events).size → is_node v who ≡ true
    there v e = subst (λ (c : ℕ). (nat_le 1 who.0 && nat_le who.0 c) ≡ true) (sym e) is.there

    last_is : (t : Farm) (number : ℕ) (tickets : List Ticket) (last : ℕ) → (step sha k (run sha k (Deliver number ∷ withdrawals tickets) t) (Deliver last)).farm ≡ run sha k ((Deliver number ∷ withdrawals tickets) ++ Deliver last ∷ []) t
    last_is t number tickets last = sym (run_more sha k (Deliver number ∷ withdrawals tickets) (Deliver last ∷ []) t)
