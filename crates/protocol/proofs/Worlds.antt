-- Each move keeps the invariant, and so every run is safe.
use Rattle.std.proofs.Common.{◌≡◌, ◌≢◌, ℕ, zero, suc, ◌<◌, ◌≤◌, List, [], ◌∷◌, ◌++◌, true, Option, Some, None, refl, sym, ◌∙◌, ap, subst, inl, inr, arith}
use Rattle.std.proofs.lemmas.Bool.{cases_eq, cases_Bool}
use Rattle.farm_base.specs.Kinds.{is_tenure}
use Rattle.protocol.specs.Lists.{In, put, nth}
use Rattle.protocol.specs.Names.{Slot, slot_eq, Digest, NodeId, Ticket}
use Rattle.protocol.specs.Machine.{Grant, News, LineVersion, Ending, Committed, Released, Withdrawn, Died, Made, Granted, ticket_of, Message, Told, FromCoord, acquire, commit, release, Machine, Live, added, line, line_of, digest_for, version_of, version_at, written, slots_of, MayEnd, Step, Grants, Ends, Prunes, Sees, Retires, Parks, Unparks, Raises, Steps, No_step, One_more, Says, Says_granted, Says_committed, Says_fenced, Says_denied, Says_recall}
use Rattle.protocol.specs.World.{Node, KeptAsk, Act, World, Move, Node_moves, Machine_moves, Machine_says, Fails, Recovers, Moves, Still, Then, start}
use Rattle.protocol.proofs.Base.{slot_eq_same, put_same, put_other, put_all, in_one, in_left, in_right, in_append, in_map, none_some, some_is, true_false}
use Rattle.protocol.proofs.Steps.{Later, later_refl, later_trans, step_sound, fresh, same_grant}
use Rattle.protocol.proofs.Invariant.{Spent, NodeOk, ToldOk, MessageOk, Fate, WasWanted, Inv, Ahead, ahead_refl, message_later, fate_later, node_later, heard_life}
use Rattle.protocol.proofs.Acts.{act_ahead, act_ok, act_sends, keep_ok}

-- the world goes on
pub record Onward (empty : Digest) (w u : World) : Type 0 where
  pub machine : Later empty w.machine u.machine
  pub pool : (x : Message) → In x w.pool → In x u.pool

onward_refl : (empty : Digest) (w : World) → Onward empty w w
onward_refl empty w = record { machine = later_refl empty w.machine; pool = λ x i. i }

onward_trans : (empty : Digest) (w v u : World) → Onward empty w v → Onward empty v u → Onward empty w u
onward_trans empty w v u p q = record { machine = later_trans empty w.machine v.machine u.machine p.machine q.machine; pool = λ x i. q.pool x (p.pool x i) }

wanted_later : (pool sends : List Message) (g : Grant) → WasWanted pool g → WasWanted (pool ++ sends) g
wanted_later pool sends g r = (r.0, in_left (acquire g.node g.life g.ask r.0 (is_tenure g.kind)) pool sends r.1, r.2)

module _ (sha : List ℕ → Digest) (w : World) (inv : Inv sha w) where
  -- a node acts
  module _ (n : NodeId) (sends : List Message) (x' : Node) (act : Act sha w.pool n (w.nodes n.0) sends x') where
    abbrev after_act : World
    after_act = record w { nodes = put n.0 x' w.nodes; pool = w.pool ++ sends }

    ahead_all : (j : ℕ) → Ahead (w.nodes j) (put n.0 x' w.nodes j)
    ahead_all = put_all (λ j y. Ahead (w.nodes j) y) n.0 x' w.nodes (act_ahead sha w inv n sends x' act) (λ j ne. ahead_refl (w.nodes j))

    pub act_inv : Inv sha after_act
    act_inv = record {
      sound = inv.sound;
      messages = λ y i. elim (in_append y w.pool sends i) [
        | inl old ↦ message_later (sha []) w.machine w.machine w.nodes (put n.0 x' w.nodes) y (later_refl (sha []) w.machine) ahead_all (inv.messages y old)
        | inr new ↦ act_sends sha w inv n sends x' act (put n.0 x' w.nodes) (sym (put_same n.0 x' w.nodes)) y new
      ];
      fates = λ g y i e. fate_later w.nodes (put n.0 x' w.nodes) g y ahead_all (inv.fates g y i e);
      nodes = λ m. put_all (λ j y. NodeOk sha w.machine (record { 0 = j }) y) n.0 x' w.nodes (act_ok sha w inv n sends x' act) (λ j ne. inv.nodes (record { 0 = j })) m.0;
      asked = λ g i. wanted_later w.pool sends g (inv.asked g i);
    }

  -- the machine makes a step
  spent_message : (g : Grant) (h : Grant) → In (Granted g) w.machine.made → In (Granted h) w.machine.made → h.ticket ≡ g.ticket → (z : Node) → Spent z h → Spent z g
  spent_message g h i j e z s = subst (Spent z) (same_grant (sha []) w.machine inv.sound h g j i (ap (λ (t : Ticket). t.0) e)) s

  end_fate : (g : Grant) (y : Ending) → Live w.machine g → MayEnd w.pool w.machine g y → Fate w.nodes g y
  end_fate g (Committed news) live may = (let ok = inv.messages (commit g.node g.life g.ticket news) may.0 in spent_message g ok.0 live.0 ok.1.0 ok.1.1 (w.nodes g.node.0) ok.4)
  end_fate g Released live may = (let ok = inv.messages (release g.node g.life g.ticket) may in spent_message g ok.0 live.0 ok.1.0 ok.1.1 (w.nodes g.node.0) ok.2)
  end_fate g Withdrawn live may = tt
  end_fate g Died live may =
      let le : may.0.0 ≤ (w.nodes g.node.0).life.0 = heard_life (sha []) w.machine w.nodes w.pool g.node may.0 inv.messages may.1 in
      let lt : g.life.0 < may.0.0 = may.2 in
      omega arith

  step_fates : (m' : Machine) → Step (sha []) w.pool w.machine m' → (g : Grant) (y : Ending) → In (Granted g) m'.made → m'.ending g.ticket.0 ≡ Some y → Fate w.nodes g y
  step_fates m' (Grants h wants asked answers here alone home newer free) g y (inl p) e =
      (let same : g.ticket.0 ≡ h.ticket.0 = ap ticket_of p in
      let bad : Some y ≡ None = sym e ∙ ap w.machine.ending same ∙ fresh (sha []) w.machine inv.sound h.ticket.0 newer in cc)
  step_fates m' (Grants h wants asked answers here alone home newer free) g y (inr i) e = inv.fates g y i e
  step_fates m' (Ends h z live may) g y i e = elim (cases_eq g.ticket.0 h.ticket.0) [
    | inl q ↦ (let is : Some y ≡ Some z = sym e ∙ ap (put h.ticket.0 (Some z) w.machine.ending) q ∙ put_same h.ticket.0 (Some z) w.machine.ending in
        let yz : z ≡ y = cc in
        let same : h ≡ g = same_grant (sha []) w.machine inv.sound h g live.0 i (sym q) in
        subst (λ k. Fate w.nodes k y) same (subst (Fate w.nodes h) yz (end_fate h z live may)))
    | inr ne ↦ inv.fates g y i (sym (put_other h.ticket.0 (Some z) w.machine.ending g.ticket.0 ne) ∙ e)
  ]
  step_fates m' (Prunes t s newer idle some) g y (inl p) e = cc
  step_fates m' (Prunes t s newer idle some) g y (inr i) e = inv.fates g y i e
  step_fates m' (Sees n l heard here newer none quiet) g y i e = inv.fates g y i e
  step_fates m' (Retires n here home none quiet) g y i e = inv.fates g y i e
  step_fates m' (Parks p sent none) g y i e = inv.fates g y i e
  step_fates m' (Unparks ps part) g y i e = inv.fates g y i e
  step_fates m' (Raises t le) g y i e = inv.fates g y i e

  step_asked : (m' : Machine) → Step (sha []) w.pool w.machine m' → (g : Grant) → In (Granted g) m'.made → WasWanted w.pool g
  step_asked m' (Grants h wants asked answers here alone home newer free) g (inl p) = (let same : h ≡ g = cc in subst (WasWanted w.pool) same (wants, asked, answers))
  step_asked m' (Grants h wants asked answers here alone home newer free) g (inr i) = inv.asked g i
  step_asked m' (Ends h z live may) g i = inv.asked g i
  step_asked m' (Prunes t s newer idle some) g (inl p) = cc
  step_asked m' (Prunes t s newer idle some) g (inr i) = inv.asked g i
  step_asked m' (Sees n l heard here newer none quiet) g i = inv.asked g i
  step_asked m' (Retires n here home none quiet) g i = inv.asked g i
  step_asked m' (Parks p sent none) g i = inv.asked g i
  step_asked m' (Unparks ps part) g i = inv.asked g i
  step_asked m' (Raises t le) g i = inv.asked g i

  pub step_inv : (m' : Machine) → Step (sha []) w.pool w.machine m' → Inv sha (record w { machine = m' })
  step_inv m' step =
      let both = step_sound (sha []) w.pool w.machine m' inv.sound step in
      record {
        sound = both.1;
        messages = λ y i. message_later (sha []) w.machine m' w.nodes w.nodes y both.0 (λ j. ahead_refl (w.nodes j)) (inv.messages y i);
        fates = step_fates m' step;
        nodes = λ n. node_later sha w.machine m' n (w.nodes n.0) both.0 (inv.nodes n);
        asked = step_asked m' step;
      }

  -- what the machine says is so
  pub in_made_line : (s : Slot) (v : LineVersion) (z : Made) (xs : List Made) → In z xs → In v (added (sha []) s w.machine.ending z) → In v (line_of (sha []) s w.machine.ending xs)
  in_made_line s v z [] i h = absurd i
  in_made_line s v z (y ∷ xs) (inl p) h = in_right v (line_of (sha []) s w.machine.ending xs) (added (sha []) s w.machine.ending y) (subst (λ k. In v (added (sha []) s w.machine.ending k)) p h)
  in_made_line s v z (y ∷ xs) (inr i) h = in_left v (line_of (sha []) s w.machine.ending xs) (added (sha []) s w.machine.ending y) (in_made_line s v z xs i h)

  digest_of : (s : Slot) (news : List News) → In s (slots_of news) → (d : Digest) × (digest_for s news ≡ Some d)
  digest_of s [] h = absurd h
  digest_of s (k ∷ ks) h = elim (cases_Bool (slot_eq k.slot s)) [
    | inl e ↦ (k.digest, rw e)
    | inr e ↦ elim h [
      | inl p ↦ (let q : slot_eq k.slot s ≡ true = subst (λ z. slot_eq k.slot z ≡ true) (sym p) (slot_eq_same k.slot) in true_false (slot_eq k.slot s) q e)
      | inr i ↦ (let r = digest_of s ks i in (r.0, rw e r.1))
    ]
  ]

  -- a committed grant has a version on the line of each slot of its news
  committed_stands : (g : Grant) (news : List News) (s : Slot) → In (Granted g) w.machine.made → w.machine.ending g.ticket.0 ≡ Some (Committed news) → In s (slots_of news)
      → (v : LineVersion) × In v (line (sha []) w.machine s) × (v.ticket ≡ g.ticket)
  committed_stands g news s i e h =
      let d = digest_of s news h in
      let at : added (sha []) s w.machine.ending (Granted g) ≡ record { ticket = g.ticket; digest = d.0 } ∷ [] = ap (version_at s g.ticket) e ∙ ap (version_of g.ticket) d.1 in (
        record { ticket = g.ticket; digest = d.0 },
        in_made_line s (record { ticket = g.ticket; digest = d.0 }) (Granted g) w.machine.made i (subst (In (record { ticket = g.ticket; digest = d.0 })) (sym at) (inl refl)),
        refl,
      )

  fence_cases : (g : Grant) (o : Option Ending) (news : List News) (t : Ticket) → In (Granted g) w.machine.made → g.ticket ≡ t → w.machine.ending t.0 ≡ o
      → slots_of news ≡ written g.slots
      → (o ≡ None → ⊥)
      → news ≢ []
      → ((news ≢ []) → ((k : News) → In k news → (v : LineVersion) × In v (line (sha []) w.machine k.slot) × (v.ticket ≡ t)) → ⊥)
      → (y : Ending) × (w.machine.ending t.0 ≡ Some y) × ((news' : List News) → y ≢ Committed news')
  fence_cases g None news t i p e slots live some off = absurd (live refl)
  fence_cases g (Some y) news t i p e slots live some off = (
    y,
    e,
    λ news' q. off some (λ k j.
        (let e' : w.machine.ending g.ticket.0 ≡ Some (Committed news') = ap (λ (z : Ticket). w.machine.ending z.0) p ∙ e ∙ ap Some q in
        let law : slots_of news' ≡ written g.slots = inv.sound.laws g (Committed news') i e' in
        let r = committed_stands g news' k.slot i e' (subst (In k.slot) (slots ∙ sym law) (in_map (λ (z : News). z.slot) k news j)) in
        (r.0, r.1, r.2 ∙ p))),
  )

  say_ok : (y : FromCoord) → Says (sha []) w.pool w.machine y → ToldOk (sha []) w.machine y
  say_ok y (Says_granted g live) = live.0
  say_ok y (Says_committed n l t news versions i all some) = (all, some)
  say_ok y (Says_fenced n l t news i refused off) =
      let ok = inv.messages (commit n l t news) i in
      let given = ok.1 in
      fence_cases ok.0 (w.machine.ending t.0) news t given.0 given.1 refl ok.2 (λ none. refused ok.0 (given.0, ap (λ (z : Ticket). w.machine.ending z.0) given.1 ∙ none) given.1 given.2 given.3 ok.2 ok.3) ok.3 off
  say_ok y (Says_denied n l a why wants tenure sent) = tt
  say_ok y (Says_recall g live tenure) = tt

  pub say_inv : (y : FromCoord) → Says (sha []) w.pool w.machine y → Inv sha (record w { pool = w.pool ++ Told y ∷ [] })
  say_inv y says = record {
    sound = inv.sound;
    messages = λ z i. elim (in_append z w.pool (Told y ∷ []) i) [
      | inl old ↦ inv.messages z old
      | inr new ↦ subst (MessageOk (sha []) w.machine w.nodes) (sym (in_one z (Told y) new)) (say_ok y says)
    ];
    fates = inv.fates;
    nodes = inv.nodes;
    asked = λ g i. wanted_later w.pool (Told y ∷ []) g (inv.asked g i);
  }

-- of a world whose coordinator may be down: the invariant holds of what the record holds too
pub record Whole (sha : List ℕ → Digest) (w : World) : Type 0 where
  pub now : Inv sha w
  pub kept : (m : Machine) → w.down ≡ Some m → Inv sha (record w { machine = m }) × Later (sha []) w.machine m

steps_inv : (sha : List ℕ → Digest) (w : World) (a b : Machine) → Inv sha (record w { machine = a }) → Steps (sha []) w.pool a b → Inv sha (record w { machine = b }) × Later (sha []) a b
steps_inv sha w a b inv (No_step m) = (inv, later_refl (sha []) a)
steps_inv sha w a b inv (One_more k l o steps step) =
    let before = steps_inv sha w a l inv steps in
    (step_inv sha (record w { machine = l }) before.0 b step, later_trans (sha []) a l b before.1 (step_sound (sha []) w.pool l b before.0.sound step).0)

-- a coordinator that is up keeps nothing else
up_keeps : (sha : List ℕ → Digest) (w : World) → w.down ≡ None → (m : Machine) → w.down ≡ Some m → Inv sha (record w { machine = m }) × Later (sha []) w.machine m
up_keeps sha w up m e = none_some m (sym up ∙ e)

down_inv : (sha : List ℕ → Digest) (v : World) (d : Option Machine) → Inv sha v → Inv sha (record v { down = d })
down_inv sha v d inv = record { sound = inv.sound; messages = inv.messages; fates = inv.fates; nodes = inv.nodes; asked = inv.asked }

pub move_inv : (sha : List ℕ → Digest) (w u : World) → Whole sha w → Move sha w u → Whole sha u × Onward (sha []) w u
move_inv sha w u whole (Node_moves n sends x act) = (
  record {
    now = act_inv sha w whole.now n sends x act;
    kept = λ m e. (let k = whole.kept m e in (act_inv sha (record w { machine = m }) k.0 n sends x act, k.1));
  },
  record { machine = later_refl (sha []) w.machine; pool = λ y i. in_left y w.pool sends i },
)
move_inv sha w u whole (Machine_moves m up step) = (
  record {
    now = step_inv sha w whole.now m step;
    kept = up_keeps sha (record w { machine = m }) up;
  },
  record { machine = (step_sound (sha []) w.pool w.machine m whole.now.sound step).0; pool = λ y i. i },
)
move_inv sha w u whole (Machine_says y up says) = (
  record {
    now = say_inv sha w whole.now y says;
    kept = up_keeps sha (record w { pool = w.pool ++ Told y ∷ [] }) up;
  },
  record { machine = later_refl (sha []) w.machine; pool = λ z i. in_left z w.pool (Told y ∷ []) i },
)
move_inv sha w u whole (Fails m up steps) = (
  record {
    now = down_inv sha w (Some m) whole.now;
    kept = λ k e. (let q : m ≡ k = some_is m k e in
        let r = steps_inv sha w w.machine m whole.now steps in
        subst (λ z. Inv sha (record w { machine = z; down = Some m }) × Later (sha []) w.machine z) q (down_inv sha (record w { machine = m }) (Some m) r.0, r.1));
  },
  record { machine = later_refl (sha []) w.machine; pool = λ z i. i },
)
move_inv sha w u whole (Recovers m e) =
    (let k = whole.kept m e in (
      record {
        now = down_inv sha (record w { machine = m }) None k.0;
        kept = λ z p. none_some z p;
      },
      record { machine = k.1; pool = λ z i. i },
    ))

pub moves_inv : (sha : List ℕ → Digest) (w u : World) → Whole sha w → Moves sha w u → Whole sha u × Onward (sha []) w u
moves_inv sha w u whole (Still v) = (whole, onward_refl (sha []) w)
moves_inv sha w u whole (Then a v b moves move) =
    let before = moves_inv sha w v whole moves in
    let after = move_inv sha v u before.0 move in
    (after.0, onward_trans (sha []) w v u before.1 after.1)

no_ask : {P : Type 0} (a : ℕ) (s : KeptAsk) → nth [] a ≡ Some s → P
no_ask zero s e = none_some s e
no_ask (suc a) s e = none_some s e

pub start_inv : (sha : List ℕ → Digest) → Inv sha (start sha)
start_inv sha = record {
  sound = record {
    order = tt;
    apart = tt;
    laws = λ g y i e. absurd i;
    ended = λ t y e. none_some y e;
    based = λ g u l i. absurd l.0;
    named = λ g u i k. absurd i;
    placed = λ s j v e. none_some v e;
    tenures = λ g s i has h. absurd i;
  };
  messages = λ x i. absurd i;
  fates = λ g y i e. absurd i;
  nodes = λ n. record {
    states = λ a s e. no_ask a s e;
    known = λ s k d e. none_some d e;
    stored = keep_ok sha [] (λ d. None) (λ d c e. none_some c e);
    homes = λ a s v e wants shared free. no_ask a s e;
  };
  asked = λ g i. absurd i;
}

pub start_whole : (sha : List ℕ → Digest) → Whole sha (start sha)
start_whole sha = record { now = start_inv sha; kept = λ m e. none_some m e }
