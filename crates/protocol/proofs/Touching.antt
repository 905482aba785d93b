-- What a message does to the ledger, whoever sent it, and how a node is put out.
use Rattle.std.proofs.Common.{◌≡◌, ◌≢◌, ℕ, ◌<◌, ◌≤◌, ◌⊎◌, List, [], ◌∷◌, ◌++◌, Bool, true, false, not, ◌&&◌, ◌||◌, eqb, filter, Option, Some, None, refl, sym, ◌∙◌, ap, subst, inl, inr, arith, append-nil}
use Rattle.std.proofs.lemmas.Bool.{cases_Bool, and_parts, eqb-true, not-true}
use Rattle.std.proofs.lemmas.Bool.Decides.{nat_tests}
use Rattle.std.specs.List.{list_any, find}
use Rattle.std.specs.Prelude.{nat_lt}
use Rattle.protocol.specs.Lists.{In, put, is_nil}
use Rattle.protocol.specs.Names.{Slot, is_private, slots_eq, NodeId, Life, Ticket, Digest}
use Rattle.protocol.specs.Machine.{ToCoord, Parked, News, LineVersion, slots_of, digest_for, version_of, cleared}
use Rattle.farm_base.specs.declared.message.Request.{Request}
use Rattle.farm_base.specs.declared.message.Request.TheVariants.{Hello, Acquire, Commit, Release}
use Rattle.protocol.specs.Ledger.{Limits, Ledger, Lease, Work, begin_work, Decision, Give, Deny, Wait, elsewhere, decision, gives, carried_out, tried, try_all, retried, holds_wanted, recall, recalls, decided, acquiring, lease_of, is_parked, has_ticket, is_its, writable_slots, ends, lease_under, may_commit, on_all, confirms, commits, committing, may_release, released, answering, is_older, is_older_ask, sees, is_home, newer_life, handled, is_at, goes, notes}
use Rattle.protocol.specs.Ledger as ledger
use Rattle.events.specs.declared.answer.CoordNote.TheVariants as note
use Rattle.protocol.specs.Lawful.{IsLawful, AllApart}
use Rattle.protocol.specs.Hostile.{EveryMessageTouchesItsOwn, last_word, IsPutOut, EveryNodeCanBePutOut}
use Rattle.protocol.proofs.Base.{cases_option, true_false, from_filter, node_is, life_is, put_same, put_other}
use Rattle.protocol.proofs.Lines.{digest_in}
use Rattle.protocol.proofs.Leases.{find_some}
use Rattle.protocol.proofs.Following.{slots_eq_is}
use Rattle.protocol.proofs.Trying.{try_new}
use Rattle.protocol.proofs.Saving.{Apart}
use Rattle.protocol.proofs.Others.{newer_mine}
use Rattle.protocol.proofs.Owning.{handled_keeps}

-- all that no message but a Commit or a newer life changes
record Same (q q' : Ledger) : Type 0 where
  pub line : q'.line ≡ q.line
  pub gone : q'.gone ≡ q.gone
  pub retired : q'.retired ≡ q.retired
  pub lives : q'.lives ≡ q.lives
  pub last : q.last ≤ q'.last

same : (q : Ledger) → Same q q
same q = record { line = refl; gone = refl; retired = refl; lives = refl; last = omega arith }

then_same : (a b c : Ledger) → Same a b → Same b c → Same a c
then_same a b c p q = record {
  line = q.line ∙ p.line;
  gone = q.gone ∙ p.gone;
  retired = q.retired ∙ p.retired;
  lives = q.lives ∙ p.lives;
  last = (let x : a.last ≤ b.last = p.last in let y : b.last ≤ c.last = q.last in omega arith);
}

lt_is : (a b : ℕ) → nat_lt a b ≡ true → a < b
lt_is a b h = grind (arith, nat_tests)

lt_true : (a b : ℕ) → a < b → nat_lt a b ≡ true
lt_true a b h = grind (arith, nat_tests)

lt_false : (a b : ℕ) → b ≤ a → nat_lt a b ≡ false
lt_false a b h = grind (arith, nat_tests)

eqb_is : (a b : ℕ) → a ≡ b → eqb a b ≡ true
eqb_is a b h = grind (arith, nat_tests)

-- of leases that stand apart no two have one ticket
unique : (live : List Lease) → AllApart live → (x y : Lease) → In x live → In y live → x.ticket.0 ≡ y.ticket.0 → x ≡ y
unique [] a x y i j e = absurd i
unique (h ∷ live) a x y (inl p) (inl q) e = p ∙ sym q
unique (h ∷ live) a x y (inl p) (inr j) e = (let lt : h.ticket.0 < y.ticket.0 = (a.0 y j).ticket in let at : x.ticket.0 ≡ h.ticket.0 = ap (λ (z : Lease). z.ticket.0) p in absurd (omega arith))
unique (h ∷ live) a x y (inr i) (inl q) e = (let lt : h.ticket.0 < x.ticket.0 = (a.0 x i).ticket in let at : y.ticket.0 ≡ h.ticket.0 = ap (λ (z : Lease). z.ticket.0) q in absurd (omega arith))
unique (h ∷ live) a x y (inr i) (inr j) e = unique live a.1 x y i j e

apart_lawful : (top : ℕ) (q : Ledger) → IsLawful top q → Apart q
apart_lawful top q law = record { unique = unique q.live law.core.apart; top = law.core.given }

module _ (k : Limits) where
  carried_same : (d : Decision) (p : Parked) (w : Work) → Same w.ledger (carried_out k d p w).ledger
  unfolding gives
  carried_same Give p w = record { line = refl; gone = refl; retired = refl; lives = refl; last = omega arith }
  carried_same (Deny why) p w = same w.ledger
  carried_same Wait p w = same w.ledger

  try_same : (ps : List Parked) (w : Work) → Same w.ledger (try_all k ps w).ledger
  unfolding tried
  try_same [] w = same w.ledger
  try_same (p ∷ ps) w = then_same w.ledger (tried k p w).ledger (try_all k ps (tried k p w)).ledger (carried_same (decision k w.ledger p) p w) (try_same ps (tried k p w))

  retried_same : (w : Work) → Same w.ledger (retried k w).ledger
  unfolding retried
  retried_same w = (let s = try_same w.ledger.parked w in record { line = s.line; gone = s.gone; retired = s.retired; lives = s.lives; last = s.last })

  recalls_same : (b : Bool) (p : Parked) (w : Work) → Same w.ledger (recalls b p w).ledger
  recalls_same false p w = same w.ledger
  recalls_same true p w = by (find (holds_wanted p) w.ledger.live)
    where
      by : (o : Option Lease) → Same w.ledger (recall o w).ledger
      by None = same w.ledger
      by (Some g) = same w.ledger

  decided_same : (d : Decision) (p : Parked) (w : Work) → Same w.ledger (decided k d p w).ledger
  unfolding gives
  decided_same Give p w = record { line = refl; gone = refl; retired = refl; lives = refl; last = omega arith }
  decided_same (Deny why) p w = same w.ledger
  decided_same Wait p w = (let s = recalls_same (p.tenure && not (elsewhere w.ledger p)) p w in record { line = s.line; gone = s.gone; retired = s.retired; lives = s.lives; last = s.last })

  acquiring_same : (o : Option Lease) (b : Bool) (p : Parked) (w : Work) → Same w.ledger (acquiring k o b p w).ledger
  acquiring_same (Some g) b p w = same w.ledger
  acquiring_same None true p w = same w.ledger
  acquiring_same None false p w = decided_same (decision k w.ledger p) p w

  -- what an answer leaves: all but lines is so, and lines have what the sender was leased
  abbrev Lines : Ledger → NodeId → Life → Slot → List LineVersion → Type 0
  Lines q n l s after = (after ≡ q.line s) ⊎ ((h : Lease) × (d : Digest) × In h q.live × (h.node ≡ n) × (h.life ≡ l) × In s (writable_slots h.slots) × (after ≡ q.line s ++ record { ticket = h.ticket; digest = d } ∷ []))

  record Answered (q : Ledger) (n : NodeId) (l : Life) (q' : Ledger) : Type 0 where
    pub lines : (s : Slot) → Lines q n l s (q'.line s)
    pub gone : q'.gone ≡ q.gone
    pub retired : q'.retired ≡ q.retired
    pub lives : q'.lives ≡ q.lives
    pub last : q.last ≤ q'.last

  from_same : (q : Ledger) (n : NodeId) (l : Life) (q' : Ledger) → Same q q' → Answered q n l q'
  from_same q n l q' s = record { lines = λ x. inl (ap (λ (f : Slot → List LineVersion). f x) s.line); gone = s.gone; retired = s.retired; lives = s.lives; last = s.last }

  commit_line : (n : NodeId) (l : Life) (t : Ticket) (news : List News) (w : Work) (o : Option Lease) → lease_under w.ledger.live t ≡ o → may_commit n l news o ≡ true → (s : Slot) → Lines w.ledger n l s (w.ledger.line s ++ version_of t (digest_for s news))
  commit_line n l t news w None e may s = (let bad : false ≡ true = may in absurd (cc))
  commit_line n l t news w (Some h) e may s =
      let f = find_some (has_ticket t) w.ledger.live h e in
      let b1 = and_parts (is_its n l h && slots_eq (slots_of news) (writable_slots h.slots)) (not (is_nil news)) may in
      let b2 = and_parts (is_its n l h) (slots_eq (slots_of news) (writable_slots h.slots)) b1.0 in
      let b3 = and_parts (eqb h.node.0 n.0) (eqb h.life.0 l.0) b2.0 in
      let slots : slots_of news ≡ writable_slots h.slots = slots_eq_is (slots_of news) (writable_slots h.slots) b2.1 in
      let ticket : t ≡ h.ticket = λ i. record { 0 = sym (eqb-true h.ticket.0 t.0 f.1) i } in
      elim (cases_option (digest_for s news)) [
        | inl none ↦ inl (ap (λ o. w.ledger.line s ++ version_of t o) none ∙ append-nil (w.ledger.line s))
        | inr d ↦ inr (
          h,
          d.0,
          f.0,
          node_is h.node n (eqb-true h.node.0 n.0 b3.0),
          life_is h.life l (eqb-true h.life.0 l.0 b3.1),
          subst (In s) slots (digest_in s news d.0 d.1),
          ap (λ o. w.ledger.line s ++ version_of t o) d.1 ∙ ap (λ (z : Ticket). w.ledger.line s ++ record { ticket = z; digest = d.0 } ∷ []) ticket,
        )
      ]

  committing_answered : (b : Bool) (n : NodeId) (l : Life) (t : Ticket) (news : List News) (w : Work) → may_commit n l news (lease_under w.ledger.live t) ≡ b → Answered w.ledger n l (committing k b n l t news w).ledger
  committing_answered true n l t news w may =
      let v : Work = confirms n l t news (commits t news w) in
      let r = retried_same v in
      record {
        lines = λ s. subst (Lines w.ledger n l s) (sym (ap (λ (f : Slot → List LineVersion). f s) r.line)) (commit_line n l t news w (lease_under w.ledger.live t) refl may s);
        gone = r.gone;
        retired = r.retired;
        lives = r.lives;
        last = r.last;
      }
  committing_answered false n l t news w may = by (not (is_nil news) && on_all w.ledger.line t news)
    where
      by : (b : Bool) → Answered w.ledger n l (ledger.answered b n l t news w).ledger
      by true = from_same w.ledger n l w.ledger (same w.ledger)
      by false = from_same w.ledger n l w.ledger (same w.ledger)

  released_same : (b : Bool) (t : Ticket) (o : Option Lease) (w : Work) → Same w.ledger (released k b t o w).ledger
  released_same b t None w = same w.ledger
  released_same false t (Some g) w = same w.ledger
  released_same true t (Some g) w = (let r = retried_same (ends g w) in record { line = r.line; gone = r.gone; retired = r.retired; lives = r.lives; last = r.last })

  answering_answered : (n : NodeId) (l : Life) (r : Request) (w : Work) → Answered w.ledger n l (answering k n l r w).ledger
  answering_answered n l Hello w = from_same w.ledger n l w.ledger (same w.ledger)
  answering_answered n l (Acquire a wants tenure) w =
      let p : Parked = record { node = n; life = l; ask = a; wants = wants; tenure = tenure } in
      from_same w.ledger n l (acquiring k (lease_of w.ledger.live n l a) (is_parked w.ledger.parked n l a) p w).ledger (acquiring_same (lease_of w.ledger.live n l a) (is_parked w.ledger.parked n l a) p w)
  answering_answered n l (Commit t news) w = committing_answered (may_commit n l news (lease_under w.ledger.live t)) n l t news w refl
  answering_answered n l (Release t) w = from_same w.ledger n l (released k (may_release n l (lease_under w.ledger.live t)) t (lease_under w.ledger.live t) w).ledger (released_same (may_release n l (lease_under w.ledger.live t)) t (lease_under w.ledger.live t) w)

  -- a newer life leaves all but the node's life, its leases and its asks
  record Newer (q : Ledger) (n : NodeId) (l : Life) (q' : Ledger) : Type 0 where
    pub line : q'.line ≡ q.line
    pub gone : q'.gone ≡ q.gone
    pub retired : q'.retired ≡ q.retired
    pub lives : q'.lives ≡ put n.0 l.0 q.lives
    pub last : q.last ≤ q'.last

  newer_is : (n : NodeId) (l : Life) (q : Ledger) → Newer q n l (newer_life k n l (begin_work q)).ledger
  unfolding newer_life
  newer_is n l q = elim (cases_Bool (list_any (is_older n l) q.live || is_home n q.old_home)) [
    | inl t ↦ rw t (let r = retried_same (sees n l (begin_work q)) in record { line = r.line; gone = r.gone; retired = r.retired; lives = r.lives; last = r.last })
    | inr t ↦ rw t (record { line = refl; gone = refl; retired = refl; lives = refl; last = omega arith })
  ]

  module _ (q : Ledger) (known : (p : Parked) → In p q.parked → p.life.0 ≤ q.lives p.node.0) (y : ToCoord) where
    -- all but the leases
    record Touched (q' : Ledger) : Type 0 where
      pub lines : (s : Slot) → Lines q y.node y.life s (q'.line s)
      pub gone : q'.gone ≡ q.gone
      pub retired : q'.retired ≡ q.retired
      pub lives : (j : ℕ) → j ≢ y.node.0 → q'.lives j ≡ q.lives j
      pub last : q.last ≤ q'.last

    handled_touched : Touched (handled k y (begin_work q)).ledger
    unfolding handled
    handled_touched = elim (cases_Bool (q.gone y.node.0)) [
      | inl t ↦ rw t still
      | inr here ↦ rw here (elim (cases_Bool (nat_lt y.life.0 (q.lives y.node.0))) [
        | inl t ↦ rw t still
        | inr t ↦ rw t (elim (cases_Bool (nat_lt (q.lives y.node.0) y.life.0)) [
          | inl newer ↦ rw newer (anew newer)
          | inr old ↦ rw old (let a = answering_answered y.node y.life y.request (begin_work q) in record { lines = a.lines; gone = a.gone; retired = a.retired; lives = λ j ne. ap (λ (f : ℕ → ℕ). f j) a.lives; last = a.last })
        ])
      ])
    ]
      where
        still : Touched q
        still = record { lines = λ s. inl refl; gone = refl; retired = refl; lives = λ j ne. refl; last = omega arith }

        anew : nat_lt (q.lives y.node.0) y.life.0 ≡ true → Touched (answering k y.node y.life y.request (newer_life k y.node y.life (begin_work q))).ledger
        anew newer =
            let w : Work = newer_life k y.node y.life (begin_work q) in
            let b = newer_is y.node y.life q in
            let a = answering_answered y.node y.life y.request w in
            record {
              lines = λ s. elim (a.lines s) [
                | inl e ↦ inl (e ∙ ap (λ (f : Slot → List LineVersion). f s) b.line)
                | inr c ↦ inr (c.0, c.1, newer_mine k q known y.node y.life newer c.0 c.2 c.3 c.4, c.3, c.4, c.5, c.6 ∙ ap (λ (f : Slot → List LineVersion). f s ++ record { ticket = c.0.ticket; digest = c.1 } ∷ []) b.line)
              ];
              gone = a.gone ∙ b.gone;
              retired = a.retired ∙ b.retired;
              lives = λ j ne. ap (λ (f : ℕ → ℕ). f j) (a.lives ∙ b.lives) ∙ put_other y.node.0 y.life.0 q.lives j ne;
              last = (let one : q.last ≤ w.ledger.last = b.last in let two : w.ledger.last ≤ (answering k y.node y.life y.request w).ledger.last = a.last in omega arith);
            }

    silent : q.gone y.node.0 ≡ true → (handled k y (begin_work q)).ledger ≡ q
    unfolding handled
    silent t = rw t refl

known_lawful : (top : ℕ) (q : Ledger) → IsLawful top q → (p : Parked) → In p q.parked → p.life.0 ≤ q.lives p.node.0
known_lawful top q law p i = (let e : q.lives p.node.0 ≡ p.life.0 = (law.parked.each p i).asker.life in omega arith)

pub every_message_touches_its_own : EveryMessageTouchesItsOwn
every_message_touches_its_own top k q law y =
    let t = handled_touched k q (known_lawful top q law) y in
    record {
      leases = λ h i other. elim (handled_keeps k h q y (apart_lawful top q law) i) [ inl still ↦ still | inr its ↦ absurd (other its.0) ];
      lines = t.lines;
      lives = t.lives;
      gone = t.gone;
      retired = t.retired;
      last = t.last;
      silent = silent k q (known_lawful top q law) y;
    }

-- ---- a node is put out

none_any : {A : Type 0} (test : A → Bool) (xs : List A) → ((x : A) → In x xs → test x ≡ false) → list_any test xs ≡ false
none_any test [] h = refl
none_any test (x ∷ xs) h = (let here : test x ≡ false = h x (inl refl) in rw here (none_any test xs (λ y i. h y (inr i))))

filter_none : {A : Type 0} (test : A → Bool) (xs : List A) → ((x : A) → In x xs → test x ≡ false) → filter test xs ≡ []
filter_none test [] h = refl
filter_none test (x ∷ xs) h = (let here : test x ≡ false = h x (inl refl) in rw here (filter_none test xs (λ y i. h y (inr i))))

module _ (top : ℕ) (k : Limits) (q : Ledger) (law : IsLawful top q) (n : NodeId) (here : q.gone n.0 ≡ false) (below : q.lives n.0 < k.greatest) where
  abbrev l : Life
  l = record { 0 = k.greatest }

  abbrev w : Work
  w = newer_life k n l (begin_work q)

  is_newer : nat_lt (q.lives n.0) k.greatest ≡ true
  is_newer = lt_true (q.lives n.0) k.greatest below

  old_lease : (h : Lease) → In h q.live → h.node ≡ n → is_older n l h ≡ true
  old_lease h i at =
      let e : q.lives h.node.0 ≡ h.life.0 = (law.core.holders h i).asker.life in
      let same : q.lives h.node.0 ≡ q.lives n.0 = ap (λ (z : NodeId). q.lives z.0) at in
      let node : eqb h.node.0 n.0 ≡ true = eqb_is h.node.0 n.0 (ap (λ (z : NodeId). z.0) at) in
      let less : nat_lt h.life.0 k.greatest ≡ true = lt_true h.life.0 k.greatest (omega arith) in
      rw (node, less) refl

  old_ask : (p : Parked) → In p q.parked → p.node ≡ n → is_older_ask n l p ≡ true
  old_ask p i at =
      let e : q.lives p.node.0 ≡ p.life.0 = (law.parked.each p i).asker.life in
      let same : q.lives p.node.0 ≡ q.lives n.0 = ap (λ (z : NodeId). q.lives z.0) at in
      let node : eqb p.node.0 n.0 ≡ true = eqb_is p.node.0 n.0 (ap (λ (z : NodeId). z.0) at) in
      let less : nat_lt p.life.0 k.greatest ≡ true = lt_true p.life.0 k.greatest (omega arith) in
      rw (node, less) refl

  no_old_lease : (h : Lease) → In h (filter (λ (g : Lease). not (is_older n l g)) q.live) → h.node ≢ n
  no_old_lease h i at =
      let f = from_filter (λ (g : Lease). not (is_older n l g)) h q.live i in
      true_false (is_older n l h) (old_lease h f.0 at) (not-true (is_older n l h) f.1)

  no_lease : (h : Lease) → In h w.ledger.live → h.node ≢ n
  unfolding newer_life retried
  no_lease h i at = elim (cases_Bool (list_any (is_older n l) q.live || is_home n q.old_home)) [
    | inl t ↦ elim (try_new k (sees n l (begin_work q)).ledger.parked (sees n l (begin_work q)) h (rw t at i)) [
      | inl old ↦ no_old_lease h old at
      | inr r ↦ (let f = from_filter (λ (p : Parked). not (is_older_ask n l p)) r.0 q.parked r.1 in
          true_false (is_older_ask n l r.0) (old_ask r.0 f.0 (sym r.2 ∙ at)) (not-true (is_older_ask n l r.0) f.1))
    ]
    | inr t ↦ (let j : In h (filter (λ (g : Lease). not (is_older n l g)) q.live) = rw t at i in no_old_lease h j at)
  ]

  -- it isn't the old home then
  not_home : (o : Option NodeId) → is_home n (cleared n o) ≡ false
  not_home None = refl
  not_home (Some x) = elim (cases_Bool (eqb x.0 n.0)) [ inl t ↦ rw t refl | inr f ↦ rw f f ]

  try_home : (ps : List Parked) (v : Work) → (try_all k ps v).ledger.old_home ≡ v.ledger.old_home
  unfolding tried gives
  try_home [] v = refl
  try_home (p ∷ ps) v = try_home ps (tried k p v) ∙ by (decision k v.ledger p)
    where
      by : (d : Decision) → (carried_out k d p v).ledger.old_home ≡ v.ledger.old_home
      by Give = refl
      by (Deny why) = refl
      by Wait = refl

  home_is : w.ledger.old_home ≡ cleared n q.old_home
  unfolding newer_life retried
  home_is = elim (cases_Bool (list_any (is_older n l) q.live || is_home n q.old_home)) [
    | inl t ↦ rw t (try_home (sees n l (begin_work q)).ledger.parked (sees n l (begin_work q)))
    | inr t ↦ rw t refl
  ]

  off : (h : Lease) → In h w.ledger.live → is_at n h ≡ false
  off h i = elim (cases_Bool (eqb h.node.0 n.0)) [ inl t ↦ absurd (no_lease h i (node_is h.node n (eqb-true h.node.0 n.0 t))) | inr f ↦ f ]

  no_tenure : list_any (λ (h : Lease). is_at n h && h.tenure) w.ledger.live ≡ false
  no_tenure = none_any (λ (h : Lease). is_at n h && h.tenure) w.ledger.live (λ h i. (let o = off h i in rw o refl))

  no_more : list_any (is_at n) w.ledger.live ≡ false
  no_more = none_any (is_at n) w.ledger.live off

  no_home : is_home n w.ledger.old_home ≡ false
  no_home = ap (is_home n) home_is ∙ not_home q.old_home

  heard_is : (handled k (last_word k n) (begin_work q)).ledger ≡ w.ledger
  unfolding handled
  heard_is = (let old : nat_lt k.greatest (q.lives n.0) ≡ false = lt_false k.greatest (q.lives n.0) (omega arith) in rw (here, old, is_newer) refl)

  put_out : IsPutOut k q n w.ledger
  put_out =
      let b = newer_is k n l q in
      let up : w.ledger.gone n.0 ≡ false = ap (λ (f : ℕ → Bool). f n.0) b.gone ∙ here in
      record {
        leases = no_lease;
        instances = b.retired;
        retires = (
          notes (note.Retired n) (goes n (begin_work w.ledger)),
          (let a = no_tenure in let c = no_more in let d = no_home in rw (up, a, c, d) refl),
          put_same n.0 true w.ledger.gone,
          (λ i s. kept s i),
        );
      }
    where
      kept : (s : Slot) → (goes n (begin_work w.ledger)).ledger.retired s ≡ q.retired s
      kept s =
          let none : filter (is_at n) w.ledger.live ≡ [] = filter_none (is_at n) w.ledger.live off in
          let was : w.ledger.retired s ≡ q.retired s = ap (λ (f : Slot → Bool). f s) (newer_is k n l q).retired in
          elim (cases_Bool (is_private s.folder.mode)) [ inl p ↦ rw (none, p) was | inr p ↦ rw (none, p) was ]

pub every_node_can_be_put_out : EveryNodeCanBePutOut
every_node_can_be_put_out top k q law n here below = subst (IsPutOut k q n) (sym (heard_is top k q law n here below)) (put_out top k q law n here below)
