-- What the coordinator's answers say of its ledger: what lines gain, which Grants are sent, and what each note tells.
use Rattle.std.proofs.Common.{◌≡◌, ◌≢◌, ℕ, ◌+◌, ◌<◌, ◌≤◌, List, [], ◌∷◌, ◌++◌, ◌⊎◌, Bool, true, false, not, ◌&&◌, ◌||◌, eqb, length, map, Option, Some, None, is_some, Result, Ok, Err, refl, sym, ◌∙◌, ap, subst, inl, inr, arith, append-nil}
use Rattle.std.proofs.lemmas.Bool.{cases_Bool, and_parts, eqb-true, not-true, cases_eq}
use Rattle.std.specs.List.{list_any, find}
use Rattle.std.proofs.lemmas.Bool.Decides.{nat_tests}
use Rattle.std.specs.Prelude.{⊤, nat_lt, if◌then◌else◌}
use Rattle.protocol.specs.Lists.{In, put, is_nil}
use Rattle.protocol.specs.Names.{Slot, slot_eq, NodeId, Life, Ask, Ticket, Digest, Want}
use Rattle.protocol.specs.Machine.{Grant, News, Confirmed, LineVersion, FromCoord, ToCoord, Parked, version_of, digest_for, slots_of}
use Rattle.farm_base.specs.declared.message.Request.{Request}
use Rattle.farm_base.specs.declared.message.Request.TheVariants.{Hello, Acquire, Commit, Release}
use Rattle.farm_base.specs.declared.message.FromCoord.TheVariants as told
use Rattle.farm_base.specs.declared.message.Why.{Why}
use Rattle.events.specs.declared.answer.CoordRefusal.{CoordRefusal}
use Rattle.events.specs.declared.answer.CoordRefusal.TheVariants as refusal
use Rattle.events.specs.declared.answer.CoordNote.{CoordNote}
use Rattle.events.specs.declared.answer.CoordNote.TheVariants as note
use Rattle.events.specs.declared.answer.EventNote.TheVariants as event
use Rattle.protocol.specs.Ledger.{Limits, Ledger, Lease, Work, begin_work, says, notes, is_leased, grant_of, Decision, Give, Deny, Wait, elsewhere, decision, lease_for, gives, denies, carried_out, tried, stays, try_all, waiting, parks, retried, is_of, lease_of, is_parked, holds_wanted, recall, recalls, decided, acquiring, lease_under, ends, commits, place_on_line, versions_of, on_all, may_commit, is_its, confirms, committing, may_release, released, answering, is_older, is_older_ask, sees, is_home, newer_life, handled, withdraws, withdrawing, withdrawn, is_at, goes, retired, prunes, pruned, is_awaited, nudges, nudge_all, nudged}
use Rattle.protocol.specs.Ledger as ledger
use Rattle.protocol.specs.Meaning.{commit_adds, request_adds, prune_adds, heard_lives, Again}
use Rattle.protocol.proofs.Base.{any_in, none_some, some_is, true_false, eqb_same, slot_eq_same, put_same, put_other, in_filter, in_left, in_append, in_right, in_one, from_any, get_in, node_is, life_is, ask_is, request_is}
use Rattle.protocol.proofs.Leases.{find_some}
use Rattle.protocol.proofs.Parking.{newer_was}
use Rattle.protocol.proofs.Calls.{place_stands, some_test, is_nil_is}

-- no other message is a Grant
no_recall : (n : NodeId) (l : Life) (t : Ticket) (g : Grant) → told.Granted g ≡ told.Recall n l t → ⊥
no_recall n l t g e = cc

no_denial : (n : NodeId) (l : Life) (a : Ask) (why : Why) (g : Grant) → told.Granted g ≡ told.Denied n l a why → ⊥
no_denial n l a why g e = cc

no_fence : (n : NodeId) (l : Life) (t : Ticket) (g : Grant) → told.Granted g ≡ told.Fenced n l t → ⊥
no_fence n l t g e = cc

no_confirmation : (n : NodeId) (l : Life) (t : Ticket) (vs : List Confirmed) (g : Grant) → told.Granted g ≡ told.Committed n l t vs → ⊥
no_confirmation n l t vs g e = cc

grant_is : (g h : Grant) → told.Granted g ≡ told.Granted h → g ≡ h
grant_is g h e = cc

length_push : {A : Type 0} (xs : List A) (x : A) → length (xs ++ x ∷ []) ≡ length xs + 1
length_push [] x = refl
length_push (y ∷ ys) x = (let r = length_push ys x in omega arith)

-- what an event changes of a ledger
pub record Change (q : Ledger) : Type 1 where
  -- how many tickets are given with no Grant sent
  pub tickets : ℕ
  pub line : Slot → List LineVersion
  pub lives : ℕ → ℕ
  pub gone : ℕ → Bool
  -- parked asks that are dropped unanswered
  pub drops : Parked → Type 0

-- the ask was granted or denied, and that is sent
abbrev pub Served : Parked → List FromCoord → Type 0
Served p sends = ((g : Grant) × In (told.Granted g) sends × (g.node ≡ p.node) × (g.life ≡ p.life) × (g.ask ≡ p.ask)) ⊎ ((why : Why) × In (told.Denied p.node p.life p.ask why) sends)

-- what work keeps of a ledger, up to a change, with only Grants of tickets above its last sent
pub record Grows (q : Ledger) (c : Change q) (w : Work) : Type 0 where
  pub last : q.last ≤ w.ledger.last
  pub count : w.ledger.last ≤ q.last + length w.sends
  pub lines : w.ledger.line ≡ c.line
  pub lives : w.ledger.lives ≡ c.lives
  pub gone : w.ledger.gone ≡ c.gone
  pub fresh : (g : Grant) → In (told.Granted g) w.sends → q.last < g.ticket.0
  pub waits : (p : Parked) → In p q.parked → In p w.ledger.parked ⊎ (Served p w.sends ⊎ c.drops p)

abbrev pub same : (q : Ledger) → Change q
same q = record { tickets = 0; line = q.line; lives = q.lives; gone = q.gone; drops = λ p. ⊥ }

begins : (q : Ledger) → Grows q (same q) (begin_work q)
begins q = record { last = omega arith; count = omega arith; lines = refl; lives = refl; gone = refl; fresh = λ g i. absurd i; waits = λ p i. inl i }

served_more : (p : Parked) (xs ys : List FromCoord) → Served p xs → Served p (xs ++ ys)
served_more p xs ys (inl (g, i, n, l, a)) = inl (g, in_left (told.Granted g) xs ys i, n, l, a)
served_more p xs ys (inr (why, i)) = inr (why, in_left (told.Denied p.node p.life p.ask why) xs ys i)

module _ (k : Limits) (q : Ledger) where
  -- more is sent
  waits_more : (c : Change q) (w : Work) (ys : List FromCoord) → Grows q c w → (p : Parked) → In p q.parked → In p w.ledger.parked ⊎ (Served p (w.sends ++ ys) ⊎ c.drops p)
  waits_more c w ys g p i = elim (g.waits p i) [ inl still ↦ inl still | inr gone ↦ elim gone [ inl served ↦ inr (inl (served_more p w.sends ys served)) | inr drops ↦ inr (inr drops) ] ]

  says_grows : (c : Change q) (y : FromCoord) (w : Work) → ((g : Grant) → told.Granted g ≡ y → ⊥) → Grows q c w → Grows q c (says y w)
  says_grows c y w other g = record {
    last = g.last;
    count = (let le : w.ledger.last ≤ q.last + length w.sends = g.count in let more : length (w.sends ++ y ∷ []) ≡ length w.sends + 1 = length_push w.sends y in omega arith);
    lines = g.lines;
    lives = g.lives;
    gone = g.gone;
    fresh = λ h i. elim (in_append (told.Granted h) w.sends (y ∷ []) i) [ inl j ↦ g.fresh h j | inr j ↦ absurd (other h (in_one (told.Granted h) y j)) ];
    waits = waits_more c w (y ∷ []) g;
  }

  gives_grows : (c : Change q) (p : Parked) (w : Work) → Grows q c w → Grows q c (gives k p w)
  unfolding gives
  gives_grows c p w g =
      let new : Grant = grant_of k.empty w.ledger.line (lease_for k w.ledger p) in
      let le : q.last ≤ w.ledger.last = g.last in
      let up : w.ledger.last ≤ q.last + length w.sends = g.count in
      let more : length (w.sends ++ told.Granted new ∷ []) ≡ length w.sends + 1 = length_push w.sends (told.Granted new) in
      record {
        last = omega arith;
        count = omega arith;
        lines = g.lines;
        lives = g.lives;
        gone = g.gone;
        fresh = λ h i. elim (in_append (told.Granted h) w.sends (told.Granted new ∷ []) i) [
          | inl j ↦ g.fresh h j
          | inr j ↦ (let at : h.ticket.0 ≡ w.ledger.last + 1 = ap (λ (z : Grant). z.ticket.0) (grant_is h new (in_one (told.Granted h) (told.Granted new) j)) in omega arith)
        ];
        waits = waits_more c w (told.Granted new ∷ []) g;
      }

  carried_grows : (c : Change q) (d : Decision) (p : Parked) (w : Work) → Grows q c w → Grows q c (carried_out k d p w)
  carried_grows c Give p w g = gives_grows c p w g
  carried_grows c (Deny why) p w g = says_grows c (told.Denied p.node p.life p.ask why) w (no_denial p.node p.life p.ask why) g
  carried_grows c Wait p w g = g

  try_grows : (c : Change q) (ps : List Parked) (w : Work) → Grows q c w → Grows q c (try_all k ps w)
  unfolding tried
  try_grows c [] w g = g
  try_grows c (p ∷ ps) w g = try_grows c ps (tried k p w) (carried_grows c (decision k w.ledger p) p w g)

  -- what was sent stays sent
  pub carried_sent : (d : Decision) (p : Parked) (v : Work) (m : FromCoord) → In m v.sends → In m (carried_out k d p v).sends
  unfolding gives
  carried_sent Give p v m i = in_left m v.sends _ i
  carried_sent (Deny why) p v m i = in_left m v.sends _ i
  carried_sent Wait p v m i = i

  try_sent : (ps : List Parked) (v : Work) (m : FromCoord) → In m v.sends → In m (try_all k ps v).sends
  unfolding tried
  try_sent [] v m i = i
  try_sent (p ∷ ps) v m i = try_sent ps (tried k p v) m (carried_sent (decision k v.ledger p) p v m i)

  pub retried_sent : (v : Work) (m : FromCoord) → In m v.sends → In m (retried k v).sends
  unfolding retried
  retried_sent v m i = try_sent v.ledger.parked v m i

  -- an ask that is tried stays, or is answered
  one_served : (d : Decision) (p : Parked) (w : Work) → ledger.waits d ≡ false → Served p (carried_out k d p w).sends
  unfolding gives
  one_served Give p w e = inl (grant_of k.empty w.ledger.line (lease_for k w.ledger p), in_right _ w.sends _ (inl refl), refl, refl, refl)
  one_served (Deny why) p w e = inr (why, in_right _ w.sends _ (inl refl))
  one_served Wait p w e = (let bad : true ≡ false = e in cc)

  later_served : (ps : List Parked) (w : Work) (p : Parked) → Served p w.sends → Served p (try_all k ps w).sends
  later_served ps w p (inl (g, i, n, l, a)) = inl (g, try_sent ps w (told.Granted g) i, n, l, a)
  later_served ps w p (inr (why, i)) = inr (why, try_sent ps w (told.Denied p.node p.life p.ask why) i)

  all_served : (ps : List Parked) (w : Work) (p : Parked) → In p ps → In p (waiting k ps w) ⊎ Served p (try_all k ps w).sends
  unfolding tried stays
  all_served [] w p i = absurd i
  all_served (r ∷ ps) w p i = elim (cases_Bool (ledger.waits (decision k w.ledger r))) [
    | inl t ↦ rw t (elim i [
      | inl e ↦ inl (inl e)
      | inr j ↦ elim (all_served ps (tried k r w) p j) [ inl x ↦ inl (inr x) | inr x ↦ inr x ]
    ])
    | inr t ↦ rw t (elim i [
      | inl e ↦ inr (subst (λ z. Served z (try_all k ps (tried k r w)).sends) (sym e) (later_served ps (tried k r w) r (one_served (decision k w.ledger r) r w t)))
      | inr j ↦ all_served ps (tried k r w) p j
    ])
  ]

  retried_grows : (c : Change q) (w : Work) → Grows q c w → Grows q c (retried k w)
  unfolding retried
  retried_grows c w g = (let r = try_grows c w.ledger.parked w g in record {
    last = r.last;
    count = r.count;
    lines = r.lines;
    lives = r.lives;
    gone = r.gone;
    fresh = r.fresh;
    waits = λ p i. elim (g.waits p i) [
      | inl still ↦ elim (all_served w.ledger.parked w p still) [ inl x ↦ inl x | inr x ↦ inr (inl x) ]
      | inr gone ↦ elim gone [ inl served ↦ inr (inl (later_served w.ledger.parked w p served)) | inr drops ↦ inr (inr drops) ]
    ];
  })

  recall_grows : (c : Change q) (o : Option Lease) (w : Work) → Grows q c w → Grows q c (recall o w)
  recall_grows c None w g = g
  recall_grows c (Some h) w g = says_grows c (told.Recall h.node h.life h.ticket) w (no_recall h.node h.life h.ticket) g

  recalls_grows : (c : Change q) (b : Bool) (p : Parked) (w : Work) → Grows q c w → Grows q c (recalls b p w)
  recalls_grows c true p w g = recall_grows c (find (holds_wanted p) w.ledger.live) w g
  recalls_grows c false p w g = g

  -- a newer life
  abbrev pub Seen : NodeId → Life → Change q
  Seen j f = record { tickets = 0; line = q.line; lives = put j.0 f.0 q.lives; gone = q.gone; drops = λ p. (p.node ≡ j) × p.life.0 < f.0 }

  seen_lt : (a b : ℕ) → nat_lt a b ≡ true → a < b
  seen_lt a b h = grind (arith, nat_tests)

  newer_grows : (j : NodeId) (f : Life) → Grows q (Seen j f) (newer_life k j f (begin_work q))
  unfolding newer_life
  newer_grows j f = elim (cases_Bool (list_any (is_older j f) q.live || is_home j q.old_home)) [
    | inl t ↦ rw t (retried_grows (Seen j f) (sees j f (begin_work q)) seen)
    | inr t ↦ rw t seen
  ]
    where
      seen : Grows q (Seen j f) (sees j f (begin_work q))
      seen = record {
        last = omega arith;
        count = omega arith;
        lines = refl;
        lives = refl;
        gone = refl;
        fresh = λ g i. absurd i;
        waits = λ p i. elim (cases_Bool (is_older_ask j f p)) [
          | inl t ↦ (let b = and_parts (eqb p.node.0 j.0) (nat_lt p.life.0 f.0) t in inr (inr (node_is p.node j (eqb-true p.node.0 j.0 b.0), seen_lt p.life.0 f.0 b.1)))
          | inr t ↦ inl (in_filter (λ (x : Parked). not (is_older_ask j f x)) p q.parked i (ap not t))
        ];
      }

-- ---- the result of a decision

pub record Grew (k : Limits) (q : Ledger) (c : Change q) (w : Work) : Type 0 where
  pub count : w.ledger.last ≤ q.last + c.tickets + length w.sends
  pub lines : (s : Slot) → w.ledger.line s ≡ c.line s
  pub lives : (n : ℕ) → w.ledger.lives n ≡ c.lives n
  pub gone : (n : ℕ) → w.ledger.gone n ≡ c.gone n
  pub grants : (g : Grant) → In (told.Granted g) w.sends → (q.last < g.ticket.0) ⊎ (Again (event.Coord w.note) g × ((h : Lease) × In h w.ledger.live × (g ≡ grant_of k.empty w.ledger.line h)))
  pub waits : (p : Parked) → In p q.parked → In p w.ledger.parked ⊎ (Served p w.sends ⊎ c.drops p)

grew : (k : Limits) (q : Ledger) (c : Change q) (n : CoordNote) (w : Work) → Grows q c w → Grew k q c (notes n w)
grew k q c n w g = record {
  count = (let le : w.ledger.last ≤ q.last + length w.sends = g.count in omega arith);
  lines = λ s. ap (λ (f : Slot → List LineVersion). f s) g.lines;
  lives = λ j. ap (λ (f : ℕ → ℕ). f j) g.lives;
  gone = λ j. ap (λ (f : ℕ → Bool). f j) g.gone;
  grants = λ h i. inl (g.fresh h i);
  waits = g.waits;
}

-- ---- confirmations

-- a ticket that is on a line is found there
placed : (t : Ticket) (line : List LineVersion) (v : LineVersion) (k : ℕ) → In v line → v.ticket.0 ≡ t.0 → is_some (place_on_line t line k) ≡ true
placed t [] v k i e = absurd i
placed t (x ∷ xs) v k i e = elim (cases_Bool (eqb x.ticket.0 t.0)) [
  | inl here ↦ rw here refl
  | inr other ↦ rw other (elim i [
    | inl same ↦ (let bad : eqb x.ticket.0 t.0 ≡ true = subst (λ z. eqb z t.0 ≡ true) (sym e ∙ ap (λ (z : LineVersion). z.ticket.0) same) (eqb_same t.0) in true_false (eqb x.ticket.0 t.0) bad other)
    | inr j ↦ placed t xs v (k + 1) j e
  ])
]

-- news for a slot
has_digest : (news : List News) (x : News) → In x news → (d : Digest) × (digest_for x.slot news ≡ Some d)
has_digest [] x i = absurd i
has_digest (z ∷ zs) x i = elim (cases_Bool (slot_eq z.slot x.slot)) [
  | inl t ↦ (z.digest, rw t refl)
  | inr f ↦ elim i [
    | inl same ↦ true_false (slot_eq z.slot x.slot) (subst (λ (n : News). slot_eq z.slot n.slot ≡ true) (sym same) (slot_eq_same z.slot)) f
    | inr j ↦ (let r = has_digest zs x j in (r.0, rw f r.1))
  ]
]

committed_place : (line : Slot → List LineVersion) (t : Ticket) (news : List News) (x : News) → In x news → is_some (place_on_line t (line x.slot ++ version_of t (digest_for x.slot news)) 0) ≡ true
committed_place line t news x i =
    let d = has_digest news x i in
    let v : LineVersion = record { ticket = t; digest = d.0 } in
    subst (λ o. is_some (place_on_line t (line x.slot ++ version_of t o) 0) ≡ true) (sym d.1) (placed t (line x.slot ++ v ∷ []) v 0 (in_right v (line x.slot) (v ∷ []) (inl refl)) refl)

on_all_in : (line : Slot → List LineVersion) (t : Ticket) (news : List News) → on_all line t news ≡ true → (x : News) → In x news → is_some (place_on_line t (line x.slot) 0) ≡ true
on_all_in line t [] e x i = absurd i
on_all_in line t (z ∷ zs) e x i =
    let b = and_parts (is_some (place_on_line t (line z.slot) 0)) (on_all line t zs) e in
    elim i [ inl same ↦ subst (λ (n : News). is_some (place_on_line t (line n.slot) 0) ≡ true) (sym same) b.0 | inr j ↦ on_all_in line t zs b.1 x j ]

versions_all : (line : Slot → List LineVersion) (t : Ticket) (news : List News) → ((x : News) → In x news → is_some (place_on_line t (line x.slot) 0) ≡ true) → map (λ (v : Confirmed). v.slot) (versions_of line t news) ≡ slots_of news
versions_all line t [] all = refl
versions_all line t (x ∷ xs) all = by (place_on_line t (line x.slot) 0) (all x (inl refl)) (versions_all line t xs (λ z i. all z (inr i)))
  where
    by : (o : Option (ℕ × Digest)) → is_some o ≡ true → map (λ (v : Confirmed). v.slot) (versions_of line t xs) ≡ slots_of xs → map (λ (v : Confirmed). v.slot) (ledger.confirmed x.slot o ++ versions_of line t xs) ≡ x.slot ∷ slots_of xs
    by None e rest = (let bad : false ≡ true = e in cc)
    by (Some p) e rest = λ i. x.slot ∷ rest i

-- ---- messages

module _ (k : Limits) (y : ToCoord) (q : Ledger) where
  -- the message asked for this
  abbrev AskedFor : NodeId → Life → Ask → Type 0
  AskedFor n l a = (n ≡ y.node) × (l ≡ y.life) × ((wants : List Want) × (tenure : Bool) × (y.request ≡ Acquire a wants tenure))

  -- a lease of the ledger is of the message's ask, with this Grant, which is sent
  abbrev Its : Grant → Work → Type 0
  Its g w = (h : Lease) × In h w.ledger.live × (g ≡ grant_of k.empty w.ledger.line h) × AskedFor h.node h.life h.ask × In (told.Granted g) w.sends

  abbrev Confirms : Ticket → List News → Work → Type 0
  Confirms t news w = (versions : List Confirmed) × In (told.Committed y.node y.life t versions) w.sends × (map (λ (v : Confirmed). v.slot) versions ≡ slots_of news)

  abbrev asking : Ask → List Want → Parked
  asking a wants = record { node = y.node; life = y.life; ask = a; wants = wants; tenure = true }

  -- the first lease that holds what a new ask for a tenure wants is recalled
  abbrev pub Recalled : Work → Type 0
  Recalled w = (a : Ask) (wants : List Want) → y.request ≡ Acquire a wants true → is_parked q.parked y.node y.life a ≡ false → elsewhere w.ledger (asking a wants) ≡ false
      → (h : Lease) → find (holds_wanted (asking a wants)) w.ledger.live ≡ Some h → In (told.Recall h.node h.life h.ticket) w.sends

  -- no lease has the ticket, or the one that has it isn't the sender's
  abbrev Unheld : Ticket → Work → Type 0
  Unheld t w = (lease_under w.ledger.live t ≡ None) ⊎ ((h : Lease) × In h w.ledger.live × (h.ticket.0 ≡ t.0) × (is_its y.node y.life h ≡ false))

  abbrev pub NoteSays : Work → CoordNote → Type 0
  NoteSays w (note.Granted g) = Its g w × (q.last < g.ticket.0)
  NoteSays w (note.GrantedBefore g) = Its g w
  NoteSays w note.Parked = (p : Parked) × In p w.ledger.parked × AskedFor p.node p.life p.ask × Recalled w
  NoteSays w (note.Committed t) = (news : List News) × (y.request ≡ Commit t news) × Confirms t news w
  NoteSays w (note.CommittedBefore t) = (news : List News) × (y.request ≡ Commit t news) × ((news ≢ []) × ((x : News) → In x news → (v : LineVersion) × In v (w.ledger.line x.slot) × (v.ticket ≡ t))) × Confirms t news w
  NoteSays w (note.Fenced t) = (news : List News) × (y.request ≡ Commit t news) × In (told.Fenced y.node y.life t) w.sends
  NoteSays w (note.Released t) = y.request ≡ Release t
  NoteSays w (note.Denied why) = (a : Ask) × (wants : List Want) × (tenure : Bool) × (y.request ≡ Acquire a wants tenure) × In (told.Denied y.node y.life a why) w.sends
  NoteSays w note.OldLife = (q.gone y.node.0 ≡ false) × (y.life.0 < q.lives y.node.0) × (w.sends ≡ [])
  NoteSays w note.NodeRetired = (q.gone y.node.0 ≡ true) × (w.sends ≡ [])
  NoteSays w note.Nothing = (y.request ≡ Hello) ⊎ ((t : Ticket) × (y.request ≡ Release t) × Unheld t w)
  NoteSays w (note.Withdrawn t) = ⊥
  NoteSays w (note.Pruned t) = ⊥
  NoteSays w (note.Retired n) = ⊥
  NoteSays w note.Nudged = ⊥

  -- the life was heard
  abbrev Heard : ℕ → ℕ
  Heard = put y.node.0 y.life.0 q.lives

  -- what a message that was answered so changes
  abbrev pub Changes : CoordNote → Change q
  Changes c = record { tickets = 0; line = λ s. q.line s ++ request_adds y.request c s; lives = heard_lives y c q.lives; gone = q.gone; drops = λ p. (p.node ≡ y.node) × p.life.0 < y.life.0 }

  pub record Says (w : Work) : Type 0 where
    pub grew : Grew k q (Changes w.note) w
    pub says : NoteSays w w.note

  -- work after the step on the message's life
  record G (w : Work) : Type 1 where
    change : Change q
    grows : Grows q change w
    line : change.line ≡ q.line
    lives : (n : ℕ) → change.lives n ≡ Heard n
    gone : change.gone ≡ q.gone
    drops : (p : Parked) → change.drops p → (p.node ≡ y.node) × p.life.0 < y.life.0

  -- one more step of that work
  onward : (w v : Work) (g : G w) → (Grows q g.change w → Grows q g.change v) → G v
  onward w v g f = record { change = g.change; grows = f g.grows; line = g.line; lives = g.lives; gone = g.gone; drops = g.drops }

  left : (w : Work) (g : G w) (p : Parked) → In p q.parked → In p w.ledger.parked ⊎ (Served p w.sends ⊎ ((p.node ≡ y.node) × p.life.0 < y.life.0))
  left w g p i = elim (g.grows.waits p i) [ inl still ↦ inl still | inr x ↦ elim x [ inl served ↦ inr (inl served) | inr d ↦ inr (inr (g.drops p d)) ] ]

  -- a parked ask stays, is served, or is of an older life
  abbrev Waits : Work → Type 0
  Waits w = (p : Parked) → In p q.parked → In p w.ledger.parked ⊎ (Served p w.sends ⊎ ((p.node ≡ y.node) × p.life.0 < y.life.0))

  -- work whose ledger is as after the step on the life, but for what is named
  settle : (c : CoordNote) (w v : Work) → heard_lives y c q.lives ≡ Heard → G w → v.ledger.lives ≡ w.ledger.lives → v.ledger.gone ≡ w.ledger.gone → Waits v → ((s : Slot) → v.ledger.line s ≡ q.line s ++ request_adds y.request c s)
      → ((g : Grant) → In (told.Granted g) v.sends → (q.last < g.ticket.0) ⊎ (Again (event.Coord c) g × ((h : Lease) × In h v.ledger.live × (g ≡ grant_of k.empty v.ledger.line h)))) → v.ledger.last ≤ q.last + length v.sends → NoteSays (notes c v) c → Says (notes c v)
  settle c w v heard g lives gone waits lines grants count says = record {
    grew = record {
      count = (let le : v.ledger.last ≤ q.last + length v.sends = count in omega arith);
      lines = lines;
      lives = λ n. ap (λ (f : ℕ → ℕ). f n) (lives ∙ g.grows.lives) ∙ g.lives n ∙ ap (λ (f : ℕ → ℕ). f n) (sym heard);
      gone = λ n. ap (λ (f : ℕ → Bool). f n) (gone ∙ g.grows.gone ∙ g.gone);
      grants = grants;
      waits = waits;
    };
    says = says;
  }

  same_line : (c : CoordNote) (w : Work) → ((s : Slot) → request_adds y.request c s ≡ []) → G w → (s : Slot) → w.ledger.line s ≡ q.line s ++ request_adds y.request c s
  same_line c w none g s = ap (λ (f : Slot → List LineVersion). f s) (g.grows.lines ∙ g.line) ∙ sym (append-nil (q.line s)) ∙ ap (λ l. q.line s ++ l) (sym (none s))

  -- work of a message that adds nothing to a line
  quiet : (c : CoordNote) (w : Work) → heard_lives y c q.lives ≡ Heard → ((s : Slot) → request_adds y.request c s ≡ []) → G w → NoteSays (notes c w) c → Says (notes c w)
  quiet c w heard none g says = settle c w w heard g refl refl (left w g) (same_line c w none g) (λ h i. inl (g.grows.fresh h i)) g.grows.count says

  sent_last : (m : FromCoord) (w : Work) → In m (says m w).sends
  sent_last m w = in_right m w.sends (m ∷ []) (inl refl)

  recall-same : (o : Option Lease) (w : Work) → (recall o w).ledger ≡ w.ledger
  recall-same None w = refl
  recall-same (Some h) w = refl

  recalls-same : (b : Bool) (p : Parked) (w : Work) → (recalls b p w).ledger ≡ w.ledger
  recalls-same true p w = recall-same (find (holds_wanted p) w.ledger.live) w
  recalls-same false p w = refl

  and_not : (a b : Bool) → a ≡ true → b ≡ false → (a && not b) ≡ true
  and_not a b p q = rw (p, q) refl

  recall_sent : (p : Parked) (w : Work) (b : Bool) → b ≡ true → (h : Lease) → find (holds_wanted p) w.ledger.live ≡ Some h → In (told.Recall h.node h.life h.ticket) (recalls b p w).sends
  recall_sent p w true e h f = by (find (holds_wanted p) w.ledger.live) f
    where
      by : (o : Option Lease) → o ≡ Some h → In (told.Recall h.node h.life h.ticket) (recall o w).sends
      by None f = none_some h f
      by (Some g) f = in_right _ w.sends _ (inl (ap (λ (z : Lease). told.Recall z.node z.life z.ticket) (sym (some_is g h f))))
  recall_sent p w false e h f = (let bad : false ≡ true = e in cc)

  parked_recalled : (p : Parked) (w : Work) → p.node ≡ y.node → p.life ≡ y.life → y.request ≡ Acquire p.ask p.wants p.tenure → Recalled (parks (w.ledger.parked ++ p ∷ []) (recalls (p.tenure && not (elsewhere w.ledger p)) p w))
  parked_recalled p w n l is a wants asks new here h f =
      let parts = request_is a p.ask wants p.wants true p.tenure (sym asks ∙ is) in
      let same : asking a wants ≡ p = λ i. record { node = sym n i; life = sym l i; ask = parts.0 i; wants = parts.1 i; tenure = parts.2 i } in
      let b : Bool = p.tenure && not (elsewhere w.ledger p) in
      let kept : (recalls b p w).ledger ≡ w.ledger = recalls-same b p w in
      let here' : elsewhere w.ledger p ≡ false = subst (λ (z : Ledger). elsewhere z p ≡ false) kept (subst (λ z. elsewhere (recalls b p w).ledger z ≡ false) same here) in
      let tenure : p.tenure ≡ true = sym parts.2 in
      recall_sent p w b (and_not p.tenure (elsewhere w.ledger p) tenure here') h (subst (λ (z : Ledger). find (holds_wanted p) z.live ≡ Some h) kept (subst (λ z. find (holds_wanted z) (recalls b p w).ledger.live ≡ Some h) same f))

  decided_says : (d : Decision) (p : Parked) (w : Work) → y.request ≡ Acquire p.ask p.wants p.tenure → AskedFor p.node p.life p.ask → ((c : CoordNote) (s : Slot) → request_adds y.request c s ≡ []) → G w → Says (decided k d p w)
  unfolding gives
  decided_says Give p w is a none g =
      let h : Lease = lease_for k w.ledger p in
      let new : Grant = grant_of k.empty w.ledger.line h in
      let le : q.last ≤ w.ledger.last = g.grows.last in
      quiet (note.Granted new) (gives k p w) refl (none (note.Granted new)) (onward w (gives k p w) g (gives_grows k q g.change p w))
      ((h, in_right h w.ledger.live (h ∷ []) (inl refl), refl, a, in_right (told.Granted new) w.sends (told.Granted new ∷ []) (inl refl)), omega arith)
  decided_says (Deny why) p w is a none g =
      quiet (note.Denied why) (denies why p w) refl (none (note.Denied why)) (onward w (denies why p w) g (says_grows k q g.change (told.Denied p.node p.life p.ask why) w (no_denial p.node p.life p.ask why)))
      (p.ask, a.2.0, a.2.1, a.2.2, subst (λ (n : NodeId). In (told.Denied n y.life p.ask why) (denies why p w).sends) a.0 (subst (λ (l : Life). In (told.Denied p.node l p.ask why) (denies why p w).sends) a.1 (sent_last (told.Denied p.node p.life p.ask why) w)))
  decided_says Wait p w is a none g =
      let v : Work = recalls (p.tenure && not (elsewhere w.ledger p)) p w in
      let r = onward w v g (recalls_grows k q g.change (p.tenure && not (elsewhere w.ledger p)) p w) in
      let kept : v.ledger.parked ≡ w.ledger.parked = ap (λ (z : Ledger). z.parked) (recalls-same (p.tenure && not (elsewhere w.ledger p)) p w) in
      quiet note.Parked (parks (w.ledger.parked ++ p ∷ []) v) refl (none note.Parked)
      (onward v (parks (w.ledger.parked ++ p ∷ []) v) r (λ f. record { last = f.last; count = f.count; lines = f.lines; lives = f.lives; gone = f.gone; fresh = f.fresh; waits = λ x i. elim (f.waits x i) [ inl still ↦ inl (in_left x w.ledger.parked (p ∷ []) (subst (In x) kept still)) | inr gone ↦ inr gone ] }))
      (p, in_right p w.ledger.parked (p ∷ []) (inl refl), a, parked_recalled p w a.0 a.1 is)

  -- an ask of these three names
  same_ask : (n : NodeId) (l : Life) (a : Ask) (n' : NodeId) (l' : Life) (a' : Ask) → ((eqb n.0 n'.0) && (eqb l.0 l'.0) && (eqb a.0 a'.0)) ≡ true → (n ≡ n') × (l ≡ l') × (a ≡ a')
  same_ask n l a n' l' a' e =
      let b = and_parts ((eqb n.0 n'.0) && (eqb l.0 l'.0)) (eqb a.0 a'.0) e in
      let c = and_parts (eqb n.0 n'.0) (eqb l.0 l'.0) b.0 in
      (node_is n n' (eqb-true n.0 n'.0 c.0), life_is l l' (eqb-true l.0 l'.0 c.1), ask_is a a' (eqb-true a.0 a'.0 b.1))

  asked_too : (p : Parked) (n : NodeId) (l : Life) (a : Ask) → AskedFor p.node p.life p.ask → (n ≡ p.node) × (l ≡ p.life) × (a ≡ p.ask) → AskedFor n l a
  asked_too p n l a asked same = (same.0 ∙ asked.0, same.1 ∙ asked.1, (asked.2.0, asked.2.1, subst (λ z. y.request ≡ Acquire z asked.2.0 asked.2.1) (sym same.2) asked.2.2))

  -- an ask that was parked before isn't new
  parked_before : (p : Parked) (b : Ask) (wants : List Want) → p.node ≡ y.node → p.life ≡ y.life → b ≡ p.ask → is_parked q.parked y.node y.life b ≡ false → (r : Parked) → In r q.parked → ((eqb r.node.0 p.node.0) && (eqb r.life.0 p.life.0) && (eqb r.ask.0 p.ask.0)) ≡ true → ⊥
  parked_before p b wants n l is new r i t =
      let there : is_parked q.parked p.node p.life p.ask ≡ true = any_in (λ (x : Parked). (eqb x.node.0 p.node.0) && (eqb x.life.0 p.life.0) && (eqb x.ask.0 p.ask.0)) r q.parked i t in
      true_false (is_parked q.parked y.node y.life b) (subst (λ z. is_parked q.parked z y.life b ≡ true) n (subst (λ z. is_parked q.parked p.node z b ≡ true) l (subst (λ z. is_parked q.parked p.node p.life z ≡ true) (sym is) there))) new

  acquiring_says : (o : Option Lease) (b : Bool) (p : Parked) (w : Work) → lease_of w.ledger.live p.node p.life p.ask ≡ o → is_parked w.ledger.parked p.node p.life p.ask ≡ b → ((r : Parked) → In r w.ledger.parked → In r q.parked) → y.request ≡ Acquire p.ask p.wants p.tenure → AskedFor p.node p.life p.ask → ((c : CoordNote) (s : Slot) → request_adds y.request c s ≡ []) → G w → Says (acquiring k o b p w)
  acquiring_says (Some h) b p w e i was is a none g =
      let old : Grant = grant_of k.empty w.ledger.line h in
      let r = find_some (is_of p.node p.life p.ask) w.ledger.live h e in
      settle (note.GrantedBefore old) w (says (told.Granted old) w) refl g refl refl
      (λ x j. elim (left w g x j) [ inl still ↦ inl still | inr z ↦ elim z [ inl served ↦ inr (inl (served_more x w.sends (told.Granted old ∷ []) served)) | inr d ↦ inr (inr d) ] ])
      (same_line (note.GrantedBefore old) w (none (note.GrantedBefore old)) g)
      (λ z j. elim (in_append (told.Granted z) w.sends (told.Granted old ∷ []) j) [
        | inl x ↦ inl (g.grows.fresh z x)
        | inr x ↦ (let same : z ≡ old = grant_is z old (in_one (told.Granted z) (told.Granted old) x) in inr (same, (h, r.0, same)))
      ])
      (let le : w.ledger.last ≤ q.last + length w.sends = g.grows.count in let more : length (w.sends ++ told.Granted old ∷ []) ≡ length w.sends + 1 = length_push w.sends (told.Granted old) in omega arith)
      (h, r.0, refl, asked_too p h.node h.life h.ask a (same_ask h.node h.life h.ask p.node p.life p.ask r.1), sent_last (told.Granted old) w)
  acquiring_says None true p w e i was is a none g =
      let r = from_any (λ (x : Parked). (eqb x.node.0 p.node.0) && (eqb x.life.0 p.life.0) && (eqb x.ask.0 p.ask.0)) w.ledger.parked i in
      quiet note.Parked w refl (none note.Parked) g (r.0, r.1, asked_too p r.0.node r.0.life r.0.ask a (same_ask r.0.node r.0.life r.0.ask p.node p.life p.ask r.2), λ b wants asks new here h f. absurd (parked_before p b wants a.0 a.1 (request_is b p.ask wants p.wants true p.tenure (sym asks ∙ is)).0 new r.0 (was r.0 r.1) r.2))
  acquiring_says None false p w e i was is a none g = decided_says (decision k w.ledger p) p w is a none g

  -- ---- Commit

  on_each : (line : Slot → List LineVersion) (t : Ticket) (news : List News) → on_all line t news ≡ true → (x : News) → In x news → (v : LineVersion) × In v (line x.slot) × (v.ticket ≡ t)
  on_each line t [] e x i = absurd i
  on_each line t (z ∷ zs) e x i =
      let b = and_parts (is_some (place_on_line t (line z.slot) 0)) (on_all line t zs) e in
      elim i [
        | inl same ↦ subst (λ (u : News). (v : LineVersion) × In v (line u.slot) × (v.ticket ≡ t)) (sym same) (let r = some_test (place_on_line t (line z.slot) 0) b.0 in
            let s = place_stands t (line z.slot) 0 r.0 r.1 in
            (record { ticket = t; digest = r.0.1 }, get_in (line z.slot) s.0 (record { ticket = t; digest = r.0.1 }) s.2, refl))
        | inr j ↦ on_each line t zs b.1 x j
      ]

  no_commit : (t : Ticket) (news : List News) (r : Request) → r ≡ Commit t news → (c : CoordNote) → ((s : Slot) → commit_adds news c s ≡ []) → (s : Slot) → request_adds r c s ≡ []
  no_commit t news r e c none s = ap (λ x. request_adds x c s) e ∙ none s

  committing_says : (b : Bool) (t : Ticket) (news : List News) (w : Work) → y.request ≡ Commit t news → G w → Says (committing k b y.node y.life t news w)
  committing_says true t news w e g =
      let c : Work = commits t news w in
      let vs : List Confirmed = versions_of c.ledger.line t news in
      let m : FromCoord = told.Committed y.node y.life t vs in
      let more : Change q = record { tickets = 0; line = λ s. g.change.line s ++ version_of t (digest_for s news); lives = g.change.lives; gone = g.change.gone; drops = g.change.drops } in
      let once : Grows q more c = record { last = g.grows.last; count = g.grows.count; lines = λ i. λ s. g.grows.lines i s ++ version_of t (digest_for s news); lives = g.grows.lives; gone = g.grows.gone; fresh = g.grows.fresh; waits = g.grows.waits } in
      let all : Grows q more (retried k (confirms y.node y.life t news c)) = retried_grows k q more (confirms y.node y.life t news c) (says_grows k q more m c (no_confirmation y.node y.life t vs) once) in
      record {
        grew = record {
          count = (let le : (retried k (confirms y.node y.life t news c)).ledger.last ≤ q.last + length (retried k (confirms y.node y.life t news c)).sends = all.count in omega arith);
          lines = λ s. ap (λ (f : Slot → List LineVersion). f s) all.lines ∙ ap (λ (f : Slot → List LineVersion). f s ++ version_of t (digest_for s news)) g.line ∙ ap (λ r. q.line s ++ request_adds r (note.Committed t) s) (sym e);
          lives = λ n. ap (λ (f : ℕ → ℕ). f n) all.lives ∙ g.lives n;
          gone = λ n. ap (λ (f : ℕ → Bool). f n) (all.gone ∙ g.gone);
          grants = λ h i. inl (all.fresh h i);
          waits = λ p i. elim (all.waits p i) [ inl still ↦ inl still | inr x ↦ elim x [ inl served ↦ inr (inl served) | inr d ↦ inr (inr (g.drops p d)) ] ];
        };
        says = (news, e, (vs, retried_sent k q (confirms y.node y.life t news c) m (sent_last m c), versions_all c.ledger.line t news (λ x i. committed_place w.ledger.line t news x i)));
      }
  committing_says false t news w e g = by (not (is_nil news) && on_all w.ledger.line t news) refl
    where
      by : (b : Bool) → (not (is_nil news) && on_all w.ledger.line t news) ≡ b → Says (ledger.answered b y.node y.life t news w)
      by true f =
          let both = and_parts (not (is_nil news)) (on_all w.ledger.line t news) f in
          let vs : List Confirmed = versions_of w.ledger.line t news in
          let m : FromCoord = told.Committed y.node y.life t vs in
          quiet (note.CommittedBefore t) (says m w) refl (no_commit t news y.request e (note.CommittedBefore t) (λ s. refl)) (onward w (says m w) g (says_grows k q g.change m w (no_confirmation y.node y.life t vs)))
          (news, e, (is_nil_is news (not-true (is_nil news) both.0), on_each w.ledger.line t news both.1), (vs, sent_last m w, versions_all w.ledger.line t news (on_all_in w.ledger.line t news both.1)))
      by false f =
          let m : FromCoord = told.Fenced y.node y.life t in
          quiet (note.Fenced t) (says m w) refl (no_commit t news y.request e (note.Fenced t) (λ s. refl)) (onward w (says m w) g (says_grows k q g.change m w (no_fence y.node y.life t))) (news, e, sent_last m w)

  -- ---- the whole message

  abbrev Quiet : Request → Type 0
  Quiet r = (c : CoordNote) (s : Slot) → request_adds r c s ≡ []

  -- work that has told nothing
  nothing_says : (w : Work) → w.note ≡ note.Nothing → Quiet y.request → G w → NoteSays w note.Nothing → Says w
  nothing_says w e none g says = subst Says (λ i. notes (sym e i) w) (quiet note.Nothing w refl (none note.Nothing) g says)

  released_says : (b : Bool) (t : Ticket) (o : Option Lease) (w : Work) → y.request ≡ Release t → lease_under w.ledger.live t ≡ o → may_release y.node y.life o ≡ b → w.note ≡ note.Nothing → G w → Says (released k b t o w)
  released_says b t None w e is may quiet' g = nothing_says w quiet' (λ c s. ap (λ r. request_adds r c s) e) g (inr (t, e, inl is))
  released_says false t (Some h) w e is may quiet' g = nothing_says w quiet' (λ c s. ap (λ r. request_adds r c s) e) g (inr (t, e, inr (let f = find_some (ledger.has_ticket t) w.ledger.live h is in (h, f.0, eqb-true h.ticket.0 t.0 f.1, may))))
  released_says true t (Some h) w e is may quiet' g =
      quiet (note.Released t) (retried k (ends h w)) refl (λ s. ap (λ r. request_adds r (note.Released t) s) e)
      (onward w (retried k (ends h w)) g (λ f. retried_grows k q g.change (ends h w) (record { last = f.last; count = f.count; lines = f.lines; lives = f.lives; gone = f.gone; fresh = f.fresh; waits = f.waits }))) e

  answering_says : (r : Request) (w : Work) → ((r : Parked) → In r w.ledger.parked → In r q.parked) → y.request ≡ r → w.note ≡ note.Nothing → G w → Says (answering k y.node y.life r w)
  answering_says Hello w was e quiet' g = nothing_says w quiet' (λ c s. ap (λ r. request_adds r c s) e) g (inl e)
  answering_says (Acquire a wants tenure) w was e quiet' g =
      let p : Parked = record { node = y.node; life = y.life; ask = a; wants = wants; tenure = tenure } in
      acquiring_says (lease_of w.ledger.live y.node y.life a) (is_parked w.ledger.parked y.node y.life a) p w refl refl was e (refl, refl, (wants, tenure, e)) (λ c s. ap (λ r. request_adds r c s) e) g
  answering_says (Commit t news) w was e quiet' g = committing_says (may_commit y.node y.life news (lease_under w.ledger.live t)) t news w e g
  answering_says (Release t) w was e quiet' g = released_says (may_release y.node y.life (lease_under w.ledger.live t)) t (lease_under w.ledger.live t) w e refl refl quiet' g

  commit_quiet : (r : Request) (c : CoordNote) → ((news : List News) (s : Slot) → commit_adds news c s ≡ []) → (s : Slot) → request_adds r c s ≡ []
  commit_quiet Hello c none s = refl
  commit_quiet (Acquire a wants tenure) c none s = refl
  commit_quiet (Commit t news) c none s = none news s
  commit_quiet (Release t) c none s = refl

  -- what a message changes that is not heard
  unheard : (c : CoordNote) → heard_lives y c q.lives ≡ q.lives → ((s : Slot) → request_adds y.request c s ≡ []) → NoteSays (notes c (begin_work q)) c → Says (notes c (begin_work q))
  unheard c lives none says = record {
    grew = record { count = omega arith; lines = λ s. sym (append-nil (q.line s)) ∙ ap (λ l. q.line s ++ l) (sym (none s)); lives = λ n. ap (λ (f : ℕ → ℕ). f n) (sym lives); gone = λ n. refl; grants = λ g i. absurd i; waits = λ p i. inl i };
    says = says;
  }

  lt : (a b : ℕ) → nat_lt a b ≡ true → a < b
  lt a b h = grind (arith, nat_tests)

  equal : (a b : ℕ) → nat_lt a b ≡ false → nat_lt b a ≡ false → b ≡ a
  equal a b h g = grind (arith, nat_tests)

  -- the life is the greatest already
  heard_before : nat_lt y.life.0 (q.lives y.node.0) ≡ false → nat_lt (q.lives y.node.0) y.life.0 ≡ false → (n : ℕ) → q.lives n ≡ Heard n
  heard_before old new n = elim (cases_eq n y.node.0) [
    | inl e ↦ ap q.lives e ∙ equal y.life.0 (q.lives y.node.0) old new ∙ sym (ap Heard e ∙ put_same y.node.0 y.life.0 q.lives)
    | inr ne ↦ sym (put_other y.node.0 y.life.0 q.lives n ne)
  ]

  pub handled_says : (newer_life k y.node y.life (begin_work q)).note ≡ note.Nothing → Says (handled k y (begin_work q))
  unfolding handled
  handled_says newer-note = elim (cases_Bool (q.gone y.node.0)) [
    | inl t ↦ rw t (unheard note.NodeRetired refl (commit_quiet y.request note.NodeRetired (λ news s. refl)) (t, refl))
    | inr here ↦ rw here (elim (cases_Bool (nat_lt y.life.0 (q.lives y.node.0))) [
      | inl t ↦ rw t (unheard note.OldLife refl (commit_quiet y.request note.OldLife (λ news s. refl)) (here, lt y.life.0 (q.lives y.node.0) t, refl))
      | inr t ↦ rw t (elim (cases_Bool (nat_lt (q.lives y.node.0) y.life.0)) [
        | inl newer ↦ rw newer (answering_says y.request (newer_life k y.node y.life (begin_work q)) (newer_was k y.node y.life (begin_work q)) refl newer-note
            (record { change = Seen k q y.node y.life; grows = newer_grows k q y.node y.life; line = refl; lives = λ n. refl; gone = refl; drops = λ p d. d }))
        | inr current ↦ rw current (answering_says y.request (begin_work q) (λ r i. i) refl refl (record { change = same q; grows = begins q; line = refl; lives = heard_before t current; gone = refl; drops = λ p d. absurd d }))
      ])
    ])
  ]

-- ---- calls

-- what a call changes of a ledger: nothing but what is named
abbrev pub pruning : Limits → (q : Ledger) → Slot → CoordNote → Change q
pruning k q s c = record { tickets = 1; line = λ x. q.line x ++ prune_adds k.empty s (event.Coord c) x; lives = q.lives; gone = q.gone; drops = λ p. ⊥ }

abbrev pub retiring : (q : Ledger) → NodeId → Change q
retiring q n = record { tickets = 0; line = q.line; lives = q.lives; gone = put n.0 true q.gone; drops = λ p. p.node ≡ n }

module _ (k : Limits) (q : Ledger) where
  abbrev pub GrewOk : (CoordNote → Change q) → Result Work CoordRefusal → Type 0
  GrewOk c (Ok w) = Grew k q (c w.note) w
  GrewOk c (Err e) = ⊤

  grew_if : (b : Bool) (c : CoordNote → Change q) (e : CoordRefusal) (r : Result Work CoordRefusal) → GrewOk c r → GrewOk c (if b then Err e else r)
  grew_if true c e r h = tt
  grew_if false c e r h = h

  withdrawing_grew : (o : Option Lease) → GrewOk (λ c. same q) (withdrawing k o (begin_work q))
  withdrawing_grew None = tt
  withdrawing_grew (Some h) = grew_if h.tenure (λ c. same q) refusal.Tenure (Ok (notes (note.Withdrawn h.ticket) (retried k (withdraws h (begin_work q)))))
      (grew k q (same q) (note.Withdrawn h.ticket) (retried k (withdraws h (begin_work q))) (retried_grows k q (same q) (withdraws h (begin_work q)) (record { last = omega arith; count = omega arith; lines = refl; lives = refl; gone = refl; fresh = λ g i. absurd i; waits = λ p i. inl i })))

  pub withdrawn_grew : (t : Ticket) → GrewOk (λ c. same q) (withdrawn k t (begin_work q))
  withdrawn_grew t = withdrawing_grew (lease_under q.live t)

  pub retired_grew : (n : NodeId) → GrewOk (λ c. retiring q n) (retired k n (begin_work q))
  retired_grew n = grew_if (q.gone n.0) (λ c. retiring q n) refusal.NodeRetired _ (grew_if (list_any (λ (g : Lease). is_at n g && g.tenure) q.live || is_home n q.old_home) (λ c. retiring q n) refusal.TenureHeld _ (by (list_any (is_at n) q.live)))
    where
      gone' : Grows q (retiring q n) (goes n (begin_work q))
      gone' = record {
        last = omega arith;
        count = omega arith;
        lines = refl;
        lives = refl;
        gone = refl;
        fresh = λ g i. absurd i;
        waits = λ p i. elim (cases_Bool (eqb p.node.0 n.0)) [
          | inl t ↦ inr (inr (node_is p.node n (eqb-true p.node.0 n.0 t)))
          | inr t ↦ inl (in_filter (λ (x : Parked). not (eqb x.node.0 n.0)) p q.parked i (ap not t))
        ];
      }

      by : (b : Bool) → Grew k q (retiring q n) (notes (note.Retired n) (if b then retried k (goes n (begin_work q)) else goes n (begin_work q)))
      by true = grew k q (retiring q n) (note.Retired n) (retried k (goes n (begin_work q))) (retried_grows k q (retiring q n) (goes n (begin_work q)) gone')
      by false = grew k q (retiring q n) (note.Retired n) (goes n (begin_work q)) gone'

  pub pruned_grew : (s : Slot) → GrewOk (pruning k q s) (pruned k s (begin_work q))
  pruned_grew s = grew_if (is_leased q s) (pruning k q s) refusal.SlotLeased _ (grew_if (is_nil (q.line s)) (pruning k q s) refusal.NoSuchSlot _ (by (nat_lt q.last k.greatest)))
    where
      by : (b : Bool) → GrewOk (pruning k q s) (if b then Ok (notes (note.Pruned (record { 0 = q.last + 1 })) (prunes k s (begin_work q))) else Err refusal.TicketsSpent)
      by true = record {
        count = omega arith;
        lines = λ x. elim (cases_Bool (slot_eq s x)) [ inl e ↦ rw e refl | inr e ↦ rw e (sym (append-nil (q.line x))) ];
        lives = λ n. refl;
        gone = λ n. refl;
        grants = λ g i. absurd i;
        waits = λ p i. inl i;
      }
      by false = tt

  -- ---- nudges

  record Nudges (w : Work) : Type 0 where
    pub ledger : w.ledger ≡ q
    pub grants : (g : Grant) → In (told.Granted g) w.sends → (h : Lease) × In h q.live × (g ≡ grant_of k.empty q.line h)

  nudges_sent : (h : Lease) (w : Work) (m : FromCoord) → In m w.sends → In m (nudges k h w).sends
  nudges_sent h w m i = elim (cases_Bool (is_awaited w.ledger.parked h)) [
    | inl t ↦ rw t (in_left m _ _ (in_left m w.sends _ i))
    | inr t ↦ rw t (in_left m w.sends _ i)
  ]

  nudges_grant : (h : Lease) (w : Work) → In (told.Granted (grant_of k.empty w.ledger.line h)) (nudges k h w).sends
  nudges_grant h w = elim (cases_Bool (is_awaited w.ledger.parked h)) [
    | inl t ↦ rw t (in_left (told.Granted (grant_of k.empty w.ledger.line h)) _ _ (in_right (told.Granted (grant_of k.empty w.ledger.line h)) w.sends _ (inl refl)))
    | inr t ↦ rw t (in_right (told.Granted (grant_of k.empty w.ledger.line h)) w.sends _ (inl refl))
  ]

  all_sent : (hs : List Lease) (w : Work) (m : FromCoord) → In m w.sends → In m (nudge_all k hs w).sends
  all_sent [] w m i = i
  all_sent (h ∷ hs) w m i = all_sent hs (nudges k h w) m (nudges_sent h w m i)

  nudges_one : (h : Lease) (w : Work) → In h q.live → Nudges w → Nudges (nudges k h w)
  nudges_one h w i n = elim (cases_Bool (is_awaited w.ledger.parked h)) [
    | inl t ↦ rw t (record {
      ledger = n.ledger;
      grants = λ g j. elim (in_append (told.Granted g) (w.sends ++ told.Granted (grant_of k.empty w.ledger.line h) ∷ []) (told.Recall h.node h.life h.ticket ∷ []) j) [
        | inl x ↦ once g x
        | inr x ↦ absurd (no_recall h.node h.life h.ticket g (in_one (told.Granted g) (told.Recall h.node h.life h.ticket) x))
      ];
    })
    | inr t ↦ rw t (record { ledger = n.ledger; grants = once })
  ]
    where
      once : (g : Grant) → In (told.Granted g) (w.sends ++ told.Granted (grant_of k.empty w.ledger.line h) ∷ []) → (x : Lease) × In x q.live × (g ≡ grant_of k.empty q.line x)
      once g j = elim (in_append (told.Granted g) w.sends (told.Granted (grant_of k.empty w.ledger.line h) ∷ []) j) [
        | inl x ↦ n.grants g x
        | inr x ↦ (h, i, grant_is g (grant_of k.empty w.ledger.line h) (in_one (told.Granted g) (told.Granted (grant_of k.empty w.ledger.line h)) x) ∙ ap (λ (z : Ledger). grant_of k.empty z.line h) n.ledger)
      ]

  nudges_all : (hs : List Lease) (w : Work) → ((h : Lease) → In h hs → In h q.live) → Nudges w → Nudges (nudge_all k hs w)
  nudges_all [] w all n = n
  nudges_all (h ∷ hs) w all n = nudges_all hs (nudges k h w) (λ x i. all x (inr i)) (nudges_one h w (all h (inl refl)) n)

  every_lease : (hs : List Lease) (w : Work) → ((h : Lease) → In h hs → In h q.live) → Nudges w → (h : Lease) → In h hs → In (told.Granted (grant_of k.empty q.line h)) (nudge_all k hs w).sends
  every_lease [] w all n h i = absurd i
  every_lease (x ∷ hs) w all n h (inl e) = all_sent hs (nudges k x w) _ (subst (λ (z : Ledger). In (told.Granted (grant_of k.empty z.line h)) (nudges k x w).sends) n.ledger (subst (λ (z : Lease). In (told.Granted (grant_of k.empty w.ledger.line z)) (nudges k x w).sends) (sym e) (nudges_grant x w)))
  every_lease (x ∷ hs) w all n h (inr i) = every_lease hs (nudges k x w) (λ z j. all z (inr j)) (nudges_one x w (all x (inl refl)) n) h i

  nudges_recall : (h : Lease) (w : Work) → is_awaited w.ledger.parked h ≡ true → In (told.Recall h.node h.life h.ticket) (nudges k h w).sends
  nudges_recall h w t = rw t (in_right _ (w.sends ++ told.Granted (grant_of k.empty w.ledger.line h) ∷ []) _ (inl refl))

  every_recall : (hs : List Lease) (w : Work) → ((h : Lease) → In h hs → In h q.live) → Nudges w → (h : Lease) → In h hs → is_awaited q.parked h ≡ true → In (told.Recall h.node h.life h.ticket) (nudge_all k hs w).sends
  every_recall [] w all n h i t = absurd i
  every_recall (x ∷ hs) w all n h (inl e) t = all_sent hs (nudges k x w) _ (subst (λ (z : Lease). In (told.Recall z.node z.life z.ticket) (nudges k x w).sends) (sym e) (nudges_recall x w (subst (λ (z : Ledger). is_awaited z.parked x ≡ true) (sym n.ledger) (subst (λ z. is_awaited q.parked z ≡ true) e t))))
  every_recall (x ∷ hs) w all n h (inr i) t = every_recall hs (nudges k x w) (λ z j. all z (inr j)) (nudges_one x w (all x (inl refl)) n) h i t

  none_yet : Nudges (begin_work q)
  none_yet = record { ledger = refl; grants = λ g i. absurd i }

  -- the Grant of each lease is sent
  pub nudged_sends : (h : Lease) → In h q.live → In (told.Granted (grant_of k.empty q.line h)) (nudged k (begin_work q)).sends
  nudged_sends h i = every_lease q.live (begin_work q) (λ h i. i) none_yet h i

  -- and each tenure that is waited for is recalled
  pub nudged_recalls : (h : Lease) → In h q.live → is_awaited q.parked h ≡ true → In (told.Recall h.node h.life h.ticket) (nudged k (begin_work q)).sends
  nudged_recalls h i t = every_recall q.live (begin_work q) (λ h i. i) none_yet h i t

  pub nudged_grew : Grew k q (same q) (nudged k (begin_work q))
  nudged_grew =
      let w : Work = nudge_all k q.live (begin_work q) in
      let n = nudges_all q.live (begin_work q) (λ h i. i) none_yet in
      record {
        count = (let same : w.ledger.last ≡ q.last = ap (λ (z : Ledger). z.last) n.ledger in omega arith);
        lines = λ s. ap (λ (z : Ledger). z.line s) n.ledger;
        lives = λ j. ap (λ (z : Ledger). z.lives j) n.ledger;
        gone = λ j. ap (λ (z : Ledger). z.gone j) n.ledger;
        grants = λ g i. (let r = n.grants g i in inr (tt, (r.0, subst (λ (z : Ledger). In r.0 z.live) (sym n.ledger) r.1, r.2 ∙ ap (λ (z : Ledger). grant_of k.empty z.line r.0) (sym n.ledger))));
        waits = λ p i. inl (subst (λ (z : Ledger). In p z.parked) (sym n.ledger) i);
      }
