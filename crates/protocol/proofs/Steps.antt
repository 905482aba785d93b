-- What each step of the machine keeps.
use Rattle.std.proofs.Common.{◌≡◌, ◌≢◌, ℕ, ◌+◌, ◌<◌, ◌≤◌, List, [], ◌∷◌, ◌++◌, ◌⊎◌, Bool, true, false, not, ◌||◌, length, Option, Some, None, slice_get, refl, sym, ◌∙◌, ap, subst, inl, inr, arith, append-nil}
use Rattle.std.proofs.lemmas.Bool.{not-true, cases_order, cases_eq, cases_Bool}
use Rattle.farm_base.specs.Kinds.{is_tenure}
use Rattle.protocol.specs.Lists.{In, IsFrontOf, put}
use Rattle.protocol.specs.Names.{Mode, Shared, Private, Locked, Slot, slot_eq, is_private, is_shared, is_alone, wants_shared, Digest, NodeId, Ticket, Want, leased_wants}
use Rattle.protocol.specs.Machine.{GrantedSlot, Grant, LineVersion, Ending, Committed, Released, Withdrawn, Died, Made, Granted, Pruned, ticket_of, Message, Machine, Has, Live, Leased, Free, version_at, added, line, Names, Based, AnswersAsk, want_of, MayEnd, Parked, Step, Grants, Ends, Prunes, Sees, Retires, Parks, Unparks, Raises}
use Rattle.protocol.proofs.Base.{cases_option, true_false, put_same, put_other, slot_eq_is, front_refl, front_trans, front_get, get_in, get_push_cases, in_map, from_filter}
use Rattle.protocol.proofs.Lines.{Below, below_in, below_more, one_grant, granted_is, Gone, Apart, Extends, apart_later, apart_pair, Lawful, AllLawful, adds_cases, line-end, line_source, version_cases, added_cases_one, added_ticket}

no_element : {P : Type 0} (v : LineVersion) → (v ∷ [] ≡ []) → P
no_element v e = cc

lawful_from : (pool : List Message) (m : Machine) (g : Grant) (y : Ending) → MayEnd pool m g y → Lawful g y
lawful_from pool m g (Committed news) may = may.1
lawful_from pool m g Released may = tt
lawful_from pool m g Withdrawn may = may
lawful_from pool m g Died may = tt

-- what a version of a line says of its grant
abbrev pub Placed : Machine → Slot → ℕ → LineVersion → Type 0
Placed m s j v = (g : Grant) → In (Granted g) m.made → g.ticket.0 ≡ v.ticket.0 → (u : GrantedSlot) × In u g.slots × (u.slot ≡ s) × (u.base ≡ j)

pub record Sound (empty : Digest) (m : Machine) : Type 0 where
  pub order : Below m.made (m.last + 1)
  pub apart : Apart m.ending m.made
  pub laws : AllLawful m.ending m.made
  pub ended : (t : ℕ) (y : Ending) → m.ending t ≡ Some y → (g : Grant) × In (Granted g) m.made × (g.ticket.0 ≡ t)
  pub based : (g : Grant) (u : GrantedSlot) → Live m g → In u g.slots → u.base ≡ length (line empty m u.slot)
  pub named : (g : Grant) (u : GrantedSlot) → In (Granted g) m.made → In u g.slots → Names empty (line empty m u.slot) u.base u.digest
  pub placed : (s : Slot) (j : ℕ) (v : LineVersion) → slice_get (line empty m s) j ≡ Some v → Placed m s j v
  -- a grant of a SHARED slot is a tenure
  pub tenures : (g : Grant) (s : Slot) → In (Granted g) m.made → Has g s → is_shared s.folder.mode ≡ true → is_tenure g.kind ≡ true

-- what stays once it is so
pub record Later (empty : Digest) (m m' : Machine) : Type 0 where
  pub made : (x : Made) → In x m.made → In x m'.made
  pub ending : Extends m.ending m'.ending
  pub lines : (s : Slot) → IsFrontOf (line empty m s) (line empty m' s)
  pub last : m.last ≤ m'.last

pub later_refl : (empty : Digest) (m : Machine) → Later empty m m
later_refl empty m = record { made = λ x i. i; ending = λ t y e. e; lines = λ s. front_refl (line empty m s); last = omega arith }

pub later_trans : (empty : Digest) (a b c : Machine) → Later empty a b → Later empty b c → Later empty a c
later_trans empty a b c p q = record {
  made = λ x i. q.made x (p.made x i);
  ending = λ t y e. q.ending t y (p.ending t y e);
  lines = λ s. front_trans (line empty a s) (line empty b s) (line empty c s) (p.lines s) (q.lines s);
  last = (let x : a.last ≤ b.last = p.last in let y : b.last ≤ c.last = q.last in omega arith);
}

pub names_later : (empty : Digest) (xs ys : List LineVersion) (k : ℕ) (d : Digest) → IsFrontOf xs ys → Names empty xs k d → Names empty ys k d
names_later empty xs ys k d f (inl h) = inl h
names_later empty xs ys k d f (inr h) = inr (h.0, h.1, h.2, front_get xs ys h.0 h.1 f h.3, h.4)

-- the slots of a grant by its kind
leased_shared : (tenure : Bool) (wants : List Want) (w : Want) → In w (leased_wants tenure wants) → wants_shared w ≡ true → tenure ≡ true
leased_shared true wants w i h = refl
leased_shared false wants w i h = (let r = from_filter (λ v. not (wants_shared v)) w wants i in true_false (wants_shared w) h (not-true (wants_shared w) r.1))

pub answers_tenure : (g : Grant) (wants : List Want) (s : Slot) → AnswersAsk g wants → Has g s → is_shared s.folder.mode ≡ true → is_tenure g.kind ≡ true
answers_tenure g wants s answers has h =
    let i : In (want_of has.0) (leased_wants (is_tenure g.kind) wants) = subst (In (want_of has.0)) answers.slots (in_map want_of has.0 g.slots has.1) in
    leased_shared (is_tenure g.kind) wants (want_of has.0) i (subst (λ (z : Slot). is_shared z.folder.mode ≡ true) (sym has.2) h)

-- a slot of its own is PRIVATE or SHARED
pub alone_cases : (s : Slot) → is_alone s ≡ true → (is_private s.folder.mode ≡ true) ⊎ (is_shared s.folder.mode ≡ true)
alone_cases s h = by_mode s.folder.mode h
  where
    by_mode : (m : Mode) → (is_private m || is_shared m) ≡ true → (is_private m ≡ true) ⊎ (is_shared m ≡ true)
    by_mode Shared h = inr refl
    by_mode Private h = inl refl
    by_mode Locked h = (let bad : false ≡ true = h in cc)

module _ (empty : Digest) (m : Machine) (sound : Sound empty m) where
  pub made_below : (x : Made) → In x m.made → ticket_of x ≤ m.last
  made_below x i = let lt : ticket_of x < m.last + 1 = below_in m.made (m.last + 1) x sound.order i in omega arith

  -- a ticket above the last has no ending
  pub fresh : (t : ℕ) → m.last < t → m.ending t ≡ None
  fresh t lt =
      elim (cases_option (m.ending t)) [
        | inl n ↦ n
        | inr y ↦ (let r = sound.ended t y.0 y.1 in
            let le : ticket_of (Granted r.0) ≤ m.last = made_below (Granted r.0) r.1 in
            let le' : r.0.ticket.0 ≤ m.last = le in
            let e : r.0.ticket.0 ≡ t = r.2 in
            absurd (omega arith))
      ]

  -- a version's ticket was made
  pub line_made : (s : Slot) (j : ℕ) (v : LineVersion) → slice_get (line empty m s) j ≡ Some v → (x : Made) × In x m.made × (v.ticket.0 ≡ ticket_of x) × In v (added empty s m.ending x)
  line_made s j v h =
      let r = line_source empty s m.ending v m.made (get_in (line empty m s) j v h) in
      (r.0, r.1, added_ticket empty s m.ending r.0 v r.2, r.2)

  pub same_grant : (g g' : Grant) → In (Granted g) m.made → In (Granted g') m.made → g.ticket.0 ≡ g'.ticket.0 → g ≡ g'
  same_grant g g' i i' e = one_grant m.made (m.last + 1) g g' sound.order i i' e

  -- of two grants that share a slot the older one has ended
  pub older_gone : (g g' : Grant) (s : Slot) → In (Granted g) m.made → In (Granted g') m.made → g.ticket.0 < g'.ticket.0 → Has g s → Has g' s → Gone m.ending (Granted g') s g
  older_gone g g' s i i' lt k k' = apart_pair m.ending m.made (m.last + 1) g g' s sound.order sound.apart i i' lt k k'

  -- two live grants share no slot
  pub live_apart : (g g' : Grant) (s : Slot) → Live m g → Live m g' → Has g s → Has g' s → g ≡ g'
  live_apart g g' s l l' k k' = elim (cases_order g.ticket.0 g'.ticket.0) [
    | inl e ↦ same_grant g g' l.0 l'.0 e
    | inr o ↦ elim o [
      | inl lt ↦ (let gone = older_gone g g' s l.0 l'.0 lt k k' in let bad : Some gone.0 ≡ None = sym gone.1 ∙ l.1 in cc)
      | inr gt ↦ (let gone = older_gone g' g s l'.0 l.0 gt k' k in let bad : Some gone.0 ≡ None = sym gone.1 ∙ l'.1 in cc)
    ]
  ]

module _ (empty : Digest) (m : Machine) (sound : Sound empty m) (g : Grant) (newer : m.last < g.ticket.0)
    (free : (u : GrantedSlot) → In u g.slots → Free m u.slot × Based empty m u)
    (tenure : (s : Slot) → Has g s → is_shared s.folder.mode ≡ true → is_tenure g.kind ≡ true) where
  abbrev after_grant : Machine
  after_grant = record m { made = Granted g ∷ m.made; last = g.ticket.0 }

  grant_line : (s : Slot) → line empty after_grant s ≡ line empty m s
  grant_line s = ap (λ o. line empty m s ++ version_at s g.ticket o) (fresh empty m sound g.ticket.0 newer) ∙ append-nil (line empty m s)

  -- a grant of a SHARED slot never ended Withdrawn
  tenure_kept : (g' : Grant) (s : Slot) (y : Ending) → In (Granted g') m.made → Has g' s → m.ending g'.ticket.0 ≡ Some y → is_shared s.folder.mode ≡ true → y ≢ Withdrawn
  tenure_kept g' s y i k e h w =
      let law : is_tenure g'.kind ≡ false = subst (Lawful g') w (sound.laws g' y i e) in
      true_false (is_tenure g'.kind) (sound.tenures g' s i k h) law

  grant_gone : (g' : Grant) (s : Slot) → In (Granted g') m.made → Has g s → Has g' s → Gone m.ending (Granted g) s g'
  grant_gone g' s i k k' =
      let f : Free m s = subst (Free m) k.2 (free k.0 k.1).0 in
      elim (cases_option (m.ending g'.ticket.0)) [
        | inl n ↦ absurd (f.0 (g', (i, n), k'))
        | inr y ↦ (
          y.0,
          y.1,
          λ p q w. elim (alone_cases s q) [
            | inl private ↦ f.1 (private, (g', i, y.1 ∙ ap Some w, k'))
            | inr shared ↦ tenure_kept g' s y.0 i k' y.1 shared w
          ],
        )
      ]

  grant_later : Later empty m after_grant
  grant_later = record {
    made = λ x i. inr i;
    ending = λ t y e. e;
    lines = λ s. subst (IsFrontOf (line empty m s)) (sym (grant_line s)) (front_refl (line empty m s));
    last = omega arith;
  }

  grant_placed : (s : Slot) (j : ℕ) (v : LineVersion) → slice_get (line empty m s) j ≡ Some v → Placed after_grant s j v
  grant_placed s j v h g' (inl p) e =
      let r = line_made empty m sound s j v h in
      let le : ticket_of r.0 ≤ m.last = made_below empty m sound r.0 r.1 in
      let same : g'.ticket.0 ≡ g.ticket.0 = ap ticket_of p in
      let at : v.ticket.0 ≡ ticket_of r.0 = r.2 in
      absurd (omega arith)
  grant_placed s j v h g' (inr i) e = sound.placed s j v h g' i e

  grant_sound : Sound empty after_grant
  grant_sound = record {
    order = (omega arith, below_more m.made (m.last + 1) g.ticket.0 sound.order (omega arith));
    apart = (grant_gone, sound.apart);
    laws = λ g' y i e. elim i [
      | inl p ↦ (let same : g'.ticket.0 ≡ g.ticket.0 = ap ticket_of p in
          let bad : Some y ≡ None = sym e ∙ ap m.ending same ∙ fresh empty m sound g.ticket.0 newer in cc)
      | inr k ↦ sound.laws g' y k e
    ];
    ended = λ t y e. (let r = sound.ended t y e in (r.0, inr r.1, r.2));
    based = λ g' u l i. rw (grant_line u.slot) (elim l.0 [
      | inl p ↦ (let q : g' ≡ g = granted_is g' g p in (free u (subst (λ (z : Grant). In u z.slots) q i)).1.0)
      | inr k ↦ sound.based g' u (k, l.1) i
    ]);
    named = λ g' u k i. rw (grant_line u.slot) (elim k [
      | inl p ↦ (let q : g' ≡ g = granted_is g' g p in (free u (subst (λ (z : Grant). In u z.slots) q i)).1.1)
      | inr k ↦ sound.named g' u k i
    ]);
    placed = λ s j v h. grant_placed s j v (subst (λ l. slice_get l j ≡ Some v) (grant_line s) h);
    tenures = λ g' s k has h. elim k [
      | inl p ↦ (let q : g' ≡ g = granted_is g' g p in subst (λ (z : Grant). is_tenure z.kind ≡ true) (sym q) (tenure s (subst (λ (z : Grant). Has z s) q has) h))
      | inr i ↦ sound.tenures g' s i has h
    ];
  }

module _ (empty : Digest) (pool : List Message) (m : Machine) (sound : Sound empty m) (g : Grant) (y : Ending) (live : Live m g) (may : MayEnd pool m g y) where
  abbrev after_end : Machine
  after_end = record m { ending = put g.ticket.0 (Some y) m.ending }

  law : Lawful g y
  law = lawful_from pool m g y may

  end_line : (s : Slot) → line empty after_end s ≡ line empty m s ++ version_at s g.ticket (Some y)
  end_line s = line-end empty s m.ending g y m.made (m.last + 1) sound.order sound.apart sound.laws law live.1 live.0

  end_extends : Extends m.ending after_end.ending
  end_extends t z e = elim (cases_eq t g.ticket.0) [
    | inl q ↦ (let bad : Some z ≡ None = sym e ∙ ap m.ending q ∙ live.1 in cc)
    | inr ne ↦ put_other g.ticket.0 (Some y) m.ending t ne ∙ e
  ]

  end_later : Later empty m after_end
  end_later = record {
    made = λ x i. i;
    ending = end_extends;
    lines = λ s. (version_at s g.ticket (Some y), end_line s);
    last = omega arith;
  }

  -- how a ticket ended after this step
  end_cases : (t : ℕ) (z : Ending) → after_end.ending t ≡ Some z → ((t ≡ g.ticket.0) × (z ≡ y)) ⊎ (m.ending t ≡ Some z)
  end_cases t z e = elim (cases_eq t g.ticket.0) [
    | inl q ↦ inl (q, (let same : Some z ≡ Some y = sym e ∙ ap after_end.ending q ∙ put_same g.ticket.0 (Some y) m.ending in cc))
    | inr ne ↦ inr (sym (put_other g.ticket.0 (Some y) m.ending t ne) ∙ e)
  ]

  end_live : (g' : Grant) → Live after_end g' → Live m g' × (g ≡ g' → ⊥)
  end_live g' l = elim (cases_eq g'.ticket.0 g.ticket.0) [
    | inl q ↦ (let bad : Some y ≡ None = sym (put_same g.ticket.0 (Some y) m.ending) ∙ ap after_end.ending (sym q) ∙ l.1 in cc)
    | inr ne ↦ ((l.0, sym (put_other g.ticket.0 (Some y) m.ending g'.ticket.0 ne) ∙ l.1), λ p. ne (ap (λ (z : Grant). z.ticket.0) (sym p)))
  ]

  end_based : (g' : Grant) (u : GrantedSlot) → Live after_end g' → In u g'.slots → u.base ≡ length (line empty after_end u.slot)
  end_based g' u l i =
      let was = end_live g' l in
      let before : u.base ≡ length (line empty m u.slot) = sound.based g' u was.0 i in
      elim (adds_cases u.slot g y law) [
        | inl q ↦ before ∙ ap length (sym (end_line u.slot ∙ ap (λ v. line empty m u.slot ++ v) q ∙ append-nil (line empty m u.slot)))
        | inr k ↦ absurd (was.1 (live_apart empty m sound g g' u.slot live was.0 k (u, i, refl)))
      ]

  end_placed : (s : Slot) (j : ℕ) (v : LineVersion) → slice_get (line empty m s ++ version_at s g.ticket (Some y)) j ≡ Some v → Placed m s j v
  end_placed s j v h = elim (version_cases empty s g.ticket (Some y)) [
    | inl q ↦ sound.placed s j v (subst (λ l. slice_get l j ≡ Some v) (ap (λ w. line empty m s ++ w) q ∙ append-nil (line empty m s)) h)
    | inr d ↦ elim (get_push_cases (line empty m s) (record { ticket = g.ticket; digest = d.0 }) j v (subst (λ w. slice_get (line empty m s ++ w) j ≡ Some v) d.1 h)) [
      | inl old ↦ sound.placed s j v old
      | inr new ↦ λ g' i e. (let same : g' ≡ g = same_grant empty m sound g' g i live.0 (e ∙ ap (λ (w : LineVersion). w.ticket.0) new.1) in
          elim (adds_cases s g y law) [
            | inl q ↦ no_element (record { ticket = g.ticket; digest = d.0 }) (sym d.1 ∙ q)
            | inr k ↦ (let b : k.0.base ≡ length (line empty m k.0.slot) = sound.based g k.0 live k.1 in
                (k.0, subst (λ (z : Grant). In k.0 z.slots) (sym same) k.1, k.2, b ∙ ap (λ z. length (line empty m z)) k.2 ∙ sym new.0))
          ])
    ]
  ]

  end_sound : Sound empty after_end
  end_sound = record {
    order = sound.order;
    apart = apart_later m.ending after_end.ending m.made end_extends sound.apart;
    laws = λ g' z i e. elim (end_cases g'.ticket.0 z e) [
      | inl q ↦ subst (λ (h : Grant). Lawful h z) (sym (same_grant empty m sound g' g i live.0 q.0)) (subst (Lawful g) (sym q.1) law)
      | inr o ↦ sound.laws g' z i o
    ];
    ended = λ t z e. elim (end_cases t z e) [
      | inl q ↦ (g, live.0, sym q.0)
      | inr o ↦ sound.ended t z o
    ];
    based = end_based;
    named = λ g' u k i. names_later empty (line empty m u.slot) (line empty after_end u.slot) u.base u.digest (end_later.lines u.slot) (sound.named g' u k i);
    placed = λ s j v h. end_placed s j v (subst (λ l. slice_get l j ≡ Some v) (end_line s) h);
    tenures = sound.tenures;
  }

module _ (empty : Digest) (m : Machine) (sound : Sound empty m) (t : Ticket) (p : Slot) (newer : m.last < t.0) (idle : Leased m p → ⊥) where
  abbrev after_prune : Machine
  after_prune = record m { made = Pruned t p ∷ m.made; last = t.0 }

  prune_later : Later empty m after_prune
  prune_later = record {
    made = λ x i. inr i;
    ending = λ t y e. e;
    lines = λ s. (added empty s m.ending (Pruned t p), refl);
    last = omega arith;
  }

  prune_gone : (g : Grant) (s : Slot) → In (Granted g) m.made → p ≡ s → Has g s → Gone m.ending (Pruned t p) s g
  prune_gone g s i q k =
      elim (cases_option (m.ending g.ticket.0)) [
        | inl n ↦ absurd (idle (g, (i, n), subst (Has g) (sym q) k))
        | inr y ↦ (y.0, y.1, λ no. (let bad : false ≡ true = no in cc))
      ]

  prune_based : (g : Grant) (u : GrantedSlot) → Live m g → In u g.slots → u.base ≡ length (line empty after_prune u.slot)
  prune_based g u l i =
      let before : u.base ≡ length (line empty m u.slot) = sound.based g u l i in
      elim (cases_Bool (slot_eq p u.slot)) [
        | inl q ↦ absurd (idle (g, l, (u, i, sym (slot_eq_is p u.slot q))))
        | inr q ↦ (let none : added empty u.slot m.ending (Pruned t p) ≡ [] = rw q in
            before ∙ ap length (sym (ap (λ w. line empty m u.slot ++ w) none ∙ append-nil (line empty m u.slot))))
      ]

  granted_before : (g : Grant) → In (Granted g) after_prune.made → In (Granted g) m.made
  granted_before g (inl q) = cc
  granted_before g (inr i) = i

  prune_placed : (s : Slot) (j : ℕ) (v : LineVersion) → slice_get (line empty after_prune s) j ≡ Some v → Placed after_prune s j v
  prune_placed s j v h g k e =
      let i = granted_before g k in
      elim (added_cases_one empty s m.ending (Pruned t p)) [
        | inl q ↦ sound.placed s j v (subst (λ l. slice_get l j ≡ Some v) (ap (λ w. line empty m s ++ w) q ∙ append-nil (line empty m s)) h) g i e
        | inr d ↦ elim (get_push_cases (line empty m s) d.0 j v (subst (λ w. slice_get (line empty m s ++ w) j ≡ Some v) d.2 h)) [
          | inl old ↦ sound.placed s j v old g i e
          | inr new ↦ (let le : g.ticket.0 ≤ m.last = made_below empty m sound (Granted g) i in
              let at : d.0.ticket.0 ≡ t.0 = d.1 in
              let same : g.ticket.0 ≡ d.0.ticket.0 = e ∙ ap (λ (w : LineVersion). w.ticket.0) new.1 in absurd (omega arith))
        ]
      ]

  prune_sound : Sound empty after_prune
  prune_sound = record {
    order = (omega arith, below_more m.made (m.last + 1) t.0 sound.order (omega arith));
    apart = (prune_gone, sound.apart);
    laws = λ g y i e. sound.laws g y (granted_before g i) e;
    ended = λ t y e. (let r = sound.ended t y e in (r.0, inr r.1, r.2));
    based = λ g u l i. prune_based g u (granted_before g l.0, l.1) i;
    named = λ g u k i. names_later empty (line empty m u.slot) (line empty after_prune u.slot) u.base u.digest (prune_later.lines u.slot) (sound.named g u (granted_before g k) i);
    placed = prune_placed;
    tenures = λ g s k has h. sound.tenures g s (granted_before g k) has h;
  }

-- what the coordinator knows of nodes and asks has no part in it
pub others_sound : (empty : Digest) (m : Machine) (old_home : Option NodeId) (gone : ℕ → Bool) (lives : ℕ → ℕ) (parked : List Parked) → Sound empty m
    → Later empty m (record m { old_home = old_home; gone = gone; lives = lives; parked = parked }) × Sound empty (record m { old_home = old_home; gone = gone; lives = lives; parked = parked })
others_sound empty m old_home gone lives parked sound = (
  record { made = λ x i. i; ending = λ t y e. e; lines = λ s. front_refl (line empty m s); last = omega arith },
  record { order = sound.order; apart = sound.apart; laws = sound.laws; ended = sound.ended; based = sound.based; named = sound.named; placed = sound.placed; tenures = sound.tenures },
)

pub step_sound : (empty : Digest) (pool : List Message) (m m' : Machine) → Sound empty m → Step empty pool m m' → Later empty m m' × Sound empty m'
step_sound empty pool m m' sound (Grants g wants asked answers here alone home newer free) =
    (grant_later empty m sound g newer free (λ s. answers_tenure g wants s answers), grant_sound empty m sound g newer free (λ s. answers_tenure g wants s answers))
step_sound empty pool m m' sound (Ends g y live may) = (end_later empty pool m sound g y live may, end_sound empty pool m sound g y live may)
step_sound empty pool m m' sound (Prunes t s newer idle some) = (prune_later empty m sound t s newer idle, prune_sound empty m sound t s newer idle)
step_sound empty pool m m' sound (Sees n l heard here newer none quiet) = others_sound empty m m'.old_home m.gone m'.lives m.parked sound
step_sound empty pool m m' sound (Retires n here home none quiet) = others_sound empty m m.old_home m'.gone m.lives m.parked sound
step_sound empty pool m m' sound (Parks p sent none) = others_sound empty m m.old_home m.gone m.lives m'.parked sound
step_sound empty pool m m' sound (Unparks ps part) = others_sound empty m m.old_home m.gone m.lives ps sound
step_sound empty pool m m' sound (Raises t le) = (
  record { made = λ x i. i; ending = λ t y e. e; lines = λ s. front_refl (line empty m s); last = le },
  record { order = below_more m.made (m.last + 1) (t + 1) sound.order (omega arith); apart = sound.apart; laws = sound.laws; ended = sound.ended; based = sound.based; named = sound.named; placed = sound.placed; tenures = sound.tenures },
)
