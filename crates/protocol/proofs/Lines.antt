-- Lines, read off what was made: an ending adds at the end of a line, or nothing.
use Rattle.std.proofs.Common.{◌≡◌, ◌≢◌, ℕ, ◌<◌, ◌≤◌, List, [], ◌∷◌, ◌++◌, ◌⊎◌, Bool, true, false, Option, Some, None, refl, sym, ◌∙◌, ap, subst, inl, inr, arith, append-nil}
use Rattle.std.proofs.lemmas.Bool.{cases_Bool}
use Rattle.std.specs.Prelude.{⊤}
use Rattle.farm_base.specs.Kinds.{is_tenure}
use Rattle.protocol.specs.Lists.{In, put}
use Rattle.protocol.specs.Names.{Slot, slot_eq, is_alone, Digest, Ticket}
use Rattle.protocol.specs.Machine.{GrantedSlot, Grant, News, LineVersion, Ending, Committed, Released, Withdrawn, Died, Made, Granted, Pruned, ticket_of, Has, digest_for, version_of, version_at, added, line_of, written, slots_of}
use Rattle.protocol.proofs.Base.{cases_option, put_same, put_other, slot_eq_is, in_append, in_one, none_some}

-- tickets fall strictly from the newest on, all below the bound
abbrev pub Below : List Made → ℕ → Type 0
Below [] b = ⊤
Below (x ∷ xs) b = (ticket_of x < b) × Below xs (ticket_of x)

pub below_in : (xs : List Made) (b : ℕ) (x : Made) → Below xs b → In x xs → ticket_of x < b
below_in [] b x h k = absurd k
below_in (y ∷ xs) b x h (inl e) = subst (λ z. ticket_of z < b) (sym e) h.0
below_in (y ∷ xs) b x h (inr k) =
    let lt : ticket_of x < ticket_of y = below_in xs (ticket_of y) x h.1 k in
    let top : ticket_of y < b = h.0 in
    omega arith

pub below_more : (xs : List Made) (a b : ℕ) → Below xs a → a ≤ b → Below xs b
below_more [] a b h le = h
below_more (x ∷ xs) a b h le = (let top : ticket_of x < a = h.0 in omega arith, h.1)

pub granted_is : (g g' : Grant) → Granted g ≡ Granted g' → g ≡ g'
granted_is g g' e = cc

-- a ticket stands for one thing
pub one_made : (xs : List Made) (b : ℕ) (x y : Made) → Below xs b → In x xs → In y xs → ticket_of x ≡ ticket_of y → x ≡ y
one_made [] b x y h j k e = absurd j
one_made (z ∷ xs) b x y h (inl p) (inl q) e = p ∙ sym q
one_made (z ∷ xs) b x y h (inl p) (inr k) e =
    let lt : ticket_of y < ticket_of z = below_in xs (ticket_of z) y h.1 k in
    let same : ticket_of x ≡ ticket_of z = ap ticket_of p in
    absurd (omega arith)
one_made (z ∷ xs) b x y h (inr j) (inl q) e =
    let lt : ticket_of x < ticket_of z = below_in xs (ticket_of z) x h.1 j in
    let same : ticket_of y ≡ ticket_of z = ap ticket_of q in
    absurd (omega arith)
one_made (z ∷ xs) b x y h (inr j) (inr k) e = one_made xs (ticket_of z) x y h.1 j k e

pub one_grant : (xs : List Made) (b : ℕ) (g g' : Grant) → Below xs b → In (Granted g) xs → In (Granted g') xs → g.ticket.0 ≡ g'.ticket.0 → g ≡ g'
one_grant xs b g g' h j k e = granted_is g g' (one_made xs b (Granted g) (Granted g') h j k e)

-- what is made concerns the slot
abbrev pub Touches : Made → Slot → Type 0
Touches (Granted g) s = Has g s
Touches (Pruned t p) s = p ≡ s

abbrev pub is_grant : Made → Bool
is_grant (Granted g) = true
is_grant (Pruned t p) = false

-- the grant has ended; and so that a PRIVATE or SHARED slot has no execution left, where x is a grant
abbrev pub Gone : (ℕ → Option Ending) → Made → Slot → Grant → Type 0
Gone ending x s g = (y : Ending) × (ending g.ticket.0 ≡ Some y) × ((is_grant x ≡ true) → (is_alone s ≡ true) → y ≢ Withdrawn)

module _ (ending : ℕ → Option Ending) where
  -- what is newer on a slot was made when the older grants of it had ended
  abbrev pub Apart : List Made → Type 0
  Apart [] = ⊤
  Apart (x ∷ xs) = ((g : Grant) (s : Slot) → In (Granted g) xs → Touches x s → Has g s → Gone ending x s g) × Apart xs

abbrev pub Extends : (ℕ → Option Ending) → (ℕ → Option Ending) → Type 0
Extends e e' = (t : ℕ) (y : Ending) → e t ≡ Some y → e' t ≡ Some y

pub apart_later : (e e' : ℕ → Option Ending) (xs : List Made) → Extends e e' → Apart e xs → Apart e' xs
apart_later e e' [] h a = a
apart_later e e' (x ∷ xs) h a =
    (λ g s i t k. (let gone = a.0 g s i t k in (gone.0, h g.ticket.0 gone.0 gone.1, gone.2)), apart_later e e' xs h a.1)

-- of two grants that share a slot the older one has ended
pub apart_pair : (e : ℕ → Option Ending) (xs : List Made) (b : ℕ) (g g' : Grant) (s : Slot) → Below xs b → Apart e xs → In (Granted g) xs → In (Granted g') xs → g.ticket.0 < g'.ticket.0 → Has g s → Has g' s → Gone e (Granted g') s g
apart_pair e [] b g g' s h a i i' lt k k' = absurd i
apart_pair e (x ∷ xs) b g g' s h a (inl p) (inl q) lt k k' =
    let same : g.ticket.0 ≡ g'.ticket.0 = ap ticket_of (p ∙ sym q) in absurd (omega arith)
apart_pair e (x ∷ xs) b g g' s h a (inl p) (inr i') lt k k' =
    let below : g'.ticket.0 < ticket_of x = below_in xs (ticket_of x) (Granted g') h.1 i' in
    let same : g.ticket.0 ≡ ticket_of x = ap ticket_of p in
    absurd (omega arith)
apart_pair e (x ∷ xs) b g g' s h a (inr i) (inl q) lt k k' =
    let touches : Touches x s = subst (λ z. Touches z s) q k' in
    subst (λ z. Gone e z s g) (sym q) (a.0 g s i touches k)
apart_pair e (x ∷ xs) b g g' s h a (inr i) (inr i') lt k k' = apart_pair e xs (ticket_of x) g g' s h.1 a.1 i i' lt k k'

digest_step : (s : Slot) (x : News) (xs : List News) (d : Digest) → digest_for s (x ∷ xs) ≡ Some d → (x.slot ≡ s) ⊎ (digest_for s xs ≡ Some d)
digest_step s x xs d h =
    elim (cases_Bool (slot_eq x.slot s)) [
      | inl e ↦ inl (slot_eq_is x.slot s e)
      | inr e ↦ inr (let r : digest_for s (x ∷ xs) ≡ digest_for s xs = rw e in sym r ∙ h)
    ]

pub digest_in : (s : Slot) (news : List News) (d : Digest) → digest_for s news ≡ Some d → In s (slots_of news)
digest_in s [] d h = none_some d h
digest_in s (x ∷ xs) d h = elim (digest_step s x xs d h) [ inl e ↦ inl (sym e) | inr k ↦ inr (digest_in s xs d k) ]

pub written_in : (s : Slot) (us : List GrantedSlot) → In s (written us) → (u : GrantedSlot) × In u us × (u.slot ≡ s)
written_in s [] h = absurd h
written_in s (u ∷ us) h =
    elim (cases_Bool u.writable) [
      | inl e ↦ (let step : written (u ∷ us) ≡ u.slot ∷ written us = rw e in
          let k : In s (u.slot ∷ written us) = subst (In s) step h in
          elim k [ inl p ↦ (u, inl refl, sym p) | inr j ↦ (let r = written_in s us j in (r.0, inr r.1, r.2)) ])
      | inr e ↦ (let step : written (u ∷ us) ≡ written us = rw e in
          let k : In s (written us) = subst (In s) step h in
          let r = written_in s us k in (r.0, inr r.1, r.2))
    ]

-- news of an ending are for slots of its grant, and no tenure is withdrawn
abbrev pub Lawful : Grant → Ending → Type 0
Lawful g (Committed news) = slots_of news ≡ written g.slots
Lawful g Released = ⊤
Lawful g Withdrawn = is_tenure g.kind ≡ false
Lawful g Died = ⊤

-- an ending adds nothing to a line, or its grant has the slot
pub adds_cases : (s : Slot) (g : Grant) (y : Ending) → Lawful g y → (version_at s g.ticket (Some y) ≡ []) ⊎ Has g s
adds_cases s g (Committed news) law =
    elim (cases_option (digest_for s news)) [
      | inl e ↦ inl (ap (version_of g.ticket) e)
      | inr d ↦ inr (written_in s g.slots (subst (In s) law (digest_in s news d.0 d.1)))
    ]
adds_cases s g Released law = inl refl
adds_cases s g Withdrawn law = inl refl
adds_cases s g Died law = inl refl

module _ (ending : ℕ → Option Ending) where
  -- each ending of these grants is lawful
  abbrev pub AllLawful : List Made → Type 0
  AllLawful xs = (g : Grant) (y : Ending) → In (Granted g) xs → ending g.ticket.0 ≡ Some y → Lawful g y

module _ (empty : Digest) where
  -- an ending that is none of these tickets' changes nothing
  line-put_above : (s : Slot) (e : ℕ → Option Ending) (t : ℕ) (y : Option Ending) (xs : List Made) → Below xs t → line_of empty s (put t y e) xs ≡ line_of empty s e xs
  line-put_above s e t y [] h = refl
  line-put_above s e t y (Granted g ∷ xs) h =
      let top : g.ticket.0 < t = h.0 in
      let ne : g.ticket.0 ≢ t = omega arith in
      let rest : line_of empty s (put t y e) xs ≡ line_of empty s e xs = line-put_above s e t y xs (below_more xs g.ticket.0 t h.1 (omega arith)) in
      let head : put t y e g.ticket.0 ≡ e g.ticket.0 = put_other t y e g.ticket.0 ne in
      rw (rest, head)
  line-put_above s e t y (Pruned u p ∷ xs) h =
      let top : u.0 < t = h.0 in
      let rest : line_of empty s (put t y e) xs ≡ line_of empty s e xs = line-put_above s e t y xs (below_more xs u.0 t h.1 (omega arith)) in
      rw rest

  pub added_cases : (s : Slot) (e : ℕ → Option Ending) (x : Made) → ((g : Grant) (y : Ending) → x ≡ Granted g → e g.ticket.0 ≡ Some y → Lawful g y) → (added empty s e x ≡ []) ⊎ Touches x s
  added_cases s e (Granted g) law =
      elim (cases_option (e g.ticket.0)) [
        | inl n ↦ inl (ap (version_at s g.ticket) n)
        | inr y ↦ elim (adds_cases s g y.0 (law g y.0 refl y.1)) [
          | inl q ↦ inl (ap (version_at s g.ticket) y.1 ∙ q)
          | inr k ↦ inr k
        ]
      ]
  added_cases s e (Pruned t p) law =
      elim (cases_Bool (slot_eq p s)) [
        | inl q ↦ inr (slot_eq_is p s q)
        | inr q ↦ inl (rw q)
      ]

  added-put_other : (s : Slot) (e : ℕ → Option Ending) (t : ℕ) (y : Option Ending) (x : Made) → t < ticket_of x → added empty s (put t y e) x ≡ added empty s e x
  added-put_other s e t y (Granted g) lt =
      let less : t < g.ticket.0 = lt in
      let ne : g.ticket.0 ≢ t = omega arith in
      ap (version_at s g.ticket) (put_other t y e g.ticket.0 ne)
  added-put_other s e t y (Pruned u p) lt = refl

  -- the end of a live grant stands last on the lines of its slots
  pub line-end : (s : Slot) (e : ℕ → Option Ending) (g : Grant) (y : Ending) (xs : List Made) (b : ℕ) → Below xs b → Apart e xs → AllLawful e xs → Lawful g y → e g.ticket.0 ≡ None → In (Granted g) xs → line_of empty s (put g.ticket.0 (Some y) e) xs ≡ line_of empty s e xs ++ version_at s g.ticket (Some y)
  line-end s e g y [] b h a laws law live i = absurd i
  line-end s e g y (x ∷ xs) b h a laws law live (inl p) =
      let below : Below xs g.ticket.0 = subst (Below xs) (sym (ap ticket_of p)) h.1 in
      let rest : line_of empty s (put g.ticket.0 (Some y) e) xs ≡ line_of empty s e xs = line-put_above s e g.ticket.0 (Some y) xs below in
      let was : added empty s e (Granted g) ≡ [] = ap (version_at s g.ticket) live in
      let now : added empty s (put g.ticket.0 (Some y) e) (Granted g) ≡ version_at s g.ticket (Some y) = ap (version_at s g.ticket) (put_same g.ticket.0 (Some y) e) in
      let at : line_of empty s (put g.ticket.0 (Some y) e) (Granted g ∷ xs) ≡ line_of empty s e (Granted g ∷ xs) ++ version_at s g.ticket (Some y) =
      rw (rest, now, was, append-nil (line_of empty s e xs)) in
      subst (λ z. line_of empty s (put g.ticket.0 (Some y) e) (z ∷ xs) ≡ line_of empty s e (z ∷ xs) ++ version_at s g.ticket (Some y)) p at
  line-end s e g y (x ∷ xs) b h a laws law live (inr i) =
      let lt : g.ticket.0 < ticket_of x = below_in xs (ticket_of x) (Granted g) h.1 i in
      let same : added empty s (put g.ticket.0 (Some y) e) x ≡ added empty s e x = added-put_other s e g.ticket.0 (Some y) x lt in
      let rest : line_of empty s (put g.ticket.0 (Some y) e) xs ≡ line_of empty s e xs ++ version_at s g.ticket (Some y) =
      line-end s e g y xs (ticket_of x) h.1 a.1 (λ g' y' j k. laws g' y' (inr j) k) law live i in
      elim (adds_cases s g y law) [
        | inl q ↦ (let rest' : line_of empty s (put g.ticket.0 (Some y) e) xs ≡ line_of empty s e xs = rest ∙ ap (λ v. line_of empty s e xs ++ v) q ∙ append-nil (line_of empty s e xs) in
            rw (rest', same, q, append-nil (line_of empty s e xs ++ added empty s e x)))
        | inr k ↦ elim (added_cases s e x (λ g' y' p j. laws g' y' (inl (sym p)) j)) [
          | inl q ↦ rw (same, rest, q, append-nil (line_of empty s e xs), append-nil (line_of empty s e xs ++ version_at s g.ticket (Some y)))
          | inr t ↦ (let gone : Gone e x s g = a.0 g s i t k in absurd (let bad : Some gone.0 ≡ None = sym gone.1 ∙ live in cc))
        ]
      ]

  -- what stands on a line was added by something made
  pub line_source : (s : Slot) (e : ℕ → Option Ending) (v : LineVersion) (xs : List Made) → In v (line_of empty s e xs) → (x : Made) × In x xs × In v (added empty s e x)
  line_source s e v [] h = absurd h
  line_source s e v (x ∷ xs) h =
      elim (in_append v (line_of empty s e xs) (added empty s e x) h) [
        | inl k ↦ (let r = line_source s e v xs k in (r.0, inr r.1, r.2))
        | inr k ↦ (x, inl refl, k)
      ]

  pub version_cases : (s : Slot) (t : Ticket) (y : Option Ending) → (version_at s t y ≡ []) ⊎ ((d : Digest) × (version_at s t y ≡ record { ticket = t; digest = d } ∷ []))
  version_cases s t None = inl refl
  version_cases s t (Some (Committed news)) =
      elim (cases_option (digest_for s news)) [
        | inl e ↦ inl (ap (version_of t) e)
        | inr d ↦ inr (d.0, ap (version_of t) d.1)
      ]
  version_cases s t (Some Released) = inl refl
  version_cases s t (Some Withdrawn) = inl refl
  version_cases s t (Some Died) = inl refl

  pub added_cases_one : (s : Slot) (e : ℕ → Option Ending) (x : Made) → (added empty s e x ≡ []) ⊎ ((v : LineVersion) × (v.ticket.0 ≡ ticket_of x) × (added empty s e x ≡ v ∷ []))
  added_cases_one s e (Granted g) = elim (version_cases s g.ticket (e g.ticket.0)) [
    | inl q ↦ inl q
    | inr d ↦ inr (record { ticket = g.ticket; digest = d.0 }, refl, d.1)
  ]
  added_cases_one s e (Pruned t p) =
      elim (cases_Bool (slot_eq p s)) [
        | inl q ↦ inr (record { ticket = t; digest = empty }, refl, rw q)
        | inr q ↦ inl (rw q)
      ]

  pub added_ticket : (s : Slot) (e : ℕ → Option Ending) (x : Made) (v : LineVersion) → In v (added empty s e x) → v.ticket.0 ≡ ticket_of x
  added_ticket s e x v h =
      elim (added_cases_one s e x) [
        | inl q ↦ absurd (subst (In v) q h)
        | inr q ↦ (let k : In v (q.0 ∷ []) = subst (In v) q.2 h in ap (λ (w : LineVersion). w.ticket.0) (in_one v q.0 k) ∙ q.1)
      ]
