-- Many grants end at once, without a version: one step for each.
use Rattle.std.proofs.Common.{◌≡◌, ◌≢◌, ℕ, List, [], ◌∷◌, ◌⊎◌, Bool, true, false, Option, Some, None, refl, sym, ◌∙◌, ap, subst, inl, inr}
use Rattle.std.proofs.lemmas.Bool.{cases_eq, cases_Bool}
use Rattle.protocol.specs.Lists.{In, put}
use Rattle.protocol.specs.Names.{Slot, is_private, Digest, Ticket}
use Rattle.protocol.specs.Machine.{Grant, Ending, Withdrawn, Made, Granted, Pruned, Message, FromCoord, Machine, Has, Live, Retired, version_at, line, line_of, MayEnd, Ends}
use Rattle.protocol.specs.Follows.{Works, Goes_on}
use Rattle.protocol.proofs.Base.{cases_option, put_same, put_other, some_is, none_some, true_false}
use Rattle.protocol.proofs.Steps.{Sound, same_grant}

-- some of the grants of xs, which `test` picks, have ended so
pub record EndsThose (ending ending' : ℕ → Option Ending) (test : Grant → Bool) (y : Ending) (xs : List Made) : Type 0 where
  pub done : (g : Grant) → In (Granted g) xs → test g ≡ true → ending g.ticket.0 ≡ None → ending' g.ticket.0 ≡ Some y
  pub only : (t : ℕ) → (ending' t ≡ ending t) ⊎ ((g : Grant) × In (Granted g) xs × (test g ≡ true) × (ending t ≡ None) × (g.ticket.0 ≡ t) × (ending' t ≡ Some y))

module _ (empty : Digest) (pool : List Message) (start m : Machine) (sends : List FromCoord) (works : Works empty pool start m sends)
    (test : Grant → Bool) (y : Ending) (may : (e : ℕ → Option Ending) (g : Grant) → In (Granted g) m.made → test g ≡ true → MayEnd pool (record m { ending = e }) g y) where
  abbrev pub Result : List Made → Type 0
  Result xs = (e : ℕ → Option Ending) × Works empty pool start (record m { ending = e }) sends × EndsThose m.ending e test y xs

  skip : (xs : List Made) (x : Made) → Result xs → ((e : ℕ → Option Ending) (g : Grant) → EndsThose m.ending e test y xs → x ≡ Granted g → test g ≡ true → m.ending g.ticket.0 ≡ None → e g.ticket.0 ≡ Some y) → Result (x ∷ xs)
  skip xs x r here = (
    r.0,
    r.1,
    record {
      done = λ g i t e. elim i [ inl p ↦ here r.0 g r.2 (sym p) t e | inr j ↦ r.2.done g j t e ];
      only = λ t. elim (r.2.only t) [ inl e ↦ inl e | inr q ↦ inr (q.0, inr q.1, q.2, q.3, q.4, q.5) ];
    },
  )

  add : (xs : List Made) (g : Grant) (r : Result xs) → In (Granted g) m.made → test g ≡ true → m.ending g.ticket.0 ≡ None → r.0 g.ticket.0 ≡ None → Result (Granted g ∷ xs)
  add xs g r made t was now = (
    put g.ticket.0 (Some y) r.0,
    Goes_on (record m { ending = r.0 }) (record m { ending = put g.ticket.0 (Some y) r.0 }) sends r.1 (Ends g y (made, now) (may r.0 g made t)),
    record {
      done = λ h i u e. elim (cases_eq h.ticket.0 g.ticket.0) [
        | inl q ↦ ap (put g.ticket.0 (Some y) r.0) q ∙ put_same g.ticket.0 (Some y) r.0
        | inr ne ↦ put_other g.ticket.0 (Some y) r.0 h.ticket.0 ne ∙ r.2.done h (other h i ne) u e
      ];
      only = λ k. elim (cases_eq k g.ticket.0) [
        | inl q ↦ inr (g, inl refl, t, ap m.ending q ∙ was, sym q, ap (put g.ticket.0 (Some y) r.0) q ∙ put_same g.ticket.0 (Some y) r.0)
        | inr ne ↦ elim (r.2.only k) [
          | inl e ↦ inl (put_other g.ticket.0 (Some y) r.0 k ne ∙ e)
          | inr p ↦ inr (p.0, inr p.1, p.2, p.3, p.4, put_other g.ticket.0 (Some y) r.0 k ne ∙ p.5)
        ]
      ];
    },
  )
    where
      other : (h : Grant) → In (Granted h) (Granted g ∷ xs) → h.ticket.0 ≢ g.ticket.0 → In (Granted h) xs
      other h (inl p) ne = (let same : h ≡ g = cc in absurd (ne (ap (λ (z : Grant). z.ticket.0) same)))
      other h (inr i) ne = i

  none_is_live : (xs : List Made) (x : Made) (e : ℕ → Option Ending) (g : Grant) → EndsThose m.ending e test y xs → (k : Grant) → x ≡ Granted k → (e k.ticket.0 ≡ Some y) → x ≡ Granted g → e g.ticket.0 ≡ Some y
  none_is_live xs x e g ends k p q r = (let same : k ≡ g = cc in subst (λ (z : Grant). e z.ticket.0 ≡ Some y) same q)

  one : (xs : List Made) (g : Grant) → In (Granted g) m.made → Result xs → Result (Granted g ∷ xs)
  one xs g made r = elim (cases_Bool (test g)) [
    | inr f ↦ skip xs (Granted g) r (λ e h ends p t was. (let same : g ≡ h = cc in true_false (test h) t (subst (λ z. test z ≡ false) same f)))
    | inl t ↦ elim (cases_option (m.ending g.ticket.0)) [
      | inr z ↦ skip xs (Granted g) r (λ e h ends p u was. (let same : g ≡ h = cc in none_some z.0 (sym was ∙ ap (λ (k : Grant). m.ending k.ticket.0) (sym same) ∙ z.1)))
      | inl was ↦ elim (r.2.only g.ticket.0) [
        | inl e ↦ add xs g r made t was (e ∙ was)
        | inr q ↦ (
          r.0,
          r.1,
          record {
            done = λ h i u e. elim i [ inl p ↦ (let same : g ≡ h = cc in subst (λ (z : Grant). r.0 z.ticket.0 ≡ Some y) same q.5) | inr j ↦ r.2.done h j u e ];
            only = λ k. elim (r.2.only k) [ inl e ↦ inl e | inr s ↦ inr (s.0, inr s.1, s.2, s.3, s.4, s.5) ];
          },
        )
      ]
    ]
  ]

  -- each live grant of them that `test` picks ends so
  pub end_those : (xs : List Made) → ((x : Made) → In x xs → In x m.made) → Result xs
  end_those [] all = (m.ending, works, record { done = λ g i t e. absurd i; only = λ t. inl refl })
  end_those (Granted g ∷ xs) all = one xs g (all (Granted g) (inl refl)) (end_those xs (λ x i. all x (inr i)))
  end_those (Pruned t s ∷ xs) all = skip xs (Pruned t s) (end_those xs (λ x i. all x (inr i))) (λ e g ends p u was. (let bad : Pruned t s ≡ Granted g = p in cc))

-- an ending that adds no version
abbrev pub Bare : Ending → Type 0
Bare y = (s : Slot) (t : Ticket) → version_at s t (Some y) ≡ []

bare_line : (empty : Digest) (s : Slot) (e e' : ℕ → Option Ending) (y : Ending) (xs : List Made) → Bare y → ((t : ℕ) → (e' t ≡ e t) ⊎ ((e t ≡ None) × (e' t ≡ Some y))) → line_of empty s e' xs ≡ line_of empty s e xs
bare_line empty s e e' y [] bare h = refl
bare_line empty s e e' y (Granted g ∷ xs) bare h =
    let rest : line_of empty s e' xs ≡ line_of empty s e xs = bare_line empty s e e' y xs bare h in
    let here : version_at s g.ticket (e' g.ticket.0) ≡ version_at s g.ticket (e g.ticket.0) = elim (h g.ticket.0) [
      | inl q ↦ ap (version_at s g.ticket) q
      | inr q ↦ ap (version_at s g.ticket) q.1 ∙ bare s g.ticket ∙ ap (version_at s g.ticket) (sym q.0)
    ] in
    rw (rest, here) refl
bare_line empty s e e' y (Pruned t p ∷ xs) bare h = (let rest : line_of empty s e' xs ≡ line_of empty s e xs = bare_line empty s e e' y xs bare h in rw rest refl)

module _ (empty : Digest) (m : Machine) (sound : Sound empty m) (e : ℕ → Option Ending) (test : Grant → Bool) (y : Ending) (ends : EndsThose m.ending e test y m.made) where
  abbrev after : Machine
  after = record m { ending = e }

  pub ended_line : Bare y → (s : Slot) → line empty after s ≡ line empty m s
  ended_line bare s = bare_line empty s m.ending e y m.made bare (λ t. elim (ends.only t) [ inl q ↦ inl q | inr q ↦ inr (q.3, q.5) ])

  -- who is live afterwards was, and isn't picked
  pub still_live : (g : Grant) → Live after g → Live m g × (test g ≡ false)
  still_live g l = (let was : m.ending g.ticket.0 ≡ None = elim (ends.only g.ticket.0) [ inl q ↦ sym q ∙ l.1 | inr q ↦ q.3 ] in
      ((l.0, was), elim (cases_Bool (test g)) [ inl t ↦ none_some y (sym l.1 ∙ ends.done g l.0 t was) | inr f ↦ f ]))

  -- who is live and isn't picked is live afterwards
  pub live_after : (g : Grant) → Live m g → test g ≡ false → Live after g
  live_after g l f = (
    l.0,
    elim (ends.only g.ticket.0) [
      | inl q ↦ q ∙ l.1
      | inr q ↦ (let same : q.0 ≡ g = same_grant empty m sound q.0 g q.1 l.0 q.4 in true_false (test g) (subst (λ z. test z ≡ true) same q.2) f)
    ],
  )

  withdrawn_before : (g : Grant) → (e g.ticket.0 ≡ Some Withdrawn) → (m.ending g.ticket.0 ≡ Some Withdrawn) ⊎ ((y ≡ Withdrawn) × ((h : Grant) × In (Granted h) m.made × (test h ≡ true) × (m.ending g.ticket.0 ≡ None) × (h.ticket.0 ≡ g.ticket.0)))
  withdrawn_before g w = elim (ends.only g.ticket.0) [
    | inl q ↦ inl (sym q ∙ w)
    | inr q ↦ inr (some_is y Withdrawn (sym q.5 ∙ w), (q.0, q.1, q.2, q.3, q.4))
  ]

  -- a slot that is retired afterwards was, or is of a live grant that is withdrawn
  pub retired_before : (s : Slot) → Retired after s → Retired m s ⊎ ((y ≡ Withdrawn) × ((g : Grant) × Live m g × (test g ≡ true) × Has g s × (is_private s.folder.mode ≡ true)))
  retired_before s r = (let g : Grant = r.1.0 in elim (withdrawn_before g r.1.2) [
    | inl w ↦ inl (r.0, (g, r.1.1, w, r.1.3))
    | inr w ↦ (let same : w.1.0 ≡ g = same_grant empty m sound w.1.0 g w.1.1 r.1.1 w.1.4 in
        inr (w.0, (g, (r.1.1, w.1.3), subst (λ z. test z ≡ true) same w.1.2, r.1.3, r.0)))
  ])

  pub retired_stays : (s : Slot) → Retired m s → Retired after s
  retired_stays s r = (
    r.0,
    (
      r.1.0,
      r.1.1,
      elim (ends.only r.1.0.ticket.0) [
        | inl q ↦ q ∙ r.1.2
        | inr q ↦ none_some Withdrawn (sym q.3 ∙ r.1.2)
      ],
      r.1.3,
    ),
  )

  pub retired_now : (g : Grant) (s : Slot) → y ≡ Withdrawn → Live m g → test g ≡ true → Has g s → is_private s.folder.mode ≡ true → Retired after s
  retired_now g s w l t h p = (p, (g, l.0, ends.done g l.0 t l.1 ∙ ap Some w, h))
