-- How tickets ended, kept up through the steps of one event.
use Rattle.std.proofs.Common.{◌≡◌, ℕ, ◌⊎◌, Bool, true, Option, Some, refl, sym, ◌∙◌, ap, subst, inl, inr}
use Rattle.std.proofs.lemmas.Bool.{cases_eq}
use Rattle.protocol.specs.Lists.{In, put}
use Rattle.protocol.specs.Names.{Digest}
use Rattle.protocol.specs.Machine.{Grant, Ending, Granted, Machine, Live}
use Rattle.protocol.specs.Meaning.{Ended}
use Rattle.protocol.proofs.Base.{cases_option, none_some, put_same, put_other}
use Rattle.protocol.proofs.Steps.{Sound, Later, same_grant}
use Rattle.protocol.proofs.Bulk.{EndsThose}

-- where nothing was to end
pub none_ended : (m : Machine) (ends : Grant → Ending → Type 0) → ((g : Grant) (y : Ending) → Live m g → ends g y → ⊥) → Ended m ends m.ending
none_ended m ends none = record { all = λ g y l h. absurd (none g y l h); only = λ t. inl refl }

-- the same ends in other words
pub ended_as : (m : Machine) (ends ends' : Grant → Ending → Type 0) (e : ℕ → Option Ending) → ((g : Grant) (y : Ending) → ends g y → ends' g y) → ((g : Grant) (y : Ending) → ends' g y → ends g y) → Ended m ends e → Ended m ends' e
ended_as m ends ends' e to from ended = record {
  all = λ g y l h. ended.all g y l (from g y h);
  only = λ t. elim (ended.only t) [ inl q ↦ inl q | inr q ↦ inr (q.0, q.1, q.2, to q.0 q.1 q.3, q.4, q.5) ];
}

-- a grant that is live later was, if it was made
pub was_live : (empty : Digest) (m b : Machine) (g : Grant) → Later empty m b → In (Granted g) m.made → Live b g → Live m g
was_live empty m b g later made l = elim (cases_option (m.ending g.ticket.0)) [
  | inl n ↦ (made, n)
  | inr y ↦ none_some y.0 (sym l.1 ∙ later.ending g.ticket.0 y.0 y.1)
]

-- one live grant ends
pub those_put : (empty : Digest) (b : Machine) (sound : Sound empty b) (g : Grant) (y : Ending) (test : Grant → Bool) → Live b g → test g ≡ true → ((h : Grant) → In (Granted h) b.made → test h ≡ true → h.ticket.0 ≡ g.ticket.0)
    → EndsThose b.ending (put g.ticket.0 (Some y) b.ending) test y b.made
those_put empty b sound g y test live picked one = record {
  done = λ h i t e. ap (put g.ticket.0 (Some y) b.ending) (one h i t) ∙ put_same g.ticket.0 (Some y) b.ending;
  only = λ t. elim (cases_eq t g.ticket.0) [
    | inl q ↦ inr (g, live.0, picked, ap b.ending q ∙ live.1, sym q, ap (put g.ticket.0 (Some y) b.ending) q ∙ put_same g.ticket.0 (Some y) b.ending)
    | inr ne ↦ inl (put_other g.ticket.0 (Some y) b.ending t ne)
  ];
}

-- more ends
pub ended_more : (empty : Digest) (m b : Machine) (ends ends' : Grant → Ending → Type 0) (e : ℕ → Option Ending) (test : Grant → Bool) (y : Ending)
    → Sound empty b → Later empty m b → Ended m ends b.ending → EndsThose b.ending e test y b.made
    → ((g : Grant) → Live b g → test g ≡ true → In (Granted g) m.made)
    → ((g : Grant) → Live m g → test g ≡ true → ends' g y)
    → ((g : Grant) (z : Ending) → ends g z → ends' g z)
    → ((g : Grant) (z : Ending) → Live m g → ends' g z → ends g z ⊎ ((test g ≡ true) × (z ≡ y)))
    → ((g : Grant) (z : Ending) → Live m g → ends g z → test g ≡ true → ⊥)
    → Ended m ends' e
ended_more empty m b ends ends' e test y sound later ended those back into keep from apart = record {
  all = λ g z l h. elim (from g z l h) [
    | inl old ↦ (let was = ended.all g z l old in elim (those.only g.ticket.0) [
      | inl q ↦ q ∙ was
      | inr q ↦ none_some z (sym q.3 ∙ was)
    ])
    | inr new ↦ elim (ended.only g.ticket.0) [
      | inl q ↦ those.done g (later.made (Granted g) l.0) new.0 (q ∙ l.1) ∙ ap Some (sym new.1)
      | inr q ↦ (let same : q.0 ≡ g = same_grant empty b sound q.0 g (later.made (Granted q.0) q.2.0) (later.made (Granted g) l.0) q.4 in
          absurd (apart g q.1 l (subst (λ x. ends x q.1) same q.3) new.0))
    ]
  ];
  only = λ t. elim (those.only t) [
    | inl q ↦ elim (ended.only t) [
      | inl p ↦ inl (q ∙ p)
      | inr p ↦ inr (p.0, p.1, p.2, keep p.0 p.1 p.3, p.4, q ∙ p.5)
    ]
    | inr q ↦ (let g : Grant = q.0 in
        let now : Live b g = (q.1, ap b.ending q.4 ∙ q.3) in
        let live : Live m g = was_live empty m b g later (back g now q.2) now in
        inr (g, y, live, into g live q.2, q.4, q.5))
  ];
}
