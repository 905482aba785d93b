-- What is chosen at one path.
use Rattle.std.proofs.Common.{◌≡◌, ℕ, ◌⊎◌, inl, inr, Bool, true, false, cond, not, ◌&&◌, List, Some, None, refl, sym, ap, ◌∙◌}
use Rattle.std.proofs.lemmas.Bool.{cases_Bool}
use Rattle.std.proofs.lemmas.Slice.Eq.{bytes_eq-Decides}
use Rattle.merging.specs.declared.rule.Rule.{Rule}
use Rattle.merging.specs.declared.side.Side.{Side}
use Rattle.merging.specs.declared.side.Side.TheVariants.{Mine, Theirs}
use Rattle.merging.specs.Listings.{Place}
use Rattle.merging.specs.Choices.{Three, of, same, favoured, chosen, is_contested}

pub same_true : (a b : Place) → same a b ≡ true → a ≡ b
same_true None None h = refl
same_true None (Some y) h = absurd (cc)
same_true (Some x) None h = absurd (cc)
same_true (Some x) (Some y) h = ap (λ (z : List ℕ). Some z) ((bytes_eq-Decides x y).0 h)

pub same_itself : (a : Place) → same a a ≡ true
same_itself None = refl
same_itself (Some x) = (bytes_eq-Decides x x).1 refl

pub same_of : (a b : Place) → a ≡ b → same a b ≡ true
same_of a b e = ap (λ (z : Place). same a z) (sym e) ∙ same_itself a

pub same_false : (a b : Place) → same a b ≡ false → a ≡ b → ⊥
same_false a b h e = let t = same_of a b e in cc

abbrev pick : Side → Bool → Bool → Bool → Side
pick right p q r = cond p Theirs (cond q Mine (cond r Theirs right))

abbrev contest : Bool → Bool → Bool → Bool
contest p q r = not p && (not q && not r)

-- why a side is chosen
pub data Cases (rule : Rule) (x : Three) : Type 0 where
  untouched : x.mine ≡ x.base → chosen rule x ≡ Theirs → Cases rule x
  alone : (x.mine ≡ x.base → ⊥) → x.theirs ≡ x.base → chosen rule x ≡ Mine → Cases rule x
  agreed : (x.mine ≡ x.base → ⊥) → (x.theirs ≡ x.base → ⊥) → x.mine ≡ x.theirs → chosen rule x ≡ Theirs → Cases rule x
  contested : (x.mine ≡ x.base → ⊥) → (x.theirs ≡ x.base → ⊥) → (x.mine ≡ x.theirs → ⊥) → chosen rule x ≡ favoured rule x.mine x.theirs → is_contested x ≡ true → Cases rule x

pub cases : (rule : Rule) (x : Three) → Cases rule x
cases rule x = by_tests (same x.mine x.base) (same x.theirs x.base) (same x.mine x.theirs) refl refl refl
  where
    by_tests : (p q r : Bool) → same x.mine x.base ≡ p → same x.theirs x.base ≡ q → same x.mine x.theirs ≡ r → Cases rule x
    by_tests true q r ep eq er = untouched (same_true x.mine x.base ep)
        (ap (λ (v : Bool). pick (favoured rule x.mine x.theirs) v (same x.theirs x.base) (same x.mine x.theirs)) ep)
    by_tests false true r ep eq er = alone (same_false x.mine x.base ep) (same_true x.theirs x.base eq)
        (ap (λ (v : Bool). pick (favoured rule x.mine x.theirs) v (same x.theirs x.base) (same x.mine x.theirs)) ep ∙ ap (λ (v : Bool). pick (favoured rule x.mine x.theirs) false v (same x.mine x.theirs)) eq)
    by_tests false false true ep eq er = agreed (same_false x.mine x.base ep) (same_false x.theirs x.base eq) (same_true x.mine x.theirs er)
        (ap (λ (v : Bool). pick (favoured rule x.mine x.theirs) v (same x.theirs x.base) (same x.mine x.theirs)) ep ∙ ap (λ (v : Bool). pick (favoured rule x.mine x.theirs) false v (same x.mine x.theirs)) eq
        ∙ ap (λ (v : Bool). pick (favoured rule x.mine x.theirs) false false v) er)
    by_tests false false false ep eq er = contested (same_false x.mine x.base ep) (same_false x.theirs x.base eq) (same_false x.mine x.theirs er)
        (ap (λ (v : Bool). pick (favoured rule x.mine x.theirs) v (same x.theirs x.base) (same x.mine x.theirs)) ep ∙ ap (λ (v : Bool). pick (favoured rule x.mine x.theirs) false v (same x.mine x.theirs)) eq
        ∙ ap (λ (v : Bool). pick (favoured rule x.mine x.theirs) false false v) er)
        (ap (λ (v : Bool). contest v (same x.theirs x.base) (same x.mine x.theirs)) ep ∙ ap (λ (v : Bool). contest false v (same x.mine x.theirs)) eq
        ∙ ap (λ (v : Bool). contest false false v) er)

abbrev pub taken : Rule → Three → Place
taken rule x = of (chosen rule x) x

abbrev side_of : Three → Side → Place
side_of x side = of side x

-- what is contested is by the rule
pub contested_side : (rule : Rule) (x : Three) → is_contested x ≡ true → chosen rule x ≡ favoured rule x.mine x.theirs
contested_side rule x h = by_tests (same x.mine x.base) (same x.theirs x.base) (same x.mine x.theirs) h
  where
    by_tests : (p q r : Bool) → contest p q r ≡ true → pick (favoured rule x.mine x.theirs) p q r ≡ favoured rule x.mine x.theirs
    by_tests true q r h = absurd (cc)
    by_tests false true r h = absurd (cc)
    by_tests false false true h = absurd (cc)
    by_tests false false false h = refl

pub untouched_side : (rule : Rule) (x : Three) → x.mine ≡ x.base → chosen rule x ≡ Theirs
untouched_side rule x h = elim (cases rule x) [
  | untouched is ch ↦ ch
  | alone ne is ch ↦ absurd (ne h)
  | agreed ne nt is ch ↦ ch
  | contested ne nt nm ch co ↦ absurd (ne h)
]

pub untouched_takes_theirs : (rule : Rule) (x : Three) → x.mine ≡ x.base → taken rule x ≡ x.theirs
untouched_takes_theirs rule x h = elim (cases rule x) [
  | untouched is ch ↦ ap (side_of x) ch
  | alone ne is ch ↦ absurd (ne h)
  | agreed ne nt is ch ↦ absurd (ne h)
  | contested ne nt nm ch co ↦ absurd (ne h)
]

pub alone_takes_mine : (rule : Rule) (x : Three) → x.theirs ≡ x.base → taken rule x ≡ x.mine
alone_takes_mine rule x h = elim (cases rule x) [
  | untouched is ch ↦ ap (side_of x) ch ∙ h ∙ sym is
  | alone ne is ch ↦ ap (side_of x) ch
  | agreed ne nt is ch ↦ absurd (nt h)
  | contested ne nt nm ch co ↦ absurd (nt h)
]

pub agreed_takes_it : (rule : Rule) (x : Three) → x.mine ≡ x.theirs → taken rule x ≡ x.theirs
agreed_takes_it rule x h = elim (cases rule x) [
  | untouched is ch ↦ ap (side_of x) ch
  | alone ne is ch ↦ ap (side_of x) ch ∙ h
  | agreed ne nt is ch ↦ ap (side_of x) ch
  | contested ne nt nm ch co ↦ absurd (nm h)
]

-- what is not contested, and changed by mine, is mine
pub changed_is_mine : (rule : Rule) (x : Three) → is_contested x ≡ false → (x.mine ≡ x.base → ⊥) → taken rule x ≡ x.mine
changed_is_mine rule x free h = elim (cases rule x) [
  | untouched is ch ↦ absurd (h is)
  | alone ne is ch ↦ ap (side_of x) ch
  | agreed ne nt is ch ↦ ap (side_of x) ch ∙ sym is
  | contested ne nt nm ch co ↦ absurd (cc (free, co))
]

-- unless it is contested, both changed it to the same
pub both_changed : (rule : Rule) (x : Three) → is_contested x ≡ false → (x.mine ≡ x.base → ⊥) → (x.theirs ≡ x.base → ⊥) → x.mine ≡ x.theirs
both_changed rule x free h k = elim (cases rule x) [
  | untouched is ch ↦ absurd (h is)
  | alone ne is ch ↦ absurd (k is)
  | agreed ne nt is ch ↦ is
  | contested ne nt nm ch co ↦ absurd (cc (free, co))
]

pub cases_place : (a b : Place) → (a ≡ b) ⊎ (a ≡ b → ⊥)
cases_place a b = elim (cases_Bool (same a b)) [ inl h ↦ inl (same_true a b h) | inr h ↦ inr (same_false a b h) ]

-- changes of two commands on the same base, in either order
pub either_order : (rule : Rule) (base one two theirs : Place)
    → is_contested (record { base = base; mine = one; theirs = theirs }) ≡ false
    → is_contested (record { base = base; mine = two; theirs = theirs }) ≡ false
    → is_contested (record { base = base; mine = one; theirs = taken rule (record { base = base; mine = two; theirs = theirs }) }) ≡ false
    → taken rule (record { base = base; mine = one; theirs = taken rule (record { base = base; mine = two; theirs = theirs }) })
    ≡ taken rule (record { base = base; mine = two; theirs = taken rule (record { base = base; mine = one; theirs = theirs }) })
either_order rule base one two theirs f1 f2 f12 =
    let x1 : Three = record { base = base; mine = one; theirs = theirs } in
    let x2 : Three = record { base = base; mine = two; theirs = theirs } in
    let r1 : Place = taken rule x1 in
    let r2 : Place = taken rule x2 in
    let x12 : Three = record { base = base; mine = one; theirs = r2 } in
    let x21 : Three = record { base = base; mine = two; theirs = r1 } in
    elim (cases_place one base) [
      | inl same1 ↦
          let left : taken rule x12 ≡ r2 = untouched_takes_theirs rule x12 same1 in
          let mid : r1 ≡ theirs = untouched_takes_theirs rule x1 same1 in
          let right : taken rule x21 ≡ r2 = ap (λ (z : Place). taken rule (record { base = base; mine = two; theirs = z })) mid in
          left ∙ sym right
      | inr changed1 ↦ elim (cases_place two base) [
        | inl same2 ↦
            let right : taken rule x21 ≡ r1 = untouched_takes_theirs rule x21 same2 in
            let mid : r2 ≡ theirs = untouched_takes_theirs rule x2 same2 in
            let left : taken rule x12 ≡ r1 = ap (λ (z : Place). taken rule (record { base = base; mine = one; theirs = z })) mid in
            left ∙ sym right
        | inr changed2 ↦
            let e2 : r2 ≡ two = changed_is_mine rule x2 f2 changed2 in
            let e1 : r1 ≡ one = changed_is_mine rule x1 f1 changed1 in
            let agree : one ≡ r2 = both_changed rule x12 f12 changed1 (λ e. changed2 (sym e2 ∙ e)) in
            let left : taken rule x12 ≡ r2 = agreed_takes_it rule x12 agree in
            let right : taken rule x21 ≡ r1 = agreed_takes_it rule x21 (sym e2 ∙ sym agree ∙ sym e1) in
            left ∙ sym agree ∙ sym e1 ∙ sym right
      ]
    ]
