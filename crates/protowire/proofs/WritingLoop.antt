-- Writing a number group by group, as the loop does.
use Rattle.std.proofs.Common.{◌≡◌, ℕ, zero, suc, ◌+◌, ◌*◌, ◌/◌, ◌%◌, ◌<◌, ◌≤◌, ◌^◌, List, [], ◌∷◌, ◌++◌, length, take, refl, sym, ap, ◌∙◌, append_assoc, arith}
use Rattle.std.proofs.lemmas.Bool.{lt-ltb, le-ltb}
use Rattle.std.proofs.lemmas.List.{append-nil, take_at}
use Rattle.std.proofs.Math.Nat.{pow-suc}
use Rattle.protowire.specs.Writing.{minimal_in, minimal}

-- some groups of a number are written behind the old bytes, the rest is still to be written
pub record Written (old new : List ℕ) (number rest : ℕ) : Type 0 where
  pub groups : List ℕ
  pub places : ℕ
  pub items : new ≡ old ++ groups
  pub whole : groups ++ minimal_in places rest ≡ minimal number
  pub bound : rest < 2 * 128 ^ places

pub written_none : (old : List ℕ) (number : ℕ) → number < 2 ^ 64 → Written old old number number
unfolding minimal
written_none old number fits = record { groups = []; places = 9; items = sym (append-nil old); whole = refl; bound = fits }

more : (places : ℕ) (old new groups : List ℕ) (number rest : ℕ) → new ≡ old ++ groups → groups ++ minimal_in places rest ≡ minimal number → rest < 2 * 128 ^ places → 128 ≤ rest
    → Written old (new ++ (rest % 128 + 128) ∷ []) number (rest / 128)
unfolding minimal_in
more zero old new groups number rest items whole bound great = absurd (omega arith)
more (suc places) old new groups number rest items whole bound great =
    let wide : rest < 2 * (128 ^ places * 128) = rw pow-suc at bound in
    let group = (rest % 128 + 128) ∷ [] in
    let next : groups ++ minimal_in (suc places) rest ≡ (groups ++ group) ++ minimal_in places (rest / 128) = rw (le-ltb rest 128 great) (sym (append_assoc groups group (minimal_in places (rest / 128)))) in
    record {
      groups = groups ++ group;
      places = places;
      items = ap (λ (t : List ℕ). t ++ group) items ∙ append_assoc old groups group;
      whole = sym next ∙ whole;
      bound = omega (arith, wide);
    }

pub written_more : (old new : List ℕ) (number rest : ℕ) → Written old new number rest → 128 ≤ rest → Written old (new ++ (rest % 128 + 128) ∷ []) number (rest / 128)
written_more old new number rest w great = more w.places old new w.groups number rest w.items w.whole w.bound great

last : (places rest : ℕ) → rest < 128 → minimal_in places rest ≡ rest ∷ []
unfolding minimal_in
last zero rest small = refl
last (suc places) rest small = rw (lt-ltb rest 128 small) refl

pub written_all : (old new : List ℕ) (number rest : ℕ) → Written old new number rest → rest < 128 → new ++ rest ∷ [] ≡ old ++ minimal number
written_all old new number rest w small =
    ap (λ (t : List ℕ). t ++ rest ∷ []) w.items ∙ append_assoc old w.groups (rest ∷ []) ∙ ap (λ (t : List ℕ). old ++ t) (ap (λ (t : List ℕ). w.groups ++ t) (sym (last w.places rest small)) ∙ w.whole)

-- the old bytes stand in front of what follows them
pub front : (old more new : List ℕ) → new ≡ old ++ more → take (length old) new ≡ old
front old more new e = ap (take (length old)) e ∙ take_at old more (length old) refl

pub written_front : (old new : List ℕ) (number rest : ℕ) → Written old new number rest → take (length old) new ≡ old
written_front old new number rest w = front old w.groups new w.items
