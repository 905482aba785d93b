-- A ticket that was given, and is neither live nor on a line, comes on none.
use Rattle.std.proofs.Common.{◌≡◌, ℕ, ◌<◌, ◌≤◌, List, [], ◌∷◌, ◌⊎◌, Option, Some, None, sym, ◌∙◌, subst, inl, inr, arith}
use Rattle.protocol.specs.Lists.{In}
use Rattle.protocol.specs.Names.{Slot, Ticket, Digest}
use Rattle.protocol.specs.Machine.{Grant, LineVersion, Ending, Made, Granted, Pruned, ticket_of, Message, Machine, Live, version_at, added, line, line_of, Step, Grants, Ends, Prunes, Sees, Retires, Parks, Unparks, Raises, Steps, No_step, One_more}
use Rattle.protocol.specs.World.{World, Move, Node_moves, Machine_moves, Machine_says, Fails, Recovers, Moves, Still, Then}
use Rattle.protocol.proofs.Base.{cases_option, none_some, some_is, in_left, in_right}
use Rattle.protocol.proofs.Lines.{line_source, added_ticket}
use Rattle.protocol.proofs.Steps.{Later, step_sound}
use Rattle.protocol.proofs.Invariant.{Inv}
use Rattle.protocol.proofs.Worlds.{Whole, moves_inv, step_inv}

-- what the second machine gave beside what the first did is above its last ticket
abbrev pub GivesAbove : Machine → Machine → Type 0
GivesAbove m m' = (x : Made) → In x m'.made → In x m.made ⊎ (m.last < ticket_of x)

above_refl : (m : Machine) → GivesAbove m m
above_refl m x i = inl i

above_trans : (a b c : Machine) → a.last ≤ b.last → GivesAbove a b → GivesAbove b c → GivesAbove a c
above_trans a b c le f g x i = elim (g x i) [ inl j ↦ f x j | inr lt ↦ (let l : b.last < ticket_of x = lt in inr (omega arith)) ]

new_above : (m : Machine) (y : Made) → m.last < ticket_of y → (x : Made) → In x (y ∷ m.made) → In x m.made ⊎ (m.last < ticket_of x)
new_above m y lt x (inl e) = inr (subst (λ (z : Made). m.last < ticket_of z) (sym e) lt)
new_above m y lt x (inr i) = inl i

step_above : (empty : Digest) (pool : List Message) (m m' : Machine) → Step empty pool m m' → GivesAbove m m'
step_above empty pool m m' (Grants g wants asked answers here alone home newer free) = new_above m (Granted g) newer
step_above empty pool m m' (Ends g y live may) = λ x i. inl i
step_above empty pool m m' (Prunes t s newer idle some) = new_above m (Pruned t s) newer
step_above empty pool m m' (Sees n l heard here newer none quiet) = λ x i. inl i
step_above empty pool m m' (Retires n here home none quiet) = λ x i. inl i
step_above empty pool m m' (Parks p sent none) = λ x i. inl i
step_above empty pool m m' (Unparks queue part) = λ x i. inl i
step_above empty pool m m' (Raises ceiling le) = λ x i. inl i

module _ (sha : List ℕ → Digest) where
  steps_above : (w : World) (a b : Machine) → Inv sha (record w { machine = a }) → Steps (sha []) w.pool a b → (Inv sha (record w { machine = b }) × (a.last ≤ b.last)) × GivesAbove a b
  steps_above w a b inv (No_step m) = ((inv, omega arith), above_refl a)
  steps_above w a b inv (One_more k l o steps step) =
      let before = steps_above w a l inv steps in
      let up : a.last ≤ l.last = before.0.1 in
      let more : l.last ≤ b.last = (step_sound (sha []) w.pool l b before.0.0.sound step).0.last in
      ((step_inv sha (record w { machine = l }) before.0.0 b step, omega arith), above_trans a l b up before.1 (step_above (sha []) w.pool l b step))

  -- so it is of a world whose coordinator is up, and of each later one and what its record keeps
  record Above (m : Machine) (u : World) : Type 0 where
    pub now : GivesAbove m u.machine
    pub kept : (k : Machine) → u.down ≡ Some k → GivesAbove m k

  move_above : (m : Machine) (v u : World) → Whole sha v → m.last ≤ v.machine.last → Above m v → Move sha v u → Above m u
  move_above m v u whole le before (Node_moves n sends x act) = record { now = before.now; kept = before.kept }
  move_above m v u whole le before (Machine_moves k up step) = record {
    now = above_trans m v.machine k le before.now (step_above (sha []) v.pool v.machine k step);
    kept = λ j e. none_some j (sym up ∙ e);
  }
  move_above m v u whole le before (Machine_says y up says) = record { now = before.now; kept = λ j e. none_some j (sym up ∙ e) }
  move_above m v u whole le before (Fails k up steps) = record {
    now = before.now;
    kept = λ j e. subst (GivesAbove m) (some_is k j e) (above_trans m v.machine k le before.now (steps_above v v.machine k whole.now steps).1);
  }
  move_above m v u whole le before (Recovers k e) = record { now = before.kept k e; kept = λ j p. none_some j p }

  moves_above : (w u : World) → Whole sha w → w.down ≡ None → Moves sha w u → Above w.machine u
  moves_above w u whole up (Still v) = record { now = above_refl w.machine; kept = λ k e. none_some k (sym up ∙ e) }
  moves_above w u whole up (Then a v b moves move) =
      let before = moves_inv sha w v whole moves in
      move_above w.machine v u before.0 before.1.machine.last (moves_above w v whole up moves) move

  -- a version on a line where what its ticket was given for is made
  made_line : (s : Slot) (e : ℕ → Option Ending) (v : LineVersion) (z : Made) (xs : List Made) → In z xs → In v (added (sha []) s e z) → In v (line_of (sha []) s e xs)
  made_line s e v z [] i h = absurd i
  made_line s e v z (y ∷ xs) (inl p) h = in_right v (line_of (sha []) s e xs) (added (sha []) s e y) (subst (λ k. In v (added (sha []) s e k)) p h)
  made_line s e v z (y ∷ xs) (inr i) h = in_left v (line_of (sha []) s e xs) (added (sha []) s e y) (made_line s e v z xs i h)

  -- a ticket that was given, of which there is no live grant and no version, is on no later line
  pub stays_over : (w u : World) → Whole sha w → w.down ≡ None → Moves sha w u → (t : Ticket) → t.0 ≤ w.machine.last
      → ((g : Grant) → Live w.machine g → g.ticket.0 ≡ t.0 → ⊥)
      → ((s : Slot) (v : LineVersion) → In v (line (sha []) w.machine s) → v.ticket.0 ≡ t.0 → ⊥)
      → (s : Slot) (v : LineVersion) → In v (line (sha []) u.machine s) → v.ticket.0 ≡ t.0 → ⊥
  stays_over w u whole up moves t given none off s v i at =
      let later : Later (sha []) w.machine u.machine = (moves_inv sha w u whole moves).1.machine in
      let r = line_source (sha []) s u.machine.ending v u.machine.made i in
      let its : v.ticket.0 ≡ ticket_of r.0 = added_ticket (sha []) s u.machine.ending r.0 v r.2 in
      elim ((moves_above w u whole up moves).now r.0 r.1) [
        | inr lt ↦ (let l : w.machine.last < ticket_of r.0 = lt in absurd (omega arith))
        | inl j ↦ by later r.0 its j r.2
      ]
    where
      by : Later (sha []) w.machine u.machine → (x : Made) → v.ticket.0 ≡ ticket_of x → In x w.machine.made → In v (added (sha []) s u.machine.ending x) → ⊥
      by later (Pruned p slot) its j h = off s v (made_line s w.machine.ending v (Pruned p slot) w.machine.made j h) at
      by later (Granted g) its j h = elim (cases_option (w.machine.ending g.ticket.0)) [
        | inl live ↦ none g (j, live) (sym its ∙ at)
        | inr y ↦ (let same : u.machine.ending g.ticket.0 ≡ Some y.0 = later.ending g.ticket.0 y.0 y.1 in
            let was : In v (version_at s g.ticket (w.machine.ending g.ticket.0)) = subst (λ o. In v (version_at s g.ticket o)) (same ∙ sym y.1) h in
            off s v (made_line s w.machine.ending v (Granted g) w.machine.made j was) at)
      ]
