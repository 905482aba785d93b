-- Tickets along a line, and the number of a ticket.
use Rattle.std.proofs.Common.{◌≡◌, ℕ, suc, ◌+◌, ◌-◌, ◌<◌, ◌≤◌, true, List, [], ◌∷◌, ◌++◌, length, get_or, Some, inl, inr, ltb, refl, ◌∙◌, subst, arith, length-append}
use Rattle.std.specs.Prelude.{All, nat_lt, slice_get}
use Rattle.std.proofs.Math.Bool.{and-true, and-false}
use Rattle.std.specs.List.Sorted.{IsStrictlyIncreasing}
use Rattle.std.proofs.lemmas.Bool.{cases_Bool, and_parts, lt-ltb}
use borrow.Author.Tests.{ltb-true, ltb-false}
use Rattle.std.proofs.lemmas.List.{get_or-map, length-map, map-append, get_or_append_left, get_or-append_right}
use Rattle.farm_base.specs.declared.message.LineVersion.{LineVersion}
use Rattle.names.specs.declared.number.Ticket.{Ticket}
use Rattle.lists.proofs.Rising.{tail_rises}
use Rattle.versions.specs.Line.{IsLine, tickets, is_above_all}

abbrev ticket_of : LineVersion → ℕ
ticket_of v = v.ticket.0

-- ---- one more version

pushed : (xs : List ℕ) (x : ℕ) → IsStrictlyIncreasing xs → ((i : ℕ) → i < length xs → get_or xs i 0 < x) → IsStrictlyIncreasing (xs ++ x ∷ [])
pushed xs x up below k inside =
    let len = length-append xs (x ∷ []) in
    let this : get_or (xs ++ x ∷ []) k 0 ≡ get_or xs k 0 = get_or_append_left xs (x ∷ []) 0 k (omega arith) in
    elim (cases_Bool (ltb (k + 1) (length xs))) [
      | inl within ↦
          let lt : k + 1 < length xs = ltb-true (k + 1) (length xs) within in
          let next : get_or (xs ++ x ∷ []) (k + 1) 0 ≡ get_or xs (k + 1) 0 = get_or_append_left xs (x ∷ []) 0 (k + 1) lt in
          rw (this, next) (up k lt)
      | inr last ↦
          let ge : length xs ≤ k + 1 = ltb-false (k + 1) (length xs) last in
          let next : get_or (xs ++ x ∷ []) (k + 1) 0 ≡ get_or (x ∷ []) (k + 1 - length xs) 0 = get_or-append_right xs (x ∷ []) (length xs) (k + 1) 0 refl ge in
          let zero_left : k + 1 - length xs ≡ 0 = omega arith in
          rw (this, next, zero_left) (below k (omega arith))
    ]

-- a ticket above all goes to the end
pub IsLine-push : (line : List LineVersion) (v : LineVersion) → IsLine line → All (λ w. w.ticket.0 < v.ticket.0) line → IsLine (line ++ v ∷ [])
IsLine-push line v up above k inside =
    let whole = map-append ticket_of line (v ∷ []) in
    let len = length-map line ticket_of in
    let inside' : k + 1 < length (tickets line ++ v.ticket.0 ∷ []) = rw whole at inside in
    rw whole (pushed (tickets line) v.ticket.0 up (λ i lt. below i lt) k inside')
  where
    below : (i : ℕ) → i < length (tickets line) → get_or (tickets line) i 0 < v.ticket.0
    below i lt =
        let inside : i < length line = omega (arith, length-map line ticket_of) in
        rw (get_or-map ticket_of line i v 0 inside) (above i v inside)

-- a ticket above the last is above all
pub below_last : (t : Ticket) (line : List LineVersion) (v : LineVersion) → IsLine line → slice_get line (length line - 1) ≡ Some v → is_above_all t line ≡ nat_lt v.ticket.0 t.0
below_last t [] v up e = absurd (cc e)
below_last t (x ∷ []) v up e = (let same : x ≡ v = cc e in subst (λ (w : LineVersion). is_above_all t (x ∷ []) ≡ nat_lt w.ticket.0 t.0) same (and-true (nat_lt x.ticket.0 t.0)))
below_last t (x ∷ y ∷ line) v up e =
    let place : length (x ∷ y ∷ line) - 1 ≡ suc (length (y ∷ line) - 1) = omega arith in
    let rest : is_above_all t (y ∷ line) ≡ nat_lt v.ticket.0 t.0 = below_last t (y ∷ line) v (tail_rises x.ticket.0 (tickets (y ∷ line)) up) (rw place at e) in
    let less : x.ticket.0 < y.ticket.0 = up 0 (omega arith) in
    elim (cases_Bool (nat_lt v.ticket.0 t.0)) [
      | inl below ↦
          let all : is_above_all t (y ∷ line) ≡ true = rest ∙ below in
          let next : y.ticket.0 < t.0 = ltb-true y.ticket.0 t.0 (and_parts (nat_lt y.ticket.0 t.0) (is_above_all t line) all).0 in
          let first : nat_lt x.ticket.0 t.0 ≡ true = lt-ltb x.ticket.0 t.0 (omega arith) in
          rw first rest
      | inr above ↦ rw (rest, above) (and-false (nat_lt x.ticket.0 t.0))
    ]
