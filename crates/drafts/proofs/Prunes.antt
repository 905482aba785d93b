-- What a prune does: to the lines, and that a ledger keeps to its rules.
use mathlib.Core.Path.{fun_ext}
use Rattle.std.proofs.Common.{◌≡◌, ◌+◌, ◌<◌, ◌≤◌, List, [], ◌∷◌, ◌++◌, Bool, true, false, cond, nat_lt, get_or, map, Some, None, Ok, Err, refl, sym, ◌∙◌, ap, subst, arith, append-nil}
use Rattle.std.proofs.lemmas.Bool.{or_parts}
use Rattle.std.specs.Prelude.{All}
use Rattle.std.specs.List.{list_any}
use Rattle.std.specs.Result.{result_err}
use Rattle.std.proofs.lemmas.List.Elements.{All-cons, All-push}
use Rattle.names.proofs.CompareLaws as laws
use Rattle.protocol.specs.Lists.{is_nil}
use Rattle.protocol.specs.Names.{Slot, slot_eq, Ticket, Digest}
use Rattle.protocol.specs.Machine.{News, LineVersion, digest_for, version_of}
use Rattle.events.specs.declared.answer.CoordNote.TheVariants as note
use Rattle.events.specs.declared.answer.CoordRefusal.{CoordRefusal}
use Rattle.events.specs.declared.answer.CoordRefusal.TheVariants as refusal
use Rattle.protocol.specs.Ledger.{Limits, Ledger, Work, has_slot, is_leased, notes, prunes, pruned}
use Rattle.versions.specs.declared.lines.Addition.{Addition}
use Rattle.versions.specs.declared.lines.Added.{Added}
use Rattle.versions.specs.declared.lines.SlotLine.{SlotLine}
use Rattle.versions.specs.Additions.{HasRoom, IsAbove, AreReady}
use Rattle.versions.specs.Lines.{line_at, lines_with, news_of}
use Rattle.effects.specs.Sound.{IsSound}

-- what passes three tests
passed : (a b c : Bool) (x y z : CoordRefusal) (r : Work) → result_err (cond a (Err x) (cond b (Err y) (cond c (Ok r) (Err z)))) ≡ None → (a ≡ false) × (b ≡ false) × (c ≡ true)
passed true b c x y z r h = absurd (cc)
passed false true c x y z r h = absurd (cc)
passed false false true x y z r h = (refl, refl, refl)
passed false false false x y z r h = absurd (cc)

-- what a prune is accepted for, and its result
pub record Pruning (k : Limits) (s : Slot) (w : Work) : Type 0 where
  pub free : is_leased w.ledger s ≡ false
  pub ticket : nat_lt w.ledger.last k.greatest ≡ true
  pub work : pruned k s w ≡ Ok (notes (note.Pruned (record { 0 = w.ledger.last + 1 })) (prunes k s w))

pub pruning : (k : Limits) (s : Slot) (w : Work) → result_err (pruned k s w) ≡ None → Pruning k s w
pruning k s w h =
    let done : Work = notes (note.Pruned (record { 0 = w.ledger.last + 1 })) (prunes k s w) in
    let p = passed (is_leased w.ledger s) (is_nil (w.ledger.line s)) (nat_lt w.ledger.last k.greatest) refusal.SlotLeased refusal.NoSuchSlot refusal.TicketsSpent done h in
    record { free = p.0; ticket = p.2; work = λ j. cond (p.0 j) (Err refusal.SlotLeased) (cond (p.1 j) (Err refusal.NoSuchSlot) (cond (p.2 j) (Ok done) (Err refusal.TicketsSpent))) }

-- the line of a slot, and a version more where it is the one
with_one : (b : Bool) (xs : List LineVersion) (t : Ticket) (d : Digest) → xs ++ version_of t (cond b (Some d) None) ≡ cond b (xs ++ record { ticket = t; digest = d } ∷ []) xs
with_one true xs t d = refl
with_one false xs t d = append-nil xs

abbrev pub news_for : Slot → Digest → List News
news_for s d = record { slot = s; digest = d } ∷ []

pub lines-one : (lines : List SlotLine) (a : Added) (s : Slot) (d : Digest) → map news_of a.additions.items ≡ news_for s d
    → lines_with lines (Some a) ≡ (λ x. cond (slot_eq s x) (line_at lines x ++ record { ticket = a.ticket; digest = d } ∷ []) (line_at lines x))
lines-one lines a s d e =
    fun_ext (λ x. ap (λ (news : List News). line_at lines x ++ version_of a.ticket (digest_for x news)) e ∙ with_one (slot_eq s x) (line_at lines x) a.ticket d)

-- what a prune adds is ready
pub ready-one : (lines : List SlotLine) (t : Ticket) (adds : List Addition) (s : Slot) (d : Digest) → map news_of adds ≡ news_for s d → All (HasRoom lines) adds → IsAbove lines t s → AreReady lines t adds
ready-one lines t [] s d e room above = absurd (cc)
ready-one lines t (a ∷ []) s d e room above =
    let same : a.slot ≡ s = (let first : news_of a ≡ record { slot = s; digest = d } = cc in ap (λ (x : News). x.slot) first) in
    (room 0 a (omega arith), subst (IsAbove lines t) (sym same) above, (λ k x inside. absurd (omega (arith, inside))), tt)
ready-one lines t (a ∷ b ∷ adds) s d e room above = absurd (cc)

-- ---- what a ledger keeps to

none_has : {A : Type 0} (test : A → Bool) (xs : List A) → list_any test xs ≡ false → All (λ x. test x ≡ false) xs
none_has test [] h k d inside = absurd (omega (arith, inside))
none_has test (x ∷ xs) h k d inside = (let both = or_parts (test x) (list_any test xs) h in All-cons (λ y. test y ≡ false) x xs both.0 (none_has test xs both.1) k d inside)

-- what holds of a line and of a new version holds of the line with it
line_all : (P : LineVersion → Type 0) (b : Bool) (xs : List LineVersion) (v : LineVersion) → All P xs → (b ≡ true → P v) → All P (cond b (xs ++ v ∷ []) xs)
line_all P true xs v h new = All-push P xs v h (new refl)
line_all P false xs v h new = h

pub sound-prunes : (k : Limits) (s : Slot) (w : Work) → IsSound w.ledger → is_leased w.ledger s ≡ false → IsSound (prunes k s w).ledger
sound-prunes k s w sound free =
    let q : Ledger = w.ledger in
    let v : LineVersion = record { ticket = record { 0 = q.last + 1 }; digest = k.empty } in
    let apart = none_has (λ g. has_slot g.slots s) q.live free in
    record {
      leases = sound.leases;
      given = λ i d inside. (let h = sound.given i d inside in omega arith);
      past = λ x. line_all (λ u. u.ticket.0 ≤ q.last + 1) (slot_eq s x) (q.line x) v (λ i d inside. (let h = sound.past x i d inside in omega arith)) (λ e. omega arith);
      ahead = λ i d inside x has.
          line_all (λ u. u.ticket.0 < (get_or q.live i d).ticket.0) (slot_eq s x) (q.line x) v (sound.ahead i d inside x has)
          (λ e. (let here : has_slot (get_or q.live i d).slots x ≡ false = ap (λ (z : Slot). has_slot (get_or q.live i d).slots z) (sym (laws.slot_exact s x e)) ∙ apart i d inside in
          let bad : true ≡ false = sym has ∙ here in absurd (cc bad)));
      asks = sound.asks;
    }

pub above-last : (lines : List SlotLine) (q : Ledger) (t : Ticket) (s : Slot) → IsSound q → q.line ≡ line_at lines → t.0 ≡ q.last + 1 → IsAbove lines t s
above-last lines q t s sound is e =
    subst (λ (f : Slot → List LineVersion). All (λ v. v.ticket.0 < t.0) (f s)) is (λ i d inside. (let h = sound.past s i d inside in omega arith))
