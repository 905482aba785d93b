-- A version at the end of a slot's line.
use mathlib.Core.Path.{fun_ext}
use Rattle.std.proofs.Common.{◌≡◌, ◌<◌, List, [], ◌∷◌, ◌++◌, true, false, length, map, Some, None, refl, sym, ◌∙◌, ap, subst, inl, inr, append-nil}
use Rattle.std.proofs.lemmas.Bool.{cases_Bool}
use Rattle.std.specs.Prelude.{All}
use Rattle.std.proofs.lemmas.List.Elements.{All-head, All-tail}
use Rattle.protocol.specs.Names.{Slot, slot_eq, Ticket}
use Rattle.protocol.specs.Machine.{LineVersion, digest_for, version_of}
use Rattle.versions.specs.declared.lines.Addition.{Addition}
use Rattle.versions.specs.declared.lines.Added.{Added}
use Rattle.versions.specs.declared.lines.SlotLine.{SlotLine}
use Rattle.versions.specs.Lines.{line_at, lines_with, news_of}
use Rattle.versions.specs.Additions.{AreReady, adds, adds_all}
use Rattle.versions.proofs.Ordered.{other_slot}

none_for : (s : Slot) (a : Addition) (rest : List Addition) → slot_eq a.slot s ≡ true → All (λ b. slot_eq a.slot b.slot ≡ false) rest → digest_for s (map news_of rest) ≡ None
none_for s a [] e h = refl
none_for s a (b ∷ rest) e h =
    let differ : slot_eq b.slot s ≡ false = other_slot a.slot b.slot (All-head (λ b. slot_eq a.slot b.slot ≡ false) b rest h) s e in
    rw differ (none_for s a rest e (All-tail (λ b. slot_eq a.slot b.slot ≡ false) b rest h))

-- no slot occurs twice among these
abbrev AreApart : List Addition → Type 0
AreApart [] = Unit {0}
AreApart (a ∷ rest) = All (λ b. slot_eq a.slot b.slot ≡ false) rest × AreApart rest

apart_of : (ls : List SlotLine) (t : Ticket) (as' : List Addition) → AreReady ls t as' → AreApart as'
apart_of ls t [] h = tt
apart_of ls t (a ∷ rest) h = (h.2, apart_of ls t rest h.3)

adds_all-at : (t : Ticket) (as' : List Addition) (f : Slot → List LineVersion) (s : Slot) → AreApart as' → adds_all t as' f s ≡ f s ++ version_of t (digest_for s (map news_of as'))
adds_all-at t [] f s h = sym (append-nil (f s))
adds_all-at t (a ∷ rest) f s h =
    let v : LineVersion = record { ticket = t; digest = a.digest } in
    adds_all-at t rest (adds a.slot v f) s h.1 ∙ elim (cases_Bool (slot_eq a.slot s)) [
      | inl e ↦ (let none = none_for s a rest e h.0 in rw (e, none) (append-nil (f s ++ v ∷ [])))
      | inr e ↦ rw e refl
    ]

-- adding one after the other gives the lines with what the commit adds
pub adds_all-is : (ls : List SlotLine) (a : Added) → AreReady ls a.ticket a.additions.items → adds_all a.ticket a.additions.items (line_at ls) ≡ lines_with ls (Some a)
adds_all-is ls a h = fun_ext (λ s. adds_all-at a.ticket a.additions.items (line_at ls) s (apart_of ls a.ticket a.additions.items h))

ready_more : (ls ms : List SlotLine) (t : Ticket) (a : Addition) (rest : List Addition) → line_at ms ≡ adds a.slot (record { ticket = t; digest = a.digest }) (line_at ls)
    → All (λ b. slot_eq a.slot b.slot ≡ false) rest → AreReady ls t rest → AreReady ms t rest
ready_more ls ms t a [] e apart h = tt
ready_more ls ms t a (b ∷ rest) e apart h =
    let differ : slot_eq a.slot b.slot ≡ false = All-head (λ b. slot_eq a.slot b.slot ≡ false) b rest apart in
    let same : line_at ls b.slot ≡ line_at ms b.slot = sym (ap (λ (f : Slot → List LineVersion). f b.slot) e ∙ rw differ refl) in (
      record {
        room = subst (λ (xs : List LineVersion). length xs < b.room) same h.0.room;
        line = h.0.line;
      },
      subst (All (λ v. v.ticket.0 < t.0)) same h.1,
      h.2,
      ready_more ls ms t a rest e (All-tail (λ b. slot_eq a.slot b.slot ≡ false) b rest apart) h.3,
    )

-- after one addition the remaining ones are still ready
pub ready-next : (ls ms : List SlotLine) (t : Ticket) (a : Addition) (rest : List Addition) → line_at ms ≡ adds a.slot (record { ticket = t; digest = a.digest }) (line_at ls) → AreReady ls t (a ∷ rest) → AreReady ms t rest
ready-next ls ms t a rest e h = ready_more ls ms t a rest e h.2 h.3
