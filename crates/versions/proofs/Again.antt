-- Additions that are made again, for the same news.
use Rattle.std.proofs.Common.{◌≡◌, List, [], ◌∷◌, false, map, sym, ap, subst}
use Rattle.std.specs.Prelude.{All}
use Rattle.std.proofs.lemmas.List.Elements.{All-head, All-tail, All-cons, All-nil}
use Rattle.protocol.specs.Names.{Slot, slot_eq, Ticket}
use Rattle.protocol.specs.Machine.{News}
use Rattle.versions.specs.declared.lines.Addition.{Addition}
use Rattle.versions.specs.declared.lines.SlotLine.{SlotLine}
use Rattle.versions.specs.Additions.{HasRoom, IsAbove, AreReady}
use Rattle.versions.specs.Lines.{news_of}

first_slot : (x y : News) (xs ys : List News) → x ∷ xs ≡ y ∷ ys → x.slot ≡ y.slot
first_slot x y xs ys e = (let same : x ≡ y = cc in ap (λ (n : News). n.slot) same)

others : (x y : News) (xs ys : List News) → x ∷ xs ≡ y ∷ ys → xs ≡ ys
others x y xs ys e = cc

-- none of them is for the slot
apart_again : (s : Slot) (old new : List Addition) → map news_of new ≡ map news_of old → All (λ a. slot_eq s a.slot ≡ false) old → All (λ a. slot_eq s a.slot ≡ false) new
apart_again s old [] e h = All-nil (λ a. slot_eq s a.slot ≡ false)
apart_again s [] (b ∷ new) e h = absurd (cc e)
apart_again s (a ∷ old) (b ∷ new) e h =
    All-cons (λ x. slot_eq s x.slot ≡ false) b new
    (subst (λ z. slot_eq s z ≡ false) (sym (first_slot (news_of b) (news_of a) (map news_of new) (map news_of old) e)) (All-head (λ x. slot_eq s x.slot ≡ false) a old h))
    (apart_again s old new (others (news_of b) (news_of a) (map news_of new) (map news_of old) e) (All-tail (λ x. slot_eq s x.slot ≡ false) a old h))

pub ready_again : (lines : List SlotLine) (t : Ticket) (old new : List Addition) → map news_of new ≡ map news_of old → All (HasRoom lines) new → AreReady lines t old → AreReady lines t new
ready_again lines t old [] e room h = tt
ready_again lines t [] (b ∷ new) e room h = absurd (cc e)
ready_again lines t (a ∷ old) (b ∷ new) e room h =
    let same = sym (first_slot (news_of b) (news_of a) (map news_of new) (map news_of old) e) in
    let rest = others (news_of b) (news_of a) (map news_of new) (map news_of old) e in (
      All-head (HasRoom lines) b new room,
      subst (IsAbove lines t) same h.1,
      subst (λ s. All (λ x. slot_eq s x.slot ≡ false) new) same (apart_again a.slot old new rest h.2),
      ready_again lines t old new rest (All-tail (HasRoom lines) b new room) h.3,
    )
