-- The record that a coordinator's keeper has, and the ledger that it keeps.
use Rattle.std.proofs.Common.{◌≡◌, Bool, true, false, Option, Some, None, refl, sym, ap, ◌∙◌, subst}
use Rattle.std.specs.Prelude.{IfSome, is_some}
use Rattle.protocol.specs.Ledger.{Saved, saves, reads}
use Rattle.saverecord.specs.Logs.{Holds, saved_in}
use Rattle.saverecord.specs.Texts.{Texts}
use Rattle.effects.specs.Held.{Held, ledger}
use Rattle.ledger.specs.Seen.{IsKeeping}
use Rattle.ledger.specs.Keeping.{kept_with, kept_with_some}
use Rattle.ledger.specs.Settling.{Saves, SavesIf}
use Rattle.ledger.specs.declared.text.Text.{Text}
use Rattle.ledger.proofs.Records.{saves_again, held_in}

-- a coordinator that took up what the texts hold keeps them
pub taken_up : (t : Texts) (s : Saved) → Holds t s → (held : Held) → ledger held ≡ reads (saved_in t) → IsKeeping t held false
taken_up t s h held e = record { saved = s; holds = h; up = λ d. sym (ap saves e ∙ ap (λ z. saves (reads z)) (held_in t s h) ∙ again) }
  where
    again : saves (reads s) ≡ s
    again = subst (λ z. saves (reads z) ≡ z) h.saved (saves_again h.kept)

-- ---- what a save leaves

-- a text that is kept, if there is one, holds what is saved after, where no text means that nothing changed
pub holds_after : (text : Option Text) (changed : Bool) (before after : Saved) (old new : Texts) → is_some text ≡ changed → IfSome text (λ x. (t : Texts) → Holds t before → Holds (kept_with x t) after)
    → (changed ≡ false → after ≡ before) → Holds old before → new ≡ kept_with_some text old → Holds new after
holds_after None changed before after old new some holds told h e = subst (Holds new) (sym (told (sym some))) (subst (λ t. Holds t before) (sym e) h)
holds_after (Some x) changed before after old new some holds told h e = subst (λ t. Holds t after) (sym e) (holds old h)

-- it was saved, if there was one
pub saved_ok : {K P : Type 0} (saving : K → Texts → Bool → K → Type 0) (text : Option Text) (changed : Bool) (before after : Saved) (texts : Texts) (old new : K) → is_some text ≡ changed
    → IfSome text (λ x. (t : Texts) → Holds t before → Holds (kept_with x t) after) → Holds texts before → IfSome text (λ x. P → saving old (kept_with x texts) true new) → P → (text ≡ None → new ≡ old)
    → SavesIf saving changed after old new
saved_ok saving None changed before after texts old new some holds h left p same = subst (λ b. SavesIf saving b after old new) some (same refl)
saved_ok saving (Some x) changed before after texts old new some holds h left p same =
    subst (λ b. SavesIf saving b after old new) some (record { texts = kept_with x texts; holds = holds texts h; left = left p })

-- there was one, and its save failed
pub saved_not : {K P : Type 0} (saving : K → Texts → Bool → K → Type 0) (text : Option Text) (changed : Bool) (before after : Saved) (texts : Texts) (old new : K) → is_some text ≡ changed
    → IfSome text (λ x. (t : Texts) → Holds t before → Holds (kept_with x t) after) → Holds texts before → IfSome text (λ x. P → saving old (kept_with x texts) false new) → P → (text ≡ None → false ≡ true)
    → (changed ≡ true) × Saves saving after false old new
saved_not saving None changed before after texts old new some holds h left p never = (let bad : false ≡ true = never refl in absurd (cc bad))
saved_not saving (Some x) changed before after texts old new some holds h left p never = (sym some, record { texts = kept_with x texts; holds = holds texts h; left = left p })
