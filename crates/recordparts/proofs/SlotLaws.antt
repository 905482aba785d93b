-- Slots as formats: a slot that is read is the slot that was written, and what was written is read again.
use Rattle.std.proofs.Common.{◌≡◌, ℕ, zero, suc, ◌^◌, ◌≤◌, Bool, true, false, ltb, List, [], ◌∷◌, ◌++◌, Option, Some, None, Ok, refl, subst, arith}
use Rattle.std.specs.Int.{w64, to_be_bytes}
use Rattle.std.proofs.lemmas.Bool.{lt-ltb, le-leb}
use Rattle.names.specs.declared.folder.Base.{Base}
use Rattle.names.specs.declared.folder.Mode.{Mode}
use Rattle.names.specs.declared.folder.Mode.TheVariants.{Shared, Private, Locked}
use Rattle.names.specs.Names.{IsOutput, IsBase}
use Rattle.names.specs.Slots.{SlotParts, IsInstance}
use Rattle.recordparts.specs.declared.layout.Layout.{Layout}
use Rattle.recordparts.specs.declared.layout.Layout.TheVariants.{Third}
use Rattle.recordparts.specs.Layouts.{has_shared}
use Rattle.recordparts.specs.Slots.{mode_of, mode_at, output_at, base_at, has_instance, slot_at, is_slot_above, slot_after}
use Rattle.recordparts.specs.Spelling.{flag_bytes, mode_bytes, base_bytes, slot_bytes}
use Rattle.recordparts.specs.Fits.{IsTypedSlot}
use Rattle.codec.proofs.Formats.{Any, IsSpelled, IsFormat, if_then, if_chosen, if_passed, ◌and_then◌, one_byte, begins, then_takes, then_again, last_again}
use Rattle.codec.proofs.Fronts.{Takes}
use Rattle.recordparts.proofs.Fields.{any32, any64, flag_format, digest_format, id_format}

mode_takes : (layout : Layout) → IsSpelled (mode_at layout) mode_bytes Any
unfolding mode_at
mode_takes layout [] fits = tt
mode_takes layout (zero ∷ rest) fits = if_then (mode_of layout 0) (λ m. Takes (0 ∷ rest) (mode_bytes m) rest) (if_passed (has_shared layout) _ _ _ (λ h. one_byte 0 rest fits)) _ _ λ m t. (t, tt)
mode_takes layout (suc zero ∷ rest) fits = (one_byte 1 rest fits, tt)
mode_takes layout (suc (suc zero) ∷ rest) fits = (one_byte 2 rest fits, tt)
mode_takes layout (suc (suc (suc n)) ∷ rest) fits = tt

mode_again : (m : Mode) (rest : List ℕ) → mode_at Third (mode_bytes m ++ rest) ≡ Ok (m, rest)
unfolding mode_at
mode_again Shared rest = refl
mode_again Private rest = refl
mode_again Locked rest = refl

mode_format : (layout : Layout) → IsFormat (mode_at layout) mode_bytes Any (λ m. layout ≡ Third)
mode_format layout = record { takes = mode_takes layout; again = λ m rest fits third. rw third (mode_again m rest) }

abbrev output_bytes : Base → List ℕ
output_bytes b = b.key.0.0 ++ to_be_bytes w64 b.index

output_format : IsFormat output_at output_bytes Any IsOutput
unfolding output_at
output_format = record {
  takes = λ bytes fits.
      then_takes digest_format bytes fits _ _ λ key after tk any.
      then_takes any64 after tk.rest_fits _ _ λ index rest ti any'.
      if_passed (ltb index (2 ^ 63)) _ _ _ λ small. (tk and_then ti, tt);
  again = λ b rest fits typed.
      let small = typed.index in
      then_again digest_format b.key.0 _ (begins (output_bytes b) rest) tt typed.key.0 _ λ after is.
      last_again any64 b.index is tt (omega arith) _ (rw (lt-ltb b.index (2 ^ 63) small) refl);
}

base_again : (o : Option Base) (rest : List ℕ) → Any o → IsBase o → base_at (base_bytes o ++ rest) ≡ Ok (o, rest)
unfolding base_at
base_again None rest fits typed = last_again flag_format false (begins (flag_bytes false) rest) tt tt _ refl
base_again (Some b) rest fits typed =
    then_again flag_format true (output_bytes b) (begins (base_bytes (Some b)) rest) tt tt _ λ after is.
    last_again output_format b is tt typed _ refl

base_format : IsFormat base_at base_bytes Any IsBase
unfolding base_at
base_format = record {
  takes = λ bytes fits. then_takes flag_format bytes fits _ _ λ some after t any.
      let is : (b : Bool) → some ≡ b → Takes bytes (flag_bytes b) after = λ b e. subst (λ x. Takes bytes (flag_bytes x) after) e t in
      if_chosen some _ _ _
      (λ e. then_takes output_format after t.rest_fits _ _ λ output rest u any'. (is true e and_then u, tt))
      (λ e. (is false e, tt));
  again = base_again;
}

instance_passes : (m : Mode) (n : ℕ) → IsInstance m n → has_instance m n ≡ true
instance_passes Shared n h = rw h refl
instance_passes Private n h = rw (le-leb 1 n h.0, le-leb n 4096 h.1) refl
instance_passes Locked n h = rw h refl

instance_small : (m : Mode) (n : ℕ) → IsInstance m n → n ≤ 4096
instance_small Shared n h = omega (arith, h)
instance_small Private n h = h.1
instance_small Locked n h = omega (arith, h)

slot_format : (layout : Layout) → IsFormat (slot_at layout) slot_bytes Any (λ s. (layout ≡ Third) × IsTypedSlot s)
unfolding slot_at slot_bytes
slot_format layout = record {
  takes = λ bytes fits.
      then_takes (mode_format layout) bytes fits _ _ λ mode behind_mode tm _.
      then_takes id_format behind_mode tm.rest_fits _ _ λ id behind_id ti _.
      then_takes base_format behind_id ti.rest_fits _ _ λ base behind_base tb _.
      then_takes any32 behind_base tb.rest_fits _ _ λ instance rest tn _.
      if_passed (has_instance mode instance) _ _ _ λ has. (tm and_then ti and_then tb and_then tn, tt);
  again = λ s rest fits typed.
      let slot = typed.1.slot in
      let small = instance_small s.folder.mode s.instance slot.instance in
      then_again (mode_format layout) s.folder.mode _ (begins (slot_bytes s) rest) tt typed.0 _ λ behind_mode i.
      then_again id_format s.folder.id _ i tt (typed.1.id, slot.folder.text) _ λ behind_id j.
      then_again base_format s.folder.base _ j tt slot.folder.base _ λ behind_base k.
      last_again any32 s.instance k tt (omega arith) _ (rw (instance_passes s.folder.mode s.instance slot.instance) refl);
}

pub slot_after_format : (layout : Layout) (before : Option SlotParts) → IsFormat (slot_after layout before) slot_bytes (λ s. is_slot_above before s ≡ true) (λ s. (layout ≡ Third) × IsTypedSlot s)
unfolding slot_after
slot_after_format layout before = record {
  takes = λ bytes fits. then_takes (slot_format layout) bytes fits _ _ λ s rest t any. if_passed (is_slot_above before s) _ _ _ λ above. (t, above);
  again = λ s rest above typed. last_again (slot_format layout) s (begins (slot_bytes s) rest) tt typed _ (rw above refl);
}
