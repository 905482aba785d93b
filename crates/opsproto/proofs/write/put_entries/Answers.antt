use Rattle.std.proofs.Common.{◌≡◌, ℕ, zero, suc, ◌+◌, Some, List, [], ◌∷◌, ◌++◌, take, drop, sym, ap, ◌∙◌, append_assoc, arith, subst}
use Rattle.std.specs.List.{AllByRecursion, slice_get}
use Rattle.protowire.specs.Fields.{message}
use Rattle.protowire.specs.Writing.{bytes_field}
use Rattle.opsproto.specs.Writing.{each_fields}
use Rattle.opsproto.specs.Written.{IsBody}
use Rattle.opsproto.proofs.write.put_entries.Goals as goal

-- the first of those left
left : (entries : List (List ℕ)) (k : ℕ) (x : List ℕ) → slice_get entries k ≡ Some x → drop k entries ≡ x ∷ drop (suc k) entries
left [] k x e = absurd (cc e)
left (y ∷ entries) zero x e = let same : y ≡ x = cc e in ap (λ (z : List ℕ). z ∷ entries) same
left (y ∷ entries) (suc k) x e = left entries k x e

valid_more : (entries : List (List ℕ)) (k : ℕ) (x : List ℕ) → slice_get entries k ≡ Some x → AllByRecursion IsBody (take k entries) → IsBody x
    → AllByRecursion IsBody (take (suc k) entries)
valid_more [] k x e h v = absurd (cc e)
valid_more (y ∷ entries) zero x e h v = let same : x ≡ y = cc e in (subst IsBody same v, tt)
valid_more (y ∷ entries) (suc k) x e h v = (h.0, valid_more entries k x e h.1 v)

pub loop-place-preserved : goal.loop-place-preserved
unfolding each_fields
loop-place-preserved c =
    let k = c.loop-place.place in
    let entries = c.args.entries.now in
    let x = c.body.result.now in
    let more : suc k ≡ k + 1 = omega arith in
    let rest = message (each_fields 1 (drop (k + 1) entries)) in
    record {
      written = ap (λ (text : List ℕ). text ++ rest) (c.in_ok-put_message.ensures.ok) ∙ append_assoc c.loop-place.out.items (bytes_field 1 x) rest
          ∙ ap (λ (es : List (List ℕ)). c.loop-place.out.items ++ message (each_fields 1 es)) (ap (λ (n : ℕ). x ∷ drop n entries) (sym more) ∙ sym (left entries k x c.body.ensures))
          ∙ c.loop-place.invariant.written;
      valid = subst (λ (n : ℕ). AllByRecursion IsBody (take n entries)) more (valid_more entries k x c.body.ensures c.loop-place.invariant.valid c.in_ok-put_message.ensures.size);
    }
