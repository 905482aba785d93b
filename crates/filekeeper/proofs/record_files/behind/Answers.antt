use Rattle.std.proofs.Common.{◌≡◌, ◌++◌, ℕ, List, [], length, take, drop, true, eqb, refl, sym, ap, ◌∙◌, append_assoc, take-append-drop}
use Rattle.std.specs.Cmp.Lexicographic.{pointwise}
use Rattle.std.proofs.lemmas.Bool.Decides.{Decides-eqb}
use Rattle.std.proofs.lemmas.Slice.Eq.{slice_eq-Decides}
use Rattle.filekeeper.specs.Framing.{head_of, log_bytes}
use Rattle.filekeeper.proofs.AddingLemmas.{framed_parts, next}
use Rattle.filekeeper.proofs.record_files.behind.Goals as goal

-- bytes without their front
stripped : (bytes prefix after : List ℕ) → pointwise eqb (take (length prefix) bytes) prefix ≡ true → after ≡ drop (length prefix) bytes → bytes ≡ prefix ++ after
stripped bytes prefix after same is =
    sym (take-append-drop (length prefix) bytes) ∙ ap (λ zs. zs ++ drop (length prefix) bytes) ((slice_eq-Decides Decides-eqb (take (length prefix) bytes) prefix _ refl).0 same) ∙ ap (λ zs. prefix ++ zs) (sym is)

pub loop-entry-preserved : goal.loop-entry-preserved
loop-entry-preserved c =
    let whole = c.args.whole.now in
    let i = c.loop-entry.entry-index in
    let e = c.entry-item.result in
    let so_far = log_bytes whole (take i c.args.entries.now) in
    let rest = c.in_ok-rest.rest.now in
    let head = c.in_ok-after.ensures.cases in
    let entry = c.in_ok-rest.ensures.cases in
    let after_head = stripped c.loop-entry.rest.now c.head_of.result c.in_ok-after.after.now head.0 head.1 ∙ ap (λ zs. zs ++ c.in_ok-after.after.now) (c.head_of.ensures ∙ ap (head_of whole) c.as_slice.ensures) in
    let after_entry = stripped c.in_ok-after.after.now c.as_slice-in-loop-entry.result.now rest entry.0 entry.1 ∙ ap (λ zs. zs ++ rest) c.as_slice-in-loop-entry.ensures in
    c.loop-entry.invariant
    ∙ ap (λ zs. so_far ++ zs) (after_head ∙ ap (λ zs. head_of whole e ++ zs) after_entry ∙ sym (append_assoc (head_of whole e) e rest) ∙ ap (λ zs. zs ++ rest) (sym (framed_parts whole e)))
    ∙ sym (append_assoc so_far _ rest)
    ∙ ap (λ zs. zs ++ rest) (sym (next whole [] c.args.entries.now i e c.loop-entry-test.true (sym c.entry-item.is)))
