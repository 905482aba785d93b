-- The outputs that inputs name.
use Rattle.std.proofs.Common.{◌≡◌, ℕ, ◌+◌, ◌<◌, List, [], ◌∷◌, ◌++◌, length, take, get_or, Option, Some, None, IfNone, slice_get, ap, sym, ◌∙◌, subst}
use Rattle.std.specs.List.{AllZip}
use Rattle.std.proofs.lemmas.List.Elements.{Contains-get_or}
use Rattle.std.proofs.lemmas.Option.{slice_get-get_or}
use Rattle.names.specs.declared.digest.Digest.{Digest}
use Rattle.names.specs.declared.digest.Key.{Key}
use Rattle.lists.proofs.Places.{AllZip-push, take_push}
use Rattle.keytable.specs.declared.entry.Entry.{Entry}
use Rattle.keytable.specs.declared.entry.Progress.TheVariants.{Done}
use Rattle.keytable.specs.declared.table.Table.{Table}
use Rattle.keytable.specs.Failing.{HasOutput, AreThere}
use Rattle.keytable.specs.Tables.{IsTable}
use Rattle.keytable.proofs.MarkLemmas.{distinct, one_entry, read_at}

-- ---- the output that an input names

module _ (t : Table) (h : IsTable t) (input : Key × ℕ) (n : ℕ) (e x : Entry) (at : slice_get t.entries.items n ≡ Some e) (named : e.key ≡ input.0) (read : x ≡ get_or t.entries.items n x) where
  -- what is done is the entry's
  done_at : (digest : Digest) (has : HasOutput t.entries.items input digest) → x.progress ≡ Done has.outputs
  done_at digest has =
      let s = has.done.submitted in
      let same = one_entry t.entries.items (distinct t h) s.number n has.done.entry e s.at at (s.named ∙ sym named) in
      ap (λ (y : Entry). y.progress) (sym (read_at t.entries.items n e x at read) ∙ sym same) ∙ has.done.done

  pub none_undone : ((outputs : List Digest) → x.progress ≡ Done outputs → ⊥) → (digest : Digest) → HasOutput t.entries.items input digest → ⊥
  none_undone never digest has = never has.outputs (done_at digest has)

  pub none_lacking : (outputs list : List Digest) (r : Option Digest) → x.progress ≡ Done outputs → list ≡ outputs → r ≡ slice_get list input.1
      → IfNone r ((digest : Digest) → HasOutput t.entries.items input digest → ⊥)
  none_lacking outputs list (Some d) done same is = tt
  none_lacking outputs list None done same is = λ digest has.
      let both : Done outputs ≡ Done has.outputs = sym done ∙ done_at digest has in
      let one : outputs ≡ has.outputs = cc in
      let bad : None ≡ Some digest = is ∙ ap (λ (xs : List Digest). slice_get xs input.1) (same ∙ one) ∙ has.there in
      cc bad

-- ---- the outputs that inputs name

-- one more output
pub zip_more : (es : List Entry) (inputs : List (Key × ℕ)) (k : ℕ) (d : Key × ℕ) (outputs now : List Digest) (output : Digest) → k < length inputs → AllZip (HasOutput es) (take k inputs) outputs
    → HasOutput es (get_or inputs k d) output → now ≡ outputs ++ output ∷ [] → AllZip (HasOutput es) (take (k + 1) inputs) now
zip_more es inputs k d outputs now output within h has is =
    let input = get_or inputs k d in
    subst (λ (xs : List (Key × ℕ)). AllZip (HasOutput es) xs now) (sym (take_push inputs k input (slice_get-get_or inputs k d within)))
    (subst (AllZip (HasOutput es) (take k inputs ++ input ∷ [])) (sym is) (AllZip-push (HasOutput es) (take k inputs) outputs input output h has))

-- an input that is there has its output
pub has_no_none : (es : List Entry) (inputs : List (Key × ℕ)) (k : ℕ) (d : Key × ℕ) → k < length inputs → AreThere es inputs → ((digest : Digest) → HasOutput es (get_or inputs k d) digest → ⊥) → ⊥
has_no_none es inputs k d within all none =
    let has = all (get_or inputs k d) (Contains-get_or inputs k d within) in
    none has.0 has.1
