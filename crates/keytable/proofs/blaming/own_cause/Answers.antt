use Rattle.std.proofs.Common.{ℕ, List, refl, sym, ap, ◌∙◌, subst}
use Rattle.names.specs.declared.digest.Key.{Key}
use Rattle.keytable.specs.declared.cause.Cause.{Cause}
use Rattle.keytable.specs.declared.cause.Cause.TheVariants as causes
use Rattle.keytable.specs.declared.entry.Entry.{Entry}
use Rattle.keytable.specs.Causes.{IsFirstLacking, called, lacks}
use Rattle.keytable.proofs.CauseLemmas.{never_itself}
use Rattle.keytable.proofs.MarkLemmas.{read_at}
use Rattle.keytable.proofs.blaming.own_cause.Goals as goal

pub returns-in-Failed-clause-found : goal.returns-in-Failed-clause-found
returns-in-Failed-clause-found c = λ entry at.
    let fault = c.in-Failed.fault in
    let same = read_at c.args.table.now.entries.items c.args.number entry c.index-entry.result.now at c.index-entry.ensures in
    let blame : Entry → Cause = λ x. causes.Failed x.key fault in
    called fault (ap (λ (x : Entry). x.progress) same ∙ c.in-Failed.is) (ap blame (sym same))

pub returns-in_err-key : goal.returns-in_err-key
returns-in_err-key c = rw c.from_residual.ensures (record {
  found = tt;
  none = λ entry at.
      let es = c.args.table.now.entries.items in
      never_itself es entry c.index-entry.result.now c.as_slice.result.now (read_at es c.args.number entry c.index-entry.result.now at c.index-entry.ensures) c.as_slice.ensures
      c.in_default.not-Failed c.in_err-key.ensures.none;
})

pub returns : goal.returns
returns c = record {
  found = λ entry at.
      let es = c.args.table.now.entries.items in
      let same = read_at es c.args.number entry c.index-entry.result.now at c.index-entry.ensures in
      lacks (c.in_ok-key.key, c.in_ok-key.index) (λ fault failed. c.in_default.not-Failed fault (ap (λ (x : Entry). x.progress) (sym same) ∙ failed))
      (subst (λ (xs : List (Key × ℕ)). IsFirstLacking es xs (c.in_ok-key.key, c.in_ok-key.index)) (c.as_slice.ensures ∙ ap (λ (x : Entry). x.inputs) (sym same)) c.in_ok-key.ensures.found)
      refl;
  none = tt;
}
