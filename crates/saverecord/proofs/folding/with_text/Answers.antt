use Rattle.std.proofs.Common.{Result, sym, subst}
use Rattle.codec.specs.Steps.{◌>>=◌}
use Rattle.saverecord.specs.declared.log_entry.LogEntry.{LogEntry}
use Rattle.recordparts.specs.declared.refusal.RecordRefusal.{RecordRefusal}
use Rattle.saverecord.specs.Logs.{with_entry, folded_ledger}
use Rattle.recordparts.specs.Parts.{Gives}
use Rattle.saverecord.proofs.FoldLemmas.{given_readable}
use Rattle.saverecord.proofs.InstanceLemmas.{entry_instances}
use Rattle.saverecord.proofs.folding.with_text.Goals as goal

pub returns-clause-exact : goal.returns-clause-exact
returns-clause-exact c =
    subst (λ (r : Result LogEntry RecordRefusal). Gives folded_ledger c.with_entry.result (r >>= λ e. with_entry e (folded_ledger c.args.before))) (sym c.in_ok-entry.ensures.exact) c.with_entry.ensures

pub returns-clause-readable : goal.returns-clause-readable
returns-clause-readable c =
    given_readable c.in_ok-entry.entry (folded_ledger c.args.before) c.with_entry.result c.in_ok-entry.ensures.fits (entry_instances c.args.text.now c.in_ok-entry.entry c.in_ok-entry.ensures.exact) c.requires c.with_entry.ensures
