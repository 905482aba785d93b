use Rattle.std.proofs.Common.{List, ℕ, Result, ap, sym, subst, ◌∙◌}
use Rattle.codec.specs.Steps.{◌>>=◌}
use Rattle.protocol.specs.Ledger.{Ledger, saves, reads}
use Rattle.saverecord.specs.declared.record.Record.{Record}
use Rattle.recordparts.specs.declared.refusal.RecordRefusal.{RecordRefusal}
use Rattle.saverecord.specs.Ledgers.{ledger_of, record_in}
use Rattle.saverecord.specs.Logs.{with_entries, agreed, IsReadable}
use Rattle.saverecord.proofs.FoldLemmas.{kept_readable}
use Rattle.saverecord.proofs.log.Log.read.Goals as goal

pub loop-text-init : goal.loop-text-init
loop-text-init c =
    let whole = c.in_ok-record_in.field-0 in
    record {
      readable = subst IsReadable (sym c.of-folded.ensures) (kept_readable whole c.in_ok-record_in.ensures.kept);
      folded = ap (λ (q : Ledger). with_entries c.entries-text-items.result.now q >>= agreed) c.of-folded.ensures
          ∙ ap (λ (texts : List (List ℕ)). with_entries texts (reads (saves (ledger_of whole))) >>= agreed) c.entries-text-items.ensures
          ∙ sym (ap (λ (x : Result Record RecordRefusal). x >>= λ w. with_entries c.args.self.now.entries (reads (saves (ledger_of w))) >>= agreed) (ap record_in (sym c.whole.ensures) ∙ c.in_ok-record_in.ensures.exact));
    }
