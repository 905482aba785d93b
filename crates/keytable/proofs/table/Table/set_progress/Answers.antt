use Rattle.std.proofs.Common.{sym, ◌∙◌, rules}
use Rattle.keytable.proofs.MarkLemmas.{entry_at}
use Rattle.keytable.proofs.ProgressLemmas.{moved_keys}
use Rattle.keytable.proofs.table.Table.set_progress.Goals as goal

pub returns-clause-table : goal.returns-clause-table
returns-clause-table c = λ h.
    let es = c.args.self.now.entries.items in
    let at = entry_at es c.args.number c.index_mut.result.now c.requires (search rules) in
    record { listed = h.listed ∙ sym (moved_keys es c.args.number c.index_mut.result.now at c.args.progress); unique = h.unique }
