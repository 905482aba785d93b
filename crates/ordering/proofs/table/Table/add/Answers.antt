use Rattle.std.proofs.Common.{ℕ, List, Some, cond, [], ◌∷◌, ◌++◌, sym, ap, ◌∙◌}
use Rattle.ordering.specs.declared.table.Table.{Table}
use Rattle.names.specs.Digests.{digest_eq}
use Rattle.ordering.specs.Firsts.{number_in}
use Rattle.ordering.proofs.TableLemmas.{table_more, not_some}
use Rattle.ordering.proofs.table.Table.add.Goals as goal

pub returns-clause-table : goal.returns-clause-table
returns-clause-table c = λ digests len h.
    let new : Table = record { numbers = c.insert.new.self; places = c.push_reserved.new.self } in
    table_more digests c.args.self.now new c.args.digest h
    (not_some (number_in c.args.self.now c.args.digest) c.contains_key.result c.contains_key.ensures c.if-contains_key.false)
    (c.push_reserved.ensures.items ∙ ap (λ (places : List ℕ). places ++ c.args.place ∷ []) c.in_ok-reserve.ensures.items
    ∙ ap (λ (n : ℕ). c.args.self.now.places.items ++ n ∷ []) (sym len))
    (λ d. c.in_ok-insert.ensures.updates.0 d
    ∙ ap (λ (n : ℕ). cond (digest_eq c.args.digest d) (Some n) (number_in c.args.self.now d)) (c.len-number.ensures ∙ c.args.self.now.places.ok.0))
