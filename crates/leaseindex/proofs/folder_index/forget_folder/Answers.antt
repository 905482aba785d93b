use Rattle.std.proofs.Common.{◌≡◌, Some, sym, ◌∙◌}
use Rattle.leaseindex.specs.Index.{ticket_at}
use Rattle.leaseindex.proofs.IndexLemmas.{indexed-without, ticket_is}
use Rattle.leaseindex.proofs.folder_index.forget_folder.Goals as goal

pub returns-then-eq-clause-others : goal.returns-then-eq-clause-others
returns-then-eq-clause-others c g other before =
    let at : ticket_at c.args.index.now c.args.folder.now ≡ Some c.args.ticket = sym c.get.ensures.value ∙ sym c.copied.ensures ∙ ticket_is c.copied.result c.args.ticket (sym c.eq.ensures ∙ c.if-eq.true) in
    indexed-without c.args.index.now c.swap_remove.new.self c.args.folder.now c.args.ticket at c.swap_remove.ensures.updates.0 g other before
