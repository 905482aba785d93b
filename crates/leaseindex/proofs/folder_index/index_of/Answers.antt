use Rattle.std.proofs.Common.{[], ap, sym, subst, ◌∙◌}
use Rattle.std.proofs.lemmas.List.Elements.{All-nil}
use Rattle.std.specs.Map.{update_all}
use Rattle.names.specs.Folders.{folder_eq}
use Rattle.leaseindex.specs.Index.{ticket_at, IsIndexed, AreIndexed}
use Rattle.leaseindex.proofs.IndexLemmas.{indexed-all}
use Rattle.leaseindex.proofs.folder_index.index_of.Goals as goal

pub returns : goal.returns
returns c =
    subst (λ at. AreIndexed at c.args.leases.now) (sym (c.put_all.ensures ∙ ap (update_all folder_eq (ticket_at c.in_ok-index.index)) c.in_ok-entries.ensures))
    (indexed-all c.args.leases.now [] (ticket_at c.in_ok-index.index) c.requires.apart (All-nil (IsIndexed (ticket_at c.in_ok-index.index))))
