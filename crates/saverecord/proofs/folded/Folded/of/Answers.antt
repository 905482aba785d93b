use Rattle.std.proofs.Common.{◌≡◌, filter, ap, ◌∙◌, rules}
use Rattle.std.proofs.lemmas.Fn.{filter_same}
use Rattle.holdings.specs.Leases.{among}
use Rattle.holdings.specs.Lives.{is_among, life_at}
use Rattle.protocol.specs.Ledger.{is_saved, saves, reads}
use Rattle.versions.specs.Lines.{line_at}
use Rattle.saverecord.specs.Ledgers.{ledger_of}
use Rattle.saverecord.proofs.folded.Folded.of.Goals as goal

pub returns : goal.returns
returns c =
    let kept : c.retain.new.self.items ≡ filter is_saved c.into_vec-leases.result.items = filter_same _ _ _ (λ x b f' k. search rules) _ _ c.retain.ensures.filtered in
    let live : c.retain.new.self.items ≡ filter is_saved c.args.whole.leases = kept ∙ ap (filter is_saved) c.into_vec-leases.ensures in
    let lives : c.of.result.seen ≡ c.args.whole.lives = c.of.ensures ∙ c.into_vec.ensures in
    let nodes : c.of-2.result.retired ≡ c.args.whole.retired_nodes = c.of-2.ensures ∙ c.into_vec-2.ensures in
    let retired : c.into_vec-3.result.items ≡ c.args.whole.retired = c.into_vec-3.ensures in
    let lines : c.of-3.result ≡ c.args.whole.lines = c.of-3.ensures ∙ c.into_vec-4.ensures in
    (λ i. record (reads (saves (ledger_of c.args.whole))) { live = live i; retired = among (retired i); gone = is_among (nodes i); line = line_at (lines i); lives = life_at (lives i) })
