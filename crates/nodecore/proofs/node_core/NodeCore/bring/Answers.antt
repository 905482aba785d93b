use Rattle.std.proofs.Common.{◌≡◌, false, true, is_some, ap, sym, ◌∙◌, rules}
use Rattle.std.specs.List.{list_any}
use Rattle.names.specs.Contents.{content_digest}
use Rattle.protocol.specs.World.{keep}
use Rattle.protocol.specs.Names.{Digest}
use Rattle.protocol.specs.Nodes.{is_base}
use Rattle.nodecore.specs.Shown.{shown, work_of}
use Rattle.nodecontents.specs.Stored.{store_in, store_one}
use Rattle.nodecore.proofs.NodeLemmas.{brings}
use Rattle.nodecontents.proofs.StoredLemmas.{store_one-new}
use Rattle.nodecore.proofs.node_core.NodeCore.bring.Goals as goal

pub returns-clause-work : goal.returns-clause-work
returns-clause-work c =
    let absent : is_some ((shown c.args.self.now).store c.digest-digest.result) ≡ false = search rules in
    let based : list_any (is_base c.digest-digest.result) (shown c.args.self.now).asks ≡ true = search rules in
    let x = shown c.args.self.now in
    let is : c.digest-digest.result ≡ content_digest c.args.content.now = c.digest-digest.ensures.value in
    let new : is_some (x.store (content_digest c.args.content.now)) ≡ false = ap (λ (d : Digest). is_some (x.store d)) (sym is) ∙ absent in
    let stored : keep c.digest-digest.result c.args.content.now x.store ≡ store_in c.store.new.self.by_digest =
    ap (λ (d : Digest). keep d c.args.content.now x.store) is ∙ sym (store_one-new c.args.content.now x.store new)
    ∙ sym (c.store.ensures.store ∙ (λ j. store_one (c.in_ok-copy.ensures j) (c.reserve.ensures.same j))) in
    brings c.args.content.now x _ c.digest-digest.result is absent based
    (λ j. record x { store = stored j })
    ∙ sym (ap (work_of _) c.silent-2.ensures)
