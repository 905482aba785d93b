use Rattle.std.proofs.Common.{rules, ◌≡◌, true, not, List, filter, sym, ap, ◌∙◌, subst}
use Rattle.std.proofs.lemmas.Fn.{filter_same}
use Rattle.names.specs.Digests.{digest_eq}
use Rattle.protocol.specs.Names.{Digest}
use Rattle.nodestore.specs.Stores.{Filed}
use Rattle.nodestore.proofs.FiledLemmas.{is_among, still_among, is_gone}
use Rattle.nodestore.proofs.file_store.FileStore.remove_content.Goals as goal

pub returns-clause-gone : goal.returns-clause-gone
returns-clause-gone g c =
    let old = c.self.inside.digests.items in
    let left : c.retain.new.self.items ≡ filter (λ (e : Digest). not (digest_eq e c.args.digest)) old =
    filter_same _ _ _ (λ x b f' k. search rules) _ _ c.retain.ensures.filtered in
    ap (λ (ds : List Digest). is_among ds c.args.digest) left ∙ is_gone c.args.digest old

pub returns-clause-others : goal.returns-clause-others
returns-clause-others g c = λ d apart h.
    let old = c.self.inside.digests.items in
    let left : c.retain.new.self.items ≡ filter (λ (e : Digest). not (digest_eq e c.args.digest)) old =
    filter_same _ _ _ (λ x b f' k. search rules) _ _ c.retain.ensures.filtered in
    let was : old ≡ c.args.self.now.digests = ap (λ (f : Filed). f.digests) c.self.view_is in
    subst (λ (ds : List Digest). is_among ds d ≡ true) (sym left)
    (still_among c.args.digest d old apart (subst (λ (ds : List Digest). is_among ds d ≡ true) (sym was) h))
