use Rattle.std.proofs.Common.{◌≡◌, ℕ, List, [], ◌∷◌, ◌++◌, sym, ap, ◌∙◌, subst}
use Rattle.protocol.specs.Names.{Digest}
use Rattle.nodestore.specs.Stores.{Filed}
use Rattle.nodestore.proofs.FiledLemmas.{AreAmong, all_more, all_push}
use Rattle.nodestore.proofs.file_store.FileStore.find.Goals as goal

pub returns-in_err-push-2 : goal.returns-in_err-push-2
returns-in_err-push-2 g c =
    let same = c.in_err-push-2.ensures.items ∙ ap (λ (f : Filed). f.digests) c.self.view_is in
    subst (λ (ds : List Digest). AreAmong ds c.args.found.now.contents.items) (sym same) c.requires

pub returns-in_err-push-3 : goal.returns-in_err-push-3
returns-in_err-push-3 g c =
    let contents = c.args.found.now.contents.items in
    let old = c.self.inside.digests.items in
    let was : old ≡ c.args.self.now.digests = ap (λ (f : Filed). f.digests) c.self.view_is in
    let more = all_more old c.digest-2.result contents (subst (λ (ds : List Digest). AreAmong ds contents) (sym was) c.requires) in
    subst (λ (cs : List (List ℕ)). AreAmong c.push-2.new.self.items cs) (sym c.in_err-push-3.ensures.items)
    (subst (λ (ds : List Digest). AreAmong ds contents) (sym c.in_ok-push-2.ensures.items) more)

pub returns : goal.returns
returns g c =
    let contents = c.args.found.now.contents.items in
    let old = c.self.inside.digests.items in
    let was : old ≡ c.args.self.now.digests = ap (λ (f : Filed). f.digests) c.self.view_is in
    let more = all_push old c.digest-2.result contents c.of-content.result c.digest-2.ensures.value (subst (λ (ds : List Digest). AreAmong ds contents) (sym was) c.requires) in
    subst (λ (cs : List (List ℕ)). AreAmong c.push-2.new.self.items cs) (sym c.in_ok-push-3.ensures.items)
    (subst (λ (ds : List Digest). AreAmong ds (contents ++ c.of-content.result ∷ [])) (sym c.in_ok-push-2.ensures.items) more)
