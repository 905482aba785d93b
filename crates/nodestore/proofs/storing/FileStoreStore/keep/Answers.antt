use Rattle.std.proofs.Common.{◌≡◌, sym, ap, ◌∙◌}
use Rattle.names.specs.Contents.{content_digest}
use Rattle.nodestore.specs.Stores.{Filed, with_digest, has_digest}
use Rattle.nodestore.proofs.FiledLemmas.{among_last, went_well}
use Rattle.nodestore.proofs.storing.FileStoreStore.keep.Goals as goal

pub returns-clause-kept : goal.returns-clause-kept
returns-clause-kept g c =
    let digest = content_digest c.args.content.now in
    let done = went_well c.write_content.result (c.write_content.new.self ≡ with_digest digest c.args.self.now) (sym c.is_err.ensures.value ∙ c.if-is_err.false) c.write_content.ensures.done in
    ap (λ (f : Filed). has_digest f digest) done ∙ among_last c.args.self.now.digests digest
