use Rattle.std.proofs.Common.{ap, sym, ◌∙◌, arith, length-append}
use Rattle.names.specs.Contents.{content_digest}
use Rattle.nodecontents.specs.Stored.{store_in, store_one}
use Rattle.nodecontents.proofs.MapLemmas.{stored-push}
use Rattle.nodecontents.proofs.stored.StoredContents.store_all.Goals as goal

pub loop-left-preserved : goal.loop-left-preserved
loop-left-preserved c =
    record {
      contents = c.store.ensures.store
          ∙ ap (store_one c.in-Some.left.content) c.loop-left.invariant.contents
          ∙ sym (stored-push content_digest c.loop-left.yielded c.in-Some.left (store_in c.args.self.now.by_digest));
      room = simp length-append (omega (arith, c.store.ensures.spare, c.loop-left.invariant.room));
    }
