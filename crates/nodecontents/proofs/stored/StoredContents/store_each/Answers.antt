use Rattle.std.proofs.Common.{ap, sym, ◌∙◌, arith, length-append}
use Rattle.nodecontents.specs.Stored.{store_in, store_one}
use Rattle.nodecontents.proofs.StoredLemmas.{store_each-push}
use Rattle.nodecontents.proofs.stored.StoredContents.store_each.Goals as goal

pub loop-content-preserved : goal.loop-content-preserved
loop-content-preserved c =
    record {
      contents = c.store.ensures.store
          ∙ ap (store_one c.in-Some.content) c.loop-content.invariant.contents
          ∙ sym (store_each-push c.loop-content.yielded c.in-Some.content (store_in c.args.self.now.by_digest));
      room = simp length-append (omega (arith, c.store.ensures.spare, c.loop-content.invariant.room));
    }
