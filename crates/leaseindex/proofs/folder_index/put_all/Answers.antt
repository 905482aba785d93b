use mathlib.Core.Path.{fun_ext}
use Rattle.std.proofs.Common.{◌∙◌, arith, length-append}
use Rattle.std.proofs.lemmas.Map.{update_all_push}
use Rattle.names.specs.Folders.{folder_eq}
use Rattle.leaseindex.specs.Index.{ticket_at}
use Rattle.leaseindex.proofs.folder_index.put_all.Goals as goal

pub loop-folder-preserved : goal.loop-folder-preserved
loop-folder-preserved c = record {
  tickets = fun_ext (λ f. c.in-Ok.ensures.updates.0 f
      ∙ update_all_push folder_eq (ticket_at c.args.index.now) (ticket_at c.loop-folder.index) c.loop-folder.yielded (c.in-Some.folder, c.in-Some.ticket) f (λ j. c.loop-folder.invariant.tickets j f));
  room = simp length-append (omega (arith, c.insert.ensures.spare, c.loop-folder.invariant.room));
}
