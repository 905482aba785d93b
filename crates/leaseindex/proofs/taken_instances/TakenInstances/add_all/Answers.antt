use Rattle.std.proofs.Common.{ℕ, ◌&&◌, eqb, ◌∙◌, arith, length-append}
use Rattle.names.specs.Folders.{folder_eq}
use Rattle.protocol.specs.Names.{FolderName}
use Rattle.leaseindex.proofs.TakenLemmas.{any_push}
use Rattle.leaseindex.proofs.taken_instances.TakenInstances.add_all.Goals as goal

pub loop-folder-preserved : goal.loop-folder-preserved
loop-folder-preserved c = record {
  taken = λ f i to. c.add.ensures.taken f i to
      ∙ any_push (λ (e : FolderName × ℕ). folder_eq e.0 f && eqb e.1 i) c.loop-folder.yielded (c.in-Some.folder, c.in-Some.instance) _ _ (c.loop-folder.invariant.taken f i to);
  room = simp length-append (omega (arith, c.add.ensures.room, c.loop-folder.invariant.room));
}
