use Rattle.std.proofs.Common.{map, arith}
use Rattle.std.specs.Map.Iter.{deref_pair}
use Rattle.std.proofs.lemmas.List.{length-append}
use Rattle.folders.specs.Files.{file_bytes, folder_bytes}
use Rattle.folders.proofs.edited_folder.push_plan.Goals as goal

pub push_file-requires : goal.push_file-requires
push_file-requires c =
    let small = rw c.in-Some.ensures.steps at c.loop-path.invariant.small in
    let count = length-append (file_bytes (c.in-Some.path.now.now, c.in-Some.content.now.now)) (folder_bytes (map deref_pair c.next.new.self)) in
    omega arith
