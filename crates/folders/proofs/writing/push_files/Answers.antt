use Rattle.std.proofs.Common.{arith}
use Rattle.folders.proofs.FolderLaws.{file_within}
use Rattle.folders.proofs.writing.push_files.Goals as goal

pub push_file-requires : goal.push_file-requires
push_file-requires c =
    let file = c.loop-path-item.result in
    let within = file_within c.args.files.now c.loop-path.path-index file c.loop-path-test.true file c.loop-path-item.is in
    rw (c.as_str.ensures.value, c.as_slice.ensures) (omega arith)
