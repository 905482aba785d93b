use Rattle.std.proofs.Common.{ℕ, List, arith}
use Rattle.filekeeper.proofs.FramingLemmas.{framed-length}
use Rattle.filekeeper.proofs.record_files.longer.Goals as goal

pub returns : goal.returns
returns c = λ (whole : List ℕ).
    let l = framed-length whole c.args.entry.now in
    grind (arith, l)
