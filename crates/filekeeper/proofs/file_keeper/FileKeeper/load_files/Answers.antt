use Rattle.filekeeper.specs.RecordFiles.{calls_in}
use Rattle.filekeeper.proofs.KeptLemmas.{durable_ok}
use Rattle.filekeeper.proofs.file_keeper.FileKeeper.load_files.Goals as goal

pub returns-clause-read : goal.returns-clause-read
returns-clause-read g c = rw (← c.self.view_is) c.load.ensures.read

pub returns-clause-any_moment : goal.returns-clause-any_moment
returns-clause-any_moment g c = rw (← c.self.view_is) c.load.ensures.any_moment

pub returns-clause-durable : goal.returns-clause-durable
returns-clause-durable g c =
    let y = c.load.new.self in
    durable_ok c.load.result y.log y.lasting (calls_in y) y.settled y.told y.left c.load.ensures.ok
