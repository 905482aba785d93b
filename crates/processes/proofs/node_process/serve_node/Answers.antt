use Rattle.std.proofs.lemmas.Option.{IfSome_then}
use Rattle.std.proofs.lemmas.Result.{on_ok_weaker}
use Rattle.processes.proofs.node_process.serve_node.Goals as goal

pub returns-clause-served : goal.returns-clause-served
returns-clause-served g c = on_ok_weaker c.serve.result (λ h. IfSome_then (g.R.Read.remaining c.args.reader) h (λ text served.
    (c.serve.new.step, rw c.as_bytes.ensures.value at served))) c.serve.ensures
