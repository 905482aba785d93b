use Rattle.std.proofs.Common.{◌≡◌, Ok, refl, sym, ap, ◌∙◌}
use Rattle.protocol.specs.Ledger.{reads}
use Rattle.saverecord.specs.Ledgers.{ledger_of}
use Rattle.saverecord.specs.Logs.{ledger_in, saved_by, saved_in}
use Rattle.ledger.proofs.ledger.Ledger.load.Goals as goal

pub returns-in-Ok-of-clause-answer : goal.returns-in-Ok-of-clause-answer
unfolding saved_in
returns-in-Ok-of-clause-answer g c =
    let read : ledger_in (g.K.Keeper.kept c.args.keeper.now) ≡ Ok (ledger_of c.in-Ok-read.read) = ap ledger_in (sym c.in-Ok.ensures.texts) ∙ c.in-Ok-read.ensures.exact in
    (c.in-Ok.ensures.exact, (_, record { kept = ledger_of c.in-Ok-read.read; read = read; saved = refl }), c.in-Ok-of.ensures ∙ ap reads (sym (ap saved_by read)))
