use Rattle.std.proofs.Common.{◌≡◌, arith}
use Rattle.std.proofs.lemmas.Grind.{common_steps}
use Rattle.opsproto.specs.Writing.{definition_text}
use Rattle.opsproto.proofs.OpLaws.{definition_again}
use Rattle.opsproto.proofs.write.write_definition.Goals as goal

pub returns-clause-read : goal.returns-clause-read
returns-clause-read c = λ fits few.
    let text = c.put_entries.new.out.items in
    let spelled : text ≡ definition_text c.args.definition.now = grind (arith, common_steps) in
    let valid = c.in_ok-put_entries.ensures.valid in
    definition_again c.args.definition.now text spelled valid fits few
