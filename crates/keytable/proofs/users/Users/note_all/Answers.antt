use Rattle.std.proofs.Common.{inl, inr, sym, subst, ◌∙◌, arith}
use Rattle.std.proofs.lemmas.Bool.{cases_eq}
use Rattle.keytable.specs.Users.{IsNoted}
use Rattle.keytable.proofs.UserLemmas.{noted_front, front_front}
use Rattle.keytable.proofs.users.Users.note_all.Goals as goal

pub loop-number-preserved : goal.loop-number-preserved
loop-number-preserved c =
    let es = c.args.table.now.entries.items in
    let inv = c.loop-number.invariant in
    let e = c.in_ok-note.ensures in
    record {
      front = front_front c.args.self.now.links.items c.loop-number.self.links.items c.note.new.self.links.items inv.front e.front;
      inputs = λ before. e.inputs (inv.inputs before);
      noted = λ m past less. elim (cases_eq m c.loop-number.number) [
        | inl same ↦ subst (IsNoted es c.note.new.self.links.items) (sym same) e.noted
        | inr apart ↦ noted_front es c.loop-number.self.links.items c.note.new.self.links.items m e.front (inv.noted m past (omega (arith, less, apart)))
      ];
      befores = e.befores ∙ inv.befores;
      lasts = e.lasts ∙ inv.lasts;
    }

pub returns-clause-noted : goal.returns-clause-noted
returns-clause-noted c m past less = c.loop-number.invariant.noted m past (let t = c.loop-number-test.false in let n = c.len-number-end.ensures in let len = c.args.table.now.entries.ok.0 in omega (arith, less, t, n, len))
