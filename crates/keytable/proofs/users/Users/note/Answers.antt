use Rattle.std.proofs.Common.{ap, sym, subst, ◌∙◌, List}
use Rattle.keytable.specs.Users.{AreInputs}
use Rattle.keytable.specs.declared.users.Link.{Link}
use Rattle.keytable.specs.declared.entry.Entry.{Entry}
use Rattle.lists.proofs.Places.{at_place}
use Rattle.keytable.proofs.MarkLemmas.{distinct, read_at}
use Rattle.keytable.proofs.UserLemmas.{NotedBelow, note_more, note_passes, note_all_there, inputs_more, front_push}
use Rattle.keytable.proofs.users.Users.note.Goals as goal
use Rattle.keytable.proofs.users.Users.note.Goals.{in-Some+in_ok-push, in_default}

pub loop-key-preserved : goal.loop-key-preserved
loop-key-preserved c =
    let t = c.args.table.now in
    let es = t.entries.items in
    let items = c.as_slice-key-items.result.now in
    let inv = c.loop-key.invariant in
    let k = c.loop-key.key-index in
    let here = at_place es c.args.number c.requires.within in
    let is = c.as_slice-key-items.ensures ∙ ap (λ (e : Entry). e.inputs) (sym (read_at es c.args.number here.0 c.index.result.now here.1 c.index.ensures)) in
    elim c.match-number.branch [
      | in-Some+in_ok-push w ↦ (let found = w.in-Some.ensures.found in
          let links = w.in_ok-push.ensures.items in
          rw w.self-is (record {
            front = front_push c.args.self.now.links.items c.loop-key.self.links.items w.push.new.self.items _ inv.front links;
            inputs = λ before. subst (AreInputs es) (sym links) (inputs_more es items c.args.number k _ c.loop-key.self.links.items here.0 w.in-Some.source found.0 c.loop-key-test.true here.1 is found.1 found.2 (inv.inputs before));
            noted = subst (λ (xs : List Link). NotedBelow es items c.args.number xs _) (sym links)
                (note_more es items c.args.number (distinct t c.requires.table) k _ c.loop-key.self.links.items w.in-Some.source found.0 c.loop-key-test.true found.1 found.2 inv.noted);
            befores = inv.befores;
            lasts = inv.lasts;
          }))
      | in_default w ↦ rw w.self-is (record {
        front = inv.front;
        inputs = inv.inputs;
        noted = note_passes es items c.args.number k _ c.loop-key.self.links.items c.loop-key-test.true w.in_default.ensures.none inv.noted;
        befores = inv.befores;
        lasts = inv.lasts;
      })
    ]

pub returns-clause-noted : goal.returns-clause-noted
returns-clause-noted c =
    let es = c.args.table.now.entries.items in
    let here = at_place es c.args.number c.requires.within in
    let is = c.as_slice-key-items.ensures ∙ ap (λ (e : Entry). e.inputs) (sym (read_at es c.args.number here.0 c.index.result.now here.1 c.index.ensures)) in
    note_all_there es c.as_slice-key-items.result.now c.args.number c.loop-key.self.links.items c.loop-key.key-index here.0 here.1 is c.loop-key-test.false c.loop-key.invariant.noted
