use Rattle.std.proofs.Common.{◌≡◌, inl, inr, ap, ◌∙◌, arith, length, ℕ, Option}
use Rattle.std.specs.declared.alloc.Global.{Global}
use Rattle.std.specs.declared.vec.Vec.{Vec}
use Rattle.std.proofs.lemmas.Bool.{cases_lt}
use Rattle.keytable.proofs.UserLemmas.{linked_grown, noted_front, resized}
use Rattle.keytable.proofs.users.Users.grow.Goals as goal

pub returns-clause-linked : goal.returns-clause-linked
returns-clause-linked c =
    let u = c.args.self.now in
    let e = c.in_ok-note_all.ensures in
    let len : c.len-3.result ≡ length c.args.table.now.entries.items = c.len-3.ensures ∙ c.args.table.now.entries.ok.0 in
    linked_grown u _ c.len-3.result c.requires.users.linked e.front (c.in_ok-reserve.ensures.items ∙ ap (λ (v : Vec (Option ℕ) Global). v.items) e.befores)
    (let more = c.requires.count in omega (arith, more, len))
    (resized c.note_all.new.self.lasts u.lasts c.resize.new.self.items c.len-3.result e.lasts c.in_ok-resize.ensures.items)

pub returns-clause-noted : goal.returns-clause-noted
returns-clause-noted c n less =
    let u = c.args.self.now in
    let es = c.args.table.now.entries.items in
    let e = c.in_ok-note_all.ensures in
    elim (cases_lt n (length u.lasts.items)) [
      | inl old ↦ noted_front es u.links.items c.note_all.new.self.links.items n e.front (c.requires.users.noted n old)
      | inr new ↦ e.noted n (let k = c.len-count.ensures in let len = u.lasts.ok.0 in omega (arith, k, len, new)) less
    ]
