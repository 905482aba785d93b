use Rattle.std.proofs.Common.{◌+◌, ap, drop, arith, refl, ◌∙◌}
use Rattle.std.proofs.lemmas.List.{length-drop, take_rest}
use Rattle.std.proofs.lemmas.Option.{slice_get_within}
use Rattle.keytable.specs.declared.entry.Entry.{Entry}
use Rattle.jobs.proofs.ListLemmas.{search_place, place_free, room_left, same_count, inserted, inserted_keeps}
use Rattle.keytable.proofs.MarkLemmas.{read_at}
use Rattle.jobs.proofs.ready_list.ReadyList.add.Goals as goal

pub put-requires-clause-room : goal.put-requires-clause-room
put-requires-clause-room c =
    let es = c.args.table.now.entries.items in
    let l = c.args.self.now in
    let h = c.requires.list in
    let p = search_place es l h _ c.args.number c.in-Err.place (take_rest c.deref.result.now l.taken ∙ ap (drop l.taken) c.deref.ensures.value) c.in-Err.ensures.position in
    let left = room_left es l h c.args.number c.requires.ready (place_free es l h c.in-Err.place c.args.number p) in
    let r = c.requires.room.numbers in
    let len = l.numbers.ok.0 in
    omega (arith, left, r, len)

pub index-requires : goal.index-requires
index-requires c =
    let r = c.requires.ready in
    let within = slice_get_within c.args.table.now.entries.items c.args.number r.entry r.at in
    let len = c.args.table.now.entries.ok.0 in
    omega (arith, within, len)

pub put-requires-2-clause-place : goal.put-requires-2-clause-place
put-requires-2-clause-place c =
    let es = c.args.table.now.entries.items in
    let l = c.args.self.now in
    let h = c.requires.list in
    let p = search_place es l h _ c.args.number c.in-Err.place (take_rest c.deref.result.now l.taken ∙ ap (drop l.taken) c.deref.ensures.value) c.in-Err.ensures.position in
    let within = p.within in
    let rest = length-drop l.taken l.numbers.items in
    let same = same_count es l h in
    let all = h.within in
    let len = l.keys.ok.0 in
    omega (arith, within, rest, same, all, len)

pub put-requires-2-clause-room : goal.put-requires-2-clause-room
put-requires-2-clause-room c =
    let es = c.args.table.now.entries.items in
    let l = c.args.self.now in
    let h = c.requires.list in
    let p = search_place es l h _ c.args.number c.in-Err.place (take_rest c.deref.result.now l.taken ∙ ap (drop l.taken) c.deref.ensures.value) c.in-Err.ensures.position in
    let left = room_left es l h c.args.number c.requires.ready (place_free es l h c.in-Err.place c.args.number p) in
    let same = same_count es l h in
    let r = c.requires.room.keys in
    let len = l.keys.ok.0 in
    omega (arith, left, same, r, len)

pub returns-clause-list : goal.returns-clause-list
returns-clause-list c =
    let es = c.args.table.now.entries.items in
    let l = c.args.self.now in
    let h = c.requires.list in
    let r = c.requires.ready in
    let p = search_place es l h _ c.args.number c.in-Err.place (take_rest c.deref.result.now l.taken ∙ ap (drop l.taken) c.deref.ensures.value) c.in-Err.ensures.position in
    inserted es l h _ c.in-Err.place _ c.args.number c.index.result.now.key p refl r
    (record { entry = r.entry; at = r.at; named = ap (λ (e : Entry). e.key) (read_at es c.args.number r.entry c.index.result.now r.at c.index.ensures) }) refl c.put.ensures.items c.put-2.ensures.items

pub returns-clause-kept : goal.returns-clause-kept
returns-clause-kept c = inserted_keeps c.args.table.now.entries.items c.args.self.now c.requires.list (record { taken = c.args.self.now.taken; numbers = c.put.new.items; keys = c.put-2.new.items; cursors = c.args.self.now.cursors })
    c.in-Err.place (c.args.self.now.taken + c.in-Err.place) c.args.number refl refl c.put.ensures.items
