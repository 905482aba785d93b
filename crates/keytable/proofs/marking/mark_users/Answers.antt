use Rattle.std.proofs.Common.{◌≡◌, Some, None, ap, sym, subst, ◌∙◌, arith, ℕ, true, slice_get, inl, inr}
use Rattle.lists.proofs.Places.{some_is}
use Rattle.ordering.specs.Flags.{flag_at}
use Rattle.keytable.specs.declared.users.Link.{Link}
use Rattle.keytable.proofs.SpreadLemmas.{marking_join, output_missing, output_there}
use Rattle.keytable.proofs.UserLemmas.{walk_at, walk_step, walk_more, walk_last, last_below, steps_left, place_within, link_there, before_is}
use Rattle.keytable.proofs.marking.mark_users.Goals as goal
use Rattle.keytable.proofs.marking.mark_users.Goals.{then-is_none, else-is_none}

pub mark-requires-clause-within : goal.mark-requires-clause-within
mark-requires-clause-within c =
    let u = c.args.users.now in
    let inv = c.loop-next.invariant in
    let within = place_within u.links.items c.args.number _ c.in-Some.place c.loop-next.next c.in-Some.is inv.walk in
    let at = link_there u.links.items c.in-Some.place c.index-link.result.now within c.index-link.ensures in
    let less = c.requires.users c.in-Some.place c.index-link.result.now at in
    let count = inv.marks.count in
    omega (arith, less, count)

pub loop-next-smaller : goal.loop-next-smaller
loop-next-smaller c =
    let u = c.args.users.now in
    let within = place_within u.links.items c.args.number _ c.in-Some.place c.loop-next.next c.in-Some.is c.loop-next.invariant.walk in
    let at = link_there u.links.items c.in-Some.place c.index-link.result.now within c.index-link.ensures in
    let last = before_is u c.requires.linked c.requires.all c.in-Some.place c.index-link.result.now c.index-next-in-Some.result.now at c.index-next-in-Some.ensures in
    let less = last_below u.links.items c.index-link.result.now.source c.in-Some.place c.index-next-in-Some.result.now last in
    let now : steps_left c.loop-next.next ≡ steps_left (Some c.in-Some.place) = ap steps_left c.in-Some.is in
    omega (arith, less, now)

pub index-next-requires-in-Some : goal.index-next-requires-in-Some
index-next-requires-in-Some c =
    let u = c.args.users.now in
    let within = place_within u.links.items c.args.number _ c.in-Some.place c.loop-next.next c.in-Some.is c.loop-next.invariant.walk in
    let all = c.requires.all in
    let len = u.befores.ok.0 in
    omega (arith, within, all, len)

pub loop-next-preserved : goal.loop-next-preserved
loop-next-preserved c =
    let u = c.args.users.now in
    let links = u.links.items in
    let n = c.args.number in
    let outputs = c.args.outputs.now in
    let link = c.index-link.result.now in
    let p = c.in-Some.place in
    let inv = c.loop-next.invariant in
    let within = place_within links n _ p c.loop-next.next c.in-Some.is inv.walk in
    let at = link_there links p link within c.index-link.ensures in
    let last = before_is u c.requires.linked c.requires.all p link c.index-next-in-Some.result.now at c.index-next-in-Some.ensures in
    let from = walk_at links n _ p c.loop-next.next c.in-Some.is inv.walk in
    let source_is : link.source ≡ n = ap (λ (x : Link). x.source) (some_is link from.link (sym at ∙ from.at)) ∙ from.named in
    elim c.if-is_none.branch [
      | then-is_none w ↦ (let e = w.mark.ensures in
          let now = w.mark.new.marks in
          rw (w.marks-is, w.todo-is) (record {
            marks = marking_join c.args.marks.now c.loop-next.marks now c.args.todo.now.items c.loop-next.todo.items w.mark.new.todo.items inv.marks e.marks;
            only = λ user f. elim (e.only user f) [
              | inl before ↦ inv.only user before
              | inr here ↦ inr (record { place = p; link = link; at = at; from = source_is; takes = here; missing = output_missing c.output_at.result c.is_none.result _ c.is_none.ensures w.if-is_none.true c.output_at.ensures })
            ];
            steps = e.steps ∙ inv.steps;
            capacity = e.capacity ∙ inv.capacity;
            walk = walk_step links n (λ (x : Link). slice_get outputs x.index ≡ None → flag_at now x.user ≡ true) p c.loop-next.next c.index-next-in-Some.result.now link c.in-Some.is at last (λ missing. e.marked)
                (walk_more links n (λ (x : Link). slice_get outputs x.index ≡ None → flag_at c.loop-next.marks x.user ≡ true) (λ (x : Link). slice_get outputs x.index ≡ None → flag_at now x.user ≡ true) c.loop-next.next
                (λ x before missing. e.marks.kept x.user (before missing)) inv.walk);
          }))
      | else-is_none w ↦ rw (w.marks-is, w.todo-is) (record {
        marks = inv.marks;
        only = inv.only;
        steps = inv.steps;
        capacity = inv.capacity;
        walk = walk_step links n (λ (x : Link). slice_get outputs x.index ≡ None → flag_at c.loop-next.marks x.user ≡ true) p c.loop-next.next c.index-next-in-Some.result.now link c.in-Some.is at last
            (λ missing. absurd (output_there c.output_at.result c.is_none.result _ c.is_none.ensures w.if-is_none.false c.output_at.ensures missing)) inv.walk;
      })
    ]

pub returns-clause-marked : goal.returns-clause-marked
returns-clause-marked c user l =
    subst (λ (m : ℕ). flag_at c.loop-next.marks m ≡ true) l.takes
    (walk_last c.args.users.now.links.items c.args.number (λ (x : Link). slice_get c.args.outputs.now x.index ≡ None → flag_at c.loop-next.marks x.user ≡ true) c.loop-next.next c.in_default.is c.loop-next.invariant.walk
    l.place l.link l.at l.from l.missing)
