use Rattle.std.proofs.Common.{◌≡◌, ◌≤◌, ◌∙◌, ℕ, IsSomeAnd, Some, refl, ap, sym, subst, arith}
use Rattle.lists.proofs.Places.{some_is}
use Rattle.keytable.specs.declared.users.Link.{Link}
use Rattle.keytable.specs.Needs.{LinksOutput}
use Rattle.keytable.proofs.NeedLemmas.{later_is, later_covers}
use Rattle.keytable.proofs.UserLemmas.{walk_at, walk_step, walk_more, walk_last, last_below, steps_left, place_within, link_there, before_is}
use Rattle.keytable.proofs.needing.last_linked.Goals as goal

pub index-next-requires-in-Some : goal.index-next-requires-in-Some
index-next-requires-in-Some c =
    let u = c.args.users.now in
    let within = place_within u.links.items c.args.number _ c.in-Some.place c.loop-next.next c.in-Some.is c.loop-next.invariant.walk in
    let all = c.requires.all in
    let len = u.befores.ok.0 in
    omega (arith, within, all, len)

pub loop-next-smaller : goal.loop-next-smaller
loop-next-smaller c =
    let u = c.args.users.now in
    let within = place_within u.links.items c.args.number _ c.in-Some.place c.loop-next.next c.in-Some.is c.loop-next.invariant.walk in
    let at = link_there u.links.items c.in-Some.place c.index-link.result.now within c.index-link.ensures in
    let last = before_is u c.requires.linked c.requires.all c.in-Some.place c.index-link.result.now c.index-next-in-Some.result.now at c.index-next-in-Some.ensures in
    let less = last_below u.links.items c.index-link.result.now.source c.in-Some.place c.index-next-in-Some.result.now last in
    let now : steps_left c.loop-next.next ≡ steps_left (Some c.in-Some.place) = ap steps_left c.in-Some.is in
    omega (arith, less, now)

pub loop-next-preserved : goal.loop-next-preserved
loop-next-preserved c =
    let u = c.args.users.now in
    let links = u.links.items in
    let n = c.args.number in
    let link = c.index-link.result.now in
    let p = c.in-Some.place in
    let inv = c.loop-next.invariant in
    let e = c.later.ensures in
    let within = place_within links n _ p c.loop-next.next c.in-Some.is inv.walk in
    let at = link_there links p link within c.index-link.ensures in
    let last = before_is u c.requires.linked c.requires.all p link c.index-next-in-Some.result.now at c.index-next-in-Some.ensures in
    let from = walk_at links n _ p c.loop-next.next c.in-Some.is inv.walk in
    let source_is : link.source ≡ n = ap (λ (x : Link). x.source) (some_is link from.link (sym at ∙ from.at)) ∙ from.named in
    record {
      linked = later_is (LinksOutput links n) c.loop-next.last link.index c.later.result e.is_one inv.linked (record { place = p; link = link; at = at; from = source_is; named = refl });
      walk = walk_step links n (λ (x : Link). x.index ≤ c.later.result) p c.loop-next.next c.index-next-in-Some.result.now link c.in-Some.is at last e.own
          (walk_more links n (λ (x : Link). IsSomeAnd c.loop-next.last (λ before. x.index ≤ before)) (λ (x : Link). x.index ≤ c.later.result) c.loop-next.next
          (λ x covered. later_covers c.loop-next.last c.later.result x.index e.last covered) inv.walk);
    }

pub returns-clause-greatest : goal.returns-clause-greatest
returns-clause-greatest c = λ index l.
    subst (λ (i : ℕ). IsSomeAnd c.loop-next.last (λ before. i ≤ before)) l.named
    (walk_last c.args.users.now.links.items c.args.number (λ (x : Link). IsSomeAnd c.loop-next.last (λ before. x.index ≤ before)) c.loop-next.next c.in_default.is c.loop-next.invariant.walk l.place l.link l.at l.from)
