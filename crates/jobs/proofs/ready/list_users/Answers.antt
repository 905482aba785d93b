use Rattle.std.proofs.Common.{◌≡◌, Some, ap, arith, inl, inr}
use Rattle.std.specs.List.{Contains}
use Rattle.keytable.specs.declared.users.Link.{Link}
use Rattle.jobs.specs.ReadyLists.{IsReadyAt, listed}
use Rattle.keytable.proofs.UserLemmas.{walk_step, walk_more, walk_last, last_below, steps_left, place_within, link_there, user_within, before_is, user_done}
use Rattle.jobs.proofs.ready.list_users.Goals as goal

pub look_at-requires-clause-within : goal.look_at-requires-clause-within
look_at-requires-clause-within c =
    let es = c.args.table.now.entries.items in
    let u = c.args.users.now in
    let within = place_within u.links.items c.args.number _ c.in-Some.place c.loop-next.next c.in-Some.is c.loop-next.invariant.walk in
    user_within es u c.requires.users c.in-Some.place c.index.result.now (link_there u.links.items c.in-Some.place c.index.result.now within c.index.ensures)

pub index-next-requires-in-Some : goal.index-next-requires-in-Some
index-next-requires-in-Some c =
    let u = c.args.users.now in
    let within = place_within u.links.items c.args.number _ c.in-Some.place c.loop-next.next c.in-Some.is c.loop-next.invariant.walk in
    let all = c.requires.users.all in
    let len = u.befores.ok.0 in
    omega (arith, within, all, len)

pub loop-next-smaller : goal.loop-next-smaller
loop-next-smaller c =
    let es = c.args.table.now.entries.items in
    let u = c.args.users.now in
    let within = place_within u.links.items c.args.number _ c.in-Some.place c.loop-next.next c.in-Some.is c.loop-next.invariant.walk in
    let last = before_is u c.requires.users.linked c.requires.users.all c.in-Some.place c.index.result.now c.index-next-in-Some.result.now (link_there u.links.items c.in-Some.place c.index.result.now within c.index.ensures) c.index-next-in-Some.ensures in
    let less = last_below u.links.items c.index.result.now.source c.in-Some.place c.index-next-in-Some.result.now last in
    let now : steps_left c.loop-next.next ≡ steps_left (Some c.in-Some.place) = ap steps_left c.in-Some.is in
    omega (arith, less, now)

pub loop-next-preserved : goal.loop-next-preserved
loop-next-preserved c =
    let es = c.args.table.now.entries.items in
    let u = c.args.users.now in
    let links = u.links.items in
    let link = c.index.result.now in
    let inv = c.loop-next.invariant in
    let e = c.look_at.ensures in
    let now = c.look_at.new.ready in
    let within = place_within links c.args.number _ c.in-Some.place c.loop-next.next c.in-Some.is inv.walk in
    let at = link_there links c.in-Some.place link within c.index.ensures in
    let last = before_is u c.requires.users.linked c.requires.users.all c.in-Some.place link c.index-next-in-Some.result.now at c.index-next-in-Some.ensures in
    record {
      cursors = e.cursors;
      list = e.list;
      room = e.room;
      kept = λ m x. e.kept m (inv.kept m x);
      walk = walk_step links c.args.number (λ (x : Link). IsReadyAt es x.user → Contains (listed now) x.user) c.in-Some.place c.loop-next.next c.index-next-in-Some.result.now link c.in-Some.is at last e.listed
          (walk_more links c.args.number (λ (x : Link). IsReadyAt es x.user → Contains (listed c.loop-next.ready) x.user) (λ (x : Link). IsReadyAt es x.user → Contains (listed now) x.user) c.loop-next.next
          (λ x before r. e.kept x.user (before r)) inv.walk);
    }

pub returns-clause-all : goal.returns-clause-all
returns-clause-all c m r =
    let es = c.args.table.now.entries.items in
    let u = c.args.users.now in
    elim (c.requires.others m r) [
      | inl before ↦ c.loop-next.invariant.kept m before
      | inr user ↦ user_done es u m c.args.number (λ (x : Link). IsReadyAt es x.user → Contains (listed c.loop-next.ready) x.user) c.requires.users c.requires.count user
          (walk_last u.links.items c.args.number (λ (x : Link). IsReadyAt es x.user → Contains (listed c.loop-next.ready) x.user) c.loop-next.next c.in_default.is c.loop-next.invariant.walk) r
    ]
