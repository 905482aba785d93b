use Rattle.std.proofs.Common.{◌≡◌, ◌++◌, ◌||◌, true, Bool, List, [], ap, refl, sym, ◌∙◌, subst, not, filter, is_some}
use Rattle.std.proofs.lemmas.List.Folds.{list_any-append}
use Rattle.std.specs.Prelude.{All, map}
use Rattle.std.specs.List.Sorted.{IsStrictlyIncreasing, IsStrictlySortedBy}
use Rattle.names.specs.Slots.{slot_cmp}
use Rattle.farm_base.specs.declared.lease.NodeLife.{NodeLife}
use Rattle.leases.specs.Changes.{saved_tickets}
use Rattle.holdings.specs.Leases.{among}
use Rattle.holdings.specs.Lives.{life_at, is_among}
use Rattle.holdings.specs.Lives.{AreLives}
use Rattle.protocol.specs.Names.{Slot, slot_eq, NodeId, Ticket}
use Rattle.protocol.specs.Ledger.{Lease, is_saved, lease_under}
use Rattle.versions.specs.Lines.{LineOf, line_at}
use Rattle.versions.specs.Ordered.{AreLines}
use Rattle.versions.specs.Additions.{IsReady}
use Rattle.versions.specs.declared.lines.SlotLine.{SlotLine}
use Rattle.saverecord.specs.Logs.{with_lives}
use Rattle.saverecord.specs.Logs.{is_ended}
use Rattle.saverecord.specs.Logs.{with_gone as with_nodes}
use Rattle.effects.specs.Held.{Held}
use Rattle.effects.specs.Keeps.{held}
use Rattle.effects.specs.Shown.{lines_with}
use Rattle.ledger.proofs.Entries.{split_lines, ready_alone, added_follow, ended_there, ended_rise, live_after}
use Rattle.ledger.proofs.record.entry_of.Goals as goal

pub copy_with-requires : goal.copy_with-requires
copy_with-requires c = subst (λ (ls : List SlotLine). IsReady ls c.args.effects.now.added) (sym c.new-none.ensures) (ready_alone c.args.state.now.lines c.args.effects.now.added c.requires.ready)

pub returns-clause-change : goal.returns-clause-change
returns-clause-change c =
    let h : Held = held c.args.state.now in
    let ended : c.new-3.result ≡ saved_tickets c.args.effects.now.change.table.ended h.live = c.new-3.ensures ∙ c.in_ok-ended.ensures in
    let granted : c.new-4.result ≡ filter is_saved c.args.effects.now.change.table.granted = c.new-4.ensures ∙ c.in_ok-leases.ensures in
    let retired : among c.new-5.result ≡ among c.args.effects.now.change.table.retired = ap among c.new-5.ensures ∙ c.in_ok-retired.ensures.same in
    let added : line_at c.new-6.result ≡ lines_with [] c.args.effects.now.added =
    ap line_at c.new-6.ensures ∙ c.in_ok-lines.ensures.lines ∙ ap (λ (ls : List SlotLine). lines_with ls c.args.effects.now.added) c.new-none.ensures in
    let lines : AreLines c.new-6.result = subst AreLines (sym c.new-6.ensures) c.in_ok-lines.ensures.sound in
    let left : List Ticket → List Lease = λ ts. filter (λ g. not (is_ended ts g)) (filter is_saved h.live) in
    record {
      last = c.ceiling.ensures.value;
      rises = c.requires.block;
      old_home = refl;
      lives = sym (ap (λ (xs : List NodeLife). with_lives xs (life_at h.lives)) c.new.ensures ∙ c.in_ok-begun.ensures.lives (life_at h.lives));
      gone = sym (ap (λ (ns : List NodeId). with_nodes ns (is_among h.gone)) c.new-2.ensures ∙ c.in_ok-retired_now.ensures.nodes (is_among h.gone));
      ended = subst (All (λ t. is_some (lease_under (filter is_saved h.live) t) ≡ true)) (sym ended) (ended_there c.args.effects.now.change.table.ended h.live);
      live = live_after c.args.effects.now.change.table.ended h.live c.args.effects.now.change.table.granted c.requires.before.tickets
          ∙ ap (λ (ts : List Ticket). left ts ++ filter is_saved c.args.effects.now.change.table.granted) (sym ended) ∙ ap (λ (gs : List Lease). left c.new-3.result ++ gs) (sym granted);
      retired = λ s.
          list_any-append (λ x. slot_eq x s) h.retired c.args.effects.now.change.table.retired ∙ ap (λ (f : Slot → Bool). among h.retired s || f s) (sym retired);
      line = λ s. split_lines h.lines c.args.effects.now.added s ∙ ap (λ (f : LineOf). line_at h.lines s ++ f s) (sym added);
      above = added_follow h.lines c.args.effects.now.added c.new-6.result c.requires.ready lines added;
    }

pub returns-clause-order : goal.returns-clause-order
returns-clause-order c =
    let lives : AreLives c.new.result = subst AreLives (sym c.new.ensures) c.in_ok-begun.ensures.order in
    let lines : AreLines c.new-6.result = subst AreLines (sym c.new-6.ensures) c.in_ok-lines.ensures.sound in
    record {
      lives_rise = lives.rise;
      counted = lives.counted;
      nodes_rise = subst (λ (ns : List NodeId). IsStrictlyIncreasing (map (λ n. n.0) ns)) (sym c.new-2.ensures) c.in_ok-retired_now.ensures.order;
      ended_rise = subst (λ (ts : List Ticket). IsStrictlyIncreasing (map (λ t. t.0) ts)) (sym (c.new-3.ensures ∙ c.in_ok-ended.ensures)) (ended_rise c.args.effects.now.change.table.ended c.args.state.now.table.live c.requires.before.tickets);
      retired_rise = subst (λ (ss : List Slot). IsStrictlySortedBy slot_cmp ss) (sym c.new-5.ensures) c.in_ok-retired.ensures.rising;
      lines_rise = lines.rise;
    }
