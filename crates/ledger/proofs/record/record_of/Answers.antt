use Rattle.std.proofs.Common.{◌≡◌, List, [], ap, sym, ◌∙◌, subst, filter}
use Rattle.std.specs.Prelude.{map}
use Rattle.std.specs.List.Sorted.{IsStrictlyIncreasing, IsStrictlySortedBy}
use Rattle.names.specs.Slots.{slot_cmp}
use Rattle.leases.specs.Leases.{Table}
use Rattle.holdings.specs.Leases.{among}
use Rattle.holdings.specs.Lives.{life_at, is_among}
use Rattle.holdings.specs.Lives.{AreLives}
use Rattle.protocol.specs.Names.{Slot, NodeId}
use Rattle.protocol.specs.Ledger.{is_saved}
use Rattle.versions.specs.Lines.{line_at}
use Rattle.versions.specs.Ordered.{AreLines}
use Rattle.effects.specs.Held.{Held}
use Rattle.effects.specs.Keeps.{held}
use Rattle.effects.specs.Shown.{work_of, table_after, with_life, with_gone, lines_with}
use Rattle.ledger.proofs.Records.{record_kept}
use Rattle.ledger.proofs.record.record_of.Goals as goal

pub returns-clause-ledger : goal.returns-clause-ledger
returns-clause-ledger c =
    let h : Held = held c.args.state.now in
    let live : c.new-3.result ≡ filter is_saved (table_after h c.args.effects.now.change).live = c.new-3.ensures ∙ c.keep_saved.ensures ∙ ap (filter is_saved) (c.in_ok-leases.ensures.leases ∙ ap (λ (t : Table). t.live) c.over.ensures) in
    let retired : among c.new-4.result ≡ among (table_after h c.args.effects.now.change).retired = ap among c.new-4.ensures ∙ c.in_ok-leases.ensures.retired ∙ ap (λ (t : Table). among t.retired) c.over.ensures in
    let gone : is_among c.new-2.result ≡ with_gone c.args.effects.now.change.gone (is_among h.gone) = ap is_among c.new-2.ensures ∙ c.in_ok-retired_nodes.ensures.nodes in
    let line : line_at c.new-5.result ≡ lines_with c.args.state.now.lines c.args.effects.now.added = ap line_at c.new-5.ensures ∙ c.in_ok-lines.ensures.lines in
    let last : c.ceiling.result.0 ≡ c.args.effects.now.change.tickets.ceiling = c.ceiling.ensures.value in
    let lives : life_at c.new.result ≡ with_life c.args.effects.now.change.life (life_at h.lives) = ap life_at c.new.ensures ∙ c.in_ok-lives.ensures.lives in
    λ j. record { live = live j; retired = retired j; gone = gone j; line = line j; last = last j; ceiling = last j; old_home = c.args.effects.now.change.old_home; lives = lives j; parked = [] }

pub returns-clause-kept : goal.returns-clause-kept
returns-clause-kept c =
    record_kept (record { last = c.ceiling.result; old_home = c.args.effects.now.change.old_home; lives = c.new.result; retired_nodes = c.new-2.result; leases = c.new-3.result; retired = c.new-4.result; lines = c.new-5.result })
    (work_of (held c.args.state.now) c.args.effects.now).ledger c.requires.rightful (returns-clause-ledger c)
    (subst AreLives (sym c.new.ensures) c.in_ok-lives.ensures.order)
    (subst (λ (ns : List NodeId). IsStrictlyIncreasing (map (λ n. n.0) ns)) (sym c.new-2.ensures) c.in_ok-retired_nodes.ensures.order)
    (subst (λ (ss : List Slot). IsStrictlySortedBy slot_cmp ss) (sym c.new-4.ensures) c.in_ok-leases.ensures.rising)
    (subst AreLines (sym c.new-5.ensures) c.in_ok-lines.ensures.sound)
