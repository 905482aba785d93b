use Rattle.std.proofs.Common.{◌≡◌, ◌<◌, ℕ, false, true, List, length, slice_get, Some, refl, arith, map, ap, sym, subst, ◌∙◌}
use Rattle.std.proofs.lemmas.Option.{slice_get_read}
use Rattle.protocol.specs.Farm.{farm_limits}
use Rattle.protocol.specs.Lists.{set_nth}
use Rattle.protocol.specs.Machine.{Grant, GrantedSlot}
use Rattle.protocol.specs.World.{learn_bases}
use Rattle.events.specs.declared.ask.KeptAsk.{KeptAsk}
use Rattle.events.specs.declared.ask.KeptAsk.TheVariants.{Holding}
use Rattle.protocol.specs.Nodes.{fetches}
use Rattle.events.specs.declared.answer.NodeNote.TheVariants as note
use Rattle.nodeasks.specs.Asks.{holds}
use Rattle.nodecontents.specs.Stored.{base_of, known_in, learn_all}
use Rattle.nodecore.specs.Shown.{shown, place}
use Rattle.nodeasks.specs.Tickets.{may_have, AreIndexed}
use Rattle.nodecontents.proofs.MapLemmas.{bases_learned, same_known}
use Rattle.nodecore.proofs.NodeLemmas.{set_at}
use Rattle.nodeasks.proofs.RowLemmas.{kept_at}
use Rattle.nodeasks.proofs.TicketLemmas.{indexed_held, indexed_more, indexed_same, noted_here, noted_more}
use Rattle.nodecore.proofs.node_core.NodeCore.take.Goals as goal

pub returns-clause-work : goal.returns-clause-work
returns-clause-work c = λ at wants tenure get was number.
    let grant = c.args.grant.now in
    let x = shown c.args.self.now in
    let all = c.args.self.now.asks.all.asks in
    let next : Holding wants grant false ≡ holds c.in_ok-held.held at.kept = sym (λ j. holds (c.in_ok-held.ensures j) (was j)) in
    let bases : c.in_ok-bases.bases.items ≡ map base_of grant.slots = c.in_ok-bases.ensures ∙ ap (λ (us : List GrantedSlot). map base_of us) c.as_slice-2.ensures in
    let known : learn_bases grant.slots (known_in c.args.self.now.versions) ≡ known_in c.learn.new.known =
    bases_learned grant.slots (known_in c.args.self.now.versions)
    ∙ sym (c.learn.ensures ∙ (λ j. learn_all (bases j) (same_known c.args.self.now.versions c.reserve-2.new.self c.reserve-2.ensures.entries j))) in
    let sends : fetches farm_limits (place c.args.self.now) x grant.slots ≡ c.new.result =
    sym (c.new.ensures ∙ c.in_ok-sends.ensures ∙ ap (λ (us : List GrantedSlot). fetches farm_limits (place c.args.self.now) x us) c.as_slice.ensures) in
    let kept_asks : set_nth all grant.ask.0 (Holding wants grant false) ≡ c.change.new.self.all.asks =
    ap (λ (a : ℕ). set_nth all a (Holding wants grant false)) number ∙ set_at all at.place (holds c.in_ok-held.held at.kept) (Holding wants grant false) next ∙ sym (c.change.ensures.asks at get) in
    λ j. record { node = record x { asks = kept_asks j; known = known j }; sends = sends j; note = note.Took (sym c.in_ok-told.ensures j) }

pub invariant_of-self-3 : goal.invariant_of-self-3
invariant_of-self-3 c =
    let all = c.args.self.now.asks.all.asks in
    let rows = c.args.self.now.asks.rows.items in
    let at = c.index.result.now in
    let inside : c.args.row < length rows = omega (arith, c.requires) in
    let get : slice_get rows c.args.row ≡ Some at = slice_get_read rows (length rows) c.args.row at refl inside c.index.ensures in
    let noted = c.reserve.new.self in
    let before : AreIndexed c.note.new.self all =
    indexed_more noted c.note.new.self all (noted_more noted c.note.new.self c.args.grant.now.ticket at.place c.note.ensures)
    (indexed_same c.args.self.now.by_ticket noted all c.reserve.ensures.same c.args.self.now.indexed) in
    let told : may_have c.note.new.self c.in_ok-held.held.ticket at.place ≡ true =
    ap (λ (g : Grant). may_have c.note.new.self g.ticket at.place) c.in_ok-held.ensures ∙ noted_here noted c.note.new.self c.args.grant.now.ticket at.place c.note.ensures in
    record {
      indexed = subst (λ (l : List KeptAsk). AreIndexed c.note.new.self l) (sym (c.change.ensures.asks at get))
          (indexed_held c.note.new.self all at.place c.in_ok-held.held at.kept before (kept_at all rows c.args.row at c.args.self.now.asks.tied get) told);
    }
