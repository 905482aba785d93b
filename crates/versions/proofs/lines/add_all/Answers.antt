use Rattle.std.proofs.Common.{◌≡◌, ◌∷◌, [], List, length, ap, sym, ◌∙◌, subst, arith}
use Rattle.std.specs.Vec.{vec_len}
use Rattle.std.proofs.lemmas.List.{nil_from_length}
use Rattle.std.specs.Vec.Iter.{into_iter_items, into_iter_len}
use Rattle.versions.specs.declared.lines.Addition.{Addition}
use Rattle.versions.specs.declared.lines.SlotLine.{SlotLine}
use Rattle.versions.specs.Lines.{line_at}
use Rattle.versions.specs.Additions.{AreReady, adds_all}
use Rattle.versions.specs.Ordered.{AreLines}
use Rattle.versions.proofs.Pushing.{adds_all-is, ready-next}
use Rattle.versions.proofs.lines.add_all.Goals as goal

pub loop-addition-init : goal.loop-addition-init
loop-addition-init c =
    let items : into_iter_items c.into_iter-addition-iterator.result ≡ c.args.added.additions.items = c.into_iter-addition-iterator.ensures.into_iter_gives.0 in
    let len : into_iter_len c.into_iter-addition-iterator.result ≡ vec_len c.args.added.additions = c.into_iter-addition-iterator.ensures.into_iter_gives.1 in
    let ok : vec_len c.args.added.additions ≡ length c.args.added.additions.items = c.args.added.additions.ok.0 in
    let same : length (into_iter_items c.into_iter-addition-iterator.result) ≡ length c.args.added.additions.items = ap length items in
    let count = c.len.ensures in
    let room = c.make_room.ensures.room in
    record {
      can = tt;
      finite = tt;
      sound = subst AreLines (sym c.make_room.ensures.items) c.requires.sound;
      ready = subst (λ (ls : List SlotLine). AreReady ls c.args.added.ticket (into_iter_items c.into_iter-addition-iterator.result)) (sym c.make_room.ensures.items)
          (subst (AreReady c.args.lines.now.items c.args.added.ticket) (sym items) c.requires.ready);
      lines = ap (λ (xs : List Addition). adds_all c.args.added.ticket xs (line_at c.make_room.new.lines.items)) items ∙ ap (λ (ls : List SlotLine). adds_all c.args.added.ticket c.args.added.additions.items (line_at ls)) c.make_room.ensures.items;
      space = omega arith;
      count = omega arith;
    }

pub add-requires-clause-space : goal.add-requires-clause-space
add-requires-clause-space c =
    let first : into_iter_items c.loop-addition.addition-iterator ≡ c.in-Some.addition ∷ into_iter_items c.next.new.self = c.in-Some.ensures.steps.0 in
    let less = c.in-Some.ensures.steps.1 in
    let space = c.loop-addition.invariant.space in
    omega arith

pub add-requires-clause-room : goal.add-requires-clause-room
add-requires-clause-room c =
    let first : into_iter_items c.loop-addition.addition-iterator ≡ c.in-Some.addition ∷ into_iter_items c.next.new.self = c.in-Some.ensures.steps.0 in
    (let ready : AreReady c.loop-addition.lines.items c.args.added.ticket (c.in-Some.addition ∷ into_iter_items c.next.new.self) = subst (AreReady c.loop-addition.lines.items c.args.added.ticket) first c.loop-addition.invariant.ready in ready.0)

pub add-requires-clause-above : goal.add-requires-clause-above
add-requires-clause-above c =
    let first : into_iter_items c.loop-addition.addition-iterator ≡ c.in-Some.addition ∷ into_iter_items c.next.new.self = c.in-Some.ensures.steps.0 in
    (let ready : AreReady c.loop-addition.lines.items c.args.added.ticket (c.in-Some.addition ∷ into_iter_items c.next.new.self) = subst (AreReady c.loop-addition.lines.items c.args.added.ticket) first c.loop-addition.invariant.ready in ready.1)

pub loop-addition-preserved : goal.loop-addition-preserved
loop-addition-preserved c =
    let a : Addition = c.in-Some.addition in
    let rest : List Addition = into_iter_items c.next.new.self in
    let first : into_iter_items c.loop-addition.addition-iterator ≡ a ∷ rest = c.in-Some.ensures.steps.0 in
    let count : length (into_iter_items c.loop-addition.addition-iterator) ≡ length (a ∷ rest) = ap length first in
    let ready : AreReady c.loop-addition.lines.items c.args.added.ticket (a ∷ rest) = subst (AreReady c.loop-addition.lines.items c.args.added.ticket) first c.loop-addition.invariant.ready in
    let less = c.in-Some.ensures.steps.1 in
    let was = c.loop-addition.invariant.count in
    let space = c.loop-addition.invariant.space in
    let len = c.add.ensures.len in
    let capacity = c.add.ensures.capacity in
    record {
      can = tt;
      finite = tt;
      sound = c.add.ensures.sound;
      ready = ready-next c.loop-addition.lines.items c.add.new.lines.items c.args.added.ticket a rest c.add.ensures.lines ready;
      lines = ap (adds_all c.args.added.ticket rest) c.add.ensures.lines ∙ ap (λ (xs : List Addition). adds_all c.args.added.ticket xs (line_at c.loop-addition.lines.items)) (sym first) ∙ c.loop-addition.invariant.lines;
      space = omega arith;
      count = omega arith;
    }

pub returns-clause-lines : goal.returns-clause-lines
returns-clause-lines c =
    let none : into_iter_items c.loop-addition.addition-iterator ≡ [] = (let empty = c.in-None.ensures.steps.0 in let count = c.loop-addition.invariant.count in nil_from_length (into_iter_items c.loop-addition.addition-iterator) (omega arith)) in
    ap (λ (xs : List Addition). adds_all c.args.added.ticket xs (line_at c.loop-addition.lines.items)) (sym none) ∙ c.loop-addition.invariant.lines
    ∙ adds_all-is c.args.lines.now.items c.args.added c.requires.ready
