use Rattle.std.proofs.Common.{◌≡◌, List, subst}
use Rattle.std.specs.List.{insert}
use Rattle.names.specs.declared.number.NodeId.{NodeId}
use Rattle.holdings.specs.Places.{IsPlace, IsGap}
use Rattle.holdings.proofs.NodeLemmas.{numbers, among-place, among-again, among-insert, nodes-insert}
use Rattle.holdings.proofs.retired_nodes.RetiredNodes.insert.Goals as goal

pub invariant_of-self : goal.invariant_of-self
invariant_of-self c =
    let nodes : List NodeId = c.self.inside.nodes.items in
    let gap : IsGap c.args.node.0 (numbers nodes) c.in-Err.place = subst (λ ns. IsGap c.args.node.0 (numbers ns) c.in-Err.place) c.as_slice.ensures.value c.in-Err.ensures in
    let items : c.insert.new.self.items ≡ insert nodes c.in-Err.place c.args.node = rw c.unwrap.ensures at c.insert.ensures.items in
    rw items (nodes-insert nodes c.in-Err.place c.args.node c.self.invariant gap)

pub returns-in-Err : goal.returns-in-Err
returns-in-Err c =
    let nodes : List NodeId = c.self.inside.nodes.items in
    let items : c.insert.new.self.items ≡ insert nodes c.in-Err.place c.args.node = rw c.unwrap.ensures at c.insert.ensures.items in
    rw (items, ← c.self.view_is) (among-insert nodes c.in-Err.place c.args.node)

pub returns-in_default : goal.returns-in_default
returns-in_default c =
    let nodes : List NodeId = c.self.inside.nodes.items in
    let place : IsPlace c.args.node.0 (numbers nodes) c.in_default.field-0 = subst (λ ns. IsPlace c.args.node.0 (numbers ns) c.in_default.field-0) c.as_slice.ensures.value c.in_default.ensures in
    rw (← c.self.view_is) (among-again nodes c.args.node.0 (among-place nodes c.args.node.0 c.in_default.field-0 place))
