use Rattle.std.proofs.Common.{◌≤◌, List, length, sym, subst}
use Rattle.std.specs.List.{All}
use Rattle.opsproto.specs.Scalars.{Text}
use Rattle.opsproto.specs.declared.exec.Mount.{Mount}
use Rattle.vertices.specs.OpChecks.{cache_count}
use Rattle.cachemounts.specs.CacheWants.{HasMounts}
use Rattle.cachemounts.specs.Checked.{IsChecked}
use Rattle.cachemounts.proofs.MountLemmas.{vertex_edges, outputs_count, mounts_checked, mounts_few, has_mounts}
use Rattle.cachemounts.proofs.mounted.Mounted.of.Goals as goal

pub outputs_of-requires : goal.outputs_of-requires
outputs_of-requires c =
    let g = c.args.graph.now in (
      g.vertices,
      c.vertex.result.op.inputs,
      vertex_edges g c.is_graph.ensures c.args.vertex c.vertex.result c.vertex.ensures c.inputs_of.result.now c.inputs_of.ensures,
      sym c.requires.keys.count,
    )

pub returns-clause-has : goal.returns-clause-has
returns-clause-has c =
    let g = c.args.graph.now in
    subst (HasMounts g c.args.keys.now c.args.vertex c.in_ok-outputs.outputs.items) (sym c.in_ok-mounts.ensures)
    (has_mounts g c.is_graph.ensures c.args.vertex c.vertex.result c.vertex.ensures c.inputs_of.result.now c.inputs_of.ensures
    c.args.keys.now c.in_ok-outputs.outputs.items c.in_ok-outputs.ensures)

pub returns-clause-checked : goal.returns-clause-checked
returns-clause-checked c =
    let g = c.args.graph.now in
    let outputs = c.in_ok-outputs.outputs.items in
    let count = outputs_count g c.is_graph.ensures c.args.vertex c.vertex.result c.vertex.ensures c.inputs_of.result.now c.inputs_of.ensures
    c.args.keys.now outputs c.in_ok-outputs.ensures in
    subst (All (IsChecked (length outputs))) (sym c.in_ok-mounts.ensures)
    (mounts_checked g c.is_graph.ensures c.args.vertex c.vertex.result c.vertex.ensures c.inputs_of.result.now c.inputs_of.ensures (length outputs) count)

pub returns-clause-few : goal.returns-clause-few
returns-clause-few c =
    subst (λ (ms : List (Mount Text)). cache_count ms ≤ 16) (sym c.in_ok-mounts.ensures)
    (mounts_few c.args.graph.now c.is_graph.ensures c.args.vertex c.vertex.result c.vertex.ensures c.inputs_of.result.now c.inputs_of.ensures)
