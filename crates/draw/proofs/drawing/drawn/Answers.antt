use Rattle.std.proofs.Common.{◌∙◌}
use Rattle.std.specs.String.{string_bytes}
use Rattle.world.specs.Shown.{shown}
use Rattle.draw.proofs.DrawnLemmas.{pictured}
use Rattle.draw.proofs.drawing.drawn.Goals as goal

pub returns : goal.returns
returns c = pictured c.page_of.result (shown c.args.world.now) (shown c.scene_of.new.world) c.args.nodes c.args.events.now c.args.range c.extent_of-extent.result c.in_ok-scene.scene c.as_bytes.result.now (string_bytes c.in_ok-lines.lines)
    c.in_ok-scene.ensures.farm c.in_ok-lines.ensures c.extent_of-extent.ensures c.in_ok-scene.ensures.scene (c.as_bytes.ensures.value ∙ c.as_str.ensures.value) c.page_of.ensures
