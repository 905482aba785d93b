-- The picture of events of a farm.
use Rattle.std.specs.Prelude.{◌≡◌, ℕ, ◌+◌, List, length, take}
use Rattle.names.specs.Contents.{content_digest}
use Rattle.protocol.specs.Farm.{farm_limits}
use Rattle.protocol.specs.Replay.{Farm, run, opening}
use Rattle.events.specs.declared.event.Event.{Event}
use Rattle.schedule.specs.declared.setup.Setup.{Setup}
use Rattle.world.specs.Printing.{ArePrinted}
use Rattle.draw.specs.declared.page.Extent.{Extent}
use Rattle.draw.specs.declared.range.Range.{Range}
use Rattle.draw.specs.declared.scene.Scene.{Scene}
use Rattle.draw.specs.Pages.{page_text}
use Rattle.draw.specs.Pictures.{drawn, frames_from, scene_from}
use Rattle.draw.specs.Ranges.{skipped, drawn_to}

abbrev pub farm_before : Farm → List Event → Range → Farm
farm_before s events range = run content_digest farm_limits (take (skipped range (length events)) events) s

abbrev pub farm_after : Farm → List Event → Range → Farm
farm_after s events range = run content_digest farm_limits (drawn range events) (farm_before s events range)

abbrev pub scene_of : Farm → ℕ → List Event → Range → Scene
scene_of s nodes events range =
    scene_from nodes (frames_from (skipped range (length events) + 1) (drawn range events) (farm_before s events range))

abbrev pub extent_of : ℕ → List Event → Range → Extent
extent_of nodes events range =
    record { first = skipped range (length events) + 1; last = drawn_to range (length events); events = length events; nodes = nodes }

-- this is the picture of a range of the events of a farm with `nodes` nodes, and of the lines of versions after them
abbrev pub IsPictureIn : Farm → ℕ → List Event → Range → List ℕ → Type 0
IsPictureIn s nodes events range text =
    (lines : List ℕ) × ArePrinted (farm_after s events range).ledger.line lines
    × (text ≡ page_text (extent_of nodes events range) (scene_of s nodes events range) lines)

-- this is the picture of a range of a schedule's events
abbrev pub IsPicture : Setup → List Event → Range → List ℕ → Type 0
IsPicture setup events range text = IsPictureIn (opening content_digest setup.nodes) setup.nodes events range text
