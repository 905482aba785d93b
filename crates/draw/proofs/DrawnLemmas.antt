-- The picture of a farm, put together.
use Rattle.std.proofs.Common.{◌≡◌, ℕ, List, Ok, Err, Result, ap, ◌∙◌, subst}
use Rattle.std.specs.Prelude.{IfOk}
use Rattle.std.specs.String.{string_bytes}
use Rattle.std.specs.declared.alloc.AllocError.{AllocError}
use Rattle.std.specs.declared.alloc.Global.{Global}
use Rattle.std.specs.declared.string.String.{String}
use Rattle.protocol.specs.Replay.{Farm}
use Rattle.events.specs.declared.event.Event.{Event}
use Rattle.world.specs.Printing.{ArePrinted}
use Rattle.draw.specs.declared.page.Extent.{Extent}
use Rattle.draw.specs.declared.range.Range.{Range}
use Rattle.draw.specs.declared.scene.Scene.{Scene}
use Rattle.draw.specs.Drawings.{farm_after, scene_of, extent_of, IsPictureIn}
use Rattle.draw.specs.Pages.{page_text}

pub pictured : (r : Result (String Global) AllocError) (s t : Farm) (nodes : ℕ) (events : List Event) (range : Range) (extent : Extent) (scene : Scene) (bytes lines : List ℕ)
    → t ≡ farm_after s events range → ArePrinted t.ledger.line lines → extent ≡ extent_of nodes events range → scene ≡ scene_of s nodes events range → bytes ≡ lines
    → IfOk r (λ text. string_bytes text ≡ page_text extent scene bytes) → IfOk r (λ text. IsPictureIn s nodes events range (string_bytes text))
pictured (Ok text) s t nodes events range extent scene bytes lines farm printed extent_is scene_is same page = (
  lines,
  subst (λ (f : Farm). ArePrinted f.ledger.line lines) farm printed,
  page ∙ ap (λ (bs : List ℕ). page_text extent scene bs) same ∙ ap (λ (e : Extent). page_text e scene lines) extent_is ∙ ap (λ (sc : Scene). page_text (extent_of nodes events range) sc lines) scene_is,
)
pictured (Err e) s t nodes events range extent scene bytes lines farm printed extent_is scene_is same page = tt
