-- The picture as a whole.
use Rattle.std.specs.Prelude.{ℕ, ◌+◌, ◌-◌, ◌*◌, ◌==◌, Bool, ◌||◌, if◌then◌else◌, List, [], ◌∷◌, ◌++◌, length, codes, decimal, count_by}
use Rattle.std.specs.List.{flat_map}
use Rattle.draw.specs.declared.page.TheConstants.{NAMESPACE, STYLE, LEGEND, MOST_LINES}
use Rattle.draw.specs.declared.page.Extent.{Extent}
use Rattle.draw.specs.declared.mark.Mark.{Mark}
use Rattle.draw.specs.declared.scene.Scene.{Scene}
use Rattle.draw.specs.Escapes.{escaped, front_of, dots_of}
use Rattle.draw.specs.Marks.{marks_of}
use Rattle.draw.specs.Shapes.{x_of, y_of, size_text, point_text, mark_text}

-- the size of the whole, and what it is of
unfoldable pub view_text : ℕ → ℕ → List ℕ
view_text width height = codes "' viewBox='0 0 " ++ point_text width height ++ codes "'>\n"

unfoldable pub root_text : List ℕ → List ℕ
root_text namespace = codes "<svg xmlns='" ++ namespace

abbrev pub open_text : List ℕ → ℕ → ℕ → List ℕ
open_text namespace width height = root_text namespace ++ size_text width height ++ view_text width height

-- `events FIRST to LAST of ALL, DRAWN of ALL nodes`
abbrev pub events_text : Extent → List ℕ
events_text e = codes "events " ++ decimal e.first ++ codes " to " ++ decimal e.last ++ codes " of " ++ decimal e.events

abbrev pub nodes_text : ℕ → ℕ → List ℕ
nodes_text drawn nodes = codes ", " ++ decimal drawn ++ codes " of " ++ decimal nodes ++ codes " nodes"

abbrev pub extent_text : Extent → Scene → List ℕ
extent_text e s = events_text e ++ nodes_text (length s.lines - 1) e.nodes

abbrev pub head_text : Extent → Scene → List ℕ
head_text e s = codes "<text class='head' x='20' y='28'>" ++ extent_text e s ++ codes "</text>\n"

-- the coordinator's is lifeline 0
abbrev pub name_text : ℕ → List ℕ
name_text line = if line == 0 then codes "coordinator" else codes "node " ++ decimal line

-- a lifeline, down to the row behind the last
abbrev pub named_text : ℕ → ℕ → List ℕ
named_text column line =
    codes "<text class='name' x='" ++ decimal (x_of column) ++ codes "' y='92'>" ++ name_text line ++ codes "</text>"

abbrev pub drop_text : ℕ → ℕ → List ℕ
drop_text rows column =
    codes "<path class='line' d='M" ++ decimal (x_of column) ++ codes " 98V" ++ decimal (y_of rows) ++ codes "'/>\n"

abbrev pub lifeline_text : ℕ → ℕ → ℕ → List ℕ
lifeline_text rows column line = named_text column line ++ drop_text rows column

abbrev pub lifelines_text : ℕ → ℕ → List ℕ → List ℕ
lifelines_text rows column [] = []
lifelines_text rows column (line ∷ lines) = lifeline_text rows column line ++ lifelines_text rows (column + 1) lines

-- what begins on a line of its own: a slot behind a line feed, a version behind a space
abbrev pub is_break : ℕ → Bool
is_break b = (b == 10) || (b == 32)

abbrev pub version_byte : ℕ → List ℕ
version_byte b =
    if b == 10 then codes "</tspan><tspan x='20' dy='16'>"
    else (if b == 32 then codes "</tspan><tspan x='36' dy='16'>"
    else escaped b)

-- the lines of versions, up to MOST_LINES bytes
unfoldable pub shown : List ℕ → List ℕ
shown lines = front_of MOST_LINES lines

abbrev pub shown_text : List ℕ → List ℕ
shown_text lines = flat_map version_byte (shown lines) ++ dots_of MOST_LINES lines

unfoldable pub versions_text : ℕ → List ℕ → List ℕ
versions_text y lines =
    codes "<text class='versions' y='" ++ decimal y ++ codes "'><tspan x='20'>" ++ shown_text lines ++ codes "</tspan></text>\n"

abbrev pub width_of : Scene → ℕ
width_of s = 500 + 130 * length s.lines

abbrev pub height_of : Scene → List ℕ → ℕ
height_of s lines = y_of (length s.frames) + 50 + 16 * count_by is_break (shown lines)

-- the beginning
unfoldable pub begun_text : List ℕ → List ℕ → Scene → List ℕ → List ℕ
begun_text namespace style s lines = open_text namespace (width_of s) (height_of s lines) ++ style

-- what stands above the lifelines
unfoldable pub headed_text : List ℕ → Extent → Scene → List ℕ
headed_text legend e s = head_text e s ++ legend

unfoldable pub body_text : Scene → List Mark → List ℕ
body_text s marks = lifelines_text (length s.frames) 0 s.lines ++ flat_map (mark_text s.frames) marks

abbrev pub foot_y : Scene → ℕ
foot_y s = y_of (length s.frames) + 40

unfoldable pub foot_text : Scene → List ℕ → List ℕ
foot_text s lines = versions_text (foot_y s) lines ++ codes "</svg>\n"

-- the picture of a scene, with these lines of versions under it
abbrev pub page_text : Extent → Scene → List ℕ → List ℕ
page_text e s lines =
    begun_text NAMESPACE.now STYLE.now s lines ++ headed_text LEGEND.now e s ++ body_text s (marks_of s) ++ foot_text s lines
