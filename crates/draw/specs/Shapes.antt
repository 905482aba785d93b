-- The text of each mark. A column is 130 wide and a row 26 high.
use Rattle.std.specs.Prelude.{ℕ, ◌+◌, ◌-◌, ◌*◌, ◌/◌, ◌%◌, max, nat_lt, if◌then◌else◌, List, [], ◌∷◌, ◌++◌, codes, decimal}
use Rattle.draw.specs.declared.mark.Mark.{Mark}
use Rattle.draw.specs.declared.mark.Mark.TheVariants as mark
use Rattle.draw.specs.declared.mark.End.{End}
use Rattle.draw.specs.declared.mark.End.TheVariants as «end»
use Rattle.draw.specs.declared.mark.Sign.{Sign}
use Rattle.draw.specs.declared.mark.Sign.TheVariants as sign
use Rattle.draw.specs.Escapes.{escaped_text, front_of, dots_of}
use Rattle.draw.specs.Frames.{Frame}
use Rattle.draw.specs.Rows.{words_at}

-- the middle of a lifeline, and of a row
abbrev pub x_of : ℕ → ℕ
x_of column = 80 + 130 * column

abbrev pub y_of : ℕ → ℕ
y_of row = 110 + 26 * row

-- what a mouse shows: what is printed of one event, and of one more
abbrev pub title_text : List Frame → ℕ → List ℕ
title_text frames row = codes "<title>" ++ escaped_text (words_at frames row) ++ codes "</title>"

abbrev pub titles_text : List Frame → ℕ → ℕ → List ℕ
titles_text frames from to =
    codes "<title>" ++ escaped_text (words_at frames from) ++ escaped_text (words_at frames to) ++ codes "</title>"

-- the size of something
unfoldable pub size_text : ℕ → ℕ → List ℕ
size_text width height = codes "' width='" ++ decimal width ++ codes "' height='" ++ decimal height

-- a bar from one row to another, in the middle of both
abbrev pub rect_text : List ℕ → ℕ → ℕ → ℕ → ℕ → List ℕ
rect_text class x width from to =
    codes "<rect class='" ++ class ++ codes "' x='" ++ decimal x ++ codes "' y='" ++ decimal (y_of from) ++ size_text width (26 * (to - from)) ++ codes "' rx='2'>"

abbrev pub bar_text : List Frame → List ℕ → ℕ → ℕ → ℕ → ℕ → List ℕ
bar_text frames class x width from to =
    rect_text class x width from to ++ titles_text frames from to ++ codes "</rect>\n"

abbrev pub end_class : End → List ℕ
end_class «end».Committed = codes "committed"
end_class «end».Released = codes "released"
end_class «end».Withdrawn = codes "withdrawn"
end_class «end».Died = codes "died"
end_class «end».Restarted = codes "restarted"
end_class «end».Open = codes "open"

-- leases stand right of their lifeline, in five lanes by ticket
abbrev pub lease_x : ℕ → ℕ → ℕ
lease_x column ticket = x_of column + 9 + 10 * ((ticket + 4) % 5)

-- the number of a message
abbrev pub number_text : ℕ → ℕ → ℕ → List ℕ
number_text x y number =
    codes "<text class='number' x='" ++ decimal x ++ codes "' y='" ++ decimal y ++ codes "'>" ++ decimal number ++ codes "</text>\n"

abbrev pub point_text : ℕ → ℕ → List ℕ
point_text x y = decimal x ++ codes " " ++ decimal y

abbrev pub line_text : ℕ → ℕ → ℕ → ℕ → List ℕ
line_text x y to_x to_y =
    codes "<path class='arrow' d='M" ++ point_text x y ++ codes "L" ++ point_text to_x to_y ++ codes "'>"

-- where the number of an arrow stands: on it, a quarter of a column from its beginning
abbrev pub number_x : ℕ → ℕ → ℕ
number_x from_column column = if nat_lt from_column column then x_of from_column + 32 else 48 + 130 * from_column

abbrev pub number_y : ℕ → ℕ → ℕ → ℕ → ℕ
number_y from_column from column to =
    y_of from + 26 * (to - from) / (4 * max 1 (from_column - column + (column - from_column)))

abbrev pub shaft_text : ℕ → ℕ → ℕ → ℕ → List ℕ
shaft_text from_column from column to = line_text (x_of from_column) (y_of from) (x_of column) (y_of to)

abbrev pub numbered_text : ℕ → ℕ → ℕ → ℕ → ℕ → List ℕ
numbered_text from_column from column to number =
    number_text (number_x from_column column) (number_y from_column from column to) number

abbrev pub arrow_text : List Frame → ℕ → ℕ → ℕ → ℕ → ℕ → List ℕ
arrow_text frames from_column from column to number =
    shaft_text from_column from column to ++ titles_text frames from to ++ codes "</path>\n" ++ numbered_text from_column from column to number

abbrev pub arrival_text : List Frame → ℕ → ℕ → ℕ → List ℕ
arrival_text frames column row number =
    line_text (40 + 130 * column) (y_of row) (x_of column) (y_of row) ++ title_text frames row ++ codes "</path>\n"
    ++ number_text (34 + 130 * column) (y_of row) number

-- an outline that begins in the middle of a row on a lifeline
abbrev pub spot_text : ℕ → ℕ → List ℕ
spot_text column row = point_text (x_of column) (y_of row)

abbrev pub path_text : List ℕ → ℕ → ℕ → List ℕ → List ℕ
path_text class column row outline =
    codes "<path class='" ++ class ++ codes "' d='M" ++ spot_text column row ++ outline ++ codes "'>"

-- a stub goes to the right or to the left
abbrev pub stub_text : ℕ → ℕ → List ℕ → List ℕ
stub_text column row way = path_text (codes "lost") column row way

abbrev pub lost_text : List Frame → ℕ → ℕ → ℕ → ℕ → List ℕ
lost_text frames column to_column row number =
    (if nat_lt column to_column
    then stub_text column row (codes "l34 13") ++ title_text frames row ++ codes "</path>\n" ++ number_text (x_of column + 46) (y_of row + 15) number
    else stub_text column row (codes "l-34 13") ++ title_text frames row ++ codes "</path>\n" ++ number_text (34 + 130 * column) (y_of row + 15) number)

-- the class of an event, and its outline
abbrev pub sign_class : Sign → List ℕ
sign_class sign.Plain = codes "plain"
sign_class sign.Refused = codes "refused"
sign_class sign.Failed = codes "failed"
sign_class sign.Armed = codes "armed"
sign_class sign.Started = codes "started"

abbrev pub sign_outline : Sign → List ℕ
sign_outline sign.Plain = codes "m-3 0a3 3 0 1 0 6 0a3 3 0 1 0-6 0"
sign_outline sign.Refused = codes "m-6-6l12 12m0-12l-12 12"
sign_outline sign.Failed = codes "m0-9l9 9l-9 9l-9-9z"
sign_outline sign.Armed = codes "m0-9l9 9l-9 9l-9-9z"
sign_outline sign.Started = codes "m-7 6l7-13l7 13z"

abbrev pub sign_text : List Frame → ℕ → ℕ → Sign → List ℕ
sign_text frames column row s =
    path_text (sign_class s) column row (sign_outline s) ++ title_text frames row ++ codes "</path>\n"

-- the first 56 bytes of longer words
abbrev pub shortened : List ℕ → List ℕ
shortened words = escaped_text (front_of 56 words) ++ dots_of 56 words

-- the words beside a row, and a faint line to them
abbrev pub guide_text : ℕ → ℕ → List ℕ
guide_text y right = codes "<path class='row' d='M20 " ++ decimal y ++ codes "H" ++ decimal right ++ codes "'/>"

abbrev pub beside_text : ℕ → ℕ → List ℕ
beside_text x y = codes "<text class='label' x='" ++ decimal x ++ codes "' y='" ++ decimal y ++ codes "'>"

abbrev pub begun_label : ℕ → ℕ → List ℕ
begun_label column row = guide_text (y_of row) (30 + 130 * column) ++ beside_text (40 + 130 * column) (y_of row + 4)

abbrev pub label_text : List Frame → ℕ → ℕ → List ℕ
label_text frames column row =
    begun_label column row ++ shortened (words_at frames row) ++ title_text frames row ++ codes "</text>\n"

abbrev pub mark_text : List Frame → Mark → List ℕ
mark_text frames (mark.Life column from to) = bar_text frames (codes "life") (76 + 130 * column) 8 from to
mark_text frames (mark.Lease column ticket from to e) = bar_text frames (end_class e) (lease_x column ticket) 9 from to
mark_text frames (mark.Run column ticket from to) = bar_text frames (codes "run") (lease_x column ticket + 3) 3 from to
mark_text frames (mark.Arrow from_column from column to number) = arrow_text frames from_column from column to number
mark_text frames (mark.Arrival column row number) = arrival_text frames column row number
mark_text frames (mark.Lost column to_column row number) = lost_text frames column to_column row number
mark_text frames (mark.Event column row s) = sign_text frames column row s
mark_text frames (mark.Label column row) = label_text frames column row
