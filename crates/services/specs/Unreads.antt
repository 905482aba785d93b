-- Lines that aren't carried out (this project's own).
use Rattle.std.specs.Prelude.{ℕ, List, codes}
use Rattle.farmwire.specs.declared.refusal.LineFault.{LineFault}
use Rattle.farmwire.specs.declared.refusal.LineFault.TheVariants as line
use Rattle.services.specs.declared.lost.Lost.{Lost}
use Rattle.services.specs.declared.lost.Lost.TheVariants as lost
use Rattle.services.specs.declared.unread.Unread.{Unread}
use Rattle.services.specs.declared.unread.Unread.TheVariants.{TooLong, BadMac, BadForm, NotMine, BadLine, OutOfMemory}
use Rattle.services.specs.Served.{out_of_memory}

-- why what isn't opened isn't carried out
abbrev pub unread_of : LineFault → Unread
unread_of line.TooLong = TooLong
unread_of line.BadMac = BadMac
unread_of line.BadForm = BadForm
unread_of line.OutOfMemory = OutOfMemory

-- why a line that wasn't kept isn't
abbrev pub lost_line : Lost → Unread
lost_line lost.TooLong = TooLong
lost_line lost.OutOfMemory = OutOfMemory

-- what is answered
abbrev pub unread_line : Unread → List ℕ
unread_line TooLong = codes "= dropped TooLong\n"
unread_line BadMac = codes "= dropped BadMac\n"
unread_line BadForm = codes "= dropped BadForm\n"
unread_line NotMine = codes "= dropped NotMine\n"
unread_line BadLine = codes "= refused BadLine\n"
unread_line OutOfMemory = out_of_memory
