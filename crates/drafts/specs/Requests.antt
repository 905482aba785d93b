-- What the program asks of a coordinator.
use Rattle.farm_base.specs.Wanted.{IsWants}
use Rattle.farm_base.specs.declared.message.Request.{Request}
use Rattle.farm_base.specs.declared.message.Request.TheVariants.{Hello, Acquire, Commit, Release}

-- what each request of the program is
abbrev pub IsRequest : Request → Type 0
IsRequest Hello = Unit {0}
IsRequest (Acquire ask wants tenure) = IsWants wants
IsRequest (Commit ticket news) = Unit {0}
IsRequest (Release ticket) = Unit {0}
