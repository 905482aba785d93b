-- What the rules promise of one message or call.
use Rattle.std.specs.Prelude.{◌≡◌, ◌<◌, ◌⊎◌, Bool, false, nat_lt, List}
use Rattle.protocol.specs.Farm.{farm_limits}
use Rattle.farm_base.specs.declared.message.Request.TheVariants.{Acquire}
use Rattle.farm_base.specs.declared.message.FromCoord.TheVariants as told
use Rattle.protocol.specs.Lists.{In}
use Rattle.protocol.specs.Names.{Ask, Want}
use Rattle.protocol.specs.Machine.{Grant, FromCoord, ToCoord, Parked}
use Rattle.protocol.specs.Ledger.{Ledger, Lease, begin_work, is_parked, grant_of, lease_for}
use Rattle.protocol.specs.Follows.{MayBeGranted, after_life}
use Rattle.events.specs.declared.answer.CoordNote.{CoordNote}
use Rattle.events.specs.declared.answer.CoordNote.TheVariants as note

-- what a message asks for
abbrev pub asked : ToCoord → Ask → List Want → Bool → Parked
asked y ask wants tenure = record { node = y.node; life = y.life; ask = ask; wants = wants; tenure = tenure }

-- the grant of an ask, on this ledger
abbrev pub granted : Ledger → Parked → Grant
granted q p = grant_of farm_limits.empty q.line (lease_for farm_limits q p)

-- an ask that the rules let be granted is granted in that call, if the node isn't retired, the life isn't older, and no
-- ask of its name is parked
abbrev pub GrantsAtOnce : Ledger → ToCoord → CoordNote → List FromCoord → Type 0
GrantsAtOnce q y n sends = (ask : Ask) (wants : List Want) (tenure : Bool) → y.request ≡ Acquire ask wants tenure
    → is_parked q.parked y.node y.life ask ≡ false
    → q.gone y.node.0 ≡ false → nat_lt y.life.0 (q.lives y.node.0) ≡ false
    → let after : Ledger = (after_life farm_limits y.node y.life (begin_work q)).ledger in
    let grant : Grant = granted after (asked y ask wants tenure) in
    MayBeGranted farm_limits after (asked y ask wants tenure) → (n ≡ note.Granted grant) × In (told.Granted grant) sends

-- whatever the message, sent by a node of the farm or not, it ends no lease but one of its node: one of its life, or
-- one of an older life where its life is newer than any seen
abbrev pub EndsOnlyItsOwn : Ledger → ToCoord → Ledger → Type 0
EndsOnlyItsOwn old y new = (g : Lease) → In g old.live
    → In g new.live
    ⊎ ((g.node ≡ y.node) × ((g.life ≡ y.life) ⊎ ((g.life.0 < y.life.0) × (old.lives y.node.0 < y.life.0))))
