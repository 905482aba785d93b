-- PRIVATE folders of which no instance is free.
use Rattle.std.specs.Prelude.{◌≡◌, Bool, true, ◌&&◌, List}
use Rattle.protocol.specs.Lists.{In}
use Rattle.protocol.specs.Names.{FolderName, Slot, Want, is_private}
use Rattle.protocol.specs.Machine.{Parked}
use Rattle.protocol.specs.Ledger.{Ledger, is_free}
use Rattle.leases.specs.Table.{is_spent}
use Rattle.parked.specs.Noted.{is_noted}

-- the folder is PRIVATE, and no instance of it is free
abbrev pub is_private_spent : (Slot → Bool) → FolderName → Bool
is_private_spent free f = is_private f.mode && is_spent free f

-- each such folder that the ask wants is among these
abbrev pub IsNoted : List FolderName → (Slot → Bool) → Parked → Type 0
IsNoted noted free p = (w : Want) → In w p.wants → is_private_spent free w.folder ≡ true
    → is_noted noted w.folder ≡ true

-- so it is with each parked ask
abbrev pub AreNoted : List FolderName → Ledger → Type 0
AreNoted noted q = (p : Parked) → In p q.parked → IsNoted noted (is_free q) p
