-- The three layouts of a record.
use Rattle.std.specs.Prelude.{Bool, true, false}
use Rattle.recordparts.specs.declared.layout.Layout.{Layout}
use Rattle.recordparts.specs.declared.layout.Layout.TheVariants.{First, Second, Third}

-- a layout that has SHARED slots and tenures
abbrev pub has_shared : Layout → Bool
has_shared First = false
has_shared Second = true
has_shared Third = true

-- a layout that has nodes that are gone for good
abbrev pub has_retired_nodes : Layout → Bool
has_retired_nodes First = false
has_retired_nodes Second = false
has_retired_nodes Third = true
