-- That asks have rows has one proof at most, so it may be a ghost field.
use mathlib.Core.HLevel.{Unit-prop}
use Rattle.std.proofs.Props.{props}
use Rattle.std.specs.Prelude.{ℕ, ◌+◌, List, [], ◌∷◌}
use Rattle.events.specs.declared.ask.KeptAsk.{KeptAsk}
use Rattle.nodeasks.specs.declared.ask_row.AskRow.{AskRow}
use Rattle.nodeasks.specs.Rows.{HaveRows}

kept_set : IsSet KeptAsk
kept_set = Prim.hlevel props

pub HaveRows-prop : (all : List KeptAsk) (k : ℕ) (rows : List AskRow) → IsProp (HaveRows all k rows)
HaveRows-prop [] k [] = Prim.hlevel (Unit-prop, props)
HaveRows-prop [] k (r ∷ rs) = Prim.hlevel props
HaveRows-prop (s ∷ ss) k [] = Prim.hlevel (HaveRows-prop ss (k + 1) [], props)
HaveRows-prop (s ∷ ss) k (r ∷ rs) =
    Prim.hlevel (kept_set, HaveRows-prop ss (k + 1) rs, HaveRows-prop ss (k + 1) (r ∷ rs), props)
