-- A refusal that leaves the world as it was.
use Rattle.std.proofs.Common.{ℕ, List, refl, inl, Err}
use Rattle.protocol.specs.Names.{Digest}
use Rattle.protocol.specs.Ledger.{Limits}
use Rattle.protocol.specs.World.{World}
use Rattle.protocol.specs.Replay.{Event}
use Rattle.protocol.specs.Meaning.{Means}
use Rattle.events.specs.declared.answer.EventRefusal.{EventRefusal}

pub nothing_done : (sha : List ℕ → Digest) (k : Limits) (size : ℕ) (u : World) (e : Event) (r : EventRefusal) → Means sha k size u e (Err r) u
nothing_done sha k size u e r = record { down = inl refl; machine = refl; pool = refl; nodes = λ n. inl refl }
