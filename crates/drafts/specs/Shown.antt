-- What an event shows while it is worked out.
use Rattle.std.specs.Prelude.{◌≡◌, Bool, true, false, ◌||◌, List, Option, Some, None, Result, Ok}
use Rattle.protocol.specs.Names.{Ticket}
use Rattle.protocol.specs.Machine.{FromCoord}
use Rattle.protocol.specs.Ledger.{Ledger, Work, begin_work, Lease, is_saved, without, lease_under}
use Rattle.leases.specs.Table.{retires_some}
use Rattle.versions.specs.Additions.{IsReady}
use Rattle.events.specs.declared.answer.CoordRefusal.{CoordRefusal}
use Rattle.effects.specs.Keeps.{held}
use Rattle.effects.specs.Shown.{work_of}
use Rattle.effects.specs.Sound.{IsSound}
use Rattle.drafts.specs.declared.draft.Draft.{Draft}

-- the work that a draft stands for
abbrev pub work : Draft → Work
work d = work_of (held d.base.now) d.effects.value

-- the work so far, changed so, over the same state, and the same is added to the lines
pub record Makes (f : Work → Work) (old new : Draft) : Type 0 where
  pub base : new.base.now ≡ old.base.now
  pub added : new.effects.value.added ≡ old.effects.value.added
  pub work : work new ≡ f (work old)

-- the work, changed so, over the same state, whose lines can take what is added
pub record Finishes (f : Work → Work) (old new : Draft) : Type 0 where
  pub base : new.base.now ≡ old.base.now
  pub ready : IsReady new.base.now.lines new.effects.value.added
  pub work : work new ≡ f (work old)

-- the same of a call of the operator, which may be refused and isn't
pub record Accepts (call : Work → Result Work CoordRefusal) (old new : Draft) : Type 0 where
  pub base : new.base.now ≡ old.base.now
  pub ready : IsReady new.base.now.lines new.effects.value.added
  pub sound : IsSound (work new).ledger
  pub work : call (work old) ≡ Ok (work new)

-- the record has the lease, if there is one
abbrev pub saved_under : Option Lease → Bool
saved_under None = false
saved_under (Some g) = is_saved g

-- an event that said these, and nothing else
abbrev pub having_said : List FromCoord → Ledger → Work
having_said sends q = record (begin_work q) { sends = sends }

-- the lease of a ticket ends, if there is one
abbrev pub ended : Ticket → Work → Work
ended t w = record w {
  ledger = record w.ledger { live = without t w.ledger.live };
  changed = w.changed || saved_under (lease_under w.ledger.live t);
}

-- the lease of a ticket is withdrawn, if there is one
abbrev pub withdraws_under : Ticket → Work → Work
withdraws_under t w = record w {
  ledger = record w.ledger { live = without t w.ledger.live; retired = retires_some (lease_under w.ledger.live t) w.ledger.retired };
  changed = w.changed || saved_under (lease_under w.ledger.live t);
}

-- a lease ends, if there is one, and the record has its versions
abbrev pub ended_committed : Ticket → Work → Work
ended_committed t w = record w { ledger = record w.ledger { live = without t w.ledger.live }; changed = true }
