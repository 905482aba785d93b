-- A ledger stays one that the coordinator may keep.
use Rattle.std.proofs.Common.{◌≡◌, Result, Ok, subst}
use Rattle.names.specs.declared.limits.TheConstants.{NODES}
use Rattle.farm_base.specs.declared.message.Request.{Request}
use Rattle.farm_base.specs.declared.message.Request.TheVariants.{Hello, Acquire, Commit, Release}
use Rattle.protocol.specs.Names.{NodeId, Slot, Ticket}
use Rattle.protocol.specs.Machine.{ToCoord}
use Rattle.events.specs.declared.answer.CoordRefusal.{CoordRefusal}
use Rattle.protocol.specs.Ledger.{Ledger, Work, begin_work, handled, withdrawn, retired, pruned}
use Rattle.protocol.specs.Lawful.{IsNumber, IsSaid, IsLawfulWork}
use Rattle.protocol.specs.Farm.{farm_limits}
use Rattle.protocol.specs.Lawful as lawful
use Rattle.protocol.proofs.Lawfulness.{every_ledger_stays_lawful}
use Rattle.effects.specs.Sound.{IsSound, IsRightful}
use Rattle.drafts.specs.Requests.{IsRequest}
use Rattle.effects.specs.Sound.{AreHeldUp}
use Rattle.drafts.proofs.HeldUp.{handled-held, withdrawn-held, retired-held, pruned-held}
use Rattle.drafts.proofs.SoundWords.{sound-handled}

-- the wants of an Acquire are wants
request_of : (r : Request) → lawful.IsRequest r → IsRequest r
request_of Hello h = tt
request_of (Acquire a wants tenure) h = h.1.sorted
request_of (Commit t news) h = tt
request_of (Release t) h = tt

pub rightful-handled : (y : ToCoord) (q : Ledger) → IsRightful q → IsSaid NODES y → IsRightful (handled farm_limits y (begin_work q)).ledger
rightful-handled y q r said = record {
  sound = sound-handled farm_limits y (begin_work q) r.sound (request_of y.request said.request);
  lawful = (every_ledger_stays_lawful NODES farm_limits q r.lawful).message y said;
  held_up = handled-held farm_limits y (begin_work q) r.held_up;
}

-- what a call worked out
worked : (r : Result Work CoordRefusal) (w : Work) → r ≡ Ok w → IsLawfulWork NODES r → IsSound w.ledger → AreHeldUp w.ledger → IsRightful w.ledger
worked r w e law sound held = record { sound = sound; lawful = subst (IsLawfulWork NODES) e law; held_up = held }

pub rightful-withdrawn : (t : Ticket) (q : Ledger) (w : Work) → IsRightful q → withdrawn farm_limits t (begin_work q) ≡ Ok w → IsSound w.ledger → IsRightful w.ledger
rightful-withdrawn t q w r e sound = worked (withdrawn farm_limits t (begin_work q)) w e ((every_ledger_stays_lawful NODES farm_limits q r.lawful).withdraw t) sound (withdrawn-held farm_limits t q w e)

pub rightful-retired : (n : NodeId) (q : Ledger) (w : Work) → IsRightful q → IsNumber NODES n → retired farm_limits n (begin_work q) ≡ Ok w → IsSound w.ledger → IsRightful w.ledger
rightful-retired n q w r number e sound = worked (retired farm_limits n (begin_work q)) w e ((every_ledger_stays_lawful NODES farm_limits q r.lawful).retire n number) sound (retired-held farm_limits n q w e r.held_up)

pub rightful-pruned : (s : Slot) (q : Ledger) (w : Work) → IsRightful q → pruned farm_limits s (begin_work q) ≡ Ok w → IsSound w.ledger → IsRightful w.ledger
rightful-pruned s q w r e sound = worked (pruned farm_limits s (begin_work q)) w e ((every_ledger_stays_lawful NODES farm_limits q r.lawful).prune s) sound (pruned-held farm_limits s q w e r.held_up)
