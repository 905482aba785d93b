-- What is read can be carried out.
use Rattle.std.proofs.Common.{ℕ, true, false, List, Result, Ok, Err, refl}
use Rattle.names.specs.declared.limits.TheConstants.{NODES}
use Rattle.farm_base.specs.declared.message.Request.{Request}
use Rattle.farm_base.specs.declared.message.Request.TheVariants.{Hello, Acquire, Commit, Release}
use Rattle.farm_base.specs.declared.message.ToCoord.{ToCoord}
use Rattle.farm_base.specs.declared.want.Want.{Want}
use Rattle.farm_base.proofs.WantLemmas.{one_is_wants}
use Rattle.farmwire.specs.Lawful as wire
use Rattle.protocol.specs.Lawful.{IsSaid, IsRequest, AreAsked}
use Rattle.coordinatorlines.specs.declared.call.Call.{Call}
use Rattle.coordinatorlines.specs.declared.call.Call.TheVariants.{Handle, Withdraw, Retire, Prune, Nudge}
use Rattle.coordinatorlines.specs.declared.call.Order.TheVariants as order
use Rattle.services.specs.declared.lost.Lost.{Lost}
use Rattle.coordinatorlines.specs.Calls.{MayBeMade, IsOwn, IsHeard, Asks, AsksFor}
use Rattle.coordinatorlines.specs.Calls.Asks.{Heard, Own}
use Rattle.farmwire.specs.Sealed.{Keys}

tenure_asked : (wants : List Want) → wire.IsTenure wants → AreAsked true wants
tenure_asked wants h = record {
  sorted = rw h.one (one_is_wants (record { folder = h.folder; writable = true }));
  one = λ e. rw (h.one, h.shared) refl;
}

requested : (r : Request) → wire.IsRequest r → IsRequest r
requested Hello h = tt
requested (Acquire a wants false) ((low, high), (each, sorted)) = (low, record { sorted = sorted; one = λ e. absurd (cc e) })
requested (Acquire a wants true) ((low, high), h) = (low, tenure_asked wants h)
requested (Commit t news) h = tt
requested (Release t) h = tt

-- what is read can be handled
pub said : (y : ToCoord) → wire.IsSaid y → IsSaid NODES y
said y h = record { speaker = record { node = h.node; life = h.life.0 }; request = requested y.request h.request }

heard : (keys : Keys) (sealed : List ℕ) (call : Call) → IsHeard keys sealed call → MayBeMade call
heard keys sealed (Handle message) h = said message h.lawful
heard keys sealed (Withdraw ticket) h = absurd h
heard keys sealed (Retire node) h = absurd h
heard keys sealed (Prune slot) h = absurd h
heard keys sealed Nudge h = absurd h

own : (text : List ℕ) (call : Call) → IsOwn text call → MayBeMade call
own text (Handle message) h = absurd h
own text (Withdraw ticket) h = tt
own text (Retire node) (is, range) = range
own text (Prune slot) h = tt
own text Nudge h = tt

asked : (keys : Keys) (text : List ℕ) (call : Call) → Asks keys text call → MayBeMade call
asked keys text call (Heard sealed is h) = heard keys sealed call h
asked keys text call (Own utf8 h) = own text call h

-- so the call that is asked for can be made
pub may_be_made : (keys : Keys) (given : Result (List ℕ) Lost) (call : Call) → AsksFor keys given (order.Call call) → MayBeMade call
may_be_made keys (Ok text) call h = asked keys text call h
may_be_made keys (Err lost) call h = absurd h
