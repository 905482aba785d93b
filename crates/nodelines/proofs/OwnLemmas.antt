-- No line of the agent's is a message.
use Rattle.std.proofs.Common.{◌≡◌, ℕ, List}
use Rattle.farm_base.specs.declared.message.ToNode.{ToNode}
use Rattle.nodelines.specs.declared.order.Call.TheVariants as call
use Rattle.nodelines.specs.declared.order.Order.TheVariants as order
use Rattle.nodelines.specs.declared.verb.Verb.{Verb}
use Rattle.nodelines.specs.declared.verb.Verb.TheVariants.{Ask, Tenure, Begin, Finish, Abort, Resend, Blob, Content, Forget, State}
use Rattle.nodelines.specs.Orders.{Says, AskedBy}

none_said : (v : Verb) (ws : List (List ℕ)) (m : ToNode) → Says v ws (order.Call (call.Receive m)) → ⊥
none_said Ask ws m h = (let bad : order.Call (call.Receive m) ≡ order.Call (call.Ask h.wants) = h.asked in absurd (cc bad))
none_said Tenure ws m h = (let bad : order.Call (call.Receive m) ≡ order.Call (call.Tenure h.folder) = h.asked in absurd (cc bad))
none_said Begin ws m h = (let bad : order.Call (call.Receive m) ≡ order.Call (call.Begin h.ticket) = h.asked in absurd (cc bad))
none_said Finish ws m h = (let bad : order.Call (call.Receive m) ≡ order.Finish h.ticket h.lefts = h.asked in absurd (cc bad))
none_said Abort ws m h = (let bad : order.Call (call.Receive m) ≡ order.Call (call.Abort h.ticket) = h.asked in absurd (cc bad))
none_said Resend ws m h = (let bad : order.Call (call.Receive m) ≡ order.Call call.Resend = h.asked in absurd (cc bad))
none_said Blob ws m h = (let bad : order.Call (call.Receive m) ≡ order.Blob h.file = h.asked in absurd (cc bad))
none_said Content ws m h = (let bad : order.Call (call.Receive m) ≡ order.Content h.digest h.file = h.asked in absurd (cc bad))
none_said Forget ws m h = (let bad : order.Call (call.Receive m) ≡ order.Call (call.Forget h.digest) = h.asked in absurd (cc bad))
none_said State ws m h = (let bad : order.Call (call.Receive m) ≡ order.State h.ask = h.asked in absurd (cc bad))

pub no_message : (ws : List (List ℕ)) (m : ToNode) → AskedBy ws (order.Call (call.Receive m)) → ⊥
no_message ws m asked = none_said asked.verb asked.behind m asked.says
