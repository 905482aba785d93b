use Rattle.std.proofs.Common.{take}
use Rattle.std.specs.String.{string_bytes}
use Rattle.services.specs.Outside.{Sends}
use Rattle.services.proofs.outside.push_messages.Given as goal
use Rattle.farmwire.specs.Sealed.{key_in}

abbrev pub invariant-loop-message : goal.invariant-loop-message
invariant-loop-message l = Sends (key_in l.keys) (take l.message-index l.messages) (string_bytes l.fn.text) (string_bytes l.text)
