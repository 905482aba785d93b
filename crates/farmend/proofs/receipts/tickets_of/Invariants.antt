use Rattle.std.proofs.Common.{◌≡◌, take}
use Rattle.farmend.specs.Receipts.{tickets_of}
use Rattle.farmend.proofs.receipts.tickets_of.Given as goal

-- the tickets of the receipts so far
abbrev pub invariant-loop-receipt : goal.invariant-loop-receipt
invariant-loop-receipt l = l.tickets.items ≡ tickets_of (take l.receipt-index l.receipts)
