use Rattle.std.proofs.Common.{◌≡◌, ◌≤◌, drop, length}
use Rattle.protocol.specs.Names.{slots_eq}
use Rattle.protocol.specs.Machine.{slots_of}
use Rattle.protocol.specs.Ledger.{writable_slots}
use Rattle.drafts.proofs.fitting.fit_slots.Given as goal

abbrev pub invariant-loop-held : goal.invariant-loop-held
invariant-loop-held l = record {
  within : l.place ≤ length l.news;
  rest : slots_eq (slots_of l.news) (writable_slots l.slots) ≡ slots_eq (slots_of (drop l.place l.news)) (writable_slots (drop l.held-index l.slots));
}
