-- The record of a ledger, and the ledger that a restart makes of a record.
use Rattle.std.proofs.Common.{◌≡◌, ◌≤◌, ℕ, List, [], ◌∷◌, filter, sym, ap, ◌∙◌, subst, arith}
use Rattle.std.specs.Prelude.{All, AllPairs, map}
use Rattle.std.specs.List.Sorted.{IsStrictlyIncreasing, IsStrictlySortedBy}
use Rattle.std.proofs.lemmas.List.Elements.{All-filter}
use Rattle.std.proofs.lemmas.List.Kept.{AllPairs-cons}
use Rattle.names.specs.declared.limits.TheConstants.{NODES}
use Rattle.names.specs.Slots.{slot_cmp}
use Rattle.holdings.specs.Leases.{AreApart, Rises, AreLeases, IsOpen}
use Rattle.holdings.specs.Lives.{AreLives}
use Rattle.protocol.specs.Farm.{farm_limits}
use Rattle.protocol.specs.Names.{Slot}
use Rattle.protocol.specs.Machine.{LineVersion}
use Rattle.protocol.specs.Ledger.{Lease, Ledger, Saved, is_saved, saves, reads}
use Rattle.protocol.specs.Lawful.{AllApart, IsLawful}
use Rattle.protocol.proofs.Lawfulness.{every_ledger_stays_lawful}
use Rattle.protocol.proofs.Saving.{saved_twice}
use Rattle.versions.specs.Lines.{LineOf, line_at}
use Rattle.versions.specs.Ordered.{AreLines}
use Rattle.saverecord.specs.declared.record.Record.{Record}
use Rattle.saverecord.specs.Ledgers.{IsKept, ledger_of}
use Rattle.saverecord.specs.Logs.{Holds, saved_by, saved_in}
use Rattle.saverecord.specs.Texts.{Texts}
use Rattle.saverecord.proofs.FoldLemmas.{pairs_of}
use Rattle.saverecord.proofs.LedgerLemmas.{all_from_in}
use Rattle.effects.specs.Sound.{IsRightful}
use Rattle.leaseindex.proofs.EndedLemmas.{leases-filter}

-- versions up to a ticket are so up to a higher one
pub up_to : (low high : ℕ) (vs : List LineVersion) → low ≤ high → All (λ v. v.ticket.0 ≤ low) vs → All (λ v. v.ticket.0 ≤ high) vs
up_to low high vs below all = λ k d h. (let under = all k d h in omega (arith, under, below))

-- the record of what a ledger saves, each list in its order
pub record_kept : (r : Record) (q : Ledger) → IsRightful q → ledger_of r ≡ reads (saves q) → AreLives r.lives → IsStrictlyIncreasing (map (λ n. n.0) r.retired_nodes) → IsStrictlySortedBy slot_cmp r.retired → AreLines r.lines → IsKept r
record_kept r q rightful same lives nodes retired lines = record {
  lawful = subst (IsLawful NODES) (sym same) (every_ledger_stays_lawful NODES farm_limits q rightful.lawful).restart;
  lives_rise = lives.rise;
  lives = lives.counted;
  nodes_rise = nodes;
  retired_rise = retired;
  slots_rise = subst (All Rises) (sym live) (All-filter is_saved Rises q.live rightful.sound.leases.slots);
  lines = lines;
  past = λ s. up_to q.last r.last.0 (line_at r.lines s) (subst (λ n. q.last ≤ n) (sym last) rightful.lawful.core.block) (subst (All (λ v. v.ticket.0 ≤ q.last)) (sym (line_is s)) (rightful.sound.past s));
  ahead = subst (λ (f : LineOf). All (IsOpen f) r.leases) (sym line) (subst (All (IsOpen q.line)) (sym live) (All-filter is_saved (IsOpen q.line) q.live rightful.sound.ahead));
}
  where
    live : r.leases ≡ ((reads (saves q)).live)
    live = ap (λ (x : Ledger). x.live) same

    line : line_at r.lines ≡ q.line
    line = ap (λ (x : Ledger). x.line) same

    line_is : (s : Slot) → line_at r.lines s ≡ q.line s
    line_is s = ap (λ (x : Ledger). x.line s) same

    last : r.last.0 ≡ q.ceiling
    last = ap (λ (x : Ledger). x.last) same

-- of leases that are apart, no slot is in two
slots_apart : (gs : List Lease) → AllApart gs → AllPairs AreApart gs
slots_apart [] apart = λ i j d lt within. absurd (omega arith)
slots_apart (g ∷ gs) apart = AllPairs-cons AreApart g gs (all_from_in (AreApart g) gs (λ h i. (apart.0 h i).slots)) (slots_apart gs apart.1)

pub leases_of : (r : Record) → IsKept r → AreLeases (filter is_saved r.leases)
leases_of r kept =
    leases-filter is_saved r.leases (record { tickets = pairs_of r.leases kept.lawful.core.apart; apart = slots_apart r.leases kept.lawful.core.apart; slots = kept.slots_rise })

-- the ledger that a restart makes of a record is one that the coordinator may keep
pub rightful_of : (r : Record) → IsKept r → IsRightful (reads (saves (ledger_of r)))
rightful_of r kept = record {
  sound = record {
    leases = leases_of r kept;
    given = All-filter is_saved (λ g. g.ticket.0 ≤ r.last.0) r.leases (all_from_in (λ g. g.ticket.0 ≤ r.last.0) r.leases kept.lawful.core.given);
    past = kept.past;
    ahead = All-filter is_saved (IsOpen (line_at r.lines)) r.leases kept.ahead;
    asks = λ k d lt. absurd (omega arith);
  };
  lawful = (every_ledger_stays_lawful NODES farm_limits (ledger_of r) kept.lawful).restart;
  held_up = λ p i. absurd i;
}

-- what a restart takes up saves the same
pub saves_again : (q : Ledger) → saves (reads (saves q)) ≡ saves q
saves_again q = ap (λ l. record (saves q) { live = l }) (saved_twice q.live)

-- what kept texts hold, as a restart takes it up
pub held_in : (t : Texts) (s : Saved) → Holds t s → saved_in t ≡ s
unfolding saved_in
held_in t s h = ap saved_by h.read ∙ h.saved
