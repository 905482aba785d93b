use Rattle.std.proofs.Common.{◌≡◌, ◌≤◌, ◌+◌, ◌-◌, ◌&&◌, ◌||◌, length, take, vec_len, vec_capacity}
use Rattle.std.specs.List.{list_any}
use Rattle.protocol.specs.Names.{Ticket}
use Rattle.tenures.specs.Tenures.{among, is_wanted, is_under}
use Rattle.tenures.proofs.tenures.note_wanted.Given as goal

abbrev pub invariant-loop-tenure : goal.invariant-loop-tenure
invariant-loop-tenure l = record {
  room : vec_len l.recalled + (length l.tenures - l.tenure-index) ≤ vec_capacity l.recalled;
  noted : (t : Ticket) → among l.recalled.items t
      ≡ (among l.initial.recalled.items t || list_any (λ tenure. is_wanted l.node l.wants tenure && is_under t tenure) (take l.tenure-index l.tenures));
}
