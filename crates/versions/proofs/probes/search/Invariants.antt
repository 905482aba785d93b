use Rattle.std.proofs.Common.{◌≡◌, ◌+◌, ◌≤◌, length}
use Rattle.versions.specs.Probes.{binary_digit_count}
use Rattle.versions.proofs.Searching.{IsLeft}
use Rattle.versions.proofs.probes.search.Given as goal

abbrev pub invariant-loop-left : goal.invariant-loop-left
invariant-loop-left g l =
    let tickets = g.P.Probed.tickets in
    let probed = g.P.Probed.probed in
    record {
      same : tickets l.probed ≡ tickets l.fn.probed;
      here : IsLeft (tickets l.fn.probed) l.ticket l.below l.left;
      counted : probed l.fn.probed ≤ probed l.probed;
      few : probed l.probed + binary_digit_count l.left ≤ probed l.fn.probed + binary_digit_count (length (tickets l.fn.probed));
    }

abbrev pub decreases-loop-left : goal.decreases-loop-left
decreases-loop-left g l = l.left
