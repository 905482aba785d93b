use Rattle.std.proofs.Common.{List, [], ℕ, All, get_or, length, sym, subst, inl, inr, arith}
use Rattle.protocol.specs.Machine.{Parked}
use Rattle.protocol.specs.Lists.{In}
use Rattle.protocol.proofs.Base.{all_in, in_append}
use Rattle.leases.specs.Leases.{Table}
use Rattle.leases.specs.Table.{is_free}
use Rattle.effects.specs.Keeps.{held}
use Rattle.parked.specs.Over.{still_waiting}
use Rattle.parked.specs.Queue.{asks_of}
use Rattle.effects.specs.Shown.{table_after}
use Rattle.effects.specs.Spent.{IsNoted}
use Rattle.parked.proofs.NewestWords.{all-still}
use Rattle.parked.proofs.OverWords.{still-has}
use Rattle.parked.proofs.WaitingWords.{still-none}
use Rattle.effects.proofs.change.Change.spent_after.Goals as goal

pub returns : goal.returns
returns c = λ line p i.
    let asks : List Parked = asks_of c.args.base.now.parked in
    let over : List ℕ = c.args.self.now.parked.over.places.items in
    let P : Parked → Type 0 = λ q. IsNoted c.note_asks.new.self.folders.items (is_free (table_after (held c.args.base.now) c.args.self.now)) q in
    let before : (q : Parked) → In q asks → P q = λ q j. (λ w k spent. c.note_asks.ensures.kept w.folder (c.in_ok-spent.ensures q (c.requires q j) w k spent)) in
    let each : All P asks = (λ k d inside. before (get_or asks k d) (subst (In (get_or asks k d)) (still-none 0 asks) (still-has asks [] 0 (length asks) k d (omega arith) (omega arith) (omega arith) tt))) in
    elim (in_append p (still_waiting over asks) c.args.self.now.parked.since.items i) [
      | inl j ↦ all_in P (still_waiting over asks) (all-still P 0 over asks each) p j
      | inr j ↦ subst (λ (t : Table). IsNoted c.note_asks.new.self.folders.items (is_free t) p) c.over.ensures (c.in_ok-note_asks.ensures.noted p (subst (In p) (sym c.as_slice-since.ensures.value) j))
    ]
