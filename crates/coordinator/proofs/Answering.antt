-- What a coordinator that is up answers.
use Rattle.std.proofs.Common.{◌≡◌, List, Bool, false, Result, Ok, Err, sym, subst}
use Rattle.std.specs.Prelude.{IfOk}
use Rattle.protocol.specs.Machine.{FromCoord, ToCoord}
use Rattle.events.specs.declared.answer.CoordNote.{CoordNote}
use Rattle.events.specs.declared.answer.CoordRefusal.{CoordRefusal}
use Rattle.protocol.specs.Ledger.{Work}
use Rattle.ledger.specs.Texts.{Texts}
use Rattle.effects.specs.Held.{ledger}
use Rattle.ledger.specs.Seen.{Seen}
use Rattle.ledger.specs.Settling.{Answers}
use Rattle.ledger.specs.declared.handled.Handled.{Handled}
use Rattle.coordinator.specs.Settling.{SettlesWhile, Settles}
use Rattle.coordinator.specs.Promises.{GrantsAtOnce, EndsOnlyItsOwn}

-- the answer of a coordinator that is up
pub settled_up : {K : Type 0} (saving : K → Texts → Bool → K → Type 0) (work work' : Result Work CoordRefusal) (old new : Seen K) (result : Result Handled CoordRefusal)
    → old.down ≡ false → work' ≡ work → Answers saving work' old new result → Settles saving work old new result
settled_up saving work work' old new result up same answer = subst (λ b. SettlesWhile b saving work old new result) (sym up) (subst (λ r. Answers saving r old new result) same answer)

-- what the work grants at once the answer does
pub at_once : {K : Type 0} (saving : K → Texts → Bool → K → Type 0) (w : Work) (old new : Seen K) (result : Result Handled CoordRefusal) (y : ToCoord)
    → Answers saving (Ok w) old new result → GrantsAtOnce (ledger old.held) y w.note w.sends → IfOk result (λ h. GrantsAtOnce (ledger old.held) y h.note h.sends)
at_once saving w old new (Ok h) y answer grants =
    subst (λ (n : CoordNote). GrantsAtOnce (ledger old.held) y n h.sends) (sym answer.note) (subst (λ (ys : List FromCoord). GrantsAtOnce (ledger old.held) y w.note ys) (sym answer.sends) grants)
at_once saving w old new (Err e) y answer grants = tt

-- what the work leaves of other leases the answer does
pub own : {K : Type 0} (saving : K → Texts → Bool → K → Type 0) (w : Work) (old new : Seen K) (result : Result Handled CoordRefusal) (y : ToCoord)
    → Answers saving (Ok w) old new result → EndsOnlyItsOwn (ledger old.held) y w.ledger → IfOk result (λ h. EndsOnlyItsOwn (ledger old.held) y (ledger new.held))
own saving w old new (Ok h) y answer ends = subst (EndsOnlyItsOwn (ledger old.held) y) (sym answer.ledger) ends
own saving w old new (Err e) y answer ends = tt
