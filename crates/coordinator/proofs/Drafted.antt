-- A draft that was worked out, as it is saved and applied.
use Rattle.std.proofs.Common.{◌≡◌, ◌≤◌, [], Ok, sym, subst}
use Rattle.std.specs.Vec.{vec_capacity}
use Rattle.protocol.specs.Ledger.{Work}
use Rattle.versions.specs.Additions.{IsReady}
use Rattle.versions.specs.Lines.{room_needed}
use Rattle.drafts.specs.declared.draft.Draft.{Draft}
use Rattle.effects.specs.declared.effects.Effects.{Effects}
use Rattle.effects.specs.declared.effects.Prepared.{Prepared}
use Rattle.effects.specs.declared.state.State.{State}
use Rattle.effects.specs.Held.{ledger}
use Rattle.effects.specs.Keeps.{held}
use Rattle.ledger.specs.Prepared.{ChangesAsTold, IsPrepared}
use Rattle.effects.specs.Shown.{work_of}
use Rattle.drafts.specs.Shown.{work}
use Rattle.effects.specs.Sound.{IsRightful}
use Rattle.drafts.proofs.Drafting.{on-state, over}

-- a draft's effects with room for what they add to the lines, where they may be saved
pub prepared : (s : State) (d : Draft) (p : Prepared) → d.base.now ≡ s → p.effects ≡ d.effects → p.room.items ≡ [] → room_needed d.base.now.lines d.effects.value.added ≤ vec_capacity p.room
    → IsReady d.base.now.lines d.effects.value.added → IsRightful (work d).ledger → ChangesAsTold (ledger (held s)) (Ok (work d)) → IsPrepared (held s) p
prepared s d p base same empty larger ready rightful told =
    let effects : Effects = p.effects.value in
    let is : effects ≡ d.effects.value = (λ j. (same j).value) in
    let made : work_of (held s) effects ≡ work d = over s d effects base is in
    record {
      told = subst (λ (w : Work). ChangesAsTold (ledger (held s)) (Ok w)) (sym made) told;
      rightful = subst (λ (w : Work). IsRightful w.ledger) (sym made) rightful;
      ready = on-state (λ t e. IsReady t.lines e.added) s d effects base is ready;
      empty = empty;
      larger = on-state (λ t e. room_needed t.lines e.added ≤ vec_capacity p.room) s d effects base is larger;
    }
