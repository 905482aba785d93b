use Rattle.std.proofs.Common.{◌++◌, ◌∷◌, [], List, ap, ◌∙◌}
use Rattle.protocol.specs.Machine.{Parked}
use Rattle.protocol.specs.Ledger.{parks}
use Rattle.effects.specs.declared.effects.Effects.{Effects}
use Rattle.effects.specs.Keeps.{held}
use Rattle.effects.specs.Shown.{work_of}
use Rattle.drafts.specs.Shown.{work}
use Rattle.parked.specs.Queue.{asks_of}
use Rattle.parked.specs.Waiting.{waits_after}
use Rattle.drafts.proofs.draft.Draft.park.Goals as goal

pub returns : goal.returns
returns c =
    let asks : List Parked = asks_of c.args.self.now.base.now.parked in
    record {
      base = λ j. c.args.self.now.base.now;
      added = ap (λ (e : Effects). e.added) c.deref_mut.ensures.value;
      work = ap (λ (e : Effects). work_of (held c.args.self.now.base.now) (record e { change = record e.change { parked = c.park.new.self } })) c.deref_mut.ensures.value
          ∙ ap (λ (ps : List Parked). parks ps (work c.args.self.now)) (c.in_ok-park.ensures asks ∙ ap (λ (e : Effects). waits_after asks e.change.parked ++ c.args.p ∷ []) c.deref_mut.ensures.value);
    }
