use Rattle.std.proofs.Common.{◌≡◌, ◌++◌, [], ℕ, List, ap, ◌∙◌, append-nil}
use Rattle.protocol.specs.Machine.{Parked}
use Rattle.protocol.specs.Ledger.{parks}
use Rattle.effects.specs.declared.effects.Effects.{Effects}
use Rattle.effects.specs.Keeps.{held}
use Rattle.effects.specs.Shown.{work_of}
use Rattle.drafts.specs.Shown.{work}
use Rattle.parked.specs.Over.{still_waiting}
use Rattle.parked.specs.Queue.{asks_of}
use Rattle.parked.specs.Waiting.{waits_after}
use Rattle.parked.specs.declared.parked_change.ParkedChange.{ParkedChange}
use Rattle.parked.proofs.WaitingWords.{still-none}
use Rattle.drafts.proofs.draft.Draft.take_parked.Goals as goal

pub returns-clause-work : goal.returns-clause-work
returns-clause-work c =
    let asks : List Parked = asks_of c.args.self.now.base.now.parked in
    let left : ParkedChange = c.replace.new.dest in
    let all : waits_after asks left ≡ asks =
    ap (λ (d : ParkedChange). waits_after asks d) c.replace.ensures.after
    ∙ ap (λ (ms : List ℕ). still_waiting ms asks ++ c.new.result.since.items) c.new.ensures.over
    ∙ ap (λ (ps : List Parked). still_waiting [] asks ++ ps) c.new.ensures.since
    ∙ append-nil (still_waiting [] asks) ∙ still-none 0 asks in
    record {
      base = λ j. c.args.self.now.base.now;
      added = ap (λ (e : Effects). e.added) c.deref_mut.ensures.value;
      work = ap (λ (e : Effects). work_of (held c.args.self.now.base.now) (record e { change = record e.change { parked = left } })) c.deref_mut.ensures.value
          ∙ ap (λ (ps : List Parked). parks ps (work c.args.self.now)) all;
    }
