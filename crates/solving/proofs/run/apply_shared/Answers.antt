use Rattle.std.specs.Bool.{⊤}
use Rattle.std.proofs.Common.{◌≡◌, Err, Result, List, [], ◌∷◌, ◌++◌, ap, sym, subst, ◌∙◌, rules}
use Rattle.executions.specs.declared.refusal.SharedRefusal.{SharedRefusal}
use Rattle.std.specs.Vec.Iter.{into_iter_items}
use Rattle.protocol.specs.Names.{is_shared}
use Rattle.folders.specs.declared.edit.Edit.{Edit}
use Rattle.slotfolders.specs.Left.{FolderEdits}
use Rattle.slotfolders.specs.Batches.{batch}
use Rattle.executions.specs.Live.{Applies}
use Rattle.solving.specs.Batches.{with_batches}
use Rattle.solving.proofs.BatchLemmas.{shared_more, other_more, not_shared, refused_same, taken_front}
use Rattle.solving.proofs.run.apply_shared.Goals.{in-Shared, in_default, then-matches+in-Ok, else-matches}
use Rattle.solving.proofs.run.apply_shared.Goals as goal

pub returns-in-Err-clause-err : goal.returns-in-Err-clause-err
returns-in-Err-clause-err c =
    let live = c.loop-folder.live in
    let answer : Result ⊤ SharedRefusal = Err c.in-Err.refusal in
    let told = subst (λ r. Applies live c.args.ticket c.in-Some.folder c.into_vec.result.items r c.apply.new.self) c.in-Err.is c.apply.ensures in
    let refuses = subst (λ edits. Applies live c.args.ticket c.in-Some.folder edits answer c.apply.new.self) c.into_vec.ensures told in
    let same : c.apply.new.self ≡ live = refused_same live c.apply.new.self c.args.ticket c.in-Some.folder c.in-Some.edits c.in-Err.refusal refuses in
    let items : into_iter_items c.into_iter-folder-iterator.result ≡ c.args.edits = search rules in
    let front = taken_front c.into_iter-folder-iterator.result c.loop-folder.yielded c.loop-folder.folder-iterator c.loop-folder.yielded_by in
    let matches : is_shared c.in-Some.folder.mode ≡ c.match-matches.matches = elim c.match-matches.branch [
      | in-Shared w ↦ ap is_shared w.in-Shared.is ∙ sym w.matches-is
      | in_default w ↦ not_shared c.in-Some.folder.mode w.in_default.not-Shared ∙ sym w.matches-is
    ] in
    record {
      made = c.loop-folder.yielded;
      next = (c.in-Some.folder, c.in-Some.edits);
      rest = into_iter_items c.next.new.self;
      whole = sym items ∙ front ∙ ap (λ more. c.loop-folder.yielded ++ more) c.in-Some.ensures.steps.0;
      shared = matches ∙ c.if-matches.true;
      batches = same ∙ c.loop-folder.invariant;
      refusal = c.in-Err.refusal;
      refuses = subst (λ old. Applies old c.args.ticket c.in-Some.folder c.in-Some.edits answer c.apply.new.self) (sym same) refuses;
      why = c.edits_fault.ensures;
    }

pub loop-folder-preserved : goal.loop-folder-preserved
loop-folder-preserved c =
    let matches : is_shared c.in-Some.folder.mode ≡ c.match-matches.matches = elim c.match-matches.branch [
      | in-Shared w ↦ ap is_shared w.in-Shared.is ∙ sym w.matches-is
      | in_default w ↦ not_shared c.in-Some.folder.mode w.in_default.not-Shared ∙ sym w.matches-is
    ] in
    let edit : FolderEdits = (c.in-Some.folder, c.in-Some.edits) in
    elim c.if-matches.branch [
      | then-matches+in-Ok w ↦ (let told = subst (λ r. Applies c.loop-folder.live c.args.ticket c.in-Some.folder w.into_vec.result.items r w.apply.new.self) w.in-Ok.is w.apply.ensures in
          w.live-is ∙ told.2
          ∙ ap (λ (edits : List Edit). with_batches (batch c.args.ticket c.in-Some.folder edits ∷ []) c.loop-folder.live) w.into_vec.ensures
          ∙ ap (with_batches (batch c.args.ticket c.in-Some.folder c.in-Some.edits ∷ [])) c.loop-folder.invariant
          ∙ sym (shared_more c.args.ticket c.loop-folder.yielded edit c.args.live.now (matches ∙ w.if-matches.true)))
      | else-matches w ↦ w.live-is ∙ c.loop-folder.invariant
          ∙ ap (λ bs. with_batches bs c.args.live.now) (sym (other_more c.args.ticket c.loop-folder.yielded edit (matches ∙ w.if-matches.false)))
    ]
