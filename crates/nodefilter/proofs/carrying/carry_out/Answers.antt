use Rattle.std.proofs.Common.{not, ◌∙◌, refl, sym}
use Rattle.nodefilter.specs.States.{seen}
use Rattle.nodefilter.proofs.CarriedLemmas.{each_kept, not_false, not_true, stays_sound}
use Rattle.nodefilter.proofs.carrying.carry_out.Goals as goal

pub returns-clause-done : goal.returns-clause-done
returns-clause-done g c =
    let kept = c.keep_changes-kept.ensures in
    let done = c.is_ok-done.ensures.value in
    let others = rw c.forgotten_by-gone.ensures at kept.others in
    let all = rw c.forgotten_by-gone.ensures at (rw c.in_ok-brought.ensures at (rw c.as_slice.ensures at kept.kept)) in
    let fails = rw c.forgotten_by-gone.ensures at (rw c.in_ok-brought.ensures at (rw c.as_slice.ensures at kept.fails)) in
    let dropped = rw c.forgotten_by-gone.ensures at kept.dropped in
    let old = c.args.filter.now in
    let new = record old { core = c.answered-answer.new.core; store = c.keep_changes-kept.new.store; down = not c.keep_changes-kept.result } in
    record {
      done = c.answered-answer.ensures.done;
      same = rw c.answered-answer.ensures.place refl;
      late = c.answered-answer.ensures.late;
      few = c.answered-answer.ensures.few;
      others = others;
      life = kept.life;
      dropped = λ d gone ok up. dropped (not_false c.keep_changes-kept.result up) (done ∙ ok) d gone;
      fails = λ down. (let failed = fails (not_true c.keep_changes-kept.result down) in (sym done ∙ failed.0, failed.1));
      sound = stays_sound g.S.Store.kept c.args.call (seen old) (seen new) c.answered-answer.result c.keep_changes-kept.result c.answered-answer.ensures.done others
          (λ fine ok. each_kept g.S.Store.kept c.args.call (seen new).node.store (seen new).store (all fine (done ∙ ok))) (λ no. (kept.idle (done ∙ no)).1) refl c.requires;
    }
