use Rattle.coordinatorfilter.proofs.carrying.carry_out.Goals as goal

pub returns-clause-done : goal.returns-clause-done
returns-clause-done g c = record {
  ready = c.restart_if-before.new.coordinator;
  done = c.answer-answer.new.coordinator;
  before = rw c.is_down-down.ensures at c.restart_if-before.ensures;
  ended = rw c.leases.ensures at c.in_ok-ended.ensures;
  answer = c.answer-answer.ensures;
  over = rw c.lives.ensures at c.over_of-over.ensures;
  after = rw c.is_save_fault-failed.ensures at c.restart_if-after.ensures;
}
