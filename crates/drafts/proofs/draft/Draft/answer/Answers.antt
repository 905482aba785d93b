use Rattle.std.proofs.Common.{List, ap, sym, ◌∙◌}
use Rattle.farm_base.specs.declared.message.Request.{Request}
use Rattle.protocol.specs.Farm.{farm_limits}
use Rattle.protocol.specs.Machine.{News}
use Rattle.protocol.specs.Ledger.{Work, answering, committing, may_commit, lease_under}
use Rattle.drafts.specs.Shown.{work}
use Rattle.drafts.proofs.draft.Draft.answer.Goals as goal

pub returns-in_ok-commit-in-Commit : goal.returns-in_ok-commit-in-Commit
returns-in_ok-commit-in-Commit c =
    let node = c.args.message.now.node in
    let life = c.args.message.now.life in
    let w : Work = work c.args.self.now in
    let done = c.in_ok-commit-in-Commit.ensures in
    let by : (List News → Work) = λ news. committing farm_limits (may_commit node life news (lease_under w.ledger.live c.in-Commit.ticket)) node life c.in-Commit.ticket news w in
    record {
      base = done.base;
      ready = done.ready;
      work = done.work ∙ ap by c.as_slice.ensures ∙ sym (ap (λ (r : Request). answering farm_limits node life r w) c.in-Commit.is);
    }
