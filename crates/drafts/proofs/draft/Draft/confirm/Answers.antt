use Rattle.std.proofs.Common.{List, ap, ◌∙◌}
use Rattle.farm_base.specs.declared.message.FromCoord.TheVariants as told
use Rattle.protocol.specs.Machine.{Confirmed}
use Rattle.protocol.specs.Ledger.{confirms, says, versions_of}
use Rattle.effects.specs.declared.effects.Effects.{Effects}
use Rattle.effects.specs.Shown.{lines_with}
use Rattle.drafts.specs.Shown.{work}
use Rattle.drafts.proofs.Drafting.{makes-as}
use Rattle.drafts.proofs.draft.Draft.confirm.Goals as goal

pub returns : goal.returns
returns c =
    makes-as (confirms c.args.node c.args.life c.args.ticket c.args.news.now) c.in_ok-send.ensures
    (ap (λ (vs : List Confirmed). says (told.Committed c.args.node c.args.life c.args.ticket vs) (work c.args.self.now))
    (c.new.ensures ∙ c.in_ok-versions.ensures ∙ ap (λ (e : Effects). versions_of (lines_with c.args.self.now.base.now.lines e.added) c.args.ticket c.args.news.now) c.deref.ensures))
