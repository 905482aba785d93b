use Rattle.std.proofs.Common.{rules, ◌≡◌, ◌==◌, true, ap, sym, ◌∙◌, subst}
use Rattle.farm_base.specs.declared.message.FromCoord.{FromCoord}
use Rattle.farm_base.specs.declared.message.FromCoord.TheVariants as coord
use Rattle.farm_base.specs.Receivers.{told_life}
use Rattle.protocol.specs.Farm.{farm_limits}
use Rattle.protocol.specs.Names.{Life}
use Rattle.protocol.specs.Nodes.{NodeWork, heard, learned, dropped, recalled, first, finished, recallable}
use Rattle.nodecore.specs.Shown.{shown, place, Does}
use Rattle.nodecore.proofs.KeptLemmas.{of_life_now}
use Rattle.nodecore.proofs.node_core.NodeCore.hear.Goals as goal

pub returns-in-Committed-clause-work : goal.returns-in-Committed-clause-work
returns-in-Committed-clause-work c =
    let x = shown c.args.self.now in
    let m = c.in-Committed in
    let is : c.args.message.now ≡ coord.Committed m.node m.life m.ticket m.versions = search rules in
    let life : c.life.result ≡ m.life = c.life.ensures ∙ ap told_life is in
    let same : (c.life.result.0 == x.life.0) ≡ true = search rules in
    let now : (m.life.0 == x.life.0) ≡ true = ap (λ (l : Life). l.0 == x.life.0) (sym life) ∙ same in
    subst (λ (w : NodeWork). Does w x (shown c.learn_news.new.self) c.learn_news.result)
    (sym (ap (λ (f : FromCoord). heard farm_limits (place c.args.self.now) f x) is
    ∙ of_life_now m.life x (learned m.ticket m.versions x (first (finished m.ticket) x.asks 0)) now))
    c.learn_news.ensures.work

pub returns-in-Fenced-clause-work : goal.returns-in-Fenced-clause-work
returns-in-Fenced-clause-work c =
    let x = shown c.args.self.now in
    let m = c.in-Fenced in
    let is : c.args.message.now ≡ coord.Fenced m.node m.life m.ticket = search rules in
    let life : c.life.result ≡ m.life = c.life.ensures ∙ ap told_life is in
    let same : (c.life.result.0 == x.life.0) ≡ true = search rules in
    let now : (m.life.0 == x.life.0) ≡ true = ap (λ (l : Life). l.0 == x.life.0) (sym life) ∙ same in
    ap (λ (f : FromCoord). heard farm_limits (place c.args.self.now) f x) is
    ∙ of_life_now m.life x (dropped m.ticket x (first (finished m.ticket) x.asks 0)) now
    ∙ c.drop_news.ensures.work

pub returns-in-Recall-clause-work : goal.returns-in-Recall-clause-work
returns-in-Recall-clause-work c =
    let x = shown c.args.self.now in
    let m = c.in-Recall in
    let is : c.args.message.now ≡ coord.Recall m.node m.life m.ticket = search rules in
    let life : c.life.result ≡ m.life = c.life.ensures ∙ ap told_life is in
    let same : (c.life.result.0 == x.life.0) ≡ true = search rules in
    let now : (m.life.0 == x.life.0) ≡ true = ap (λ (l : Life). l.0 == x.life.0) (sym life) ∙ same in
    ap (λ (f : FromCoord). heard farm_limits (place c.args.self.now) f x) is
    ∙ of_life_now m.life x (recalled m.ticket x (first (recallable m.ticket) x.asks 0)) now
    ∙ c.recall.ensures.work
