use Rattle.std.proofs.Common.{◌≡◌, Bool, false, [], List, ap, sym, subst, ◌∙◌}
use Rattle.names.specs.Contents.{content_digest}
use Rattle.farm_base.specs.declared.message.Version.{Version}
use Rattle.protocol.specs.Names.{Digest}
use Rattle.protocol.specs.Nodes.{restarted}
use Rattle.protocol.specs.World.{first_node}
use Rattle.nodecore.specs.Shown.{shown}
use Rattle.nodecontents.specs.Stored.{kept_node, known_in, learn_all, HaveOneDigestEach}
use Rattle.nodecontents.proofs.StoredLemmas.{known_are, distinct_have_one}
use Rattle.nodecore.proofs.node_core.NodeCore.kept.Goals as goal

pub returns-clause-node : goal.returns-clause-node
returns-clause-node c =
    let known : learn_all c.iter.result (first_node content_digest).known ≡ known_in c.args.self.now.versions =
    ap (λ (vs : List (Version × Digest)). learn_all vs (first_node content_digest).known) c.iter.ensures.rest ∙ known_are c.args.self.now.versions c.iter.ensures.unique in
    λ j. record { life = c.args.self.now.life; asks = []; store = c.values.ensures j; known = known j; spent = false }

pub returns-clause-digests : goal.returns-clause-digests
returns-clause-digests c = subst (λ (vs : List (Version × Digest)). HaveOneDigestEach vs) (sym c.iter.ensures.rest) (distinct_have_one c.args.self.now.versions.entries c.iter.ensures.unique)

pub returns-clause-restart : goal.returns-clause-restart
returns-clause-restart c = λ alive at.
    let known : learn_all c.iter.result (first_node content_digest).known ≡ known_in c.args.self.now.versions =
    ap (λ (vs : List (Version × Digest)). learn_all vs (first_node content_digest).known) c.iter.ensures.rest ∙ known_are c.args.self.now.versions c.iter.ensures.unique in
    let node : kept_node c.args.self.now.life c.values.result c.iter.result ≡ record (shown c.args.self.now) { asks = []; spent = false } =
    λ j. record { life = c.args.self.now.life; asks = []; store = c.values.ensures j; known = known j; spent = false } in
    ap (restarted at) node ∙ ap (λ (b : Bool). restarted at (record (shown c.args.self.now) { asks = []; spent = b })) (sym alive)
