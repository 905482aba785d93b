use Rattle.std.proofs.Common.{sym, ◌∙◌, subst}
use Rattle.names.specs.Decimals.{Lacks}
use Rattle.farmwire.proofs.SealedLemmas.{no_first, no_second, second_word, none_then}
use Rattle.farmwire.proofs.sealing.named.Goals as goal

pub returns-in_err-_verb-clause-only : goal.returns-in_err-_verb-clause-only
returns-in_err-_verb-clause-only c =
    rw c.from_residual.ensures (λ node h. no_first c.args.text.now (subst (Lacks 32) c.in-Ok.ensures.cases.0 c.in_err-_verb.ensures.only) node h)

pub returns-in_err-node-clause-only : goal.returns-in_err-node-clause-only
returns-in_err-node-clause-only c =
    let parts = c.in_ok-_verb.ensures.found in
    rw c.from_residual-in_err-node.ensures (λ node h.
    no_second c.args.text.now c.in_ok-_verb._verb.now c.in_ok-_verb.behind.now (sym c.in-Ok.ensures.cases.0 ∙ parts.0) parts.1 c.in_err-node.ensures.only node h)

pub returns-clause-only : goal.returns-clause-only
returns-clause-only c =
    let parts = c.in_ok-_verb.ensures.found in
    let more = c.in_ok-node.ensures.found in
    none_then c.node_of.result (λ only node h. only node h.is_node
    (second_word c.args.text.now c.in_ok-_verb._verb.now c.in_ok-_verb.behind.now c.in_ok-node.node.now c.in_ok-node._behind.now
    (sym c.in-Ok.ensures.cases.0 ∙ parts.0) parts.1 more.0 more.1 node h)) c.node_of.ensures.only
