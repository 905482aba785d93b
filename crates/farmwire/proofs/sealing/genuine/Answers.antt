use Rattle.std.proofs.Common.{subst}
use Rattle.farmwire.specs.Sealed.{Names, HasMac, key_in}
use Rattle.farmwire.proofs.SealedLemmas.{names_same}
use Rattle.farmwire.proofs.sealing.genuine.Goals as goal

pub returns-in_default-named-clause-none : goal.returns-in_default-named-clause-none
returns-in_default-named-clause-none c = λ text h.
    let same = c.in-Some.ensures.found h.sealed.key text h.sealed.sealed in
    c.in_default-named.ensures.only h.node (subst (λ t. Names t h.node) same h.named)

pub returns-in-None-clause-none : goal.returns-in-None-clause-none
returns-in-None-clause-none c = λ text h.
    let same = c.in-Some.ensures.found h.sealed.key text h.sealed.sealed in
    let node = names_same c.in-Some.front.now h.node c.in-Some-named.node (subst (λ t. Names t h.node) same h.named) c.in-Some-named.ensures.found in
    (rw c.in-None.is at c.in_ok-text.ensures.only) text (subst (λ n. HasMac (key_in c.args.keys.now) n text c.args.line.now) node h.sealed)
