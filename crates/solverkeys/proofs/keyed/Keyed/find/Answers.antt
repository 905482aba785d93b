use Rattle.std.proofs.Common.{◌<◌, ◌∙◌, length, IfSome, IfNone, subst}
use Rattle.std.specs.HashMap.{get}
use Rattle.std.specs.List.{Contains}
use Rattle.solverkeys.specs.Keyed.{KeyedParts, key_eq, IsFirst}
use Rattle.solverkeys.proofs.KeyedLemmas.{find_first, find_within, find_none}
use Rattle.solverkeys.proofs.keyed.Keyed.find.Goals as goal

pub returns-clause-first : goal.returns-clause-first
returns-clause-first c =
    let k = c.self.inside in
    subst (λ (x : KeyedParts). IfSome c.copied.result (IsFirst x.keys c.args.key.now)) c.self.view_is
    (find_first k.keys.items (get key_eq k.firsts) c.self.invariant.1 c.args.key.now c.copied.result (c.copied.ensures ∙ c.get.ensures.value))

pub returns-clause-within : goal.returns-clause-within
returns-clause-within c =
    let k = c.self.inside in
    subst (λ (x : KeyedParts). IfSome c.copied.result (λ place. place < length x.graph.vertices)) c.self.view_is
    (find_within k.keys.items (get key_eq k.firsts) c.self.invariant.1 c.args.key.now k.graph c.self.invariant.0 c.copied.result (c.copied.ensures ∙ c.get.ensures.value))

pub returns-clause-none : goal.returns-clause-none
returns-clause-none c =
    let k = c.self.inside in
    subst (λ (x : KeyedParts). IfNone c.copied.result (Contains x.keys c.args.key.now → ⊥)) c.self.view_is
    (find_none k.keys.items (get key_eq k.firsts) c.self.invariant.1 c.args.key.now c.copied.result (c.copied.ensures ∙ c.get.ensures.value))
