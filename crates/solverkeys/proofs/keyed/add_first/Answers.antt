use Rattle.std.proofs.Common.{ℕ, [], Option, get_or, is_some, ap}
use Rattle.std.specs.HashMap.{get}
use Rattle.std.proofs.lemmas.Option.{slice_get-get_or}
use Rattle.names.specs.declared.digest.Key.{Key}
use Rattle.ordering.proofs.TableLemmas.{not_some}
use Rattle.solverkeys.specs.Keyed.{key_eq}
use Rattle.solverkeys.proofs.KeyedLemmas.{firsts_known, firsts_new}
use Rattle.solverkeys.proofs.keyed.add_first.Goals as goal

pub returns-in_ok-insert : goal.returns-in_ok-insert
returns-in_ok-insert c =
    let keys = c.args.keys.now in
    let none : Key = record { 0 = record { 0 = [] } } in
    let key = get_or keys c.args.place none in
    let first = get key_eq c.args.firsts.now in
    firsts_new keys c.args.place key (slice_get-get_or keys c.args.place none c.requires.within) first c.requires.firsts (get key_eq c.insert.new.self)
    (not_some (first key) c.contains_key.result c.contains_key.ensures c.if-not-contains_key.true) c.in_ok-insert.ensures.updates.0

pub returns-else-not-contains_key : goal.returns-else-not-contains_key
returns-else-not-contains_key c =
    let keys = c.args.keys.now in
    let none : Key = record { 0 = record { 0 = [] } } in
    let key = get_or keys c.args.place none in
    let first = get key_eq c.args.firsts.now in
    firsts_known keys c.args.place key (slice_get-get_or keys c.args.place none c.requires.within) first c.requires.firsts
    (λ empty. let known = ap (λ (o : Option ℕ). is_some o) empty in let told = c.if-not-contains_key.ensures in absurd (cc (known, told)))
