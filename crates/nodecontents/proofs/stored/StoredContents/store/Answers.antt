use Rattle.std.proofs.Common.{◌≡◌, false, is_some, rules}
use Rattle.nodecontents.specs.Stored.{store_in}
use Rattle.nodecontents.proofs.MapLemmas.{stores, on_ok}
use Rattle.nodecontents.proofs.StoredLemmas.{stored_more}
use Rattle.nodecontents.proofs.stored.StoredContents.store.Goals as goal

pub returns-then-not-contains_key-clause-store : goal.returns-then-not-contains_key-clause-store
returns-then-not-contains_key-clause-store c =
    let absent : is_some (store_in c.args.self.now.by_digest c.digest-digest.result) ≡ false = search rules in
    stores c.args.self.now.by_digest c.insert.new.self c.digest-digest.result c.args.content c.digest-digest.ensures.value absent
    (on_ok c.insert.result (c.insert.ensures.succeeds c.requires) c.insert.ensures.updates).0

pub invariant_of-self : goal.invariant_of-self
invariant_of-self c =
    let absent : is_some (store_in c.args.self.now.by_digest c.digest-digest.result) ≡ false = search rules in
    record {
      stored = stored_more c.args.self.now.by_digest c.insert.new.self c.digest-digest.result c.args.content c.args.self.now.stored c.digest-digest.ensures.value absent
          (on_ok c.insert.result (c.insert.ensures.succeeds c.requires) c.insert.ensures.entries)
          (on_ok c.insert.result (c.insert.ensures.succeeds c.requires) c.insert.ensures.updates).0;
    }
