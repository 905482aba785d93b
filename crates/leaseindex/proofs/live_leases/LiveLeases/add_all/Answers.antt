use Rattle.std.proofs.Common.{◌≡◌, ◌++◌, ◌&&◌, ◌||◌, ℕ, List, eqb, ap, subst, sym, ◌∙◌}
use Rattle.std.specs.List.{list_any}
use Rattle.std.specs.Map.{update_all}
use Rattle.names.specs.Folders.{folder_eq}
use Rattle.farm_base.specs.declared.lease.Lease.{Lease}
use Rattle.protocol.specs.Names.{FolderName}
use Rattle.leaseindex.specs.Counts.{AreCounted}
use Rattle.leaseindex.specs.Instances.{is_taken, AreTaken}
use Rattle.leaseindex.specs.Index.{ticket_at, AreIndexed, index_entries}
use Rattle.holdings.specs.Leases.{AreLeases}
use Rattle.leaseindex.specs.Live.{Live}
use Rattle.leaseindex.proofs.IndexLemmas.{indexed-all}
use Rattle.leaseindex.proofs.TakenLemmas.{taken-append}
use Rattle.leaseindex.proofs.live_leases.LiveLeases.add_all.Goals as goal

pub invariant_of-self : goal.invariant_of-self
invariant_of-self c =
    let live : List Lease = c.self.inside.leases.items in
    let more : List Lease = c.args.leases.items in
    let items : c.append.new.self.items ≡ live ++ more = rw c.unwrap.ensures at c.append.ensures.items in
    let sound : AreLeases (live ++ more) = subst (λ gs. AreLeases (gs ++ more)) (sym (ap (λ (l : Live). l.leases) c.self.view_is)) c.requires.sound in
    let index : ticket_at c.put_all.new.index ≡ update_all folder_eq (ticket_at c.self.inside.by_folder) (index_entries more) =
    c.put_all.ensures ∙ ap (update_all folder_eq (ticket_at c.self.inside.by_folder)) c.requires.tickets in
    record {
      sound = subst AreLeases (sym items) sound;
      indexed = subst (AreIndexed (ticket_at c.put_all.new.index)) (sym items)
          (subst (λ at. AreIndexed at (live ++ more)) (sym index) (indexed-all more live (ticket_at c.self.inside.by_folder) sound.apart c.self.invariant.indexed));
      taken_is = subst (AreTaken (is_taken c.add_all-2.new.self)) (sym items)
          (taken-append (is_taken c.self.inside.taken) (is_taken c.add_all-2.new.self) live more c.self.invariant.taken_is
          (λ f i to. c.add_all-2.ensures f i to ∙ ap (λ (es : List (FolderName × ℕ)). list_any (λ (e : FolderName × ℕ). folder_eq e.0 f && eqb e.1 i) es || is_taken c.self.inside.taken f i) c.requires.instances));
      counted = subst (AreCounted c.add_all.new.self) (sym items) (subst (λ (gs : List Lease). AreCounted c.add_all.new.self (live ++ gs)) c.as_slice.ensures.value (c.add_all.ensures live c.self.invariant.counted));
    }
