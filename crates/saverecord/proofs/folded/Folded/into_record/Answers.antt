use Rattle.std.proofs.Common.{◌≡◌, true, List, ap, sym, subst, ◌∙◌}
use Rattle.std.specs.List.{list_all}
use Rattle.std.specs.List.Sorted.{IsStrictlyIncreasing, IsStrictlySortedBy}
use Rattle.std.specs.Prelude.{map}
use Rattle.names.specs.Slots.{slot_cmp}
use Rattle.names.specs.declared.number.NodeId.{NodeId}
use Rattle.holdings.specs.Lives.{AreLives}
use Rattle.holdings.specs.Leases.{among}
use Rattle.holdings.specs.Lives.{is_among, life_at}
use Rattle.protocol.specs.Ledger.{Ledger}
use Rattle.versions.specs.Lines.{line_at}
use Rattle.versions.specs.Ordered.{AreLines}
use Rattle.saverecord.specs.Ledgers.{ledger_of}
use Rattle.saverecord.specs.Logs.{fits, folded_ledger, IsReadable}
use Rattle.recordlists.specs.Relations.{no_two, clash}
use Rattle.saverecord.proofs.FoldLemmas.{made_kept}
use Rattle.saverecord.proofs.folded.Folded.into_record.Goals as goal

pub returns-clause-kept : goal.returns-clause-kept
returns-clause-kept c =
    let q : Ledger = folded_ledger c.args.self in
    let lives : c.new.result ≡ c.args.self.lives.seen = c.new.ensures ∙ c.into_vec.ensures.value in
    let nodes : c.new-2.result ≡ c.args.self.retired_nodes.retired = c.new-2.ensures ∙ c.into_vec-2.ensures.value in
    let leases : c.new-3.result ≡ c.args.self.leases.items = c.new-3.ensures in
    let retired : among c.new-4.result ≡ among c.args.self.retired.items = ap among c.new-4.ensures ∙ c.in_ok-rising.ensures.same in
    let lines : c.new-5.result ≡ c.args.self.lines = c.new-5.ensures ∙ c.into_vec-3.ensures.items in
    let same : ledger_of (record { last = c.args.self.last; old_home = c.args.self.old_home; lives = c.new.result; retired_nodes = c.new-2.result; leases = c.new-3.result; retired = c.new-4.result; lines = c.new-5.result }) ≡ q = (λ i.
    record q { live = leases i; retired = retired i; gone = is_among (nodes i); line = line_at (lines i); lives = life_at (lives i) }) in
    let all : list_all (fits q) q.live ≡ true = sym c.all_fit.ensures ∙ c.if-not-all_fit.false in
    let apart : no_two clash q.live ≡ true = ap (no_two clash) (sym c.as_slice.ensures.value) ∙ sym c.are_apart.ensures ∙ c.if-not-are_apart.false in
    made_kept _ (subst IsReadable (sym same) c.requires) (subst AreLives (sym lives) c.into_vec.ensures.sound) (subst (λ (ns : List NodeId). IsStrictlyIncreasing (map (λ n. n.0) ns)) (sym nodes) c.into_vec-2.ensures.rise)
    (subst (IsStrictlySortedBy slot_cmp) (sym c.new-4.ensures) c.in_ok-rising.ensures.rising) (subst AreLines (sym c.new-5.ensures) c.into_vec-3.ensures.sound)
    (subst (λ (x : Ledger). list_all (fits x) x.live ≡ true) (sym same) all) (subst (λ (x : Ledger). no_two clash x.live ≡ true) (sym same) apart)
