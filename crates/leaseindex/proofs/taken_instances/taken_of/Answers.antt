use Rattle.std.proofs.Common.{ℕ, Bool, ◌&&◌, ◌||◌, eqb, ◌∙◌, ap}
use Rattle.std.specs.List.{list_any}
use Rattle.std.proofs.Math.Bool.{or-false}
use Rattle.names.specs.Folders.{folder_eq}
use Rattle.protocol.specs.Names.{FolderName}
use Rattle.leaseindex.proofs.TakenLemmas.{leases_any}
use Rattle.leaseindex.proofs.taken_instances.taken_of.Goals as goal

pub returns : goal.returns
returns c f i from to =
    let test : FolderName × ℕ → Bool = λ e. folder_eq e.0 f && eqb e.1 i in
    c.add_all.ensures f i to
    ∙ ap (λ (b : Bool). list_any test c.in_ok-entries.entries.items || b) (c.reserve.ensures.same f i ∙ c.new-taken.ensures f i)
    ∙ or-false (list_any test c.in_ok-entries.entries.items)
    ∙ ap (list_any test) c.in_ok-entries.ensures
    ∙ leases_any c.args.leases.now f i from
