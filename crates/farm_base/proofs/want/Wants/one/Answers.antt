use Rattle.std.proofs.Common.{◌≡◌, ◌∷◌, [], ◌++◌, ap, ◌∙◌, subst, sym}
use Rattle.farm_base.specs.Wanted.{IsWants}
use Rattle.farm_base.specs.declared.want.Want.{Want}
use Rattle.farm_base.proofs.WantLemmas.{one_is_wants}
use Rattle.farm_base.proofs.want.Wants.one.Goals as goal

pub invariant_of-result : goal.invariant_of-result
invariant_of-result c =
    let want : Want = record { folder = c.args.folder; writable = c.args.writable } in
    let one : c.push.new.self.items ≡ want ∷ [] = c.in_ok-push.ensures.items ∙ ap (λ ws. ws ++ want ∷ []) c.in_ok-wants.ensures.items in
    subst IsWants (sym (c.new.ensures ∙ one)) (one_is_wants want)
