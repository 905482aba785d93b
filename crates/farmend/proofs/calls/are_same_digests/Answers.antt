use Rattle.std.proofs.Common.{◌≡◌, true, subst}
use Rattle.std.proofs.lemmas.Slice.Eq.{slice_eq-Decides}
use Rattle.names.specs.Digests.{digest_eq}
use Rattle.farmend.proofs.calls.are_same_digests.Goals as goal

pub returns : goal.returns
returns c =
    let law = c.equal_digests_are_one.ensures in
    λ same. (slice_eq-Decides (λ a b. (law.one a b, λ e. subst (λ x. digest_eq a x ≡ true) e (law.itself a))) c.args.one.now c.args.other.now c.eq.result c.eq.ensures).0 same
