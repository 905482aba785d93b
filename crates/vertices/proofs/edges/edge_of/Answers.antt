use Rattle.std.proofs.Common.{◌≡◌, inl, inr, refl, sym, ◌∙◌, subst, Option, None}
use Rattle.std.specs.Option.{IfSome}
use Rattle.std.specs.List.{Contains}
use Rattle.names.specs.declared.digest.Digest.{Digest}
use Rattle.names.specs.Digests.{IsDigest, digest_text}
use Rattle.names.proofs.NameLaws.{digest_text-injective}
use Rattle.ordering.specs.Firsts.{number_in}
use Rattle.vertices.proofs.edges.edge_of.Goals as goal

pub returns-in_default-number-clause-check : goal.returns-in_default-number-clause-check
returns-in_default-number-clause-check c = λ input digests vertices names n.
    let digest = c.in-Some.digest in
    let found : IsDigest digest × (input.digest ≡ digest_text digest)
    = subst (λ (d : Option Digest). IfSome d (λ digest. IsDigest digest × (input.digest ≡ digest_text digest))) c.in-Some.is names.spelled in
    let none : number_in c.args.table.now digest ≡ None = sym c.number.ensures ∙ c.in_default-number.is in
    inr (
      (digest, found.0, found.1),
      inl (
        λ named.
            let same : named.0 ≡ digest = digest_text-injective named.0 digest (n.are_digests named.0 named.1) found.0 (sym named.2 ∙ found.1) in
            n.missing digest none (subst (Contains digests) same named.1),
        refl,
      ),
    )
