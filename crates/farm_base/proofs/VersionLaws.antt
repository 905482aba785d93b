-- The program's `==` of versions: equal ones are the same.
use Rattle.std.proofs.Common.{◌≡◌, true, eqb, eq-eqb, refl}
use Rattle.std.proofs.lemmas.Bool.{and_parts, eqb-true}
use Rattle.farm_base.specs.declared.message.Version.{Version}
use Rattle.farm_base.specs.contracts.message.VersionPartialEq.TheImpl as version_eq_impl
use Rattle.names.specs.Slots.{slot_eq}
use Rattle.farm_base.specs.Versions.{version_eq}
use Rattle.names.proofs.CompareLaws.{slot_exact, slot_eq-itself}

-- the derived equality is that of the definition
pub version_eq-is : (a b : Version) → version_eq_impl.eq-value.it a b ≡ version_eq a b
version_eq-is a b = refl

-- equal versions are the same
pub version_exact : (a b : Version) → version_eq a b ≡ true → a ≡ b
version_exact a b h =
    let parts = and_parts (slot_eq a.slot b.slot) (eqb a.number b.number) h in
    let slot = slot_exact a.slot b.slot parts.0 in
    let number = eqb-true a.number b.number parts.1 in
    λ j. record { slot = slot j; number = number j }

-- a version is equal to itself
pub version_eq-itself : (a : Version) → version_eq a a ≡ true
version_eq-itself a = rw (slot_eq-itself a.slot, eq-eqb a.number a.number refl) refl
