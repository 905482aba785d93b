-- The kind of a lease says whether its wants have a SHARED folder and whether it is a tenure.
use Rattle.std.proofs.Common.{◌≡◌, Bool, true, false, refl, sym}
use Rattle.farm_base.specs.declared.lease.LeaseKind.TheVariants as kind
use Rattle.farm_base.specs.Kinds.{LeaseKind, is_tenure, has_shared, kind_of, IsKind}

pub kind_back : (k : LeaseKind) → kind_of (has_shared k) (is_tenure k) ≡ k
kind_back kind.Plain = refl
kind_back kind.Shared = refl
kind_back kind.Tenure = refl

pub is_kind : (k : LeaseKind) → IsKind (has_shared k) (is_tenure k)
is_kind kind.Plain e = e
is_kind kind.Shared e = refl
is_kind kind.Tenure e = refl

pub tenure_back : (shared tenure : Bool) → is_tenure (kind_of shared tenure) ≡ tenure
tenure_back true true = refl
tenure_back false true = refl
tenure_back true false = refl
tenure_back false false = refl

pub shared_back : (shared tenure : Bool) → IsKind shared tenure → has_shared (kind_of shared tenure) ≡ shared
shared_back true true is = refl
shared_back false true is = sym (is refl)
shared_back true false is = refl
shared_back false false is = refl
