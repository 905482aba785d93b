-- What a lease is given for (this project's own).
use Rattle.std.specs.Prelude.{◌≡◌, Bool, true, false}
pub use Rattle.farm_base.specs.declared.lease.LeaseKind.{LeaseKind}
use Rattle.farm_base.specs.declared.lease.LeaseKind.TheVariants as kind

abbrev pub is_tenure : LeaseKind → Bool
is_tenure kind.Plain = false
is_tenure kind.Shared = false
is_tenure kind.Tenure = true

-- its wants have a SHARED folder. A tenure's are that folder
abbrev pub has_shared : LeaseKind → Bool
has_shared kind.Plain = false
has_shared kind.Shared = true
has_shared kind.Tenure = true

-- by whether its wants have a SHARED folder and whether it is a tenure
abbrev pub kind_of : Bool → Bool → LeaseKind
kind_of shared true = kind.Tenure
kind_of true false = kind.Shared
kind_of false false = kind.Plain

-- a tenure's wants have a SHARED folder
abbrev pub IsKind : Bool → Bool → Type 0
IsKind shared tenure = tenure ≡ true → shared ≡ true
