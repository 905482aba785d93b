-- The order of folder names, and their equality.
use Rattle.std.proofs.Common.{◌≡◌, refl}
use Rattle.std.specs.Ordering.{is_eq, eq_by_cmp}
use Rattle.std.specs.Cmp.{IsTotalOrder}
use Rattle.names.specs.declared.folder.FolderName.{FolderName}
use Rattle.names.specs.contracts.folder.FolderNamePartialEq.TheImpl.{eq-value}
use Rattle.names.specs.contracts.folder.FolderNameOrd.TheImpl.{cmp-value}
use Rattle.names.specs.contracts.folder.FolderNameOrd.TheImpl.Laws as order_laws
use Rattle.names.specs.contracts.folder.FolderNameEq.TheImpl.Laws as equality_laws
use Rattle.names.specs.Folders.{folder_cmp, folder_eq}

pub folder_eq-is : (a b : FolderName) → eq-value.it a b ≡ folder_eq a b
folder_eq-is a b = refl

pub folder_cmp-is : (a b : FolderName) → cmp-value.it a b ≡ folder_cmp a b
folder_cmp-is a b = refl

-- two names are equal exactly where they tie
pub eq-by_cmp : (a b : FolderName) → folder_eq a b ≡ is_eq (folder_cmp a b)
eq-by_cmp a b = order_laws.matches_eq-law a b

-- the same for the functions
pub eq-is_by_cmp : folder_eq ≡ eq_by_cmp folder_cmp
eq-is_by_cmp = λ i a b. eq-by_cmp a b i

pub folder_total : IsTotalOrder folder_cmp
folder_total = order_laws.total-law

pub folder_eq-flip : (a b : FolderName) → folder_eq a b ≡ folder_eq b a
folder_eq-flip a b = equality_laws.laws-law.symm a b
