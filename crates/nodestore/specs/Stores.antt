-- What lasts of a node's process (this project's own).
use Rattle.std.specs.Prelude.{◌≡◌, ◌≢◌, ◌<◌, ◌≤◌, ℕ, length, Bool, true, List, [], ◌∷◌, ◌++◌, Option, Some}
use Rattle.names.specs.Contents.{content_digest}
use Rattle.std.specs.List.{All, Contains, list_any}
use Rattle.names.specs.Digests.{digest_eq}
use Rattle.protocol.specs.Names.{Digest, Life}
use Rattle.nodestore.specs.declared.file_store.Found.{Found}
use Rattle.nodestore.specs.declared.store.TheConstants.{CONTENT_LIMIT}

-- whether the process after this one finds the content of a digest
abbrev pub Kept : Type 0 → Type 0
Kept S = S → Digest → Bool

-- what was kept still is, but for a content that was forgotten
abbrev pub StayKept : {S : Type 0} → Kept S → Option Digest → S → S → Type 0
StayKept kept gone old new = (d : Digest) → gone ≢ Some d → kept old d ≡ true → kept new d ≡ true

-- of a store, that the file of this path had these bytes when it was read or written
abbrev pub HadBytes : Type 0 → Type 1
HadBytes S = S → List ℕ → List ℕ → Type 0

-- the file had this content, which isn't longer than a content may be
abbrev pub HasContent : (List ℕ → List ℕ → Type 0) → List ℕ → List ℕ → Type 0
HasContent Had path content = Had path content × (length content ≤ CONTENT_LIMIT)

-- the file had more bytes
abbrev pub IsTooLarge : (List ℕ → List ℕ → Type 0) → List ℕ → Type 0
IsTooLarge Had path = (bytes : List ℕ) × Had path bytes × (CONTENT_LIMIT < length bytes)

-- of these digests the contents that are stored are kept
abbrev pub AllKept : {S : Type 0} → Kept S → (Digest → Option (List ℕ)) → List Digest → S → Type 0
AllKept kept store ds s = (d : Digest) (c : List ℕ) → Contains ds d → store d ≡ Some c → kept s d ≡ true

-- ---- a store in files

-- what it knows to be kept: these contents, and this life
pub record Filed : Type 0 where
  pub digests : List Digest
  pub last : Life

abbrev pub has_digest : Filed → Digest → Bool
has_digest filed d = list_any (λ e. digest_eq e d) filed.digests

-- the content of this digest is kept too
abbrev pub with_digest : Digest → Filed → Filed
with_digest d filed = record filed { digests = filed.digests ++ d ∷ [] }

-- this is the last life
abbrev pub with_life : Life → Filed → Filed
with_life life filed = record filed { last = life }

-- nothing is promised of the agent's files
abbrev pub any_bytes : HadBytes Filed
any_bytes filed path bytes = Unit {0}

-- each content that was found is kept
abbrev pub HasFound : Filed → Found → Type 0
HasFound filed found = All (λ (content : List ℕ). has_digest filed (content_digest content) ≡ true) found.contents.items
