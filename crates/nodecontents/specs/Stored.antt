-- What a node stores and knows, and what a process keeps of it.
use Rattle.std.specs.Prelude.{◌≡◌, ℕ, Bool, true, ◌&&◌, List, [], ◌∷◌, Option, None, Some, is_some, if◌then◌else◌, Contains}
use Rattle.std.specs.List.{list_all}
use Rattle.std.specs.Map.{lookup}
use Rattle.indexmap.specs.IndexMap.{IndexMap, get}
use Rattle.names.specs.Contents.{content_digest}
use Rattle.names.specs.Digests.{digest_eq}
use Rattle.farm_base.specs.Versions.{version_eq}
use Rattle.farm_base.specs.declared.message.Version.{Version}
use Rattle.protocol.specs.Names.{Slot, Digest, Life}
use Rattle.protocol.specs.Machine.{GrantedSlot, Confirmed}
use Rattle.protocol.specs.World.{Node, keep, learn, first_node}

-- the base of a granted slot
abbrev pub base_of : GrantedSlot → Version × Digest
base_of u = (record { slot = u.slot; number = u.base }, u.digest)

-- a version that a confirmation names
abbrev pub version_of : Confirmed → Version × Digest
version_of v = (record { slot = v.slot; number = v.number }, v.digest)

-- the contents of a map
abbrev pub store_in : {S : Type 0} → IndexMap Digest (List ℕ) S → Digest → Option (List ℕ)
store_in m d = get digest_eq m d

-- the digests of a map
abbrev pub known_in : {S : Type 0} → IndexMap Version Digest S → Slot → ℕ → Option Digest
known_in m s k = get version_eq m (record { slot = s; number = k })

-- the content is stored under its digest. A digest that is stored already keeps its content
abbrev pub store_one : List ℕ → (Digest → Option (List ℕ)) → Digest → Option (List ℕ)
store_one c store = if is_some (store (content_digest c)) then store else keep (content_digest c) c store

-- each content is stored
abbrev pub store_each : List (List ℕ) → (Digest → Option (List ℕ)) → Digest → Option (List ℕ)
store_each [] store = store
store_each (c ∷ cs) store = store_each cs (store_one c store)

-- the version becomes known
abbrev pub learn_one : Version × Digest → (Slot → ℕ → Option Digest) → Slot → ℕ → Option Digest
learn_one v known = learn v.0.slot v.0.number v.1 known

-- the versions become known
abbrev pub learn_all : List (Version × Digest) → (Slot → ℕ → Option Digest) → Slot → ℕ → Option Digest
learn_all [] known = known
learn_all (v ∷ vs) known = learn_all vs (learn_one v known)

-- the content stands under its digest
abbrev pub is_keyed : Digest × List ℕ → Bool
is_keyed e = digest_eq e.0 (content_digest e.1)

-- contents under their digests, the empty one among them
pub record AreStored (entries : List (Digest × List ℕ)) : Type 0 where
  pub keyed : list_all is_keyed entries ≡ true
  pub empty : lookup (digest_eq (content_digest [])) entries ≡ Some []

-- no version has two digests
abbrev pub HaveOneDigestEach : List (Version × Digest) → Type 0
HaveOneDigestEach versions = (v : Version) (d e : Digest) → Contains versions (v, d) → Contains versions (v, e) → d ≡ e

-- the digest is the known one, if one is known
abbrev pub agrees : Option Digest → Digest → Bool
agrees None d = true
agrees (Some e) d = digest_eq e d

-- each version has the digest by which it is known, or stands earlier
abbrev pub agree_on : List (Version × Digest) → (Slot → ℕ → Option Digest) → Bool
agree_on [] known = true
agree_on (v ∷ vs) known = agrees (known v.0.slot v.0.number) v.1 && agree_on vs (learn_one v known)

-- the node that kept exactly these contents and versions, in the last life that it had. The empty content is always
-- stored
abbrev pub kept_node : Life → List (List ℕ) → List (Version × Digest) → Node
kept_node last contents versions = record (first_node content_digest) {
  life = last;
  store = store_each contents (first_node content_digest).store;
  known = learn_all versions (first_node content_digest).known;
}
