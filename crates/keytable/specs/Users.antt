-- Who takes the outputs of a key (this project's own).
use Rattle.std.specs.Prelude.{◌≡◌, ◌<◌, ◌≤◌, ℕ, List, Option, Some, None, length, slice_get, slice_index_or}
use Rattle.std.specs.List.{Contains}
use Rattle.names.specs.declared.digest.Key.{Key}
use Rattle.keytable.specs.declared.entry.Entry.{Entry}
use Rattle.keytable.specs.declared.users.Link.{Link}
use Rattle.keytable.specs.declared.users.Users.{Users}
use Rattle.keytable.specs.Failing.{IsSubmitted}

-- each input's key was submitted
abbrev pub IsClosed : List Entry → Type 0
IsClosed keys = (number : ℕ) (entry : Entry) (input : Key × ℕ) → slice_get keys number ≡ Some entry → Contains entry.inputs input → (other : Entry) × IsSubmitted keys input.0 other

-- the key of the one number has an input on that of the other
pub record IsUser (keys : List Entry) (user source : ℕ) : Type 0 where
  pub entry : Entry
  pub at : slice_get keys user ≡ Some entry
  pub of : Entry
  pub of_at : slice_get keys source ≡ Some of
  pub input : Key × ℕ
  pub has : Contains entry.inputs input
  pub named : of.key ≡ input.0

-- the link is an input of its user
pub record IsInput (keys : List Entry) (link : Link) : Type 0 where
  pub user : IsUser keys link.user link.source
  pub index : user.input.1 ≡ link.index

module _ (links : List Link) (source : ℕ) where
  -- the link at this place has this source
  pub record IsFrom (place : ℕ) : Type 0 where
    pub link : Link
    pub at : slice_get links place ≡ Some link
    pub named : link.source ≡ source

  -- the place of the last link below a bound that has this source, if there is one
  pub data IsLast (bound : ℕ) (last : Option ℕ) : Type 0 where
    no_link : last ≡ None → ((place : ℕ) → place < bound → IsFrom place → ⊥) → IsLast bound last
    a_link : (place : ℕ) → last ≡ Some place → place < bound → IsFrom place → ((other : ℕ) → other < bound → IsFrom other → other ≤ place) → IsLast bound last

-- the list of each key: its last link, and before each link the last one with the same source
pub record AreLinked (u : Users) : Type 0 where
  pub within : length u.befores.items ≤ length u.links.items
  pub sources : (place : ℕ) (link : Link) → place < length u.befores.items → slice_get u.links.items place ≡ Some link → link.source < length u.lasts.items
  pub befores : (place : ℕ) (link : Link) → place < length u.befores.items → slice_get u.links.items place ≡ Some link → IsLast u.links.items link.source place (slice_index_or u.befores.items place None)
  pub lasts : (source : ℕ) → source < length u.lasts.items → IsLast u.links.items source (length u.befores.items) (slice_index_or u.lasts.items source None)

module _ (keys : List Entry) (links : List Link) where
  -- each link is an input of its user
  abbrev pub AreInputs : Type 0
  AreInputs = (place : ℕ) (link : Link) → slice_get links place ≡ Some link → IsInput keys link

  -- each input of the key of this number that is one of the keys has a link
  abbrev pub IsNoted : ℕ → Type 0
  IsNoted number = (entry : Entry) (input : Key × ℕ) → slice_get keys number ≡ Some entry → Contains entry.inputs input
      → (source : ℕ) (other : Entry) → slice_get keys source ≡ Some other → other.key ≡ input.0 → Contains links (record { source = source; index = input.1; user = number })

-- the lists hold exactly the inputs
pub record AreUsers (keys : List Entry) (u : Users) : Type 0 where
  pub linked : AreLinked u
  pub all : length u.befores.items ≡ length u.links.items
  pub inputs : AreInputs keys u.links.items
  pub noted : (number : ℕ) → number < length u.lasts.items → IsNoted keys u.links.items number

pub record IsSameUsers (old new : Users) : Type 0 where
  pub links : new.links.items ≡ old.links.items
  pub befores : new.befores.items ≡ old.befores.items
  pub lasts : new.lasts.items ≡ old.lasts.items
