-- While the first cause is looked for (this project's own).
use Rattle.std.specs.Prelude.{◌≡◌, ◌<◌, ℕ, Bool, true, false, [], List, Some, length, slice_get}
use Rattle.ordering.specs.Flags.{flag_at}
use Rattle.keytable.specs.declared.entry.Entry.{Entry}
use Rattle.keytable.specs.declared.users.Link.{Link}
use Rattle.keytable.specs.Causes.{FailsItself}
use Rattle.keytable.specs.Spreading.{AreSpread}

-- of the keys below a count each that fails itself is flagged, and so is what depends on a flagged one, but the wanted key isn't
pub record IsLooking (keys : List Entry) (links : List Link) (wanted count : ℕ) (flags : List Bool) : Type 0 where
  pub size : length flags ≡ length keys
  pub closed : AreSpread links flags []
  pub covered : (number : ℕ) (entry : Entry) → number < count → slice_get keys number ≡ Some entry → FailsItself keys entry → flag_at flags number ≡ true
  pub missed : flag_at flags wanted ≡ false
