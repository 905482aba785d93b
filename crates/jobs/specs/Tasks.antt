-- The keys that a table of jobs hands out (this project's own).
use Rattle.std.specs.Prelude.{◌≡◌, List, [], ◌∷◌, ◌++◌}
use Rattle.names.specs.declared.digest.Digest.{Digest}
use Rattle.names.specs.declared.digest.Key.{Key}
use Rattle.vertices.specs.Loading.{GraphParts}
use Rattle.keytable.specs.declared.entry.Fault.{Fault}
use Rattle.keytable.specs.declared.entry.Progress.TheVariants.{Out, Done, Failed}
use Rattle.keytable.specs.Adding.{AreAdded}
use Rattle.jobs.specs.History.{History, Moves, TakesFirst}

-- calls that led from no keys to this history handed out these keys, in order
pub data HandsOut : List Key → History → Type 0 where
  opens : (tasks : List Key) (h : History) → tasks ≡ [] → h.keys ≡ [] → HandsOut tasks h
  submits : (tasks : List Key) (old new : History) (graph : GraphParts) (keys : List Key) → HandsOut tasks old → AreAdded graph keys old.keys new.keys → HandsOut tasks new
  takes : (before tasks : List Key) (old new : History) (key : Key) (inputs : List Digest) → HandsOut before old → TakesFirst old key inputs new → tasks ≡ before ++ key ∷ [] → HandsOut tasks new
  finishes : (tasks : List Key) (old new : History) (key : Key) (outputs : List Digest) → HandsOut tasks old → Moves old key Out (Done outputs) new → HandsOut tasks new
  fails : (tasks : List Key) (old new : History) (key : Key) (fault : Fault) → HandsOut tasks old → Moves old key Out (Failed fault) new → HandsOut tasks new
