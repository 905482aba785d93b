use Rattle.std.proofs.Common.{◌≡◌, ◌+◌, ◌≤◌, length, vec_len}
use Rattle.indexmap.specs.IndexMap.{spare}
use Rattle.nodecontents.specs.Stored.{agree_on, known_in, learn_all}
use Rattle.nodecontents.proofs.contents.learn_agreed.Given as goal

abbrev pub invariant-loop-version : goal.invariant-loop-version
invariant-loop-version l = record {
  agree : l.agree ≡ agree_on l.yielded (known_in l.initial.known);
  known : known_in l.known ≡ learn_all l.yielded (known_in l.initial.known);
  room : vec_len l.fn.versions ≤ spare l.known + length l.yielded;
}
