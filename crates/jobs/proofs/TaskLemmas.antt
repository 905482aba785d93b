-- How many keys were handed out.
use Rattle.std.proofs.Common.{◌≡◌, ℕ, ◌+◌, ◌≤◌, List, Bool, true, false, cond, length, set, get_or, Some, slice_get, ap, sym, ◌∙◌, arith}
use Rattle.std.specs.List.{sum_by}
use Rattle.std.proofs.lemmas.List.{length_push}
use Rattle.std.proofs.lemmas.List.Sums.{count_by-le-length, sum_by-append, sum_by-set}
use Rattle.std.proofs.lemmas.Option.{slice_get_within, get_or_from_slice_get}
use Rattle.names.specs.declared.digest.Key.{Key}
use Rattle.keytable.specs.declared.entry.Entry.{Entry}
use Rattle.keytable.specs.declared.entry.Progress.{Progress}
use Rattle.keytable.specs.declared.entry.Progress.TheVariants.{Waiting, Out, Done, Failed}
use Rattle.jobs.specs.History.{History}
use Rattle.jobs.specs.Tasks.{HandsOut, opens, submits, takes, finishes, fails}

abbrev is_handed : Progress → Bool
is_handed Waiting = false
is_handed Out = true
is_handed (Done outputs) = true
is_handed (Failed fault) = true

-- how many of these keys were handed out
abbrev handed : List Entry → ℕ
handed keys = sum_by (λ e. cond (is_handed e.progress) 1 0) keys

-- a key moves from one progress to another
moved : (keys : List Entry) (n : ℕ) (e : Entry) (from to : Progress) → slice_get keys n ≡ Some e → e.progress ≡ from
    → handed (set keys n (record e { progress = to })) + cond (is_handed from) 1 0 ≡ handed keys + cond (is_handed to) 1 0
moved keys n e from to at is =
    let f : Entry → ℕ = λ x. cond (is_handed x.progress) 1 0 in
    let was : f (get_or keys n e) ≡ cond (is_handed from) 1 0 = ap f (get_or_from_slice_get keys n e e at) ∙ ap (λ p. cond (is_handed p) 1 0) is in
    ap (λ k. handed (set keys n (record e { progress = to })) + k) (sym was) ∙ sum_by-set f keys n (record e { progress = to }) e (slice_get_within keys n e at)

-- at least as many keys were handed out as there are tasks
tasks_handed : (tasks : List Key) (h : History) → HandsOut tasks h → length tasks ≤ handed h.keys
tasks_handed tasks h (opens _ _ none empty) = (let z : length tasks ≡ 0 = ap length none in omega (arith, z))
tasks_handed tasks h (submits _ old _ graph keys before adds) =
    let more : handed h.keys ≡ handed old.keys + handed adds.added = ap handed adds.new_is ∙ sum_by-append (λ e. cond (is_handed e.progress) 1 0) old.keys adds.added in
    let less = tasks_handed tasks old before in
    omega (arith, more, less)
tasks_handed tasks h (takes before _ old _ key inputs steps first is) =
    let m = moved old.keys first.number first.entry Waiting Out first.first.at first.first.ready.waiting in
    let keys : handed h.keys ≡ handed (set old.keys first.number (record first.entry { progress = Out })) = ap (λ (x : History). handed x.keys) first.new_is in
    let one : length tasks ≡ length before + 1 = ap length is ∙ length_push before key in
    let less = tasks_handed before old steps in
    omega (arith, m, keys, one, less)
tasks_handed tasks h (finishes _ old _ key outputs before moves) =
    let m = moved old.keys moves.number moves.entry Out (Done outputs) moves.at moves.was in
    let keys : handed h.keys ≡ handed (set old.keys moves.number (record moves.entry { progress = Done outputs })) = ap (λ (x : History). handed x.keys) moves.new_is in
    let less = tasks_handed tasks old before in
    omega (arith, m, keys, less)
tasks_handed tasks h (fails _ old _ key fault before moves) =
    let m = moved old.keys moves.number moves.entry Out (Failed fault) moves.at moves.was in
    let keys : handed h.keys ≡ handed (set old.keys moves.number (record moves.entry { progress = Failed fault })) = ap (λ (x : History). handed x.keys) moves.new_is in
    let less = tasks_handed tasks old before in
    omega (arith, m, keys, less)

pub a_task_a_key : (tasks : List Key) (h : History) → HandsOut tasks h → length tasks ≤ length h.keys
a_task_a_key tasks h steps =
    let less = tasks_handed tasks h steps in
    let all = count_by-le-length (λ (e : Entry). is_handed e.progress) h.keys in
    omega (arith, less, all)
