use Rattle.std.proofs.Common.{◌≤◌, ℕ, List, [], ◌∷◌, length, take, true, false, refl, sym, ap, ◌∙◌, subst, arith, take_all}
use Rattle.std.specs.Result.{is_ok}
use Rattle.filekeeper.specs.Calls.{Called}
use Rattle.filekeeper.specs.Disks.{calls_of}
use Rattle.filekeeper.specs.Framing.{log_bytes}
use Rattle.filekeeper.specs.declared.device_call.DeviceCall.TheVariants.{SyncLog}
use Rattle.filekeeper.proofs.AddingLemmas.{Sees, sees_first, leaves_first, appended, head_appended, seen_before, head_failed, head_leaves, entry_failed, entry_leaves, entry_sees, longer_len, sync_sees, sync_leaves, sync_settles}
use Rattle.filekeeper.proofs.record_files.add.Goals as goal

pub loop-entry-init : goal.loop-entry-init
loop-entry-init g c = record {
  len = omega arith;
  sees = λ old settled. sees_first c.args.whole.now old c.args.entries.now (calls_of c.args.disk.now) settled;
  leaves = λ old settled. leaves_first c.args.whole.now old c.args.entries.now (calls_of c.args.disk.now) settled;
}

pub returns-in_default-clause-seen : goal.returns-in_default-clause-seen
returns-in_default-clause-seen g c = λ old settled.
    seen_before c.args.whole.now old c.args.entries.now c.loop-entry.entry-index c.entry-item.result c.loop-entry-test.true (sym c.entry-item.is) (calls_of c.loop-entry.disk) (c.loop-entry.invariant.sees old settled)

pub returns-in_err-append-clause-seen : goal.returns-in_err-append-clause-seen
returns-in_err-append-clause-seen g c = λ old settled.
    let whole = c.args.whole.now in
    let e = c.entry-item.result in
    let now = calls_of c.loop-entry.disk in
    let mid = calls_of c.append.new.self in
    let head = head_appended now mid (is_ok c.append.result) false c.head_of.result whole c.as_slice-in-loop-entry.result.now e c.append.ensures (ap is_ok c.in_err-append.was) c.head_of.ensures c.as_slice-in-loop-entry.ensures in
    head_failed whole old c.args.entries.now c.loop-entry.entry-index e c.loop-entry-test.true (sym c.entry-item.is) (calls_of c.args.disk.now) now mid (c.loop-entry.invariant.sees old settled) head

pub returns-in_err-append-clause-any_moment : goal.returns-in_err-append-clause-any_moment
returns-in_err-append-clause-any_moment g c = λ old settled.
    let whole = c.args.whole.now in
    let e = c.entry-item.result in
    let now = calls_of c.loop-entry.disk in
    let mid = calls_of c.append.new.self in
    let done = is_ok c.append.result in
    let head = head_appended now mid done done c.head_of.result whole c.as_slice-in-loop-entry.result.now e c.append.ensures refl c.head_of.ensures c.as_slice-in-loop-entry.ensures in
    let inv = c.loop-entry.invariant in
    head_leaves whole old c.args.entries.now c.loop-entry.entry-index e c.loop-entry-test.true (sym c.entry-item.is) (calls_of c.args.disk.now) now mid (inv.sees old settled) done head (inv.leaves old settled)

pub returns-in_err-append-2-clause-seen : goal.returns-in_err-append-2-clause-seen
returns-in_err-append-2-clause-seen g c = λ old settled.
    let whole = c.args.whole.now in
    let e = c.entry-item.result in
    let now = calls_of c.loop-entry.disk in
    let mid = calls_of c.append.new.self in
    let new = calls_of c.append-in-loop-entry.new.self in
    let head = head_appended now mid (is_ok c.append.result) true c.head_of.result whole c.as_slice-in-loop-entry.result.now e c.append.ensures (ap is_ok c.in_ok-append.was) c.head_of.ensures c.as_slice-in-loop-entry.ensures in
    let entry = appended mid new (is_ok c.append-in-loop-entry.result) false c.as_slice-in-loop-entry-2.result.now e c.append-in-loop-entry.ensures (ap is_ok c.in_err-append-2.was) c.as_slice-in-loop-entry-2.ensures in
    entry_failed whole old c.args.entries.now c.loop-entry.entry-index e c.loop-entry-test.true (sym c.entry-item.is) (calls_of c.args.disk.now) now mid (c.loop-entry.invariant.sees old settled) new head entry

pub returns-in_err-append-2-clause-any_moment : goal.returns-in_err-append-2-clause-any_moment
returns-in_err-append-2-clause-any_moment g c = λ old settled.
    let whole = c.args.whole.now in
    let e = c.entry-item.result in
    let now = calls_of c.loop-entry.disk in
    let mid = calls_of c.append.new.self in
    let new = calls_of c.append-in-loop-entry.new.self in
    let done = is_ok c.append-in-loop-entry.result in
    let head = head_appended now mid (is_ok c.append.result) true c.head_of.result whole c.as_slice-in-loop-entry.result.now e c.append.ensures (ap is_ok c.in_ok-append.was) c.head_of.ensures c.as_slice-in-loop-entry.ensures in
    let entry = appended mid new done done c.as_slice-in-loop-entry-2.result.now e c.append-in-loop-entry.ensures refl c.as_slice-in-loop-entry-2.ensures in
    let inv = c.loop-entry.invariant in
    entry_leaves whole old c.args.entries.now c.loop-entry.entry-index e c.loop-entry-test.true (sym c.entry-item.is) (calls_of c.args.disk.now) now mid (inv.sees old settled) new head done entry (inv.leaves old settled)

pub loop-entry-preserved : goal.loop-entry-preserved
loop-entry-preserved g c =
    let inv = c.loop-entry.invariant in
    let i = c.loop-entry.entry-index in
    let e = c.entry-item.result in
    let whole = c.args.whole.now in
    let entries = c.args.entries.now in
    let first = calls_of c.args.disk.now in
    let now = calls_of c.loop-entry.disk in
    let mid = calls_of c.append.new.self in
    let new = calls_of c.append-in-loop-entry.new.self in
    let here = sym c.entry-item.is in
    let inside = c.loop-entry-test.true in
    let head = head_appended now mid (is_ok c.append.result) true c.head_of.result whole c.as_slice-in-loop-entry.result.now e c.append.ensures (ap is_ok c.in_ok-append.was) c.head_of.ensures c.as_slice-in-loop-entry.ensures in
    let entry = appended mid new (is_ok c.append-in-loop-entry.result) true c.as_slice-in-loop-entry-2.result.now e c.append-in-loop-entry.ensures (ap is_ok c.in_ok-append-2.was) c.as_slice-in-loop-entry-2.ensures in
    record {
      len = longer_len whole [] entries i e inside here c.args.len c.loop-entry.len c.in-Some.longer c.as_slice.result.now inv.len (c.in-Some.ensures whole) c.as_slice.ensures;
      sees = λ old settled. entry_sees whole old entries i e inside here first now mid (inv.sees old settled) new head entry;
      leaves = λ old settled. entry_leaves whole old entries i e inside here first now mid (inv.sees old settled) new head true entry (inv.leaves old settled);
    }

-- behind the last entry all are there
all_seen : (whole : List ℕ) (old entries : List (List ℕ)) (i : ℕ) (now : List Called) → length entries ≤ i → Sees whole old entries now (log_bytes whole (take i entries)) → Sees whole old entries now (log_bytes whole entries)
all_seen whole old entries i now over sees = subst (λ es. Sees whole old entries now (log_bytes whole es)) (take_all i entries over) sees

pub returns-in_err-sync_log-clause-seen : goal.returns-in_err-sync_log-clause-seen
returns-in_err-sync_log-clause-seen g c = λ old settled.
    let whole = c.args.whole.now in
    let entries = c.args.entries.now in
    let now = calls_of c.loop-entry.disk in
    sync_sees whole old entries now (is_ok c.sync_log.result) (calls_of c.sync_log.new.self) c.sync_log.ensures (all_seen whole old entries c.loop-entry.entry-index now c.loop-entry-test.false (c.loop-entry.invariant.sees old settled))

pub returns-in_err-sync_log-clause-any_moment : goal.returns-in_err-sync_log-clause-any_moment
returns-in_err-sync_log-clause-any_moment g c = λ old settled.
    sync_leaves c.args.whole.now old c.args.entries.now (calls_of c.args.disk.now) (calls_of c.loop-entry.disk) (is_ok c.sync_log.result) (calls_of c.sync_log.new.self) c.sync_log.ensures (c.loop-entry.invariant.leaves old settled)

pub returns-clause-any_moment : goal.returns-clause-any_moment
returns-clause-any_moment g c = λ old settled.
    sync_leaves c.args.whole.now old c.args.entries.now (calls_of c.args.disk.now) (calls_of c.loop-entry.disk) (is_ok c.sync_log.result) (calls_of c.sync_log.new.self) c.sync_log.ensures (c.loop-entry.invariant.leaves old settled)

pub returns-clause-seen : goal.returns-clause-seen
returns-clause-seen g c = λ old settled.
    let whole = c.args.whole.now in
    let entries = c.args.entries.now in
    let now = calls_of c.loop-entry.disk in
    sync_sees whole old entries now (is_ok c.sync_log.result) (calls_of c.sync_log.new.self) c.sync_log.ensures (all_seen whole old entries c.loop-entry.entry-index now c.loop-entry-test.false (c.loop-entry.invariant.sees old settled))

pub returns-clause-settled : goal.returns-clause-settled
returns-clause-settled g c = λ old settled.
    let inv = c.loop-entry.invariant in
    let whole = c.args.whole.now in
    let entries = c.args.entries.now in
    let now = calls_of c.loop-entry.disk in
    sync_settles whole old entries (calls_of c.args.disk.now) now (calls_of c.sync_log.new.self) (c.sync_log.ensures ∙ ap (λ b. (SyncLog b, []) ∷ now) (ap is_ok c.in_ok-sync_log.was)) (inv.leaves old settled)
    (all_seen whole old entries c.loop-entry.entry-index now c.loop-entry-test.false (inv.sees old settled))
