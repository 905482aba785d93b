use Rattle.std.proofs.Common.{◌≡◌, List, [], drop, filter, get_or, length, ap, sym, ◌∙◌, subst, arith}
use Rattle.std.specs.Prelude.{Bool}
use Rattle.protocol.specs.Names.{FolderName, Slot}
use Rattle.protocol.specs.Machine.{Parked}
use Rattle.protocol.specs.Ledger.{Ledger}
use Rattle.leases.specs.Leases.{Table}
use Rattle.protocol.specs.Lists.{In}
use Rattle.drafts.specs.Idle.{is_open, AreIdle}
use Rattle.parked.specs.Over.{still_at}
use Rattle.parked.specs.Queue.{asks_of}
use Rattle.drafts.specs.Shown.{work}
use Rattle.parked.specs.Noted.{WantsNoneOf, WantsNone}
use Rattle.drafts.proofs.IdleWords.{are-idle-open, unwanted-waits}
use Rattle.parked.proofs.OverWords.{still-has}
use Rattle.parked.proofs.WaitingWords.{still-none}
use Rattle.drafts.proofs.draft.Draft.first_due.Goals as goal

pub returns-clause-forward : goal.returns-clause-forward
returns-clause-forward c = c.first_over.ensures.forward c.args.place c.next.ensures.forward c.requires.over

pub returns-clause-idle : goal.returns-clause-idle
returns-clause-idle c =
    let left : List Parked = still_at c.args.place c.args.over.now (drop c.args.place (asks_of c.args.self.now.base.now.parked)) in
    let q : Ledger = (work c.args.self.now).ledger in
    let open_now : c.keep_open.new.slots.items ≡ filter (is_open q.live) c.args.freed.now.items =
    c.keep_open.ensures ∙ ap (λ (t : Table). filter (is_open t.live) c.args.freed.now.items) c.table.ensures in
    subst (λ (xs : List (Slot × Bool)). AreIdle xs q left) (sym open_now) (are-idle-open c.args.freed.now.items q left c.requires.idle)

pub returns-clause-passed : goal.returns-clause-passed
returns-clause-passed c k d low high =
    let asks : List Parked = asks_of c.args.self.now.base.now.parked in
    let q : Ledger = (work c.args.self.now).ledger in
    let p : Parked = get_or asks k d in
    let before = c.first_over.ensures.before in
    let behind = c.next.ensures.inside in
    let is_one : In p asks = subst (In p) (still-none 0 asks) (still-has asks [] 0 (length asks) k d (omega arith) (omega arith) (omega arith) tt) in
    unwanted-waits c.keep_open.new.slots.items c.args.spent.now.folders.items q p
    (returns-clause-idle c p (still-has asks c.args.over.now c.args.place c.first_over.result k d low high (omega arith) c.first_over.ensures.first))
    (c.requires.noted p is_one)
    (subst (λ (xs : List (Slot × Bool)). WantsNone xs p) c.as_slice.ensures.value (c.next.ensures.slots k d low (omega arith)))
    (subst (λ (fs : List FolderName). WantsNoneOf fs p) c.as_slice-2.ensures (c.next.ensures.folders k d low (omega arith)))
