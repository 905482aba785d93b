use Rattle.std.proofs.Common.{◌≡◌, ◌∷◌, [], ap, subst}
use Rattle.std.specs.Result.{is_ok}
use Rattle.filekeeper.specs.Disks.{calls_of}
use Rattle.filekeeper.specs.declared.device_call.DeviceCall.TheVariants.{SyncNames, Cut}
use Rattle.filekeeper.proofs.DiskLemmas.{names_synced, cut_made, log_synced}
use Rattle.filekeeper.proofs.disk.Disk.tidy.Goals as goal

pub returns-in_err-sync_names-clause-any_moment : goal.returns-in_err-sync_names-clause-any_moment
returns-in_err-sync_names-clause-any_moment g c = names_synced c.args.len (calls_of c.args.self.now) (is_ok c.sync_names.result) (calls_of c.sync_names.new.self) c.sync_names.ensures

pub returns-in_err-cut-clause-any_moment : goal.returns-in_err-cut-clause-any_moment
returns-in_err-cut-clause-any_moment g c =
    let named = subst (λ b. calls_of c.sync_names.new.self ≡ (SyncNames b, []) ∷ calls_of c.args.self.now) (ap is_ok c.in_ok-sync_names.was) c.sync_names.ensures in
    cut_made c.args.len (calls_of c.args.self.now) (is_ok c.cut.result) (calls_of c.sync_names.new.self) (calls_of c.cut.new.self) named c.cut.ensures

pub returns-clause-any_moment : goal.returns-clause-any_moment
returns-clause-any_moment g c =
    let named = subst (λ b. calls_of c.sync_names.new.self ≡ (SyncNames b, []) ∷ calls_of c.args.self.now) (ap is_ok c.in_ok-sync_names.was) c.sync_names.ensures in
    let cut = subst (λ b. calls_of c.cut.new.self ≡ (Cut c.args.len b, []) ∷ calls_of c.sync_names.new.self) (ap is_ok c.in_ok-cut.was) c.cut.ensures in
    log_synced c.args.len (calls_of c.args.self.now) (is_ok c.sync_log.result) (calls_of c.sync_names.new.self) (calls_of c.cut.new.self) (calls_of c.sync_log.new.self) named cut c.sync_log.ensures
