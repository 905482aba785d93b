use Rattle.std.proofs.Common.{◌≡◌, ◌⊎◌, [], inl, inr, length, refl, sym, ap, ◌∙◌}
use Rattle.filekeeper.specs.RecordFiles.{calls_in, lasting_in, gathered_in}
use Rattle.filekeeper.specs.Settled.{HoldsSome, WereRead}
use Rattle.filekeeper.specs.Disks.{Leaves}
use Rattle.saverecord.specs.Texts.{Texts}
use Rattle.filekeeper.proofs.KeptLemmas.{Kept, nothing_called, first_synced, reloaded, last_synced}
use Rattle.filekeeper.proofs.LoadLemmas.{grow, read_first, read_amid, on_ok}
use Rattle.filekeeper.proofs.record_files.RecordFiles.load.Goals as goal
use Rattle.filekeeper.proofs.record_files.RecordFiles.load.Goals.{then-self+in_ok-sync, else-self}

pub returns-clause-read : goal.returns-clause-read
returns-clause-read g c =
    let x = c.args.self.now in
    let again = c.reload.new.self in
    let last = c.sync-2.new.self in
    let read : WereRead (lasting_in x) (calls_in x) (calls_in again) = elim c.if-self.branch [
      | then-self+in_ok-sync w ↦ (
          read_amid (lasting_in x) (calls_in x) (calls_in w.sync.new.self) (calls_in again) (calls_in again)
          (grow (HoldsSome (lasting_in x) (gathered_in x)) (calls_in x) (calls_in w.sync.new.self) (w.sync.ensures.any_moment w.if-self.true))
          (read_first x.log w.sync.new.self.log x.lasting w.sync.new.self.lasting (calls_in w.sync.new.self) (calls_in again) w.sync.ensures.texts w.in_ok-sync.ensures.ok.0 (rw w.self-is at c.in_ok-reload.ensures.read))
          ([], refl)
          )
      | else-self w ↦ (rw w.self-is at c.in_ok-reload.ensures.read)
    ] in
    let after = grow (HoldsSome (lasting_in again) (gathered_in again)) (calls_in again) (calls_in last) (c.sync-2.ensures.any_moment c.in_ok-reload.ensures.ok) in
    on_ok c.sync-2.result _ (read_amid (lasting_in x) (calls_in x) (calls_in x) (calls_in again) (calls_in last) ([], refl) read after)

pub returns-in_err-sync-clause-any_moment : goal.returns-in_err-sync-clause-any_moment
returns-in_err-sync-clause-any_moment g c =
    let x = c.args.self.now in
    first_synced x.log x.lasting (calls_in x) (calls_in c.sync.new.self) (c.sync.ensures.any_moment c.if-self.true)

pub returns-in_err-reload-clause-any_moment : goal.returns-in_err-reload-clause-any_moment
returns-in_err-reload-clause-any_moment g c =
    let x = c.args.self.now in
    let first = calls_in x in
    let s = c.if-self.self in
    let before : Leaves (Kept x.log x.lasting first) first (calls_in s) × (s.log ≡ x.log) × ((s.lasting ≡ x.lasting) ⊎ (s.lasting ≡ length s.log.entries)) = elim c.if-self.branch [
      | then-self+in_ok-sync w ↦ rw w.self-is (first_synced x.log x.lasting first (calls_in w.sync.new.self) (w.sync.ensures.any_moment w.if-self.true), w.sync.ensures.texts, inr w.in_ok-sync.ensures.ok.0)
      | else-self w ↦ rw w.self-is (nothing_called x.log x.lasting first, refl, inl refl)
    ] in
    reloaded x.log x.lasting first (calls_in s) (calls_in c.reload.new.self) s.log s.lasting before.1 before.2 s.told s.standing c.reload.ensures.any_moment before.0

pub returns-clause-any_moment : goal.returns-clause-any_moment
returns-clause-any_moment g c =
    let x = c.args.self.now in
    let first = calls_in x in
    let s = c.if-self.self in
    let before : Leaves (Kept x.log x.lasting first) first (calls_in s) × (s.log ≡ x.log) × ((s.lasting ≡ x.lasting) ⊎ (s.lasting ≡ length s.log.entries)) = elim c.if-self.branch [
      | then-self+in_ok-sync w ↦ rw w.self-is (first_synced x.log x.lasting first (calls_in w.sync.new.self) (w.sync.ensures.any_moment w.if-self.true), w.sync.ensures.texts, inr w.in_ok-sync.ensures.ok.0)
      | else-self w ↦ rw w.self-is (nothing_called x.log x.lasting first, refl, inl refl)
    ] in
    let z = c.reload.new.self in
    let read = reloaded x.log x.lasting first (calls_in s) (calls_in z) s.log s.lasting before.1 before.2 s.told s.standing c.reload.ensures.any_moment before.0 in
    let counts : (z.lasting ≡ x.lasting) ⊎ (z.lasting ≡ length z.log.entries) = elim before.2 [
      | inl same ↦ inl (c.reload.ensures.texts.1 ∙ same)
      | inr all ↦ inr (c.reload.ensures.texts.1 ∙ all ∙ ap (λ (t : Texts). length t.entries) (sym c.reload.ensures.texts.0))
    ] in
    last_synced x.log x.lasting first (calls_in z) (calls_in c.sync-2.new.self) z.log z.lasting (c.reload.ensures.texts.0 ∙ before.1) counts (c.sync-2.ensures.any_moment c.in_ok-reload.ensures.ok) read
