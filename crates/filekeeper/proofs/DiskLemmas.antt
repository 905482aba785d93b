-- What a crash leaves while calls are made.
use Rattle.std.proofs.Common.{◌≡◌, ℕ, Bool, true, false, List, [], ◌∷◌, ◌++◌, inl, inr, refl, sym, ap, ◌∙◌, subst, length, length-append, arith}
use Rattle.filekeeper.specs.Calls.{Called}
use Rattle.filekeeper.specs.Disks.{Files, MayLeave, IsAmid, IsTidied, Leaves}
use Rattle.filekeeper.specs.Disks.Leaves.{Begins, Goes_on}
use Rattle.filekeeper.specs.declared.device_call.DeviceCall.TheVariants.{SyncNames, Cut, SyncLog}

-- at the last moment too
pub at_last : (P : Files → Type 0) (first last : List Called) → Leaves P first last → (f : Files) → MayLeave last f → P f
at_last P first last (Begins here) f left = here f left
at_last P first last (Goes_on call earlier before here) f left = here f left

-- at each moment
pub at_moment : (P : Files → Type 0) (first moment last : List Called) → Leaves P first last → IsAmid first moment last → (f : Files) → MayLeave moment f → P f
at_moment P first moment last leaves amid = at leaves amid.before amid.since amid.moment_is amid.last_is
  where
    apart : (since before : List Called) (call : Called) → first ≡ (call ∷ since) ++ moment → moment ≡ before ++ first → ⊥
    apart since before call last_is moment_is =
        let l = ap length last_is ∙ length-append (call ∷ since) moment in
        let m = ap length moment_is ∙ length-append before first in
        omega (arith, l, m)

    at : {last : List Called} → Leaves P first last → (before since : List Called) → moment ≡ before ++ first → last ≡ since ++ moment → (f : Files) → MayLeave moment f → P f
    at (Begins here) before [] moment_is last_is f left = here f (subst (λ cs. MayLeave cs f) (sym last_is) left)
    at (Begins here) before (call ∷ since) moment_is last_is f left = absurd (apart since before call last_is moment_is)
    at (Goes_on call earlier more here) before [] moment_is last_is f left = here f (subst (λ cs. MayLeave cs f) (sym last_is) left)
    at (Goes_on call earlier more here) before (x ∷ since) moment_is last_is f left = at more before since moment_is (cc last_is) f left

-- one call more
pub goes_on : (P : Files → Type 0) (first last : List Called) (call : Called) (new : List Called) → new ≡ call ∷ last → Leaves P first last
    → ((f : Files) → MayLeave (call ∷ last) f → P f) → Leaves P first new
goes_on P first last call new is before here = subst (Leaves P first) (sym is) (Goes_on call last before here)

-- more calls, while which a crash leaves what is so too
pub and_then : (P Q : Files → Type 0) (first mid last : List Called) → Leaves P first mid → Leaves Q mid last → ((f : Files) → Q f → P f) → Leaves P first last
and_then P Q first mid last before (Begins here) so = before
and_then P Q first mid last before (Goes_on call earlier more here) so = Goes_on call earlier (and_then P Q first mid earlier before more so) (λ f left. so f (here f left))

-- and so it leaves what is so
pub so_leaves : (P Q : Files → Type 0) (first last : List Called) → Leaves Q first last → ((f : Files) → Q f → P f) → Leaves P first last
so_leaves P Q first last (Begins here) so = Begins (λ f left. so f (here f left))
so_leaves P Q first last (Goes_on call earlier more here) so = Goes_on call earlier (so_leaves P Q first earlier more so) (λ f left. so f (here f left))

-- a sync leaves nothing that might not be left before
pub names_left : (done : Bool) (earlier : List Called) (f : Files) → MayLeave ((SyncNames done, []) ∷ earlier) f → MayLeave earlier f
names_left true earlier f left = left.0
names_left false earlier f left = left

pub log_left : (done : Bool) (earlier : List Called) (f : Files) → MayLeave ((SyncLog done, []) ∷ earlier) f → MayLeave earlier f
log_left true earlier f left = left.0
log_left false earlier f left = left

-- ---- while the log is tidied

module _ (len : ℕ) (old : List Called) where
  abbrev P : Files → Type 0
  P = IsTidied len old

  pub names_synced : (done : Bool) (new : List Called) → new ≡ (SyncNames done, []) ∷ old → Leaves P old new
  names_synced done new is = goes_on P old old (SyncNames done, []) new is (Begins (λ f left. inl left)) (λ f left. inl (names_left done old f left))

  after_cut : (done : Bool) (f : Files) → MayLeave ((Cut len done, []) ∷ (SyncNames true, []) ∷ old) f → P f
  after_cut done f (inl left) = inl left.0
  after_cut done f (inr (d, left, is)) = inr (d, left.1.0, left.0, left.1.1, left.1.2, is)

  pub cut_made : (done : Bool) (mid new : List Called) → mid ≡ (SyncNames true, []) ∷ old → new ≡ (Cut len done, []) ∷ mid → Leaves P old new
  cut_made done mid new before is =
      goes_on P old ((SyncNames true, []) ∷ old) (Cut len done, []) new (subst (λ cs. new ≡ (Cut len done, []) ∷ cs) before is) (names_synced true ((SyncNames true, []) ∷ old) refl) (after_cut done)

  pub log_synced : (done : Bool) (mid cut new : List Called) → mid ≡ (SyncNames true, []) ∷ old → cut ≡ (Cut len true, []) ∷ mid → new ≡ (SyncLog done, []) ∷ cut → Leaves P old new
  log_synced done mid cut new before was is =
      let last : List Called = (Cut len true, []) ∷ (SyncNames true, []) ∷ old in
      let cut_is = subst (λ cs. cut ≡ (Cut len true, []) ∷ cs) before was in
      goes_on P old last (SyncLog done, []) new (subst (λ cs. new ≡ (SyncLog done, []) ∷ cs) cut_is is) (cut_made true ((SyncNames true, []) ∷ old) last refl refl) (λ f left. after_cut true f (log_left done last f left))
