-- What a crash leaves while gathered entries are written, and where that fails.
use Rattle.std.proofs.Common.{◌≡◌, ℕ, ◌+◌, List, ◌++◌, length, take, drop, All, inl, inr, refl, sym, ap, ◌∙◌, append-nil, length-append, take-append-drop}
use Rattle.std.proofs.lemmas.Grind.{flat_map-append}
use Rattle.std.proofs.lemmas.List.{take_at}
use Rattle.filekeeper.specs.Calls.{Called}
use Rattle.filekeeper.specs.Disks.{Files, IsTidied, Leaves}
use Rattle.filekeeper.specs.Framing.{framed, log_bytes, IsTold}
use Rattle.filekeeper.specs.Settled.{HoldsSome, IsAddedTo, IsSettled}
use Rattle.saverecord.specs.Texts.{Texts}
use Rattle.filekeeper.proofs.AddingLemmas.{leaves_first}
use Rattle.filekeeper.proofs.CrashLemmas.{holds_some}
use Rattle.filekeeper.proofs.DiskLemmas.{at_last, and_then, so_leaves}

-- the bytes of the first entries, and of the others
pub log_split : (whole : List ℕ) (n : ℕ) (entries : List (List ℕ)) → length (log_bytes whole (take n entries)) + length (log_bytes whole (drop n entries)) ≡ length (log_bytes whole entries)
log_split whole n entries =
    sym (length-append (log_bytes whole (take n entries)) (log_bytes whole (drop n entries)))
    ∙ ap length (sym (flat_map-append (framed whole) (take n entries) (drop n entries)) ∙ ap (log_bytes whole) (take-append-drop n entries))

module _ (old : Texts) (more : List (List ℕ)) (told : All IsTold old.entries) (too : All IsTold more) where
  pub some_left : (first last : List Called) → Leaves (IsAddedTo old more) first last → Leaves (HoldsSome old more) first last
  some_left first last leaves = so_leaves (HoldsSome old more) (IsAddedTo old more) first last leaves (λ f added. holds_some old more f told too added)

  pub nothing_written : (first : List Called) → IsSettled first old → Leaves (HoldsSome old more) first first
  nothing_written first settled = some_left first first (leaves_first old.whole old.entries more first settled)

  -- the log is cut behind the old entries
  pub cut_back_added : (len : ℕ) (first mid last : List Called) → len ≡ length (log_bytes old.whole old.entries) → Leaves (IsAddedTo old more) first mid → Leaves (IsTidied len mid) mid last → Leaves (IsAddedTo old more) first last
  cut_back_added len first mid last len_is before after = and_then (IsAddedTo old more) (IsTidied len mid) first mid last before after so
    where
      so : (f : Files) → IsTidied len mid f → IsAddedTo old more f
      so f (inl left) = at_last (IsAddedTo old more) first mid before f left
      so f (inr (d, g, left, sees, same, is)) =
          let was = at_last (IsAddedTo old more) first mid before d left in
          let L = log_bytes old.whole old.entries in (
            ap (λ (h : Files). h.whole) is ∙ was.0,
            (
              0,
              ap (λ (h : Files). h.log) is ∙ ap (take len) was.1.1 ∙ ap (λ n. take n (L ++ take was.1.0 (log_bytes old.whole more))) len_is
                  ∙ take_at L (take was.1.0 (log_bytes old.whole more)) (length L) refl ∙ sym (append-nil L),
            ),
          )

  pub cut_back : (len : ℕ) (first mid last : List Called) → len ≡ length (log_bytes old.whole old.entries) → Leaves (IsAddedTo old more) first mid → Leaves (IsTidied len mid) mid last → Leaves (HoldsSome old more) first last
  cut_back len first mid last len_is before after = some_left first last (cut_back_added len first mid last len_is before after)
