-- Reading files one after the other, as the loop does.
use Rattle.std.proofs.Common.{◌≡◌, ℕ, zero, suc, ◌≤◌, List, [], ◌∷◌, ◌++◌, length, Option, Some, None, Result, Ok, Err, refl, sym, ap, ◌∙◌, append_assoc, arith}
use Rattle.std.proofs.lemmas.List.{append-nil, nil_from_length}
use Rattle.folders.specs.declared.refusal.FolderRefusal.{FolderRefusal}
use Rattle.folders.specs.Files.{Files}
use Rattle.codec.specs.Steps.{◌>>=◌}
use Rattle.folders.specs.Reading.{file_at, files_in}
use Rattle.folders.proofs.FileLaws.{file_shorter}
use Rattle.folders.proofs.FolderLaws.{files_in_some, files_in_none}

-- the files that were read so far, followed by those that are left to read
abbrev pub with_front : Files → Result Files FolderRefusal → Result Files FolderRefusal
with_front front read = read >>= λ files. Ok (front ++ files)

-- reading the whole text gives these files, followed by what reading the rest gives
pub record IsOpen (total : Result Files FolderRefusal) (front : Files) (last : Option (List ℕ)) (rest : List ℕ) : Type 0 where
  pub limit : ℕ
  pub within : length rest ≤ limit
  pub so_far : with_front front (files_in limit last rest) ≡ total

pub starts : (text : List ℕ) → IsOpen (files_in (length text) None text) [] None text
starts text = record { limit = length text; within = omega arith; so_far = nothing (files_in (length text) None text) }
  where
    nothing : (read : Result Files FolderRefusal) → with_front [] read ≡ read
    nothing (Ok files) = refl
    nothing (Err d) = refl

regroup : (front : Files) (f : List ℕ × List ℕ) (read : Result Files FolderRefusal) → with_front front (read >>= λ fs. Ok (f ∷ fs)) ≡ with_front (front ++ f ∷ []) read
regroup front f (Ok fs) = ap (λ (x : Files). Ok x) (simp append_assoc)
regroup front f (Err d) = refl

on : (total : Result Files FolderRefusal) (front : Files) (last : Option (List ℕ)) (rest : List ℕ) (f : List ℕ × List ℕ) (after : List ℕ) (limit : ℕ) → length rest ≤ limit → 1 ≤ length rest
    → file_at last rest ≡ Ok (f, after) → with_front front (files_in limit last rest) ≡ total → IsOpen total (front ++ f ∷ []) (Some f.0) after
on total front last rest f after zero within long read so_far = absurd (omega arith)
on total front last rest f after (suc limit) within long read so_far =
    let less = file_shorter last rest f after read in
    let one : files_in (suc limit) last rest ≡ (files_in limit (Some f.0) after >>= λ others. Ok (f ∷ others)) = files_in_some limit last rest long ∙ rw read refl in
    record {
      limit = limit;
      within = omega arith;
      so_far = sym (ap (with_front front) one ∙ regroup front f (files_in limit (Some f.0) after)) ∙ so_far;
    }

pub goes_on : (total : Result Files FolderRefusal) (front : Files) (last : Option (List ℕ)) (rest : List ℕ) (f : List ℕ × List ℕ) (after : List ℕ) → IsOpen total front last rest → 1 ≤ length rest
    → file_at last rest ≡ Ok (f, after) → IsOpen total (front ++ f ∷ []) (Some f.0) after
goes_on total front last rest f after reads long read = on total front last rest f after reads.limit reads.within long read reads.so_far

stops : (total : Result Files FolderRefusal) (front : Files) (last : Option (List ℕ)) (rest : List ℕ) (d : FolderRefusal) (limit : ℕ) → length rest ≤ limit → 1 ≤ length rest
    → file_at last rest ≡ Err d → with_front front (files_in limit last rest) ≡ total → total ≡ Err d
stops total front last rest d zero within long read so_far = absurd (omega arith)
stops total front last rest d (suc limit) within long read so_far =
    let one : with_front front (files_in (suc limit) last rest) ≡ Err d = ap (with_front front) (files_in_some limit last rest long) ∙ rw read refl in
    sym so_far ∙ one

pub ends : (total : Result Files FolderRefusal) (front : Files) (last : Option (List ℕ)) (rest : List ℕ) (d : FolderRefusal) → IsOpen total front last rest → 1 ≤ length rest
    → file_at last rest ≡ Err d → total ≡ Err d
ends total front last rest d reads long read = stops total front last rest d reads.limit reads.within long read reads.so_far

pub is_done : (total : Result Files FolderRefusal) (front : Files) (last : Option (List ℕ)) (rest : List ℕ) → IsOpen total front last rest → length rest ≡ 0 → total ≡ Ok front
is_done total front last rest reads none =
    let one : files_in reads.limit last rest ≡ Ok [] = ap (files_in reads.limit last) (nil_from_length rest none) ∙ files_in_none reads.limit last in
    sym reads.so_far ∙ ap (with_front front) one ∙ ap (λ (x : Files). Ok x) (append-nil front)
