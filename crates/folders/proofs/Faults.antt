-- The first fault.
use Rattle.std.proofs.Common.{◌≡◌, inl, inr, ℕ, zero, suc, ◌+◌, ◌≤◌, ltb, List, [], ◌∷◌, ◌++◌, length, Option, Some, None, Result, Ok, Err, refl, sym, ap, ◌∙◌, arith}
use Rattle.std.specs.List.{AllByRecursion}
use Rattle.std.specs.Map.{keys_of}
use Rattle.std.specs.Str.{IsUtf8}
use Rattle.std.proofs.lemmas.Bool.{ltb-false, ltb-true}
use Rattle.std.proofs.lemmas.List.{length-append}
use Rattle.folders.specs.declared.refusal.FolderRefusal.{FolderRefusal}
use Rattle.folders.specs.declared.refusal.FolderRefusal.TheVariants.{TooLarge}
use Rattle.folders.specs.Files.{Files, file_bytes, folder_bytes, most_bytes, IsFolder}
use Rattle.codec.specs.Steps.{◌>>=◌}
use Rattle.folders.specs.Reading.{file_at, files_in, folder_of, last_path, Faulted}
use Rattle.codec.proofs.Fronts.{parts_then}
use Rattle.codec.proofs.Steps.{bind_err, chosen, err_is, ok_is}
use Rattle.names.specs.Digests.{IsBytes}
use Rattle.folders.proofs.FileLaws.{file_takes}
use Rattle.folders.proofs.FolderLaws.{length-file_bytes, folder_again}
use Rattle.folders.proofs.Rising.{RiseFrom, sorted_from_rise}

record FaultsFrom (last : Option (List ℕ)) (text : List ℕ) (refusal : FolderRefusal) : Type 0 where
  before : Files
  rest : List ℕ
  rise : RiseFrom last before
  utf8 : AllByRecursion IsUtf8 (keys_of before)
  parts : text ≡ folder_bytes before ++ rest
  fault : file_at (last_path last before) rest ≡ Err refusal

fault_in : (limit : ℕ) (last : Option (List ℕ)) (text : List ℕ) (d : FolderRefusal) → length text ≤ limit → IsBytes text → files_in limit last text ≡ Err d → FaultsFrom last text d
unfolding files_in
fault_in zero last [] d within fits e = absurd cc
fault_in (suc limit) last [] d within fits e = absurd cc
fault_in zero last (b ∷ bs) d within fits e = absurd cc
fault_in (suc limit) last (b ∷ bs) d within fits e =
    elim (bind_err (file_at last (b ∷ bs)) (λ first. files_in limit (Some first.0.0) first.1 >>= λ others. Ok (first.0 ∷ others)) d e) [
      | inl f ↦ record { before = []; rest = b ∷ bs; rise = tt; utf8 = tt; parts = refl; fault = f }
      | inr s ↦ elim (bind_err (files_in limit (Some s.0.0.0) s.0.1) (λ others. Ok (s.0.0 ∷ others)) d s.2) [
        | inl f ↦
            let t = file_takes last (b ∷ bs) s.0.0 s.0.1 fits s.1 in
            let count : length (b ∷ bs) ≡ length (file_bytes s.0.0) + length s.0.1 = ap length t.took.parts ∙ length-append (file_bytes s.0.0) s.0.1 in
            let len = length-file_bytes s.0.0 in
            let others = fault_in limit (Some s.0.0.0) s.0.1 d (omega arith) t.took.rest_fits f in
            record {
              before = s.0.0 ∷ others.before;
              rest = others.rest;
              rise = (t.above, others.rise);
              utf8 = (t.utf8, others.utf8);
              parts = parts_then (b ∷ bs) (file_bytes s.0.0) s.0.1 (folder_bytes others.before) others.rest t.took.parts others.parts;
              fault = others.fault;
            }
        | inr x ↦ absurd (let g = x.2 in cc)
      ]
    ]

abbrev refused : FolderRefusal → Result Files FolderRefusal
refused d = Err d

pub folder_fault : (text : List ℕ) (d : FolderRefusal) → IsBytes text → folder_of text ≡ Err d → Faulted text d
unfolding folder_of
folder_fault text d fits e =
    elim (chosen (ltb most_bytes (length text)) (refused TooLarge) (files_in (length text) None text) (refused d) e) [
      | inl large ↦ inl (sym (err_is TooLarge d large.1), ltb-true most_bytes (length text) large.0)
      | inr small ↦
          let f = fault_in (length text) None text d (omega arith) fits small.1 in
          inr (
            ltb-false most_bytes (length text) small.0,
            record { before = f.before; rest = f.rest; rise = sorted_from_rise None f.before f.rise; utf8 = f.utf8; parts = f.parts; fault = f.fault },
          )
    ]

-- two folders with the same bytes are the same
pub one_folder : (one other : Files) → IsFolder one → IsFolder other → folder_bytes one ≡ folder_bytes other → one ≡ other
one_folder one other is is' same = ok_is one other (sym (folder_again one is) ∙ ap folder_of same ∙ folder_again other is')
