-- The files that are read are those that the bytes spell.
use Rattle.std.proofs.Common.{ltb, false, ◌≡◌, ℕ, zero, suc, ◌+◌, ◌^◌, ◌<◌, ◌≤◌, List, [], ◌∷◌, ◌++◌, length, get_or, Option, Some, None, Result, Ok, Err, refl, ap, subst, ◌∙◌, arith}
use Rattle.std.specs.Int.{w32, to_be_bytes}
use Rattle.std.specs.List.{AllByRecursion}
use Rattle.std.specs.Map.{keys_of}
use Rattle.std.specs.Str.{IsUtf8}
use Rattle.std.specs.Prelude.{IfOk}
use Rattle.std.proofs.lemmas.Bool.{ltb-false, le-ltb}
use Rattle.std.proofs.lemmas.List.{length-append}
use Rattle.folders.specs.declared.refusal.FolderRefusal.{FolderRefusal}
use Rattle.folders.specs.declared.refusal.FolderRefusal.TheVariants.{TooLarge}
use Rattle.folders.specs.Files.{Files, sized, file_bytes, folder_bytes, most_bytes, IsFolder}
use Rattle.codec.specs.Steps.{◌>>=◌}
use Rattle.folders.specs.Reading.{Gives, file_at, files_in, folder_of}
use Rattle.codec.proofs.Steps.{bind_ok, guard_ok, ok_is}
use Rattle.names.specs.Digests.{IsBytes}
use Rattle.folders.proofs.FileLaws.{file_takes, file_again}
use Rattle.folders.proofs.Rising.{RiseFrom, sorted_from_rise, rise_from_sorted}

-- the file at the front, and those behind it
pub files_in_some : (limit : ℕ) (last : Option (List ℕ)) (text : List ℕ) → 1 ≤ length text
    → files_in (suc limit) last text ≡ (file_at last text >>= λ first. files_in limit (Some first.0.0) first.1 >>= λ others. Ok (first.0 ∷ others))
unfolding files_in
files_in_some limit last [] long = absurd (omega arith)
files_in_some limit last (b ∷ bs) long = refl

pub files_in_none : (limit : ℕ) (last : Option (List ℕ)) → files_in limit last [] ≡ Ok []
unfolding files_in
files_in_none zero last = refl
files_in_none (suc limit) last = refl

pub length-file_bytes : (file : List ℕ × List ℕ) → length (file_bytes file) ≡ 8 + length file.0 + length file.1
length-file_bytes file =
    let one : length (sized file.0) ≡ 4 + length file.0 = length-append (to_be_bytes w32 (length file.0)) file.0 in
    let two : length (sized file.1) ≡ 4 + length file.1 = length-append (to_be_bytes w32 (length file.1)) file.1 in
    omega (arith, length-append (sized file.0) (sized file.1))

-- a file has its place in the folder bytes
pub file_within : (files : Files) (i : ℕ) (file : List ℕ × List ℕ) → i < length files → (d : List ℕ × List ℕ) → file ≡ get_or files i d → length (file_bytes file) ≤ length (folder_bytes files)
file_within [] i file lt d is = absurd (omega arith)
file_within (f ∷ fs) zero file lt d is =
    let count = length-append (file_bytes f) (folder_bytes fs) in
    let same : length (file_bytes file) ≡ length (file_bytes f) = ap (λ (x : List ℕ × List ℕ). length (file_bytes x)) is in
    omega arith
file_within (f ∷ fs) (suc i) file lt d is =
    let count = length-append (file_bytes f) (folder_bytes fs) in
    let behind = file_within fs i file (omega arith) d is in
    omega arith

pub record FilesTook (last : Option (List ℕ)) (text : List ℕ) (files : Files) : Type 0 where
  pub parts : text ≡ folder_bytes files
  pub rise : RiseFrom last files
  pub utf8 : AllByRecursion IsUtf8 (keys_of files)

no_files : (last : Option (List ℕ)) (files : Files) → ◌≡◌ {A = Result Files FolderRefusal} (Ok []) (Ok files) → FilesTook last [] files
no_files last files e = subst (FilesTook last []) (ok_is [] files e) (record { parts = refl; rise = tt; utf8 = tt })

pub files_take : (limit : ℕ) (last : Option (List ℕ)) (text : List ℕ) (files : Files) → length text ≤ limit → IsBytes text → files_in limit last text ≡ Ok files → FilesTook last text files
unfolding files_in
files_take zero last [] files within fits e = no_files last files e
files_take zero last (b ∷ bs) files within fits e = absurd (omega arith)
files_take (suc limit) last [] files within fits e = no_files last files e
files_take (suc limit) last (b ∷ bs) files within fits e =
    let a = bind_ok (file_at last (b ∷ bs)) (λ first. files_in limit (Some first.0.0) first.1 >>= λ others. Ok (first.0 ∷ others)) files e in
    let o = bind_ok (files_in limit (Some a.0.0.0) a.0.1) (λ others. Ok (a.0.0 ∷ others)) files a.2 in
    let t = file_takes last (b ∷ bs) a.0.0 a.0.1 fits a.1 in
    let count : length (b ∷ bs) ≡ length (file_bytes a.0.0) + length a.0.1 = ap length t.took.parts ∙ length-append (file_bytes a.0.0) a.0.1 in
    let len = length-file_bytes a.0.0 in
    let u = files_take limit (Some a.0.0.0) a.0.1 o.0 (omega arith) t.took.rest_fits o.1 in
    subst (FilesTook last (b ∷ bs)) (ok_is (a.0.0 ∷ o.0) files o.2)
    (record { parts = t.took.parts ∙ ap (λ (x : List ℕ). file_bytes a.0.0 ++ x) u.parts; rise = (t.above, u.rise); utf8 = (t.utf8, u.utf8) })

pub files_again : (limit : ℕ) (last : Option (List ℕ)) (files : Files) → length (folder_bytes files) ≤ limit → length (folder_bytes files) < 2 ^ 32 → RiseFrom last files → AllByRecursion IsUtf8 (keys_of files)
    → files_in limit last (folder_bytes files) ≡ Ok files
files_again limit last [] within small rise utf8 = files_in_none limit last
files_again zero last (f ∷ fs) within small rise utf8 =
    let count = length-append (file_bytes f) (folder_bytes fs) in
    let len = length-file_bytes f in
    absurd (omega arith)
files_again (suc limit) last (f ∷ fs) within small rise utf8 =
    let count = length-append (file_bytes f) (folder_bytes fs) in
    let len = length-file_bytes f in
    files_in_some limit last (folder_bytes (f ∷ fs)) (omega arith)
    ∙ rw (file_again last f (folder_bytes fs) (omega arith) (omega arith) utf8.0 rise.0, files_again limit (Some f.0) fs (omega arith) (omega arith) rise.1 utf8.1) refl

-- ---- the whole folder

pub folder_took : (text : List ℕ) (files : Files) → IsBytes text → folder_of text ≡ Ok files → IsFolder files × (text ≡ folder_bytes files)
unfolding folder_of
folder_took text files fits e =
    let g = guard_ok (ltb most_bytes (length text)) TooLarge (files_in (length text) None text) files e in
    let small : length text ≤ most_bytes = ltb-false _ _ g.0 in
    let t = files_take (length text) None text files (omega arith) fits g.1 in
    let same : length text ≡ length (folder_bytes files) = ap length t.parts in
    (record { rise = sorted_from_rise None files t.rise; utf8 = t.utf8; small = omega arith }, t.parts)

pub folder_again : (files : Files) → IsFolder files → folder_of (folder_bytes files) ≡ Ok files
unfolding folder_of
folder_again files is =
    let small : length (folder_bytes files) ≤ most_bytes = is.small in
    let fine : ltb most_bytes (length (folder_bytes files)) ≡ false = le-ltb _ _ small in
    rw fine (files_again (length (folder_bytes files)) None files (omega arith) (omega arith) (rise_from_sorted files is.rise) is.utf8)

-- what reading gave, with view applied to it
pub is_folder : {X : Type 0} (view : X → Files) (text : List ℕ) (r : Result X FolderRefusal) → IsBytes text → Gives view r (folder_of text) → IfOk r (λ x. IsFolder (view x) × (text ≡ folder_bytes (view x)))
is_folder view text (Ok x) fits given = folder_took text (view x) fits given
is_folder view text (Err d) fits given = tt

pub gives_again : {X : Type 0} (view : X → Files) (r : Result X FolderRefusal) (text : List ℕ) (files : Files) → IsFolder files → text ≡ folder_bytes files → Gives view r (folder_of text) → Gives view r (Ok files)
gives_again view r text files is spelled given = subst (λ (read : Result Files FolderRefusal). Gives view r read) (ap folder_of spelled ∙ folder_again files is) given
