-- What is read is the spelling of a value, and the spelling of a value is read.
use Rattle.std.proofs.Common.{◌≡◌, ℕ, ◌^◌, ◌<◌, true, false, cond, List, ◌++◌, length, Option, Result, Ok, Err, refl, sym, ap, subst, ◌∙◌, append_assoc, arith}
use Rattle.std.specs.Int.{w32, from_be_bytes, to_be_bytes}
use Rattle.std.specs.Str.{IsUtf8, is_utf8}
use Rattle.std.proofs.lemmas.Bool.{false_from_ne_true}
use Rattle.std.proofs.lemmas.List.{length-append}
use Rattle.std.proofs.lemmas.Nat.{from_be_bytes-to_be_bytes_4}
use Rattle.std.proofs.lemmas.Str.{IsUtf8-from_is_utf8, is_utf8-from_IsUtf8}
use Rattle.codec.specs.Steps.{◌>>=◌, front_or}
use Rattle.codec.proofs.Fronts.{Takes, Takes-then, front_took, front_takes, front_again, front_of_length, wide32}
use Rattle.codec.proofs.Steps.{bind_ok, passed_ok, ok_is}
use Rattle.names.specs.Digests.{IsBytes}
use Rattle.folders.specs.declared.refusal.FolderRefusal.{FolderRefusal}
use Rattle.folders.specs.declared.refusal.FolderRefusal.TheVariants.{Truncated, PathOrder, NotUtf8}
use Rattle.folders.specs.Files.{sized, file_bytes}
use Rattle.folders.specs.Reading.{number_at, sized_at, is_above, path_at, file_at}

-- ---- a number

number_takes : (bytes : List ℕ) (n : ℕ) (rest : List ℕ) → IsBytes bytes → number_at bytes ≡ Ok (n, rest) → Takes bytes (to_be_bytes w32 n) rest
number_takes bytes n rest fits e =
    let s = bind_ok (front_or Truncated 4 bytes) (λ front. Ok (from_be_bytes w32 front.0, front.1)) (n, rest) e in
    let t = front_takes Truncated 4 bytes s.0.0 s.0.1 fits s.1 in
    subst (λ (x : ℕ × List ℕ). Takes bytes (to_be_bytes w32 x.0) x.1) (ok_is {E = FolderRefusal} (from_be_bytes w32 s.0.0, s.0.1) (n, rest) s.2)
    (subst (λ (x : List ℕ). Takes bytes x s.0.1) (sym (wide32.back s.0.0 t.1 t.2)) t.0)

number_front : (front rest : List ℕ) → length front ≡ 4 → number_at (front ++ rest) ≡ Ok (from_be_bytes w32 front, rest)
number_front front rest len = rw (front_of_length Truncated 4 front rest len) refl

number_again : (n : ℕ) (rest : List ℕ) → n < 2 ^ 32 → number_at (to_be_bytes w32 n ++ rest) ≡ Ok (n, rest)
number_again n rest lt = number_front (to_be_bytes w32 n) rest refl ∙ ap (λ (k : ℕ). let read : Result (ℕ × List ℕ) FolderRefusal = Ok (k, rest) in read) (from_be_bytes-to_be_bytes_4 n lt)

-- ---- bytes behind their length

sized_takes : (bytes body rest : List ℕ) → IsBytes bytes → sized_at bytes ≡ Ok (body, rest) → Takes bytes (sized body) rest
unfolding sized_at
sized_takes bytes body rest fits e =
    let b = bind_ok (number_at bytes) (λ n. front_or Truncated n.0 n.1) (body, rest) e in
    let t = number_takes bytes b.0.0 b.0.1 fits b.1 in
    let f = front_takes Truncated b.0.0 b.0.1 body rest t.rest_fits b.2 in
    let both = Takes-then bytes (to_be_bytes w32 b.0.0) b.0.1 body rest t f.0 in
    subst (λ (k : ℕ). Takes bytes (to_be_bytes w32 k ++ body) rest) (sym f.1) both

sized_again : (body rest : List ℕ) → length body < 2 ^ 32 → sized_at (sized body ++ rest) ≡ Ok (body, rest)
unfolding sized_at
sized_again body rest lt = rw (number_again (length body) (body ++ rest) lt) (front_again Truncated body rest)

-- ---- a path

pub record PathTook (last : Option (List ℕ)) (bytes path rest : List ℕ) : Type 0 where
  pub took : Takes bytes (sized path) rest
  pub utf8 : IsUtf8 path
  pub above : is_above last path ≡ true

path_takes : (last : Option (List ℕ)) (bytes path rest : List ℕ) → IsBytes bytes → path_at last bytes ≡ Ok (path, rest) → PathTook last bytes path rest
unfolding path_at
path_takes last bytes path rest fits e =
    let b = bind_ok (sized_at bytes) (λ p. cond (is_utf8 p.0) (cond (is_above last p.0) (Ok p) (Err PathOrder)) (Err NotUtf8)) (path, rest) e in
    let u = passed_ok (is_utf8 b.0.0) NotUtf8 (cond (is_above last b.0.0) (Ok b.0) (Err PathOrder)) (path, rest) b.2 in
    let a = passed_ok (is_above last b.0.0) PathOrder (Ok b.0) (path, rest) u.1 in
    let made : PathTook last bytes b.0.0 b.0.1 = record { took = sized_takes bytes b.0.0 b.0.1 fits b.1; utf8 = IsUtf8-from_is_utf8 b.0.0 u.0; above = a.0 } in
    subst (λ (p : List ℕ × List ℕ). PathTook last bytes p.0 p.1) (ok_is {E = FolderRefusal} b.0 (path, rest) a.1) made

-- ---- a file

pub record FileTook (last : Option (List ℕ)) (bytes : List ℕ) (file : List ℕ × List ℕ) (rest : List ℕ) : Type 0 where
  pub took : Takes bytes (file_bytes file) rest
  pub utf8 : IsUtf8 file.0
  pub above : is_above last file.0 ≡ true

pub file_takes : (last : Option (List ℕ)) (bytes : List ℕ) (file : List ℕ × List ℕ) (rest : List ℕ) → IsBytes bytes → file_at last bytes ≡ Ok (file, rest) → FileTook last bytes file rest
unfolding file_at
file_takes last bytes file rest fits e =
    let b = bind_ok (path_at last bytes) (λ p. sized_at p.1 >>= λ content. Ok ((p.0, content.0), content.1)) (file, rest) e in
    let d = bind_ok (sized_at b.0.1) (λ content. Ok ((b.0.0, content.0), content.1)) (file, rest) b.2 in
    let p = path_takes last bytes b.0.0 b.0.1 fits b.1 in
    let q = sized_takes b.0.1 d.0.0 d.0.1 p.took.rest_fits d.1 in
    let made : FileTook last bytes (b.0.0, d.0.0) d.0.1 = record { took = Takes-then bytes (sized b.0.0) b.0.1 (sized d.0.0) d.0.1 p.took q; utf8 = p.utf8; above = p.above } in
    let Read : Type 0 = (List ℕ × List ℕ) × List ℕ in
    subst (λ (x : Read). FileTook last bytes x.0 x.1) (ok_is {A = Read} {E = FolderRefusal} ((b.0.0, d.0.0), d.0.1) (file, rest) d.2) made

pub file_again : (last : Option (List ℕ)) (file : List ℕ × List ℕ) (rest : List ℕ) → length file.0 < 2 ^ 32 → length file.1 < 2 ^ 32 → IsUtf8 file.0 → is_above last file.0 ≡ true
    → file_at last (file_bytes file ++ rest) ≡ Ok (file, rest)
unfolding file_at path_at
file_again last file rest path_fits content_fits utf8 above =
    let regrouped : file_bytes file ++ rest ≡ sized file.0 ++ (sized file.1 ++ rest) = append_assoc (sized file.0) (sized file.1) rest in
    ap (file_at last) regrouped
    ∙ rw (sized_again file.0 (sized file.1 ++ rest) path_fits, is_utf8-from_IsUtf8 file.0 utf8, above, sized_again file.1 rest content_fits) refl

-- what was read is not read again
pub sized_shorter : (text body rest : List ℕ) → sized_at text ≡ Ok (body, rest) → length rest < length text
unfolding sized_at
sized_shorter text body rest e =
    let b = bind_ok (number_at text) (λ n. front_or Truncated n.0 n.1) (body, rest) e in
    let s = bind_ok (front_or Truncated 4 text) (λ front. Ok (from_be_bytes w32 front.0, front.1)) b.0 b.1 in
    let one = front_took Truncated 4 text s.0.0 s.0.1 s.1 in
    let two = front_took Truncated b.0.0 b.0.1 body rest b.2 in
    let same : s.0.1 ≡ b.0.1 = ap (λ (x : ℕ × List ℕ). x.1) (ok_is {E = FolderRefusal} (from_be_bytes w32 s.0.0, s.0.1) b.0 s.2) in
    omega (arith, one.1, ap length one.0, length-append s.0.0 s.0.1, ap length two.0, length-append body rest, ap length same)

pub file_shorter : (last : Option (List ℕ)) (text : List ℕ) (file : List ℕ × List ℕ) (rest : List ℕ) → file_at last text ≡ Ok (file, rest) → length rest < length text
unfolding file_at path_at
file_shorter last text file rest e =
    let Read : Type 0 = (List ℕ × List ℕ) × List ℕ in
    let b = bind_ok (path_at last text) (λ p. sized_at p.1 >>= λ content. Ok ((p.0, content.0), content.1)) (file, rest) e in
    let s = bind_ok (sized_at text) (λ p. cond (is_utf8 p.0) (cond (is_above last p.0) (Ok p) (Err PathOrder)) (Err NotUtf8)) b.0 b.1 in
    let u = passed_ok (is_utf8 s.0.0) NotUtf8 (cond (is_above last s.0.0) (Ok s.0) (Err PathOrder)) b.0 s.2 in
    let a = passed_ok (is_above last s.0.0) PathOrder (Ok s.0) b.0 u.1 in
    let d = bind_ok (sized_at b.0.1) (λ content. Ok ((b.0.0, content.0), content.1)) (file, rest) b.2 in
    let one : length s.0.1 < length text = sized_shorter text s.0.0 s.0.1 s.1 in
    let same : length s.0.1 ≡ length b.0.1 = ap (λ (p : List ℕ × List ℕ). length p.1) (ok_is {E = FolderRefusal} s.0 b.0 a.1) in
    let two : length d.0.1 < length b.0.1 = sized_shorter b.0.1 d.0.0 d.0.1 d.1 in
    let end : length d.0.1 ≡ length rest = ap (λ (x : Read). length x.1) (ok_is {A = Read} {E = FolderRefusal} ((b.0.0, d.0.0), d.0.1) (file, rest) d.2) in
    omega arith

-- why a path is refused
pub path_no_text : (last : Option (List ℕ)) (text path rest : List ℕ) → sized_at text ≡ Ok (path, rest) → (IsUtf8 path → ⊥) → path_at last text ≡ Err NotUtf8
unfolding path_at
path_no_text last text path rest read not_text = rw (read, false_from_ne_true (is_utf8 path) (λ e. not_text (IsUtf8-from_is_utf8 path e))) refl

pub path_falls : (last : Option (List ℕ)) (text path rest : List ℕ) → sized_at text ≡ Ok (path, rest) → IsUtf8 path → is_above last path ≡ false → path_at last text ≡ Err PathOrder
unfolding path_at
path_falls last text path rest read utf8 falls = rw (read, is_utf8-from_IsUtf8 path utf8, falls) refl

pub path_read : (last : Option (List ℕ)) (text path rest : List ℕ) → sized_at text ≡ Ok (path, rest) → IsUtf8 path → is_above last path ≡ true → path_at last text ≡ Ok (path, rest)
unfolding path_at
path_read last text path rest read utf8 above = rw (read, is_utf8-from_IsUtf8 path utf8, above) refl
