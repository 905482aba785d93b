-- A listing has one text.
use Rattle.std.proofs.Common.{Result, Ok, Err, IsErrAnd, ◌≡◌, ℕ, zero, suc, ◌<◌, List, [], ◌∷◌, ◌++◌, map, length, refl, sym, ap, ◌∙◌, subst, append_assoc, arith}
use Rattle.std.proofs.lemmas.Bool.Decides.{nat_tests}
use Rattle.std.proofs.lemmas.List.{append-nil}
use Rattle.std.proofs.lemmas.Grind.{flat_map-append}
use Rattle.names.specs.Decimals.{Lacks}
use Rattle.names.specs.Digests.{IsBytes}
use Rattle.names.specs.Escapes.{stands}
use Rattle.names.proofs.EscapeLemmas.{upper_digit-range}
use Rattle.names.proofs.NameLemmas.{IsMark, id-lacks, id_text-injective, Lacks-nil, Lacks-cons, Lacks-append, Lacks-middle, Lacks-tail, split_same}
use Rattle.merging.specs.declared.refusal.ListingRefusal.{ListingRefusal}
use Rattle.merging.specs.Listings.{Listing}
use Rattle.merging.specs.Texts.{swapped, path_text, line_words, line_text, listing_text, IsLine, AreLines}

pub space_mark : IsMark 32
unfolding stands
space_mark = record { escapes = refl; no_percent = λ e. omega arith; no_digit = λ d lt e. (let r = upper_digit-range d lt in omega arith) }

pub end_mark : IsMark 10
unfolding stands
end_mark = record { escapes = refl; no_percent = λ e. omega arith; no_digit = λ d lt e. (let r = upper_digit-range d lt in omega arith) }

swap_twice : (b : ℕ) → swapped (swapped b) ≡ b
swap_twice b = grind (arith, nat_tests)

pub all_twice : (bs : List ℕ) → map swapped (map swapped bs) ≡ bs
all_twice [] = refl
all_twice (b ∷ bs) = ap (λ (x : ℕ). x ∷ map swapped (map swapped bs)) (swap_twice b) ∙ ap (λ (xs : List ℕ). b ∷ xs) (all_twice bs)

swap_fits : (b : ℕ) → b < 256 → swapped b < 256
swap_fits b h = grind (arith, nat_tests)

pub swapped_bytes : (bs : List ℕ) → IsBytes bs → IsBytes (map swapped bs)
swapped_bytes [] h i = h i
swapped_bytes (b ∷ bs) h zero = swap_fits b (h 0)
swapped_bytes (b ∷ bs) h (suc i) = swapped_bytes bs (λ j. h (suc j)) i

pub path_same : (p q : List ℕ) → IsBytes p → IsBytes q → path_text p ≡ path_text q → p ≡ q
path_same p q hp hq e =
    let is = id_text-injective (map swapped p) (map swapped q) (swapped_bytes p hp) (swapped_bytes q hq) e in
    sym (all_twice p) ∙ ap (map swapped) is ∙ all_twice q

pub path_lacks_space : (p : List ℕ) → IsBytes p → Lacks 32 (path_text p)
path_lacks_space p h = id-lacks 32 space_mark (map swapped p) (swapped_bytes p h)

pub words_lack : (line : List ℕ × List ℕ) → IsLine line → Lacks 10 (line_words line)
words_lack line h = Lacks-append 10 (path_text line.0) (32 ∷ line.1) (id-lacks 10 end_mark (map swapped line.0) (swapped_bytes line.0 h.path))
    (Lacks-cons 10 32 line.1 (λ e. omega arith) h.entry)

pub words_same : (a b : List ℕ × List ℕ) → IsBytes a.0 → IsBytes b.0 → line_words a ≡ line_words b → a ≡ b
words_same a b ha hb e =
    let parts = split_same 32 (path_text a.0) (path_text b.0) a.1 b.1 e (path_lacks_space a.0 ha) (path_lacks_space b.0 hb) in
    let path = path_same a.0 b.0 ha hb parts.0 in
    ap (λ (p : List ℕ). let z : List ℕ × List ℕ = (p, a.1) in z) path ∙ ap (λ (x : List ℕ). let z : List ℕ × List ℕ = (b.0, x) in z) parts.1

pub line_then : (line : List ℕ × List ℕ) (rest : List ℕ) → line_text line ++ rest ≡ line_words line ++ 10 ∷ rest
line_then line rest = append_assoc (line_words line) (10 ∷ []) rest

-- what is left of a text behind some of its lines is the text of the others
pub rest_of_lines : (done lines : Listing) (rest : List ℕ) → AreLines done → AreLines lines → listing_text done ++ rest ≡ listing_text lines
    → (left : Listing) × AreLines left × (lines ≡ done ++ left) × (rest ≡ listing_text left)
rest_of_lines [] lines rest hd hl e = (lines, hl, refl, e)
rest_of_lines (a ∷ done) [] rest hd hl e =
    let whole : line_words a ++ 10 ∷ (listing_text done ++ rest) ≡ [] = sym (append_assoc (line_text a) (listing_text done) rest ∙ line_then a (listing_text done ++ rest)) ∙ e in
    absurd (Lacks-middle 10 (line_words a) (listing_text done ++ rest) (subst (Lacks 10) (sym whole) (Lacks-nil 10)))
rest_of_lines (a ∷ done) (b ∷ lines) rest hd hl e =
    let whole : line_words a ++ 10 ∷ (listing_text done ++ rest) ≡ line_words b ++ 10 ∷ listing_text lines =
    sym (append_assoc (line_text a) (listing_text done) rest ∙ line_then a (listing_text done ++ rest)) ∙ e ∙ line_then b (listing_text lines) in
    let parts = split_same 10 (line_words a) (line_words b) (listing_text done ++ rest) (listing_text lines) whole (words_lack a hd.0) (words_lack b hl.0) in
    let first : a ≡ b = words_same a b hd.0.path hl.0.path parts.0 in
    let others = rest_of_lines done lines rest hd.1 hl.1 parts.1 in
    (others.0, others.1, ap (λ (x : List ℕ × List ℕ). x ∷ lines) (sym first) ∙ ap (λ (l : Listing). a ∷ l) others.2, others.3)

pub text_same : (one other : Listing) → AreLines one → AreLines other → listing_text one ≡ listing_text other → one ≡ other
text_same one other h1 h2 e =
    let r = rest_of_lines one other [] h1 h2 (append-nil (listing_text one) ∙ e) in
    no_more r.0 r.2 r.3
  where
    no_more : (left : Listing) → other ≡ one ++ left → [] ≡ listing_text left → one ≡ other
    no_more [] is none = sym (is ∙ append-nil one)
    no_more (x ∷ left) is none =
        let whole = none ∙ line_then x (listing_text left) in
        absurd (Lacks-middle 10 (line_words x) (listing_text left) (subst (Lacks 10) whole (Lacks-nil 10)))

-- a text of lines that goes on begins with a line
pub next_line : (text rest : List ℕ) (done lines : Listing) → AreLines done → AreLines lines → text ≡ listing_text done ++ rest → text ≡ listing_text lines → 0 < length rest
    → (line : List ℕ × List ℕ) × (behind : List ℕ) × IsLine line × (rest ≡ line_words line ++ 10 ∷ behind)
next_line text rest done lines hd hl e is long =
    let r = rest_of_lines done lines rest hd hl (sym e ∙ is) in
    from r.0 r.1 r.3
  where
    from : (left : Listing) → AreLines left → rest ≡ listing_text left → (line : List ℕ × List ℕ) × (behind : List ℕ) × IsLine line × (rest ≡ line_words line ++ 10 ∷ behind)
    from [] h none = (let none' = ap length none in absurd (omega arith))
    from (x ∷ left) h whole = (x, listing_text left, h.0, whole ∙ line_then x (listing_text left))

-- the refusal that a `?` passes on
pub passed_on : {X : Type 0} (r : Result X ListingRefusal) (d e : ListingRefusal) → IsErrAnd r (λ y. y ≡ d) → r ≡ Err e → d ≡ e
passed_on (Ok x) d e h is = absurd (cc is)
passed_on (Err y) d e h is = cc (h, is)

lines_push : (lines : Listing) (line : List ℕ × List ℕ) → AreLines lines → IsLine line → AreLines (lines ++ line ∷ [])
lines_push [] line all one = (one, tt)
lines_push (x ∷ lines) line all one = (all.0, lines_push lines line all.1 one)

text_push : (lines : Listing) (line : List ℕ × List ℕ) → listing_text (lines ++ line ∷ []) ≡ listing_text lines ++ line_text line
text_push lines line = flat_map-append line_text lines (line ∷ []) ∙ ap (λ (t : List ℕ). listing_text lines ++ t) (append-nil (line_text line))

-- what stands in the words of a line is not in its entry
entry_lacks : (path entry : List ℕ) → Lacks 10 (path ++ entry) → Lacks 10 entry
entry_lacks [] entry h = h
entry_lacks (b ∷ path) entry h = entry_lacks path entry (Lacks-tail 10 b (path ++ entry) h)

pub line_is : (line : List ℕ × List ℕ) (words : List ℕ) → words ≡ line_words line → Lacks 10 words → IsBytes line.0 → IsLine line
line_is line words e lacks fits = record { path = fits; entry = Lacks-tail 10 32 line.1 (entry_lacks (path_text line.0) (32 ∷ line.1) (subst (Lacks 10) e lacks)) }

pub more_lines : (text rest front behind : List ℕ) (done done' : Listing) (line : List ℕ × List ℕ) → text ≡ listing_text done ++ rest → AreLines done
    → rest ≡ front ++ 10 ∷ behind → front ≡ line_words line → IsLine line → done' ≡ done ++ line ∷ []
    → (text ≡ listing_text done' ++ behind) × AreLines done'
more_lines text rest front behind done done' line e all cut is one more = (
  e ∙ ap (λ (t : List ℕ). listing_text done ++ t) (cut ∙ ap (λ (t : List ℕ). t ++ 10 ∷ behind) is ∙ sym (line_then line behind))
      ∙ sym (append_assoc (listing_text done) (line_text line) behind)
      ∙ ap (λ (t : List ℕ). t ++ behind) (sym (text_push done line))
      ∙ ap (λ (l : Listing). listing_text l ++ behind) (sym more),
  subst (λ (l : Listing). AreLines l) (sym more) (lines_push done line all one),
)
