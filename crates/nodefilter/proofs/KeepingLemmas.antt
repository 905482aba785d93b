-- What is kept of a list of contents, one after the other, and what was left in files.
use Rattle.std.proofs.Common.{◌≡◌, ℕ, ◌+◌, ◌<◌, true, inl, inr, List, [], ◌∷◌, ◌++◌, length, get_or, take, Option, Some, None, sym, subst}
use Rattle.std.specs.List.{Contains}
use Rattle.std.proofs.lemmas.List.{take_more}
use Rattle.std.proofs.lemmas.List.Elements.{Contains-push_cases}
use Rattle.farm_base.specs.declared.left.Left.{Left}
use Rattle.nodelines.specs.declared.order.LeftFile.{LeftFile}
use Rattle.nodefilter.specs.Filters.{AreLeft}
use Rattle.protocol.specs.Names.{Digest}
use Rattle.nodestore.specs.Stores.{Kept, StayKept, AllKept}

-- of one more the content that is stored is kept
pub kept_more : {S : Type 0} (kept : Kept S) (store : Digest → Option (List ℕ)) (ds : List Digest) (i : ℕ) (e : Digest) (old new : S) → i < length ds
    → AllKept kept store (take i ds) old → StayKept kept None old new → ((c : List ℕ) → store (get_or ds i e) ≡ Some c → kept new (get_or ds i e) ≡ true)
    → AllKept kept store (take (i + 1) ds) new
kept_more kept store ds i e old new lt all stay here d c is_in is =
    let cases = Contains-push_cases (take i ds) (get_or ds i e) d (subst (λ (front : List Digest). Contains front d) (take_more ds i e lt) is_in) in
    elim cases [
      | inl before ↦ stay d (λ e. (cc)) (all d c before is)
      | inr last ↦ subst (λ (x : Digest). kept new x ≡ true) last (here c (subst (λ (x : Digest). store x ≡ Some c) (sym last) is))
    ]

-- nothing is to be kept of a digest under which nothing is stored
pub none_stored : {S : Type 0} (kept : Kept S) (store : Digest → Option (List ℕ)) (found : Option (List ℕ)) (d : Digest) (s : S) → found ≡ store d → found ≡ None
    → (c : List ℕ) → store d ≡ Some c → kept s d ≡ true
none_stored kept store found d s e none c is = absurd (cc (e, none, is))

-- one more file, and what was left in its slot
pub left_more : (Had : List ℕ → List ℕ → Type 0) (files : List LeftFile) (lefts : List Left) (file : LeftFile) (left : Left) → AreLeft Had files lefts → left.slot ≡ file.slot → Had file.file left.content
    → AreLeft Had (files ++ file ∷ []) (lefts ++ left ∷ [])
left_more Had [] [] file left all slot had = ((slot, had), tt)
left_more Had [] (l ∷ lefts) file left all slot had = absurd all
left_more Had (f ∷ files) [] file left all slot had = absurd all
left_more Had (f ∷ files) (l ∷ lefts) file left all slot had = (all.0, left_more Had files lefts file left all.1 slot had)
