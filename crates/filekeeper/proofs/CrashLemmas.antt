-- The texts of files that a crash left.
use Rattle.std.proofs.Common.{◌≡◌, ◌≢◌, ℕ, ◌+◌, ◌-◌, ◌<◌, ◌≤◌, List, [], ◌∷◌, ◌++◌, length, take, true, false, inl, inr, refl, sym, ap, ◌∙◌, subst, zero, suc, append_assoc, arith, length-append, All}
use Rattle.std.specs.Prelude.{nat_le}
use Rattle.std.specs.Int.{w64, from_be_bytes}
use Rattle.std.proofs.lemmas.Bool.{cases_Bool}
use Rattle.std.proofs.lemmas.List.{append-nil, length-take, length-take-le, take-append-le}
use Rattle.std.proofs.lemmas.List.Elements.{All-head, All-tail, All-nil, All-cons, All-append}
use Rattle.std.proofs.lemmas.Grind.{flat_map-append}
use Rattle.std.proofs.Math.Seq.{take-append-add}
use Rattle.filekeeper.specs.Disks.{Files}
use Rattle.filekeeper.specs.Framing.{name_of, check_of, framed, log_bytes, HasNone, IsTold, HasEntries}
use Rattle.filekeeper.specs.Settled.{Clashes, Holds, HoldsSome, IsAddedTo}
use Rattle.recordparts.specs.Spelling.{number64}
use Rattle.saverecord.specs.Texts.{Texts, whole_alone}
use Rattle.filekeeper.proofs.FramingLemmas.{framed_head, framed-length, name-length, number-length, check-length, told_again}

-- of an entry that was cut short there is none
short_has_none : (whole entry rest : List ℕ) (n : ℕ) → IsTold entry → n < length (framed whole entry) → HasNone whole (take n (framed whole entry ++ rest))
short_has_none whole entry rest n told short =
    elim (cases_Bool (nat_le 24 n)) [
      | inl long ↦ inr (record {
        name = name;
        len = len;
        behind = take (n - 24) entry;
        head = record { bytes_are = bytes_are long; name_len = name-length whole; len_len = number-length (length entry); check_len = check-length name len };
        other = inr (fewer long);
      })
      | inr few ↦ inl (at_most few)
    ]
  where
    name : List ℕ
    name = name_of whole

    len : List ℕ
    len = number64 (length entry)

    check : List ℕ
    check = check_of name len

    head : List ℕ
    head = name ++ (len ++ check)

    framed_is : framed whole entry ≡ head ++ entry
    framed_is = sym (append_assoc name (len ++ check) entry ∙ ap (λ zs. name ++ zs) (append_assoc len check entry))

    head_len : length head ≡ 24
    head_len = let a = length-append name (len ++ check) in let b = length-append len check in let c = name-length whole in let d = check-length name len in let e = number-length (length entry) in omega (arith, a, b, c, d, e)

    framed_len : length (framed whole entry) ≡ 24 + length entry
    framed_len = framed-length whole entry

    few_of : nat_le 24 n ≡ true → n - 24 ≤ length entry
    few_of long = let l = framed_len in grind (arith, l)

    bytes_are : nat_le 24 n ≡ true → take n (framed whole entry ++ rest) ≡ name ++ (len ++ (check ++ take (n - 24) entry))
    bytes_are long =
        ap (λ zs. take n (zs ++ rest)) framed_is
        ∙ ap (λ zs. take n zs) (append_assoc head entry rest)
        ∙ ap (λ m. take m (head ++ (entry ++ rest))) (over long)
        ∙ take-append-add head (entry ++ rest) (n - 24)
        ∙ ap (λ zs. head ++ zs) (take-append-le (n - 24) entry rest (few_of long))
        ∙ append_assoc name (len ++ check) (take (n - 24) entry)
        ∙ ap (λ zs. name ++ zs) (append_assoc len check (take (n - 24) entry))
      where
        over : nat_le 24 n ≡ true → n ≡ length head + (n - 24)
        over long = let h = head_len in grind (arith, h)

    fewer : nat_le 24 n ≡ true → length (take (n - 24) entry) < from_be_bytes w64 len
    fewer long =
        let l = length-take (n - 24) entry in
        let f = framed_len in
        let t = told_again entry told in
        let s : n - 24 < length entry = grind (arith, f) in
        let e : length (take (n - 24) entry) ≡ n - 24 = length-take-le (n - 24) entry (few_of long) in
        less (length (take (n - 24) entry)) (from_be_bytes w64 len) e t s
      where
        less : (a b : ℕ) → a ≡ n - 24 → b ≡ length entry → n - 24 < length entry → a < b
        less a b x y z = omega arith

    at_most : nat_le 24 n ≡ false → length (take n (framed whole entry ++ rest)) < 24
    at_most few = let l = length-take n (framed whole entry ++ rest) in grind (arith, l)

-- the entries of a log that was cut
pub record Found (whole bytes : List ℕ) (more : List (List ℕ)) : Type 0 where
  pub count : ℕ
  pub behind : List ℕ
  pub has : HasEntries whole bytes (take count more) behind

none_found : (whole : List ℕ) (more : List (List ℕ)) (bytes : List ℕ) → HasNone whole bytes → Found whole bytes more
none_found whole more bytes none = record { count = 0; behind = bytes; has = record { told = All-nil IsTold; bytes_are = refl; ends = none } }

pub cut_has : (whole : List ℕ) (more : List (List ℕ)) (n : ℕ) → All IsTold more → Found whole (take n (log_bytes whole more)) more
cut_has whole [] zero told = none_found whole [] [] (inl (omega arith))
cut_has whole [] (suc n) told = none_found whole [] [] (inl (omega arith))
cut_has whole (e ∷ es) n told =
    elim (cases_Bool (nat_le (length (framed whole e)) n)) [
      | inl long ↦
          let m : ℕ = n - length (framed whole e) in
          let rest = cut_has whole es m (All-tail IsTold e es told) in
          record {
            count = suc rest.count;
            behind = rest.behind;
            has = record {
              told = All-cons IsTold e (take rest.count es) (All-head IsTold e es told) rest.has.told;
              bytes_are = ap (λ k. take k (framed whole e ++ log_bytes whole es)) (over (length (framed whole e)) n long) ∙ take-append-add (framed whole e) (log_bytes whole es) m
                  ∙ ap (λ zs. framed whole e ++ zs) rest.has.bytes_are ∙ sym (append_assoc (framed whole e) (log_bytes whole (take rest.count es)) rest.behind);
              ends = rest.has.ends;
            };
          }
      | inr short ↦ none_found whole (e ∷ es) _ (short_has_none whole e (log_bytes whole es) n (All-head IsTold e es told) (under (length (framed whole e)) n short))
    ]
  where
    over : (a n : ℕ) → nat_le a n ≡ true → n ≡ a + (n - a)
    over a n l = grind arith

    under : (a n : ℕ) → nat_le a n ≡ false → n < a
    under a n l = grind arith

-- so opening a log to which entries were being added gives the old ones, and the first of the new ones
pub holds_some : (old : Texts) (more : List (List ℕ)) (f : Files) → All IsTold old.entries → All IsTold more → IsAddedTo old more f → HoldsSome old more f
holds_some old more f told too added =
    let n : ℕ = added.1.0 in
    let found = cut_has old.whole more n too in (
      found.count,
      record {
        behind = found.behind;
        whole_is = sym added.0;
        has = record {
          told = All-append IsTold old.entries (take found.count more) told found.has.told;
          bytes_are = added.1.1 ∙ ap (λ zs. log_bytes old.whole old.entries ++ zs) found.has.bytes_are ∙ sym (append_assoc (log_bytes old.whole old.entries) (log_bytes old.whole (take found.count more)) found.behind)
              ∙ ap (λ zs. zs ++ found.behind) (sym (flat_map-append (framed old.whole) old.entries (take found.count more))) ∙ ap (λ w. log_bytes w (old.entries ++ take found.count more) ++ found.behind) (sym added.0);
          ends = subst (λ w. HasNone w found.behind) (sym added.0) found.has.ends;
        };
      },
    )

-- opening a new record gives none of the old one's entries
pub holds_new : (old : Texts) (new : List ℕ) (f : Files) → new ≢ old.whole → ¬ Clashes new old → f ≡ record { whole = new; log = log_bytes old.whole old.entries } → Holds (whole_alone new) f
holds_new old new f differs no_clash is = subst (λ g. Holds (whole_alone new) g) (sym is) (record {
  behind = log_bytes old.whole old.entries;
  whole_is = refl;
  has = record { told = All-nil IsTold; bytes_are = refl; ends = none old.entries (λ some same. no_clash (differs, same, some)) };
})
  where
    none : (entries : List (List ℕ)) → (entries ≢ [] → name_of new ≢ name_of old.whole) → HasNone new (log_bytes old.whole entries)
    none [] apart = inl (omega arith)
    none (e ∷ es) apart = inr (record {
      name = name_of old.whole;
      len = number64 (length e);
      behind = e ++ log_bytes old.whole es;
      head = framed_head old.whole e (log_bytes old.whole es);
      other = inl (λ same. apart (λ no_entry. absurd (cc)) (sym same));
    })

-- opening what holds these texts gives them
pub holds : (texts : Texts) (f : Files) → All IsTold texts.entries → f ≡ record { whole = texts.whole; log = log_bytes texts.whole texts.entries } → Holds texts f
holds texts f told is = subst (λ g. Holds texts g) (sym is) (record {
  behind = [];
  whole_is = refl;
  has = record { told = told; bytes_are = sym (append-nil (log_bytes texts.whole texts.entries)); ends = inl (omega arith) };
})
