-- Entries in the file of a log: where one begins it is the only one that does, and of a file that was cut the first ones are there.
use Rattle.std.proofs.Common.{◌≡◌, ℕ, ◌+◌, ◌-◌, ◌<◌, ◌≤◌, List, [], ◌∷◌, ◌++◌, length, take, drop, true, inl, inr, refl, sym, ap, ◌∙◌, subst, append_assoc, arith, length-append}
use Rattle.std.specs.Prelude.{All, nat_le}
use Rattle.std.specs.Int.{w64, from_be_bytes}
use Rattle.std.proofs.lemmas.Bool.{cases_Bool}
use Rattle.std.proofs.lemmas.List.{append-nil, length-drop, take-append-drop, length-take-le}
use Rattle.std.proofs.lemmas.List.Elements.{All-head, All-tail, All-nil, All-push}
use Rattle.std.proofs.lemmas.Nat.{from_be_bytes-to_be_bytes_8}
use Rattle.std.proofs.Math.Seq.{take-append_seam, drop-append_seam}
use Rattle.sha2.specs.Sha256.{sha256}
use Rattle.sha2.proofs.Facts256.{length-sha256}
use Rattle.filekeeper.specs.declared.framing.LogFault.{LogFault}
use Rattle.filekeeper.specs.declared.framing.LogFault.TheVariants.{BadHead, OutOfMemory}
use Rattle.filekeeper.specs.Framing.{name_of, check_of, framed, log_bytes, HasHead, HasNone, IsTold, IsFault, HasEntries, AreTaken, TellNone}
use Rattle.recordparts.specs.Spelling.{number64}
use Rattle.saverecord.specs.Texts.{Texts, with_text, with_texts}

-- ---- heads

front_same : (xs ys us vs : List ℕ) → length xs ≡ length us → xs ++ ys ≡ us ++ vs → xs ≡ us
front_same xs ys us vs l e = sym (take-append_seam xs ys) ∙ ap (λ zs. take (length xs) zs) e ∙ ap (λ n. take n (us ++ vs)) l ∙ take-append_seam us vs

back_same : (xs ys us vs : List ℕ) → length xs ≡ length us → xs ++ ys ≡ us ++ vs → ys ≡ vs
back_same xs ys us vs l e = sym (drop-append_seam xs ys) ∙ ap (λ zs. drop (length xs) zs) e ∙ ap (λ n. drop n (us ++ vs)) l ∙ drop-append_seam us vs

-- bytes have one head
record Same (name len behind name' len' behind' : List ℕ) : Type 0 where
  name_is : name ≡ name'
  len_is : len ≡ len'
  behind_is : behind ≡ behind'

one_head : (bytes name len check behind name' len' check' behind' : List ℕ) → HasHead bytes name len check behind → HasHead bytes name' len' check' behind' → Same name len behind name' len' behind'
one_head bytes name len check behind name' len' check' behind' h k =
    let all = sym h.bytes_are ∙ k.bytes_are in
    let names = h.name_len ∙ sym k.name_len in
    let rest = back_same name (len ++ (check ++ behind)) name' (len' ++ (check' ++ behind')) names all in
    let lens = h.len_len ∙ sym k.len_len in
    let last = back_same len (check ++ behind) len' (check' ++ behind') lens rest in
    record {
      name_is = front_same name (len ++ (check ++ behind)) name' (len' ++ (check' ++ behind')) names all;
      len_is = front_same len (check ++ behind) len' (check' ++ behind') lens rest;
      behind_is = back_same check behind check' behind' (h.check_len ∙ sym k.check_len) last;
    }

pub name-length : (whole : List ℕ) → length (name_of whole) ≡ 8
name-length whole = elim (cases_Bool (nat_le 8 (length whole))) [
  | inl long ↦ rw long (length-drop (length whole - 8) whole ∙ left (length whole) long)
  | inr short ↦ rw short refl
]
  where
    left : (n : ℕ) → nat_le 8 n ≡ true → n - (n - 8) ≡ 8
    left n long = grind arith

pub check-length : (name len : List ℕ) → length (check_of name len) ≡ 8
check-length name len = length-take-le 8 (sha256 (name ++ len)) (let l = length-sha256 (name ++ len) in omega arith)

-- the first eight bytes, and the others
pub record Eight (bytes front behind : List ℕ) : Type 0 where
  pub bytes_are : bytes ≡ front ++ behind
  pub front_len : length front ≡ 8

pub eight : (bytes front behind : List ℕ) → front ≡ take 8 bytes → behind ≡ drop 8 bytes → length behind + 8 ≡ length bytes → Eight bytes front behind
eight bytes front behind f b l = record {
  bytes_are = sym (take-append-drop 8 bytes) ∙ ap (λ zs. zs ++ drop 8 bytes) (sym f) ∙ ap (λ zs. front ++ zs) (sym b);
  front_len = ap length f ∙ length-take-le 8 bytes (enough (length behind) (length bytes) l);
}
  where
    enough : (m n : ℕ) → m + 8 ≡ n → 8 ≤ n
    enough m n e = omega arith

-- so they begin with a head
pub three_eights : (bytes name len check behind after last : List ℕ) → Eight bytes name behind → Eight behind len after → Eight after check last → HasHead bytes name len check last
three_eights bytes name len check behind after last a b c = record {
  bytes_are = a.bytes_are ∙ ap (λ zs. name ++ zs) b.bytes_are ∙ ap (λ zs. name ++ (len ++ zs)) c.bytes_are;
  name_len = a.front_len;
  len_len = b.front_len;
  check_len = c.front_len;
}

pub number-length : (n : ℕ) → length (number64 n) ≡ 8
number-length n = refl

-- the head of an entry
pub framed_head : (whole entry rest : List ℕ) → HasHead (framed whole entry ++ rest) (name_of whole) (number64 (length entry)) (check_of (name_of whole) (number64 (length entry))) (entry ++ rest)
framed_head whole entry rest =
    let name = name_of whole in
    let len = number64 (length entry) in
    let check = check_of (name_of whole) (number64 (length entry)) in
    record {
      bytes_are = append_assoc name (len ++ (check ++ entry)) rest ∙ ap (λ zs. name ++ zs) (append_assoc len (check ++ entry) rest ∙ ap (λ zs. len ++ zs) (append_assoc check entry rest));
      name_len = name-length whole;
      len_len = number-length (length entry);
      check_len = check-length name len;
    }

-- an entry begins with a head that tells its length
pub framed_by : (whole bytes name len entry rest : List ℕ) → HasHead bytes name len (check_of name len) (entry ++ rest) → name ≡ name_of whole → number64 (length entry) ≡ len
    → bytes ≡ framed whole entry ++ rest
framed_by whole bytes name len entry rest h named told =
    let same = ap (λ n. name ++ (n ++ (check_of name n ++ (entry ++ rest)))) (sym told) ∙ ap (λ m. m ++ (number64 (length entry) ++ (check_of m (number64 (length entry)) ++ (entry ++ rest)))) named in
    h.bytes_are ∙ same ∙ sym (framed_head whole entry rest).bytes_are

pub told_again : (entry : List ℕ) → IsTold entry → from_be_bytes w64 (number64 (length entry)) ≡ length entry
told_again entry told = from_be_bytes-to_be_bytes_8 (length entry) told

-- bytes with a head are long
head-length : (bytes name len check behind : List ℕ) → HasHead bytes name len check behind → length bytes ≡ 24 + length behind
head-length bytes name len check behind h =
    ap length h.bytes_are ∙ length-append name (len ++ (check ++ behind)) ∙ more (length name) (length (len ++ (check ++ behind))) h.name_len
    (length-append len (check ++ behind) ∙ ap (λ n. length len + n) (length-append check behind)) h.len_len h.check_len
  where
    more : (a b : ℕ) → a ≡ 8 → b ≡ length len + (length check + length behind) → length len ≡ 8 → length check ≡ 8 → a + b ≡ 24 + length behind
    more a b one two three four = omega arith

pub framed-length : (whole entry : List ℕ) → length (framed whole entry) ≡ 24 + length entry
framed-length whole entry = ap length (sym (append-nil (framed whole entry))) ∙ head-length _ _ _ _ _ (framed_head whole entry []) ∙ ap (λ zs. 24 + length zs) (append-nil entry)

-- ---- entries

-- where an entry begins, one begins
begins : (whole entry rest : List ℕ) → IsTold entry → HasNone whole (framed whole entry ++ rest) → ⊥
begins whole entry rest told none =
    let head = framed_head whole entry rest in
    let long = head-length _ _ _ _ _ head in
    elim none [
      | inl short ↦ absurd (too_short (length (framed whole entry ++ rest)) (length (entry ++ rest)) long short)
      | inr other ↦
          let same = one_head _ _ _ _ _ _ _ _ _ head other.head in
          elim other.other [
            | inl differs ↦ differs (sym same.name_is)
            | inr cut ↦ missing (length other.behind) (from_be_bytes w64 other.len) (ap length (sym same.behind_is) ∙ length-append entry rest)
                (ap (from_be_bytes w64) (sym same.len_is) ∙ told_again entry told) cut
          ]
    ]
  where
    too_short : (n m : ℕ) → n ≡ 24 + m → n < 24 → ⊥
    too_short n m e l = omega arith

    missing : (behind n : ℕ) → behind ≡ length entry + length rest → n ≡ length entry → behind < n → ⊥
    missing behind n e f l = omega arith

-- two entries that begin there are one
same_entry : (whole e rest f more : List ℕ) → IsTold e → IsTold f → framed whole e ++ rest ≡ framed whole f ++ more → (e ≡ f) × (rest ≡ more)
same_entry whole e rest f more told told' same =
    let other = subst (λ bs. HasHead bs (name_of whole) (number64 (length f)) (check_of (name_of whole) (number64 (length f))) (f ++ more)) (sym same) (framed_head whole f more) in
    let one = one_head _ _ _ _ _ _ _ _ _ (framed_head whole e rest) other in
    let lens : length e ≡ length f = sym (told_again e told) ∙ ap (from_be_bytes w64) one.len_is ∙ told_again f told' in
    (front_same e rest f more lens one.behind_is, back_same e rest f more lens one.behind_is)

-- the entry that begins there is the first one, and the others follow it
record First (whole entry rest : List ℕ) (found : List (List ℕ)) (behind : List ℕ) : Type 0 where
  others : List (List ℕ)
  found_is : found ≡ entry ∷ others
  has : HasEntries whole rest others behind

first_is : (whole entry rest bytes : List ℕ) (found : List (List ℕ)) (behind : List ℕ) → IsTold entry → bytes ≡ framed whole entry ++ rest → HasEntries whole bytes found behind → First whole entry rest found behind
first_is whole entry rest bytes [] behind told is h = absurd (begins whole entry rest told (subst (HasNone whole) (sym h.bytes_are ∙ is) h.ends))
first_is whole entry rest bytes (f ∷ fs) behind told is h =
    let one = same_entry whole entry rest f (log_bytes whole fs ++ behind) told (All-head IsTold f fs h.told) (sym is ∙ h.bytes_are ∙ append_assoc (framed whole f) (log_bytes whole fs) behind) in
    record {
      others = fs;
      found_is = ap (λ g. g ∷ fs) (sym one.0);
      has = record { told = All-tail IsTold f fs h.told; bytes_are = one.1; ends = h.ends };
    }

-- bytes have one list of entries
pub one_list : (whole bytes : List ℕ) (found others : List (List ℕ)) (behind rest : List ℕ) → HasEntries whole bytes found behind → HasEntries whole bytes others rest → others ≡ found
one_list whole bytes [] [] behind rest h k = refl
one_list whole bytes [] (f ∷ fs) behind rest h k =
    absurd (begins whole f (log_bytes whole fs ++ rest) (All-head IsTold f fs k.told) (subst (HasNone whole) (sym h.bytes_are ∙ k.bytes_are ∙ append_assoc (framed whole f) (log_bytes whole fs) rest) h.ends))
one_list whole bytes (e ∷ es) others behind rest h k =
    let first = first_is whole e (log_bytes whole es ++ behind) bytes others rest (All-head IsTold e es h.told) (h.bytes_are ∙ append_assoc (framed whole e) (log_bytes whole es) behind) k in
    let less : HasEntries whole (log_bytes whole es ++ behind) es behind = record { told = All-tail IsTold e es h.told; bytes_are = refl; ends = h.ends } in
    first.found_is ∙ ap (λ fs. e ∷ fs) (one_list whole (log_bytes whole es ++ behind) es first.others behind rest less first.has)

-- ---- while a file is read

-- of these bytes `count` entries were taken, and `rest` is left
pub record SoFar (old : Texts) (bytes rest : List ℕ) (now : Texts) (count : ℕ) : Type 0 where
  pub entries : List (List ℕ)
  pub counted : length entries ≡ count
  pub told : All IsTold entries
  pub bytes_are : bytes ≡ log_bytes old.whole entries ++ rest
  pub now_is : now ≡ with_texts entries old

pub at_first : (old : Texts) (bytes : List ℕ) → SoFar old bytes bytes old 0
at_first old bytes = record { entries = []; counted = refl; told = All-nil IsTold; bytes_are = refl; now_is = λ i. record old { entries = sym (append-nil old.entries) i } }

pub log-push : (whole : List ℕ) (entries : List (List ℕ)) (entry : List ℕ) → log_bytes whole (entries ++ entry ∷ []) ≡ log_bytes whole entries ++ framed whole entry
log-push whole [] entry = append-nil (framed whole entry)
log-push whole (e ∷ es) entry = ap (λ zs. framed whole e ++ zs) (log-push whole es entry) ∙ sym (append_assoc (framed whole e) (log_bytes whole es) (framed whole entry))

pub one_more : (old now new : Texts) (bytes rest after entry : List ℕ) (count : ℕ) → SoFar old bytes rest now count → rest ≡ framed now.whole entry ++ after → IsTold entry → new ≡ with_text entry now
    → SoFar old bytes after new (count + 1)
one_more old now new bytes rest after entry count h is told same =
    let whole : now.whole ≡ old.whole = ap (λ (t : Texts). t.whole) h.now_is in
    record {
      entries = h.entries ++ entry ∷ [];
      counted = (let longer = length-append h.entries (entry ∷ []) in let counted = h.counted in omega arith);
      told = All-push IsTold h.entries entry h.told told;
      bytes_are = h.bytes_are ∙ ap (λ zs. log_bytes old.whole h.entries ++ zs) (is ∙ ap (λ w. framed w entry ++ after) whole)
          ∙ sym (append_assoc (log_bytes old.whole h.entries) (framed old.whole entry) after) ∙ ap (λ zs. zs ++ after) (sym (log-push old.whole h.entries entry));
      now_is = same ∙ ap (λ (t : Texts). with_text entry t) h.now_is ∙ (λ i. record old { entries = append_assoc old.entries h.entries (entry ∷ []) i });
    }

pub all_taken : (old now : Texts) (bytes rest : List ℕ) (left count : ℕ) → SoFar old bytes rest now count → HasNone now.whole rest → left ≡ length rest → AreTaken old bytes now left
all_taken old now bytes rest left count h none l = record {
  entries = h.entries;
  behind = rest;
  has = record { told = h.told; bytes_are = h.bytes_are; ends = subst (λ w. HasNone w rest) (ap (λ (t : Texts). t.whole) h.now_is) none };
  new_is = h.now_is;
  left_is = l;
}

-- where the head of the next one is damaged
pub faulty : (old now : Texts) (bytes rest : List ℕ) (count number : ℕ) (fault : LogFault) → SoFar old bytes rest now count → IsFault rest number fault → number ≡ count + 1 → TellNone old.whole bytes fault
faulty old now bytes rest count number (BadHead damaged) h (broken, is) next =
    (h.entries, record { behind = rest; told = h.told; bytes_are = h.bytes_are; damaged = broken }, is ∙ next ∙ ap (λ n. n + 1) (sym h.counted))
faulty old now bytes rest count number OutOfMemory h broken next = tt

pub shorter : (whole entry rest after : List ℕ) (n most : ℕ) → rest ≡ framed whole entry ++ after → length rest + n ≤ most → length after + (n + 1) ≤ most
shorter whole entry rest after n most is h =
    let long = head-length _ _ _ _ _ (framed_head whole entry after) in
    let all = length-append entry after in
    less (length rest) (length (framed whole entry ++ after)) (length (entry ++ after)) (ap length is) long all h
  where
    less : (a b c : ℕ) → a ≡ b → b ≡ 24 + c → c ≡ length entry + length after → a + n ≤ most → length after + (n + 1) ≤ most
    less a b c e f g h = omega arith

pub at_last : (whole rest : List ℕ) (n most : ℕ) → length rest + n ≤ most → most ≤ n → HasNone whole rest
at_last whole rest n most h l = inl (omega arith)
