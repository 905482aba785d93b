-- What a crash leaves while entries are added to a log.
use Rattle.std.proofs.Common.{◌≡◌, ℕ, ◌+◌, ◌<◌, min, get_or, length-append, Bool, true, false, List, [], ◌∷◌, ◌++◌, length, take, drop, inl, inr, sym, ap, ◌∙◌, subst, append_assoc, arith}
use Rattle.std.proofs.lemmas.Grind.{flat_map-append}
use Rattle.std.proofs.lemmas.List.{append-nil, take-append-drop, take-append-le, take_min, take_more, drop_more}
use Rattle.std.proofs.Math.Seq.{take-append-add}
use Rattle.filekeeper.specs.Calls.{Called}
use Rattle.filekeeper.specs.Disks.{Files, with_log, MaySee, MayLeave, Leaves}
use Rattle.filekeeper.specs.Disks.Leaves.{Begins}
use Rattle.filekeeper.specs.Framing.{name_of, check_of, head_of, framed, log_bytes}
use Rattle.filekeeper.specs.Settled.{files_of, IsSettled, IsAddedTo}
use Rattle.recordparts.specs.Spelling.{number64}
use Rattle.saverecord.specs.Texts.{Texts}
use Rattle.filekeeper.specs.declared.device_call.DeviceCall.TheVariants.{Append, SyncLog}
use Rattle.filekeeper.proofs.DiskLemmas.{at_last, goes_on, log_left}
use Rattle.filekeeper.proofs.FramingLemmas.{log-push}

-- the first of some bytes behind others are a front of all
front : (x b y : List ℕ) (n : ℕ) → x ++ take n b ≡ take (length x + min n (length b)) (x ++ (b ++ y))
front x b y n =
    let k = min n (length b) in
    sym (take-append-add x (b ++ y) k ∙ ap (λ zs. x ++ zs) (take-append-le k b y (omega arith) ∙ take_min n b))

pub framed_parts : (whole entry : List ℕ) → framed whole entry ≡ head_of whole entry ++ entry
framed_parts whole entry =
    let name = name_of whole in
    let len = number64 (length entry) in
    let check = check_of name len in
    sym (append_assoc name (len ++ check) entry ∙ ap (λ zs. name ++ zs) (append_assoc len check entry))

-- a call of which it is known whether it was done, and with which bytes
pub appended : (now new : List Called) (some done : Bool) (given bytes : List ℕ) → new ≡ (Append some, given) ∷ now → some ≡ done → given ≡ bytes → new ≡ (Append done, bytes) ∷ now
appended now new some done given bytes is same equal = is ∙ (λ j. (Append (same j), equal j) ∷ now)

pub head_appended : (now new : List Called) (some done : Bool) (given whole told entry : List ℕ) → new ≡ (Append some, given) ∷ now → some ≡ done → given ≡ head_of whole told → told ≡ entry
    → new ≡ (Append done, head_of whole entry) ∷ now
head_appended now new some done given whole told entry is same head equal = appended now new some done given (head_of whole entry) is same (head ∙ ap (head_of whole) equal)

module _ (whole : List ℕ) (old entries : List (List ℕ)) where
  abbrev texts : Texts
  texts = record { whole = whole; entries = old }

  abbrev P : Files → Type 0
  P = IsAddedTo texts entries

  abbrev L : List ℕ
  L = log_bytes whole old

  abbrev F : List ℕ
  F = log_bytes whole entries

  -- these bytes of the new entries are there
  abbrev pub Sees : List Called → List ℕ → Type 0
  Sees calls x = (f : Files) → MaySee calls f → f ≡ record { whole = whole; log = L ++ x }

  -- the first of some bytes are there behind these
  added_part : (x b y : List ℕ) → F ≡ x ++ (b ++ y) → (n : ℕ) (f : Files) → f.whole ≡ whole → f.log ≡ (L ++ x) ++ take n b → P f
  added_part x b y is n f same log = (same, (length x + min n (length b), log ∙ append_assoc L x (take n b) ∙ ap (λ zs. L ++ zs) (front x b y n ∙ ap (λ zs. take (length x + min n (length b)) zs) (sym is))))

  module _ (first now : List Called) (x b y : List ℕ) (is : F ≡ x ++ (b ++ y)) (sees : Sees now x) where
    append_leaves : (done : Bool) (new : List Called) → new ≡ (Append done, b) ∷ now → Leaves P first now → Leaves P first new
    append_leaves done new same before = goes_on P first now (Append done, b) new same before here
      where
        here : (f : Files) → MayLeave ((Append done, b) ∷ now) f → P f
        here f (inl left) = at_last P first now before f left
        here f (inr (g, n, seen, (d, left, changed))) =
            let was = at_last P first now before d left in
            added_part x b y is n f (ap (λ (h : Files). h.whole) changed ∙ was.0) (ap (λ (h : Files). h.log) changed ∙ ap (λ (h : Files). h.log ++ take n b) (sees g seen))

    append_sees : (new : List Called) → new ≡ (Append true, b) ∷ now → Sees new (x ++ b)
    append_sees new same f seen =
        let d = subst (λ cs. MaySee cs f) same seen in
        d.2 ∙ ap (λ (h : Files). with_log (h.log ++ b) h) (sees d.0 d.1) ∙ ap (λ zs. record { whole = whole; log = zs }) (append_assoc L x b)

    append_failed : (new : List Called) → new ≡ (Append false, b) ∷ now → (f : Files) → MaySee new f → P f
    append_failed new same f seen =
        let d = subst (λ cs. MaySee cs f) same seen in
        let was = sees d.1.0 d.1.1 in
        added_part x b y is d.0 f (ap (λ (h : Files). h.whole) (d.1.2 ∙ ap (λ (h : Files). with_log (h.log ++ take d.0 b) h) was)) (ap (λ (h : Files). h.log) (d.1.2 ∙ ap (λ (h : Files). with_log (h.log ++ take d.0 b) h) was))

  -- whole entries are there
  seen_so_far : (now : List Called) (x y : List ℕ) → F ≡ x ++ y → Sees now x → (f : Files) → MaySee now f → P f
  seen_so_far now x y is sees f seen =
      let is_f = sees f seen in
      added_part x [] y is 0 f (ap (λ (h : Files). h.whole) is_f) (ap (λ (h : Files). h.log) is_f ∙ sym (append-nil (L ++ x)))

  -- the next entry, which follows those so far
  module _ (i : ℕ) (e : List ℕ) (inside : i < length entries) (here : get_or entries i e ≡ e) where
    abbrev X : List ℕ
    X = log_bytes whole (take i entries)

    abbrev Y : List ℕ
    Y = e ++ log_bytes whole (drop (i + 1) entries)

    head_next : F ≡ X ++ (head_of whole e ++ Y)
    head_next =
        ap (log_bytes whole) (sym (take-append-drop i entries)) ∙ flat_map-append (framed whole) (take i entries) (drop i entries)
        ∙ ap (λ es. X ++ log_bytes whole es) (drop_more entries i e inside ∙ ap (λ z. z ∷ drop (i + 1) entries) here)
        ∙ ap (λ zs. X ++ (zs ++ log_bytes whole (drop (i + 1) entries))) (framed_parts whole e)
        ∙ ap (λ zs. X ++ zs) (append_assoc (head_of whole e) e (log_bytes whole (drop (i + 1) entries)))

    entry_next : F ≡ (X ++ head_of whole e) ++ Y
    entry_next = head_next ∙ sym (append_assoc X (head_of whole e) Y)

    pub next : log_bytes whole (take (i + 1) entries) ≡ X ++ framed whole e
    next = ap (log_bytes whole) (take_more entries i e inside ∙ ap (λ z. take i entries ++ z ∷ []) here) ∙ log-push whole (take i entries) e

    both : (X ++ head_of whole e) ++ e ≡ log_bytes whole (take (i + 1) entries)
    both = append_assoc X (head_of whole e) e ∙ ap (λ zs. X ++ zs) (sym (framed_parts whole e)) ∙ sym next

    pub longer_len : (first len longer : ℕ) (told : List ℕ) → len ≡ first + length X → longer ≡ len + length (framed whole told) → told ≡ e → longer ≡ first + length (log_bytes whole (take (i + 1) entries))
    longer_len first len longer told is more equal =
        let l = ap length next ∙ length-append X (framed whole e) in
        let m = more ∙ ap (λ bytes. len + length (framed whole bytes)) equal in
        omega (arith, is, m, l)

    -- those so far are there
    pub seen_before : (now : List Called) → Sees now X → (f : Files) → MaySee now f → P f
    seen_before now = seen_so_far now X (head_of whole e ++ Y) head_next

    -- the entry is written: its head, and then its bytes
    module _ (first now mid : List Called) (sees : Sees now X) where
      pub head_failed : mid ≡ (Append false, head_of whole e) ∷ now → (f : Files) → MaySee mid f → P f
      head_failed = append_failed first now X (head_of whole e) Y head_next sees mid

      pub head_leaves : (done : Bool) → mid ≡ (Append done, head_of whole e) ∷ now → Leaves P first now → Leaves P first mid
      head_leaves done = append_leaves first now X (head_of whole e) Y head_next sees done mid

      module _ (new : List Called) (head : mid ≡ (Append true, head_of whole e) ∷ now) where
        abbrev Z : List ℕ
        Z = log_bytes whole (drop (i + 1) entries)

        head_sees : Sees mid (X ++ head_of whole e)
        head_sees = append_sees first now X (head_of whole e) Y head_next sees mid head

        pub entry_failed : new ≡ (Append false, e) ∷ mid → (f : Files) → MaySee new f → P f
        entry_failed = append_failed first mid (X ++ head_of whole e) e Z entry_next head_sees new

        pub entry_leaves : (done : Bool) → new ≡ (Append done, e) ∷ mid → Leaves P first now → Leaves P first new
        entry_leaves done is before = append_leaves first mid (X ++ head_of whole e) e Z entry_next head_sees done new is (head_leaves true head before)

        pub entry_sees : new ≡ (Append true, e) ∷ mid → Sees new (log_bytes whole (take (i + 1) entries))
        entry_sees is = subst (Sees new) both (append_sees first mid (X ++ head_of whole e) e Z entry_next head_sees new is)

  module _ (first : List Called) (settled : IsSettled first texts) where
    pub sees_first : Sees first []
    sees_first f seen = settled.seen f seen ∙ ap (λ zs. record { whole = whole; log = zs }) (sym (append-nil L))

    pub leaves_first : Leaves P first first
    leaves_first = Begins here
      where
        here : (f : Files) → MayLeave first f → P f
        here f left =
            let is = settled.left f left in
            (ap (λ (h : Files). h.whole) is, (0, ap (λ (h : Files). h.log) is ∙ sym (append-nil L)))

  -- all entries are there
  pub sync_sees : (now : List Called) (done : Bool) (new : List Called) → new ≡ (SyncLog done, []) ∷ now → Sees now F → (f : Files) → MaySee new f → P f
  sync_sees now done new same sees f seen = seen_so_far now F [] (sym (append-nil F)) sees f (subst (λ cs. MaySee cs f) same seen)

  pub sync_leaves : (first now : List Called) (done : Bool) (new : List Called) → new ≡ (SyncLog done, []) ∷ now → Leaves P first now → Leaves P first new
  sync_leaves first now done new same before = goes_on P first now (SyncLog done, []) new same before (λ f left. at_last P first now before f (log_left done now f left))

  pub sync_settles : (first now new : List Called) → new ≡ (SyncLog true, []) ∷ now → Leaves P first now → Sees now F → IsSettled new (record { whole = whole; entries = old ++ entries })
  sync_settles first now new same before sees = subst (λ cs. IsSettled cs (record { whole = whole; entries = old ++ entries })) (sym same) (record {
    seen = λ f seen. sees f seen ∙ all;
    left = λ f left.
        let was = at_last P first now before f left.0 in
        let log = left.1.2 ∙ ap (λ (h : Files). h.log) (sees left.1.0 left.1.1) in
        (λ i. record { whole = was.0 i; log = log i }) ∙ all;
  })
    where
      all : record { whole = whole; log = L ++ F } ≡ files_of (record { whole = whole; entries = old ++ entries })
      all = ap (λ zs. record { whole = whole; log = zs }) (sym (flat_map-append (framed whole) old entries))
