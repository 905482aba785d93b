-- Looking fields up one after the other, as the loops do.
use Rattle.std.proofs.Common.{◌≡◌, ℕ, ◌+◌, ◌<◌, Bool, true, false, cond, eqb, List, [], ◌∷◌, ◌++◌, length, get_or, take, drop, map, Option, Some, None, refl, sym, ap, ◌∙◌, append_assoc, Bor, ◌&&◌, not, inl, inr}
use Rattle.std.specs.Prelude.{filter_map}
use Rattle.std.specs.Global.{Vec}
use Rattle.std.specs.List.{flat_map, cons_option, list_all}
use Rattle.std.specs.Option.{option_map, option_eq}
use Rattle.std.proofs.Math.Bool.{and-true}
use Rattle.std.proofs.lemmas.List.Folds.{list_all-append}
use Rattle.std.proofs.lemmas.Bool.{and_parts, cases_eq, eqb-true, eqb-false, eq-eqb, ne_eqb}
use Rattle.std.proofs.lemmas.List.Concat.{flat_map-append}
use Rattle.std.proofs.lemmas.List.{drop_more, take_more, append-nil, map_push, map-append, take-append-drop}
use Rattle.std.proofs.lemmas.List.Elements.{filter_map-append}
use Rattle.protowire.specs.declared.field.Field.{Field}
use Rattle.protowire.specs.declared.field.Value.TheVariants as held
use Rattle.protowire.specs.Fields.{Entry}
use Rattle.protowire.specs.Seen.{entry, entries}
use Rattle.protowire.specs.Lookups.{payload_body, bodies, Member, member_in, members_in, lone, last_run, last_member, joined, joined_parts, joined_body}

abbrev pub bodies_now : List (Bor (List ℕ)) → List (List ℕ)
bodies_now bodies = map (λ body. body.now) bodies

-- the run that a loop has found, in two variables
abbrev pub run_of : Option ℕ → List ℕ → Option Member
run_of None joined = None
run_of (Some number) joined = Some (number, joined)

-- what is left, by its first item
pub drop_item : {X : Type 0} (xs : List X) (i : ℕ) (x : X) → i < length xs → x ≡ get_or xs i x → drop i xs ≡ x ∷ drop (i + 1) xs
drop_item xs i x lt e = drop_more xs i x lt ∙ ap (λ y. y ∷ drop (i + 1) xs) (sym e)

pub take_item : {X : Type 0} (xs : List X) (i : ℕ) (x : X) → i < length xs → x ≡ get_or xs i x → take (i + 1) xs ≡ take i xs ++ x ∷ []
take_item xs i x lt e = take_more xs i x lt ∙ ap (λ y. take i xs ++ y ∷ []) (sym e)

-- one more member behind a run
abbrev pub run_push : Option Member → Member → Option Member
run_push None m = Some m
run_push (Some r) m = cond (eqb r.0 m.0) (Some (r.0, r.1 ++ m.1)) (Some m)

abbrev has : ℕ → Member → Bool
has number m = eqb m.0 number

list_all-push : {X : Type 0} (p : X → Bool) (xs : List X) (x : X) → list_all p (xs ++ x ∷ []) ≡ (list_all p xs && p x)
list_all-push p xs x = list_all-append p xs (x ∷ []) ∙ ap (λ b. list_all p xs && b) (and-true (p x))

-- the run of members that all have one number
all_one : (k : ℕ) (m : Member) (ms : List Member) → list_all (has k) (m ∷ ms) ≡ true → last_run (m ∷ ms) ≡ Some (k, flat_map (λ x. x.1) (m ∷ ms))
all_one k m ms e =
    let both = and_parts (has k m) (list_all (has k) ms) e in
    let same = eqb-true m.0 k both.0 in
    let others : list_all (has m.0) ms ≡ true = rw same both.1 in
    rw (others, same) refl

run_pushed : (m : Member) (ms : List Member) (x : Member) → (b : Bool) → list_all (has m.0) ms ≡ b → last_run (ms ++ x ∷ []) ≡ run_push (last_run ms) x → last_run (m ∷ (ms ++ x ∷ [])) ≡ run_push (last_run (m ∷ ms)) x
run_pushed m ms x false e again =
    let more : list_all (has m.0) (ms ++ x ∷ []) ≡ false = list_all-push (has m.0) ms x ∙ rw e refl in
    rw (more, e) again
run_pushed m ms x true e again = run_of_one m ms x (has m.0 x) refl e again
  where
    flat-push : (ms : List Member) (x : Member) → flat_map (λ y. y.1) (ms ++ x ∷ []) ≡ flat_map (λ y. y.1) ms ++ x.1
    flat-push ms x = flat_map-append (λ y. y.1) ms (x ∷ []) ∙ ap (λ t. flat_map (λ y. y.1) ms ++ t) (append-nil x.1)

    other : (ms : List Member) (m x : Member) → list_all (has m.0) ms ≡ true → has m.0 x ≡ false → run_push (last_run ms) x ≡ Some x
    other [] m x all no-x = refl
    other (y ∷ ms) m x all no-x =
        let run = all_one m.0 y ms all in
        let differs : eqb m.0 x.0 ≡ false = ne_eqb m.0 x.0 (λ h. eqb-false x.0 m.0 no-x (sym h)) in
        rw (run, differs) refl

    run_of_one : (m : Member) (ms : List Member) (x : Member) (b : Bool) → has m.0 x ≡ b → list_all (has m.0) ms ≡ true → last_run (ms ++ x ∷ []) ≡ run_push (last_run ms) x → last_run (m ∷ (ms ++ x ∷ [])) ≡ run_push (last_run (m ∷ ms)) x
    run_of_one m ms x true is all again =
        let more : list_all (has m.0) (ms ++ x ∷ []) ≡ true = list_all-push (has m.0) ms x ∙ rw (all, is) refl in
        let same : eqb m.0 x.0 ≡ true = eq-eqb m.0 x.0 (sym (eqb-true x.0 m.0 is)) in
        rw (more, all, same) (ap (λ t. Some (m.0, m.1 ++ t)) (flat-push ms x) ∙ ap (λ t. Some (m.0, t)) (sym (append_assoc m.1 (flat_map (λ y. y.1) ms) x.1)))
    run_of_one m ms x false is all again =
        let more : list_all (has m.0) (ms ++ x ∷ []) ≡ false = list_all-push (has m.0) ms x ∙ rw (all, is) refl in
        let same : eqb m.0 x.0 ≡ false = ne_eqb m.0 x.0 (λ h. eqb-false x.0 m.0 is (sym h)) in
        rw (more, all, same) (again ∙ other ms m x all is)

pub last_run-push : (ms : List Member) (x : Member) → last_run (ms ++ x ∷ []) ≡ run_push (last_run ms) x
last_run-push [] x = ap (λ t. Some (x.0, t)) (append-nil x.1)
last_run-push (m ∷ ms) x = run_pushed m ms x (list_all (has m.0) ms) refl (last_run-push ms x)

-- what a loop reads past the end
abbrev pub no_field : Field
no_field = record { number = 0; value = held.Varint 0; start = 0; end = 0 }

pub members_more : (members : List ℕ) (fields : List Field) (i : ℕ) → i < length fields
    → filter_map (member_in members) (entries (take (i + 1) fields)) ≡ filter_map (member_in members) (entries (take i fields)) ++ filter_map (member_in members) (entry (get_or fields i no_field) ∷ [])
members_more members fields i lt =
    ap (λ fs. filter_map (member_in members) (entries fs)) (take_more fields i no_field lt)
    ∙ ap (filter_map (member_in members)) (map_push entry (take i fields) (get_or fields i no_field))
    ∙ filter_map-append (member_in members) (entries (take i fields)) (entry (get_or fields i no_field) ∷ [])

pub member_step : (members : List ℕ) (fields : List Field) (i : ℕ) (m : Member) → i < length fields → member_in members (entry (get_or fields i no_field)) ≡ Some m
    → last_member members (entries (take (i + 1) fields)) ≡ run_push (last_member members (entries (take i fields))) m
member_step members fields i m lt is =
    let all : filter_map (member_in members) (entries (take (i + 1) fields)) ≡ filter_map (member_in members) (entries (take i fields)) ++ m ∷ [] = rw (members_more members fields i lt, is) refl in
    ap last_run all ∙ last_run-push (filter_map (member_in members) (entries (take i fields))) m

pub skip_step : (members : List ℕ) (fields : List Field) (i : ℕ) → i < length fields → member_in members (entry (get_or fields i no_field)) ≡ None
    → last_member members (entries (take (i + 1) fields)) ≡ last_member members (entries (take i fields))
skip_step members fields i lt is =
    let all : filter_map (member_in members) (entries (take (i + 1) fields)) ≡ filter_map (member_in members) (entries (take i fields)) = rw (members_more members fields i lt, is) (append-nil (filter_map (member_in members) (entries (take i fields)))) in
    ap last_run all

-- ---- a list of exactly one member

-- the items of a list with at most one
abbrev pub listed : {X : Type 0} → Option X → List X
listed found = cons_option found []

-- one member is found for the first time
pub first_step : (members : List ℕ) (fields : List Field) (i : ℕ) (m : Member) → i < length fields → member_in members (entry (get_or fields i no_field)) ≡ Some m
    → members_in members (entries (take i fields)) ≡ [] → members_in members (entries (take (i + 1) fields)) ≡ m ∷ []
first_step members fields i m lt is none = rw (members_more members fields i lt, is, none) refl

-- a field that is not a member
pub same_step : (members : List ℕ) (fields : List Field) (i : ℕ) → i < length fields → member_in members (entry (get_or fields i no_field)) ≡ None
    → members_in members (entries (take (i + 1) fields)) ≡ members_in members (entries (take i fields))
same_step members fields i lt is = rw (members_more members fields i lt, is) (append-nil (members_in members (entries (take i fields))))

-- a second member is found, so there are two at least
pub second_step : (members : List ℕ) (fields : List Field) (i : ℕ) (a m : Member) → i < length fields → member_in members (entry (get_or fields i no_field)) ≡ Some m
    → members_in members (entries (take i fields)) ≡ a ∷ [] → lone (members_in members (entries fields)) ≡ None
second_step members fields i a m lt is one =
    let front : members_in members (entries (take (i + 1) fields)) ≡ a ∷ m ∷ [] = rw (members_more members fields i lt, is, one) refl in
    let split : fields ≡ take (i + 1) fields ++ drop (i + 1) fields = sym (take-append-drop (i + 1) fields) in
    let all : members_in members (entries fields) ≡ members_in members (entries (take (i + 1) fields)) ++ members_in members (entries (drop (i + 1) fields)) =
    ap (λ fs. members_in members (entries fs)) split
    ∙ ap (filter_map (member_in members)) (map-append entry (take (i + 1) fields) (drop (i + 1) fields))
    ∙ filter_map-append (member_in members) (entries (take (i + 1) fields)) (entries (drop (i + 1) fields)) in
    rw (all, front) refl

pub listed_lone : {X : Type 0} (found : Option X) (xs : List X) → xs ≡ listed found → found ≡ lone xs
listed_lone None xs e = rw e refl
listed_lone (Some x) xs e = rw e refl

pub joins : (last : Option ℕ) (before : List ℕ) (n : ℕ) (body : List ℕ) → false ≡ not (option_eq eqb last (Some n)) → run_push (run_of last before) (n, body) ≡ Some (n, before ++ body)
joins None before n body is = absurd cc
joins (Some k) before n body is = by_test (eqb k n) refl is
  where
    by_test : (b : Bool) → eqb k n ≡ b → false ≡ not b → run_push (Some (k, before)) (n, body) ≡ Some (n, before ++ body)
    by_test true e is = rw e (ap (λ m. Some (m, before ++ body)) (eqb-true k n e))
    by_test false e is = absurd cc

pub begins : (last : Option ℕ) (before : List ℕ) (n : ℕ) (body : List ℕ) → true ≡ not (option_eq eqb last (Some n)) → run_push (run_of last before) (n, body) ≡ Some (n, body)
begins None before n body is = refl
begins (Some k) before n body is = by_test (eqb k n) refl is
  where
    by_test : (b : Bool) → eqb k n ≡ b → true ≡ not b → run_push (Some (k, before)) (n, body) ≡ Some (n, body)
    by_test true e is = absurd cc
    by_test false e is = rw e refl

abbrev pub no_member : Option Member
no_member = None

-- ---- a oneof of one member

one_member : (k n : ℕ) (held : Option (List ℕ)) (read : List Member) (bodies : List (List ℕ)) → n ≡ k → read ≡ map (λ body. (k, body)) bodies
    → cons_option (option_map (λ body. (n, body)) held) read ≡ map (λ body. (k, body)) (cons_option held bodies)
one_member k n None read bodies same e = e
one_member k n (Some body) read bodies same e = rw (same, e) refl

single_members : (k : ℕ) (es : List Entry) → filter_map (member_in (k ∷ [])) es ≡ map (λ body. (k, body)) (bodies k es)
single_members k [] = refl
single_members k (e ∷ es) =
    elim (cases_eq e.number k) [
      | inl same ↦ rw (eq-eqb k e.number (sym same), eq-eqb e.number k same) (one_member k e.number (payload_body e.payload) (filter_map (member_in (k ∷ [])) es) (bodies k es) same (single_members k es))
      | inr other ↦ rw (ne_eqb k e.number (λ h. other (sym h)), ne_eqb e.number k other) (single_members k es)
    ]

pair : ℕ → List ℕ → Member
pair k body = (k, body)

all_single : (k : ℕ) (parts : List (List ℕ)) → list_all (has k) (map (pair k) parts) ≡ true
unfolding pair
all_single k [] = refl
all_single k (b ∷ parts) = rw (eq-eqb k k refl) (all_single k parts)

body_of : Member → List ℕ
body_of m = m.1

joined_single : (k : ℕ) (parts : List (List ℕ)) → flat_map body_of (map (pair k) parts) ≡ joined parts
unfolding pair body_of
joined_single k [] = refl
joined_single k (b ∷ parts) = ap (λ t. b ++ t) (joined_single k parts)

run_single : (k : ℕ) (parts : List (List ℕ)) → last_run (map (pair k) parts) ≡ option_map (pair k) (joined_parts parts)
unfolding pair body_of
run_single k [] = refl
run_single k (b ∷ parts) =
    all_one k (k, b) (map (pair k) parts) (all_single k (b ∷ parts))
    ∙ ap (λ (t : List ℕ). Some (pair k t)) (joined_single k (b ∷ parts))

pub single : (k : ℕ) (es : List Entry) → last_member (k ∷ []) es ≡ option_map (λ body. (k, body)) (joined_body k es)
unfolding pair
single k es = ap last_run (single_members k es) ∙ run_single k (bodies k es)

pub lone_single : (k : ℕ) (es : List Entry) → lone (members_in (k ∷ []) es) ≡ option_map (λ body. (k, body)) (lone (bodies k es))
unfolding pair
lone_single k es = ap (lone {X = Member}) (single_members k es) ∙ by_bodies (bodies k es)
  where
    by_bodies : (bs : List (List ℕ)) → lone {X = Member} (map (pair k) bs) ≡ option_map (pair k) (lone bs)
    by_bodies [] = refl
    by_bodies (b ∷ []) = refl
    by_bodies (b ∷ (d ∷ bs)) = refl

pub single_some : (k : ℕ) (m : Member) (found : Option (List ℕ)) → Some m ≡ option_map (λ b. (k, b)) found → Some m.1 ≡ found
single_some k m None e = absurd cc
single_some k m (Some b) e = ap (λ (o : Option Member). option_map body_is o) e
  where
    body_is : Member → List ℕ
    body_is m = m.1

pub single_none : (k : ℕ) (found : Option (List ℕ)) → no_member ≡ option_map (λ b. (k, b)) found → None ≡ found
single_none k None e = refl
single_none k (Some b) e = absurd cc

pub single_body : (k : ℕ) (es : List Entry) (found : Option (ℕ × Vec ℕ)) → option_map (λ m. (m.0, m.1.items)) found ≡ last_member (k ∷ []) es → option_map (λ m. m.1.items) found ≡ joined_body k es
single_body k es None e = single_none k (joined_body k es) (e ∙ single k es)
single_body k es (Some m) e = single_some k (m.0, m.1.items) (joined_body k es) (e ∙ single k es)
