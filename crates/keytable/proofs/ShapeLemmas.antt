-- The users' lists where entries change.
use Rattle.std.proofs.Common.{◌≡◌, ℕ, inl, inr, List, set, Some, slice_get, refl, ap, sym, ◌∙◌, subst}
use Rattle.std.specs.List.{Contains}
use Rattle.std.proofs.lemmas.Bool.{cases_eq}
use Rattle.names.specs.declared.digest.Key.{Key}
use Rattle.lists.proofs.Places.{get-set_same, get-set_other, get_set_cases, some_is}
use Rattle.keytable.specs.declared.entry.Entry.{Entry}
use Rattle.keytable.specs.declared.entry.Progress.{Progress}
use Rattle.keytable.specs.declared.users.Users.{Users}
use Rattle.keytable.specs.Users.{IsClosed, IsUser, AreUsers}

-- each entry of the one list is in the other, with its key and its inputs
abbrev pub Shapes : List Entry → List Entry → Type 0
Shapes old new = (n : ℕ) (e : Entry) → slice_get old n ≡ Some e → (f : Entry) × (slice_get new n ≡ Some f) × (f.key ≡ e.key) × (f.inputs ≡ e.inputs)

abbrev pub user_shapes : (old new : List Entry) → Shapes old new → (user source : ℕ) → IsUser old user source → IsUser new user source
user_shapes old new s user source i =
    let a = s user i.entry i.at in
    let b = s source i.of i.of_at in
    record {
      entry = a.0;
      at = a.1;
      of = b.0;
      of_at = b.1;
      input = i.input;
      has = subst (λ (xs : List (Key × ℕ)). Contains xs i.input) (sym a.3) i.has;
      named = b.2 ∙ i.named;
    }

pub users_shapes : (old new : List Entry) (u : Users) → Shapes old new → Shapes new old → AreUsers old u → AreUsers new u
users_shapes old new u forth back h = record {
  linked = h.linked;
  all = h.all;
  inputs = λ place link at. (let i = h.inputs place link at in record { user = user_shapes old new forth link.user link.source i.user; index = i.index });
  noted = λ n less entry input at has source other there key.
      let a = back n entry at in
      let b = back source other there in
      h.noted n less a.0 input a.1 (subst (λ (xs : List (Key × ℕ)). Contains xs input) (sym a.3) has) source b.0 b.1 (b.2 ∙ key);
}

pub closed_shapes : (old new : List Entry) → Shapes old new → Shapes new old → IsClosed old → IsClosed new
closed_shapes old new forth back closed n e input at has =
    let a = back n e at in
    let s = closed n a.0 input a.1 (subst (λ (xs : List (Key × ℕ)). Contains xs input) (sym a.3) has) in
    let f = forth s.1.number s.0 s.1.at in
    (f.0, record { number = s.1.number; at = f.1; named = f.2 ∙ s.1.named })

module _ (es : List Entry) (n : ℕ) (e : Entry) (at : slice_get es n ≡ Some e) (to : Progress) where
  moved_forth : Shapes es (set es n (record e { progress = to }))
  moved_forth m f there = elim (cases_eq m n) [
    | inl same ↦ (let is : e ≡ f = some_is e f (sym at ∙ ap (slice_get es) (sym same) ∙ there) in
        (record e { progress = to }, ap (slice_get (set es n (record e { progress = to }))) same ∙ get-set_same es n (record e { progress = to }) e at, ap (λ (x : Entry). x.key) is, ap (λ (x : Entry). x.inputs) is))
    | inr apart ↦ (f, get-set_other es n m (record e { progress = to }) apart ∙ there, refl, refl)
  ]

  moved_back : Shapes (set es n (record e { progress = to })) es
  moved_back m f there = elim (get_set_cases es n m (record e { progress = to }) e f at there) [
    | inl same ↦ (e, ap (slice_get es) same.0 ∙ at, ap (λ (x : Entry). x.key) same.1, ap (λ (x : Entry). x.inputs) same.1)
    | inr other ↦ (f, other.1, refl, refl)
  ]

  pub users_moved : (now : List Entry) (u : Users) → now ≡ set es n (record e { progress = to }) → AreUsers es u → AreUsers now u
  users_moved now u now_is h = subst (λ (xs : List Entry). AreUsers xs u) (sym now_is) (users_shapes es (set es n (record e { progress = to })) u moved_forth moved_back h)

  pub closed_moved : (now : List Entry) → now ≡ set es n (record e { progress = to }) → IsClosed es → IsClosed now
  closed_moved now now_is h = subst IsClosed (sym now_is) (closed_shapes es (set es n (record e { progress = to })) moved_forth moved_back h)
