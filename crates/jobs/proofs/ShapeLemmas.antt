-- Which keys are ready where entries change.
use Rattle.std.proofs.Common.{◌≡◌, ℕ, ◌<◌, ◌⊎◌, inl, inr, List, [], ◌∷◌, map, length, set, Some, slice_get, refl, ap, sym, ◌∙◌, subst, arith}
use Rattle.std.specs.List.{Contains, IsDistinct}
use Rattle.std.proofs.lemmas.Bool.{cases_eq}
use Rattle.names.specs.declared.digest.Digest.{Digest}
use Rattle.names.specs.declared.digest.Key.{Key}
use Rattle.lists.proofs.Places.{get-set_same, get-set_other, some_is, at_place, Contains-cases, Contains-head, Contains-tail}
use Rattle.vertices.specs.Loading.{GraphParts}
use Rattle.keytable.specs.declared.entry.Entry.{Entry}
use Rattle.keytable.specs.declared.entry.Progress.{Progress}
use Rattle.keytable.specs.declared.entry.Progress.TheVariants.{Waiting, Out}
use Rattle.keytable.specs.declared.users.Users.{Users}
use Rattle.keytable.specs.Adding.{AreAdded}
use Rattle.keytable.specs.Failing.{HasOutput, AreThere}
use Rattle.jobs.specs.ReadyLists.{IsReadyAt}
use Rattle.keytable.specs.Tables.{key_eq, key_of}
use Rattle.keytable.specs.Users.{IsClosed, IsUser, AreUsers}
use Rattle.jobs.proofs.AddLemmas.{added_left, added_waits, added_grows}
use Rattle.keytable.proofs.ProgressLemmas.{Grows, fails_grows, moved_grows}
use Rattle.keytable.proofs.ShapeLemmas.{user_shapes}
use Rattle.keytable.proofs.TableLemmas.{one_number}

-- ---- a key moves on

module _ (es : List Entry) (n : ℕ) (e : Entry) (at : slice_get es n ≡ Some e) (to : Progress) (now : List Entry) (now_is : now ≡ set es n (record e { progress = to })) where
  here : slice_get now n ≡ Some (record e { progress = to })
  here = ap (λ (xs : List Entry). slice_get xs n) now_is ∙ get-set_same es n (record e { progress = to }) e at

  -- what has an output had it before, or is of this key
  output_cases : (input : Key × ℕ) (digest : Digest) → HasOutput now input digest → HasOutput es input digest ⊎ (e.key ≡ input.0)
  output_cases input digest o =
      let s = o.done.submitted in
      elim (cases_eq s.number n) [
        | inl same ↦ inr (ap key_of (some_is (record e { progress = to }) o.done.entry (sym here ∙ ap (slice_get now) (sym same) ∙ s.at)) ∙ s.named)
        | inr apart ↦ inl (record {
          outputs = o.outputs;
          done = record {
            entry = o.done.entry;
            submitted = record { number = s.number; at = sym (get-set_other es n s.number (record e { progress = to }) apart) ∙ ap (λ (xs : List Entry). slice_get xs s.number) (sym now_is) ∙ s.at; named = s.named };
            done = o.done.done;
          };
          there = o.there;
        })
      ]

  split : (inputs : List (Key × ℕ)) → AreThere now inputs → AreThere es inputs ⊎ ((input : Key × ℕ) × Contains inputs input × (e.key ≡ input.0))
  split [] all = inl (λ input c. absurd (omega (arith, c.1)))
  split (x ∷ xs) all =
      let o = all x (Contains-head x xs) in
      elim (output_cases x o.0 o.1) [
        | inr named ↦ inr (x, Contains-head x xs, named)
        | inl before ↦ elim (split xs (λ input c. all input (Contains-tail x xs input c))) [
          | inr found ↦ inr (found.0, Contains-tail x xs found.0 found.1, found.2)
          | inl rest ↦ inl (λ input c. elim (Contains-cases x xs input c) [
            | inl same ↦ subst (λ (i : Key × ℕ). (digest : Digest) × HasOutput es i digest) same (o.0, before)
            | inr behind ↦ rest input behind
          ])
        ]
      ]

  -- what is ready was ready before, or is a user of this key
  pub ready_cases : e.progress ≡ Out → (to ≡ Waiting → ⊥) → (m : ℕ) → IsReadyAt now m → IsReadyAt es m ⊎ IsUser now m n
  ready_cases out goes m r = elim (cases_eq m n) [
    | inl same ↦ absurd (goes (ap (λ (x : Entry). x.progress) (some_is (record e { progress = to }) r.entry (sym here ∙ ap (slice_get now) (sym same) ∙ r.at)) ∙ r.ready.waiting))
    | inr apart ↦ elim (split r.entry.inputs r.ready.inputs) [
      | inl before ↦ inl (record {
        entry = r.entry;
        at = sym (get-set_other es n m (record e { progress = to }) apart) ∙ ap (λ (xs : List Entry). slice_get xs m) (sym now_is) ∙ r.at;
        ready = record {
          waiting = r.ready.waiting;
          not_failing = λ f.
              let grows : Grows es now = subst (Grows es) (sym now_is) (moved_grows es n e at to (λ outputs done. cc (out, done)) (λ fault failed. cc (out, failed))) in
              r.ready.not_failing (fails_grows es now grows r.entry.key f);
          inputs = before;
        };
      })
      | inr found ↦ inr (record { entry = r.entry; at = r.at; of = record e { progress = to }; of_at = here; input = found.0; has = found.1; named = found.2 })
    ]
  ]

-- ---- keys are added

module _ (g : GraphParts) (keys : List Key) (old new : List Entry) (h : AreAdded g keys old new) where
  pub users_added : (u : Users) → IsDistinct key_eq (map key_of new) → IsClosed old → length u.lasts.items ≡ length old → AreUsers old u → AreUsers new u
  users_added u unique closed count is = record {
    linked = is.linked;
    all = is.all;
    inputs = λ place link at. (let i = is.inputs place link at in
        record { user = user_shapes old new (λ n e there. (e, added_left g keys old new h n e there, refl, refl)) link.user link.source i.user; index = i.index });
    noted = λ n less entry input at has source other there key.
        let o = at_place old n (omega (arith, less, count)) in
        let one : o.0 ≡ entry = some_is o.0 entry (sym (added_left g keys old new h n o.0 o.1) ∙ at) in
        let has_old = subst (λ (x : Entry). Contains x.inputs input) (sym one) has in
        let s = closed n o.0 input o.1 has_old in
        let source_is = one_number new unique s.1.number source s.0 other (added_left g keys old new h s.1.number s.0 s.1.at) there (s.1.named ∙ sym key) in
        subst (λ (m : ℕ). Contains u.links.items (record { source = m; index = input.1; user = n })) source_is (is.noted n less o.0 input o.1 has_old s.1.number s.0 s.1.at s.1.named);
  }

  -- what is ready of the old keys was ready before
  pub ready_before : (m : ℕ) → m < length old → IsReadyAt new m → IsReadyAt old m
  ready_before m less r =
      let o = at_place old m less in
      let one : o.0 ≡ r.entry = some_is o.0 r.entry (sym (added_left g keys old new h m o.0 o.1) ∙ r.at) in
      record {
        entry = r.entry;
        at = o.1 ∙ ap (λ (x : Entry). Some x) one;
        ready = record {
          waiting = r.ready.waiting;
          not_failing = λ f. r.ready.not_failing (fails_grows old new (added_grows g keys old new h) r.entry.key f);
          inputs = λ input has. (let out = r.ready.inputs input has in (out.0, output_before input out.0 out.1));
        };
      }
    where
      output_before : (input : Key × ℕ) (digest : Digest) → HasOutput new input digest → HasOutput old input digest
      output_before input digest out =
          let s = out.done.submitted in
          elim (added_waits g keys old new h s.number out.done.entry s.at) [
            | inl before ↦ record { outputs = out.outputs; done = record { entry = out.done.entry; submitted = record { number = s.number; at = before; named = s.named }; done = out.done.done }; there = out.there }
            | inr waits ↦ absurd (let d = out.done.done in cc (waits, d))
          ]
