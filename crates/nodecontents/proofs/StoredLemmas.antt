-- What is stored and known, against the lists of it that a process keeps.
use mathlib.Core.Path.{fun_ext}
use Rattle.std.specs.Option.{option_copied, option_map_or}
use Rattle.std.proofs.Common.{◌≡◌, ℕ, Bool, true, false, true≢false, cond, Bor, ◌&&◌, List, [], ◌∷◌, ◌++◌, refl, ap, sym, subst, ◌∙◌, inl, inr, Option, Some, None, is_some, arith, ◌≢◌, length, ◌-◌}
use Rattle.std.specs.Prelude.{if◌then◌else◌, Contains, IfSome, position, swap_remove}
use Rattle.std.specs.Cmp.{IsEquivalence}
use Rattle.std.specs.List.{list_all, IsDistinct, All}
use Rattle.std.specs.Map.{keys_of, values_of, lookup, update, update_all}
use Rattle.std.proofs.lemmas.Bool.{and_parts}
use Rattle.std.proofs.lemmas.Cmp.{on_equiv, and_equiv, nat_eq_equiv}
use Rattle.std.proofs.lemmas.List.Folds.{list_all-append}
use Rattle.std.proofs.lemmas.List.Sums.{AllPass-from_list_all, list_all-from_AllPass}
use Rattle.std.proofs.lemmas.Map.Made.{update_all_none}
use Rattle.std.proofs.lemmas.Map.Views.{lookup-from_Contains}
use Rattle.indexmap.proofs.CallerLemmas.{insert_entry-new}
use Rattle.indexmap.specs.IndexMap.{IndexMap, get, insert_entry, swap_remove_entry}
use Rattle.names.specs.Contents.{content_digest, empty_digest}
use Rattle.names.specs.Digests.{digest_eq}
use Rattle.farm_base.specs.Versions.{version_eq}
use Rattle.farm_base.specs.declared.message.Version.{Version}
use Rattle.names.proofs.CompareLaws.{digest_exact, digest_eq-itself, slot_equivalence}
use Rattle.farm_base.proofs.VersionLaws.{version_exact, version_eq-itself}
use Rattle.lists.proofs.Places.{some_is, Contains-cases, Contains-head, Contains-tail}
use Rattle.protocol.specs.Names.{Slot, Digest}
use Rattle.protocol.specs.World.{keep, first_node, without}
use Rattle.nodecontents.specs.Stored.{store_in, known_in, store_one, store_each, learn_one, learn_all, is_keyed, AreStored, HaveOneDigestEach, agrees, agree_on}
use Rattle.nodecontents.proofs.MapLemmas.{digest_eq-sym, learn_here}
use Rattle.std.proofs.lemmas.List.Elements.{All-take, All-set}

-- one content more
pub store_each-push : (cs : List (List ℕ)) (c : List ℕ) (store : Digest → Option (List ℕ)) → store_each (cs ++ c ∷ []) store ≡ store_one c (store_each cs store)
store_each-push [] c store = refl
store_each-push (x ∷ xs) c store = store_each-push xs c (store_one x store)

and_assoc : (a b c : Bool) → (a && (b && c)) ≡ ((a && b) && c)
and_assoc true b c = refl
and_assoc false b c = refl

and_true : (a : Bool) → (a && true) ≡ a
and_true true = refl
and_true false = refl

and_swap : (a b : Bool) → (a && b) ≡ (b && a)
and_swap true b = sym (and_true b)
and_swap false true = refl
and_swap false false = refl

-- one version more agrees
pub agree_on-push : (vs : List (Version × Digest)) (v : Version × Digest) (known : Slot → ℕ → Option Digest)
    → agree_on (vs ++ v ∷ []) known ≡ (agrees (learn_all vs known v.0.slot v.0.number) v.1 && agree_on vs known)
agree_on-push [] v known = refl
agree_on-push (x ∷ xs) v known =
    ap (λ b. agrees (known x.0.slot x.0.number) x.1 && b) (agree_on-push xs v (learn_one x known) ∙ and_swap _ (agree_on xs (learn_one x known)))
    ∙ and_assoc (agrees (known x.0.slot x.0.number) x.1) (agree_on xs (learn_one x known)) (agrees (learn_all (x ∷ xs) known v.0.slot v.0.number) v.1)
    ∙ and_swap _ (agrees (learn_all (x ∷ xs) known v.0.slot v.0.number) v.1)

-- what is stored under k, where a content was put there
put_at : (k q : Digest) (c : List ℕ) (st : Digest → Option (List ℕ)) (rest : Option (List ℕ)) (a b : Bool) → is_some (st k) ≡ a → digest_eq q k ≡ b
    → cond (is_some ((if is_some (st k) then st else keep k c st) q)) ((if is_some (st k) then st else keep k c st) q) rest ≡ cond (is_some (st q)) (st q) (cond (digest_eq q k) (Some c) rest)
put_at k q c st rest true true h e =
    let here : is_some (st q) ≡ true = ap (λ (d : Digest). is_some (st d)) (digest_exact q k e) ∙ h in
    rw (h, here) refl
put_at k q c st rest true false h e = rw (h, e) refl
put_at k q c st rest false true h e =
    let here : is_some (st q) ≡ false = ap (λ (d : Digest). is_some (st d)) (digest_exact q k e) ∙ h in
    rw (h, here, e) refl
put_at k q c st rest false false h e = rw (h, e) refl

some_or_none : (o : Option (List ℕ)) → o ≡ cond (is_some o) o None
some_or_none None = refl
some_or_none (Some c) = refl

-- contents that stand under their digests are stored as they stand
store_each_at : (es : List (Digest × List ℕ)) (st : Digest → Option (List ℕ)) (q : Digest) → list_all is_keyed es ≡ true
    → store_each (values_of es) st q ≡ cond (is_some (st q)) (st q) (lookup (digest_eq q) es)
store_each_at [] st q h = some_or_none (st q)
store_each_at (e ∷ es) st q h =
    let parts = and_parts (is_keyed e) (list_all is_keyed es) h in
    let same : e.0 ≡ content_digest e.1 = digest_exact e.0 (content_digest e.1) parts.0 in
    store_each_at es (store_one e.1 st) q parts.1
    ∙ put_at (content_digest e.1) q e.1 st (lookup (digest_eq q) es) _ _ refl refl
    ∙ ap (λ (d : Digest). cond (is_some (st q)) (st q) (cond (digest_eq q d) (Some e.1) (lookup (digest_eq q) es))) (sym same)

-- the empty content is stored from the start
empty_first : (k q : Digest) (es : List (Digest × List ℕ)) (b : Bool) → digest_eq q k ≡ b → lookup (digest_eq k) es ≡ Some []
    → cond (is_some (keep k [] (λ d. None) q)) (keep k [] (λ d. None) q) (lookup (digest_eq q) es) ≡ lookup (digest_eq q) es
empty_first k q es true e h = rw e (sym (ap (λ (d : Digest). lookup (digest_eq d) es) (digest_exact q k e) ∙ h))
empty_first k q es false e h = rw e refl

-- the contents of a map are stored as they stand
pub stored_are : {S : Type 0} (m : IndexMap Digest (List ℕ) S) → AreStored m.entries → store_each (values_of m.entries) (first_node content_digest).store ≡ store_in m
stored_are m h = fun_ext (λ q. store_each_at m.entries (first_node content_digest).store q h.keyed ∙ empty_first (content_digest []) q m.entries _ refl h.empty)

-- one content more stands under its digest
pub stored_more : {S : Type 0} (m n : IndexMap Digest (List ℕ) S) (d : Digest) (c : List ℕ) → AreStored m.entries → d ≡ content_digest c → is_some (store_in m d) ≡ false
    → n.entries ≡ insert_entry digest_eq m.entries d c → ((q : Digest) → get digest_eq n q ≡ cond (digest_eq d q) (Some c) (get digest_eq m q)) → AreStored n.entries
stored_more m n d c h is absent entries updated =
    let pushed : n.entries ≡ m.entries ++ (d, c) ∷ [] = entries ∙ insert_entry-new digest_eq m d c (some_or_none (store_in m d) ∙ ap (λ (b : Bool). cond b (store_in m d) None) absent) in
    let own : digest_eq d (content_digest c) ≡ true = ap (λ (z : Digest). digest_eq d z) (sym is) ∙ digest_eq-itself d in
    let keyed : list_all is_keyed (m.entries ++ (d, c) ∷ []) ≡ true = list_all-append is_keyed m.entries ((d, c) ∷ []) ∙ (λ j. h.keyed j && (own j && true)) in
    record {
      keyed = ap (list_all is_keyed) pushed ∙ keyed;
      empty = updated (content_digest []) ∙ other (digest_eq d (content_digest [])) refl;
    }
  where
    other : (b : Bool) → digest_eq d (content_digest []) ≡ b → cond b (Some c) (get digest_eq m (content_digest [])) ≡ Some []
    other true e = absurd (true≢false (sym (ap is_some (ap (λ (z : Digest). get digest_eq m z) (digest_exact d (content_digest []) e) ∙ h.empty)) ∙ absent))
    other false e = h.empty

-- what holds of all entries holds of those that are left without one
all_left : {K X : Type 0} (P : K × X → Type 0) (test : K → Bool) (es : List (K × X)) → All P es → All P (swap_remove_entry test es)
all_left P test [] h = h
all_left P test (e ∷ es) h = by (position test (keys_of (e ∷ es)))
  where
    by : (o : Option ℕ) → All P (option_map_or (λ i. swap_remove (e ∷ es) i e) o (e ∷ es))
    by None = h
    by (Some i) = All-take P (length (e ∷ es) - 1) _ (All-set P (e ∷ es) i _ (h (length (e ∷ es) - 1) e (omega arith)) h)

-- one content less
pub stored_less : {S : Type 0} (m n : IndexMap Digest (List ℕ) S) (d : Digest) → AreStored m.entries → d ≢ empty_digest
    → n.entries ≡ swap_remove_entry (digest_eq d) m.entries → ((q : Digest) → get digest_eq n q ≡ cond (digest_eq d q) None (get digest_eq m q)) → AreStored n.entries
unfolding empty_digest
stored_less m n d h other entries updated = record {
  keyed = ap (list_all is_keyed) entries ∙ list_all-from_AllPass is_keyed _ (all_left (λ e. is_keyed e ≡ true) (digest_eq d) m.entries (AllPass-from_list_all is_keyed m.entries h.keyed));
  empty = updated (content_digest []) ∙ apart (digest_eq d (content_digest [])) refl;
}
  where
    apart : (b : Bool) → digest_eq d (content_digest []) ≡ b → cond b None (get digest_eq m (content_digest [])) ≡ Some []
    apart true e = absurd (other (digest_exact d (content_digest []) e))
    apart false e = h.empty

-- the store of a map without one content
pub store_without : {S : Type 0} (m n : IndexMap Digest (List ℕ) S) (d : Digest) → ((q : Digest) → get digest_eq n q ≡ cond (digest_eq d q) None (get digest_eq m q)) → store_in n ≡ without d (store_in m)
store_without m n d updated = fun_ext (λ q. updated q ∙ ap (λ (b : Bool). cond b None (store_in m q)) (digest_eq-sym d q))

-- a content that isn't stored yet
pub store_one-new : (c : List ℕ) (st : Digest → Option (List ℕ)) → is_some (st (content_digest c)) ≡ false → store_one c st ≡ keep (content_digest c) c st
store_one-new c st h = rw h refl

-- `==` of versions is an equivalence
version_equivalence : IsEquivalence version_eq
version_equivalence = and_equiv (on_equiv (λ (v : Version). v.slot) slot_equivalence) (on_equiv (λ (v : Version). v.number) nat_eq_equiv)

-- what is learnt one after the other, as updates
learn_all-updates : (vs : List (Version × Digest)) (known : Slot → ℕ → Option Digest) (s : Slot) (k : ℕ)
    → learn_all vs known s k ≡ update_all version_eq (λ q. known q.slot q.number) vs (record { slot = s; number = k })
learn_all-updates [] known s k = refl
learn_all-updates (v ∷ vs) known s k =
    let one : (λ (q : Version). learn_one v known q.slot q.number) ≡ update version_eq (λ (q : Version). known q.slot q.number) v.0 (Some v.1) = fun_ext (λ q. sym (learn_here v.0 v.1 known q.slot q.number)) in
    learn_all-updates vs (learn_one v known) s k
    ∙ ap (λ (f : Version → Option Digest). update_all version_eq f vs (record { slot = s; number = k })) one

-- versions that stand once are known as they stand
pub known_are : {S : Type 0} (m : IndexMap Version Digest S) → IsDistinct version_eq (keys_of m.entries) → learn_all m.entries (first_node content_digest).known ≡ known_in m
known_are m h = fun_ext (λ s. fun_ext (λ k.
    learn_all-updates m.entries (first_node content_digest).known s k
    ∙ update_all_none version_equivalence version_eq (λ x y. refl) m.entries (record { slot = s; number = k }) h))

-- an empty map knows nothing
pub none_known : {S : Type 0} (m : IndexMap Version Digest S) → m.entries ≡ [] → known_in m ≡ (first_node content_digest).known
none_known m h = fun_ext (λ s. fun_ext (λ k. rw h refl))

-- versions that stand once have one digest each
pub distinct_have_one : (es : List (Version × Digest)) → IsDistinct version_eq (keys_of es) → HaveOneDigestEach es
distinct_have_one es h v d e p q = some_is d e (sym (lookup-from_Contains version_equivalence v d es h p) ∙ lookup-from_Contains version_equivalence v e es h q)

-- what is learnt of a version, the same or another
learnt_at : (x : Version × Digest) (known : Slot → ℕ → Option Digest) (v : Version) (b : Bool) → version_eq x.0 v ≡ b → learn_one x known v.slot v.number ≡ cond b (Some x.1) (known v.slot v.number)
learnt_at x known v b e = sym (learn_here x.0 x.1 known v.slot v.number) ∙ ap (λ (t : Bool). cond t (Some x.1) (known v.slot v.number)) e

agreed : (e d : Digest) → agrees (Some e) d ≡ true → e ≡ d
agreed e d h = digest_exact e d h

-- what is known stays so, where it agrees
learn_stays : (x : Version × Digest) (known : Slot → ℕ → Option Digest) (v : Version) (e : Digest) (b : Bool) → version_eq x.0 v ≡ b
    → agrees (known x.0.slot x.0.number) x.1 ≡ true → known v.slot v.number ≡ Some e → learn_one x known v.slot v.number ≡ Some e
learn_stays x known v e true same h p =
    let was : known x.0.slot x.0.number ≡ Some e = ap (λ (z : Version). known z.slot z.number) (version_exact x.0 v same) ∙ p in
    learnt_at x known v true same ∙ ap (λ (d : Digest). Some d) (sym (agreed e x.1 (ap (λ (o : Option Digest). agrees o x.1) (sym was) ∙ h)))
learn_stays x known v e false other h p = learnt_at x known v false other ∙ p

stays : (vs : List (Version × Digest)) (known : Slot → ℕ → Option Digest) (v : Version) (e : Digest) → agree_on vs known ≡ true → known v.slot v.number ≡ Some e → learn_all vs known v.slot v.number ≡ Some e
stays [] known v e h p = p
stays (x ∷ xs) known v e h p =
    let parts = and_parts (agrees (known x.0.slot x.0.number) x.1) (agree_on xs (learn_one x known)) h in
    stays xs (learn_one x known) v e parts.1 (learn_stays x known v e (version_eq x.0 v) refl parts.0 p)

-- each version that agrees is known by its digest in the end
learnt : (vs : List (Version × Digest)) (known : Slot → ℕ → Option Digest) (v : Version) (d : Digest) → agree_on vs known ≡ true → Contains vs (v, d) → learn_all vs known v.slot v.number ≡ Some d
learnt [] known v d h c = absurd (omega (arith, c.1))
learnt (x ∷ xs) known v d h c =
    let parts = and_parts (agrees (known x.0.slot x.0.number) x.1) (agree_on xs (learn_one x known)) h in
    let own : learn_one x known x.0.slot x.0.number ≡ Some x.1 = learnt_at x known x.0 true (version_eq-itself x.0) in
    elim (Contains-cases x xs (v, d) c) [
      | inl is ↦ stays xs (learn_one x known) v d parts.1 (subst (λ (z : Version × Digest). learn_one x known z.0.slot z.0.number ≡ Some z.1) is own)
      | inr rest ↦ learnt xs (learn_one x known) v d parts.1 rest
    ]

pub agree_have_one : (vs : List (Version × Digest)) → agree_on vs (first_node content_digest).known ≡ true → HaveOneDigestEach vs
agree_have_one vs h v d e p q = some_is d e (sym (learnt vs (first_node content_digest).known v d h p) ∙ learnt vs (first_node content_digest).known v e h q)

-- where a digest doesn't agree another one is known
disagrees : (o : Option Digest) (d : Digest) → agrees o d ≡ false → (e : Digest) × (o ≡ Some e) × (digest_eq e d ≡ false)
disagrees None d h = absurd (true≢false h)
disagrees (Some e) d h = (e, refl, h)

one_each : (vs : List (Version × Digest)) (known : Slot → ℕ → Option Digest) → agree_on vs known ≡ false → HaveOneDigestEach vs
    → ((v : Version) (d e : Digest) → Contains vs (v, d) → known v.slot v.number ≡ Some e → e ≡ d) → ⊥
one_each [] known h one old = true≢false h
one_each (x ∷ xs) known h one old = by_head (agrees (known x.0.slot x.0.number) x.1) refl (λ g.
    one_each xs (learn_one x known) g (λ v d f p q. one v d f (Contains-tail x xs (v, d) p) (Contains-tail x xs (v, f) q)) (λ v d f c k. later v d f (version_eq x.0 v) refl c k))
  where
    later : (v : Version) (d e : Digest) (b : Bool) → version_eq x.0 v ≡ b → Contains xs (v, d) → learn_one x known v.slot v.number ≡ Some e → e ≡ d
    later v d e true same c k =
        let is : x.1 ≡ e = some_is x.1 e (sym (learnt_at x known v true same) ∙ k) in
        let here : Contains (x ∷ xs) (v, x.1) = subst (λ (z : Version). Contains (x ∷ xs) (z, x.1)) (version_exact x.0 v same) (Contains-head x xs) in
        sym is ∙ one v x.1 d here (Contains-tail x xs (v, d) c)
    later v d e false other c k = old v d e (Contains-tail x xs (v, d) c) (sym (learnt_at x known v false other) ∙ k)

    by_head : (b : Bool) → agrees (known x.0.slot x.0.number) x.1 ≡ b → (agree_on xs (learn_one x known) ≡ false → ⊥) → ⊥
    by_head true e rest = rest (sym (ap (λ (b : Bool). b && agree_on xs (learn_one x known)) e) ∙ h)
    by_head false e rest =
        let other = disagrees (known x.0.slot x.0.number) x.1 e in
        let is : other.0 ≡ x.1 = old x.0 x.1 other.0 (Contains-head x xs) other.1 in
        true≢false (sym (ap (λ (d : Digest). digest_eq d x.1) is ∙ digest_eq-itself x.1) ∙ other.2)

pub disagree_have_two : (vs : List (Version × Digest)) → agree_on vs (first_node content_digest).known ≡ false → HaveOneDigestEach vs → ⊥
disagree_have_two vs h one = one_each vs (first_node content_digest).known h one (λ v d e c k. absurd (true≢false (sym (ap is_some k))))

-- one version more was looked at
pub agrees_more : (vs : List (Version × Digest)) (v : Version × Digest) (old now : Slot → ℕ → Option Digest) (b r : Bool) → now ≡ learn_all vs old → r ≡ agrees (now v.0.slot v.0.number) v.1 → b ≡ agree_on vs old
    → (r && b) ≡ agree_on (vs ++ v ∷ []) old
agrees_more vs v old now b r e f g =
    (λ j. f j && g j) ∙ ap (λ (k : Slot → ℕ → Option Digest). agrees (k v.0.slot v.0.number) v.1 && agree_on vs old) e ∙ sym (agree_on-push vs v old)

keyed_step : (k d : Digest) (x c : List ℕ) (rest : Option (List ℕ)) (b : Bool) → digest_eq d k ≡ b → digest_eq k (content_digest x) ≡ true → (rest ≡ Some c → content_digest c ≡ d)
    → cond b (Some x) rest ≡ Some c → content_digest c ≡ d
keyed_step k d x c rest true e keyed others found =
    let same : x ≡ c = some_is x c found in
    ap content_digest (sym same) ∙ sym (digest_exact k (content_digest x) keyed) ∙ sym (digest_exact d k e)
keyed_step k d x c rest false e keyed others found = others found

-- what is found under a digest has that digest
pub keyed_at : (es : List (Digest × List ℕ)) (d : Digest) (c : List ℕ) → list_all is_keyed es ≡ true → lookup (digest_eq d) es ≡ Some c → content_digest c ≡ d
keyed_at [] d c h found = absurd (cc)
keyed_at (e ∷ es) d c h found =
    let parts = and_parts (is_keyed e) (list_all is_keyed es) h in
    keyed_step e.0 d e.1 c (lookup (digest_eq d) es) (digest_eq d e.0) refl parts.0 (keyed_at es d c parts.1) found

-- what is found has the digest under which it is found
pub found_keyed : {S : Type 0} (m : IndexMap Digest (List ℕ) S) (d : Digest) (o : Option (Bor (List ℕ))) → AreStored m.entries → option_copied o ≡ store_in m d → IfSome o (λ content. content_digest content.now ≡ d)
found_keyed m d None h found = tt
found_keyed m d (Some c) h found = keyed_at m.entries d c.now h.keyed (sym found)
