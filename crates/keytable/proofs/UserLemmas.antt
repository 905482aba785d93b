-- The lists of those that take the outputs of a key.
use Rattle.std.proofs.Common.{◌≡◌, ℕ, zero, suc, ◌+◌, ◌-◌, ◌<◌, ◌≤◌, inl, inr, List, [], ◌∷◌, ◌++◌, map, length, take, set, replicate, get_or, Option, Some, None, Result, Ok, is_ok, if◌then◌else◌, slice_get, refl, ap, sym, ◌∙◌, subst, arith, append_assoc}
use Rattle.std.specs.List.{Contains, IsDistinct}
use Rattle.std.specs.declared.alloc.Global.{Global}
use Rattle.std.specs.declared.vec.Vec.{Vec}
use Rattle.std.proofs.lemmas.Bool.{cases_eq, cases_lt}
use Rattle.std.proofs.lemmas.List.{length-set, length-append, length-replicate, length_push, take_all, get_or_append_left, get_or_push, get_or_past, get_or-set_same, get_or-set_other, get_or_default}
use Rattle.std.proofs.lemmas.List.Elements.{Contains-append_left, Contains-push, Contains-get_or}
use Rattle.std.proofs.lemmas.Option.{slice_get_within, slice_get-get_or, slice_get_read}
use Rattle.names.specs.declared.digest.Key.{Key}
use Rattle.lists.proofs.Places.{some_is, at_Contains, get_push_cases, get_front}
use Rattle.keytable.specs.declared.entry.Entry.{Entry}
use Rattle.keytable.specs.declared.users.Link.{Link}
use Rattle.keytable.specs.declared.users.Users.{Users}
use Rattle.keytable.specs.Adding.{BeginsWith}
use Rattle.keytable.specs.Tables.{key_eq, key_of}
use Rattle.keytable.specs.Users.{IsUser, IsInput, IsFrom, IsLast, no_link, a_link, AreLinked, AreInputs, IsNoted, AreUsers, IsSameUsers}
use Rattle.keytable.proofs.TableLemmas.{one_number}

-- ---- a list that grows

pub get_back : {X : Type 0} (xs ys : List X) (n : ℕ) (y : X) → n < length xs → slice_get (xs ++ ys) n ≡ Some y → slice_get xs n ≡ Some y
get_back [] ys n y less e = absurd (omega (arith, less))
get_back (x ∷ xs) ys zero y less e = e
get_back (x ∷ xs) ys (suc n) y less e = get_back xs ys n y (omega (arith, less)) e

module _ (old new : List Link) (front : BeginsWith old new) where
  front_at : (n : ℕ) (link : Link) → slice_get old n ≡ Some link → slice_get new n ≡ Some link
  front_at n link at = ap (λ (xs : List Link). slice_get xs n) front.1 ∙ get_front old front.0 n link at

  back_at : (n : ℕ) (link : Link) → n < length old → slice_get new n ≡ Some link → slice_get old n ≡ Some link
  back_at n link less at = get_back old front.0 n link less (ap (λ (xs : List Link). slice_get xs n) (sym front.1) ∙ at)

  pub front_longer : length old ≤ length new
  front_longer = let a = ap length front.1 in let b = length-append old front.0 in omega (arith, a, b)

  pub front_contains : (link : Link) → Contains old link → Contains new link
  front_contains link c = subst (λ (xs : List Link). Contains xs link) (sym front.1) (Contains-append_left old front.0 link c)

  from_front : (source p : ℕ) → IsFrom old source p → IsFrom new source p
  from_front source p f = record { link = f.link; at = front_at p f.link f.at; named = f.named }

  from_back : (source p : ℕ) → p < length old → IsFrom new source p → IsFrom old source p
  from_back source p less f = record { link = f.link; at = back_at p f.link less f.at; named = f.named }

  last_front : (source bound : ℕ) (last : Option ℕ) → bound ≤ length old → IsLast old source bound last → IsLast new source bound last
  last_front source bound last within (no_link is never) = no_link is (λ p less f. never p less (from_back source p (omega (arith, less, within)) f))
  last_front source bound last within (a_link place is less f greatest) = a_link place is less (from_front source place f)
      (λ other below g. greatest other below (from_back source other (omega (arith, below, within)) g))

-- ---- more keys

none_there : (k s : ℕ) → get_or {A = Option ℕ} (replicate k None) s None ≡ None
none_there zero s = refl
none_there (suc k) zero = refl
none_there (suc k) (suc s) = none_there k s

lasts_more : (xs : List (Option ℕ)) (k s : ℕ) → get_or (xs ++ replicate k None) s None ≡ get_or xs s None
lasts_more [] k s = none_there k s
lasts_more (x ∷ xs) k zero = refl
lasts_more (x ∷ xs) k (suc s) = lasts_more xs k s

pub linked_grown : (u v : Users) (n : ℕ) → AreLinked u → BeginsWith u.links.items v.links.items → v.befores.items ≡ u.befores.items → length u.lasts.items ≤ n
    → v.lasts.items ≡ take n u.lasts.items ++ replicate (n - length u.lasts.items) None → AreLinked v
linked_grown u v n h front befores more lasts =
    let count : length v.befores.items ≡ length u.befores.items = ap length befores in
    let lasts_is : v.lasts.items ≡ u.lasts.items ++ replicate (n - length u.lasts.items) None = lasts ∙ ap (λ (xs : List (Option ℕ)). xs ++ replicate (n - length u.lasts.items) None) (take_all n u.lasts.items more) in
    let size : length v.lasts.items ≡ n = (let a = ap length lasts_is in let b = length-append u.lasts.items (replicate (n - length u.lasts.items) None) in let r = length-replicate {A = Option ℕ} (n - length u.lasts.items) None in omega (arith, a, b, r, more)) in
    let longer = front_longer u.links.items v.links.items front in
    let back : (place : ℕ) (link : Link) → place < length v.befores.items → slice_get v.links.items place ≡ Some link → slice_get u.links.items place ≡ Some link
    = λ place link less at. back_at u.links.items v.links.items front place link (let w = h.within in omega (arith, less, w, count)) at in
    let short : (place : ℕ) → place < length v.befores.items → place < length u.befores.items = λ place less. omega (arith, less, count) in
    record {
      within = let w = h.within in omega (arith, w, count, longer);
      sources = λ place link less at. (let s = h.sources place link (short place less) (back place link less at) in omega (arith, s, more, size));
      befores = λ place link less at.
          let was = h.befores place link (short place less) (back place link less at) in
          let w = h.within in
          subst (λ (xs : List (Option ℕ)). IsLast v.links.items link.source place (get_or xs place None)) (sym befores)
          (last_front u.links.items v.links.items front link.source place (get_or u.befores.items place None) (let s = short place less in omega (arith, s, w)) was);
      lasts = λ source less.
          let same : get_or v.lasts.items source None ≡ get_or u.lasts.items source None = ap (λ (xs : List (Option ℕ)). get_or xs source None) lasts_is ∙ lasts_more u.lasts.items (n - length u.lasts.items) source in
          elim (cases_lt source (length u.lasts.items)) [
            | inl old ↦ subst (λ (last : Option ℕ). IsLast v.links.items source (length v.befores.items) last) (sym same)
                (subst (λ (m : ℕ). IsLast v.links.items source m (get_or u.lasts.items source None)) (sym count)
                (last_front u.links.items v.links.items front source (length u.befores.items) (get_or u.lasts.items source None) h.within (h.lasts source old)))
            | inr past ↦ no_link (same ∙ get_or_past u.lasts.items source None past)
                (λ p below f. let s = h.sources p f.link (short p below) (back p f.link below f.at) in let named = f.named in omega (arith, s, past, named))
          ];
    }

-- ---- one more link

-- a bound that passes a link with another source
last_passes : (links : List Link) (source n : ℕ) (link : Link) (last : Option ℕ) → slice_get links n ≡ Some link → (source ≡ link.source → ⊥) → IsLast links source n last → IsLast links source (n + 1) last
last_passes links source n link last at apart (no_link is never) = no_link is (λ p less f. elim (cases_eq p n) [
  | inl same ↦ (let one : link ≡ f.link = some_is link f.link (sym at ∙ ap (slice_get links) (sym same) ∙ f.at) in apart (sym f.named ∙ ap (λ (x : Link). x.source) (sym one)))
  | inr other ↦ never p (omega (arith, less, other)) f
])
last_passes links source n link last at apart (a_link place is less f greatest) = a_link place is (omega (arith, less)) f (λ p below g. elim (cases_eq p n) [
  | inl same ↦ (let one : link ≡ g.link = some_is link g.link (sym at ∙ ap (slice_get links) (sym same) ∙ g.at) in absurd (apart (sym g.named ∙ ap (λ (x : Link). x.source) (sym one))))
  | inr other ↦ greatest p (omega (arith, below, other)) g
])

pub linked_next : (u v : Users) (link : Link) (n : ℕ) → AreLinked u → n ≡ length u.befores.items → slice_get u.links.items n ≡ Some link → link.source < length u.lasts.items → v.links.items ≡ u.links.items
    → v.befores.items ≡ u.befores.items ++ get_or u.lasts.items link.source None ∷ [] → v.lasts.items ≡ set u.lasts.items link.source (Some n) → AreLinked v
linked_next u v link n h n_is at source_within links befores lasts =
    let count : length v.befores.items ≡ length u.befores.items + 1 = ap length befores ∙ length_push u.befores.items (get_or u.lasts.items link.source None) in
    let size : length v.lasts.items ≡ length u.lasts.items = ap length lasts ∙ length-set u.lasts.items link.source (Some n) in
    let within : n < length u.links.items = slice_get_within u.links.items n link at in
    let at_old : (place : ℕ) (x : Link) → slice_get v.links.items place ≡ Some x → slice_get u.links.items place ≡ Some x = λ place x e. ap (λ (xs : List Link). slice_get xs place) (sym links) ∙ e in
    let here : (x : Link) → slice_get v.links.items n ≡ Some x → link ≡ x = λ x e. some_is link x (sym at ∙ at_old n x e) in
    record {
      within = let len = ap length links in omega (arith, count, n_is, within, len);
      sources = λ place x less e. elim (cases_eq place n) [
        | inl same ↦ (let one = here x (subst (λ m. slice_get v.links.items m ≡ Some x) same e) in let s : x.source < length u.lasts.items = subst (λ (y : Link). y.source < length u.lasts.items) one source_within in omega (arith, s, size))
        | inr other ↦ (let s = h.sources place x (omega (arith, less, count, n_is, other)) (at_old place x e) in omega (arith, s, size))
      ];
      befores = λ place x less e. elim (cases_eq place n) [
        | inl same ↦ (let one = here x (subst (λ m. slice_get v.links.items m ≡ Some x) same e) in
            let was : IsLast u.links.items link.source n (get_or u.lasts.items link.source None) = subst (λ m. IsLast u.links.items link.source m (get_or u.lasts.items link.source None)) (sym n_is) (h.lasts link.source source_within) in
            let read : get_or v.befores.items n None ≡ get_or u.lasts.items link.source None = ap (λ (xs : List (Option ℕ)). get_or xs n None) befores ∙ get_or_push u.befores.items (get_or u.lasts.items link.source None) None n (sym n_is) in
            subst (λ m. IsLast v.links.items x.source m (get_or v.befores.items m None)) (sym same)
            (subst (λ (y : Link). IsLast v.links.items y.source n (get_or v.befores.items n None)) one
            (subst (λ (r : Option ℕ). IsLast v.links.items link.source n r) (sym read) (subst (λ (xs : List Link). IsLast xs link.source n (get_or u.lasts.items link.source None)) (sym links) was))))
        | inr other ↦ (let short : place < length u.befores.items = omega (arith, less, count, n_is, other) in
            let was = h.befores place x short (at_old place x e) in
            let read : get_or v.befores.items place None ≡ get_or u.befores.items place None = ap (λ (xs : List (Option ℕ)). get_or xs place None) befores
            ∙ get_or_append_left u.befores.items (get_or u.lasts.items link.source None ∷ []) None place short in
            subst (λ (r : Option ℕ). IsLast v.links.items x.source place r) (sym read) (subst (λ (xs : List Link). IsLast xs x.source place (get_or u.befores.items place None)) (sym links) was))
      ];
      lasts = λ source less.
          let count_is : length v.befores.items ≡ n + 1 = omega (arith, count, n_is) in
          subst (λ m. IsLast v.links.items source m (get_or v.lasts.items source None)) (sym count_is) (elim (cases_eq source link.source) [
            | inl same ↦ (let read : get_or v.lasts.items source None ≡ Some n = ap (λ (xs : List (Option ℕ)). get_or xs source None) lasts ∙ ap (λ m. get_or (set u.lasts.items link.source (Some n)) m None) same ∙ get_or-set_same u.lasts.items link.source (Some n) None source_within in
                a_link n read (omega arith) (record { link = link; at = ap (λ (xs : List Link). slice_get xs n) links ∙ at; named = sym same }) (λ p below f. omega (arith, below)))
            | inr apart ↦ (let read : get_or v.lasts.items source None ≡ get_or u.lasts.items source None = ap (λ (xs : List (Option ℕ)). get_or xs source None) lasts ∙ get_or-set_other u.lasts.items link.source source (Some n) None apart in
                let was : IsLast u.links.items source n (get_or u.lasts.items source None) = subst (λ m. IsLast u.links.items source m (get_or u.lasts.items source None)) (sym n_is) (h.lasts source (omega (arith, less, size))) in
                subst (λ (r : Option ℕ). IsLast v.links.items source (n + 1) r) (sym read) (subst (λ (xs : List Link). IsLast xs source (n + 1) (get_or u.lasts.items source None)) (sym links)
                (last_passes u.links.items source n link (get_or u.lasts.items source None) at apart was)))
          ]);
    }

-- ---- a walk along one list

-- what holds of each link with this source but for those that are still to come
pub record IsWalking (links : List Link) (source : ℕ) (done : Link → Type 0) (place : Option ℕ) : Type 0 where
  pub bound : ℕ
  pub last : IsLast links source bound place
  pub all : (p : ℕ) (link : Link) → bound ≤ p → slice_get links p ≡ Some link → link.source ≡ source → done link

module _ (links : List Link) (source : ℕ) where
  pub walk_first : (done : Link → Type 0) (bound : ℕ) (place : Option ℕ) → bound ≡ length links → IsLast links source bound place → IsWalking links source done place
  walk_first done bound place is last = record {
    bound = bound;
    last = last;
    all = λ p link past at named. absurd (let less = slice_get_within links p link at in omega (arith, less, past, is));
  }

  pub walk_more : (done now : Link → Type 0) (place : Option ℕ) → ((link : Link) → done link → now link) → IsWalking links source done place → IsWalking links source now place
  walk_more done now place more w = record { bound = w.bound; last = w.last; all = λ p link past at named. more link (w.all p link past at named) }

  -- the link at a place
  pub walk_at : (done : Link → Type 0) (p : ℕ) (place : Option ℕ) → place ≡ Some p → IsWalking links source done place → IsFrom links source p
  walk_at done p place is w = here w.last
    where
      here : IsLast links source w.bound place → IsFrom links source p
      here (no_link none never) = absurd (let bad : ◌≡◌ {A = Option ℕ} None (Some p) = sym none ∙ is in cc bad)
      here (a_link q at less f greatest) = subst (IsFrom links source) (let same : ◌≡◌ {A = Option ℕ} (Some q) (Some p) = sym at ∙ is in cc same) f

  pub walk_step : (done : Link → Type 0) (p : ℕ) (place next : Option ℕ) (link : Link) → place ≡ Some p → slice_get links p ≡ Some link → IsLast links link.source p next → done link
      → IsWalking links source done place → IsWalking links source done next
  walk_step done p place next link is at last here w = step w.last
    where
      step : IsLast links source w.bound place → IsWalking links source done next
      step (no_link none never) = absurd (let bad : ◌≡◌ {A = Option ℕ} None (Some p) = sym none ∙ is in cc bad)
      step (a_link q q_is less f greatest) =
          let same : q ≡ p = (let both : ◌≡◌ {A = Option ℕ} (Some q) (Some p) = sym q_is ∙ is in cc both) in
          let one : f.link ≡ link = some_is f.link link (sym f.at ∙ ap (slice_get links) same ∙ at) in
          let from : link.source ≡ source = ap (λ (x : Link). x.source) (sym one) ∙ f.named in
          record {
            bound = p;
            last = subst (λ s. IsLast links s p next) from last;
            all = λ m x past there named. elim (cases_eq m p) [
              | inl is_here ↦ subst done (some_is link x (sym at ∙ ap (slice_get links) (sym is_here) ∙ there)) here
              | inr apart ↦ elim (cases_lt m w.bound) [
                | inl below ↦ absurd (let low = greatest m below (record { link = x; at = there; named = named }) in omega (arith, low, same, past, apart))
                | inr beyond ↦ w.all m x beyond there named
              ]
            ];
          }

  pub walk_last : (done : Link → Type 0) (place : Option ℕ) → place ≡ None → IsWalking links source done place → (p : ℕ) (link : Link) → slice_get links p ≡ Some link → link.source ≡ source → done link
  walk_last done place is w p link at named = last w.last
    where
      last : IsLast links source w.bound place → done link
      last (a_link q q_is less f greatest) = absurd (let bad : ◌≡◌ {A = Option ℕ} (Some q) None = sym q_is ∙ is in cc bad)
      last (no_link none never) = elim (cases_lt p w.bound) [
        | inl below ↦ absurd (never p below (record { link = link; at = at; named = named }))
        | inr beyond ↦ w.all p link beyond at named
      ]

-- ---- inputs are noted

module _ (es : List Entry) (items : List (Key × ℕ)) (user : ℕ) where
  -- the first inputs have their links
  abbrev pub NotedBelow : List Link → ℕ → Type 0
  NotedBelow links count = (k : ℕ) (input : Key × ℕ) → k < count → slice_get items k ≡ Some input → (source : ℕ) (other : Entry) → slice_get es source ≡ Some other → other.key ≡ input.0
      → Contains links (record { source = source; index = input.1; user = user })

  pub note_more : IsDistinct key_eq (map key_of es) → (k : ℕ) (d : Key × ℕ) (links : List Link) (source : ℕ) (x : Entry) → k < length items → slice_get es source ≡ Some x → x.key ≡ (get_or items k d).0
      → NotedBelow links k → NotedBelow (links ++ record { source = source; index = (get_or items k d).1; user = user } ∷ []) (k + 1)
  note_more unique k d links source x within there named below j input less at s other here key = elim (cases_eq j k) [
    | inl same ↦ (let one : get_or items k d ≡ input = some_is (get_or items k d) input (sym (slice_get-get_or items k d within) ∙ ap (slice_get items) (sym same) ∙ at) in
        let source_is : source ≡ s = one_number es unique source s x other there here (named ∙ ap (λ (i : Key × ℕ). i.0) one ∙ sym key) in
        let link_is : ◌≡◌ {A = Link} (record { source = source; index = (get_or items k d).1; user = user }) (record { source = s; index = input.1; user = user }) = cc (source_is, one) in
        subst (Contains (links ++ record { source = source; index = (get_or items k d).1; user = user } ∷ [])) link_is (Contains-push links (record { source = source; index = (get_or items k d).1; user = user })))
    | inr apart ↦ Contains-append_left links (record { source = source; index = (get_or items k d).1; user = user } ∷ []) (record { source = s; index = input.1; user = user })
        (below j input (omega (arith, less, apart)) at s other here key)
  ]

  pub note_passes : (k : ℕ) (d : Key × ℕ) (links : List Link) → k < length items → ((number : ℕ) (entry : Entry) → slice_get es number ≡ Some entry → entry.key ≡ (get_or items k d).0 → ⊥) → NotedBelow links k → NotedBelow links (k + 1)
  note_passes k d links within none below j input less at s other here key = elim (cases_eq j k) [
    | inl same ↦ (let one : get_or items k d ≡ input = some_is (get_or items k d) input (sym (slice_get-get_or items k d within) ∙ ap (slice_get items) (sym same) ∙ at) in
        absurd (none s other here (key ∙ ap (λ (i : Key × ℕ). i.0) (sym one))))
    | inr apart ↦ below j input (omega (arith, less, apart)) at s other here key
  ]

  pub note_all_there : (links : List Link) (k : ℕ) (e : Entry) → slice_get es user ≡ Some e → items ≡ e.inputs → length items ≤ k → NotedBelow links k → IsNoted es links user
  note_all_there links k e here is past below entry input at has source other there key =
      let one = some_is entry e (sym at ∙ here) in
      let place = at_Contains items input (subst (λ (xs : List (Key × ℕ)). Contains xs input) (ap (λ (x : Entry). x.inputs) one ∙ sym is) has) in
      below place.0 input (let less = slice_get_within items place.0 input place.1 in omega (arith, less, past)) place.1 source other there key

  pub inputs_more : (k : ℕ) (d : Key × ℕ) (links : List Link) (e : Entry) (source : ℕ) (x : Entry) → k < length items → slice_get es user ≡ Some e → items ≡ e.inputs → slice_get es source ≡ Some x → x.key ≡ (get_or items k d).0
      → AreInputs es links → AreInputs es (links ++ record { source = source; index = (get_or items k d).1; user = user } ∷ [])
  inputs_more k d links e source x within here is there named before place link at = elim (get_push_cases links (record { source = source; index = (get_or items k d).1; user = user }) place link at) [
    | inl old ↦ before place link old.1
    | inr last ↦ subst (IsInput es) last.1 (record {
      user = record {
        entry = e;
        at = here;
        of = x;
        of_at = there;
        input = get_or items k d;
        has = subst (λ (xs : List (Key × ℕ)). Contains xs (get_or items k d)) is (Contains-get_or items k d within);
        named = named;
      };
      index = refl;
    })
  ]

pub noted_front : (es : List Entry) (old new : List Link) (n : ℕ) → BeginsWith old new → IsNoted es old n → IsNoted es new n
noted_front es old new n front h entry input at has source other there key = front_contains old new front (record { source = source; index = input.1; user = n }) (h entry input at has source other there key)

pub source_within : (es : List Entry) (links : List Link) → AreInputs es links → (place : ℕ) (link : Link) → slice_get links place ≡ Some link → link.source < length es
source_within es links h place link at = let i = (h place link at).user in slice_get_within es link.source i.of i.of_at

pub front_push : (first old new : List Link) (link : Link) → BeginsWith first old → new ≡ old ++ link ∷ [] → BeginsWith first new
front_push first old new link front is = (front.0 ++ link ∷ [], is ∙ ap (λ (xs : List Link). xs ++ link ∷ []) front.1 ∙ append_assoc first front.0 (link ∷ []))

pub front_front : (one two three : List Link) → BeginsWith one two → BeginsWith two three → BeginsWith one three
front_front one two three h k = (h.0 ++ k.0, k.1 ∙ ap (λ (xs : List Link). xs ++ k.0) h.1 ∙ append_assoc one h.0 k.0)

-- what a push that was done leaves
pub pushed : {X E : Type 0} (old new : List X) (x y : X) (r : Result (Unit {0}) E) (u : Unit {0}) → new ≡ (if is_ok r then old ++ x ∷ [] else old) → r ≡ Ok u → x ≡ y → new ≡ old ++ y ∷ []
pushed old new x y r u is done same = is ∙ ap (λ (s : Result (Unit {0}) _). if is_ok s then old ++ x ∷ [] else old) done ∙ ap (λ z. old ++ z ∷ []) same

-- what a resize that was done leaves
pub resized : (v w : Vec (Option ℕ) Global) (new : List (Option ℕ)) (n : ℕ) → v ≡ w → new ≡ take n v.items ++ replicate (n - v.len) None → new ≡ take n w.items ++ replicate (n - length w.items) None
resized v w new n same is = is ∙ ap (λ (x : Vec (Option ℕ) Global). take n x.items ++ replicate (n - x.len) None) same ∙ ap (λ k. take n w.items ++ replicate (n - k) None) w.ok.0

-- how many steps of a walk are left at most
abbrev pub steps_left : Option ℕ → ℕ
steps_left None = 0
steps_left (Some place) = place + 1

pub last_below : (links : List Link) (source p : ℕ) (next : Option ℕ) → IsLast links source p next → steps_left next < p + 1
last_below links source p next (no_link none never) = (let is = ap steps_left none in omega (arith, is))
last_below links source p next (a_link q q_is less f greatest) = (let is = ap steps_left q_is in omega (arith, is, less))

-- lists that are the same hold the same
pub users_same : (es : List Entry) (u v : Users) → IsSameUsers u v → AreUsers es u → AreUsers es v
users_same es u v s h = record {
  linked = record {
    within = let w = h.linked.within in let b = ap length s.befores in let l = ap length s.links in omega (arith, w, b, l);
    sources = λ place link less at. let x = h.linked.sources place link (let b = ap length s.befores in omega (arith, less, b)) (at_old place link at) in let l = ap length s.lasts in omega (arith, x, l);
    befores = λ place link less at. subst (λ (xs : List (Option ℕ)). IsLast v.links.items link.source place (get_or xs place None)) (sym s.befores)
        (subst (λ (xs : List Link). IsLast xs link.source place (get_or u.befores.items place None)) (sym s.links)
        (h.linked.befores place link (let b = ap length s.befores in omega (arith, less, b)) (at_old place link at)));
    lasts = λ source less. subst (λ (xs : List (Option ℕ)). IsLast v.links.items source (length xs) (get_or v.lasts.items source None)) (sym s.befores)
        (subst (λ (xs : List (Option ℕ)). IsLast v.links.items source (length u.befores.items) (get_or xs source None)) (sym s.lasts)
        (subst (λ (xs : List Link). IsLast xs source (length u.befores.items) (get_or u.lasts.items source None)) (sym s.links)
        (h.linked.lasts source (let l = ap length s.lasts in omega (arith, less, l)))));
  };
  all = ap length s.befores ∙ h.all ∙ sym (ap length s.links);
  inputs = λ place link at. h.inputs place link (at_old place link at);
  noted = λ n less. subst (λ (xs : List Link). IsNoted es xs n) (sym s.links) (h.noted n (let l = ap length s.lasts in omega (arith, less, l)));
}
  where
    at_old : (place : ℕ) (link : Link) → slice_get v.links.items place ≡ Some link → slice_get u.links.items place ≡ Some link
    at_old place link at = ap (λ (xs : List Link). slice_get xs place) (sym s.links) ∙ at

-- ---- the steps of a walk

pub place_within : (links : List Link) (source : ℕ) (done : Link → Type 0) (p : ℕ) (place : Option ℕ) → place ≡ Some p → IsWalking links source done place → p < length links
place_within links source done p place is w = let f = walk_at links source done p place is w in slice_get_within links p f.link f.at

pub link_there : (links : List Link) (p : ℕ) (link : Link) → p < length links → link ≡ get_or links p link → slice_get links p ≡ Some link
link_there links p link within read = slice_get_read links (length links) p link refl within read

pub user_within : (es : List Entry) (u : Users) → AreUsers es u → (p : ℕ) (link : Link) → slice_get u.links.items p ≡ Some link → link.user < length es
user_within es u h p link at = let i = (h.inputs p link at).user in slice_get_within es link.user i.entry i.at

-- the place before a link
pub before_is : (u : Users) → AreLinked u → length u.befores.items ≡ length u.links.items → (p : ℕ) (link : Link) (next : Option ℕ) → slice_get u.links.items p ≡ Some link → next ≡ get_or u.befores.items p next → IsLast u.links.items link.source p next
before_is u h all p link next at read =
    let less : p < length u.befores.items = (let within = slice_get_within u.links.items p link at in omega (arith, within, all)) in
    let is : next ≡ get_or u.befores.items p None = read ∙ get_or_default u.befores.items p next None less in
    subst (λ (x : Option ℕ). IsLast u.links.items link.source p x) (sym is) (h.befores p link less at)

-- what holds of each link with this source holds for each user of its key
pub user_done : (es : List Entry) (u : Users) (m n : ℕ) (done : Link → Type 0) → AreUsers es u → length u.lasts.items ≡ length es → (user : IsUser es m n)
    → ((p : ℕ) (link : Link) → slice_get u.links.items p ≡ Some link → link.source ≡ n → done link) → done (record { source = n; index = user.input.1; user = m })
user_done es u m n done h count user all =
    let within = slice_get_within es m user.entry user.at in
    let c = h.noted m (omega (arith, within, count)) user.entry user.input user.at user.has n user.of user.of_at user.named in
    let p = at_Contains u.links.items (record { source = n; index = user.input.1; user = m }) c in
    all p.0 (record { source = n; index = user.input.1; user = m }) p.1 refl
