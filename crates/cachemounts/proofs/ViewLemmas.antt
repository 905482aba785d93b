-- One more view.
use Rattle.std.proofs.Common.{◌≡◌, ℕ, zero, suc, ◌+◌, ◌<◌, inl, inr, List, [], ◌∷◌, ◌++◌, length, take, Some, refl, sym, ◌∙◌, subst, arith}
use Rattle.std.specs.List.{Contains, slice_get}
use Rattle.std.specs.List.Sorted.{IsStrictlyIncreasing}
use Rattle.std.proofs.lemmas.List.{map_push, length-take-le}
use Rattle.std.proofs.lemmas.List.Elements.{Contains-push, Contains-push_cases, Contains-append_left}
use Rattle.std.proofs.lemmas.Option.{slice_get_within}
use Rattle.names.specs.declared.folder.Base.{Base}
use Rattle.farm_base.specs.declared.want.Want.{Want}
use Rattle.opsproto.specs.Scalars.{Text}
use Rattle.opsproto.specs.declared.exec.Mount.{Mount}
use Rattle.lists.proofs.Places.{take_push, get_push_cases, get_push_left, get_push_end}
use Rattle.lists.proofs.Rising.{rising_push}
use Rattle.vertices.specs.OpChecks.{IsCache}
use Rattle.cachemounts.specs.CacheFolders.{HasFolder}
use Rattle.cachemounts.specs.CacheViews.{IsView, AreViewsOf, mount_places}
use Rattle.cachemounts.specs.declared.viewing.CacheView.{CacheView}

-- a place is that of a view
place_view : (views : List CacheView) (x : ℕ) → Contains (mount_places views) x → (view : CacheView) × Contains views view × (view.mount ≡ x)
place_view [] x (k, less, is) = absurd (omega arith)
place_view (v ∷ views) x (zero, less, is) = (v, (0, omega arith, refl), is)
place_view (v ∷ views) x (suc k, less, is) =
    let rest = place_view views x (k, omega arith, is) in
    (rest.0, (suc rest.1.0, omega (arith, rest.1.1), rest.1.2), rest.2)

module _ (outputs : List Base) (mounts : List (Mount Text)) (wants : List Want) (views : List CacheView) (k : ℕ) (mount : Mount Text)
    (at : slice_get mounts k ≡ Some mount) (are : AreViewsOf outputs (take k mounts) wants views) where
  count : length (take k mounts) ≡ k
  count = let within = slice_get_within mounts k mount at in length-take-le k mounts (omega arith)

  -- a view of the mounts before is one of the mounts up to the next
  view_more : (view : CacheView) → IsView outputs (take k mounts) wants view → IsView outputs (take k mounts ++ mount ∷ []) wants view
  view_more view h = record {
    mount = h.mount;
    want = h.want;
    mount_there = get_push_left (take k mounts) mount view.mount h.mount h.mount_there;
    want_there = h.want_there;
    folder_is = h.folder_is;
  }

  -- a mount that isn't a cache mount has no view
  pub views_same : (IsCache mount → ⊥) → AreViewsOf outputs (take (k + 1) mounts) wants views
  views_same apart = subst (λ (ms : List (Mount Text)). AreViewsOf outputs ms wants views) (sym (take_push mounts k mount at)) (record {
    whole = λ place m there is. elim (get_push_cases (take k mounts) mount place m there) [
      | inl old ↦ are.whole place m old.1 is
      | inr end ↦ absurd (apart (subst IsCache (sym end.1) is))
    ];
    only = λ view h. view_more view (are.only view h);
    rising = are.rising;
  })

  -- what this mount sees
  abbrev seen : ℕ → CacheView
  seen place = record { mount = k; want = place }

  -- the view of a cache mount
  pub views_more : (place : ℕ) (want : Want) → slice_get wants place ≡ Some want → HasFolder outputs mount want.folder
      → AreViewsOf outputs (take (k + 1) mounts) wants (views ++ seen place ∷ [])
  views_more place want there folder =
      let more : mount_places (views ++ seen place ∷ []) ≡ mount_places views ++ k ∷ [] = map_push (λ (view : CacheView). view.mount) views (seen place) in
      subst (λ (ms : List (Mount Text)). AreViewsOf outputs ms wants (views ++ seen place ∷ [])) (sym (take_push mounts k mount at)) (record {
        whole = λ p m at_p is. subst (λ (ps : List ℕ). Contains ps p) (sym more) (elim (get_push_cases (take k mounts) mount p m at_p) [
          | inl old ↦ Contains-append_left (mount_places views) (k ∷ []) p (are.whole p m old.1 is)
          | inr end ↦ let same : k ≡ p = sym (end.0 ∙ count) in subst (Contains (mount_places views ++ k ∷ [])) same (Contains-push (mount_places views) k)
        ]);
        only = λ view h. elim (Contains-push_cases views (seen place) view h) [
          | inl old ↦ view_more view (are.only view old)
          | inr same ↦ subst (IsView outputs (take k mounts ++ mount ∷ []) wants) same (record {
            mount = mount;
            want = want;
            mount_there = subst (λ (n : ℕ). slice_get (take k mounts ++ mount ∷ []) n ≡ Some mount) count (get_push_end (take k mounts) mount);
            want_there = there;
            folder_is = folder;
          })
        ];
        rising = subst IsStrictlyIncreasing (sym more) (rising_push (mount_places views) k are.rising below);
      })
    where
      below : (x : ℕ) → Contains (mount_places views) x → x < k
      below x h =
          let v = place_view views x h in
          let is = are.only v.0 v.1 in
          let within = slice_get_within (take k mounts) v.0.mount is.mount is.mount_there in
          let same = v.2 in
          omega (arith, count)
