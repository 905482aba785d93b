-- How one more folder changes wants.
use Rattle.std.proofs.Common.{◌≡◌, ℕ, zero, suc, ◌+◌, ◌<◌, ◌⊎◌, inl, inr, Bool, true, false, List, [], ◌∷◌, ◌++◌, length, take, set, get_or, Some, refl, sym, ap, ◌∙◌, subst, arith}
use Rattle.std.specs.Prelude.{IsTrue, not}
use Rattle.std.specs.List.{Contains, slice_get, IsDistinct, list_any}
use Rattle.std.proofs.lemmas.Bool.{cases_eq, cases_Bool}
use Rattle.std.proofs.lemmas.List.{length-set, get_or-set_same, get_or-set_other, map_push}
use Rattle.std.proofs.lemmas.List.Elements.{Contains-push, Contains-push_cases, Contains-append_left}
use Rattle.std.proofs.lemmas.List.Sorted.{Contains-permutation, IsPermutation-sym, IsPermutation-map}
use Rattle.std.proofs.lemmas.List.Sums.{sum_by-append}
use Rattle.std.proofs.lemmas.Map.Keys.{IsDistinct-push}
use Rattle.std.proofs.lemmas.Option.{slice_get_within, get_or_from_slice_get}
use Rattle.std.specs.List.Sorted.{IsPermutation}
use Rattle.names.specs.declared.folder.Base.{Base}
use Rattle.names.specs.declared.folder.FolderName.{FolderName}
use Rattle.farm_base.specs.declared.want.Want.{Want}
use Rattle.names.specs.Folders.{folder_eq}
use Rattle.farm_base.specs.Wanted.{folders}
use Rattle.names.proofs.CompareLaws.{folder_equivalence, folder_decides}
use Rattle.names.proofs.NameLaws.{folder_exact}
use Rattle.opsproto.specs.Scalars.{Text}
use Rattle.opsproto.specs.declared.exec.Mount.{Mount}
use Rattle.lists.proofs.Places.{take_push}
use Rattle.vertices.specs.OpChecks.{cache_count}
use Rattle.cachemounts.specs.Adding.{Adds}
use Rattle.cachemounts.specs.CacheFolders.{HasFolder}
use Rattle.cachemounts.proofs.FolderLemmas.{one_folder}
use Rattle.cachemounts.specs.CacheWants.{to_write, AreWantsOf}

-- ---- a want that is written over

-- the folders stay
pub folders_set : (wants : List Want) (place : ℕ) (old new : Want) → slice_get wants place ≡ Some old → old.folder ≡ new.folder
    → folders (set wants place new) ≡ folders wants
folders_set [] zero old new at same = refl
folders_set [] (suc place) old new at same = refl
folders_set (w ∷ wants) zero old new at same =
    let first : new.folder ≡ w.folder = let is : w ≡ old = cc at in sym same ∙ ap (λ (x : Want). x.folder) (sym is) in
    ap (λ (f : FolderName). f ∷ folders wants) first
folders_set (w ∷ wants) (suc place) old new at same = ap (λ (fs : List FolderName). w.folder ∷ fs) (folders_set wants place old new at same)

set_there : (wants : List Want) (place : ℕ) (new : Want) → place < length wants → Contains (set wants place new) new
set_there wants place new within = (place, omega (arith, length-set wants place new), get_or-set_same wants place new new within)

set_cases : (wants : List Want) (place : ℕ) (new want : Want) → Contains (set wants place new) want → Contains wants want ⊎ (new ≡ want)
set_cases wants place new want (k, less, is) =
    let len = length-set wants place new in
    elim (cases_eq k place) [
      | inl same ↦
          let within : place < length wants = omega arith in
          inr (sym (get_or-set_same wants place new want within) ∙ ap (λ (n : ℕ). get_or (set wants place new) n want) (sym same) ∙ is)
      | inr apart ↦ inl (k, omega arith, sym (get_or-set_other wants place k new want apart) ∙ is)
    ]

set_keeps : (wants : List Want) (place : ℕ) (old new want : Want) → slice_get wants place ≡ Some old → Contains wants want
    → Contains (set wants place new) want ⊎ (old ≡ want)
set_keeps wants place old new want at (k, less, is) =
    let len = length-set wants place new in
    elim (cases_eq k place) [
      | inl same ↦ inr (sym (get_or_from_slice_get wants place old want at) ∙ ap (λ (n : ℕ). get_or wants n want) (sym same) ∙ is)
      | inr apart ↦ inl (k, omega arith, get_or-set_other wants place k new want apart ∙ is)
    ]

-- the folder of a want
pub folder_there : (wants : List Want) (place : ℕ) (want : Want) → slice_get wants place ≡ Some want → Contains (folders wants) want.folder
folder_there [] zero want at = absurd (cc at)
folder_there [] (suc place) want at = absurd (cc at)
folder_there (w ∷ wants) zero want at = let is : w ≡ want = cc at in (0, omega arith, ap (λ (x : Want). x.folder) is)
folder_there (w ∷ wants) (suc place) want at = let h = folder_there wants place want at in (suc h.0, omega (arith, h.1), h.2)

-- ---- one folder

-- the folder becomes writable where it stands
pub adds_writable : (wants : List Want) (place : ℕ) (want : Want) (folder : FolderName) → slice_get wants place ≡ Some want → want.folder ≡ folder
    → Adds (λ other. folder ≡ other) (λ other. (folder ≡ other) × IsTrue true) wants (set wants place (record want { writable = true }))
adds_writable wants place want folder at same =
    let within = slice_get_within wants place want at in
    let new : Want = record want { writable = true } in
    let kept : folders (set wants place new) ≡ folders wants = folders_set wants place want new at refl in
    let there : Contains (set wants place new) new = set_there wants place new within in
    record {
      wanted = λ other. (
        λ h. inl (subst (λ (fs : List FolderName). Contains fs other) kept h),
        λ h. subst (λ (fs : List FolderName). Contains fs other) (sym kept) (elim h [
          | inl old ↦ old
          | inr is ↦ subst (Contains (folders wants)) (same ∙ is) (folder_there wants place want at)
        ]),
      );
      written = λ other. (
        λ h. elim (set_cases wants place new (to_write other) h) [
          | inl old ↦ inl old
          | inr is ↦ inr (sym same ∙ ap (λ (x : Want). x.folder) is, refl)
        ],
        λ h. elim h [
          | inl old ↦ elim (set_keeps wants place want new (to_write other) at old) [
            | inl still ↦ still
            | inr is ↦ subst (Contains (set wants place new)) (ap to_write (ap (λ (x : Want). x.folder) is)) there
          ]
          | inr is ↦ subst (Contains (set wants place new)) (ap to_write (same ∙ is.0)) there
        ],
      );
    }

-- nothing changes where the folder stands already and isn't to be written
pub adds_read : (wants : List Want) (place : ℕ) (want : Want) (folder : FolderName) → slice_get wants place ≡ Some want → want.folder ≡ folder
    → Adds (λ other. folder ≡ other) (λ other. (folder ≡ other) × IsTrue false) wants wants
adds_read wants place want folder at same = record {
  wanted = λ other. (
    λ h. inl h,
    λ h. elim h [ inl old ↦ old | inr is ↦ subst (Contains (folders wants)) (same ∙ is) (folder_there wants place want at) ],
  );
  written = λ other. (λ h. inl h, λ h. elim h [ inl old ↦ old | inr is ↦ absurd (cc is.1) ]);
}

-- one more want
pub adds_pushed : (wants : List Want) (folder : FolderName) (writable : Bool)
    → Adds (λ other. folder ≡ other) (λ other. (folder ≡ other) × IsTrue writable) wants (wants ++ (record { folder = folder; writable = writable }) ∷ [])
adds_pushed wants folder writable =
    let new : Want = record { folder = folder; writable = writable } in
    let more : folders (wants ++ new ∷ []) ≡ folders wants ++ folder ∷ [] = map_push (λ (w : Want). w.folder) wants new in
    record {
      wanted = λ other. (
        λ h. Contains-push_cases (folders wants) folder other (subst (λ (fs : List FolderName). Contains fs other) more h),
        λ h. subst (λ (fs : List FolderName). Contains fs other) (sym more) (elim h [
          | inl old ↦ Contains-append_left (folders wants) (folder ∷ []) other old
          | inr is ↦ subst (Contains (folders wants ++ folder ∷ [])) is (Contains-push (folders wants) folder)
        ]),
      );
      written = λ other. (
        λ h. elim (Contains-push_cases wants new (to_write other) h) [
          | inl old ↦ inl old
          | inr is ↦ inr (ap (λ (w : Want). w.folder) is, ap (λ (w : Want). w.writable) is)
        ],
        λ h. elim h [
          | inl old ↦ Contains-append_left wants (new ∷ []) (to_write other) old
          | inr is ↦ subst (Contains (wants ++ new ∷ [])) (written_is other is.0 is.1) (Contains-push wants new)
        ],
      );
    }
  where
    written_is : (other : FolderName) → folder ≡ other → writable ≡ true → record { folder = folder; writable = writable } ≡ to_write other
    written_is other f w = λ j. record { folder = f j; writable = w j }

none_equal : (fs : List FolderName) (folder : FolderName) → (Contains fs folder → ⊥) → list_any (folder_eq folder) fs ≡ false
none_equal [] folder apart = refl
none_equal (f ∷ fs) folder apart = elim (cases_Bool (folder_eq folder f)) [
  | inl is ↦ absurd (apart (0, omega arith, sym (folder_exact folder f is)))
  | inr not_it ↦ rw not_it (none_equal fs folder (λ h. apart (suc h.0, omega (arith, h.1), h.2)))
]

-- a folder that isn't wanted yet
pub distinct_pushed : (wants : List Want) (folder : FolderName) (writable : Bool) → (Contains (folders wants) folder → ⊥) → IsDistinct folder_eq (folders wants)
    → IsDistinct folder_eq (folders (wants ++ (record { folder = folder; writable = writable }) ∷ []))
distinct_pushed wants folder writable apart distinct =
    subst (IsDistinct folder_eq) (sym (map_push (λ (w : Want). w.folder) wants (record { folder = folder; writable = writable })))
    (IsDistinct-push folder_equivalence (folders wants) folder distinct (none_equal (folders wants) folder apart))

-- ---- one mount

-- the wants of the mounts before, and what the next one adds, are those of the mounts up to it
pub wants_more : (outputs : List Base) (mounts : List (Mount Text)) (k : ℕ) (mount : Mount Text) (old new : List Want) → slice_get mounts k ≡ Some mount
    → AreWantsOf outputs (take k mounts) old
    → Adds (HasFolder outputs mount) (λ folder. HasFolder outputs mount folder × (mount.readonly ≡ false)) old new
    → AreWantsOf outputs (take (k + 1) mounts) new
wants_more outputs mounts k mount old new at are adds = subst (λ (ms : List (Mount Text)). AreWantsOf outputs ms new) (sym (take_push mounts k mount at)) (record {
  wanted = λ folder. (
    λ h. elim ((adds.wanted folder).0 h) [
      | inl was ↦
          let w = (are.wanted folder).0 was in
          record { mount = w.mount; has = Contains-append_left (take k mounts) (mount ∷ []) w.mount w.has; folder_is = w.folder_is }
      | inr is ↦ record { mount = mount; has = Contains-push (take k mounts) mount; folder_is = is }
    ],
    λ h. (adds.wanted folder).1 (elim (Contains-push_cases (take k mounts) mount h.mount h.has) [
      | inl was ↦ inl ((are.wanted folder).1 (record { mount = h.mount; has = was; folder_is = h.folder_is }))
      | inr same ↦ inr (subst (λ (m : Mount Text). HasFolder outputs m folder) (sym same) h.folder_is)
    ]),
  );
  written = λ folder. (
    λ h. elim ((adds.written folder).0 h) [
      | inl was ↦
          let w = (are.written folder).0 was in
          record { mount = w.mount; has = Contains-append_left (take k mounts) (mount ∷ []) w.mount w.has; folder_is = w.folder_is; writable = w.writable }
      | inr is ↦ record { mount = mount; has = Contains-push (take k mounts) mount; folder_is = is.0; writable = is.1 }
    ],
    λ h. (adds.written folder).1 (elim (Contains-push_cases (take k mounts) mount h.mount h.has) [
      | inl was ↦ inl ((are.written folder).1 (record { mount = h.mount; has = was; folder_is = h.folder_is; writable = h.writable }))
      | inr same ↦ inr (
        subst (λ (m : Mount Text). HasFolder outputs m folder) (sym same) h.folder_is,
        ap (λ (m : Mount Text). m.readonly) same ∙ h.writable,
      )
    ]),
  );
})

-- ---- in another order

-- wants are the same in another order
pub wants_moved : (outputs : List Base) (mounts : List (Mount Text)) (old new : List Want) → IsPermutation old new → AreWantsOf outputs mounts old
    → AreWantsOf outputs mounts new
wants_moved outputs mounts old new moved are =
    let names = IsPermutation-map (λ (w : Want). w.folder) old new moved in
    record {
      wanted = λ folder. (
        λ h. (are.wanted folder).0 (Contains-permutation (folders new) (folders old) folder (IsPermutation-sym (folders old) (folders new) names) h),
        λ h. Contains-permutation (folders old) (folders new) folder names ((are.wanted folder).1 h),
      );
      written = λ folder. (
        λ h. (are.written folder).0 (Contains-permutation new old (to_write folder) (IsPermutation-sym old new moved) h),
        λ h. Contains-permutation old new (to_write folder) moved ((are.written folder).1 h),
      );
    }

-- ---- a search

-- a folder that isn't among some wants, nor the next one's
pub apart_more : (wants : List Want) (k : ℕ) (want : Want) (folder : FolderName) → slice_get wants k ≡ Some want → folder_eq want.folder folder ≡ false
    → (Contains (folders (take k wants)) folder → ⊥) → Contains (folders (take (k + 1) wants)) folder → ⊥
apart_more wants k want folder at differs apart h =
    let more : folders (take (k + 1) wants) ≡ folders (take k wants) ++ want.folder ∷ []
    = ap folders (take_push wants k want at) ∙ map_push (λ (w : Want). w.folder) (take k wants) want in
    elim (Contains-push_cases (folders (take k wants)) want.folder folder (subst (λ (fs : List FolderName). Contains fs folder) more h)) [
      | inl old ↦ apart old
      | inr same ↦ let yes_it_is = (folder_decides want.folder folder).1 same in cc (yes_it_is, differs)
    ]

-- ---- no mounts, and counts

nothing : {P : Type 0} {X : Type 0} (x : X) → Contains [] x → P
nothing x h = absurd (omega (arith, h.1))

-- no mounts want nothing
pub wants_none : (outputs : List Base) → AreWantsOf outputs [] []
wants_none outputs = record {
  wanted = λ folder. (λ h. nothing folder h, λ h. nothing h.mount h.has);
  written = λ folder. (λ h. nothing (to_write folder) h, λ h. nothing h.mount h.has);
}

-- the cache mounts up to the next one
pub count_more : (mounts : List (Mount Text)) (k : ℕ) (mount : Mount Text) → slice_get mounts k ≡ Some mount
    → cache_count (take (k + 1) mounts) ≡ cache_count (take k mounts) + cache_count (mount ∷ [])
count_more mounts k mount at = ap cache_count (take_push mounts k mount at) ∙ sum_by-append _ (take k mounts) (mount ∷ [])

-- ---- a mount's folder

readonly_or_not : (readonly : Bool) → IsTrue (not readonly) → readonly ≡ false
readonly_or_not true h = absurd (cc h)
readonly_or_not false h = refl

-- what the folder of a mount adds, the mount adds
pub adds_mount : (outputs : List Base) (mount : Mount Text) (folder : FolderName) (old new : List Want) → HasFolder outputs mount folder
    → Adds (λ other. folder ≡ other) (λ other. (folder ≡ other) × IsTrue (not mount.readonly)) old new
    → Adds (HasFolder outputs mount) (λ other. HasFolder outputs mount other × (mount.readonly ≡ false)) old new
adds_mount outputs mount folder old new has adds = record {
  wanted = λ other. (
    λ h. elim ((adds.wanted other).0 h) [ inl was ↦ inl was | inr is ↦ inr (subst (HasFolder outputs mount) is has) ],
    λ h. (adds.wanted other).1 (elim h [ inl was ↦ inl was | inr its ↦ inr (one_folder outputs mount folder other has its) ]),
  );
  written = λ other. (
    λ h. elim ((adds.written other).0 h) [
      | inl was ↦ inl was
      | inr is ↦ inr (subst (HasFolder outputs mount) is.0 has, readonly_or_not mount.readonly is.1)
    ],
    λ h. (adds.written other).1 (elim h [
      | inl was ↦ inl was
      | inr its ↦ inr (one_folder outputs mount folder other has its.0, ap not its.1)
    ]),
  );
}
