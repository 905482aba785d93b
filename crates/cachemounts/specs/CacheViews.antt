-- Which want each cache mount sees (this project's own).
use Rattle.std.specs.Prelude.{◌≡◌, ℕ, List, map, Some, slice_get}
use Rattle.std.specs.List.{Contains}
use Rattle.std.specs.List.Sorted.{IsStrictlyIncreasing}
use Rattle.names.specs.declared.digest.Key.{Key}
use Rattle.names.specs.declared.folder.Base.{Base}
use Rattle.farm_base.specs.declared.want.Want.{Want}
use Rattle.opsproto.specs.Scalars.{Text}
use Rattle.opsproto.specs.declared.exec.Mount.{Mount}
use Rattle.vertices.specs.OpChecks.{IsCache}
use Rattle.vertices.specs.Loading.{GraphParts}
use Rattle.cachemounts.specs.CacheFolders.{HasFolder}
use Rattle.cachemounts.specs.CacheWants.{HasMounts}
use Rattle.cachemounts.specs.declared.viewing.CacheView.{CacheView}

-- the place of a mount and the place of the want of its folder
pub record IsView (outputs : List Base) (mounts : List (Mount Text)) (wants : List Want) (view : CacheView) : Type 0 where
  pub mount : Mount Text
  pub want : Want
  pub mount_there : slice_get mounts view.mount ≡ Some mount
  pub want_there : slice_get wants view.want ≡ Some want
  pub folder_is : HasFolder outputs mount want.folder

-- the places of the mounts
abbrev pub mount_places : List CacheView → List ℕ
mount_places views = map (λ (view : CacheView). view.mount) views

-- a view of each cache mount, in order
pub record AreViewsOf (outputs : List Base) (mounts : List (Mount Text)) (wants : List Want) (views : List CacheView) : Type 0 where
  pub whole : (place : ℕ) (mount : Mount Text) → slice_get mounts place ≡ Some mount → IsCache mount → Contains (mount_places views) place
  pub only : (view : CacheView) → Contains views view → IsView outputs mounts wants view
  pub rising : IsStrictlyIncreasing (mount_places views)

-- the views of a vertex of a graph that has these keys
pub record AreViews (g : GraphParts) (keys : List Key) (number : ℕ) (wants : List Want) (views : List CacheView) : Type 0 where
  pub outputs : List Base
  pub mounts : List (Mount Text)
  pub has : HasMounts g keys number outputs mounts
  pub views_are : AreViewsOf outputs mounts wants views
