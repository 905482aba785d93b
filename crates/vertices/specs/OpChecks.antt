-- The checks of an exec op (this project's own, over BuildKit's ops.proto).
use Rattle.std.specs.Prelude.{◌≡◌, ℕ, ℤ, pos, negsuc, ◌<◌, ◌≤◌, ◌≤ℤ◌, ◌<ℤ◌, List, length, map, Option, Some, None, IsSome, IfSome, codes}
use Rattle.std.specs.Ordering.{int_eq}
use Rattle.std.specs.List.{Contains, count_by}
use Rattle.opsproto.specs.Scalars.{Text}
use Rattle.opsproto.specs.declared.exec.CacheOpt.{CacheOpt}
use Rattle.opsproto.specs.declared.exec.Mount.{Mount}
use Rattle.opsproto.specs.declared.exec.ExecOp.{ExecOp}
use Rattle.opsproto.specs.declared.op.Kind.{Kind}
use Rattle.opsproto.specs.declared.op.Kind.TheVariants.{Exec, Opaque, Bare}
use Rattle.vertices.specs.declared.refusal.LoadRefusal.{LoadRefusal}
use Rattle.vertices.specs.declared.refusal.LoadRefusal.TheVariants as refusal
use Rattle.vertices.specs.Outcomes.{Check, Passes, Fails, Needs, Then, Each}

-- mountType CACHE = 3 (ops.proto)
abbrev pub IsCache : Mount Text → Type 0
IsCache mount = mount.mount_type ≡ pos 3

-- sharing SHARED = 0, PRIVATE = 1, LOCKED = 2 (ops.proto)
abbrev pub IsSharing : ℤ → Type 0
IsSharing sharing = (pos 0 ≤ℤ sharing) × (sharing ≤ℤ pos 2)

-- a mount's input is -1, for none, or the place of one of `count` inputs
abbrev pub IsMountInput : ℤ → ℕ → Type 0
IsMountInput input count = (negsuc 0 ≤ℤ input) × (input <ℤ pos count)

-- the check of the cache option of a cache mount
abbrev pub CacheCheck : ℕ → Option (CacheOpt Text) → Check
CacheCheck place None = Fails (refusal.NoCacheOpt place)
CacheCheck place (Some cache) = Needs (IsSharing cache.sharing) (refusal.UnknownSharing place cache.sharing)

-- only a mount of the type CACHE has its cache option checked
pub data SharingCheck (place : ℕ) (mount : Mount Text) (given : Option LoadRefusal) : Type 0 where
  no_cache : (IsCache mount → ⊥) → Passes given → SharingCheck place mount given
  is_cache : IsCache mount → CacheCheck place mount.cache given → SharingCheck place mount given

abbrev pub MountCheck : ℕ → ℕ → Mount Text → Check
MountCheck place inputs mount = Then (Needs (IsMountInput mount.input inputs) (refusal.BadMountInput place)) (SharingCheck place mount)

-- the mounts of the type CACHE
abbrev pub cache_count : List (Mount Text) → ℕ
cache_count mounts = count_by (λ mount. int_eq mount.mount_type (pos 3)) mounts

-- the checks of an exec op at a place, of a vertex with `inputs` inputs
abbrev pub ExecCheck : ℕ → ℕ → ExecOp Text → Check
ExecCheck place inputs exec =
    Then (Needs (IsSome exec.meta) (refusal.NoMeta place))
    (Then (Needs (IfSome exec.meta (λ meta. 0 < length meta.args)) (refusal.NoArgs place))
    (Then (Needs (0 < length exec.mounts) (refusal.NoMounts place))
    (Then (Needs (Contains (map (λ mount. mount.dest) exec.mounts) (codes "/")) (refusal.NoRoot place))
    (Then (Each (MountCheck place inputs) exec.mounts)
    (Needs (cache_count exec.mounts ≤ 16) (refusal.TooManyCacheMounts place))))))

-- the checks of what an op does
abbrev pub KindCheck : ℕ → ℕ → Kind Text → Check
KindCheck place inputs (Exec exec) = ExecCheck place inputs exec
KindCheck place inputs (Opaque number) = Passes
KindCheck place inputs Bare = Fails (refusal.NoOp place)
