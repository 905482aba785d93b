use Rattle.std.proofs.Common.{◌≡◌, ℕ, ◌<◌, List, map, take, length, refl, sym, ap, ◌∙◌, subst, arith}
use Rattle.std.specs.Prelude.{codes}
use Rattle.std.specs.List.{Contains}
use Rattle.std.proofs.lemmas.List.{get_or-map, length-map, take_all}
use Rattle.std.proofs.lemmas.Slice.Eq.{bytes_eq-Decides}
use Rattle.opsproto.specs.declared.exec.Mount.{Mount}
use Rattle.vertices.proofs.execs.has_root.Goals as goal

pub returns-then-eq : goal.returns-then-eq
returns-then-eq c =
    let mounts = c.args.mounts.now in
    let k = c.loop-mount.mount-index in
    let within : k < length mounts = c.loop-mount-test.true in
    let root : c.mount-item.result.dest ≡ codes "/" = sym c.as_str.ensures.value ∙ (bytes_eq-Decides c.as_str.result.now (codes "/")).0 (sym c.if-eq.ensures) in
    let found : Contains (map (λ (m : Mount (List ℕ)). m.dest) mounts) (codes "/")
    = (
      k,
      omega (arith, length-map mounts (λ (m : Mount (List ℕ)). m.dest)),
      get_or-map (λ (m : Mount (List ℕ)). m.dest) mounts k c.mount-item.result (codes "/") within
          ∙ ap (λ (m : Mount (List ℕ)). m.dest) (sym c.mount-item.is) ∙ root,
    ) in
    (λ _. found, λ _. refl)

pub returns : goal.returns
returns c =
    let mounts = c.args.mounts.now in
    let all : take c.loop-mount.mount-index mounts ≡ mounts = take_all c.loop-mount.mount-index mounts (omega arith) in (
      λ h. absurd (cc h),
      λ there. absurd (c.loop-mount.invariant
          (subst (λ (ms : List (Mount (List ℕ))). Contains (map (λ (m : Mount (List ℕ)). m.dest) ms) (codes "/")) (sym all) there)),
    )
