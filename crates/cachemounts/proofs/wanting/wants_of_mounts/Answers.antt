use Rattle.std.proofs.Common.{◌≡◌, ◌≤◌, List, [], take, length, refl, sym, subst, arith}
use Rattle.std.specs.List.{IsDistinct}
use Rattle.std.proofs.lemmas.List.{take_all}
use Rattle.std.proofs.lemmas.Option.{slice_get_read}
use Rattle.farm_base.specs.declared.want.Want.{Want}
use Rattle.names.specs.Folders.{folder_eq}
use Rattle.farm_base.specs.Wanted.{folders}
use Rattle.opsproto.specs.Scalars.{Text}
use Rattle.opsproto.specs.declared.exec.Mount.{Mount}
use Rattle.cachemounts.specs.CacheWants.{AreWantsOf}
use Rattle.cachemounts.specs.Checked.{IsChecked}
use Rattle.cachemounts.proofs.AddingLemmas.{wants_none, wants_more, wants_moved, count_more}
use Rattle.cachemounts.proofs.wanting.wants_of_mounts.Goals as goal

pub loop-mount-init : goal.loop-mount-init
unfolding IsDistinct
loop-mount-init c =
    subst (λ (ws : List Want). record { are : AreWantsOf c.args.outputs.now [] ws; distinct : IsDistinct folder_eq (folders ws); few : length ws ≤ 0 })
    (sym c.new-wants.ensures.items) (record { are = wants_none c.args.outputs.now; distinct = tt; few = omega arith })

pub add_mount-requires : goal.add_mount-requires
add_mount-requires c =
    subst (IsChecked (length c.args.outputs.now)) (sym c.mount-item.is) (c.requires.checked c.loop-mount.mount-index c.mount-item.result c.loop-mount-test.true)

pub loop-mount-preserved : goal.loop-mount-preserved
loop-mount-preserved c =
    let mounts = c.args.mounts.now in
    let k = c.loop-mount.mount-index in
    let mount = c.mount-item.result in
    let at = slice_get_read mounts _ k mount refl c.loop-mount-test.true c.mount-item.is in
    let added = c.in_ok-add_mount.ensures in
    let count = count_more mounts k mount at in
    record {
      are = wants_more c.args.outputs.now mounts k mount c.loop-mount.wants.items c.add_mount.new.wants.items at c.loop-mount.invariant.are added.adds;
      distinct = added.distinct c.loop-mount.invariant.distinct;
      few = let more = added.count in let few = c.loop-mount.invariant.few in omega (arith, count, more, few);
    }

pub returns : goal.returns
returns c =
    let mounts = c.args.mounts.now in
    let all : take c.loop-mount.mount-index mounts ≡ mounts = take_all c.loop-mount.mount-index mounts c.loop-mount-test.false in
    wants_moved c.args.outputs.now mounts c.loop-mount.wants.items c.in-Ok.wants c.in-Ok.ensures.same
    (subst (λ (ms : List (Mount Text)). AreWantsOf c.args.outputs.now ms c.loop-mount.wants.items) all c.loop-mount.invariant.are)
