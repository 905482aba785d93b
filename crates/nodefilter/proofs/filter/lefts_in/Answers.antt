use Rattle.std.proofs.Common.{◌≡◌, ◌+◌, List, [], ◌∷◌, ◌++◌, take, sym, ap, ◌∙◌, subst}
use Rattle.std.proofs.lemmas.List.{take_more}
use Rattle.farm_base.specs.declared.left.Left.{Left}
use Rattle.nodelines.specs.declared.order.LeftFile.{LeftFile}
use Rattle.nodefilter.specs.Filters.{AreLeft}
use Rattle.nodestore.specs.Stores.{HasContent}
use Rattle.nodefilter.proofs.KeepingLemmas.{left_more}
use Rattle.nodefilter.proofs.filter.lefts_in.Goals as goal

pub loop-file-preserved : goal.loop-file-preserved
loop-file-preserved g c =
    let files = c.args.files.now in
    let k = c.loop-file.file-index in
    let file : LeftFile = c.file-item.result in
    let left : Left = record { slot = c.in_ok-slot.slot; content = c.in_ok-content.content } in
    let Had = HasContent (g.S.Store.had c.args.store.now) in
    let next : take (k + 1) files ≡ take k files ++ file ∷ [] = take_more files k file c.loop-file-test.true ∙ ap (λ (f : LeftFile). take k files ++ f ∷ []) (sym c.file-item.is) in
    let more = left_more Had (take k files) c.loop-file.lefts.items file left c.loop-file.invariant c.in_ok-slot.ensures (rw c.as_str.ensures.value at c.in_ok-content.ensures.content) in
    subst (λ (fs : List LeftFile). AreLeft Had fs c.push.new.self.items) (sym next) (subst (AreLeft Had (take k files ++ file ∷ [])) (sym c.in_ok-push.ensures.items) more)
