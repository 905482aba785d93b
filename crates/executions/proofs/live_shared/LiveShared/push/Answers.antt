use Rattle.std.proofs.Common.{◌≡◌, ◌++◌, ◌∷◌, [], List, None, map, length, ap, sym, ◌∙◌, subst, arith}
use Rattle.std.specs.List.{find}
use Rattle.std.proofs.lemmas.Grind.{common_steps}
use Rattle.executions.specs.declared.live_shared.Open.{Open}
use Rattle.executions.specs.Live.{Live, is_named, files_in, files_of}
use Rattle.executions.specs.Keeping.{opened, IsKept}
use Rattle.executions.proofs.LiveLemmas.{kept_pushed, opened_now, none_mapped}
use Rattle.executions.proofs.live_shared.LiveShared.push.Goals as goal

pub invariant_of-self-2 : goal.invariant_of-self-2
invariant_of-self-2 c =
    let batches = c.self.inside.batches.items in
    let folders = c.self.inside.folders.items in
    let o : Open = record { folder = c.args.folder; running = c.args.running; since = c.len-since.result; files = c.args.files } in
    let since : c.len-since.result ≡ length batches = grind (arith, common_steps) in
    let live : Live = record { batches = batches; folders = map opened folders } in
    let closed : files_in live c.args.folder ≡ None = ap (λ (l : Live). files_in l c.args.folder) c.self.view_is ∙ c.requires.closed in
    let none : find (is_named c.args.folder) (map opened folders) ≡ None = none_mapped (files_of batches) (find (is_named c.args.folder) (map opened folders)) closed in
    let pushed = c.push_reserved.ensures.items ∙ ap (λ (os : List Open). os ++ o ∷ []) c.reserve.ensures.items in
    subst (IsKept batches) (sym pushed) (kept_pushed batches folders o c.self.invariant none (opened_now batches o since c.requires.files))
