use Rattle.std.proofs.Common.{◌≡◌, ◌∙◌, List, Bool, length, sym, ap, subst}
use Rattle.keytable.specs.Reaching.{AreReached}
use Rattle.keytable.proofs.ProgressLemmas.{whole}
use Rattle.keytable.proofs.reaching.reached.Goals as goal

pub returns : goal.returns
returns c =
    let flags = c.in_ok-flags.flags in
    let new = c.flag_needed.new.flags in
    let size : length new ≡ length flags.items = c.flag_needed.auto.flags ∙ ap length c.as_mut_slice.ensures.value in
    subst (λ (xs : List Bool). AreReached c.args.graph.now xs) (sym (whole flags.items new flags.len flags.ok.0 size)) c.in_ok-flag_needed.ensures
