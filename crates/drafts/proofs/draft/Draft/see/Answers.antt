use Rattle.std.proofs.Common.{◌≡◌, None, refl, sym, ap, ◌∙◌}
use Rattle.protocol.specs.Ledger.{sees}
use Rattle.protocol.specs.Lists.{put}
use Rattle.holdings.specs.Leases.{among}
use Rattle.holdings.specs.Lives.{life_at}
use Rattle.effects.specs.Held.{Held}
use Rattle.effects.specs.Keeps.{held}
use Rattle.effects.specs.Shown.{work_of, with_life}
use Rattle.effects.specs.declared.effects.Effects.{Effects}
use Rattle.drafts.proofs.draft.Draft.see.Goals as goal

pub returns : goal.returns
returns c =
    let h : Held = held c.args.self.now.base.now in
    let e : Effects = c.deref_mut-effects.result.now in
    let is : e ≡ c.args.self.now.effects.value = c.deref_mut-effects.ensures.value in
    let table = c.in_ok-end_lives_below.ensures.ok (record { live = h.live; retired = h.retired }) in
    let none : e.change.life ≡ None = ap (λ (x : Effects). x.change.life) is ∙ c.requires.first in
    let made : _ ≡ sees c.args.node c.args.life (work_of h e) =
    λ j. record (sees c.args.node c.args.life (work_of h e)) {
      ledger = record (sees c.args.node c.args.life (work_of h e)).ledger {
        live = (table j).live;
        retired = among (table j).retired;
        lives = put c.args.node.0 c.args.life.0 (with_life (sym none j) (life_at h.lives));
        old_home = c.cleared-change.ensures j;
        parked = c.in_ok-end.ensures j;
      };
    } in
    record {
      base = refl;
      added = ap (λ (x : Effects). x.added) is;
      work = made ∙ ap (λ (x : Effects). sees c.args.node c.args.life (work_of h x)) is;
    }
