use Rattle.std.proofs.Common.{List, ◌∙◌, ap, sym, subst}
use Rattle.farm_base.specs.declared.lease.NodeLife.{NodeLife}
use Rattle.holdings.specs.Places.{IsPlace, IsGap}
use Rattle.holdings.proofs.LifeLemmas.{nodes_of, life_at-place, life_at-gap}
use Rattle.holdings.proofs.lives.Lives.greatest.Goals as goal

pub returns-in-Ok : goal.returns-in-Ok
returns-in-Ok c =
    let lives : List NodeLife = c.self.inside.lives.items in
    let place : IsPlace c.args.node.0 (nodes_of lives) c.in-Ok.place = subst (λ ls. IsPlace c.args.node.0 (nodes_of ls) c.in-Ok.place) c.as_slice.ensures.value c.in-Ok.ensures in
    let found = life_at-place lives c.args.node.0 c.in-Ok.place c.index.result.now c.self.invariant place in
    rw (← c.self.view_is) (ap (λ (x : NodeLife). x.life.0) c.index.ensures ∙ sym found)

pub returns-in-Err : goal.returns-in-Err
returns-in-Err c =
    let lives : List NodeLife = c.self.inside.lives.items in
    let gap : IsGap c.args.node.0 (nodes_of lives) c.in-Err.field-0 = subst (λ ls. IsGap c.args.node.0 (nodes_of ls) c.in-Err.field-0) c.as_slice.ensures.value c.in-Err.ensures in
    rw (← c.self.view_is) (sym (life_at-gap lives c.args.node.0 c.in-Err.field-0 gap))
