use Rattle.std.proofs.Common.{◌≡◌, List, subst}
use Rattle.std.specs.List.{insert}
use Rattle.farm_base.specs.declared.lease.NodeLife.{NodeLife}
use Rattle.holdings.specs.Places.{IsPlace, IsGap}
use Rattle.holdings.proofs.LifeLemmas.{nodes_of, life_at-set, life_at-insert, lives-set, lives-insert}
use Rattle.holdings.proofs.lives.Lives.set.Goals as goal

pub invariant_of-self : goal.invariant_of-self
invariant_of-self c =
    let lives : List NodeLife = c.self.inside.lives.items in
    let place : IsPlace c.args.node.0 (nodes_of lives) c.in-Ok.place = subst (λ ls. IsPlace c.args.node.0 (nodes_of ls) c.in-Ok.place) c.as_slice.ensures.value c.in-Ok.ensures in
    lives-set lives c.in-Ok.place (record { node = c.args.node; life = c.args.life }) c.self.invariant place c.requires.counted

pub returns-in-Ok : goal.returns-in-Ok
returns-in-Ok c =
    let lives : List NodeLife = c.self.inside.lives.items in
    let place : IsPlace c.args.node.0 (nodes_of lives) c.in-Ok.place = subst (λ ls. IsPlace c.args.node.0 (nodes_of ls) c.in-Ok.place) c.as_slice.ensures.value c.in-Ok.ensures in
    rw (← c.self.view_is) (life_at-set lives c.in-Ok.place (record { node = c.args.node; life = c.args.life }) c.self.invariant place)

pub invariant_of-self-in-Err : goal.invariant_of-self-in-Err
invariant_of-self-in-Err c =
    let lives : List NodeLife = c.self.inside.lives.items in
    let seen : NodeLife = record { node = c.args.node; life = c.args.life } in
    let gap : IsGap c.args.node.0 (nodes_of lives) c.in-Err.place = subst (λ ls. IsGap c.args.node.0 (nodes_of ls) c.in-Err.place) c.as_slice.ensures.value c.in-Err.ensures in
    let items : c.insert.new.self.items ≡ insert lives c.in-Err.place seen = rw c.unwrap.ensures at c.insert.ensures.items in
    rw items (lives-insert lives c.in-Err.place seen c.self.invariant gap c.requires.counted)

pub returns-in-Err : goal.returns-in-Err
returns-in-Err c =
    let lives : List NodeLife = c.self.inside.lives.items in
    let seen : NodeLife = record { node = c.args.node; life = c.args.life } in
    let gap : IsGap c.args.node.0 (nodes_of lives) c.in-Err.place = subst (λ ls. IsGap c.args.node.0 (nodes_of ls) c.in-Err.place) c.as_slice.ensures.value c.in-Err.ensures in
    let items : c.insert.new.self.items ≡ insert lives c.in-Err.place seen = rw c.unwrap.ensures at c.insert.ensures.items in
    rw (items, ← c.self.view_is) (life_at-insert lives c.in-Err.place seen gap)
