use Rattle.std.proofs.Common.{◌≡◌, ◌<◌, ℕ, Bool, true, false, List, length, sym, ap, ◌∙◌, subst, arith}
use Rattle.std.specs.List.{Contains, All}
use Rattle.std.specs.declared.cmp.Ordering.TheVariants.{Less}
use Rattle.std.specs.Ordering.{nat_cmp}
use Rattle.std.specs.declared.vec.Vec.{Vec}
use Rattle.std.specs.declared.alloc.Global.{Global}
use Rattle.std.specs.Vec.{with_item}
use Rattle.std.proofs.lemmas.List.{length-set, get_or-set_same, get_or-set_other}
use Rattle.std.proofs.lemmas.List.Elements.{All-contains, All-weaker, All-contains_itself}
use Rattle.lists.proofs.Places.{Contains-head, Contains-tail}
use Rattle.ordering.specs.declared.ordering.Waiter.{Waiter}
use Rattle.ordering.specs.declared.ordering.Sorting.{Sorting}
use Rattle.ordering.specs.Rows.{row_at}
use Rattle.ordering.specs.Sorting.{IsSorting, open_count}
use Rattle.ordering.proofs.RowLemmas.{row_at-read, row_at-set_other}
use Rattle.lists.proofs.Rising.{less-from_cmp}
use Rattle.ordering.proofs.SortingLemmas.{Puts, put, fewer_open, ready_open, waiters_fewer}
use Rattle.ordering.proofs.ordering.Sorting.step.Goals as goal

pub index_mut-requires : goal.index_mut-requires
index_mut-requires c =
    let less = c.requires.shape.ready c.in-Some.place (subst (λ (ks : List ℕ). Contains ks c.in-Some.place) (sym c.in-Some.ensures.removal) (Contains-head c.in-Some.place c.pop_first.new.self.keys)) in
    omega (arith, c.requires.shape.placed, c.args.self.now.placed.ok.0)

pub index_mut-requires-2 : goal.index_mut-requires-2
index_mut-requires-2 c =
    let less = c.requires.shape.ready c.in-Some.place (subst (λ (ks : List ℕ). Contains ks c.in-Some.place) (sym c.in-Some.ensures.removal) (Contains-head c.in-Some.place c.pop_first.new.self.keys)) in
    omega (arith, c.requires.shape.waiting, c.args.self.now.waiting.ok.0)

pub look_all-requires-clause-shape : goal.look_all-requires-clause-shape
look_all-requires-clause-shape c =
    let p = c.in-Some.place in
    let s = c.args.self.now in
    let there = subst (λ (ks : List ℕ). Contains ks p) (sym c.in-Some.ensures.removal) (Contains-head p c.pop_first.new.self.keys) in
    let less = c.requires.shape.ready p there in
    record {
      placed = length-set s.placed.items p true ∙ c.requires.shape.placed;
      waiting = length-set s.waiting.items p c.replace-woken.new.dest ∙ c.requires.shape.waiting;
      ready = λ q h. c.requires.shape.ready q (subst (λ (ks : List ℕ). Contains ks q) (sym c.in-Some.ensures.removal) (Contains-tail p c.pop_first.new.self.keys q h));
      waiters = waiters_fewer (length c.args.rows.now) s.waiting.items p c.replace-woken.new.dest
          (omega (arith, c.requires.shape.waiting)) (ap (λ (v : Vec Waiter Global). v.items) c.replace-woken.ensures.after ∙ c.new.ensures.items) c.requires.shape.waiters;
    }

pub look_all-requires-clause-waiters : goal.look_all-requires-clause-waiters
look_all-requires-clause-waiters c =
    let p = c.in-Some.place in
    let s = c.args.self.now in
    let there = subst (λ (ks : List ℕ). Contains ks p) (sym c.in-Some.ensures.removal) (Contains-head p c.pop_first.new.self.keys) in
    let less = c.requires.shape.ready p there in
    let woken : row_at s.waiting.items p ≡ c.as_slice.result.now
    = row_at-read s.waiting.items p c.index_mut-2.result.now (omega (arith, c.requires.shape.waiting)) c.index_mut-2.ensures.value
    ∙ ap (λ (v : Vec Waiter Global). v.items) (sym c.replace-woken.ensures.value) ∙ sym c.as_slice.ensures.value in
    subst (All (λ (w : Waiter). w.place < length c.args.rows.now)) woken
    (All-weaker (Contains (row_at s.waiting.items p)) (λ w. w.place < length c.args.rows.now) (c.requires.shape.waiters p) (row_at s.waiting.items p)
    (All-contains_itself (row_at s.waiting.items p)))

pub returns-clause-sorting : goal.returns-clause-sorting
returns-clause-sorting c =
    let p = c.in-Some.place in
    let s = c.args.self.now in
    let there = subst (λ (ks : List ℕ). Contains ks p) (sym c.in-Some.ensures.removal) (Contains-head p c.pop_first.new.self.keys) in
    let less = c.requires.shape.ready p there in
    let woken : row_at s.waiting.items p ≡ c.as_slice.result.now
    = row_at-read s.waiting.items p c.index_mut-2.result.now (omega (arith, c.requires.shape.waiting)) c.index_mut-2.ensures.value
    ∙ ap (λ (v : Vec Waiter Global). v.items) (sym c.replace-woken.ensures.value) ∙ sym c.as_slice.ensures.value in
    let t : Sorting = record {
      order = c.push.new.self;
      placed = with_item s.placed p true;
      ready = c.pop_first.new.self;
      waiting = with_item s.waiting p c.replace-woken.new.dest;
    } in
    let puts : Puts s t p = record {
      keys = c.in-Some.ensures.removal;
      above = λ q h. less-from_cmp p q (All-contains (λ k. nat_cmp p k ≡ Less) c.pop_first.new.self.keys q c.in-Some.ensures.all_above h);
      order = c.in_ok-push.ensures.items;
      flag = get_or-set_same s.placed.items p true false (omega (arith, c.requires.shape.placed));
      flags = λ q apart. get_or-set_other s.placed.items p q true false apart;
      waiting = λ q apart. row_at-set_other s.waiting.items p q c.replace-woken.new.dest apart;
    } in
    λ vertices h. c.in_ok-look_all.ensures.sorting vertices
    (subst (λ (todo : List Waiter). IsSorting vertices c.args.rows.now t todo) woken (put vertices c.args.rows.now s t p puts h))

pub returns-clause-fewer : goal.returns-clause-fewer
returns-clause-fewer c =
    let p = c.in-Some.place in
    let s = c.args.self.now in
    let there = subst (λ (ks : List ℕ). Contains ks p) (sym c.in-Some.ensures.removal) (Contains-head p c.pop_first.new.self.keys) in
    let less = c.requires.shape.ready p there in
    λ vertices h. subst (λ (v : Vec Bool Global). open_count v.items < open_count s.placed.items) (sym c.in_ok-look_all.ensures.placed)
    (fewer_open s.placed.items p (omega (arith, c.requires.shape.placed)) (ready_open vertices c.args.rows.now s p there h))
