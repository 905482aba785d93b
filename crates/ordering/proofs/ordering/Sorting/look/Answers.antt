use Rattle.std.proofs.Common.{◌≡◌, ℕ, Bool, List, length, get_or, set, sym, ◌∙◌, subst, arith, inl, inr}
use Rattle.std.proofs.lemmas.List.{length-set}
use Rattle.std.specs.Vec.{with_item}
use Rattle.ordering.specs.declared.ordering.Waiter.{Waiter}
use Rattle.ordering.specs.Flags.{ArePlaced, IsFirstOpen}
use Rattle.ordering.specs.Rows.{row_at}
use Rattle.ordering.proofs.RowLemmas.{row_at-read, row_inputs_within, row_input_within}
use Rattle.ordering.proofs.SortingLemmas.{Adds-updates, Adds_waiter, look_ready, look_waits, adds_waiter, waiters_more}
use Rattle.ordering.proofs.ordering.Sorting.look.Goals as goal

pub first_open-requires : goal.first_open-requires
first_open-requires c =
    rw (c.as_slice-inputs.ensures.value, c.as_slice.ensures.value)
    (row_inputs_within c.args.rows.now c.args.waiter.place (length c.args.self.now.placed.items) c.index-rows-waiter.result
    c.requires.inputs c.requires.waiter c.index-rows-waiter.is c.requires.shape.placed)

pub index_mut-users-requires : goal.index_mut-users-requires
index_mut-users-requires c =
    let less = row_input_within c.args.rows.now c.args.waiter.place (length c.args.self.now.waiting.items) c.in-Some.next c.index-rows-waiter.result
    c.as_slice-inputs.result.now c.requires.inputs c.requires.waiter c.index-rows-waiter.is c.requires.shape.waiting
    c.as_slice-inputs.ensures.value c.in-Some.ensures.found.within in
    omega (arith, c.args.self.now.waiting.ok.0)

pub returns-in_ok-insert-in-None-clause-shape : goal.returns-in_ok-insert-in-None-clause-shape
returns-in_ok-insert-in-None-clause-shape c =
    let adds = Adds-updates c.args.self.now.ready c.insert.new.self c.args.waiter.place c.in_ok-insert-in-None.ensures.updates in
    record {
      placed = c.requires.shape.placed;
      waiting = c.requires.shape.waiting;
      ready = λ p there. elim (adds.only p there) [
        | inl old ↦ c.requires.shape.ready p old
        | inr same ↦ let less = c.requires.waiter in omega arith
      ];
      waiters = c.requires.shape.waiters;
    }

pub returns-in_ok-insert-in-None-clause-sorting : goal.returns-in_ok-insert-in-None-clause-sorting
returns-in_ok-insert-in-None-clause-sorting c =
    let adds = Adds-updates c.args.self.now.ready c.insert.new.self c.args.waiter.place c.in_ok-insert-in-None.ensures.updates in
    let row : row_at c.args.rows.now c.args.waiter.place ≡ c.as_slice-inputs.result.now
    = row_at-read c.args.rows.now c.args.waiter.place c.index-rows-waiter.result c.requires.waiter c.index-rows-waiter.is
    ∙ sym c.as_slice-inputs.ensures.value in
    λ vertices todo h. look_ready vertices c.args.rows.now c.args.self.now c.insert.new.self c.args.waiter todo adds
    (subst (λ (xs : List ℕ). ArePlaced xs c.args.self.now.placed.items c.args.waiter.next (length xs)) (sym row)
    (subst (λ (flags : List Bool). ArePlaced c.as_slice-inputs.result.now flags c.args.waiter.next (length c.as_slice-inputs.result.now))
    c.as_slice.ensures.value c.in-None.ensures.none))
    h

pub returns-in_ok-push-in-Some-clause-shape : goal.returns-in_ok-push-in-Some-clause-shape
returns-in_ok-push-in-Some-clause-shape c =
    let q = get_or c.as_slice-inputs.result.now c.in-Some.next 0 in
    let less = row_input_within c.args.rows.now c.args.waiter.place (length c.args.self.now.waiting.items) c.in-Some.next c.index-rows-waiter.result
    c.as_slice-inputs.result.now c.requires.inputs c.requires.waiter c.index-rows-waiter.is c.requires.shape.waiting
    c.as_slice-inputs.ensures.value c.in-Some.ensures.found.within in
    let mine : Waiter = record { place = c.args.waiter.place; next = c.in-Some.next } in
    let adds = adds_waiter c.args.self.now.waiting.items c.index_mut-users.result.now c.push.new.self q mine less
    c.index_mut-users.ensures.value c.in_ok-push-in-Some.ensures.items in
    record {
      placed = c.requires.shape.placed;
      waiting = length-set c.args.self.now.waiting.items q c.push.new.self ∙ c.requires.shape.waiting;
      ready = c.requires.shape.ready;
      waiters = waiters_more (length c.args.rows.now) c.args.self.now.waiting.items (set c.args.self.now.waiting.items q c.push.new.self) q mine
          adds c.requires.shape.waiters c.requires.waiter;
    }

pub returns-in_ok-push-in-Some-clause-sorting : goal.returns-in_ok-push-in-Some-clause-sorting
returns-in_ok-push-in-Some-clause-sorting c =
    let q = get_or c.as_slice-inputs.result.now c.in-Some.next 0 in
    let less = row_input_within c.args.rows.now c.args.waiter.place (length c.args.self.now.waiting.items) c.in-Some.next c.index-rows-waiter.result
    c.as_slice-inputs.result.now c.requires.inputs c.requires.waiter c.index-rows-waiter.is c.requires.shape.waiting
    c.as_slice-inputs.ensures.value c.in-Some.ensures.found.within in
    let mine : Waiter = record { place = c.args.waiter.place; next = c.in-Some.next } in
    let adds = adds_waiter c.args.self.now.waiting.items c.index_mut-users.result.now c.push.new.self q mine less
    c.index_mut-users.ensures.value c.in_ok-push-in-Some.ensures.items in
    let row : row_at c.args.rows.now c.args.waiter.place ≡ c.as_slice-inputs.result.now
    = row_at-read c.args.rows.now c.args.waiter.place c.index-rows-waiter.result c.requires.waiter c.index-rows-waiter.is
    ∙ sym c.as_slice-inputs.ensures.value in
    λ vertices todo h. look_waits vertices c.args.rows.now c.args.self.now (with_item c.args.self.now.waiting q c.push.new.self) c.args.waiter c.in-Some.next todo
    (subst (λ (xs : List ℕ). IsFirstOpen xs c.args.self.now.placed.items c.args.waiter.next c.in-Some.next) (sym row)
    (subst (λ (flags : List Bool). IsFirstOpen c.as_slice-inputs.result.now flags c.args.waiter.next c.in-Some.next)
    c.as_slice.ensures.value c.in-Some.ensures.found))
    (subst (λ (xs : List ℕ). Adds_waiter c.args.self.now.waiting.items (set c.args.self.now.waiting.items q c.push.new.self) (get_or xs c.in-Some.next 0) mine) (sym row) adds)
    h
