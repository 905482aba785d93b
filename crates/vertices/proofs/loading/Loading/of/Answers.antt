use Rattle.std.proofs.Common.{◌≡◌, ℕ, Some, None, List, [], length, get_or, take, sym, ap, ◌∙◌, subst, arith}
use Rattle.std.specs.List.{slice_get}
use Rattle.std.proofs.lemmas.List.{take-take}
use Rattle.std.proofs.lemmas.Option.{slice_get-get_or}
use Rattle.std.proofs.lemmas.Result.{err_from_is_err_and}
use Rattle.vertices.specs.Loaded.{IsReadTo, IsLoaded}
use Rattle.vertices.specs.Loading.{ReadChecks}
use Rattle.vertices.proofs.LoadLemmas.{in_front, reads_more, entry_answers, loaded_of}
use Rattle.vertices.proofs.loading.Loading.of.Goals as goal

pub read-requires-clause-place : goal.read-requires-clause-place
read-requires-clause-place c =
    let len = ap length c.loop-place.invariant.entries in
    omega (arith, c.loop-place-test.true)

pub returns-in_err-read-clause-check : goal.returns-in_err-read-clause-check
returns-in_err-read-clause-check c =
    let p = err_from_is_err_and c.from_residual-in_err-read.result c.from_residual-in_err-read.ensures.1 in
    let entries = c.args.entries in
    let k = c.loop-place.place in
    let x = get_or entries k [] in
    let at : slice_get entries k ≡ Some x = slice_get-get_or entries k [] (omega (arith, c.loop-place-test.true)) in
    let own : slice_get c.loop-place.loading.entries k ≡ Some x = ap (λ (es : List (List ℕ)). slice_get es k) c.loop-place.invariant.entries ∙ at in
    let front = take c.args.count entries in
    let here : slice_get front k ≡ Some x = in_front entries c.args.count k x at c.loop-place-test.true in
    let reads : ReadChecks 0 (take k front) None = subst (λ (es : List (List ℕ)). ReadChecks 0 es None) (sym (take-take k c.args.count entries (omega (arith, c.loop-place-test.true)))) c.loop-place.invariant.reads in
    rw (p.1, p.2) (entry_answers front k x c.in_err-read.field-0.0 here reads (c.in_err-read.ensures.check x own))

pub loop-place-preserved : goal.loop-place-preserved
loop-place-preserved c =
    let entries = c.args.entries in
    let k = c.loop-place.place in
    let x = get_or entries k [] in
    let at : slice_get entries k ≡ Some x = slice_get-get_or entries k [] (omega (arith, c.loop-place-test.true)) in
    let own : slice_get c.loop-place.loading.entries k ≡ Some x = ap (λ (es : List (List ℕ)). slice_get es k) c.loop-place.invariant.entries ∙ at in
    record {
      reads = reads_more entries k x at c.loop-place.invariant.reads (c.in_ok-read.ensures.check x own);
      entries = c.in_ok-read.ensures.entries ∙ c.loop-place.invariant.entries;
      read = c.in_ok-read.ensures.read;
    }

pub returns-clause-check : goal.returns-clause-check
returns-clause-check c =
    let end : c.loop-place.place ≡ c.args.count = let le = c.loop-place.auto.place-end in omega (arith, c.loop-place-test.false) in
    subst (λ (n : ℕ). ReadChecks 0 (take n c.args.entries) None) end c.loop-place.invariant.reads

pub returns-clause-loaded : goal.returns-clause-loaded
returns-clause-loaded c =
    let end : c.loop-place.place ≡ c.args.count = let le = c.loop-place.auto.place-end in omega (arith, c.loop-place-test.false) in
    subst (λ (es : List (List ℕ)). IsLoaded (take c.args.count es) c.loop-place.loading) c.loop-place.invariant.entries
    (loaded_of c.args.count c.loop-place.loading (subst (λ (n : ℕ). IsReadTo n c.loop-place.loading) end c.loop-place.invariant.read))
