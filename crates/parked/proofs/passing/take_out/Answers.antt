use Rattle.std.proofs.Common.{◌≡◌, ◌<◌, ◌+◌, ◌-◌, ℕ, List, length, drop, take, get_or, vec_len, ◌++◌, ◌∙◌, ap, arith}
use Rattle.parked.proofs.PassedWords.{other_default, one_taken}
use Rattle.parked.proofs.passing.take_out.Goals as goal

pub returns-then-is_one_late-clause-left : goal.returns-then-is_one_late-clause-left
returns-then-is_one_late-clause-left g c =
    let was = c.args.items.now.items in
    let over : List ℕ = c.args.over.now.places.items in
    let start : ℕ = c.args.start in
    let one = c.is_one_late.ensures c.if-is_one_late.true in
    let len : vec_len c.args.items.now ≡ length was = c.args.items.now.ok.0 in
    let count : c.len.result ≡ vec_len c.args.items.now = c.len.ensures in
    let places : vec_len c.args.over.now.places ≡ length over = c.args.over.now.places.ok.0 in
    let single : vec_len c.args.over.now.places ≡ 1 = one.0 in
    let inside : get_or over 0 0 < c.len.result - start = one.1 in
    let is : c.index.result.now ≡ get_or over 0 0 = c.index.ensures ∙ other_default over 0 c.index.result.now 0 (omega arith) in
    ap (drop start) c.remove.ensures.by_index.2
    ∙ ap (λ (n : ℕ). drop start (take (start + n) was ++ drop (start + n + 1) was)) is
    ∙ one_taken start over was (omega arith) (omega arith)
