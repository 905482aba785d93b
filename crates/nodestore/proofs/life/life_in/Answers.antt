use Rattle.std.proofs.Common.{◌≡◌, ℕ, ◌==◌, true, ◌∷◌, ◌++◌, [], List, length, codes, ap, arith}
use Rattle.std.specs.Prelude.{decimal}
use Rattle.nodestore.proofs.LifeLemmas.{same_number}
use Rattle.nodestore.proofs.life.life_in.Goals as goal

pub returns-in_err-life-clause-only : goal.returns-in_err-life-clause-only
returns-in_err-life-clause-only c = rw c.from_residual-in_err-life.ensures (λ node life small lt e.
    let front = c.in_ok-node.ensures in
    let same = same_number (codes "node ") c.in_ok-node.rest.now (codes "life " ++ (decimal life.0 ++ 10 ∷ [])) c.args.text.now 32 c.in_ok-node.node node.0 (omega arith) front.range (omega arith) front.found e in
    c.in_err-life.ensures.only life.0 [] lt same.1)

pub returns-then-node-clause-only : goal.returns-then-node-clause-only
returns-then-node-clause-only c = λ node life small lt e.
    let front = c.in_ok-node.ensures in
    let same = same_number (codes "node ") c.in_ok-node.rest.now (codes "life " ++ (decimal life.0 ++ 10 ∷ [])) c.args.text.now 32 c.in_ok-node.node node.0 (omega arith) front.range (omega arith) front.found e in
    let number : c.in_ok-node.node ≡ node.0 = same.0 in
    omega arith

pub returns-then-not-is_empty-clause-only : goal.returns-then-not-is_empty-clause-only
returns-then-not-is_empty-clause-only c = λ node life small lt e.
    let front = c.in_ok-node.ensures in
    let same = same_number (codes "node ") c.in_ok-node.rest.now (codes "life " ++ (decimal life.0 ++ 10 ∷ [])) c.args.text.now 32 c.in_ok-node.node node.0 (omega arith) front.range (omega arith) front.found e in
    let back = c.in_ok-life.ensures in
    let behind = same_number (codes "life ") c.in_ok-life.end.now [] c.in_ok-node.rest.now 10 c.in_ok-life.life life.0 (omega arith) back.range lt back.found same.1 in
    let none : c.in_ok-life.end.now ≡ [] = behind.1 in
    let empty : (length c.in_ok-life.end.now == 0) ≡ true = ap (λ (text : List ℕ). length text == 0) none in
    cc (c.is_empty.ensures, empty, c.if-not-is_empty.true)
