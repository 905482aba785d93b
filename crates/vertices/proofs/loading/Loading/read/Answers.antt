use Rattle.std.proofs.Common.{ℕ, List, Option, sym, subst}
use Rattle.std.specs.Option.{IfSome}
use Rattle.vertices.specs.Taken.{IsEntry}
use Rattle.vertices.proofs.loading.Loading.read.Goals as goal

pub add-requires-clause-entry : goal.add-requires-clause-entry
add-requires-clause-entry c = subst (λ (o : Option (List ℕ)). IfSome o (λ bytes. IsEntry c.args.place bytes c.in_ok-entry.entry)) (sym c.body.ensures) c.in_ok-entry.ensures.entry
