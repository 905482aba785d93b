use Rattle.ordering.specs.Entries.{IsVertex, NamesInput}
use Rattle.ordering.proofs.OrderLaws.{one_order}
use Rattle.ordering.proofs.laws.order_is_determined.Goals as goal

pub returns : goal.returns
returns c = λ entries. one_order (IsVertex entries) (NamesInput entries)
