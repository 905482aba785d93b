-- What a lawful farm lets its coordinator be asked.
use Rattle.std.proofs.Common.{◌≡◌, ℕ, ◌≤◌, Bool, true, Some, List}
use Rattle.std.proofs.Math.Logic.{∥∥₁_elim}
use Rattle.std.proofs.Props.{props}
use Rattle.farm_base.specs.Wanted.{IsWants}
use Rattle.names.specs.declared.limits.TheConstants.{NODES}
use Rattle.farm_base.specs.declared.message.Request.{Request}
use Rattle.farm_base.specs.declared.message.Request.TheVariants.{Hello, Acquire, Commit, Release}
use Rattle.protocol.specs.Lawful.{IsNumber, IsSpeaker, AreAsked, IsRequest, IsSaid, IsLawfulFarm, are_for_tenure}
use Rattle.protocol.specs.Lists.{nth}
use Rattle.protocol.specs.Machine.{Said, ToCoord}
use Rattle.protocol.specs.Names.{NodeId, Life, Want}
use Rattle.protocol.specs.Replay.{Farm, is_node}
use Rattle.protocol.proofs.Base.{nth_in}
use Rattle.protocol.proofs.LawfulFarms.{number_of}

IsNumber-prop : (top : ℕ) (n : NodeId) → IsProp (IsNumber top n)
IsNumber-prop top n = hlevel props

IsSpeaker-prop : (top : ℕ) (n : NodeId) (l : Life) → IsProp (IsSpeaker top n l)
IsSpeaker-prop top n l x y =
    let life_prop : IsProp (1 ≤ l.0) = hlevel props in
    λ i. record {
      node = IsNumber-prop top n x.node y.node i;
      life = life_prop x.life y.life i;
    }

AreAsked-prop : (tenure : Bool) (wants : List Want) → IsProp (AreAsked tenure wants)
AreAsked-prop tenure wants x y =
    let sorted_prop : IsProp (IsWants wants) = hlevel props in
    let one_prop : IsProp (tenure ≡ true → are_for_tenure wants ≡ true) = hlevel props in
    λ i. record {
      sorted = sorted_prop x.sorted y.sorted i;
      one = one_prop x.one y.one i;
    }

IsRequest-prop : (r : Request) → IsProp (IsRequest r)
IsRequest-prop Hello = hlevel props
IsRequest-prop (Acquire a wants tenure) = hlevel (props, AreAsked-prop)
IsRequest-prop (Commit t news) = hlevel props
IsRequest-prop (Release t) = hlevel props

IsSaid-prop : (top : ℕ) (y : ToCoord) → IsProp (IsSaid top y)
IsSaid-prop top y a b = λ i. record {
  speaker = IsSpeaker-prop top y.node y.life a.speaker b.speaker i;
  request = IsRequest-prop y.request a.request b.request i;
}

-- a message to the coordinator
pub said_of : (s : Farm) (number : ℕ) (y : ToCoord) → ∥ IsLawfulFarm NODES s ∥₁ → nth s.pool number ≡ Some (Said y) → IsSaid NODES y
said_of s number y lawful here = ∥∥₁_elim lawful (IsSaid-prop NODES y) (λ f. f.pool (Said y) (nth_in s.pool number (Said y) here))

-- a node that is there
pub number_in : (s : Farm) (n : NodeId) → ∥ IsLawfulFarm NODES s ∥₁ → is_node s n ≡ true → IsNumber NODES n
number_in s n lawful here = ∥∥₁_elim lawful (IsNumber-prop NODES n) (λ f. number_of NODES s n f here)
