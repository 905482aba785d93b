-- What a look at the farm says of a token.
use Rattle.std.specs.Prelude.{◌≡◌, ◌≢◌, Bool, true, false, ◌==◌, ◌&&◌, List, Option, Some}
use Rattle.std.specs.Option.{option_map}
use Rattle.protocol.specs.Lists.{nth}
use Rattle.protocol.specs.Names.{NodeId, Life, Ask, Want}
use Rattle.protocol.specs.Machine.{Grant}
use Rattle.protocol.specs.Replay.{Farm, is_node}
use Rattle.farm_base.specs.declared.message.Why.{Why}
use Rattle.events.specs.declared.answer.How.TheVariants as how
use Rattle.nodeasks.specs.Asks.{told_state}
use Rattle.nodeasks.specs.declared.ask_state.AskState.{AskState}
use Rattle.nodeasks.specs.declared.ask_state.AskState.TheVariants as state
use Rattle.farmhistory.specs.History.{History, farm_of}
use Rattle.farmboard.specs.declared.tokens.Asked.{Asked}
use Rattle.farmboard.specs.declared.tokens.Accept.{Accept}
use Rattle.farmboard.specs.declared.tokens.Accept.TheVariants as accept

-- the node is there, and has not restarted since this life
abbrev pub is_in_life : Farm → NodeId → Life → Bool
is_in_life farm node life = is_node farm node && ((farm.nodes node.0).life.0 == life.0)

-- how an ask of the node's present life stands
abbrev pub state_of : Farm → NodeId → Ask → Option AskState
state_of farm node ask = option_map told_state (nth (farm.nodes node.0).asks ask.0)

-- the ask is neither granted nor denied
abbrev pub IsUndecided : Option AskState → Type 0
IsUndecided found = ((grant : Grant) → found ≢ Some (state.Granted grant)) × ((why : Why) → found ≢ Some (state.Over (how.Denied why)))

-- an ask of the node, in the life that it was in, with these wants
pub record IsAskOf (history : History) (asker : NodeId) (wanted : List Want) (asked : Asked) : Type 0 where
  pub node : asked.node ≡ asker
  pub life : asked.life ≡ ((farm_of history).nodes asker.0).life
  pub wants : asked.wants ≡ wanted

-- lost: the node restarted since; else the ask is granted, denied, or neither
abbrev pub Accepts : Farm → Asked → Accept → Type 0
Accepts farm asked accept.Lost = is_in_life farm asked.node asked.life ≡ false
Accepts farm asked (accept.Granted granted) = (is_in_life farm asked.node asked.life ≡ true)
    × (state_of farm asked.node asked.ask ≡ Some (state.Granted granted.grant))
    × (granted.node ≡ asked.node) × (granted.life ≡ asked.life) × (granted.wants ≡ asked.wants)
Accepts farm asked (accept.Denied why) = (is_in_life farm asked.node asked.life ≡ true)
    × (state_of farm asked.node asked.ask ≡ Some (state.Over (how.Denied why)))
Accepts farm asked (accept.Waiting token) = (is_in_life farm asked.node asked.life ≡ true) × IsUndecided (state_of farm asked.node asked.ask) × (token ≡ asked)
