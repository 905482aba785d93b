-- What became of an execution that is over.
use Rattle.std.specs.Prelude.{◌≡◌, Bool, true, false, ◌&&◌, ◌||◌, not, map, Option, Some}
use Rattle.std.specs.List.{list_any, list_all}
use Rattle.protocol.specs.Lists.{nth, is_nil}
use Rattle.protocol.specs.Replay.{Farm}
use Rattle.events.specs.declared.answer.How.{How}
use Rattle.events.specs.declared.answer.How.TheVariants as how
use Rattle.nodeasks.specs.Asks.{way_out_of}
use Rattle.farmboard.specs.declared.tokens.Finished.{Finished}
use Rattle.farmboard.specs.declared.tokens.Settled.{Settled}
use Rattle.farmboard.specs.declared.tokens.Settled.TheVariants.{Receipt, Fenced, Waiting, Lost}
use Rattle.farmboard.specs.declared.settling.Fate.{Fate}
use Rattle.farmboard.specs.declared.settling.Fate.TheVariants as fate
use Rattle.farmhistory.specs.Lines.{stands, numbered, is_live}
use Rattle.farmboard.specs.Tokens.{is_in_life}

abbrev pub is_committed : Option How → Bool
is_committed (Some (how.Committed ticket versions)) = true
is_committed other = false

abbrev pub is_fenced : Option How → Bool
is_fenced (Some (how.Fenced ticket)) = true
is_fenced other = false

-- the node isn't in the token's life any more
abbrev pub has_restarted : Farm → Finished → Bool
has_restarted farm finished = not (is_in_life farm finished.node finished.life)

-- how the ask ended
abbrev pub way_out_in : Farm → Finished → Option How
way_out_in farm finished = way_out_of (nth (farm.nodes finished.node.0).asks finished.ask.0)

-- all that it left stands on the lines under its ticket, and its node has heard of it or restarted; or it left nothing
abbrev pub is_confirmed : Farm → Finished → Bool
is_confirmed farm finished = is_nil finished.versions
    || (list_all (stands farm finished.ticket) finished.versions && (has_restarted farm finished || is_committed (way_out_in farm finished)))

-- its node has heard that it doesn't count
abbrev pub is_dropped : Farm → Finished → Bool
is_dropped farm finished = not (has_restarted farm finished) && is_fenced (way_out_in farm finished)

-- its node restarted, and its ticket is neither live nor on the line of one of its slots
abbrev pub is_lost : Farm → Finished → Bool
is_lost farm finished = has_restarted farm finished && (not (is_live farm finished.ticket) && not (list_any (stands farm finished.ticket) finished.versions))

abbrev pub Fares : Farm → Finished → Fate → Type 0
Fares farm finished fate.Confirmed = is_confirmed farm finished ≡ true
Fares farm finished fate.Dropped = (is_confirmed farm finished ≡ false) × (is_dropped farm finished ≡ true)
Fares farm finished fate.Lost = (is_confirmed farm finished ≡ false) × (is_lost farm finished ≡ true)
Fares farm finished fate.Open = (is_confirmed farm finished ≡ false) × (is_dropped farm finished ≡ false) × (is_lost farm finished ≡ false)

-- a receipt has the versions with their numbers
abbrev pub Settles : Farm → Finished → Settled → Type 0
Settles farm finished (Receipt receipt) = (is_confirmed farm finished ≡ true) × (receipt.ticket ≡ finished.ticket)
    × (receipt.versions ≡ map (numbered farm finished.ticket) finished.versions)
Settles farm finished Fenced = (is_confirmed farm finished ≡ false) × (is_dropped farm finished ≡ true)
Settles farm finished Lost = (is_confirmed farm finished ≡ false) × (is_lost farm finished ≡ true)
Settles farm finished (Waiting token) = (token ≡ finished) × (is_confirmed farm finished ≡ false) × (is_dropped farm finished ≡ false) × (is_lost farm finished ≡ false)
