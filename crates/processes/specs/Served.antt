-- What the processes write (this project's own).
use Rattle.std.specs.Prelude.{ℕ, ◌+◌, List, [], codes, Option}
use Rattle.std.specs.String.{string_bytes}
use Rattle.coordinator.specs.Seen.{Seen}
use Rattle.farmwire.specs.declared.sealing.TheConstants.{LINE_LIMIT}
use Rattle.nodefilter.specs.declared.filter.NodeFilter.{NodeFilter}
use Rattle.nodefilter.specs.declared.starting.Started.{Started}
use Rattle.nodefilter.specs.Filters.{IsSettled}
use Rattle.nodefilter.specs.Rules.{node_steps}
use Rattle.nodestore.specs.Stores.{Kept, HadBytes}
use Rattle.saverecord.specs.Texts.{Texts}
use Rattle.coordinatorfilter.specs.Carried.{Saving, Loading, Syncing}
use Rattle.services.specs.Lines.{lines_behind}
use Rattle.coordinatorfilter.specs.Rules.{filter_steps}
use Rattle.services.specs.Served.{Serves}
use Rattle.coordinatorfilter.specs.Written.{MakesLast}
use Rattle.farmwire.specs.Sealed.{Keys}

-- what a coordinator writes first
abbrev pub started_text : List ℕ
started_text = codes "= started\n"

-- it greeted, and then answered each whole line of the text, each from the coordinator that the one before it left; and
-- before answers were written, the keeper made last what they say
abbrev pub IsServed : {K : Type 0} → Saving K → Loading K → Syncing K → (K → Texts) → (K → Texts) → Keys → List ℕ
    → Seen K → Seen K → Option (List ℕ) → Option (List ℕ) → Type 0
IsServed saving loading syncing kept lasting keys text old new before after =
    Serves (filter_steps saving loading kept keys) (MakesLast syncing loading kept lasting) (LINE_LIMIT + 2) started_text (lines_behind [] text) old new before after

-- a node greeted, and then answered each whole line of the text, each from what the one before it left
abbrev pub IsNodeServed : {S : Type 0} → Kept S → (S → ℕ) → HadBytes S → Started S → List ℕ → Option (List ℕ) → Option (List ℕ) → Type 0
IsNodeServed {S} kept last_life had started text before after =
    (new : NodeFilter S)
    × Serves (node_steps kept last_life had) IsSettled (LINE_LIMIT + 2) (string_bytes started.greeting) (lines_behind [] text) started.filter new before after
