-- How the process of a node begins (this project's own).
use Rattle.std.specs.Prelude.{◌≡◌, ℕ, true, false, List, [], ◌++◌, codes}
use Rattle.std.specs.List.{flat_map}
use Rattle.std.specs.String.{string_bytes}
use Rattle.names.specs.declared.digest.Digest.{Digest}
use Rattle.words.specs.Words.{digits_text}
use Rattle.nodecore.specs.declared.message.NodeDone.{NodeDone}
use Rattle.nodeasks.specs.Rows.{none_lost}
use Rattle.nodecore.specs.Shown.{work_of}
use Rattle.nodecontents.specs.Stored.{kept_node}
use Rattle.protocol.specs.Farm.{farm_limits}
use Rattle.protocol.specs.Nodes.{Place, restarted, may_restart}
use Rattle.nodelines.specs.declared.about.About.TheVariants as about
use Rattle.nodefilter.specs.declared.starting.Origin.{Origin}
use Rattle.nodefilter.specs.declared.starting.Started.{Started}
use Rattle.nodefilter.specs.States.{seen, IsSound}
use Rattle.nodestore.specs.Stores.{Kept}
use Rattle.nodelines.specs.Written.{IsDone}
use Rattle.farmwire.specs.Sealed.{key_in}

-- which node it is, and how many there are
abbrev pub place_in : {S : Type 0} → Origin S → Place
place_in origin = record { node = origin.me; nodes = origin.nodes }

-- `: skipped DIGEST`
abbrev pub skipped_fact : Digest → List ℕ
skipped_fact digest = codes ": skipped " ++ digits_text digest ++ codes "\n"

-- the node is what a restart makes of what was kept; its life is kept, and the greeting says it
pub record Begins {S : Type 0} (kept : Kept S) (last_life : S → ℕ) (origin : Origin S)
    (started : Started S) : Type 0 where
  pub done : NodeDone
  pub begun : restarted (place_in origin) (kept_node origin.last origin.contents.items []) ≡ work_of (seen started.filter).node done
  -- its life isn't over for good
  pub in_range : may_restart farm_limits (kept_node origin.last origin.contents.items []) ≡ true
  pub place : (seen started.filter).at ≡ place_in origin
  pub told : (seen started.filter).forgets ≡ none_lost
  pub me : (seen started.filter).me ≡ origin.me
  pub keys : (seen started.filter).keys ≡ key_in origin.keys
  pub up : (seen started.filter).down ≡ false
  pub life : last_life (seen started.filter).store ≡ (seen started.filter).node.life.0
  pub sound : IsSound kept (seen started.filter)
  pub written : IsDone (key_in origin.keys) (flat_map skipped_fact origin.skipped.items) about.Nothing done (string_bytes started.greeting)
