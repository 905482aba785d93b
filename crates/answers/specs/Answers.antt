-- What the program prints for a definition, a record or a schedule (this project's own).
use Rattle.std.specs.Prelude.{◌≡◌, ⊤, ℕ, List, [], ◌∷◌, ◌++◌, length, map, codes, decimal, slice_get, Option, Some, None, Ok, Err}
use Rattle.names.specs.declared.digest.Digest.{Digest}
use Rattle.names.specs.declared.digest.Key.{Key}
use Rattle.names.specs.Digests.{digest_text, key_text}
use Rattle.vertices.specs.declared.vertex.Vertex.{Vertex}
use Rattle.vertices.specs.Loading.{GraphParts, IsGraphOf, DefinitionCheck}
use Rattle.opsproto.specs.declared.definition.Definition.{Definition}
use Rattle.opsproto.specs.Definitions.{definition_at}
use Rattle.solverkeys.specs.GraphKeys.{AreKeys}
use Rattle.answers.specs.declared.answered.RefusedEvent.{RefusedEvent}
use Rattle.answers.specs.declared.command.Command.{Command}
use Rattle.answers.specs.declared.command.Command.TheVariants.{Check, Keys, Wants, Record, Replay, Draw}
use Rattle.answers.specs.Drawings.{IsDrawn}
use Rattle.answers.specs.Records.{IsRecordText, IsNoRecord}
use Rattle.answers.specs.Replays.{AreRefusedIn, IsReplayed, IsUnread}
use Rattle.answers.specs.Wants.{AreWantsListed}
use Rattle.answers.specs.declared.failure.Failure.{Failure}
use Rattle.answers.specs.declared.failure.Failure.TheVariants as failure

-- `vertices N result DIGEST INDEX`
abbrev pub result_text : ℕ → Digest → ℕ → List ℕ
result_text len digest index =
    codes "vertices " ++ decimal len ++ codes " result " ++ digest_text digest ++ codes " " ++ decimal index ++ codes "\n"

-- what `check` prints: the result's vertex by its digest
abbrev pub check_of : GraphParts → Option Vertex → List ℕ
check_of g None = []
check_of g (Some v) = result_text (length g.vertices) v.digest g.result.1

abbrev pub check_text : GraphParts → List ℕ
check_text g = check_of g (slice_get g.vertices g.result.0)

-- `DIGEST KEY`
abbrev pub key_line : Digest → Key → List ℕ
key_line d k = digest_text d ++ codes " " ++ key_text k ++ codes "\n"

-- the digests of vertices
abbrev pub vertex_digests : List Vertex → List Digest
vertex_digests vs = map (λ (v : Vertex). v.digest) vs

-- a line for each digest, with its key
abbrev pub keys_text : List Digest → List Key → List ℕ
keys_text [] ks = []
keys_text (d ∷ ds) [] = []
keys_text (d ∷ ds) (k ∷ ks) = key_line d k ++ keys_text ds ks

-- the bytes spell a definition whose graph this is
abbrev pub SpellsGraph : List ℕ → GraphParts → Type 0
SpellsGraph bytes g = (d : Definition) × (definition_at bytes ≡ Ok d) × IsGraphOf d.def g

-- why they don't: the first refusal of the definition's bytes, or of its graph
abbrev pub IsNoGraph : List ℕ → Failure → Type 0
IsNoGraph bytes (failure.Read e) = definition_at bytes ≡ Err e
IsNoGraph bytes (failure.Load e) = (d : Definition) × (definition_at bytes ≡ Ok d) × DefinitionCheck d.def (Some e)
IsNoGraph bytes (failure.Schedule e) = ⊥
IsNoGraph bytes (failure.Record e) = ⊥
IsNoGraph bytes (failure.Entry place e) = ⊥
IsNoGraph bytes (failure.BadHead place) = ⊥
IsNoGraph bytes failure.Memory = ⊤

-- what `keys` prints for a graph: a line for each vertex, by rising place
abbrev pub AreListed : GraphParts → List ℕ → Type 0
AreListed g text = (keys : List Key) × AreKeys g keys × (text ≡ keys_text (vertex_digests g.vertices) keys)

-- what is printed for bytes
abbrev pub IsAnswer : Command → List ℕ → List ℕ → Type 0
IsAnswer Check bytes text = (g : GraphParts) × SpellsGraph bytes g × (text ≡ check_text g)
IsAnswer Keys bytes text = (g : GraphParts) × SpellsGraph bytes g × AreListed g text
IsAnswer Wants bytes text = (g : GraphParts) × SpellsGraph bytes g × AreWantsListed g text
IsAnswer Record bytes text = IsRecordText bytes text
IsAnswer Replay bytes text = IsReplayed bytes text
IsAnswer (Draw range) bytes text = IsDrawn range bytes text

-- the events of a schedule that the farm refuses, where it is replayed
abbrev pub AreRefused : Command → List ℕ → List RefusedEvent → Type 0
AreRefused Replay bytes refused = AreRefusedIn bytes refused
AreRefused _ bytes refused = refused ≡ []

-- why nothing is printed
abbrev pub IsRefused : Command → List ℕ → Failure → Type 0
IsRefused Check = IsNoGraph
IsRefused Keys = IsNoGraph
IsRefused Wants = IsNoGraph
IsRefused Record = IsNoRecord
IsRefused Replay = IsUnread
IsRefused (Draw range) = IsUnread
