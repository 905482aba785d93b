-- What the calls of a run say of a job's answer (this project's own).
use Rattle.std.specs.Prelude.{⊤, ◌≡◌, ℕ, Bool, true, List, length, All, Some, slice_get}
use Rattle.std.specs.List.{Contains}
use Rattle.names.specs.declared.digest.Digest.{Digest}
use Rattle.names.specs.declared.digest.Key.{Key}
use Rattle.executions.specs.declared.call.Call.{Call}
use Rattle.ordering.specs.Flags.{flag_at}
use Rattle.vertices.specs.Edges.{list_at}
use Rattle.vertices.specs.Loading.{GraphParts}
use Rattle.solverkeys.specs.Keyed.{KeyedParts}
use Rattle.keytable.specs.Reaching.{IsNeeded}
use Rattle.reasons.specs.NewCalls.{GaveOutputs, Gave, HasNone, on_node}
use Rattle.reasons.specs.declared.solved.Made.{Made}
use Rattle.reasons.specs.declared.solved.Look.{Look}
use Rattle.reasons.specs.declared.solved.Look.TheVariants.{Given, Fails, Open}

module _ (news : List (List Call)) (k : KeyedParts) where
  -- the digest is the output that the job's result names, and each key that it depends on has a call that gave outputs
  pub record IsSolved (digest : Digest) : Type 0 where
    pub result : (key : Key) → slice_get k.keys k.graph.result.0 ≡ Some key → Gave news key k.graph.result.1 digest
    pub needed : (number : ℕ) (key : Key) → IsNeeded k.graph number → slice_get k.keys number ≡ Some key
        → GaveOutputs news key

-- the job takes the output of this index of the vertex: as its result, or by an edge of a vertex that it depends on
pub data Takes (g : GraphParts) (number index : ℕ) : Type 0 where
  result : g.result ≡ (number, index) → Takes g number index
  input : (user : ℕ) → IsNeeded g user → Contains (list_at g.edges user) (number, index) → Takes g number index

-- there is no such output: the call of the vertex's key failed, or gave none of this index
abbrev pub LacksAt : List (List Call) → List Key → ℕ → ℕ → Type 0
LacksAt news keys number index = (key : Key) × (slice_get keys number ≡ Some key) × HasNone news key index

-- the job takes an output that isn't there
pub record IsFailing (news : List (List Call)) (k : KeyedParts) : Type 0 where
  pub number : ℕ
  pub index : ℕ
  pub takes : Takes k.graph number index
  pub lacks : LacksAt news k.keys number index

-- ---- while the calls are looked through

-- the calls that are looked through
abbrev pub news_in : Made → List (List Call)
news_in made = on_node made.node made.news.now

-- a flag for each key; a call gave outputs of those that are flagged
pub record AreGiven (news : List (List Call)) (keys : List Key) (flags : List Bool) : Type 0 where
  pub count : length flags ≡ length keys
  pub given : (number : ℕ) (key : Key) → flag_at flags number ≡ true → slice_get keys number ≡ Some key
      → GaveOutputs news key

-- the inputs of the vertex are flagged, if it is
abbrev pub IsClosedAt : GraphParts → List Bool → ℕ → Type 0
IsClosedAt g flags number = flag_at flags number ≡ true
    → All (λ (edge : ℕ × ℕ). flag_at flags edge.0 ≡ true) (list_at g.edges number)

-- the inputs of what is flagged are flagged
abbrev pub IsClosed : GraphParts → List Bool → Type 0
IsClosed g flags = (number : ℕ) → IsClosedAt g flags number

-- what a look says
abbrev pub Looks : List (List Call) → List Key → ℕ → ℕ → Look → Type 0
Looks news keys number index Given = ⊤
Looks news keys number index Fails = LacksAt news keys number index
Looks news keys number index Open = ⊤
