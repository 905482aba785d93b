-- What `run` prints (this project's own).
use Rattle.std.specs.Prelude.{◌≡◌, ℕ, List, [], ◌∷◌, ◌++◌, codes, decimal, map, Some, option_map}
use Rattle.std.specs.List.{AllZip}
use Rattle.std.specs.String.{string_bytes}
use Rattle.std.specs.declared.vec.Vec.{Vec}
use Rattle.std.specs.declared.alloc.Global.{Global}
use Rattle.names.specs.declared.number.NodeId.{NodeId}
use Rattle.names.specs.Digests.{digest_text}
use Rattle.solverkeys.specs.Keyed.{KeyedParts}
use Rattle.solverkeys.specs.GraphKeys.{AreKeys}
use Rattle.answers.specs.Answers.{SpellsGraph}
use Rattle.events.specs.declared.event.Event.{Event}
use Rattle.schedule.specs.declared.setup.Setup.{Setup}
use Rattle.jobs.specs.declared.answer.Answer.{Answer}
use Rattle.jobs.specs.declared.answer.Answer.TheVariants.{Waiting, Output, Failed}
use Rattle.saverecord.specs.Logs.{Holds}
use Rattle.saverecord.specs.Texts.{whole_alone}
use Rattle.farm.specs.Answers.{AreAnswered}
use Rattle.farm.specs.Call.{Call}
use Rattle.farm.specs.Calls.{Grew}
use Rattle.farm.specs.Ends.{failed_in}
use Rattle.farm.specs.Replays.{farm_after, commits_after}
use Rattle.commands.specs.Acts.{File}

-- `DIGEST`, or `failed`
abbrev pub answer_text : Answer → List ℕ
answer_text (Output digest) = digest_text digest
answer_text Failed = codes "failed"
answer_text Waiting = codes "waiting"

-- `FILE DIGEST`, or `FILE failed`
abbrev pub job_line : List ℕ → Answer → List ℕ
job_line name answer = name ++ codes " " ++ answer_text answer ++ codes "\n"

-- a line for each file
abbrev pub job_lines : List (List ℕ) → List Answer → List ℕ
job_lines [] answers = []
job_lines (name ∷ names) [] = []
job_lines (name ∷ names) (answer ∷ answers) = job_line name answer ++ job_lines names answers

-- `commits C`
abbrev pub commits_line : ℕ → List ℕ
commits_line commits = codes "commits " ++ decimal commits ++ codes "\n"

-- the names of files
abbrev pub names_of : List File → List (List ℕ)
names_of files = map (λ (file : File). string_bytes file.0) files

-- the job of a file: its bytes spell the job's graph, whose vertices have these keys
pub record IsJobOf (file : File) (job : NodeId × KeyedParts) : Type 0 where
  pub bytes : List ℕ
  pub read : option_map (λ (v : Vec ℕ Global). v.items) file.1 ≡ Some bytes
  pub graph : SpellsGraph bytes job.1.graph
  pub keys : AreKeys job.1.graph job.1.keys

-- what is printed for a run of jobs, of files of these names, by executors on these nodes that had made these calls: there
-- is a schedule of the farm, and for each job an answer that has its reason in the executors' new calls on the job's node
-- or in a Denied; as many commits are printed as grants of the schedule ended committed; and these are the places of the
-- files that failed
pub record IsRun (setup : Setup) (names : List (List ℕ)) (jobs : List (NodeId × KeyedParts)) (nodes : List NodeId)
    (had : List (List Call)) (text failed : List ℕ) : Type 0 where
  pub events : List Event
  -- those of each executor at the end
  pub calls : List (List Call)
  pub answers : List Answer
  pub grew : AllZip Grew had calls
  pub answered : AreAnswered (farm_after setup events) nodes had calls jobs answers
  pub text_is : text ≡ job_lines names answers ++ commits_line (commits_after setup events)
  pub failed_are : failed ≡ failed_in answers

-- what is printed for files: that of a run of their jobs
abbrev pub IsRunOf : Setup → List File → List NodeId → List (List Call) → List ℕ → List ℕ → Type 0
IsRunOf setup files nodes had text failed = (jobs : List (NodeId × KeyedParts)) × AllZip IsJobOf files jobs
    × IsRun setup (names_of files) jobs nodes had text failed

-- the bytes are the coordinator's record after some schedule of the farm
abbrev pub IsRecordOf : Setup → List ℕ → Type 0
IsRecordOf setup saved = (events : List Event) × Holds (whole_alone saved) (farm_after setup events).saved
