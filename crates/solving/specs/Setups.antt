-- What a run of a farm can begin with (this project's own).
use Rattle.std.specs.Prelude.{Bool, ◌&&◌, ◌==◌, nat_le, List}
use Rattle.std.specs.List.{list_all, list_any}
use Rattle.names.specs.declared.limits.TheConstants.{NODES}
use Rattle.names.specs.declared.number.NodeId.{NodeId}
use Rattle.schedule.specs.declared.setup.Setup.{Setup}

-- the farm has 1 to 1,024 nodes
abbrev pub is_in_range : Setup → Bool
is_in_range setup = nat_le 1 setup.nodes && nat_le setup.nodes NODES

-- the node is one of the farm's
abbrev pub is_there : Setup → NodeId → Bool
is_there setup node = nat_le 1 node.0 && nat_le node.0 setup.nodes

-- each executor is on a node of the farm, and each job has an executor on its node
abbrev pub is_staffed : {A B : Type 0} → Setup → List (NodeId × A) → List (NodeId × B) → Bool
is_staffed setup jobs executors = is_in_range setup
    && (list_all (λ e. is_there setup e.0) executors
    && list_all (λ job. list_any (λ e. e.0.0 == job.0.0) executors) jobs)

-- each job is on node 1
abbrev pub is_of_one : {A : Type 0} → Setup → List (NodeId × A) → Bool
is_of_one setup jobs = is_in_range setup && list_all (λ job. job.0.0 == 1) jobs
