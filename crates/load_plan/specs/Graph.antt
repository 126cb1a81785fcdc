-- A dependency graph: for each module the modules that it names.
use Rattle.std.specs.Prelude.{ℕ, nat_lt, Bool, true, false, ◌&&◌, List, [], length, slice_index_or}
use Rattle.std.specs.List.{list_all}
use Rattle.load_plan.specs.declared.graph.Target.{Target}
use Rattle.load_plan.specs.declared.graph.Target.TheVariants.{Slot, Missing}
use Rattle.load_plan.specs.declared.graph.Phase.{Phase}
use Rattle.load_plan.specs.declared.graph.Phase.TheVariants.{Pre, Hard, Post}

-- what a plan asks of one module: its hard dependencies, its pre items, its post items, and whether it has an install
-- line and no softdep line (modprobe.d(5))
pub record Node : Type 0 where
  pub hard : List Target
  pub pre : List Target
  pub post : List Target
  pub installs : Bool

-- what is said of a slot past the end
abbrev pub no_node : Node
no_node = record { hard = []; pre = []; post = []; installs = false }

abbrev pub node_at : List Node → ℕ → Node
node_at graph m = slice_index_or graph m no_node

-- what a module names in a phase
abbrev pub targets_of : Node → Phase → List Target
targets_of node Pre = node.pre
targets_of node Hard = node.hard
targets_of node Post = node.post

-- a slot below the number of modules, or a name without a module
abbrev pub is_within : ℕ → Target → Bool
is_within n (Slot m) = nat_lt m n
is_within n (Missing name) = true

abbrev pub names_within : ℕ → Node → Bool
names_within n node =
    list_all (is_within n) node.hard && list_all (is_within n) node.pre && list_all (is_within n) node.post

-- each slot that a module names is one of the graph
abbrev pub is_bounded : List Node → Bool
is_bounded graph = list_all (names_within (length graph)) graph
