-- Serves proofs alone: graphs in which no soft item is a module.
use Rattle.std.specs.Prelude.{◌≡◌, ℕ, ◌<◌, Bool, true, false, List, ◌++◌, length}
use Rattle.std.specs.List.{list_all}
use Rattle.load_plan.specs.declared.graph.Target.{Target}
use Rattle.load_plan.specs.declared.graph.Target.TheVariants.{Slot, Missing}
use Rattle.load_plan.specs.Graph.{Node, node_at}

abbrev pub is_missing : Target → Bool
is_missing (Slot m) = false
is_missing (Missing name) = true

abbrev pub names_no_soft_module : Node → Bool
names_no_soft_module node = list_all is_missing (node.pre ++ node.post)

abbrev pub HasNoSoftModules : List Node → Type 0
HasNoSoftModules graph = (m : ℕ) → m < length graph → names_no_soft_module (node_at graph m) ≡ true
