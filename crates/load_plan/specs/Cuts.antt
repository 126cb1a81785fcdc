-- Serves proofs alone: the targets of all modules in one list, and for each module where its own stand there.
use Rattle.std.specs.Prelude.{◌≡◌, ℕ, ◌≤◌, Bool, true, false, List, ◌++◌, length, map, slice_index_or, slice_range}
use Rattle.load_plan.specs.declared.graph.Target.{Target}
use Rattle.load_plan.specs.declared.graph.Row.{Row}
use Rattle.load_plan.specs.Graph.{Node, is_bounded}
use Rattle.load_plan.specs.SoftModules.{HasNoSoftModules}

-- the row of a module that names nothing
abbrev pub no_row : Row
no_row = record { hard_from = 0; pre_from = 0; post_from = 0; end = 0; installs = false }

-- what a row cuts out of the targets
abbrev pub node_in : List Target → Row → Node
node_in targets row =
    record {
      hard = slice_range targets row.hard_from row.pre_from;
      pre = slice_range targets row.pre_from row.post_from;
      post = slice_range targets row.post_from row.end;
      installs = row.installs;
    }

abbrev pub nodes_in : List Target → List Row → List Node
nodes_in targets rows = map (node_in targets) rows

-- the parts of a row stand one after the other, among so many targets
pub record Fits (n : ℕ) (row : Row) : Type 0 where
  pub hard : row.hard_from ≤ row.pre_from
  pub pre : row.pre_from ≤ row.post_from
  pub post : row.post_from ≤ row.end
  pub within : row.end ≤ n

abbrev pub AllFit : ℕ → List Row → Type 0
AllFit n rows = (m : ℕ) → Fits n (slice_index_or rows m no_row)

-- no module names a slot outside, and each row fits
pub record AreRows (targets : List Target) (rows : List Row) : Type 0 where
  pub bounded : is_bounded (nodes_in targets rows) ≡ true
  pub fit : AllFit (length targets) rows

-- such rows, and whether a soft item is a module: a true flag says nothing
pub record IsGraph (targets : List Target) (rows : List Row) (has_soft : Bool) : Type 0 where
  pub are_rows : AreRows targets rows
  pub plain : has_soft ≡ false → HasNoSoftModules (nodes_in targets rows)

-- the targets of a node came after the others, if its row says
pub record Appends (before after : List Target) (row : Row) (node : Node) : Type 0 where
  pub more : List Target
  pub behind : after ≡ before ++ more
  pub fits : Fits (length after) row
  pub same : node_in after row ≡ node
