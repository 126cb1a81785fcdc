-- Serves proofs alone: the part of a graph that some modules reach.
use Rattle.std.specs.Prelude.{◌≡◌, ◌≤◌, ◌⊎◌, ℕ, ◌+◌, ◌*◌, Bool, true, false, ◌&&◌, List, length, slice_index_or}
use Rattle.std.specs.List.{list_all, sum_by}
use Rattle.load_plan.specs.declared.graph.Target.{Target}
use Rattle.load_plan.specs.declared.graph.Target.TheVariants.{Slot, Missing}
use Rattle.load_plan.specs.Graph.{Node, node_at}
use Rattle.load_plan.specs.Walk.{has}

-- a module of the part, or a name without a module
abbrev pub is_target_in : (ℕ → Bool) → Target → Bool
is_target_in p (Slot m) = p m
is_target_in p (Missing name) = true

abbrev pub names_in : (ℕ → Bool) → Node → Bool
names_in p node =
    list_all (is_target_in p) node.hard && list_all (is_target_in p) node.pre && list_all (is_target_in p) node.post

-- v has the nodes of w at some modules, and these name none but themselves
pub record IsPart (w v : List Node) (p : ℕ → Bool) : Type 0 where
  pub long : length v ≡ length w
  pub same : (m : ℕ) → p m ≡ true → node_at v m ≡ node_at w m
  pub closed : (m : ℕ) → p m ≡ true → names_in p (node_at w m) ≡ true

abbrev pub known_at : List Bool → ℕ → Bool
known_at known m = slice_index_or known m false

abbrev pub unknown : Bool → ℕ
unknown true = 0
unknown false = 1

-- a bound on what is left to do: each module that is not known may still be left, and is then read
abbrev pub cost : List Bool → List ℕ → ℕ
cost known left = 2 * sum_by unknown known + length left

-- All modules of the part are settled, and name none but themselves.
pub record AreClosed (graph : List Node) (sure part : List Bool) : Type 0 where
  pub long : length part ≡ length graph
  pub settled : (m : ℕ) → known_at part m ≡ true → known_at sure m ≡ true
  pub names : (m : ℕ) → known_at part m ≡ true → names_in (known_at part) (node_at graph m) ≡ true

-- Some modules more are known, and those are left; what was left is left.
pub record Adds (known : List Bool) (left : List ℕ) (more : List Bool) (behind : List ℕ) : Type 0 where
  pub long : length more ≡ length known
  pub grows : (m : ℕ) → known_at known m ≡ true → known_at more m ≡ true
  pub stays : (m : ℕ) → has left m ≡ true → has behind m ≡ true
  pub comes : (m : ℕ) → known_at more m ≡ true → (known_at known m ≡ true) ⊎ (has behind m ≡ true)
  pub among : (m : ℕ) → has behind m ≡ true → (has left m ≡ true) ⊎ (known_at more m ≡ true)
  pub ends : cost more behind ≤ cost known left
