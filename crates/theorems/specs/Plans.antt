-- The order of plans, by the places in their lists.
use Rattle.std.specs.Prelude.{◌≡◌, ℕ, ◌<◌, List, [], length, slice_index, Contains, Some}
use Rattle.load_plan.specs.Graph.{Node, node_at}
use Rattle.load_plan.specs.Sources.{target_at}

-- the module d is a hard dependency of the module m
abbrev pub Needs : List Node → ℕ → ℕ → Type 0
Needs graph m d = Contains (node_at graph m).hard (target_at [] (Some d))

-- no number stands twice
abbrev pub EachOnce : List ℕ → Type 0
EachOnce ms = (i j : ℕ) → i < length ms → j < length ms → slice_index ms i ≡ slice_index ms j → i ≡ j

-- each hard dependency of a module of the list stands in it, before the module
abbrev pub NeedsFirst : List Node → List ℕ → Type 0
NeedsFirst graph ms =
    (i d : ℕ) → i < length ms → Needs graph (slice_index ms i) d → (j : ℕ) × (j < i) × (slice_index ms j ≡ d)

-- each hard dependency of a module of the list stands in it, after the module
abbrev pub UsersFirst : List Node → List ℕ → Type 0
UsersFirst graph ms =
    (i d : ℕ) → i < length ms → Needs graph (slice_index ms i) d
    → (j : ℕ) × (i < j) × (j < length ms) × (slice_index ms j ≡ d)
