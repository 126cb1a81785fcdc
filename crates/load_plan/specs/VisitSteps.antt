-- Serves proofs alone: one step of a visit with a stack of its own.
use Rattle.std.specs.Prelude.{◌≡◌, ℕ, ◌+◌, ◌<◌, Bool, true, false, not, List, [], ◌∷◌, drop}
use Rattle.std.specs.Prelude.{length}
use Rattle.load_plan.specs.declared.graph.Target.{Target}
use Rattle.load_plan.specs.declared.graph.Target.TheVariants.{Slot}
use Rattle.load_plan.specs.declared.walk.Mark.{Mark}
use Rattle.load_plan.specs.declared.walk.Mark.TheVariants.{New}
use Rattle.load_plan.specs.declared.graph.Phase.{Phase}
use Rattle.load_plan.specs.declared.graph.Phase.TheVariants.{Pre, Hard, Post}
use Rattle.load_plan.specs.declared.visit.Stage.{Stage}
use Rattle.load_plan.specs.declared.visit.Move.{Move}
use Rattle.load_plan.specs.declared.visit.Move.TheVariants.{Turn, Append, Leave, Pass, Enter}
use Rattle.load_plan.specs.Graph.{Node, node_at, targets_of}
use Rattle.load_plan.specs.Walk.{has}
use Rattle.load_plan.specs.Plan.{is_clean, is_done}
use Rattle.load_plan.specs.ForProofs.{mark_at}

-- what is left to visit in a phase
abbrev pub left_of : List Node → Stage → List Target
left_of graph stage = drop stage.visited (targets_of (node_at graph stage.slot) stage.phase)

abbrev pub next_stage : Stage → Stage
next_stage stage = record { slot = stage.slot; phase = stage.phase; visited = stage.visited + 1 }

abbrev pub first_stage : Phase → ℕ → Stage
first_stage phase m = record { slot = m; phase = phase; visited = 0 }

-- the target is the first that is left
abbrev pub Leads : List Node → Stage → Target → Type 0
Leads graph stage target = left_of graph stage ≡ target ∷ left_of graph (next_stage stage)

-- whether the definition visits a target of a phase
abbrev pub is_taken : List Node → List ℕ → List ℕ → Phase → Target → Bool
is_taken graph progress done Pre target = is_clean graph progress done target
is_taken graph progress done Hard target = not (is_done done target)
is_taken graph progress done Post target = is_clean graph progress done target

-- a hard dependency that is not in progress
abbrev pub IsUnmet : List ℕ → Phase → Target → Type 0
IsUnmet progress Hard (Slot m) = has progress m ≡ false
IsUnmet progress _ target = Unit {0}

abbrev pub IsUnmetFirst : List Node → List ℕ → Stage → Type 0
IsUnmetFirst graph progress stage = (target : Target) → Leads graph stage target → IsUnmet progress stage.phase target

abbrev pub IsMove : List Node → List Mark → Stage → Move → Type 0
IsMove graph marks stage (Turn next) = (stage.phase ≡ Pre) × (left_of graph stage ≡ []) × (next ≡ first_stage Hard stage.slot)
IsMove graph marks stage (Append next) = (stage.phase ≡ Hard) × (left_of graph stage ≡ []) × (next ≡ first_stage Post stage.slot)
IsMove graph marks stage Leave = (stage.phase ≡ Post) × (left_of graph stage ≡ [])
IsMove graph marks stage (Pass next) = (target : Target) × Leads graph stage target × (next ≡ next_stage stage)
IsMove graph marks stage (Enter m next) = Leads graph stage (Slot m) × (m < length graph) × (mark_at marks m ≡ New) × (next ≡ next_stage stage)

-- what is passed is not taken, and what is entered is
abbrev pub IsTaken : List Node → List ℕ → List ℕ → Stage → Move → Type 0
IsTaken graph progress done stage (Pass next) = (target : Target) → Leads graph stage target → is_taken graph progress done stage.phase target ≡ false
IsTaken graph progress done stage (Enter m next) = is_taken graph progress done stage.phase (Slot m) ≡ true
IsTaken graph progress done stage _ = Unit {0}
