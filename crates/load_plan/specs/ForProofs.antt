-- Serves proofs alone: marks by slot, and one step of a walk with a stack of its own.
use Rattle.std.specs.Prelude.{◌≡◌, ℕ, ◌+◌, ◌<◌, Bool, true, false, ◌&&◌, List, [], ◌∷◌, length, drop, map, not, slice_index_or}
use Rattle.load_plan.specs.declared.graph.Target.{Target}
use Rattle.load_plan.specs.declared.graph.Target.TheVariants.{Slot, Missing}
use Rattle.load_plan.specs.declared.plans.PlanStep.{PlanStep}
use Rattle.load_plan.specs.declared.walk.Mark.{Mark}
use Rattle.load_plan.specs.declared.walk.Mark.TheVariants.{New, Open, Done}
use Rattle.load_plan.specs.declared.walk.Frame.{Frame}
use Rattle.load_plan.specs.declared.walk.Step.{Step}
use Rattle.load_plan.specs.declared.walk.Step.TheVariants.{Finish, Enter, Again, Blocked, Nowhere}
use Rattle.load_plan.specs.Graph.{Node, node_at, is_bounded}
use Rattle.load_plan.specs.Laws.{IsOrder}
use Rattle.load_plan.specs.Walk.{has}

-- the mark of a module, by whether it is done and whether it is on the way
abbrev pub mark_of : Bool → Bool → Mark
mark_of true way = Done
mark_of false true = Open
mark_of false false = New

abbrev pub mark_at : List Mark → ℕ → Mark
mark_at marks m = slice_index_or marks m Done

-- the marks of all modules are those of a way and of a list
abbrev pub AreMarks : ℕ → List Mark → List ℕ → List ℕ → Type 0
AreMarks n marks way done = (m : ℕ) → m < n → mark_at marks m ≡ mark_of (has done m) (has way m)

-- what is left to walk of a module's hard dependencies
abbrev pub left_of : List Node → Frame → List Target
left_of graph frame = drop frame.walked (node_at graph frame.slot).hard

abbrev pub next_frame : Frame → Frame
next_frame frame = record { slot = frame.slot; walked = frame.walked + 1 }

-- the target is the first that is left
abbrev pub Leads : List Node → Frame → Target → Type 0
Leads graph frame target = left_of graph frame ≡ target ∷ left_of graph (next_frame frame)

-- what the first target that is left asks, if it is not finished
abbrev pub IsAsked : List Node → Bool → List Mark → Frame → Step → Type 0
IsAsked graph tests marks frame Finish = left_of graph frame ≡ []
IsAsked graph tests marks frame (Enter m next) =
    Leads graph frame (Slot m) × (mark_at marks m ≡ New) × ((tests && (node_at graph m).installs) ≡ false)
    × (m < length graph) × (next ≡ next_frame frame)
IsAsked graph tests marks frame (Again m) = Leads graph frame (Slot m) × (mark_at marks m ≡ Open) × (m < length graph)
IsAsked graph tests marks frame (Blocked m) =
    Leads graph frame (Slot m) × (mark_at marks m ≡ New) × ((tests && (node_at graph m).installs) ≡ true) × (m < length graph)
IsAsked graph tests marks frame (Nowhere name) = Leads graph frame (Missing name.now)

-- a frame of the same module, past some targets that are finished
pub data Passes (graph : List Node) (marks : List Mark) (frame : Frame) : Frame → Type 0 where
  here : Passes graph marks frame frame
  past : (f : Frame) (m : ℕ) → Passes graph marks frame f → Leads graph f (Slot m) → mark_at marks m ≡ Done → m < length graph → Passes graph marks frame (next_frame f)

-- what is asked past the targets that are finished
pub record IsStep (graph : List Node) (tests : Bool) (marks : List Mark) (frame : Frame) (step : Step) : Type 0 where
  pub at : Frame
  pub passes : Passes graph marks frame at
  pub asked : IsAsked graph tests marks at step

-- what a visit has made so far: an order without a module in progress, of modules that a walk may enter
pub record IsKept (graph : List Node) (progress done : List ℕ) : Type 0 where
  pub bounded : is_bounded graph ≡ true
  pub order : IsOrder graph done
  pub off : (q : ℕ) → has progress q ≡ true → has done q ≡ false
  pub entered : (q : ℕ) → has done q ≡ true → (q < length graph) × ((node_at graph q).installs ≡ false)

-- what is true wherever a visit with these marks has come to
abbrev pub InVisit : List Node → List Mark → (List ℕ → List ℕ → Type 0) → Type 0
InVisit graph marks P =
    (progress done : List ℕ) → AreMarks (length graph) marks progress done → IsKept graph progress done → P progress done

abbrev pub is_done_mark : Mark → Bool
is_done_mark Done = true
is_done_mark _ = false

-- a module as a step of a plan, soft if its mark is not Done
abbrev pub step_of : List Mark → ℕ → PlanStep
step_of marks m = record { slot = m; soft = not (is_done_mark (slice_index_or marks m New)) }

abbrev pub steps_of : List Mark → List ℕ → List PlanStep
steps_of marks ms = map (step_of marks) ms
