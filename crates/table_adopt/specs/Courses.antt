-- What becomes of a module of the table, by its state there and in the kernel.
use Rattle.std.specs.Prelude.{ℕ, Bool, true, false, if◌then◌else◌, List, [], ◌∷◌, Option, Some, None}
use Rattle.dep_index.specs.declared.table.states.ModuleState.{ModuleState}
use Rattle.dep_index.specs.declared.table.states.ModuleState.TheVariants as table_is
use Rattle.proc_modules.specs.declared.line.LineState.{LineState}
use Rattle.proc_modules.specs.declared.line.LineState.TheVariants as kernel_is
use Rattle.table_adopt.specs.declared.step.Step.{Step}
use Rattle.table_adopt.specs.declared.step.Step.TheVariants.{BeginLoad, EndLoad, BeginRemove, EndRemove}
use Rattle.table_adopt.specs.declared.course.Course.{Course}
use Rattle.table_adopt.specs.declared.course.Course.TheVariants.{Stays, Loaded, NotLoaded, Removed, LoadedAgain, Goes, Lost}

-- By the state in the table, and what the kernel says, if it has the module. A module that the kernel is loading or
-- unloading is left alone. `free`: nothing keeps the module in the table.
abbrev pub course_of : Bool → ModuleState → Option LineState → Course
course_of free table_is.Loading (Some kernel_is.Live) = Loaded
course_of free table_is.Loading None = NotLoaded
course_of free table_is.Unloading (Some kernel_is.Live) = LoadedAgain
course_of free table_is.Unloading None = Removed
course_of free table_is.Live None = if free then Goes else Lost
course_of free table_is.Draining None = if free then Removed else Lost
course_of free _ _ = Stays

-- the steps by which this becomes of the module
abbrev pub steps_of : Course → ℕ → List Step
steps_of Stays m = []
steps_of Loaded m = EndLoad m true ∷ []
steps_of NotLoaded m = EndLoad m false ∷ []
steps_of Removed m = EndRemove m ∷ []
steps_of LoadedAgain m = EndRemove m ∷ BeginLoad m ∷ EndLoad m true ∷ []
steps_of Goes m = BeginRemove m ∷ EndRemove m ∷ []
steps_of Lost m = []

-- the module is not in the table afterwards
abbrev pub leaves : Course → Bool
leaves NotLoaded = true
leaves Removed = true
leaves Goes = true
leaves _ = false

-- the kernel does not have it, and it stays
abbrev pub is_lost : Course → Bool
is_lost Lost = true
is_lost _ = false
