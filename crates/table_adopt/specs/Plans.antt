-- What becomes of the modules of a table, the newest first, and which are loaded.
use Rattle.std.specs.Prelude.{ℕ, Bool, true, not, ◌&&◌, ◌||◌, ◌==◌, if◌then◌else◌, List, [], ◌∷◌, ◌++◌, reverse, flat_map, Option, Some, is_none}
use Rattle.std.specs.List.{list_any}
use Rattle.dep_index.specs.Catalogue.{Description, description_at, needs_of, slot_named}
use Rattle.dep_index.specs.Table.{Table, state_of, is_held, is_absent}
use Rattle.proc_modules.specs.declared.line.LineState.{LineState}
use Rattle.proc_modules.specs.declared.line.LineState.TheVariants as kernel_is
use Rattle.table_adopt.specs.declared.kernel.KernelModule.{KernelModule}
use Rattle.table_adopt.specs.declared.step.Step.{Step}
use Rattle.table_adopt.specs.declared.step.Step.TheVariants.{BeginLoad, EndLoad}
use Rattle.table_adopt.specs.declared.course.Course.{Course}
use Rattle.table_adopt.specs.Kernel.{kernel_state}
use Rattle.table_adopt.specs.Courses.{course_of, steps_of, leaves, is_lost}
use Rattle.table_adopt.specs.PlanParts.{PlanParts}

-- the slot is one of these
abbrev pub is_among : List ℕ → ℕ → Bool
is_among slots m = list_any (λ other. other == m) slots

-- one of these modules needs it, and is not gone
abbrev pub is_needed : List Description → List ℕ → List ℕ → ℕ → Bool
is_needed catalogue users gone m = list_any (λ u. is_among (needs_of catalogue u) m && not (is_among gone u)) users

-- nothing keeps the module in the table: nobody holds it, it is not permanent, and each that needs it is gone
abbrev pub is_free : List Description → Table → List ℕ → ℕ → Bool
is_free catalogue t gone m =
    not (is_held t m || ((description_at catalogue m).permanent || is_needed catalogue (reverse t.book.order) gone m))

abbrev pub if_listed : Bool → ℕ → List ℕ
if_listed listed m = if listed then m ∷ [] else []

-- one module more
abbrev pub with_course : PlanParts → Course → ℕ → PlanParts
with_course plan course m =
    record {
      steps = plan.steps ++ steps_of course m;
      gone = plan.gone ++ if_listed (leaves course) m;
      lost = plan.lost ++ if_listed (is_lost course) m;
    }

-- what becomes of a module, once these are gone
abbrev pub course_at : List Description → Table → List KernelModule → List ℕ → ℕ → Course
course_at catalogue t kernel gone m =
    let said = kernel_state kernel (description_at catalogue m).name in
    course_of (is_none said && is_free catalogue t gone m) (state_of t.book m) said

abbrev pub with_module : List Description → Table → List KernelModule → PlanParts → ℕ → PlanParts
with_module catalogue t kernel plan m = with_course plan (course_at catalogue t kernel plan.gone m) m

abbrev pub no_plan : PlanParts
no_plan = record { steps = []; gone = []; lost = [] }

-- a plan, and then what becomes of these modules
abbrev pub settled : List Description → Table → List KernelModule → PlanParts → List ℕ → PlanParts
settled catalogue t kernel plan [] = plan
settled catalogue t kernel plan (m ∷ later) =
    settled catalogue t kernel (with_module catalogue t kernel plan m) later

-- what becomes of the modules of the table, the newest first: those that need a module stand before it
abbrev pub plan_of : List Description → Table → List KernelModule → PlanParts
plan_of catalogue t kernel = settled catalogue t kernel no_plan (reverse t.book.order)

-- the load of a module that the kernel has and the table has not
abbrev pub load_at : Table → Option ℕ → LineState → List Step
load_at t (Some m) kernel_is.Live = if is_absent (state_of t.book m) then BeginLoad m ∷ EndLoad m true ∷ [] else []
load_at t _ _ = []

abbrev pub load_of : List Description → Table → KernelModule → List Step
load_of catalogue t entry = load_at t (slot_named catalogue entry.name) entry.state

-- the loads, the oldest first
abbrev pub loads_of : List Description → Table → List KernelModule → List Step
loads_of catalogue t kernel = flat_map (load_of catalogue t) (reverse kernel)

-- the steps that bring the table to the kernel's modules
abbrev pub steps_for : List Description → Table → List KernelModule → List Step
steps_for catalogue t kernel = (plan_of catalogue t kernel).steps ++ loads_of catalogue t kernel
