-- Serves proofs alone: tasks of the code, with the next one last, and what it knows of soft items.
use Rattle.std.specs.Prelude.{◌≡◌, ℕ, zero, suc, ◌+◌, ◌<◌, true, List, [], ◌∷◌, ◌++◌, drop, length, map, reverse, slice_get, Option, Some, None, Vec, ◌⊎◌}
use Rattle.std.specs.Global.{Global}
use Rattle.std.specs.List.{flat_map}
use Rattle.std.specs.Map.{lookup}
use Rattle.std.specs.Option.{unwrap_or}
use Rattle.std.specs.Str.{bytes_eq}
use Rattle.kmod_query.specs.declared.fronts.Fronts.{Fronts}
use Rattle.kmod_query.specs.declared.look_up.Place.{Place}
use Rattle.kmod_query.specs.declared.look_up.Place.TheVariants.{Before, After}
use Rattle.kmod_query.specs.declared.look_up.SoftItems.{SoftItems}
use Rattle.kmod_query.specs.declared.probes.Course.{Course}
use Rattle.kmod_query.specs.declared.probes.Rest.{Rest}
use Rattle.kmod_query.specs.declared.probes.Task.{Task as CodeTask}
use Rattle.kmod_query.specs.declared.probes.Task.TheVariants.{Soft, Fill, Add}
use Rattle.kmod_query.specs.declared.soft_lists.Found.{Found}
use Rattle.kmod_query.specs.declared.soft_lists.SoftLists.{SoftLists}
use Rattle.kmod_query.specs.Objects.{Object, has, object_of, objects_of}
use Rattle.kmod_query.specs.Probes.{Task, probe, fill, add, before_of, after_of, run}
use Rattle.kmod_query.specs.Facts.{Facts}

-- the soft items on one side of a module
abbrev pub soft_of : Facts → Place → List ℕ → List Object
soft_of facts Before name = before_of facts name
soft_of facts After name = after_of facts name

abbrev pub side_of : Place → SoftItems → List Object
side_of Before items = objects_of items.before.items
side_of After items = objects_of items.after.items

-- a fact of each name and what a map has at it
abbrev pub Each : {V : Type 0} → (List ℕ → V → Type 0) → List (Vec ℕ Global × V) → Type 0
Each P [] = Unit {0}
Each P (entry ∷ entries) = P entry.0.items entry.1 × Each P entries

abbrev pub IsSoft : Facts → List ℕ → SoftItems → Type 0
IsSoft facts name items = (place : Place) → side_of place items ≡ soft_of facts place name

abbrev pub AreSoftLists : Facts → SoftLists → Type 0
AreSoftLists facts soft = Each (IsSoft facts) soft.lists.entries

-- what stands at an index of a list, with the index after it
abbrev pub IsAt : List Object → ℕ → Found → Type 0
IsAt objects index found = (slice_get objects index ≡ Some (object_of found.object)) × (found.next ≡ index + 1)

abbrev pub IsFound : List Object → ℕ → Option Found → Type 0
IsFound objects index None = slice_get objects index ≡ None
IsFound objects index (Some found) = IsAt objects index found

-- the list has so many objects, and those at its front were met
abbrev pub IsFront : List Object → ℕ → List Object → Type 0
IsFront met zero objects = Unit {0}
IsFront met (suc count) [] = ⊥
IsFront met (suc count) (object ∷ objects) = (has met object ≡ true) × IsFront met count objects

-- what a map has at a name; 0 if it has nothing
abbrev pub count_in : List (Vec ℕ Global × ℕ) → List ℕ → ℕ
count_in entries name = unwrap_or (lookup (λ (key : Vec ℕ Global). bytes_eq name key.items) entries) 0

abbrev pub AreFrontsAt : Facts → List Object → Place → List (Vec ℕ Global × ℕ) → Type 0
AreFrontsAt facts met place entries = Each (λ name count. IsFront met count (soft_of facts place name)) entries

abbrev pub AreFronts : Facts → List Object → Fronts → Type 0
AreFronts facts met fronts = AreFrontsAt facts met Before fronts.before.entries × AreFrontsAt facts met After fronts.after.entries

abbrev pub rest_of : Facts → Rest → List Task
rest_of facts rest = map probe (drop rest.from (soft_of facts rest.place rest.name.items))

abbrev pub task_of : Facts → CodeTask → List Task
task_of facts (Soft rest) = rest_of facts rest
task_of facts (Fill object) = fill (object_of object) ∷ []
task_of facts (Add object) = add (object_of object) ∷ []

abbrev pub stack_of : Facts → List CodeTask → List Task
stack_of facts tasks = flat_map (task_of facts) (reverse tasks)

-- nothing was met, and nothing is to be done
abbrev pub IsStart : Facts → Course → Type 0
IsStart facts course =
    record {
      met : course.met ≡ [];
      soft : AreSoftLists facts course.soft;
      fronts : AreFronts facts [] course.fronts;
      stack : course.stack.items ≡ [];
      list : course.list.items ≡ [];
      left : course.left ≡ 18446744073709551615;
    }

-- What is out, and what some tasks before those of the stack give within the steps that are left, is the whole.
abbrev pub Stands : Facts → List Task → Course → List Object → Type 0
Stands facts tasks course whole =
    record {
      soft : AreSoftLists facts course.soft;
      fronts : AreFronts facts course.met course.fronts;
      gives : objects_of course.list.items ++ run facts course.left course.met (tasks ++ stack_of facts course.stack.items) ≡ whole;
    }

-- some tasks were made
abbrev pub Makes : Facts → List Task → Course → Course → Type 0
Makes facts tasks old new = (whole : List Object) → 0 < old.left → Stands facts tasks old whole → Stands facts [] new whole

-- fewer steps are left, or the tasks were none
abbrev pub Falls : Course → Course → Type 0
Falls old new = 0 < old.left → (new.left < old.left) ⊎ ((new.left ≡ old.left) × (length new.stack.items ≡ length old.stack.items))

-- a run has ended: what is out is the whole
abbrev pub Ends : Facts → Course → Course → Type 0
Ends facts old new =
    (whole : List Object) → Stands facts [] old whole
    → record { list : objects_of new.list.items ≡ whole; soft : AreSoftLists facts new.soft }
