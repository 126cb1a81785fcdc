-- The order of what is loaded for a module.
use Rattle.std.specs.Prelude.{◌≡◌, ℕ, zero, suc, Bool, true, false, if◌then◌else◌, List, [], ◌∷◌, ◌++◌}
use Rattle.kmod_query.specs.Facts.{Facts}
use Rattle.kmod_query.specs.Objects.{Object, has}
use Rattle.kmod_query.specs.Probes.{Task, probe, fill, add, fill_tasks, probe_tasks}

-- some objects stand in a list in this order, with others before, between and after them
abbrev pub StandInOrder : List Object → List Object → Type 0
StandInOrder [] list = Unit {0}
StandInOrder (object ∷ objects) list =
    (front : List Object) × (rest : List Object) × (list ≡ front ++ (object ∷ rest)) × StandInOrder objects rest

-- whether tasks are done within a number of steps
unfoldable pub is_done : Facts → ℕ → List Object → List Task → Bool
is_done facts zero met tasks = false
is_done facts (suc n) met [] = true
is_done facts (suc n) met (probe object ∷ tasks) =
    if has met object then is_done facts n met tasks else is_done facts n (met ++ object ∷ []) (probe_tasks facts object ++ tasks)
is_done facts (suc n) met (fill object ∷ tasks) = is_done facts n met (fill_tasks facts object ++ tasks)
is_done facts (suc n) met (add object ∷ tasks) = is_done facts n met tasks
