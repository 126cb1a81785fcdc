-- What is loaded for a module, in order: kmod's probe list.
use Rattle.std.specs.Prelude.{ℕ, zero, suc, ◌-◌, ◌^◌, Bool, if◌then◌else◌, List, [], ◌∷◌, ◌++◌, map}
use Rattle.kmod_query.specs.Facts.{Facts}
use Rattle.kmod_query.specs.Objects.{Object, by_name, has}
use Rattle.kmod_query.specs.LookUp.{look_up_each}

-- What is to be done, one task after another: probe an object, fill in its module with its soft items, or add it to
-- the list.
pub data Task : Type 0 where
  probe : Object → Task
  fill : Object → Task
  add : Object → Task

-- the soft items before and after a module
abbrev pub before_of : Facts → List ℕ → List Object
before_of facts name = look_up_each facts (facts.pre name)

abbrev pub after_of : Facts → List ℕ → List Object
after_of facts name = look_up_each facts (facts.post name)

-- to fill in an object: probe the soft items before it, add it, probe those after it
abbrev pub fill_tasks : Facts → Object → List Task
fill_tasks facts object =
    map probe (before_of facts object.name) ++ (add object ∷ map probe (after_of facts object.name))

-- to probe an object that was not met: fill in each module that it needs, then the object
abbrev pub probe_tasks : Facts → Object → List Task
probe_tasks facts object = map (λ need. fill (by_name need)) (facts.needs object.name) ++ (fill object ∷ [])

-- the same without the soft items of the object
abbrev pub bare_tasks : Facts → Object → List Task
bare_tasks facts object = map (λ need. fill (by_name need)) (facts.needs object.name) ++ (add object ∷ [])

-- What tasks add to the list, if some objects were met. An object is probed once: if it was met, nothing is
-- done. The number counts the steps that may be made.
unfoldable pub run : Facts → ℕ → List Object → List Task → List Object
run facts zero met tasks = []
run facts (suc n) met [] = []
run facts (suc n) met (probe object ∷ tasks) =
    if has met object then run facts n met tasks else run facts n (met ++ object ∷ []) (probe_tasks facts object ++ tasks)
run facts (suc n) met (fill object ∷ tasks) = run facts n met (fill_tasks facts object ++ tasks)
run facts (suc n) met (add object ∷ tasks) = object ∷ run facts n met tasks

-- more steps than any machine makes
unfoldable pub step_limit : ℕ
step_limit = 2 ^ 64 - 1

-- the first task list of an object: probed, with its soft items or without
abbrev pub first_tasks : Facts → Bool → Object → List Task
first_tasks facts bare object = if bare then bare_tasks facts object else probe_tasks facts object

-- What is loaded for an object, in order. An object may stand in it more than once.
abbrev pub probe_list : Facts → Bool → Object → List Object
probe_list facts bare object = run facts step_limit (object ∷ []) (first_tasks facts bare object)
