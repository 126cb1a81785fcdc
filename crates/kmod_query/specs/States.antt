-- What /sys/module says of modules.
use Rattle.std.specs.Prelude.{ℕ, if◌then◌else◌, List, [], ◌∷◌, Option, Some, None}
use Rattle.std.specs.Str.{bytes_eq}
use Rattle.kmod_query.specs.declared.states.ModuleStatus.{ModuleStatus}

-- the status of a name
abbrev pub status_in : List (List ℕ × ModuleStatus) → List ℕ → Option ModuleStatus
status_in [] name = None
status_in (known ∷ later) name = if bytes_eq name known.0 then Some known.1 else status_in later name

-- a status more, in the place of what was known of its name
abbrev pub with_status : List (List ℕ × ModuleStatus) → List ℕ → ModuleStatus → List (List ℕ × ModuleStatus)
with_status [] name status = (name, status) ∷ []
with_status (known ∷ later) name status =
    if bytes_eq name known.0 then (known.0, status) ∷ later else known ∷ with_status later name status
