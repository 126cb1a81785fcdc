-- What is reported, beside the lines.
use Rattle.std.specs.Prelude.{ℕ, List, [], ◌∷◌, ◌++◌, flat_map, codes, Option, Some, None}
use Rattle.dep_index.specs.Catalogue.{Description, description_at, slot_named}
use Rattle.dep_index.specs.Table.{Table}
use Rattle.table_adopt.specs.declared.kernel.KernelModule.{KernelModule}
use Rattle.table_adopt.specs.Plans.{plan_of}

-- `error CODE NAME`
abbrev pub error_line : List ℕ → List ℕ → List ℕ
error_line code name = codes "error " ++ (code ++ (32 ∷ name ++ 10 ∷ []))

-- of a module that the kernel has and the catalogue has not
abbrev pub unknown_at : List ℕ → Option ℕ → List ℕ
unknown_at name None = error_line (codes "UNKNOWN") name
unknown_at name (Some m) = []

abbrev pub unknown_line : List Description → KernelModule → List ℕ
unknown_line catalogue entry = unknown_at entry.name (slot_named catalogue entry.name)

-- of a module that the kernel does not have, and that stays
abbrev pub lost_line : List Description → ℕ → List ℕ
lost_line catalogue m = error_line (codes "LOST") (description_at catalogue m).name

-- first those that the catalogue has not, the newest first, and then those that are lost, the newest first
abbrev pub report_of : List Description → Table → List KernelModule → List ℕ
report_of catalogue t kernel = flat_map (unknown_line catalogue) kernel ++ flat_map (lost_line catalogue) (plan_of catalogue t kernel).lost
