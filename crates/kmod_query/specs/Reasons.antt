-- Which of the lists in which a name is looked up answers it.
use Rattle.std.specs.Prelude.{ℕ, true, false, if◌then◌else◌, List, [], ◌∷◌, length, map, nat_lt, Option, Some}
use Rattle.kmod_index.specs.ForProofs.{pointed}
use Rattle.kmod_query.specs.declared.finding.Finding.{Finding}
use Rattle.kmod_query.specs.declared.finding.Finding.TheVariants as by
use Rattle.kmod_query.specs.Facts.{Facts}
use Rattle.kmod_query.specs.LookUp.{by_alias, by_patterns, is_symbol}
use Rattle.kmod_query.specs.Objects.{Object, by_name}
use Rattle.kmod_query.specs.World.{file_of, name_of, pair_of}
use Rattle.kmod_query.specs.declared.world.World.{World}

-- the list that answers a name, with what it has of it
pub data Reason : Type 0 where
  configured : List (List ℕ × List ℕ) → Reason
  -- with the module's file, as it is printed
  in_modules_dep : Option (List ℕ) → Reason
  exported : List (List ℕ) → Reason
  commanded : Reason
  aliased : List (List ℕ) → Reason
  built_in : Reason
  aliased_built_in : List (List ℕ) → Reason
  nothing : Reason

-- what a list has, if it has something
abbrev pub unless_empty : {X : Type 0} → List X → (List X → Reason) → Reason → Reason
unless_empty xs reason later = if nat_lt 0 (length xs) then reason xs else later

-- the modules that export the symbol of a name, if it is that of one
abbrev pub exporters_of : Facts → List ℕ → List (List ℕ)
exporters_of facts name = if is_symbol name then facts.exporters name else []

-- the first list that has something, in the order of LookUp
abbrev pub built_in_reason : Facts → List ℕ → Reason
built_in_reason facts name = if facts.is_builtin name then built_in else unless_empty (facts.builtin_aliased name) aliased_built_in nothing

abbrev pub aliased_reason : Facts → List ℕ → Reason
aliased_reason facts name = unless_empty (facts.aliased name) aliased (built_in_reason facts name)

abbrev pub commanded_reason : Facts → List ℕ → Reason
commanded_reason facts name = if facts.is_commanded name then commanded else aliased_reason facts name

abbrev pub exported_reason : Facts → List ℕ → Reason
exported_reason facts name = unless_empty (exporters_of facts name) exported (commanded_reason facts name)

abbrev pub module_reason : Facts → List ℕ → Reason
module_reason facts name = if facts.is_loadable name then in_modules_dep (facts.path name) else exported_reason facts name

abbrev pub reason_of : Facts → List ℕ → Reason
reason_of facts name = unless_empty (facts.configured name) configured (module_reason facts name)

-- the modules for which a name stands, by the list that answers it
abbrev pub objects_by : List ℕ → Reason → List Object
objects_by name (configured pairs) = by_patterns pairs
objects_by name (in_modules_dep file) = by_name name ∷ []
objects_by name (exported names) = by_alias name false names
objects_by name commanded = by_name name ∷ []
objects_by name (aliased names) = by_alias name false names
objects_by name built_in = by_name name ∷ []
objects_by name (aliased_built_in names) = by_alias name true names
objects_by name nothing = []

-- what a finding says
abbrev pub said_by : World → Finding → Reason
said_by world (by.Configured entries) = configured (map pair_of (pointed entries.items))
said_by world (by.Module line) = in_modules_dep (Some (file_of world.directory.now line.path))
said_by world (by.Exported lines) = exported (map name_of lines.items)
said_by world by.Commanded = commanded
said_by world (by.Aliased lines) = aliased (map name_of lines.items)
said_by world by.BuiltIn = built_in
said_by world (by.AliasedBuiltIn lines) = aliased_built_in (map name_of lines.items)
said_by world by.Nothing = nothing

-- the modules for which a name stands, as a finding says
abbrev pub found_by : List ℕ → Finding → List Object
found_by name (by.Configured entries) = by_patterns (map pair_of (pointed entries.items))
found_by name (by.Module line) = by_name name ∷ []
found_by name (by.Exported lines) = by_alias name false (map name_of lines.items)
found_by name by.Commanded = by_name name ∷ []
found_by name (by.Aliased lines) = by_alias name false (map name_of lines.items)
found_by name by.BuiltIn = by_name name ∷ []
found_by name (by.AliasedBuiltIn lines) = by_alias name true (map name_of lines.items)
found_by name by.Nothing = []
