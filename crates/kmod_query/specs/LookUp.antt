-- Which modules a name stands for, as modprobe(8) looks it up.
use Rattle.std.specs.Prelude.{ℕ, Bool, false, true, if◌then◌else◌, List, [], ◌∷◌, map, length, nat_lt, codes, nat_eq, Option, Some, None}
use Rattle.std.specs.List.{flat_map, starts_with}
use Rattle.kmod_query.specs.Facts.{Facts}
use Rattle.kmod_query.specs.Objects.{Object, by_name}

-- a module that was found by an alias
abbrev pub by_one_alias : List ℕ → Bool → List ℕ → Object
by_one_alias alias builtin name = record { name = name; alias = Some alias; builtin = builtin }

-- modules that were found by an alias
abbrev pub by_alias : List ℕ → Bool → List (List ℕ) → List Object
by_alias alias builtin names = map (by_one_alias alias builtin) names

-- the targets of the configuration's aliases; each came by the pattern that matched
abbrev pub by_patterns : List (List ℕ × List ℕ) → List Object
by_patterns pairs = map (λ pair. by_one_alias pair.0 false pair.1) pairs

-- the name itself, if it is known
abbrev pub itself : Bool → List ℕ → List Object
itself known name = if known then by_name name ∷ [] else []

abbrev pub or_else : List Object → List Object → List Object
or_else first others = if nat_lt 0 (length first) then first else others

abbrev pub is_symbol : List ℕ → Bool
is_symbol name = starts_with nat_eq name (codes "symbol:")

abbrev pub by_symbol : Facts → List ℕ → List Object
by_symbol facts name = if is_symbol name then by_alias name false (facts.exporters name) else []

-- The first list that is not empty: the configuration's aliases, a module of modules.dep, what exports a symbol, a
-- name of an install or a remove line, modules.alias, a built-in module, aliases of built-in modules. An alias leads
-- to no other alias.
abbrev pub built_in : Facts → List ℕ → List Object
built_in facts name = or_else (itself (facts.is_builtin name) name) (by_alias name true (facts.builtin_aliased name))

abbrev pub aliased : Facts → List ℕ → List Object
aliased facts name = or_else (by_alias name false (facts.aliased name)) (built_in facts name)

abbrev pub commanded : Facts → List ℕ → List Object
commanded facts name = or_else (itself (facts.is_commanded name) name) (aliased facts name)

abbrev pub exporting : Facts → List ℕ → List Object
exporting facts name = or_else (by_symbol facts name) (commanded facts name)

abbrev pub loadable : Facts → List ℕ → List Object
loadable facts name = or_else (itself (facts.is_loadable name) name) (exporting facts name)

abbrev pub found : Facts → List ℕ → List Object
found facts name = or_else (by_patterns (facts.configured name)) (loadable facts name)

abbrev pub found_or_none : Facts → Option (List ℕ) → List Object
found_or_none facts None = []
found_or_none facts (Some name) = found facts name

-- what a word stands for; a word that is no name stands for nothing
abbrev pub look_up : Facts → List ℕ → List Object
look_up facts word = found_or_none facts (facts.normal word)

-- what words stand for, in their order
abbrev pub look_up_each : Facts → List (List ℕ) → List Object
look_up_each facts words = flat_map (look_up facts) words
