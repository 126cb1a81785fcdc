-- When an answer does not depend on large texts. It is early, and depends on neither modules.alias nor modules.symbols, if
-- each name that is asked for stands in an earlier list or is a path, and no module that is loaded for it has words in a
-- softdep line.
use Rattle.std.specs.Prelude.{ℕ, Bool, true, false, not, if◌then◌else◌, ◌&&◌, ◌||◌, nat_lt, length, List, [], ◌∷◌, Option, Some, None}
use Rattle.std.specs.List.{list_all, list_any}
use Rattle.kmod_names.specs.Names.{name_of_path, normal_alias}
use Rattle.kmod_query.specs.declared.paths.AtPath.{AtPath}
use Rattle.kmod_query.specs.declared.paths.AtPath.TheVariants.{File, Nothing}
use Rattle.kmod_query.specs.declared.query.Ask.{Ask}
use Rattle.kmod_query.specs.declared.query.Ask.TheVariants.{ShowDepends, DryRun, Resolve, Remove, ShowRemoval, ShowConfig}
use Rattle.kmod_query.specs.declared.query.Query.{Query}
use Rattle.kmod_query.specs.Facts.{Facts}
use Rattle.kmod_query.specs.Loading.{is_resolve}
use Rattle.kmod_query.specs.LookUp.{found, is_symbol}
use Rattle.kmod_query.specs.Objects.{Object, by_name}

-- whether a name is an alias of the configuration or a module of modules.dep
abbrev pub is_found_early : Facts → List ℕ → Bool
is_found_early facts name = nat_lt 0 (length (facts.configured name)) || facts.is_loadable name

-- whether a softdep line has words before or after a module
abbrev pub has_words : Facts → List ℕ → Bool
has_words facts name = nat_lt 0 (length (facts.pre name)) || nat_lt 0 (length (facts.post name))

-- whether neither a module nor what it needs has such words
abbrev pub stands_alone : Facts → Object → Bool
stands_alone facts object = not (has_words facts object.name) && not (list_any (has_words facts) (facts.needs object.name))

abbrev pub is_early_name : Facts → List ℕ → Bool
is_early_name facts name = is_found_early facts name && list_all (stands_alone facts) (found facts name)

abbrev pub is_early_by : Facts → Option (List ℕ) → Bool
is_early_by facts None = true
is_early_by facts (Some name) = is_early_name facts name

-- A word that is no name is looked up nowhere. Nor is a path: it is the module that its file gives a name to.
abbrev pub is_early_at : Option AtPath → Facts → List ℕ → Bool
is_early_at None facts word = is_early_by facts (facts.normal word)
is_early_at (Some (File file)) facts word = stands_alone facts (by_name (name_of_path word))
is_early_at (Some (Nothing reason)) facts word = true

abbrev pub is_early_word : Facts → List ℕ → Bool
is_early_word facts word = is_early_at (facts.at_path word) facts word

abbrev pub is_early_first : Facts → List (List ℕ) → Bool
is_early_first facts [] = true
is_early_first facts (word ∷ parameters) = is_early_word facts word

-- whether something is loaded or resolved
abbrev pub loads : Ask → Bool
loads ShowDepends = true
loads DryRun = true
loads Resolve = true
loads Remove = false
loads ShowRemoval = false
loads ShowConfig = false

-- the words are names under --all, and else the first of them
abbrev pub is_early : Facts → Query → List (List ℕ) → Bool
is_early facts query words =
    loads query.ask && (if query.all then list_all (is_early_word facts) words else is_early_first facts words)

-- whether a word is not the name of a symbol
abbrev pub is_plain_by : Option (List ℕ) → Bool
is_plain_by None = true
is_plain_by (Some name) = not (is_symbol name)

abbrev pub is_plain_word : List ℕ → Bool
is_plain_word word = is_plain_by (normal_alias word)

abbrev pub is_plain_first : List (List ℕ) → Bool
is_plain_first [] = true
is_plain_first (word ∷ parameters) = is_plain_word word

abbrev pub are_plain : Query → List (List ℕ) → Bool
are_plain query words = if query.all then list_all is_plain_word words else is_plain_first words

-- names are resolved, and none of them is that of a symbol: the answer does not depend on modules.symbols
abbrev pub is_symbolless : Query → List (List ℕ) → Bool
is_symbolless query words = is_resolve query.ask && are_plain query words
