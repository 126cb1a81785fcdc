-- Which modules are found for a name.
use Rattle.std.specs.Prelude.{ℕ, not, if◌then◌else◌, List, [], ◌∷◌, ◌++◌, filter, Option, Some, None}
use Rattle.std.specs.List.{list_any}
use Rattle.std.specs.Str.{bytes_eq}
use Rattle.text_parts.specs.Text.{normal_form}
use Rattle.dep_index.specs.Catalogue.{Description, slot_named}
use Rattle.alias_match.specs.declared.alias.Alias.{Alias}
use Rattle.alias_match.specs.Pattern.{is_match}
use Rattle.modprobe_conf.specs.Configuration.{Configuration, is_blacklisted}

-- the targets of the aliases whose pattern matches, in file order
abbrev pub targets_of : List Alias → List ℕ → List (List ℕ)
targets_of [] name = []
targets_of (alias ∷ later) name =
    if is_match alias.pattern name then alias.target ∷ targets_of later name else targets_of later name

-- a name after others, unless it stands there already
abbrev pub with_name : List (List ℕ) → List ℕ → List (List ℕ)
with_name found name = if list_any (bytes_eq name) found then found else found ++ name ∷ []

-- each name once, at its first place
abbrev pub with_names : List (List ℕ) → List (List ℕ) → List (List ℕ)
with_names found [] = found
with_names found (name ∷ later) = with_names (with_name found name) later

abbrev pub or_else : List (List ℕ) → List (List ℕ) → List (List ℕ)
or_else [] names = names
or_else (name ∷ later) names = name ∷ later

-- the catalogue module of the name
abbrev pub own_module : List ℕ → Option ℕ → List (List ℕ)
own_module name None = []
own_module name (Some m) = name ∷ []

-- the targets of modules.alias that are not blacklisted
abbrev pub free_targets : Configuration → List Alias → List ℕ → List (List ℕ)
free_targets configuration aliases name = filter (λ target. not (is_blacklisted configuration target)) (targets_of aliases name)

-- The first of the three lists that is not empty: the targets of the configuration's aliases, the module of the
-- name itself, the targets of modules.alias that are not blacklisted. An alias leads to no other alias.
abbrev pub found_as : List Description → Configuration → List Alias → List ℕ → List (List ℕ)
found_as catalogue configuration aliases name =
    or_else (with_names [] (targets_of configuration.aliases name))
    (or_else (own_module name (slot_named catalogue name))
    (with_names [] (free_targets configuration aliases name)))

abbrev pub found : List Description → Configuration → List Alias → List ℕ → List (List ℕ)
found catalogue configuration aliases name = found_as catalogue configuration aliases (normal_form name)
