-- The commands of a module, by its name and the alias by which it came.
use Rattle.std.specs.Prelude.{ℕ, Bool, not, if◌then◌else◌, ◌&&◌, List, Option, None, is_none}
use Rattle.std.specs.Option.{option_or}
use Rattle.kmod_query.specs.Facts.{Facts}
use Rattle.kmod_query.specs.Paths.{own_file}

-- whether it came by its own name, modules.dep does not have it, and no file stands for that of modules.dep
abbrev pub is_unlisted : Facts → List ℕ → Option (List ℕ) → Bool
is_unlisted facts name alias = is_none alias && not (facts.is_loadable name) && is_none (own_file facts.own name alias)

-- A line of its very name, by which such a module is found, gives it that line's command: the install line, and only
-- if there is none the remove line.
abbrev pub own_install : Facts → List ℕ → Option (List ℕ) → Option (List ℕ)
own_install facts name alias = if is_unlisted facts name alias then facts.install_named name else None

abbrev pub own_remove : Facts → List ℕ → Option (List ℕ) → Option (List ℕ)
own_remove facts name alias =
    if is_unlisted facts name alias && is_none (facts.install_named name) then facts.remove_named name else None

-- any other command is that of the first line whose name matches
abbrev pub install_of : Facts → List ℕ → Option (List ℕ) → Option (List ℕ)
install_of facts name alias = option_or (own_install facts name alias) (facts.install name)

abbrev pub remove_of : Facts → List ℕ → Option (List ℕ) → Option (List ℕ)
remove_of facts name alias = option_or (own_remove facts name alias) (facts.remove name)
