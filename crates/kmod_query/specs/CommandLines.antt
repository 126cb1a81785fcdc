-- The lines that have a module's commands, by its name and the alias by which it came.
use Rattle.std.specs.Prelude.{ℕ, if◌then◌else◌, ◌&&◌, List, Option, None, is_none}
use Rattle.std.specs.Option.{option_or}
use Rattle.kmod_conf.specs.declared.line.TextLine.{TextLine}
use Rattle.kmod_conf.specs.LookUps as lines
use Rattle.kmod_query.specs.Commands.{is_unlisted}
use Rattle.kmod_query.specs.World.{facts_of}
use Rattle.kmod_query.specs.declared.world.World.{World}

-- the line of its very name by which a module was found
abbrev pub own_install_line : World → List ℕ → Option (List ℕ) → Option TextLine
own_install_line world name alias = if is_unlisted (facts_of world) name alias then lines.install_named world.conf.now name else None

abbrev pub own_remove_line : World → List ℕ → Option (List ℕ) → Option TextLine
own_remove_line world name alias =
    if is_unlisted (facts_of world) name alias && is_none (lines.install_named world.conf.now name) then lines.remove_named world.conf.now name else None

-- that line, or else the first whose name matches
abbrev pub install_line : World → List ℕ → Option (List ℕ) → Option TextLine
install_line world name alias = option_or (own_install_line world name alias) (lines.install_of world.conf.now name)

abbrev pub remove_line : World → List ℕ → Option (List ℕ) → Option TextLine
remove_line world name alias = option_or (own_remove_line world name alias) (lines.remove_of world.conf.now name)
