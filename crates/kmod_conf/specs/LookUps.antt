-- What a configuration says of a name, as modprobe(8) asks for it.
use Rattle.std.specs.Prelude.{ℕ, Bool, false, ◌&&◌, ◌||◌, List, filter, Option, Some, None}
use Rattle.std.specs.List.{find, list_any}
use Rattle.std.specs.Str.{bytes_eq}
use Rattle.text_parts.specs.Text.{is_filled}
use Rattle.kmod_names.specs.declared.alias_table.AliasEntry.{AliasEntry}
use Rattle.kmod_names.specs.Aliases.{matching_entries}
use Rattle.kmod_names.specs.Patterns.{matches_pattern}
use Rattle.kmod_conf.specs.declared.line.TextLine.{TextLine}
use Rattle.kmod_conf.specs.declared.line.SoftdepLine.{SoftdepLine}
use Rattle.kmod_conf.specs.Configuration.{Configuration}

-- the aliases whose pattern a name matches, in order
abbrev pub matching_aliases : Configuration → List ℕ → List AliasEntry
matching_aliases conf name = matching_entries conf.aliases name

-- the first line whose name, as a pattern, matches
abbrev pub first_line : List TextLine → List ℕ → Option TextLine
first_line lines name = find (λ line. matches_pattern line.name name) lines

abbrev pub install_of : Configuration → List ℕ → Option TextLine
install_of conf name = first_line conf.installs name

abbrev pub remove_of : Configuration → List ℕ → Option TextLine
remove_of conf name = first_line conf.removes name

abbrev pub first_softdep : List SoftdepLine → List ℕ → Option SoftdepLine
first_softdep lines name = find (λ line. matches_pattern line.name name) lines

abbrev pub softdep_of : Configuration → List ℕ → Option SoftdepLine
softdep_of conf name = first_softdep conf.softdeps name

-- the first line that has just this name, not as a pattern
abbrev pub line_named : List TextLine → List ℕ → Option TextLine
line_named lines name = find (λ line. bytes_eq line.name name) lines

abbrev pub install_named : Configuration → List ℕ → Option TextLine
install_named conf name = line_named conf.installs name

abbrev pub remove_named : Configuration → List ℕ → Option TextLine
remove_named conf name = line_named conf.removes name

-- whether some line has just this name
abbrev pub has_named : List TextLine → List ℕ → Bool
has_named lines name = list_any (λ line. bytes_eq line.name name) lines

abbrev pub has_install_named : Configuration → List ℕ → Bool
has_install_named conf name = has_named conf.installs name

abbrev pub has_remove_named : Configuration → List ℕ → Bool
has_remove_named conf name = has_named conf.removes name

abbrev pub is_blacklisted : Configuration → List ℕ → Bool
is_blacklisted conf name = list_any (λ line. bytes_eq line.name name) conf.blacklist

abbrev pub is_alias : Option (List ℕ) → List ℕ → Bool
is_alias None name = false
is_alias (Some alias) name = bytes_eq name alias

-- the options lines with text whose name is the module's, or that of the alias by which it came
abbrev pub options_in : List TextLine → List ℕ → Option (List ℕ) → List TextLine
options_in lines name alias = filter (λ line. is_filled line.text && (bytes_eq line.name name || is_alias alias line.name)) lines

abbrev pub options_of : Configuration → List ℕ → Option (List ℕ) → List TextLine
options_of conf name alias = options_in conf.options name alias
