-- Which lines set parameters of modules of which nobody knows what parameters they have.
use Rattle.std.specs.Prelude.{ℕ, Bool, false, not, if◌then◌else◌, ◌&&◌, ◌||◌, List, Option, Some, None, is_none}
use Rattle.std.specs.List.{filter_map, find, list_any}
use Rattle.kmod_names.specs.declared.place.Place.{Place}
use Rattle.machine_lint.specs.declared.known.Known.{Known}
use Rattle.machine_lint.specs.declared.known.Origin.{Origin}
use Rattle.machine_lint.specs.Lines.{Said, is_depmod, is_package, lines_of, origin_at}
use Rattle.machine_lint.specs.Names.{is_own}
use Rattle.machine_lint.specs.Notes.{Facts, facts_of, is_of_module, is_options, kind_of}
use Rattle.machine_lint.specs.Options.{is_never_unknown, option_words, parameter_of}

-- a name stands for the module of this very name, and which parameters that has is not known
abbrev pub is_unread : Facts → List ℕ → Bool
is_unread facts name = is_own facts.conf facts.index name && is_none (find (is_of_module name) facts.parameters)

-- a line is one of options, of whoever is told of parameters, for such a module
abbrev pub is_of_unread : Facts → Origin → Said → Bool
is_of_unread facts origin line =
    is_options line.setting && not (is_depmod origin || is_package origin) && is_unread facts line.name

-- a word sets a parameter that not every module has
abbrev pub asks_module : List ℕ → List ℕ → Bool
asks_module name word = not (is_never_unknown name (parameter_of word))

-- nothing else is noted of a line, and it sets such a parameter
abbrev pub asks_parameters : Facts → Origin → Said → Bool
asks_parameters facts origin line =
    is_none (kind_of facts origin line) && list_any (asks_module line.name) (option_words line.text)

abbrev pub is_unchecked : Facts → Origin → Said → Bool
is_unchecked facts origin line = if is_of_unread facts origin line then asks_parameters facts origin line else false

abbrev pub unchecked_by : Facts → Origin → Said → Option Place
unchecked_by facts origin line = if is_unchecked facts origin line then Some line.place else None

-- where such a line stands, by who wrote it
abbrev pub unchecked_place : List Origin → Facts → Said → Option Place
unchecked_place files facts line = unchecked_by facts (origin_at files line.place.source) line

-- where all lines stand that cannot be checked
unfoldable pub unchecked : Known → List Place
unchecked known = filter_map (unchecked_place known.files.now (facts_of known)) (lines_of known.conf.now)
