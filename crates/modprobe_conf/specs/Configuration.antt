-- What a configuration says: the lines of modprobe.d(5), joined, and what they say of a name.
use Rattle.std.specs.Prelude.{◌≡◌, ℕ, ◌+◌, ◌-◌, Bool, false, true, if◌then◌else◌, ◌==◌, Option, Some, None}
use Rattle.std.specs.Prelude.{List, [], ◌∷◌, ◌++◌, length, take, codes, slice_index}
use Rattle.std.specs.List.{list_any}
use Rattle.std.specs.Str.{bytes_eq}
use Rattle.std.specs.Str.Lines.{lines}
use Rattle.text_parts.specs.Text.{normal_form}
use Rattle.alias_match.specs.declared.alias.Alias.{Alias}
use Rattle.alias_match.specs.Aliases.{Entries, entries_of, alias_of}

-- a line that ends with a backslash goes on with the next one
abbrev pub ends_with_backslash : List ℕ → Bool
ends_with_backslash line = slice_index line (length line - 1) == 92

-- the front of a line, put before the next one, whose number it takes over
abbrev pub onto_next : ℕ → List ℕ → List (ℕ × List ℕ) → List (ℕ × List ℕ)
onto_next number front [] = (number, front) ∷ []
onto_next number front (next ∷ later) = (number, front ++ next.1) ∷ later

-- the joined lines, each with the number of its first line; the backslash at the end of the last line is dropped
abbrev pub joined_lines : ℕ → List (List ℕ) → List (ℕ × List ℕ)
joined_lines number [] = []
joined_lines number (line ∷ later) =
    if ends_with_backslash line
    then onto_next number (take (length line - 1) line) (joined_lines (number + 1) later)
    else (number, line) ∷ joined_lines (number + 1) later

-- the modules that a softdep line has loaded before and after its own, in the order of the line
pub record SoftItems : Type 0 where
  pub pre : List (List ℕ)
  pub post : List (List ℕ)

-- what a line says of its module; the words of options as they stand
pub data Line : Type 0 where
  blacklist : Line
  install : Line
  remove : Line
  options : List (List ℕ) → Line
  softdep : SoftItems → Line

-- what one joined line says: an alias, or something of a module by its name, in normal form
pub data Entry : Type 0 where
  alias : Alias → Entry
  named : List ℕ → Line → Entry

-- the words behind one mark, up to the other, as names
abbrev pub softdep_items : List ℕ → List ℕ → Bool → List (List ℕ) → List (List ℕ)
softdep_items mark other within [] = []
softdep_items mark other within (w ∷ ws) =
    if bytes_eq w mark then softdep_items mark other true ws
    else (if bytes_eq w other then softdep_items mark other false ws
    else (if within then normal_form w ∷ softdep_items mark other within ws else softdep_items mark other within ws))

abbrev pub soft_items : List (List ℕ) → SoftItems
soft_items ws =
    record {
      pre = softdep_items (codes "pre:") (codes "post:") false ws;
      post = softdep_items (codes "post:") (codes "pre:") false ws;
    }

abbrev pub alias_entry : Option Alias → Option Entry
alias_entry None = None
alias_entry (Some found) = Some (alias found)

-- what a line of more than two words says by its first word; of install and remove the command is not kept
abbrev pub line_from : List ℕ → List (List ℕ) → Option Line
line_from w ws =
    if bytes_eq w (codes "blacklist") then Some blacklist
    else (if bytes_eq w (codes "install") then Some install
    else (if bytes_eq w (codes "remove") then Some remove
    else (if bytes_eq w (codes "options") then Some (options ws)
    else (if bytes_eq w (codes "softdep") then Some (softdep (soft_items ws)) else None))))

abbrev pub named_entry : List ℕ → Option Line → Option Entry
named_entry name None = None
named_entry name (Some line) = Some (named (normal_form name) line)

-- the entry that the words of a line are
abbrev pub entry_of : List (List ℕ) → Option Entry
entry_of (w ∷ name ∷ []) = if bytes_eq w (codes "blacklist") then Some (named (normal_form name) blacklist) else None
entry_of (w ∷ name ∷ x ∷ xs) =
    if bytes_eq w (codes "alias") then alias_entry (alias_of (w ∷ name ∷ x ∷ xs)) else named_entry name (line_from w (x ∷ xs))
entry_of _ = None

-- the entries of a configuration text in file order, and the numbers of its lines without effect
abbrev pub entries_of_text : List ℕ → Entries Entry
entries_of_text text = entries_of entry_of (joined_lines 1 (lines text))

-- the aliases, in file order
abbrev pub aliases_in : List Entry → List Alias
aliases_in [] = []
aliases_in (alias found ∷ later) = found ∷ aliases_in later
aliases_in (named own line ∷ later) = aliases_in later

-- the lines of a name, in file order
abbrev pub lines_of : List Entry → List ℕ → List Line
lines_of [] name = []
lines_of (alias found ∷ later) name = lines_of later name
lines_of (named own line ∷ later) name = if bytes_eq name own then line ∷ lines_of later name else lines_of later name

-- the words of all options lines, in file order
abbrev pub option_words : List Line → List (List ℕ)
option_words [] = []
option_words (options ws ∷ later) = ws ++ option_words later
option_words (_ ∷ later) = option_words later

-- the items of the first softdep line
abbrev pub first_softdep : List Line → Option SoftItems
first_softdep [] = None
first_softdep (softdep items ∷ later) = Some items
first_softdep (_ ∷ later) = first_softdep later

abbrev pub is_install : Line → Bool
is_install install = true
is_install _ = false

abbrev pub is_remove : Line → Bool
is_remove remove = true
is_remove _ = false

abbrev pub is_blacklist : Line → Bool
is_blacklist blacklist = true
is_blacklist _ = false

-- what all lines of one name say: the words of its options lines in file order, the items of its first softdep
-- line, and whether there is an install, a remove, a blacklist line
pub record ModuleSettings : Type 0 where
  pub options : List (List ℕ)
  pub softdep : Option SoftItems
  pub has_install : Bool
  pub has_remove : Bool
  pub is_blacklisted : Bool

-- what given lines say
abbrev pub settings_by : List Line → ModuleSettings
settings_by ls =
    record {
      options = option_words ls;
      softdep = first_softdep ls;
      has_install = list_any is_install ls;
      has_remove = list_any is_remove ls;
      is_blacklisted = list_any is_blacklist ls;
    }

-- a softdep line counts if there was none
abbrev pub or_first : Option SoftItems → SoftItems → Option SoftItems
or_first None items = Some items
or_first (Some first) items = Some first

-- one line more
abbrev pub with_line : ModuleSettings → Line → ModuleSettings
with_line settings blacklist = record settings { is_blacklisted = true }
with_line settings install = record settings { has_install = true }
with_line settings remove = record settings { has_remove = true }
with_line settings (options ws) = record settings { options = settings.options ++ ws }
with_line settings (softdep items) = record settings { softdep = or_first settings.softdep items }

-- modules by their names, each with what its lines say, and a line more
abbrev pub with_named : List (List ℕ × ModuleSettings) → List ℕ → Line → List (List ℕ × ModuleSettings)
with_named [] name line = (name, with_line (settings_by []) line) ∷ []
with_named (known ∷ later) name line =
    if bytes_eq name known.0 then (known.0, with_line known.1 line) ∷ later else known ∷ with_named later name line

abbrev pub modules_from : List (List ℕ × ModuleSettings) → List Entry → List (List ℕ × ModuleSettings)
modules_from found [] = found
modules_from found (alias own ∷ later) = modules_from found later
modules_from found (named name line ∷ later) = modules_from (with_named found name line) later

-- what a configuration says: its aliases in file order, the modules that its lines name, in the order of their
-- first lines, each with what its lines say, and the numbers of its lines without effect
pub record Configuration : Type 0 where
  pub aliases : List Alias
  pub modules : List (List ℕ × ModuleSettings)
  pub skipped : List ℕ

abbrev pub configuration_for : Entries Entry → Configuration
configuration_for read =
    record {
      aliases = aliases_in read.entries;
      modules = modules_from [] read.entries;
      skipped = read.skipped;
    }

-- the meaning of a configuration text
abbrev pub configuration_of : List ℕ → Configuration
configuration_of text = configuration_for (entries_of_text text)

-- what the lines of a name say; a name that no line has is one without lines
abbrev pub settings_in : List (List ℕ × ModuleSettings) → List ℕ → ModuleSettings
settings_in [] name = settings_by []
settings_in (known ∷ later) name = if bytes_eq name known.0 then known.1 else settings_in later name

abbrev pub settings_of : Configuration → List ℕ → ModuleSettings
settings_of configuration name = settings_in configuration.modules name

-- the look-ups of a name in normal form
abbrev pub options_of : Configuration → List ℕ → List (List ℕ)
options_of configuration name = (settings_of configuration name).options

abbrev pub softdep_of : Configuration → List ℕ → Option SoftItems
softdep_of configuration name = (settings_of configuration name).softdep

abbrev pub has_install_line : Configuration → List ℕ → Bool
has_install_line configuration name = (settings_of configuration name).has_install

abbrev pub has_remove_line : Configuration → List ℕ → Bool
has_remove_line configuration name = (settings_of configuration name).has_remove

abbrev pub is_blacklisted : Configuration → List ℕ → Bool
is_blacklisted configuration name = (settings_of configuration name).is_blacklisted

-- What a configuration says of a name is what the lines of that name say, in file order.
abbrev pub SettingsAreOfLines : Type 0
SettingsAreOfLines =
    (read : Entries Entry) (name : List ℕ)
    → settings_of (configuration_for read) name ≡ settings_by (lines_of read.entries name)
