-- Which lines of a configuration are about nothing: what they name is not there, or says nothing where it stands.
use Rattle.std.specs.Prelude.{ℕ, nat_lt, nat_eq, Bool, false, not, if◌then◌else◌, ◌||◌, ◌==◌, List, [], ◌∷◌, ◌++◌, map, filter, length, codes, Option, Some, None, is_some}
use Rattle.std.specs.List.{list_any}
use Rattle.std.specs.Option.{option_map}
use Rattle.std.specs.Str.{bytes_eq}
use Rattle.std.specs.Str.Lines.{lines}
use Rattle.text_parts.specs.Text.{words, is_comment, normal_form}
use Rattle.dep_index.specs.Catalogue.{description_at, slot_named}
use Rattle.dep_index.specs.declared.catalogue.params.Param.{Param}
use Rattle.alias_match.specs.declared.alias.Alias.{Alias}
use Rattle.alias_match.specs.Aliases.{alias_of, matching}
use Rattle.modprobe_conf.specs.Configuration.{Line, blacklist, install, remove, options, softdep, joined_lines, line_from, has_install_line, has_remove_line}
use Rattle.load_plan.specs.Parameters.{is_valid_word}
use Rattle.conf_lint.specs.declared.known.Known.{Known}
use Rattle.conf_lint.specs.declared.setting.Setting.{Setting}
use Rattle.conf_lint.specs.declared.setting.Setting.TheVariants.{Blacklist, Command, Options, Softdep}
use Rattle.conf_lint.specs.declared.note.Note.{Note}
use Rattle.conf_lint.specs.declared.note.NoteKind.{NoteKind}
use Rattle.conf_lint.specs.declared.note.NoteKind.TheVariants.{UnknownName, PatternName, UnknownTarget, LaterSoftdep, RefusedValue, PatternItem}

-- a note of the line of a number
abbrev pub note : ℕ → NoteKind → Note
note number kind = record { number = number; kind = kind }

-- `*`, `?` or `[`, with which a part of a shell pattern begins that is no single byte
abbrev pub is_pattern_byte : ℕ → Bool
is_pattern_byte byte = byte == 42 || byte == 63 || byte == 91

-- a word that is written as a pattern
abbrev pub has_pattern : List ℕ → Bool
has_pattern word = list_any is_pattern_byte word

-- an alias of the configuration or of modules.alias matches the name
abbrev pub is_alias : Known → List ℕ → Bool
is_alias known name =
    nat_lt 0 (length (matching known.configuration.now.aliases name)) || nat_lt 0 (length (matching known.aliases.now.entries name))

-- what a line says of its module
abbrev pub setting_of : Line → Setting
setting_of blacklist = Blacklist
setting_of install = Command
setting_of remove = Command
setting_of (options ws) = Options
setting_of (softdep items) = Softdep

-- the same by its first word and the words behind its name, if they say anything: a blacklist line alone needs none
abbrev pub setting_said : List ℕ → List (List ℕ) → Option Setting
setting_said w [] = if bytes_eq w (codes "blacklist") then Some Blacklist else None
setting_said w (x ∷ xs) = option_map setting_of (line_from w (x ∷ xs))

-- each word that the parameters of a module refuse
abbrev pub value_notes : ℕ → List Param → List (List ℕ) → List Note
value_notes number params ws = map (λ w. note number (RefusedValue w)) (filter (λ w. not (is_valid_word params w)) ws)

-- each word that is written as a pattern
abbrev pub pattern_notes : ℕ → List (List ℕ) → List Note
pattern_notes number ws = map (λ w. note number (PatternItem w)) (filter has_pattern ws)

-- of a softdep line of a module: an earlier one counts, or its items are looked at. The slots are those of earlier softdep lines.
abbrev pub softdep_notes : ℕ → List ℕ → ℕ → List (List ℕ) → List Note
softdep_notes number slots slot ws =
    if list_any (nat_eq slot) slots then note number LaterSoftdep ∷ [] else pattern_notes number ws

-- of a line of a module
abbrev pub module_notes : Known → ℕ → List ℕ → ℕ → Setting → List (List ℕ) → List Note
module_notes known number slots slot Blacklist ws = []
module_notes known number slots slot Command ws = []
module_notes known number slots slot Options ws = value_notes number (description_at known.catalogue.now slot).params ws
module_notes known number slots slot Softdep ws = softdep_notes number slots slot ws

-- the command of an install or remove line is `true` or `false`, by which a module is kept out or in
abbrev pub does_nothing : List (List ℕ) → Bool
does_nothing [] = false
does_nothing (w ∷ ws) =
    bytes_eq w (codes "true") || bytes_eq w (codes "/bin/true") || bytes_eq w (codes "/usr/bin/true")
    || bytes_eq w (codes "false") || bytes_eq w (codes "/bin/false") || bytes_eq w (codes "/usr/bin/false")

-- an install or remove line has the name, for which modprobe(8) runs its command whether a module has it or not
abbrev pub is_command : Known → List ℕ → Bool
is_command known name = has_install_line known.configuration.now name || has_remove_line known.configuration.now name

-- a name that no module has stands for something: an alias matches it, or a command is run for it
abbrev pub is_answered : Known → List ℕ → Setting → List (List ℕ) → Bool
is_answered known name Command ws = is_alias known name || not (does_nothing ws)
is_answered known name Blacklist ws = is_alias known name || is_command known name
is_answered known name Options ws = is_alias known name || is_command known name
is_answered known name Softdep ws = is_alias known name || is_command known name

-- of a line of a name that no module has
abbrev pub nameless_notes : Known → ℕ → List ℕ → Setting → List (List ℕ) → List Note
nameless_notes known number name setting ws =
    if has_pattern name then note number PatternName ∷ []
    else (if is_answered known name setting ws then [] else note number UnknownName ∷ [])

-- of a line of a name, which a module has or none
abbrev pub named_notes : Known → ℕ → List ℕ → List ℕ → Option ℕ → Setting → List (List ℕ) → List Note
named_notes known number slots name None setting ws = nameless_notes known number name setting ws
named_notes known number slots name (Some slot) setting ws = module_notes known number slots slot setting ws

-- Of an alias: its target has to be a module, since an alias leads to no other alias, or a name for which a command is run. The target
-- `off` is no name, but how modules are kept from the alias.
abbrev pub target_notes : Known → ℕ → Option Alias → List Note
target_notes known number None = []
target_notes known number (Some alias) =
    if bytes_eq alias.target (codes "off") || is_some (slot_named known.catalogue.now alias.target) || is_command known alias.target then []
    else note number UnknownTarget ∷ []

abbrev pub said_notes : Known → ℕ → List ℕ → List ℕ → Option Setting → List (List ℕ) → List Note
said_notes known number slots name None ws = []
said_notes known number slots name (Some setting) ws =
    named_notes known number slots name (slot_named known.catalogue.now name) setting ws

-- of a line's words
abbrev pub word_notes : Known → ℕ → List ℕ → List (List ℕ) → List Note
word_notes known number slots (w ∷ name ∷ ws) =
    if bytes_eq w (codes "alias") then target_notes known number (alias_of (w ∷ name ∷ ws))
    else said_notes known number slots (normal_form name) (setting_said w ws) ws
word_notes known number slots _ = []

-- a slot more, unless it stands there
abbrev pub with_slot : List ℕ → ℕ → List ℕ
with_slot slots slot = if list_any (nat_eq slot) slots then slots else slots ++ slot ∷ []

-- the slots with a softdep line after a line of a name
abbrev pub with_setting : List ℕ → Option ℕ → Option Setting → List ℕ
with_setting slots (Some slot) (Some Softdep) = with_slot slots slot
with_setting slots _ _ = slots

-- the slots with a softdep line after a line of these words
abbrev pub with_words : Known → List ℕ → List (List ℕ) → List ℕ
with_words known slots (w ∷ name ∷ ws) =
    if bytes_eq w (codes "alias") then slots
    else with_setting slots (slot_named known.catalogue.now (normal_form name)) (setting_said w ws)
with_words known slots _ = slots

-- of a numbered line, if these slots have a softdep line before it; a line whose first byte is `#` is ignored
abbrev pub line_notes : Known → List ℕ → ℕ × List ℕ → List Note
line_notes known slots line = if is_comment line.1 then [] else word_notes known line.0 slots (words line.1)

abbrev pub with_line : Known → List ℕ → ℕ × List ℕ → List ℕ
with_line known slots line = if is_comment line.1 then slots else with_words known slots (words line.1)

-- of numbered lines, if these slots have a softdep line before them
abbrev pub notes_from : Known → List ℕ → List (ℕ × List ℕ) → List Note
notes_from known slots [] = []
notes_from known slots (line ∷ later) = line_notes known slots line ++ notes_from known (with_line known slots line) later

-- the notes of a configuration text, in the order of its lines
abbrev pub notes_of : Known → List ℕ → List Note
notes_of known text = notes_from known [] (joined_lines 1 (lines text))
