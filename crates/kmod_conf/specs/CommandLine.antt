-- What the kernel's command line says of modules, as libkmod reads it: MODULE.PARAMETER[=VALUE] and
-- modprobe.blacklist=NAME,NAME (modprobe(8)).
use Rattle.std.specs.Prelude.{ℕ, ◌+◌, Bool, false, not, if◌then◌else◌, ◌==◌, ◌&&◌, ◌||◌, List, [], ◌∷◌, ◌++◌, codes}
use Rattle.std.specs.Prelude.{map, take, drop, slice_index, Option, Some, None}
use Rattle.std.specs.List.{after_first, before_first, position_or_len}
use Rattle.std.specs.Str.{bytes_eq}
use Rattle.kmod_names.specs.declared.place.Place.{Place}
use Rattle.kmod_names.specs.Names.{normal_alias}
use Rattle.kmod_conf.specs.declared.entry.Entry.{Entry}
use Rattle.kmod_conf.specs.declared.entry.Entry.TheVariants.{Blacklist, Options}
use Rattle.kmod_conf.specs.Lines.{is_space, line_text}
use Rattle.kmod_conf.specs.Configuration.{Configuration, untabbed, with_entry}

-- the first 4,095 bytes, up to a NUL
abbrev pub counted : List ℕ → List ℕ
counted text = line_text (take 4095 text)

-- a quote, a dot, `=` and white space end a name
abbrev pub ends_name : ℕ → Bool
ends_name byte = byte == 34 || byte == 46 || byte == 61 || is_space byte

-- the byte after a name, 0 if it ends the text
abbrev pub name_end : List ℕ → ℕ
name_end text = slice_index text (position_or_len ends_name text)

-- a word without a quote at its beginning
abbrev pub unquoted : List ℕ → List ℕ
unquoted [] = []
unquoted (byte ∷ rest) = if byte == 34 then rest else byte ∷ rest

-- a module and its parameter: what stands before the dot after a name, and after it
abbrev pub cut_parameter : List ℕ → Option (List ℕ × List ℕ)
cut_parameter word =
    if name_end word == 46 then Some (before_first ends_name word, after_first ends_name word) else None

-- a parameter's name ends its text, or `=` stands after it
abbrev pub is_parameter : List ℕ → Bool
is_parameter parameter = name_end parameter == 0 || name_end parameter == 61

-- the quote of the word stands before the value
abbrev pub with_quote : Bool → List ℕ → List ℕ
with_quote is_quoted parameter =
    if is_quoted && (name_end parameter == 61)
    then take (position_or_len ends_name parameter + 1) parameter ++ 34 ∷ drop (position_or_len ends_name parameter + 1) parameter
    else parameter

-- the names between commas, after a begun one
abbrev pub blacklist_from : Place → List ℕ → List ℕ → List Entry
blacklist_from place front [] = Blacklist (record { name = front; place = place }) ∷ []
blacklist_from place front (byte ∷ rest) =
    if byte == 44 then Blacklist (record { name = front; place = place }) ∷ blacklist_from place [] rest
    else blacklist_from place (front ++ byte ∷ []) rest

abbrev pub options_said : Place → Option (List ℕ) → List ℕ → List Entry
options_said place None parameter = []
options_said place (Some name) parameter = Options (record { name = name; text = map untabbed parameter; place = place }) ∷ []

abbrev pub is_blacklist : List ℕ → List ℕ → Bool
is_blacklist name parameter = bytes_eq name (codes "modprobe") && bytes_eq (take 10 parameter) (codes "blacklist=")

abbrev pub parameter_said : Place → List ℕ → List ℕ → List Entry
parameter_said place name parameter =
    if is_blacklist name parameter then blacklist_from place [] (drop 10 parameter)
    else options_said place (normal_alias name) parameter

abbrev pub word_by : Place → Bool → Option (List ℕ × List ℕ) → List Entry
word_by place is_quoted None = []
word_by place is_quoted (Some parts) =
    if is_parameter parts.1 then parameter_said place parts.0 (with_quote is_quoted parts.1) else []

-- what a word says; other words than those of parameters say nothing
abbrev pub word_said : Place → List ℕ → List Entry
word_said place word = word_by place (slice_index word 0 == 34) (cut_parameter (unquoted word))

-- the words after a begun one: white space outside quotes divides them, and a word with an open quote is none
abbrev pub words_said : Place → Bool → List ℕ → List ℕ → List Entry
words_said place is_quoted front [] = if is_quoted then [] else word_said place front
words_said place is_quoted front (byte ∷ rest) =
    if is_space byte && not is_quoted then word_said place front ++ words_said place false [] rest
    else words_said place (if byte == 34 then not is_quoted else is_quoted) (front ++ byte ∷ []) rest

abbrev pub with_entries : Configuration → List Entry → Configuration
with_entries conf [] = conf
with_entries conf (entry ∷ entries) = with_entries (with_entry conf entry) entries

-- what the command line says, as the first line of a source
unfoldable pub conf_with_command_line : Configuration → ℕ → List ℕ → Configuration
conf_with_command_line conf source text =
    with_entries conf (words_said (record { source = source; line = 1 }) false [] (counted text))
