-- What is noted of the lines of a configuration: that modprobe(8) ignores a line, or that it has no effect on this machine.
use Rattle.std.specs.Prelude.{ℕ, Bool, true, false, not, if◌then◌else◌, ◌&&◌, ◌||◌, nat_lt, nat_eq, List, [], ◌∷◌, ◌++◌, codes, Option, Some, None, is_none, is_some, option_map, slice_get}
use Rattle.std.specs.List.{ends_with, filter_map, find, flat_map, list_all, list_any}
use Rattle.std.specs.Option.{option_or, option_to_list}
use Rattle.std.specs.Str.{bytes_eq}
use Rattle.text_parts.specs.Text.{is_filled, words}
use Rattle.kmod_names.specs.declared.place.Place.{Place}
use Rattle.kmod_names.specs.Names.{normal_alias}
use Rattle.kmod_conf.specs.declared.line.TextLine.{TextLine}
use Rattle.kmod_conf.specs.declared.line.SoftdepLine.{SoftdepLine}
use Rattle.kmod_conf.specs.Configuration.{Configuration}
use Rattle.kmod_conf.specs.LookUps.{install_named, install_of, matching_aliases, remove_named, remove_of, softdep_of}
use Rattle.kmod_index.specs.Builtins.{is_among}
use Rattle.kmod_index.specs.Indexes.{Indexes}
use Rattle.machine_lint.specs.declared.judge.Judge.{Judge}
use Rattle.machine_lint.specs.declared.known.Known.{Known}
use Rattle.machine_lint.specs.declared.known.ModuleParameters.{ModuleParameters}
use Rattle.machine_lint.specs.declared.known.Origin.{Origin}
use Rattle.machine_lint.specs.declared.note.Note.{Note}
use Rattle.machine_lint.specs.declared.note.NoteKind.{NoteKind}
use Rattle.machine_lint.specs.declared.note.NoteKind.TheVariants.{AliasName, BadLine, BuiltIn, CarriageReturn, Later, NoItem, OtherText, OwnItem, PassedOver, Pattern, Repeated, RingItem, SetLater, Stopped, Unknown, UnknownItem, UnknownModule, UnknownParameter}
use Rattle.machine_lint.specs.declared.options.OptionWord.{OptionWord}
use Rattle.machine_lint.specs.declared.setting.Setting.{Setting}
use Rattle.machine_lint.specs.declared.setting.Setting.TheVariants as sets
use Rattle.machine_lint.specs.Lines.{Said, has_items, is_depmod, is_kernel, is_package, is_same_place, lines_of, origin_at}
use Rattle.machine_lint.specs.Names.{has_file, has_pattern, is_alias_pattern, is_commanded, is_found, is_in_kernel, is_kernel_alias, is_loadable, is_module, is_named, is_only_alias, is_own, is_used}
use Rattle.machine_lint.specs.Options.{is_agreed, is_never_unknown, last_setting, option_words, parameter_of, takes_more, value_of, words_of}

-- what is known of a machine, and all lines of its configuration
pub record Facts : Type 0 where
  pub conf : Configuration
  pub index : Indexes
  pub parameters : List ModuleParameters
  pub lines : List Said

abbrev pub facts_by : Judge → Facts
facts_by judge =
    record { conf = judge.conf.now; index = judge.index.now; parameters = judge.parameters.now; lines = judge.lines.now }

abbrev pub facts_of : Known → Facts
facts_of known =
    record {
      conf = known.conf.now;
      index = known.index.now;
      parameters = known.parameters.now;
      lines = lines_of known.conf.now;
    }

abbrev pub is_options : Setting → Bool
is_options sets.Options = true
is_options _ = false

-- A carriage return counts as the last byte of a line's last word. White space divides the items of softdep and weakdep
-- lines, which have no text here; and options, of which the kernel takes it for white space.
abbrev pub ends_with_cr : Said → Bool
ends_with_cr line =
    ends_with nat_eq (if is_filled line.text && not (is_options line.setting) then line.text else line.name) (13 ∷ [])

abbrev pub is_true_or_false : List ℕ → Bool
is_true_or_false word =
    bytes_eq word (codes "true") || bytes_eq word (codes "/bin/true") || bytes_eq word (codes "/usr/bin/true")
    || bytes_eq word (codes "false") || bytes_eq word (codes "/bin/false") || bytes_eq word (codes "/usr/bin/false")

-- a command of one word that loads nothing
abbrev pub is_idle : List (List ℕ) → Bool
is_idle (word ∷ []) = is_true_or_false word
is_idle _ = false

-- whether a command is `true` or `false` alone, by which modules are kept out
abbrev pub does_nothing : List ℕ → Bool
does_nothing command = is_idle (words command)

-- why a name that leads to nothing has no effect: its module is in the kernel, or it is a pattern, which stands for itself here
abbrev pub why_absent : Indexes → List ℕ → NoteKind
why_absent index name =
    if is_in_kernel index name then BuiltIn else (if has_pattern name then Pattern else Unknown)

abbrev pub unless : Bool → NoteKind → Option NoteKind
unless is_said kind = if is_said then None else Some kind

-- of a name that leads neither to a module's file nor to an alias nor to a command
abbrev pub absent : Facts → List ℕ → Option NoteKind
absent facts name = unless (is_used facts.conf facts.index name) (why_absent facts.index name)

-- why a line that counts for modules alone has no effect
abbrev pub why_no_module : Facts → List ℕ → NoteKind
why_no_module facts name =
    if is_only_alias facts.conf facts.index name then AliasName else why_absent facts.index name

-- Of a name by which no module is loaded. An alias gives its module options, install and remove lines, and no blacklist,
-- softdep and weakdep lines.
abbrev pub no_module : Facts → List ℕ → Option NoteKind
no_module facts name = unless (is_module facts.conf facts.index name) (why_no_module facts name)

-- numbers of settings
abbrev pub number_of : Setting → ℕ
number_of sets.Alias = 0
number_of sets.Blacklist = 1
number_of sets.Options = 2
number_of sets.Install = 3
number_of sets.Remove = 4
number_of sets.Softdep = 5
number_of sets.Weakdep = 6
number_of sets.Bad = 7

abbrev pub is_softdep : Setting → Bool
is_softdep sets.Softdep = true
is_softdep _ = false

-- the same line stands before in the same file
abbrev pub is_repeat_of : Said → Said → Bool
is_repeat_of line other =
    nat_eq (number_of other.setting) (number_of line.setting) && nat_eq other.place.source line.place.source
    && nat_lt other.place.line line.place.line && bytes_eq other.name line.name && bytes_eq other.text line.text

abbrev pub repeated : Facts → Said → Option NoteKind
repeated facts line = option_map (λ first. Repeated first.place) (find (is_repeat_of line) facts.lines)

-- another line counts in place of one
abbrev pub unless_here : Place → Place → Option NoteKind
unless_here here counting = if is_same_place here counting then None else Some (Later counting)

abbrev pub later : Place → Option TextLine → Option NoteKind
later here None = None
later here (Some counting) = unless_here here counting.place

-- the softdep line that counts for a name is the first that matches it; a pattern may match names that no earlier one matches
abbrev pub later_softdep : Place → Option SoftdepLine → Option NoteKind
later_softdep here None = None
later_softdep here (Some counting) = unless_here here counting.place

-- The command that counts for a name is that of the first line that matches, if modules.dep has a module of the name. Other
-- names are found by the first line of just this name.
abbrev pub counting_install : Facts → List ℕ → Option TextLine
counting_install facts name = if has_file facts.index name then install_of facts.conf name else install_named facts.conf name

abbrev pub counting_remove : Facts → List ℕ → Option TextLine
counting_remove facts name = if has_file facts.index name then remove_of facts.conf name else remove_named facts.conf name

-- a command runs for the name of a module or of an alias, also of one in the kernel
abbrev pub has_own_command : Facts → List ℕ → Bool
has_own_command facts name = is_named facts.conf facts.index name || is_kernel_alias facts.index name

-- a command that does nothing keeps no module out that is not there
abbrev pub keeps_nothing : Facts → Said → Option NoteKind
keeps_nothing facts line =
    unless (has_own_command facts line.name || has_pattern line.name || not (does_nothing line.text))
    (why_absent facts.index line.name)

abbrev pub is_found_by : Facts → Option (List ℕ) → Bool
is_found_by facts None = false
is_found_by facts (Some own) = is_found facts.conf facts.index own

-- something answers to an item
abbrev pub is_answered : Facts → List ℕ → Bool
is_answered facts item = is_found_by facts (normal_alias item)

-- Whether something answers to an item of a softdep line. A module for which such a line counts is loaded by its file,
-- whatever its install line says.
abbrev pub has_soft_items : Facts → Option SoftdepLine → Bool
has_soft_items facts None = false
has_soft_items facts (Some line) =
    list_any (is_answered facts) line.items.pre || list_any (is_answered facts) line.items.post

abbrev pub passed_over_by : Facts → Option SoftdepLine → Option NoteKind
passed_over_by facts None = None
passed_over_by facts (Some softdep) = if has_soft_items facts (Some softdep) then Some (PassedOver softdep.place) else None

-- An install line of a module that has soft dependencies. A name that is no module's is found by such a line all the same.
abbrev pub passed_over : Facts → Said → Option NoteKind
passed_over facts line =
    if has_file facts.index line.name then passed_over_by facts (softdep_of facts.conf line.name) else None

-- options of a module whose install command does nothing and counts
abbrev pub stopped_by : Option TextLine → Option NoteKind
stopped_by None = None
stopped_by (Some install) = if does_nothing install.text then Some (Stopped install.place) else None

abbrev pub stopped : Facts → Said → Option NoteKind
stopped facts line =
    if has_file facts.index line.name && not (has_soft_items facts (softdep_of facts.conf line.name))
    then stopped_by (install_of facts.conf line.name) else None

-- something is loaded by the name of a module, or of a softdep line to which an alias leads
abbrev pub loads_something : Facts → List ℕ → Bool
loads_something facts name = is_loadable facts.conf facts.index name || is_some (softdep_of facts.conf name)

-- an alias leads to such a name, or to `off`, which switches it off; it does not lead to another alias
abbrev pub alias_kind : Facts → Said → Option NoteKind
alias_kind facts line =
    if bytes_eq line.text (codes "off") || loads_something facts line.text then repeated facts line
    else Some (UnknownModule line.text)

abbrev pub blacklist_kind : Facts → Said → Option NoteKind
blacklist_kind facts line = option_or (no_module facts line.name) (repeated facts line)

-- all words that set what a line sets set it to the same values
abbrev pub are_agreed : Facts → Said → Bool
are_agreed facts line = list_all (is_agreed (words_of line.name facts.conf)) (option_words line.text)

-- options that stand before, unless another line sets one of them to another value: then it is not the same where it stands
abbrev pub repeated_options : Facts → Said → Option NoteKind
repeated_options facts line = if are_agreed facts line then repeated facts line else None

abbrev pub used_options_kind : Facts → Said → Option NoteKind
used_options_kind facts line = option_or (stopped facts line) (repeated_options facts line)

-- Of a name to which an alias line of another text answers first: such an alias takes options by its own text alone.
abbrev pub other_text : Facts → List ℕ → Option NoteKind
other_text facts name =
    if has_file facts.index name || is_alias_pattern facts.conf name || is_commanded facts.conf name then None
    else option_map (λ alias. OtherText alias.place) (slice_get (matching_aliases facts.conf name) 0)

abbrev pub named_options_kind : Facts → Said → Option NoteKind
named_options_kind facts line = option_or (other_text facts line.name) (used_options_kind facts line)

-- the kernel itself reads its command line, for parts of it that no text names
abbrev pub options_kind : Facts → Origin → Said → Option NoteKind
options_kind facts origin line =
    if is_kernel origin then used_options_kind facts line
    else option_or (absent facts line.name) (named_options_kind facts line)

abbrev pub install_kind : Facts → Said → Option NoteKind
install_kind facts line =
    option_or (later line.place (counting_install facts line.name)) (option_or (keeps_nothing facts line) (passed_over facts line))

abbrev pub remove_kind : Facts → Said → Option NoteKind
remove_kind facts line = option_or (later line.place (counting_remove facts line.name)) (keeps_nothing facts line)

abbrev pub weakdep_kind : Facts → Said → Option NoteKind
weakdep_kind facts line = if has_pattern line.name then None else no_module facts line.name

-- of a name whose soft dependencies nobody looks for; modprobe -D does so for a module in the kernel too
abbrev pub no_soft_module : Facts → List ℕ → Option NoteKind
no_soft_module facts name = if is_among facts.index.builtin_names name then None else no_module facts name

abbrev pub filled_softdep_kind : Facts → Said → Option NoteKind
filled_softdep_kind facts line =
    if has_pattern line.name then None
    else option_or (later_softdep line.place (softdep_of facts.conf line.name)) (no_soft_module facts line.name)

-- the words of a softdep line are items only after `pre:` or `post:`
abbrev pub softdep_kind : Facts → Said → Option NoteKind
softdep_kind facts line = if has_items line then filled_softdep_kind facts line else Some NoItem

-- by what a line sets
abbrev pub setting_kind : Facts → Origin → Setting → Said → Option NoteKind
setting_kind facts origin sets.Alias line = alias_kind facts line
setting_kind facts origin sets.Blacklist line = blacklist_kind facts line
setting_kind facts origin sets.Options line = options_kind facts origin line
setting_kind facts origin sets.Install line = install_kind facts line
setting_kind facts origin sets.Remove line = remove_kind facts line
setting_kind facts origin sets.Softdep line = softdep_kind facts line
setting_kind facts origin sets.Weakdep line = weakdep_kind facts line
setting_kind facts origin sets.Bad line = Some BadLine

-- what is noted of a line itself
abbrev pub kind_of : Facts → Origin → Said → Option NoteKind
kind_of facts origin line =
    if ends_with_cr line then Some CarriageReturn else setting_kind facts origin line.setting line

abbrev pub is_this : List ℕ → Option (List ℕ) → Bool
is_this name None = false
is_this name (Some own) = bytes_eq own name

-- an item is this name
abbrev pub is_form_of : List ℕ → List ℕ → Bool
is_form_of name item = is_this name (normal_alias item)

abbrev pub has_item : List ℕ → Option SoftdepLine → Bool
has_item name None = false
has_item name (Some line) = list_any (is_form_of name) line.items.pre || list_any (is_form_of name) line.items.post

-- an item of this name is the line's own module
abbrev pub is_own_item : Facts → Said → List ℕ → Bool
is_own_item facts line own = bytes_eq own line.name && is_own facts.conf facts.index own

-- two modules, each by its own name
abbrev pub are_own : Facts → List ℕ → List ℕ → Bool
are_own facts name other = is_own facts.conf facts.index name && is_own facts.conf facts.index other

-- the softdep line that counts for an item names the module that has the item: a ring, in which kmod loses itself
abbrev pub names_back : Facts → Said → List ℕ → Bool
names_back facts line own =
    is_softdep line.setting && are_own facts line.name own && has_item line.name (softdep_of facts.conf own)

-- of an item to which no look-up finds anything
abbrev pub absent_item : Facts → List ℕ → List ℕ → Option NoteKind
absent_item facts item own =
    unless (is_found facts.conf facts.index own) (UnknownItem item)

-- an item of a softdep or weakdep line that is the line's own module, that names it back, or that no look-up finds
abbrev pub item_by : Facts → Said → List ℕ → Option (List ℕ) → Option NoteKind
item_by facts line item None = Some (UnknownItem item)
item_by facts line item (Some own) =
    if is_own_item facts line own then Some OwnItem
    else (if names_back facts line own then Some (RingItem item) else absent_item facts item own)

abbrev pub item_kind : Facts → Said → List ℕ → Option NoteKind
item_kind facts line item = item_by facts line item (normal_alias item)

abbrev pub is_of_module : List ℕ → ModuleParameters → Bool
is_of_module name known = bytes_eq known.module name

abbrev pub has_parameter : ModuleParameters → List ℕ → Bool
has_parameter known parameter = list_any (λ own. bytes_eq own parameter) known.names.items

abbrev pub unknown_by : Option ModuleParameters → List ℕ → Option NoteKind
unknown_by None parameter = None
unknown_by (Some known) parameter =
    unless (is_never_unknown known.module parameter || has_parameter known parameter) (UnknownParameter parameter)

-- Of a parameter that a module does not have, by the first entry of the module. Of one without an entry nothing is said, nor
-- of a name that an alias line of the configuration leads elsewhere.
abbrev pub unknown_parameter : Facts → List ℕ → List ℕ → Option NoteKind
unknown_parameter facts name parameter =
    if is_own facts.conf facts.index name then unknown_by (find (is_of_module name) facts.parameters) parameter else None

abbrev pub set_later_by : List ℕ → List ℕ → List ℕ → Option OptionWord → Option NoteKind
set_later_by name parameter value None = None
set_later_by name parameter value (Some last) =
    unless (takes_more name parameter || bytes_eq last.value value) (SetLater parameter last.place)

-- of a word whose parameter has another value in the end, by the words of all lines of its name
abbrev pub set_later : List ℕ → List OptionWord → List ℕ → List ℕ → Option NoteKind
set_later name words parameter value = set_later_by name parameter value (last_setting words parameter)

-- what is noted of a word of an options line, by the words of all lines of its name
abbrev pub word_kind : Facts → Said → List OptionWord → List ℕ → Option NoteKind
word_kind facts line words word =
    option_or (unknown_parameter facts line.name (parameter_of word)) (set_later line.name words (parameter_of word) (value_of word))

abbrev pub note_with : Said → NoteKind → Note
note_with line kind = record { place = line.place; setting = line.setting; name = line.name; kind = kind }

-- What is to be expected of a package's lines, which are for whichever kernel is there: that no such module or parameter is
-- there, or that the module is in the kernel. And people set other values, and other aliases, after it.
abbrev pub is_expected_of_packages : NoteKind → Bool
is_expected_of_packages Unknown = true
is_expected_of_packages BuiltIn = true
is_expected_of_packages AliasName = true
is_expected_of_packages (UnknownModule name) = true
is_expected_of_packages (UnknownItem item) = true
is_expected_of_packages (UnknownParameter parameter) = true
is_expected_of_packages (SetLater parameter place) = true
is_expected_of_packages (OtherText place) = true
is_expected_of_packages _ = false

abbrev pub due : Origin → Option NoteKind → Option NoteKind
due origin None = None
due origin (Some kind) = if is_package origin && is_expected_of_packages kind then None else Some kind

abbrev pub note_of : Facts → Origin → Said → Option Note
note_of facts origin line = option_map (note_with line) (due origin (kind_of facts origin line))

abbrev pub item_note : Facts → Origin → Said → List ℕ → Option Note
item_note facts origin line item = option_map (note_with line) (due origin (item_kind facts line item))

abbrev pub word_note : Facts → Origin → Said → List OptionWord → List ℕ → Option Note
word_note facts origin line words word = option_map (note_with line) (due origin (word_kind facts line words word))

-- an options line of which nothing is noted itself
abbrev pub sets_parameters : Facts → Origin → Said → Bool
sets_parameters facts origin line = is_options line.setting && is_none (kind_of facts origin line)

-- the notes of the words of such a line
abbrev pub word_notes : Facts → Origin → Said → List Note
word_notes facts origin line =
    if sets_parameters facts origin line
    then filter_map (word_note facts origin line (words_of line.name facts.conf)) (option_words line.text) else []

-- the notes of a line itself, of its items, and of its words
abbrev pub own_notes : Facts → Origin → Said → List Note
own_notes facts origin line =
    option_to_list (note_of facts origin line) ++ filter_map (item_note facts origin line) line.items
    ++ word_notes facts origin line

-- nobody edits what depmod(8) writes
abbrev pub notes_by : Facts → Origin → Said → List Note
notes_by facts origin line = if is_depmod origin then [] else own_notes facts origin line

-- what is noted of a line, by who wrote it
abbrev pub line_notes : List Origin → Facts → Said → List Note
line_notes files facts line = notes_by facts (origin_at files line.place.source) line

-- all notes of a machine's configuration
unfoldable pub notes_of : Known → List Note
notes_of known = flat_map (line_notes known.files.now (facts_of known)) (lines_of known.conf.now)
