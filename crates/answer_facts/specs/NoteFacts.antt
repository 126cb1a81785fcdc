-- What is said of a line that has no effect, or not the one that it seems to have.
use Rattle.std.specs.Prelude.{ℕ, Bool, ◌==◌, if◌then◌else◌, List, [], ◌∷◌, ◌++◌, codes, Option, Some, None}
use Rattle.std.specs.List.{list_any}
use Rattle.kmod_names.specs.declared.place.Place.{Place}
use Rattle.machine_lint.specs.declared.note.Note.{Note}
use Rattle.machine_lint.specs.declared.note.NoteKind.{NoteKind}
use Rattle.machine_lint.specs.declared.note.NoteKind.TheVariants as of_kind
use Rattle.machine_lint.specs.declared.setting.Setting.{Setting}
use Rattle.machine_lint.specs.declared.setting.Setting.TheVariants as sets
use Rattle.answer_facts.specs.declared.note_fact.NoteFact.{NoteFact}
use Rattle.answer_facts.specs.Pieces.{Piece, field, kind, number, tag, words}

-- the first word of a line; that of a bad line stands for its name
abbrev pub line_word : Setting → List ℕ
line_word sets.Alias = codes "alias"
line_word sets.Blacklist = codes "blacklist"
line_word sets.Options = codes "options"
line_word sets.Install = codes "install"
line_word sets.Remove = codes "remove"
line_word sets.Softdep = codes "softdep"
line_word sets.Weakdep = codes "weakdep"
line_word sets.Bad = []

-- what divides it from the name
abbrev pub space_behind : List ℕ → List ℕ
space_behind [] = []
space_behind (byte ∷ bytes) = codes " "

-- a name that nothing has: that of an install or remove line, which are noted only if they keep a module out, keeps out none
abbrev pub unknown_because : Setting → List ℕ
unknown_because sets.Install = codes "keeps_nothing"
unknown_because sets.Remove = codes "keeps_nothing"
unknown_because _ = codes "unknown"

-- why, in JSON
abbrev pub because : Setting → NoteKind → List ℕ
because setting of_kind.BadLine = codes "bad_line"
because setting of_kind.CarriageReturn = codes "carriage_return"
because setting of_kind.Unknown = unknown_because setting
because setting of_kind.Pattern = codes "pattern"
because setting of_kind.BuiltIn = codes "built_in"
because setting of_kind.AliasName = codes "alias"
because setting (of_kind.UnknownModule target) = codes "unknown_module"
because setting of_kind.NoItem = codes "no_item"
because setting (of_kind.UnknownItem item) = codes "unknown_item"
because setting of_kind.OwnItem = codes "itself"
because setting (of_kind.RingItem item) = codes "ring"
because setting (of_kind.Later place) = codes "later"
because setting (of_kind.PassedOver place) = codes "passed_over"
because setting (of_kind.Repeated place) = codes "repeated"
because setting (of_kind.Stopped place) = codes "stopped"
because setting (of_kind.UnknownParameter parameter) = codes "unknown_parameter"
because setting (of_kind.SetLater parameter place) = codes "set_later"
because setting (of_kind.OtherText place) = codes "other_text"
because setting of_kind.UnknownKind = codes "unknown_kind"

-- `note` of a line that has no effect on this machine, and may have one on others, or that stands twice; `error` of a line that
-- does other than it says
abbrev pub severity : NoteKind → List ℕ
severity of_kind.Unknown = codes "note"
severity of_kind.BuiltIn = codes "note"
severity (of_kind.UnknownModule target) = codes "note"
severity (of_kind.UnknownItem item) = codes "note"
severity (of_kind.Repeated place) = codes "note"
severity _ = codes "error"

-- a module in the kernel takes no line of modprobe.d(5)
abbrev pub built_in_words : Setting → List ℕ
built_in_words sets.Options = codes "the module is in the kernel, which takes its options from its command line alone"
built_in_words _ = codes "the module is in the kernel, and is not loaded"

-- nothing has the name; that of an install or remove line is the name of a command itself
abbrev pub unknown_words : Setting → List ℕ
unknown_words sets.Install = codes "no module or alias has this name, so there is nothing to keep out"
unknown_words sets.Remove = codes "no module or alias has this name, so there is nothing to keep out"
unknown_words _ = codes "no module, alias or command has this name"

abbrev pub is_hyphen : ℕ → Bool
is_hyphen byte = byte == 45

-- a hyphen stands for itself only in names of the kernel's command line, and within `[..]`
abbrev pub hyphen_words : List ℕ → List ℕ
hyphen_words name = if list_any is_hyphen name then codes ", as a - stands for itself here" else []

-- what is said before the name of something else
abbrev pub words_before : Setting → NoteKind → List ℕ
words_before setting of_kind.BadLine = codes "no line of this form is read"
words_before setting of_kind.CarriageReturn = codes "a CR ends the line, and counts as a part of its last word"
words_before setting of_kind.Unknown = unknown_words setting
words_before setting of_kind.Pattern = codes "no pattern is read here, and nothing has this name"
words_before setting of_kind.BuiltIn = built_in_words setting
words_before setting of_kind.AliasName = codes "it names an alias, and such lines count for modules alone"
words_before setting (of_kind.UnknownModule target) = codes "it leads to "
words_before setting of_kind.NoItem = codes "no item stands after pre: or post:"
words_before setting (of_kind.UnknownItem item) = codes "nothing answers to "
words_before setting of_kind.OwnItem = codes "it names itself"
words_before setting (of_kind.RingItem item) = codes "a ring: the softdep line of "
words_before setting (of_kind.Later place) = codes "does not count, since this line comes first: "
words_before setting (of_kind.PassedOver place) = codes "does not count, since this line gives the module soft dependencies: "
words_before setting (of_kind.Repeated place) = codes "the same line stands before it: "
words_before setting (of_kind.Stopped place) = codes "not used, since this install line loads nothing: "
words_before setting (of_kind.UnknownParameter parameter) = codes "the module has no parameter "
words_before setting (of_kind.SetLater parameter place) = []
words_before setting (of_kind.OtherText place) = codes "does not count, since this alias takes options by its own text alone: "
words_before setting of_kind.UnknownKind = codes "no note has this kind"

-- the name of something else that is noted
abbrev pub named_piece : NoteKind → Piece
named_piece (of_kind.UnknownModule target) = field (codes "target") target
named_piece (of_kind.UnknownItem item) = field (codes "item") item
named_piece (of_kind.RingItem item) = field (codes "item") item
named_piece (of_kind.UnknownParameter parameter) = field (codes "parameter") parameter
named_piece (of_kind.SetLater parameter place) = field (codes "parameter") parameter
named_piece _ = words []

-- what is said behind it
abbrev pub words_after : List ℕ → NoteKind → List ℕ
words_after name of_kind.Unknown = hyphen_words name
words_after name (of_kind.UnknownModule target) = codes ", and no module has that name"
words_after name (of_kind.RingItem item) = codes " names it back"
words_after name (of_kind.SetLater parameter place) = codes " does not count, since this line sets it later: "
words_after name _ = []

-- where the line stands that counts in place of the one that is noted
abbrev pub counting_place : NoteKind → Option Place
counting_place (of_kind.Later place) = Some place
counting_place (of_kind.PassedOver place) = Some place
counting_place (of_kind.Repeated place) = Some place
counting_place (of_kind.Stopped place) = Some place
counting_place (of_kind.SetLater parameter place) = Some place
counting_place (of_kind.OtherText place) = Some place
counting_place _ = None

abbrev pub counting_pieces : List ℕ → Option Place → List Piece
counting_pieces file None = []
counting_pieces file (Some place) = field (codes "by_file") file ∷ words (codes ":") ∷ number (codes "by_line") place.line ∷ []

-- what is noted of a line of a file; `other` is the file of the line that counts in its place
abbrev pub note_pieces : List ℕ → Note → List ℕ → List Piece
note_pieces file note other =
    kind (codes "note") ∷ field (codes "file") file ∷ words (codes ":") ∷ number (codes "line") note.place.line ∷ words (codes ": ")
    ∷ words (line_word note.setting) ∷ words (space_behind (line_word note.setting)) ∷ field (codes "name") note.name
    ∷ words (codes ": ") ∷ tag (codes "setting") (line_word note.setting) ∷ tag (codes "because") (because note.setting note.kind)
    ∷ tag (codes "severity") (severity note.kind)
    ∷ words (words_before note.setting note.kind) ∷ named_piece note.kind ∷ words (words_after note.name note.kind)
    ∷ counting_pieces other (counting_place note.kind)

abbrev pub note_fact_pieces : List ℕ → NoteFact → List Piece
note_fact_pieces file fact = note_pieces file fact.note.now fact.other.now
