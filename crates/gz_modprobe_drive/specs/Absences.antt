-- What is said of a machine only since something is not there.
use Rattle.std.specs.Prelude.{Bool, true, false, not, filter, if◌then◌else◌, List}
use Rattle.machine_lint.specs.declared.note.Note.{Note}
use Rattle.machine_lint.specs.declared.note.NoteKind.{NoteKind}
use Rattle.machine_lint.specs.declared.note.NoteKind.TheVariants.{AliasName, BuiltIn, OtherText, Pattern, Stopped, Unknown, UnknownItem, UnknownModule}

-- A note that a whole text of a folder of modules may take away: that nothing answers to a name, or that it is a name of the
-- kernel's or of an alias alone, or that a module has no soft dependencies and so its install line counts.
abbrev pub is_of_absence : NoteKind → Bool
is_of_absence Unknown = true
is_of_absence Pattern = true
is_of_absence BuiltIn = true
is_of_absence AliasName = true
is_of_absence (UnknownModule target) = true
is_of_absence (UnknownItem item) = true
is_of_absence (Stopped place) = true
is_of_absence (OtherText place) = true
is_of_absence _ = false

abbrev pub is_certain : Note → Bool
is_certain note = not (is_of_absence note.kind)

-- the notes that hold whatever texts lack, or all of them if none lacks anything
abbrev pub certain_notes : Bool → List Note → List Note
certain_notes is_whole notes = if is_whole then notes else filter is_certain notes
