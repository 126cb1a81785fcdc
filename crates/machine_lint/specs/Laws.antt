-- Which lines the notes of a machine are of.
use Rattle.std.specs.Prelude.{◌≡◌, false, Contains}
use Rattle.machine_lint.specs.declared.known.Known.{Known}
use Rattle.machine_lint.specs.declared.note.Note.{Note}
use Rattle.machine_lint.specs.Lines.{Said, is_depmod, lines_of, origin_at}
use Rattle.machine_lint.specs.Notes.{notes_of}

-- a note is one of a line of the configuration that depmod did not write
pub record IsOfLine (known : Known) (note : Note) : Type 0 where
  pub line : Said
  pub stands : Contains (lines_of known.conf.now) line
  pub own : is_depmod (origin_at known.files.now line.place.source) ≡ false
  pub place : note.place ≡ line.place
  pub setting : note.setting ≡ line.setting
  pub name : note.name ≡ line.name

-- each note is one of such a line
abbrev pub NotesAreOfLines : Type 0
NotesAreOfLines = (known : Known) (note : Note) → Contains (notes_of known) note → IsOfLine known note
