-- Which lines the notes of a text are of.
use Rattle.std.specs.Prelude.{◌≡◌, ◌↔◌, ℕ, List, [], ◌∷◌, ◌++◌, Contains}
use Rattle.std.specs.Str.Lines.{lines}
use Rattle.modprobe_conf.specs.Configuration.{joined_lines}
use Rattle.conf_lint.specs.declared.known.Known.{Known}
use Rattle.conf_lint.specs.declared.note.Note.{Note}
use Rattle.conf_lint.specs.Notes.{line_notes, notes_of, with_line}

-- the slots of the modules with a softdep line, after lines that follow those of other slots
abbrev pub softdeps_after : Known → List ℕ → List (ℕ × List ℕ) → List ℕ
softdeps_after known slots [] = slots
softdeps_after known slots (line ∷ later) = softdeps_after known (with_line known slots line) later

-- the note is one of a line, if those before it are as they are
abbrev pub IsOfLine : Known → List ℕ → List (ℕ × List ℕ) → Note → Type 0
IsOfLine known slots ls told =
    (earlier : List (ℕ × List ℕ)) × (line : ℕ × List ℕ) × (later : List (ℕ × List ℕ))
    × (ls ≡ earlier ++ line ∷ later) × Contains (line_notes known (softdeps_after known slots earlier) line) told

-- each note of a text is one of a line, and each note of a line is one of the text
abbrev pub NotesAreOfLines : Type 0
NotesAreOfLines =
    (known : Known) (text : List ℕ) (told : Note)
    → Contains (notes_of known text) told ↔ IsOfLine known [] (joined_lines 1 (lines text)) told
