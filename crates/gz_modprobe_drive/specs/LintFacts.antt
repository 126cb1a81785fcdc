-- What a lint tells: a fact for each note, and for each file that is not read.
use Rattle.std.specs.Prelude.{ℕ, List, [], ◌++◌, map, Option, Some, None}
use Rattle.kmod_names.specs.declared.place.Place.{Place}
use Rattle.machine_lint.specs.declared.note.Note.{Note}
use Rattle.answer_facts.specs.NoteFacts.{counting_place, note_pieces}
use Rattle.answer_facts.specs.Pieces.{Piece}
use Rattle.lint_ignores.specs.declared.ignore.Ignore.{Ignore}
use Rattle.modprobe_files.specs.declared.texts.ConfTexts.{ConfTexts}
use Rattle.modprobe_files.specs.Paths.{path_at}
use Rattle.answer_reasons.specs.declared.sources.UnreadFile.{UnreadFile}
use Rattle.answer_reasons.specs.FileFacts.{unread_file}
use Rattle.gz_modprobe_drive.specs.Masks.{hidden_notes}

-- the file of a line that counts in place of another one
abbrev pub counting_path : ConfTexts → Option Place → List ℕ
counting_path texts None = []
counting_path texts (Some place) = path_at texts place.source

-- what is said of a note of a line, of its file
unfoldable pub pieces_of_note : ConfTexts → Note → List Piece
pieces_of_note texts note =
    note_pieces (path_at texts note.place.source) note (counting_path texts (counting_place note.kind))

-- all that is told: each note, each hidden file that is neither masked nor ignored, and each file that is not read
abbrev pub lint_pieces : ConfTexts → List Ignore → List Note → List UnreadFile → List (List Piece)
lint_pieces texts ignores notes unread =
    map (pieces_of_note texts) notes ++ hidden_notes texts ignores ++ map unread_file unread
