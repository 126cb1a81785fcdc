-- Files that are not read, as facts.
use Rattle.std.specs.Prelude.{List}
use Rattle.answer_facts.specs.Facts.{hidden_pieces, unread_pieces}
use Rattle.answer_facts.specs.Pieces.{Piece}
use Rattle.modprobe_files.specs.declared.texts.HiddenFile.{HiddenFile}
use Rattle.answer_reasons.specs.declared.sources.UnreadFile.{UnreadFile}

-- what is said of a file that another one of its name hides
abbrev pub hidden_file : HiddenFile → List Piece
hidden_file file = hidden_pieces file.path.items file.by.items

-- what is said of a file beside the configuration that is not read
abbrev pub unread_file : UnreadFile → List Piece
unread_file file = unread_pieces file.path.items file.reason
