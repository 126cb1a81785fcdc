-- Files of packages that an empty file of their name masks, as a link to /dev/null is.
use Rattle.std.specs.Prelude.{ℕ, Bool, not, ◌&&◌, ◌||◌, nat_lt, codes, if◌then◌else◌, List, [], ◌∷◌, length}
use Rattle.std.specs.List.{flat_map, list_any}
use Rattle.std.specs.Str.{bytes_eq}
use Rattle.answer_facts.specs.Pieces.{Piece}
use Rattle.answer_reasons.specs.FileFacts.{hidden_file}
use Rattle.lint_ignores.specs.declared.ignore.Ignore.{Ignore}
use Rattle.lint_ignores.specs.Ignores.{is_file_left}
use Rattle.modprobe_files.specs.declared.texts.ConfTexts.{ConfTexts}
use Rattle.modprobe_files.specs.declared.texts.HiddenFile.{HiddenFile}
use Rattle.modprobe_files.specs.declared.texts.TextFile.{TextFile}
use Rattle.gz_modprobe_drive.specs.Origins.{is_of_package}

-- a file was read at a path, and is empty
abbrev pub is_empty_of : List ℕ → TextFile → Bool
is_empty_of path file = bytes_eq file.path.items path && not (nat_lt 0 (length file.text.items))

abbrev pub is_empty_at : List TextFile → List ℕ → Bool
is_empty_at files path = list_any (is_empty_of path) files

-- a file of a package gives way to an empty one, which is meant so
abbrev pub is_masked : List TextFile → HiddenFile → Bool
is_masked files file = is_of_package file.path.items && is_empty_at files file.by.items

-- nothing is told of a hidden file: it is masked, or ignored
abbrev pub is_quiet : List TextFile → List Ignore → HiddenFile → Bool
is_quiet files ignores file = is_masked files file || not (is_file_left ignores file.path.items (codes "hidden"))

-- what is said of a hidden file
abbrev pub hidden_note : List TextFile → List Ignore → HiddenFile → List (List Piece)
hidden_note files ignores file = if is_quiet files ignores file then [] else hidden_file file ∷ []

-- what is said of all of them
abbrev pub hidden_notes : ConfTexts → List Ignore → List (List Piece)
hidden_notes texts ignores = flat_map (hidden_note texts.files.items ignores) texts.hidden.items
