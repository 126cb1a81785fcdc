-- Which notes of a lint are left out: those of the line behind a comment `# gz-lint: ignore KIND ..`, and those that a line
-- `FILE KIND NAME` of a file of their own names (gz-lint(7)).
use Rattle.std.specs.Prelude.{ℕ, nat_eq, Bool, true, not, if◌then◌else◌, ◌&&◌, ◌||◌, List, [], ◌∷◌, ◌++◌, codes, drop, filter, map, slice_get, unwrap_or, Option, Some, None, is_none}
use Rattle.std.specs.List.{enumerate_from, filter_map, flat_map, list_any, starts_with}
use Rattle.std.specs.Str.{bytes_eq}
use Rattle.std.specs.Str.Lines.{lines}
use Rattle.text_parts.specs.Text.{has_word, is_comment, words}
use Rattle.kmod_names.specs.declared.place.Place.{Place}
use Rattle.machine_lint.specs.declared.note.Note.{Note}
use Rattle.machine_lint.specs.declared.note.NoteKind.TheVariants.{UnknownKind}
use Rattle.machine_lint.specs.declared.setting.Setting.TheVariants.{Bad}
use Rattle.machine_lint.specs.Lines.{is_same_place}
use Rattle.answer_facts.specs.NoteFacts.{because}
use Rattle.lint_ignores.specs.declared.ignore.Ignore.{Ignore}
use Rattle.lint_ignores.specs.Kinds.{is_kind}

-- `*` stands for any word
abbrev pub stands_for : List ℕ → List ℕ → Bool
stands_for asked own = bytes_eq asked (codes "*") || bytes_eq asked own

-- an ignore of a comment is of one place
abbrev pub is_at : Option Place → Place → Bool
is_at None own = true
is_at (Some place) own = is_same_place place own

-- the path of a text of the configuration
abbrev pub path_of : List (List ℕ) → ℕ → List ℕ
path_of paths source = unwrap_or (slice_get paths source) []

-- an ignore names a note, by the place of its line, its file, its kind and its name
abbrev pub names_note : List (List ℕ) → Note → Ignore → Bool
names_note paths note ignore =
    is_at ignore.place note.place && stands_for ignore.file (path_of paths note.place.source)
    && stands_for ignore.kind (because note.setting note.kind) && stands_for ignore.name note.name

abbrev pub is_left : List (List ℕ) → List Ignore → Note → Bool
is_left paths ignores note = not (list_any (names_note paths note) ignores)

-- the notes that no ignore names, in their order
abbrev pub left_notes : List (List ℕ) → List Ignore → List Note → List Note
left_notes paths ignores notes = filter (is_left paths ignores) notes

-- an ignore names a file that is not read for a reason; such a file has no line, and no name
abbrev pub names_file : List ℕ → List ℕ → Ignore → Bool
names_file path reason ignore =
    is_none ignore.place && stands_for ignore.file path && stands_for ignore.kind reason && bytes_eq ignore.name (codes "*")

abbrev pub is_file_left : List Ignore → List ℕ → List ℕ → Bool
is_file_left ignores path reason = not (list_any (names_file path reason) ignores)

-- the kinds that a comment names
abbrev pub kinds_of : List ℕ → List (List ℕ)
kinds_of line = if starts_with nat_eq line (codes "# gz-lint: ignore ") then words (drop 18 line) else []

-- a kind is ignored of the line of a number
abbrev pub ignore_at : ℕ → ℕ → List ℕ → Ignore
ignore_at source number kind =
    record {
      place = Some (record { source = source; line = number });
      file = codes "*";
      kind = kind;
      name = codes "*";
    }

-- what a line of a text of the configuration ignores, by the number of the line behind it
abbrev pub comment_ignores : ℕ → ℕ × List ℕ → List Ignore
comment_ignores source line = map (ignore_at source line.0) (kinds_of line.1)

-- what a text of the configuration ignores, by its number among them; the line behind its first one is its second
abbrev pub text_ignores : ℕ → List ℕ → List Ignore
text_ignores source text = flat_map (comment_ignores source) (enumerate_from 2 (lines text))

-- a note of a comment that names something else than a kind
abbrev pub unknown_at : ℕ → ℕ → List ℕ → Note
unknown_at source number word =
    record { place = record { source = source; line = number }; setting = Bad; name = word; kind = UnknownKind }

abbrev pub is_no_kind : List ℕ → Bool
is_no_kind word = not (is_kind word)

abbrev pub comment_unknown : ℕ → ℕ × List ℕ → List Note
comment_unknown source line = map (unknown_at source line.0) (filter is_no_kind (kinds_of line.1))

-- the notes of the comments of a text of the configuration
abbrev pub text_unknown : ℕ → List ℕ → List Note
text_unknown source text = flat_map (comment_unknown source) (enumerate_from 1 (lines text))

-- what three words ignore
abbrev pub ignore_by : List (List ℕ) → Option Ignore
ignore_by (file ∷ kind ∷ name ∷ []) =
    if is_kind kind then Some (record { place = None; file = file; kind = kind; name = name }) else None
ignore_by _ = None

-- what a line of a file of ignores says; a comment says nothing
abbrev pub line_ignore : List ℕ → Option Ignore
line_ignore line = if is_comment line then None else ignore_by (words line)

-- what such a file ignores
abbrev pub file_ignores : List ℕ → List Ignore
file_ignores text = filter_map line_ignore (lines text)

-- a line that says something, and ignores nothing
abbrev pub is_bad_line : List ℕ → Bool
is_bad_line line = has_word line && not (is_comment line) && is_none (ignore_by (words line))
