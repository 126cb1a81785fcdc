-- What is not to be noted, by comments of the configuration and by files of ignores.
use Rattle.std.specs.Prelude.{ℕ, List, ◌++◌}
use Rattle.std.specs.List.{enumerate_from, flat_map}
use Rattle.machine_lint.specs.declared.note.Note.{Note}
use Rattle.lint_ignores.specs.declared.ignore.Ignore.{Ignore}
use Rattle.lint_ignores.specs.Ignores.{file_ignores, text_ignores, text_unknown}
use Rattle.modprobe_files.specs.declared.texts.ConfTexts.{ConfTexts}
use Rattle.modprobe_files.specs.declared.texts.TextFile.{TextFile}
use Rattle.gz_modprobe_drive.specs.Texts.{texts_in}

-- what the comments of a text say, by its number
abbrev pub comments_in : ℕ × List ℕ → List Ignore
comments_in text = text_ignores text.0 text.1

abbrev pub comments_of : List TextFile → List Ignore
comments_of files = flat_map comments_in (enumerate_from 0 (texts_in files))

-- what the comments of a configuration say, and files of ignores
abbrev pub ignores_of : ConfTexts → List (List ℕ) → List Ignore
ignores_of texts files = comments_of texts.files.items ++ flat_map file_ignores files

-- the notes of comments that name what is no kind
abbrev pub unknown_in : ℕ × List ℕ → List Note
unknown_in text = text_unknown text.0 text.1

abbrev pub unknown_of : List TextFile → List Note
unknown_of files = flat_map unknown_in (enumerate_from 0 (texts_in files))
