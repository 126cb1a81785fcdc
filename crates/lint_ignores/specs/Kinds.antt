-- The kinds of notes, by their words in JSON (gz-lint(7)).
use Rattle.std.specs.Prelude.{ℕ, Bool, ◌||◌, List, codes}
use Rattle.std.specs.Str.{bytes_eq}

-- what may be noted of the name of a line
abbrev pub is_of_name : List ℕ → Bool
is_of_name kind =
    bytes_eq kind (codes "unknown") || bytes_eq kind (codes "keeps_nothing") || bytes_eq kind (codes "pattern")
    || bytes_eq kind (codes "built_in") || bytes_eq kind (codes "alias") || bytes_eq kind (codes "unknown_module")

-- what may be noted of its items
abbrev pub is_of_item : List ℕ → Bool
is_of_item kind =
    bytes_eq kind (codes "no_item") || bytes_eq kind (codes "unknown_item") || bytes_eq kind (codes "itself")
    || bytes_eq kind (codes "ring")

-- what may be noted of the line itself, and of other lines
abbrev pub is_of_line : List ℕ → Bool
is_of_line kind =
    bytes_eq kind (codes "bad_line") || bytes_eq kind (codes "carriage_return") || bytes_eq kind (codes "later")
    || bytes_eq kind (codes "passed_over") || bytes_eq kind (codes "repeated") || bytes_eq kind (codes "unknown_kind")

-- what may be noted of options
abbrev pub is_of_options : List ℕ → Bool
is_of_options kind =
    bytes_eq kind (codes "stopped") || bytes_eq kind (codes "unknown_parameter") || bytes_eq kind (codes "set_later")
    || bytes_eq kind (codes "other_text")

-- why a file may not be read
abbrev pub is_of_file : List ℕ → Bool
is_of_file kind =
    bytes_eq kind (codes "hidden") || bytes_eq kind (codes "dotted") || bytes_eq kind (codes "ending")
    || bytes_eq kind (codes "folder") || bytes_eq kind (codes "dangling") || bytes_eq kind (codes "outside")

-- a kind, or `*`, which stands for any
abbrev pub is_kind : List ℕ → Bool
is_kind word =
    bytes_eq word (codes "*") || is_of_name word || is_of_item word || is_of_line word || is_of_options word || is_of_file word
