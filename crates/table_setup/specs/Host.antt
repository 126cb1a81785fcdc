-- The catalogue of a machine, of modules.dep alone: each module has a symbol of its own name, and needs those of all
-- modules that its line lists. So its needs are those of depmod(8), with theirs.
use Rattle.std.specs.Prelude.{ℕ, List, [], ◌∷◌, ◌++◌, codes}
use Rattle.std.specs.List.{flat_map}
use Rattle.kmod_index.specs.Dependencies.{Dependencies, dependencies_of, name_of, needed_names}

-- a word behind another
abbrev pub next_word : List ℕ → List ℕ
next_word word = codes " " ++ word

-- a line with a word before others
abbrev pub line_of : List ℕ → List (List ℕ) → List ℕ
line_of first others = first ++ flat_map next_word others ++ codes "\n"

-- a module without needs has no line of them
abbrev pub needs_line : List (List ℕ) → List ℕ
needs_line [] = []
needs_line (name ∷ names) = line_of (codes "needs") (name ∷ names)

abbrev pub module_lines : Dependencies → List ℕ
module_lines line =
    line_of (codes "module") (name_of line ∷ []) ++ line_of (codes "exports") (name_of line ∷ []) ++ needs_line (needed_names line)

-- version 3 has room for 65,535 modules
abbrev pub host_catalogue : List ℕ → List ℕ
host_catalogue text = codes "version 3\n" ++ flat_map module_lines (dependencies_of text)
