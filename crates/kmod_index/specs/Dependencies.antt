-- What a modules.dep text says (modules.dep(5)): `PATH: PATH PATH ..`, the path of a module's file, and those of all
-- modules that it needs, the deepest last.
use Rattle.std.specs.Prelude.{ℕ, List, [], map, reverse, find, Option, Some, None}
use Rattle.std.specs.List.{enumerate_from, filter_map}
use Rattle.std.specs.Str.{bytes_eq}
use Rattle.std.specs.Str.Lines.{lines}
use Rattle.text_parts.specs.Text.{words}
use Rattle.kmod_names.specs.Names.{name_of_path}
use Rattle.kmod_index.specs.Parts.{at_first}

-- a line: the path of a module's file, the paths of the modules that it needs, and the line's number, from 1
pub record Dependencies : Type 0 where
  pub path : List ℕ
  pub needs : List (List ℕ)
  pub number : ℕ

-- the two parts of a line of this number at its first colon; a line without one says nothing
abbrev pub dependencies_from : ℕ → Option (List ℕ × List ℕ) → Option Dependencies
dependencies_from number None = None
dependencies_from number (Some parts) = Some (record { path = parts.0; needs = words parts.1; number = number })

abbrev pub dependencies_of_line : ℕ × List ℕ → Option Dependencies
dependencies_of_line line = dependencies_from line.0 (at_first 58 line.1)

-- the meaning of a modules.dep text: its lines with a colon, in order
abbrev pub dependencies_of : List ℕ → List Dependencies
dependencies_of text = filter_map dependencies_of_line (enumerate_from 1 (lines text))

-- the name of a line's module
abbrev pub name_of : Dependencies → List ℕ
name_of line = name_of_path line.path

-- the first line of a module
abbrev pub line_of : List Dependencies → List ℕ → Option Dependencies
line_of dependencies name = find (λ line. bytes_eq name (name_of line)) dependencies

-- the names of what a line's module needs, in the order in which they are loaded: the deepest first
abbrev pub needed_names : Dependencies → List (List ℕ)
needed_names line = reverse (map name_of_path line.needs)

abbrev pub needed_by : Option Dependencies → List (List ℕ)
needed_by None = []
needed_by (Some line) = needed_names line

-- the names of what a module needs, none if it has no line
abbrev pub hard_needs : List Dependencies → List ℕ → List (List ℕ)
hard_needs dependencies name = needed_by (line_of dependencies name)
