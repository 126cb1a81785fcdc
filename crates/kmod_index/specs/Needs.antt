-- Who needs whom, as modules.dep says (modules.dep(5)). A line has all that its module needs, also what its needs need.
use Rattle.std.specs.Prelude.{ℕ, Bool, not, List, filter}
use Rattle.std.specs.List.{list_any}
use Rattle.std.specs.Str.{bytes_eq}
use Rattle.kmod_index.specs.Dependencies.{Dependencies, hard_needs, needed_names}

-- whether the needs of a line have a module
abbrev pub is_needing : List ℕ → Dependencies → Bool
is_needing name line = list_any (bytes_eq name) (needed_names line)

-- the lines of the modules that need a module, in order
abbrev pub needing : List Dependencies → List ℕ → List Dependencies
needing dependencies name = filter (is_needing name) dependencies

-- whether a module needs another one
abbrev pub has_need : List Dependencies → List ℕ → List ℕ → Bool
has_need dependencies name need = list_any (bytes_eq need) (hard_needs dependencies name)

-- those of some modules that need a module
abbrev pub carriers : List Dependencies → List (List ℕ) → List ℕ → List (List ℕ)
carriers dependencies modules need = filter (λ own. has_need dependencies own need) modules

-- whether a module needs none of these
abbrev pub is_nearest : List Dependencies → List (List ℕ) → List ℕ → Bool
is_nearest dependencies others name = not (list_any (has_need dependencies name) others)

-- Those of some modules that need a module, without those that need it only as they need another of them. If these are the
-- needs of one module, that one needs it through them; through none, it needs it itself.
abbrev pub nearest : List Dependencies → List (List ℕ) → List ℕ → List (List ℕ)
nearest dependencies modules need =
    filter (is_nearest dependencies (carriers dependencies modules need)) (carriers dependencies modules need)
