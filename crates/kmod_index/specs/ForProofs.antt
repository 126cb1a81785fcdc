-- How contracts see values of the code.
use Rattle.std.specs.Prelude.{◌≡◌, ℕ, Bool, false, not, ◌==◌, ◌||◌, if◌then◌else◌, List, [], ◌∷◌, map, Option, Some, None}
use Rattle.std.specs.Borrow.{Bor}
use Rattle.kmod_names.specs.ForProofs.{is_special}
use Rattle.kmod_index.specs.Dependencies.{Dependencies}
use Rattle.kmod_index.specs.Indexes.{Indexes}
use Rattle.kmod_index.specs.Lines.{Keyed}

-- what references point to
abbrev pub pointed : {X : Type 0} → List (Bor X) → List X
pointed found = map (λ one. one.now) found

-- a line of these parts
abbrev pub keyed : List ℕ → List ℕ → ℕ → Keyed
keyed key name number = record { key = key; name = name; number = number }

-- the key of a line
abbrev pub key_of : Keyed → List ℕ
key_of line = line.key

-- what tables have of the texts of a folder; of modules.alias and modules.symbols there may be no table
pub record Tabled : Type 0 where
  pub dependencies : List Dependencies
  pub aliases : Option (List Keyed)
  pub symbols : Option (List Keyed)
  pub builtin_names : List (List ℕ)
  pub builtin_aliases : List Keyed

-- there is no table, or it has these lines
abbrev pub IsTableOf : List Keyed → Option (List Keyed) → Type 0
IsTableOf lines None = Unit {0}
IsTableOf lines (Some own) = own ≡ lines

-- tables have what the texts say
pub record TabledOf (tables : Tabled) (indexes : Indexes) : Type 0 where
  pub dependencies : tables.dependencies ≡ indexes.dependencies
  pub aliases : IsTableOf indexes.aliases tables.aliases
  pub symbols : IsTableOf indexes.symbols tables.symbols
  pub builtin_names : tables.builtin_names ≡ indexes.builtin_names
  pub builtin_aliases : tables.builtin_aliases ≡ indexes.builtin_aliases

-- a byte at which a key may end, or that may stand for another byte than itself
abbrev pub is_stop : ℕ → Bool
is_stop byte = is_special byte || byte == 32

-- whether a text has another byte than a front somewhere, and the first such byte stands for itself
abbrev pub parts_early : List ℕ → List ℕ → Bool
parts_early [] front = false
parts_early (byte ∷ text) [] = false
parts_early (byte ∷ text) (other ∷ front) =
    if byte == other then parts_early text front else not (is_stop byte)
