-- The releases whose modules a machine has.
use Rattle.std.specs.Prelude.{ℕ, List, [], ◌∷◌, ◌++◌, Option, Some, None}

-- the one release that is there, if it is the only one
abbrev pub only_one : List (List ℕ) → Option (List ℕ)
only_one [] = None
only_one (release ∷ []) = Some release
only_one (release ∷ other ∷ more) = None

-- releases as one text, a blank before each
abbrev pub listed : List (List ℕ) → List ℕ
listed [] = []
listed (release ∷ releases) = (32 ∷ release) ++ listed releases
