-- Rows of numbers as lists. This file serves proofs alone.
use Rattle.std.specs.Prelude.{ℕ, List, map}
use Rattle.std.specs.Global.{Vec}

-- each row as a list
abbrev pub rows_of : List (Vec ℕ) → List (List ℕ)
rows_of rows = map (λ r. r.items) rows
