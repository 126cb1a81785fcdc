-- Texts one behind another in one text. These words serve proofs alone.
use Rattle.std.specs.Prelude.{ℕ, ◌+◌, List, [], ◌∷◌, take, drop}

-- the texts of these lengths, from the first byte on
abbrev pub pieces : List ℕ → List ℕ → List (List ℕ)
pieces [] bytes = []
pieces (n ∷ ns) bytes = take n bytes ∷ pieces ns (drop n bytes)

-- all lengths together
abbrev pub total : List ℕ → ℕ
total [] = 0
total (n ∷ ns) = n + total ns
