-- Sums of names, which tell most names apart.
use Rattle.std.specs.Prelude.{ℕ, ◌+◌, ◌%◌, ◌^◌, List, [], ◌∷◌, map}
use Rattle.kmod_index.specs.Dependencies.{Dependencies, name_of}

-- a sum and the bytes of a name after it, of 32 bits
abbrev pub sum_from : ℕ → List ℕ → ℕ
sum_from sum [] = sum
sum_from sum (byte ∷ rest) = sum_from ((sum + byte) % 2 ^ 32) rest

-- the sum of a name's bytes
abbrev pub sum_of : List ℕ → ℕ
sum_of name = sum_from 0 name

-- the sums of the names of lines' modules
abbrev pub sums_of : List Dependencies → List ℕ
sums_of lines = map (λ line. sum_of (name_of line)) lines
