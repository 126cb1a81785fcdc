-- By which number an alias is found in a look-up. A mark of a pattern is a mark of each text that it matches.
use Rattle.std.specs.Prelude.{◌≡◌, ◌≢◌, ◌≤◌, ℕ, ◌+◌, ◌-◌, ◌*◌, ◌%◌, List, length, take, drop, fold}
use Rattle.alias_match.specs.Pattern.{Piece, Matches, literal_beginning}

-- one more digit to the base 256, of which the last eight stay: the number in it is 256 ^ 7
abbrev pub with_digit : ℕ → ℕ → ℕ
with_digit number digit = number % 72057594037927936 * 256 + digit

-- the number that the last eight bytes are, or all bytes if there are fewer
abbrev pub mark : List ℕ → ℕ
mark bytes = fold with_digit 0 (drop (length bytes - 8) bytes)

-- a text's marks are those of its fronts
abbrev pub HasMark : List ℕ → ℕ → Type 0
HasMark text number = (n : ℕ) × (n ≤ length text) × (mark (take n text) ≡ number)

-- each text that the pattern matches has this mark
abbrev pub IsMarkOf : ℕ → List Piece → Type 0
IsMarkOf number ps = (s : List ℕ) → Matches ps s → HasMark s number

-- later pieces of a pattern, of which the first eight are single bytes, or the whole pattern
abbrev pub IsMarked : List Piece → List Piece → Type 0
IsMarked ps later = (n : ℕ) × (later ≡ drop n ps) × (n ≢ 0 → 8 ≤ length (literal_beginning later))
