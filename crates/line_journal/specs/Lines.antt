-- Which lines a file stands for, and the files that stand for given lines. 43 is '+', 32 a blank, 10 a newline.
use Rattle.std.specs.Prelude.{◌≡◌, ◌≢◌, ◌⊎◌, ◌≤◌, ℕ, ◌+◌, List, [], ◌∷◌, ◌++◌, length, take, drop, map, Vec, All, ◌&&◌, ◌==◌, if◌then◌else◌}
use Rattle.std.specs.declared.alloc.Global.{Global}

-- a byte in front of the first of these
abbrev pub with_front : ℕ → List (List ℕ) → List (List ℕ)
with_front byte [] = []
with_front byte (first ∷ rest) = (byte ∷ first) ∷ rest

-- what ends with a newline, gate and all
abbrev pub ended : List ℕ → List (List ℕ)
ended [] = []
ended (byte ∷ rest) = if byte == 10 then [] ∷ ended rest else with_front byte (ended rest)

-- those that count, without their gates: as far as each one's gate, its first byte, is open
abbrev pub counting : List (List ℕ) → List (List ℕ)
counting ((gate ∷ line) ∷ rest) = if gate == 43 then line ∷ counting rest else []
counting rest = []

-- the lines that a file stands for
abbrev pub lines_of : List ℕ → List (List ℕ)
lines_of file = counting (ended file)

-- a line is any bytes but newlines
abbrev pub IsLine : List ℕ → Type 0
IsLine line = All (λ byte. byte ≢ 10) line

-- each of them is a line
abbrev pub AreLines : List (List ℕ) → Type 0
AreLines lines = All IsLine lines

-- the lines, their gates open
abbrev pub open_text : List (List ℕ) → List ℕ
open_text [] = []
open_text (line ∷ lines) = 43 ∷ line ++ 10 ∷ open_text lines

-- the file of these lines at rest: one closed gate stands behind them
abbrev pub at_rest : List (List ℕ) → List ℕ
at_rest lines = open_text lines ++ 32 ∷ []

-- the first gate, or a closed one if there is none
abbrev pub first_gate : List ℕ → ℕ
first_gate [] = 32
first_gate (gate ∷ gates) = gate

-- the gates behind the first
abbrev pub later_gates : List ℕ → List ℕ
later_gates [] = []
later_gates (gate ∷ gates) = gates

-- the lines with these gates, those for which there is none closed, and a closed gate behind them
abbrev pub with_gates : List ℕ → List (List ℕ) → List ℕ
with_gates gates [] = 32 ∷ []
with_gates gates (line ∷ lines) = first_gate gates ∷ line ++ 10 ∷ with_gates (later_gates gates) lines

-- the file of these lines with a group behind them that does not count yet
abbrev pub with_waiting : List (List ℕ) → List (List ℕ) → List ℕ
with_waiting lines group = open_text lines ++ with_gates [] group

-- the file stands for these lines
abbrev pub StandsFor : List (List ℕ) → List ℕ → Type 0
StandsFor lines file = lines_of file ≡ lines

-- the file stands for these lines, with this one behind them or without
abbrev pub StandsWithOrWithout : List (List ℕ) → List ℕ → List ℕ → Type 0
StandsWithOrWithout lines line file = StandsFor lines file ⊎ StandsFor (lines ++ line ∷ []) file

-- the file stands for these lines and the first of the group: none, some or all
abbrev pub StandsWithFirstOf : List (List ℕ) → List (List ℕ) → List ℕ → Type 0
StandsWithFirstOf lines group file = (count : ℕ) × (count ≤ length group) × StandsFor (lines ++ take count group) file

-- the file stands for the one or for the other
abbrev pub StandsForEither : List (List ℕ) → List (List ℕ) → List ℕ → Type 0
StandsForEither lines others file = StandsFor lines file ⊎ StandsFor others file

-- these bytes are lines that count, and nothing else
abbrev pub IsWhole : List ℕ → Type 0
IsWhole bytes = bytes ≡ open_text (lines_of bytes)

-- the bytes behind the last line that counts
abbrev pub behind : List ℕ → List ℕ
behind file = drop (length (open_text (lines_of file))) file

-- how many of these bytes are open gates, if this byte stands before them
abbrev pub gates_after : ℕ → List ℕ → ℕ
gates_after before [] = 0
gates_after before (byte ∷ rest) = (if (before == 10) && (byte == 43) then 1 else 0) + gates_after byte rest

-- how many lines of these bytes have an open gate, whether they end or not
abbrev pub open_gates : List ℕ → ℕ
open_gates bytes = gates_after 10 bytes

-- the bytes of each
abbrev pub bytes_of : List (Vec ℕ Global) → List (List ℕ)
bytes_of lines = map (λ line. line.items) lines
