-- A command as a line of the journal, and lines that are one chain of sums. 32 is a space.
use Rattle.std.specs.Prelude.{ℕ, nat_eq, if◌then◌else◌, List, [], ◌∷◌, ◌++◌, Bool, true, false, take, drop}
use Rattle.std.specs.List.{starts_with}
use Rattle.sha2.specs.Sha256.{sha256}
use Rattle.hex.specs.Hex.{encode_lower}

-- the sum of a text: the first 8 bytes of its SHA-256 (FIPS 180-4), in 16 digits
abbrev pub sum_of : List ℕ → List ℕ
sum_of text = encode_lower (take 8 (sha256 text))

-- what stands before a command: the sum of the link, which is what the line before it tells, and of the command; and a space
abbrev pub front : List ℕ → List ℕ → List ℕ
front link command = sum_of (link ++ command) ++ 32 ∷ []

-- the line of a command
abbrev pub seal : List ℕ → List ℕ → List ℕ
seal link command = front link command ++ command

-- what a line tells the next one: its sum
abbrev pub link_of : List ℕ → List ℕ
link_of line = take 16 line

-- the line begins with what stands before the command behind its first 17 bytes
abbrev pub is_sealed : List ℕ → List ℕ → Bool
is_sealed link line = starts_with nat_eq line (front link (drop 17 line))

-- each of the lines is sealed with what the one before it tells, and the first with this link
abbrev pub are_sealed : List ℕ → List (List ℕ) → Bool
are_sealed link [] = true
are_sealed link (line ∷ lines) = if is_sealed link line then are_sealed (link_of line) lines else false

-- what the last of the lines tells; this link, if there are none
abbrev pub last_link : List ℕ → List (List ℕ) → List ℕ
last_link link [] = link
last_link link (line ∷ lines) = last_link (link_of line) lines

-- the lines of commands
abbrev pub chain : List ℕ → List (List ℕ) → List (List ℕ)
chain link [] = []
chain link (command ∷ commands) = seal link command ∷ chain (link_of (seal link command)) commands
