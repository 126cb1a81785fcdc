-- Which lines an input brings.
use Rattle.std.specs.Prelude.{◌≡◌, ℕ, ◌+◌, ◌-◌, ◌^◌, min, nat_lt, Bool, ◌==◌, ◌||◌, if◌then◌else◌, List, [], ◌∷◌, ◌++◌, length, codes, filter, Option, Some, None, ⊤}
use Rattle.std.specs.List.{onto_first}
use Rattle.std.specs.Io.KnownBytes.{prepend_known}
use Rattle.held_lines.specs.Reading.{is_reading}
use Rattle.table_folder.specs.declared.input.InputLines.{InputLines}

-- the lines of a text, without their line feeds: each line feed ends a line, and so does the end of the text, unless that line is empty
abbrev pub lines_of : List ℕ → List (List ℕ)
lines_of [] = []
lines_of (byte ∷ text) = if byte == 10 then [] ∷ lines_of text else onto_first byte (lines_of text)

-- a line of more than 65,535 bytes
abbrev pub is_too_long : List ℕ → Bool
is_too_long line = nat_lt 65535 (length line)

-- a line as it is brought: `too-long` stands in the place of one that is too long
abbrev pub brought : List ℕ → List ℕ
brought line = if is_too_long line then codes "too-long" else line

-- The same of a last line that no line feed ends. It may be half of one: `unended` stands in its place, unless it only asks.
abbrev pub brought_unended : List ℕ → List ℕ
brought_unended line = if is_too_long line || is_reading line then brought line else codes "unended"

-- what the end of a text brings, if this is begun of a line: nothing, if nothing is
abbrev pub brought_last : List ℕ → List (List ℕ)
brought_last [] = []
brought_last (byte ∷ line) = brought_unended (byte ∷ line) ∷ []

-- what a text brings, if this is begun of a line in front of it: each of its lines, in order
abbrev pub brought_behind : List ℕ → List ℕ → List (List ℕ)
brought_behind begun [] = brought_last begun
brought_behind begun (byte ∷ text) = if byte == 10 then brought begun ∷ brought_behind [] text else brought_behind (begun ++ byte ∷ []) text

abbrev pub brought_lines : List ℕ → List (List ℕ)
brought_lines text = brought_behind [] text

-- how many lines of a text are too long
abbrev pub too_long_in : List ℕ → ℕ
too_long_in text = length (filter is_too_long (lines_of text))

-- the text that is to come, if the input tells it: what was read of a line, as far as it counts, and what the input has left
abbrev pub text_left : {I : Type 0} → (I → Option (List ℕ)) → InputLines I → Option (List ℕ)
text_left remaining s = prepend_known s.begun.items (remaining s.input.now)

-- both read one input, which is lent to them
abbrev pub SameInput : {I : Type 0} → InputLines I → InputLines I → Type 0
SameInput old new = new.input.ghost_name ≡ old.input.ghost_name

-- the fact holds of the text before and the text after, if they are told
abbrev pub IfTold : Option (List ℕ) → Option (List ℕ) → (List ℕ → List ℕ → Type 0) → Type 0
IfTold None new P = ⊤
IfTold (Some old) None P = ⊥
IfTold (Some old) (Some new) P = P old new

-- the lines so far, and behind them those that are to come: they are the same before and after
abbrev pub GoesOn : List (List ℕ) → List (List ℕ) → List ℕ → List ℕ → Type 0
GoesOn before after old new = before ++ brought_lines old ≡ after ++ brought_lines new

-- the lines that were to come are these, and behind them those that are to come now: none is left out, and none comes twice
abbrev pub BringsLines : Option (List ℕ) → Option (List ℕ) → List (List ℕ) → Type 0
BringsLines old new lines = IfTold old new (GoesOn [] lines)

-- a number, as far as 64 bits count
abbrev pub counted : ℕ → ℕ
counted n = min n (2 ^ 64 - 1)

-- how many lines were too long so far, and how many of those that are to come are: together they are the same before and after
abbrev pub Counts : ℕ → ℕ → List ℕ → List ℕ → Type 0
Counts before after old new = counted (before + too_long_in old) ≡ counted (after + too_long_in new)

-- the same, if the texts are told
abbrev pub CountsTooLong : Option (List ℕ) → Option (List ℕ) → ℕ → ℕ → Type 0
CountsTooLong old new before after = IfTold old new (Counts before after)
