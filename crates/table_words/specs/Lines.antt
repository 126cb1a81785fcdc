-- The line of a command that words of a program are.
use Rattle.std.specs.Prelude.{ℕ, Bool, not, ◌&&◌, ◌||◌, ◌==◌, List, [], ◌∷◌, ◌++◌}
use Rattle.std.specs.List.{flat_map, list_any}
use Rattle.text_parts.specs.Text.{is_blank, is_filled}

-- a space, a tab, a line feed or a carriage return
abbrev pub divides : ℕ → Bool
divides byte = is_blank byte || (byte == 10 || byte == 13)

-- a word that stays one word of one line: it is not empty, and has none of these
abbrev pub is_line_word : List ℕ → Bool
is_line_word word = is_filled word && not (list_any divides word)

abbrev pub next_word : List ℕ → List ℕ
next_word word = 32 ∷ word

-- the words with a space between each two
abbrev pub line_of : List (List ℕ) → List ℕ
line_of [] = []
line_of (word ∷ words) = word ++ flat_map next_word words
