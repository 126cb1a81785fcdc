-- A text with a last line that says how long the text is, and its sum: a text that was cut is not taken for a whole one.
use Rattle.std.specs.Prelude.{◌≡◌, ℕ, List, ◌++◌, length, codes, decimal, Some}
use Rattle.text_parts.specs.Text.{number_within}
use Rattle.table_setup.specs.Sums.{adler32}

-- the last line: the length of the text before it, and a word that is the sum
abbrev pub last_line : ℕ → List ℕ → List ℕ
last_line long word = codes "%end " ++ decimal long ++ codes " " ++ word ++ codes "\n"

-- the name of a setup: how long its text is and its sum, as its last line has them, with a colon between them
abbrev pub name_of : List ℕ → ℕ → List ℕ
name_of text sum = decimal (length text) ++ codes ":" ++ decimal sum

-- the text with its last line
abbrev pub sealed : List ℕ → List ℕ
sealed text = text ++ last_line (length text) (decimal (adler32 text))

-- the bytes are the text and a last line that has its length; whether the sum is that of the text is another question
pub record IsSealed (bytes text : List ℕ) (sum : ℕ) : Type 0 where
  pub word : List ℕ
  pub number : number_within 4294967295 word ≡ Some sum
  pub whole : bytes ≡ text ++ last_line (length text) word
