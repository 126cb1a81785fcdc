-- Lines, words, names and numbers of a text.
use Rattle.std.specs.Prelude.{ℕ, ◌+◌, ◌*◌, ◌-◌, nat_lt, nat_le, Bool, if◌then◌else◌, ◌&&◌, ◌||◌, ◌==◌, List, [], ◌∷◌, map, filter, length, slice_index, Option, Some, None}
use Rattle.std.specs.Borrow.{Bor}
use Rattle.std.specs.List.{list_all, slice_split}
use Rattle.std.specs.Str.Lines.{strip_carriage_return}

-- a line, and the bytes that end it: `\n`, `\r\n`, or none at the end of the text
pub record Line : Type 0 where
  pub text : List ℕ
  pub ending : List ℕ

-- the line that a part before a line feed is
abbrev pub ended : List ℕ → Line
ended part =
    record {
      text = strip_carriage_return part;
      ending = if slice_index part (length part - 1) == 13 then 13 ∷ 10 ∷ [] else 10 ∷ [];
    }

-- the lines of the parts between line feeds; an empty last part is no line
abbrev pub cut_parts : List (List ℕ) → List Line
cut_parts [] = []
cut_parts (part ∷ []) = if length part == 0 then [] else record { text = part; ending = [] } ∷ []
cut_parts (part ∷ next ∷ more) = ended part ∷ cut_parts (next ∷ more)

-- the lines of a text, each with its end as it stands; their texts are `lines` of std
abbrev pub cut_lines : List ℕ → List Line
cut_lines text = cut_parts (slice_split (λ byte. byte == 10) text)

-- spaces and tabs divide words
abbrev pub is_blank : ℕ → Bool
is_blank byte = byte == 32 || byte == 9

-- a part that is not empty
abbrev pub is_filled : List ℕ → Bool
is_filled part = nat_lt 0 (length part)

-- the words of a line: the parts between blanks that are not empty
abbrev pub words : List ℕ → List (List ℕ)
words line = filter is_filled (slice_split is_blank line)

-- the line has a word
abbrev pub has_word : List ℕ → Bool
has_word line = nat_lt 0 (length (words line))

-- what a list of references points to
abbrev pub texts_of : List (Bor (List ℕ)) → List (List ℕ)
texts_of found = map (λ text. text.now) found

-- a line whose first byte is `#`
abbrev pub is_comment : List ℕ → Bool
is_comment line = slice_index line 0 == 35

-- `_` for `-`, and every other byte as it is
abbrev pub normal_byte : ℕ → ℕ
normal_byte byte = if byte == 45 then 95 else byte

-- the normal form of a name has `_` for each `-`
abbrev pub normal_form : List ℕ → List ℕ
normal_form name = map normal_byte name

-- a decimal digit
abbrev pub is_digit : ℕ → Bool
is_digit byte = nat_le 48 byte && nat_le byte 57

-- a letter of ASCII
abbrev pub is_letter : ℕ → Bool
is_letter byte = nat_le 97 byte && nat_le byte 122 || nat_le 65 byte && nat_le byte 90

-- a letter, a digit, `_` or `-`
abbrev pub is_name_byte : ℕ → Bool
is_name_byte byte = is_letter byte || is_digit byte || byte == 95 || byte == 45

-- a name of a module or of a parameter: 1 to 55 letters, digits, `_` and `-`
abbrev pub is_name : List ℕ → Bool
is_name word = nat_le 1 (length word) && nat_le (length word) 55 && list_all is_name_byte word

-- the value of decimal digits, behind what came before them
abbrev pub digits_from : ℕ → List ℕ → ℕ
digits_from high [] = high
digits_from high (digit ∷ digits) = digits_from (high * 10 + (digit - 48)) digits

-- 1 to 10 decimal digits
abbrev pub is_number : List ℕ → Bool
is_number word = nat_le 1 (length word) && nat_le (length word) 10 && list_all is_digit word

-- the number that 1 to 10 decimal digits are, if it is at most the limit
abbrev pub number_within : ℕ → List ℕ → Option ℕ
number_within limit word =
    if is_number word && nat_le (digits_from 0 word) limit then Some (digits_from 0 word) else None
