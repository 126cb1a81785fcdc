-- The parts of an input: the text of its catalogue, and the lines after it that say something, by their words.
use Rattle.std.specs.Prelude.{ℕ, ◌+◌, ◌||◌, ◌==◌, Bool, if◌then◌else◌, List, [], ◌∷◌, ◌++◌}
use Rattle.std.specs.Prelude.{length, drop, slice_index, codes, Option, Some, None, Result, Ok, Err}
use Rattle.std.specs.Str.{bytes_eq}
use Rattle.text_parts.specs.Text.{Line, cut_lines, words, is_comment, number_within}
use Rattle.dep_index.specs.Catalogue.{Description, Refusal, catalogue_of}
use Rattle.workload_drive.specs.declared.fault.LineFault.{LineFault}
use Rattle.workload_drive.specs.Faults.{◌>>=◌, fault_at, bad_line, code_of}

-- a line of an input, with its number
pub record Numbered : Type 0 where
  pub number : ℕ
  pub text : List ℕ
  pub ending : List ℕ

abbrev pub with_number : ℕ → Line → Numbered
with_number n line = record { number = n; text = line.text; ending = line.ending }

-- the lines, of which the first has the number n
abbrev pub numbered : ℕ → List Line → List Numbered
numbered n [] = []
numbered n (line ∷ lines) = with_number n line ∷ numbered (n + 1) lines

-- a line without a word, or whose first byte is `#`
abbrev pub is_ignored : List ℕ → Bool
is_ignored text = is_comment text || length (words text) == 0

-- the lines after `%catalogue`, before which ignored lines alone may stand; an input that ends before it lacks the line end
abbrev pub behind_head : ℕ → List Numbered → Result (List Numbered) LineFault
behind_head end [] = Err (bad_line end)
behind_head end (line ∷ lines) =
    if bytes_eq line.text (codes "%catalogue") then Ok lines
    else (if is_ignored line.text then behind_head end lines else Err (bad_line line.number))

-- the text before a section line, each line with its end as it stands
abbrev pub text_before : List ℕ → List Numbered → List ℕ
text_before section [] = []
text_before section (line ∷ lines) =
    if bytes_eq line.text section then [] else line.text ++ line.ending ++ text_before section lines

-- the lines after a section line
abbrev pub lines_behind : List ℕ → List Numbered → List Numbered
lines_behind section [] = []
lines_behind section (line ∷ lines) = if bytes_eq line.text section then lines else lines_behind section lines

-- a line that says something: its number and its words
pub record Statement : Type 0 where
  pub number : ℕ
  pub words : List (List ℕ)

abbrev pub said_by : Numbered → Statement
said_by line = record { number = line.number; words = words line.text }

abbrev pub statements : List Numbered → List Statement
statements [] = []
statements (line ∷ lines) = if is_ignored line.text then statements lines else said_by line ∷ statements lines

-- an input: its catalogue, what it says after it, and the number of the line after its last
pub record Parts : Type 0 where
  pub catalogue : List Description
  pub statements : List Statement
  pub end : ℕ

abbrev pub with_catalogue : List Statement → ℕ → Result (List Description) (Refusal × ℕ) → Result Parts LineFault
with_catalogue said end (Err e) = Err (fault_at (code_of e.0) e.1)
with_catalogue said end (Ok modules) = Ok (record { catalogue = modules; statements = said; end = end })

abbrev pub parts_behind : List ℕ → ℕ → List Numbered → Result Parts LineFault
parts_behind section end lines =
    with_catalogue (statements (lines_behind section lines)) end (catalogue_of (text_before section lines))

abbrev pub parts_among : List ℕ → ℕ → List Numbered → Result Parts LineFault
parts_among section end lines = behind_head end lines >>= parts_behind section end

-- the parts of an input whose second section begins with this line: `%catalogue`, a catalogue, that line, and statements.
-- The lines of a fault in the catalogue count in its text, all others in the whole input
unfoldable pub parts_of : List ℕ → List ℕ → Result Parts LineFault
parts_of section input = parts_among section (length (cut_lines input) + 1) (numbered 1 (cut_lines input))

-- a number from 1 on
abbrev pub from_one : Option ℕ → Option ℕ
from_one None = None
from_one (Some n) = if n == 0 then None else Some n

-- the largest number of 10 digits
abbrev pub largest : ℕ
largest = 9999999999

-- the number of a word that is a mark, as `t`, and 1 to 10 digits
abbrev pub marked : ℕ → List ℕ → Option ℕ
marked mark word = if slice_index word 0 == mark then number_within largest (drop 1 word) else None

-- the number of words `WORD N`, from 1 to 64
abbrev pub setting_in : List ℕ → List (List ℕ) → Option ℕ
setting_in word (first ∷ number ∷ []) = if bytes_eq first word then from_one (number_within 64 number) else None
setting_in word _ = None

abbrev pub setting_at : ℕ → List Statement → Option ℕ → Result (ℕ × List Statement) LineFault
setting_at line later None = Err (bad_line line)
setting_at line later (Some n) = Ok (n, later)

-- the number of the first statement, and the later ones
abbrev pub setting : List ℕ → ℕ → List Statement → Result (ℕ × List Statement) LineFault
setting word end [] = Err (bad_line end)
setting word end (said ∷ later) = setting_at said.number later (setting_in word said.words)
