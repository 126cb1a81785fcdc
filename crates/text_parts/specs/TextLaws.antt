-- What holds of the lines of every text.
use Rattle.std.specs.Prelude.{◌≡◌, ℕ, List, map}
use Rattle.std.specs.Str.Lines.{lines}
use Rattle.text_parts.specs.Text.{cut_lines}

-- the lines with their ends have the texts of std's lines
abbrev pub LinesHaveTexts : Type 0
LinesHaveTexts = (text : List ℕ) → map (λ line. line.text) (cut_lines text) ≡ lines text
