-- The first line of a text that is there as a whole.
use Rattle.std.specs.Prelude.{◌≡◌, ℕ, ◌<◌, List, ◌∷◌, ◌++◌, length}
use Rattle.text_parts.specs.Text.{Line, cut_lines}
use Rattle.modprobe.specs.Lines.{HasNoFeed}
use Rattle.modprobe.specs.declared.whole.FirstLine.{FirstLine}

-- the text is these two parts with its first line feed between them
pub record IsCutAtFeed (text part rest : List ℕ) : Type 0 where
  pub whole : text ≡ part ++ 10 ∷ rest
  pub none : HasNoFeed part

-- the line with its end
abbrev pub line_in : FirstLine → Line
line_in first = record { text = first.line.now; ending = first.ending.now }

-- the lines of the text are this one and those of what follows it
pub record IsFirstLine (text : List ℕ) (first : FirstLine) : Type 0 where
  pub lines : cut_lines text ≡ line_in first ∷ cut_lines first.rest.now
  pub shorter : length first.rest.now < length text
