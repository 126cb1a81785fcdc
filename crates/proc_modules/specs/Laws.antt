-- What holds of writing and reading lines.
use Rattle.std.specs.Prelude.{◌≡◌, ◌≤◌, ℕ, true, List, ◌++◌, length, Ok}
use Rattle.std.specs.List.{list_all}
use Rattle.proc_modules.specs.declared.line.Line.{Line}
use Rattle.proc_modules.specs.LineText.{line_text}
use Rattle.proc_modules.specs.Reading.{is_line_name, line_of}

-- the names and numbers of a line are in range
pub record IsLine (l : Line) : Type 0 where
  pub name : is_line_name l.name ≡ true
  pub users : list_all is_line_name l.users ≡ true
  pub size : l.size ≤ 4294967295
  pub count : l.count ≤ 4294967295

-- the text of a line, read again, is that line and its length, whatever follows its line end
abbrev pub ReadsBack : Type 0
ReadsBack = (l : Line) (behind : List ℕ) → IsLine l → line_of (line_text l ++ behind) ≡ Ok (l, length (line_text l))
