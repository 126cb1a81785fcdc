-- A report: a line for each call, by the calls' numbers.
use Rattle.std.specs.Prelude.{◌≡◌, ℕ, ◌+◌, ◌==◌, if◌then◌else◌, List, [], ◌∷◌, map, position, is_none, Option, Some, None}
use Rattle.std.specs.List.{slice_split}
use Rattle.std.specs.Option.{option_map}
use Rattle.std.specs.Str.Lines.{lines}
use Rattle.timeline_drive.specs.declared.entries.Entry as entry_type
use Rattle.timeline_drive.specs.declared.reports.ReportFault.{ReportFault}
use Rattle.timeline_drive.specs.declared.reports.ReportFault.TheVariants.{Line, Memory}
use Rattle.timeline_drive.specs.Entries.{Entry, entry_of, entry_in}

abbrev pub numbered : ℕ → Option Entry → Option Entry
numbered n None = None
numbered n (Some e) = if e.number == n then Some e else None

-- the call that a line is, if it has this number
abbrev pub line_at : ℕ → List ℕ → Option Entry
line_at n line = numbered n (entry_of (slice_split (λ byte. byte == 32) line))

-- what each line is, of which the first is to have the number n
abbrev pub lines_from : ℕ → List (List ℕ) → List (Option Entry)
lines_from n [] = []
lines_from n (line ∷ later) = line_at n line ∷ lines_from (n + 1) later

-- every line of the text is a call, and these are they, in order
abbrev pub IsReport : List ℕ → List Entry → Type 0
IsReport text entries = lines_from 0 (lines text) ≡ map Some entries

abbrev pub entries_in : List entry_type.Entry → List Entry
entries_in entries = map entry_in entries

-- the first line that is no call at its place, by its number from 1
abbrev pub first_fault : List ℕ → Option ℕ
first_fault text = option_map (λ before. before + 1) (position is_none (lines_from 0 (lines text)))

-- a line is refused if it is the first that is none; out of memory says nothing of the text
abbrev pub Refuses : List ℕ → ReportFault → Type 0
Refuses text (Line line) = first_fault text ≡ Some line
Refuses text Memory = Unit {0}
