-- Texts that are no report, but what one is made of.
use Rattle.std.specs.Prelude.{ℕ, if◌then◌else◌, List, [], ◌∷◌, codes, Option, Some, None}
use Rattle.std.specs.Str.{bytes_eq}
use Rattle.std.specs.Str.Lines.{lines}
use Rattle.timeline_drive.specs.declared.other_input.OtherInput.{OtherInput}
use Rattle.timeline_drive.specs.declared.other_input.OtherInput.TheVariants.{Schedule, Script}

-- the input that a section line begins
abbrev pub begun_by : List ℕ → Option OtherInput
begun_by line =
    if bytes_eq line (codes "%schedule") then Some Schedule
    else (if bytes_eq line (codes "%script") then Some Script else None)

abbrev pub this_or : Option OtherInput → Option OtherInput → Option OtherInput
this_or (Some other) later = Some other
this_or None later = later

-- the input that the first of these lines begins which begins one
abbrev pub first_begun : List (List ℕ) → Option OtherInput
first_begun [] = None
first_begun (line ∷ later) = this_or (begun_by line) (first_begun later)

-- the input of workload that a text is; a report is none
abbrev pub other_input : List ℕ → Option OtherInput
other_input text = first_begun (lines text)
