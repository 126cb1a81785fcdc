use Rattle.std.proofs.Common.{◌≡◌, ◌++◌, length, map, Some}
use Rattle.std.specs.Str.Lines.{lines}
use Rattle.timeline_drive.specs.Reports.{lines_from, entries_in}
use Rattle.timeline_drive.proofs.reports.read_report.Given as goal

-- the calls so far and the lines that are left are the text
abbrev pub invariant-loop-line : goal.invariant-loop-line
invariant-loop-line l =
    map Some (entries_in l.entries.items) ++ lines_from (length l.entries.items) l.lines ≡ lines_from 0 (lines l.fn.text)

abbrev pub decreases-loop-line : goal.decreases-loop-line
decreases-loop-line l = length l.lines
