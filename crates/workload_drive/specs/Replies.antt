-- How the lines of a script are numbered in replies.
use Rattle.std.specs.Prelude.{ℕ}
use Rattle.workload_drive.specs.declared.script.replies.Numbering.{Numbering}
use Rattle.workload_drive.specs.declared.script.replies.Numbering.TheVariants.{OfWorker, OfInput}

-- by its place, or by its number in the input
abbrev pub line_number : Numbering → ℕ → ℕ → ℕ
line_number OfWorker place line = place
line_number OfInput place line = line
