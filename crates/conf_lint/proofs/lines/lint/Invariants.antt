use Rattle.std.proofs.Common.{◌≡◌, ◌++◌, length}
use Rattle.conf_lint.specs.Notes.{notes_from, notes_of}
use Rattle.conf_lint.proofs.lines.lint.Given as goal

abbrev pub invariant-lines : goal.invariant-lines
invariant-lines l = l.found.notes.items ++ notes_from l.known l.found.softdeps.keys l.lines ≡ notes_of l.known l.fn.text

abbrev pub decreases-lines : goal.decreases-lines
decreases-lines l = length l.lines
