use Rattle.std.proofs.Common.{◌≡◌, take}
use Rattle.std.specs.List.{flat_map}
use Rattle.machine_lint.specs.Notes.{facts_by, line_notes}
use Rattle.machine_lint.proofs.judge.Judge.notes.Given as goal

abbrev pub invariant-loop-line : goal.invariant-loop-line
invariant-loop-line l =
    l.notes.items ≡ flat_map (line_notes l.known.files.now (facts_by l.self)) (take l.line-index l.lines)
