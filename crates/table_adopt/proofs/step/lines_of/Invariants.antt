use Rattle.std.proofs.Common.{◌≡◌, ◌++◌, drop, map}
use Rattle.table_adopt.specs.Steps.{line_of, bytes_of}
use Rattle.table_adopt.proofs.step.lines_of.Given as goal

abbrev pub invariant-loop-step : goal.invariant-loop-step
invariant-loop-step l = bytes_of l.lines.items ++ map (line_of l.catalogue) (drop l.step-index l.steps) ≡ map (line_of l.catalogue) l.steps
