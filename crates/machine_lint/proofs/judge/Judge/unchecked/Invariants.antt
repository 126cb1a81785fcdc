use Rattle.std.proofs.Common.{◌≡◌, take}
use Rattle.std.specs.List.{filter_map}
use Rattle.machine_lint.specs.Notes.{facts_by}
use Rattle.machine_lint.specs.Unchecked.{unchecked_place}
use Rattle.machine_lint.proofs.judge.Judge.unchecked.Given as goal

abbrev pub invariant-loop-line : goal.invariant-loop-line
invariant-loop-line l =
    l.places.items ≡ filter_map (unchecked_place l.known.files.now (facts_by l.self)) (take l.line-index l.lines)
