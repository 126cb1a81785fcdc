use Rattle.std.proofs.Common.{◌≡◌, drop}
use Rattle.std.specs.List.{list_any}
use Rattle.machine_lint.specs.Notes.{facts_by, is_answered}
use Rattle.machine_lint.proofs.judge.Judge.is_one_answered.Given as goal

abbrev pub invariant-loop-item : goal.invariant-loop-item
invariant-loop-item l =
    list_any (is_answered (facts_by l.self)) l.items ≡ list_any (is_answered (facts_by l.self)) (drop l.item-index l.items)
