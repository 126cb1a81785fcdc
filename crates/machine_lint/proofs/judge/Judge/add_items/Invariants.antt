use Rattle.std.proofs.Common.{◌≡◌, ◌++◌, take}
use Rattle.std.specs.List.{filter_map}
use Rattle.machine_lint.specs.Notes.{facts_by, item_note}
use Rattle.machine_lint.proofs.judge.Judge.add_items.Given as goal

abbrev pub invariant-loop-item : goal.invariant-loop-item
invariant-loop-item l =
    l.notes.items ≡ l.initial.notes.items ++ filter_map (item_note (facts_by l.self) l.origin l.line) (take l.item-index l.items)
