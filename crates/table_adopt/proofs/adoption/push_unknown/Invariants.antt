use Rattle.std.proofs.Common.{◌≡◌, ◌++◌, drop, flat_map}
use Rattle.table_adopt.specs.Reports.{unknown_line}
use Rattle.table_adopt.proofs.adoption.push_unknown.Given as goal

abbrev pub invariant-loop-entry : goal.invariant-loop-entry
invariant-loop-entry l =
    l.text.items ++ flat_map (unknown_line l.catalogue) (drop l.entry-index l.kernel) ≡ l.initial.text.items ++ flat_map (unknown_line l.catalogue) l.kernel
