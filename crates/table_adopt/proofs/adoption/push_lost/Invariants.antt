use Rattle.std.proofs.Common.{◌≡◌, ◌++◌, drop, flat_map}
use Rattle.table_adopt.specs.Reports.{lost_line}
use Rattle.table_adopt.proofs.adoption.push_lost.Given as goal

abbrev pub invariant-loop-slot : goal.invariant-loop-slot
invariant-loop-slot l =
    l.text.items ++ flat_map (lost_line l.catalogue) (drop l.slot-index l.lost) ≡ l.initial.text.items ++ flat_map (lost_line l.catalogue) l.lost
