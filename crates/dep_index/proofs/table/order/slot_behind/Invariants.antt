use Rattle.std.proofs.Common.{◌≡◌, ◌<◌, length, drop}
use Rattle.std.specs.Prelude.{slice_index}
use Rattle.dep_index.specs.Table.Ordered.{slots_in}
use Rattle.dep_index.proofs.table.order.slot_behind.Given as goal

-- from the index on, the slot has so many before it
abbrev pub invariant-loop-entry : goal.invariant-loop-entry
invariant-loop-entry l = record {
  within : l.left < length (slots_in (drop l.entry-index l.entries));
  slot : slice_index (slots_in (drop l.entry-index l.entries)) l.left ≡ slice_index (slots_in l.entries) l.older;
}
