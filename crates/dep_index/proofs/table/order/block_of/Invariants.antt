use Rattle.std.proofs.Common.{◌≡◌, ◌*◌, ◌-◌, ◌<◌, length, drop}
use Rattle.std.specs.Prelude.{slice_index}
use Rattle.dep_index.specs.Table.Ordered.{slots_in}
use Rattle.dep_index.proofs.table.order.block_of.Given as goal

-- from this block on, the slot has so many before it
abbrev pub invariant-loop-block : goal.invariant-loop-block
invariant-loop-block l = record {
  within : l.older < length (slots_in (drop (l.block * 256) l.entries));
  slot : slice_index (slots_in (drop (l.block * 256) l.entries)) l.older ≡ slice_index (slots_in l.entries) l.age;
}

abbrev pub decreases-loop-block : goal.decreases-loop-block
decreases-loop-block l = length l.counts - l.block
