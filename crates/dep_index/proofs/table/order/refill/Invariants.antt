use Rattle.std.proofs.Common.{◌≡◌, not, eqb, length, take}
use Rattle.std.specs.List.{filter}
use Rattle.std.specs.Vec.{vec_capacity}
use Rattle.dep_index.specs.Table.Ordered.{slots_in, IsSound}
use Rattle.dep_index.proofs.table.order.refill.Given as goal

-- the slots up to the index are there
abbrev pub invariant-loop-entry : goal.invariant-loop-entry
invariant-loop-entry l = record {
  sound : IsSound l.entries.items l.places.items l.counts.items;
  after : l.entries.items ≡ filter (λ s. not (eqb s l.without)) (slots_in (take l.entry-index l.from));
  capacity : vec_capacity l.entries ≡ vec_capacity l.initial.entries;
  places : length l.places.items ≡ length l.initial.places.items;
  counts : length l.counts.items ≡ length l.initial.counts.items;
}
