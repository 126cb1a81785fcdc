use Rattle.std.proofs.Common.{take}
use Rattle.dep_index.specs.Slots.{rows_in, AreKept, AreNotedFor}
use Rattle.dep_index.proofs.table.slots.note_needs.Given as goal

-- the user is noted for the needs up to the index
abbrev pub invariant-loop-need : goal.invariant-loop-need
invariant-loop-need l = record {
  kept : AreKept (rows_in l.initial.rows.items) (rows_in l.rows.items);
  noted : AreNotedFor (take l.need-index l.needs) (rows_in l.rows.items) l.user;
}
