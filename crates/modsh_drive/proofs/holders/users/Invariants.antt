use Rattle.std.proofs.Common.{◌≡◌, filter, take}
use Rattle.dep_index.specs.Table.{needs_slot}
use Rattle.modsh_drive.proofs.holders.users.Given as goal

abbrev pub invariant-loop-place : goal.invariant-loop-place
invariant-loop-place g l =
    l.found.items ≡ filter (needs_slot (g.M.Modules.catalogue l.table) l.slot) (take l.place (g.M.Modules.table l.table).book.order)
