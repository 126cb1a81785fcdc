use Rattle.std.proofs.Common.{◌≡◌, filter, nat_lt}
use Rattle.std.specs.List.{range_with_len}
use Rattle.dep_index.specs.Table.{count_of}
use Rattle.modsh_drive.proofs.holders.holders.Given as goal

abbrev pub invariant-loop-worker : goal.invariant-loop-worker
invariant-loop-worker g l =
    l.found.items ≡ filter (λ worker. nat_lt 0 (count_of (g.M.Modules.table l.table) worker l.slot)) (range_with_len 0 l.worker)
