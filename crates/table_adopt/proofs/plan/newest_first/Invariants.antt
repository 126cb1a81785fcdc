use Rattle.std.proofs.Common.{◌≡◌, ◌<◌, take, All, length}
use Rattle.table_adopt.proofs.plan.newest_first.Given as goal

abbrev pub invariant-loop-place : goal.invariant-loop-place
invariant-loop-place g l =
    record {
      order : l.found.items ≡ take l.place (g.M.Modules.table l.table).book.order;
      slots : All (λ slot. slot < length (g.M.Modules.catalogue l.table)) l.found.items;
    }
