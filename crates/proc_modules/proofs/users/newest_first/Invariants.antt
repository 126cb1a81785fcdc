use Rattle.std.proofs.Common.{◌≡◌, ◌<◌, take, All, length}
use Rattle.proc_modules.specs.Listings.{newest_first}
use Rattle.proc_modules.proofs.users.newest_first.Given as goal

abbrev pub invariant-loop-age : goal.invariant-loop-age
invariant-loop-age g l =
    record {
      order : l.found.items ≡ take l.age (newest_first (g.M.Modules.table l.table));
      slots : All (λ slot. slot < length (g.M.Modules.catalogue l.table)) l.found.items;
      len : length l.found.items ≡ l.age;
    }
