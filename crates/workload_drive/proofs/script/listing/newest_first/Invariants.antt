use Rattle.std.proofs.Common.{◌<◌, length, All}
use Rattle.workload_drive.proofs.script.listing.newest_first.Given as goal

abbrev pub invariant-loop-age : goal.invariant-loop-age
invariant-loop-age g l = All (λ slot. slot < length l.catalogue) l.found.items
