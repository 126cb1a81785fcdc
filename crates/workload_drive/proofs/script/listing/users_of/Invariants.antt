use Rattle.std.proofs.Common.{◌<◌, length, All}
use Rattle.workload_drive.proofs.script.listing.users_of.Given as goal

abbrev pub invariant-loop-user : goal.invariant-loop-user
invariant-loop-user l = All (λ user. user < length l.catalogue) l.users.items
