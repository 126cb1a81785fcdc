use Rattle.std.proofs.Common.{◌≡◌, drop}
use Rattle.table_adopt.specs.Plans.{is_needed}
use Rattle.table_adopt.proofs.plan.is_needed.Given as goal

abbrev pub invariant-loop-user : goal.invariant-loop-user
invariant-loop-user l = is_needed l.catalogue (drop l.user-index l.users) l.gone l.slot ≡ is_needed l.catalogue l.users l.gone l.slot
