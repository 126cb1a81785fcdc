use Rattle.std.proofs.Common.{◌≡◌, length}
use Rattle.std.specs.List.{list_all}
use Rattle.kmod_query.specs.Early.{stands_alone}
use Rattle.kmod_query.specs.Objects.{objects_of}
use Rattle.kmod_query.specs.World.{facts_of}
use Rattle.kmod_query.proofs.early.stand_alone.Given as goal

-- those before decide nothing
abbrev pub invariant-objects : goal.invariant-objects
invariant-objects l = list_all (stands_alone (facts_of l.world)) (objects_of l.objects) ≡ list_all (stands_alone (facts_of l.world)) (objects_of l.rest)

abbrev pub decreases-objects : goal.decreases-objects
decreases-objects l = length l.rest
