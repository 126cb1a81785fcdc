use Rattle.std.proofs.Common.{◌≡◌, length}
use Rattle.kmod_query.specs.Objects.{objects_of}
use Rattle.kmod_query.specs.Whole.{whole_objects}
use Rattle.kmod_query.specs.Wholes.{course_of}
use Rattle.kmod_query.specs.World.{facts_of}
use Rattle.kmod_query.proofs.whole_names.remove_objects.Given as goal

abbrev pub invariant-objects : goal.invariant-objects
invariant-objects l =
    whole_objects (facts_of l.asked.world) l.holders l.asked.query (course_of l.course) (objects_of l.rest)
    ≡ whole_objects (facts_of l.asked.world) l.holders l.asked.query (course_of l.fn.course) (objects_of l.fn.objects)

abbrev pub decreases-objects : goal.decreases-objects
decreases-objects l = length l.rest
