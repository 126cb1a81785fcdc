use Rattle.std.proofs.Common.{◌≡◌, length}
use Rattle.kmod_query.specs.Answers.{nothing}
use Rattle.kmod_query.specs.Objects.{objects_of}
use Rattle.kmod_query.specs.Removal.{remove_objects}
use Rattle.kmod_query.specs.World.{facts_of}
use Rattle.kmod_query.proofs.removed_names.remove_objects.Given as goal

abbrev pub invariant-objects : goal.invariant-objects
invariant-objects l = remove_objects (facts_of l.asked.world) l.asked.query l.answer (objects_of l.rest) ≡ remove_objects (facts_of l.asked.world) l.asked.query nothing (objects_of l.fn.objects)

abbrev pub decreases-objects : goal.decreases-objects
decreases-objects l = length l.rest
