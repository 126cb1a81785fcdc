use Rattle.kmod_query.specs.Probes.{step_limit}
use Rattle.kmod_query.specs.Whole.{all_done}
use Rattle.kmod_query.specs.Wholes.{course_of}
use Rattle.kmod_query.specs.World.{facts_of}
use Rattle.kmod_query.proofs.WholeLemmas.{IsLeft}
use Rattle.kmod_query.proofs.whole_steps.perform_all.Given as goal

abbrev pub invariant-tasks : goal.invariant-tasks
invariant-tasks l =
    IsLeft (facts_of l.asked.world) l.holders l.asked.query l._step (course_of l.course)
    (all_done (facts_of l.asked.world) l.holders l.asked.query step_limit (course_of l.fn.course))
