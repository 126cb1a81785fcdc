use Rattle.kmod_query.specs.Probes.{step_limit}
use Rattle.kmod_query.specs.Removal.{run_removal}
use Rattle.kmod_query.specs.Removals.{removals_of}
use Rattle.kmod_query.specs.World.{facts_of}
use Rattle.kmod_query.proofs.RemovalLemmas.{Answers}
use Rattle.kmod_query.proofs.removal.finish.Given as goal

abbrev pub invariant-tasks : goal.invariant-tasks
invariant-tasks l =
    Answers (facts_of l.asked.world) l.asked.query l._step l.course.way (removals_of l.course.stack.items) l.answer
    (run_removal (facts_of l.asked.world) l.asked.query step_limit l.fn.course.way (removals_of l.fn.course.stack.items))
