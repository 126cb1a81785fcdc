use Rattle.load_plan.proofs.visit.next_move.Goals as goal

pub returns-in-None-clause-moves : goal.returns-in-None-clause-moves
returns-in-None-clause-moves c = c.after.ensures.moves c.args.graph.now c.args.marks.now c.in-None.ensures.first

pub returns-in-None-clause-taken : goal.returns-in-None-clause-taken
returns-in-None-clause-taken c progress done marked kept known unmet = c.after.ensures.taken c.args.graph.now progress done
