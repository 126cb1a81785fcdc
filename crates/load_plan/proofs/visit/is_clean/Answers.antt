use Rattle.std.proofs.Common.{◌∙◌, arith, sym}
use Rattle.load_plan.specs.declared.walk.Mark.TheVariants.{New}
use Rattle.load_plan.specs.Learnt.{Knows}
use Rattle.load_plan.proofs.Clean.{clean-late, mark_with}
use Rattle.load_plan.proofs.Lessons.{barred_walk, clean-known, meeting_walk, unclean}
use Rattle.load_plan.proofs.visit.is_clean.Goals as goal

pub returns-in-Open-clause-clean : goal.returns-in-Open-clause-clean
returns-in-Open-clause-clean c progress done marked kept known =
    sym (clean-late c.args.graph.now c.args.marks.now progress done c.args.slot marked c.requires.marks c.in-Open.is kept c.requires.slot)

pub returns-in-Free-clause-clean : goal.returns-in-Free-clause-clean
returns-in-Free-clause-clean c progress done marked kept known =
    let new = mark_with c.args.marks.now c.args.slot New (omega (arith, c.requires.slot, c.requires.marks)) ∙ c.in-New.is in
    let after : Knows c.args.graph.now progress done c.learn_from.new.learnt = c.in_ok-learn_from-in-New.ensures.known progress done marked kept known in
    let told = rw c.in-Free.is at (c.told.ensures c.args.graph.now (sym c.requires.marks) progress done marked kept after) in
    sym (clean-known c.args.graph.now c.args.marks.now progress done c.learn_from.new.learnt.verdicts.items c.learn_from.new.learnt.order.items c.args.slot marked kept new c.requires.slot told after)

pub returns-in-Meets-clause-clean : goal.returns-in-Meets-clause-clean
returns-in-Meets-clause-clean c progress done marked kept known =
    let after : Knows c.args.graph.now progress done c.learn_from.new.learnt = c.in_ok-learn_from-in-New.ensures.known progress done marked kept known in
    let told = rw c.in-Meets.is at (c.told.ensures c.args.graph.now (sym c.requires.marks) progress done marked kept after) in
    sym (unclean c.args.graph.now progress done c.args.slot (meeting_walk c.args.graph.now progress c.args.slot _ kept.bounded c.requires.slot told.0 told.1))

pub returns-in-Faulty-clause-clean : goal.returns-in-Faulty-clause-clean
returns-in-Faulty-clause-clean c progress done marked kept known =
    let after : Knows c.args.graph.now progress done c.learn_from.new.learnt = c.in_ok-learn_from-in-New.ensures.known progress done marked kept known in
    let told = rw c.in-Faulty.is at (c.told.ensures c.args.graph.now (sym c.requires.marks) progress done marked kept after) in
    sym (unclean c.args.graph.now progress done c.args.slot (barred_walk c.args.graph.now progress c.args.slot kept.bounded c.requires.slot told))
