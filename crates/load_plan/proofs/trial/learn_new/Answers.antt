use Rattle.std.proofs.Common.{◌<◌, arith, length, sym, ◌∙◌}
use Rattle.load_plan.specs.declared.learnt.Verdict.TheVariants.{Begun, Faulty}
use Rattle.load_plan.proofs.Bounds.{lt-true}
use Rattle.load_plan.proofs.Lessons.{Learnt-set, barred_missing, barred_stopped, barred_target, barred_way, stands_on}
use Rattle.load_plan.proofs.trial.learn_new.Goals as goal

pub returns-then-installs-clause-known : goal.returns-then-installs-clause-known
returns-then-installs-clause-known c progress done marked kept known =
    Learnt-set c.args.graph.now progress done c.args.learnt.now.verdicts.items c.args.learnt.now.order.items c.args.frame.slot Faulty (omega (arith, c.requires.slot, c.requires.long)) (c.requires.new progress done marked kept known).0
    (barred_stopped c.args.graph.now c.args.frame.slot (sym c.installs.ensures ∙ c.if-installs.true)) known

pub returns-then-is_on_way-clause-known : goal.returns-then-is_on_way-clause-known
returns-then-is_on_way-clause-known c progress done marked kept known =
    let leads = rw c.in-Some-Slot-default.field-0-0-is at c.in-Some-Slot-default.ensures.hard in
    Learnt-set c.args.graph.now progress done c.args.learnt.now.verdicts.items c.args.learnt.now.order.items c.args.frame.slot Faulty (omega (arith, c.requires.slot, c.requires.long)) (c.requires.new progress done marked kept known).0
    (barred_way c.args.graph.now c.args.way.now c.args.frame.slot leads.0 c.in-Some-Slot-default.slot _ leads.1 c.requires.way (c.is_on_way.ensures c.if-is_on_way.true)) known

pub returns-in-Some-Missing-default-clause-known : goal.returns-in-Some-Missing-default-clause-known
returns-in-Some-Missing-default-clause-known c progress done marked kept known =
    let leads = rw c.in-Some-Missing-default.field-0-0-is at c.in-Some-Missing-default.ensures.hard in
    Learnt-set c.args.graph.now progress done c.args.learnt.now.verdicts.items c.args.learnt.now.order.items c.args.frame.slot Faulty (omega (arith, c.requires.slot, c.requires.long)) (c.requires.new progress done marked kept known).0
    (barred_missing c.args.graph.now c.args.frame.slot leads.0 _ _ leads.1) known

pub returns-in-Faulty-clause-known : goal.returns-in-Faulty-clause-known
returns-in-Faulty-clause-known c progress done marked kept known =
    let leads = rw c.in-Some-Slot-default.field-0-0-is at c.in-Some-Slot-default.ensures.hard in
    let barred = rw c.in-Faulty.is at (c.told.ensures c.args.graph.now (sym c.requires.marks) progress done marked kept known) in
    Learnt-set c.args.graph.now progress done c.args.learnt.now.verdicts.items c.args.learnt.now.order.items c.args.frame.slot Faulty (omega (arith, c.requires.slot, c.requires.long)) (c.requires.new progress done marked kept known).0
    (barred_target c.args.graph.now c.args.frame.slot leads.0 c.in-Some-Slot-default.slot _ leads.1 barred) known

pub returns-else-is_on_way-clause-known : goal.returns-else-is_on_way-clause-known
returns-else-is_on_way-clause-known c progress done marked kept known =
    Learnt-set c.args.graph.now progress done c.args.learnt.now.verdicts.items c.args.learnt.now.order.items c.args.frame.slot (Begun (length c.args.way.now)) (omega (arith, c.requires.slot, c.requires.long)) (c.requires.new progress done marked kept known).0 tt known

pub returns-else-is_on_way-clause-lesson : goal.returns-else-is_on_way-clause-lesson
returns-else-is_on_way-clause-lesson c =
    let leads = rw c.in-Some-Slot-default.field-0-0-is at c.in-Some-Slot-default.ensures.hard in
    let within : c.in-Some-Slot-default.slot < length c.args.graph.now = lt-true c.in-Some-Slot-default.slot (length c.args.graph.now) (rw c.in-Some-Slot-default.field-0-0-is at c.in-Some-Slot-default.ensures.within) in
    (within, stands_on c.args.graph.now c.args.frame.slot leads.0 c.in-Some-Slot-default.slot _ leads.1)
