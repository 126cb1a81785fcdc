use Rattle.std.proofs.Common.{◌<◌, ◌∙◌, sym, subst, ◌++◌, length, arith}
use Rattle.load_plan.specs.declared.walk.Mark.TheVariants.{New}
use Rattle.load_plan.specs.ForProofs.{AreMarks}
use Rattle.load_plan.proofs.Clean.{clean-passes, clean-stops, clean-late, mark_with}
use Rattle.load_plan.proofs.visit.walks_clean.Goals as goal

pub returns-in-Open-clause-clean : goal.returns-in-Open-clause-clean
returns-in-Open-clause-clean c progress done marked kept =
    sym (clean-late c.args.graph.now c.args.marks.now progress done c.args.slot marked c.requires.marks c.in-Open.is kept c.requires.slot)

pub returns-in-Ok-clause-clean : goal.returns-in-Ok-clause-clean
returns-in-Ok-clause-clean c progress done marked kept =
    let same : AreMarks (length c.args.graph.now) c.in_ok-marks-in-New.marks.items progress done = subst (λ l. AreMarks (length c.args.graph.now) l progress done) (sym c.in_ok-marks-in-New.ensures.items) marked in
    let inside : c.args.slot < length c.args.marks.now = omega (arith, c.requires.slot, c.requires.marks) in
    sym (clean-passes c.args.graph.now c.args.marks.now progress done c.args.slot (done ++ c.in-Ok.field-0.order.items) marked (mark_with c.args.marks.now c.args.slot New inside ∙ c.in-New.is) kept c.requires.slot (c.in-Ok.ensures.order progress done same))

pub returns-in-Err-Refused-clause-clean : goal.returns-in-Err-Refused-clause-clean
returns-in-Err-Refused-clause-clean c progress done marked kept =
    let same : AreMarks (length c.args.graph.now) c.in_ok-marks-in-New.marks.items progress done = subst (λ l. AreMarks (length c.args.graph.now) l progress done) (sym c.in_ok-marks-in-New.ensures.items) marked in
    let stops = rw c.in-Err-Refused.field-0-is at (c.in-Err-Refused.ensures.order progress done same) in
    sym (clean-stops c.args.graph.now progress done c.args.slot c.in-Err-Refused.field-0-0 kept c.requires.slot stops)
